-- The bits of records: one table, which reading and writing share.
use Rattle.std.specs.Prelude.{ℕ, ◌+◌, ◌-◌, ◌*◌, ◌/◌, ◌%◌, ◌^◌, ◌&&◌, Bool, true, false, List, [], ◌∷◌, map, nat_lt, slice_index}
use Rattle.tn_keys.specs.declared.record.RouteRec.{RouteRec}
use Rattle.tn_keys.specs.declared.record.RouteRec.TheVariants.{Urm1, Urm2, Rr, Mrm, Ind}
use Rattle.tn_keys.specs.declared.record.Tag.{Tag}
use Rattle.tn_keys.specs.declared.record.Tag.TheVariants as tag

-- the number of a record's tag, which stands in bits 0 to 2
abbrev pub tag_number : Tag → ℕ
tag_number tag.Urm1 = 0
tag_number tag.Urm2 = 1
tag_number tag.Rr = 2
tag_number tag.Mrm = 3
tag_number tag.Ind = 4

-- how many chunks of 48 bits a record has
abbrev pub chunks : Tag → ℕ
chunks tag.Urm1 = 1
chunks tag.Urm2 = 2
chunks tag.Rr = 1
chunks tag.Mrm = 2
chunks tag.Ind = 1

-- a field of a record, from its lowest bit to its highest
pub record Field : Type 0 where
  pub lowest : ℕ
  pub highest : ℕ

abbrev pub bits : ℕ → ℕ → Field
bits lowest highest = record { lowest = lowest; highest = highest }

-- the fields behind the tag
abbrev pub fields : Tag → List Field
fields tag.Urm1 = bits 3 6 ∷ bits 7 12 ∷ bits 13 44 ∷ []
fields tag.Urm2 = bits 3 6 ∷ bits 7 12 ∷ bits 13 76 ∷ []
fields tag.Rr = bits 3 4 ∷ bits 5 36 ∷ []
fields tag.Mrm = bits 3 6 ∷ bits 7 22 ∷ bits 23 86 ∷ []
fields tag.Ind = bits 3 34 ∷ []

-- the first bit behind fields that begin at a bit
abbrev pub behind : ℕ → List Field → ℕ
behind bit [] = bit
behind bit (f ∷ fs) = behind (f.highest + 1) fs

-- the first bit behind a record's fields: from there on all bits of its chunks are zero
abbrev pub end_of : Tag → ℕ
end_of t = behind 3 (fields t)

abbrev pub tag_of : RouteRec → Tag
tag_of (Urm1 tile thread key) = tag.Urm1
tag_of (Urm2 tile thread key) = tag.Urm2
tag_of (Rr dir key) = tag.Rr
tag_of (Mrm tile key mask) = tag.Mrm
tag_of (Ind key) = tag.Ind

-- the values of a record's fields
abbrev pub values : RouteRec → List ℕ
values (Urm1 tile thread key) = tile ∷ thread ∷ key ∷ []
values (Urm2 tile thread key) = tile ∷ thread ∷ key ∷ []
values (Rr dir key) = dir ∷ key ∷ []
values (Mrm tile key mask) = tile ∷ key ∷ mask ∷ []
values (Ind key) = key ∷ []

-- the record of a tag with these values
abbrev pub record_with : Tag → List ℕ → RouteRec
record_with tag.Urm1 vs = Urm1 (slice_index vs 0) (slice_index vs 1) (slice_index vs 2)
record_with tag.Urm2 vs = Urm2 (slice_index vs 0) (slice_index vs 1) (slice_index vs 2)
record_with tag.Rr vs = Rr (slice_index vs 0) (slice_index vs 1)
record_with tag.Mrm vs = Mrm (slice_index vs 0) (slice_index vs 1) (slice_index vs 2)
record_with tag.Ind vs = Ind (slice_index vs 0)

-- how many values a field has
abbrev pub size : Field → ℕ
size f = 2 ^ (f.highest + 1 - f.lowest)

-- each value fits its field
abbrev pub all_fit : List Field → List ℕ → Bool
all_fit [] vs = true
all_fit (f ∷ fs) [] = false
all_fit (f ∷ fs) (v ∷ vs) = nat_lt v (size f) && all_fit fs vs

abbrev pub fits : RouteRec → Bool
fits r = all_fit (fields (tag_of r)) (values r)

-- the values at their places
abbrev pub placed : List Field → List ℕ → ℕ
placed [] vs = 0
placed (f ∷ fs) [] = 0
placed (f ∷ fs) (v ∷ vs) = v * 2 ^ f.lowest + placed fs vs

-- the number of a record, of 48 or 96 bits
abbrev pub word_of : RouteRec → ℕ
word_of r = tag_number (tag_of r) + placed (fields (tag_of r)) (values r)

-- the value of a field in a number
abbrev pub field_in : ℕ → Field → ℕ
field_in w f = w / 2 ^ f.lowest % size f

-- the record of a tag whose fields stand in a number
abbrev pub record_in : Tag → ℕ → RouteRec
record_in t w = record_with t (map (field_in w) (fields t))

abbrev pub is_ind : Tag → Bool
is_ind tag.Urm1 = false
is_ind tag.Urm2 = false
is_ind tag.Rr = false
is_ind tag.Mrm = false
is_ind tag.Ind = true

abbrev pub is_urm2 : Tag → Bool
is_urm2 tag.Urm1 = false
is_urm2 tag.Urm2 = true
is_urm2 tag.Rr = false
is_urm2 tag.Mrm = false
is_urm2 tag.Ind = false
