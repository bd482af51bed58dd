-- What stands at each place of a machine, and how a link there joins its neighbours.
use Rattle.std.specs.Prelude.{ℕ, ◌≡◌, List, map}
use Rattle.std.specs.List.{range_with_len}
use Rattle.tn_base.specs.declared.shape.ShapeNumbers.{ShapeNumbers}
use Rattle.tn_base.specs.Parts.{kind_of, part_count}
use Rattle.tn_rows.specs.Places.{link_side, link_way}
use Rattle.tn_part.specs.declared.site.Site.{Site}

abbrev pub site_of : ShapeNumbers → ℕ → Site
site_of n p = record { kind = kind_of n p; way = link_way n p; side = link_side n p }

-- those of the first so many places
abbrev pub sites_to : ShapeNumbers → ℕ → List Site
sites_to n count = map (site_of n) (range_with_len 0 count)

abbrev pub sites : ShapeNumbers → List Site
sites n = sites_to n (part_count n)

-- what is kept of the places of a shape: how many parts there are, and what stands at each place
pub record AreKnown (n : ShapeNumbers) (count : ℕ) (known : List Site) : Type 0 where
  pub counted : count ≡ part_count n
  pub all : known ≡ sites n
