-- Chains of records: each leads to the next.
use Rattle.std.specs.Prelude.{ℕ, ◌≡◌, ◌≤◌, ◌<◌, ◌+◌, false, List, [], ◌∷◌, length, slice_index_or}
use Rattle.std.specs.List.{Contains, list_any}
use Rattle.std.specs.declared.option.Option.TheVariants.{Some}
use Rattle.tn_base.specs.declared.ids.Board.{Board}
use Rattle.tn_base.specs.declared.shape.ShapeNumbers.{ShapeNumbers}
use Rattle.tn_keys.specs.declared.record.RouteRec.{RouteRec}
use Rattle.tn_keys.specs.declared.record.RouteRec.TheVariants.{Urm1, Urm2, Rr, Mrm, Ind}
use Rattle.tn_keys.specs.Copies.{neighbour}
use Rattle.tn_keys.specs.Key.{key_count, key_first}
use Rattle.tn_keys.specs.Tables.{Table, joined, table_of}
use Rattle.tn_reach.specs.declared.kinds.Kind.{Kind}
use Rattle.tn_reach.specs.Kinds.{shows}

-- a record in the table of a board
pub record At : Type 0 where
  pub board : Board
  pub route : RouteRec

-- the record is an RR or an IND
abbrev pub IsOnward : RouteRec → Type 0
IsOnward (Urm1 tile thread key) = ⊥
IsOnward (Urm2 tile thread key) = ⊥
IsOnward (Rr dir key) = Unit {0}
IsOnward (Mrm tile key mask) = ⊥
IsOnward (Ind key) = Unit {0}

-- from board b the record leads to a key at board c: an RR at the neighbour in its direction, an IND at the same board
abbrev pub LeadsTo : ShapeNumbers → Board → RouteRec → Board → ℕ → Type 0
LeadsTo n b (Urm1 tile thread local) c key = ⊥
LeadsTo n b (Urm2 tile thread local) c key = ⊥
LeadsTo n b (Rr dir onward) c key = (neighbour n dir b ≡ Some c) × (onward ≡ key)
LeadsTo n b (Mrm tile local mask) c key = ⊥
LeadsTo n b (Ind onward) c key = (b ≡ c) × (onward ≡ key)

-- the record is in the beat at a place of a table; past the table's end no record is
abbrev pub InBeat : Table → ℕ → RouteRec → Type 0
InBeat table place r = Contains (slice_index_or table place []) r

-- the record is in a beat of the key
pub record InKey (table : Table) (key : ℕ) (r : RouteRec) : Type 0 where
  pub place : ℕ
  pub from : key_first key ≤ place
  pub below : place < key_first key + key_count key
  pub inside : InBeat table place r

-- a record leads to a key, and the next record is in a beat of that key
pub record Follows (n : ShapeNumbers) (tables : List Table) (a next : At) : Type 0 where
  pub key : ℕ
  pub leads : LeadsTo n a.board a.route next.board key
  pub found : InKey (table_of n tables next.board) key next.route

-- each record after the first follows the record before it, and the last record is an RR or an IND. The records before the
-- last are RR or IND too, since no other record leads on
abbrev pub IsChain : ShapeNumbers → List Table → List At → Type 0
IsChain n tables [] = Unit {0}
IsChain n tables (a ∷ []) = IsOnward a.route
IsChain n tables (a ∷ next ∷ others) = Follows n tables a next × IsChain n tables (next ∷ others)

-- the first record of the list is in the table of a board
abbrev pub BeginsAt : ShapeNumbers → List Table → Board → List At → Type 0
BeginsAt n tables b [] = ⊥
BeginsAt n tables b (a ∷ others) = (a.board ≡ b) × ((place : ℕ) × InBeat (table_of n tables b) place a.route)

-- a chain of so many records begins in the table of a board
pub record HasChain (n : ShapeNumbers) (tables : List Table) (b : Board) (count : ℕ) : Type 0 where
  pub chain : List At
  pub long : length chain ≡ count
  pub begins : BeginsAt n tables b chain
  pub linked : IsChain n tables chain

-- no record of a board shows one of the kinds of faults that are tested before Loop
abbrev pub ShowsNone : ShapeNumbers → List Table → Board → Type 0
ShowsNone n tables b = (k : Kind) → list_any (shows k n tables b) (joined (table_of n tables b)) ≡ false
