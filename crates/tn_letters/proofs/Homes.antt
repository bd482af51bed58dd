-- Packets with keys on a tile come from its board.
use Rattle.std.proofs.Common.{ℕ, ◌<◌, ◌≡◌, List, length, get_or, set, sym, ◌∙◌, ap, subst, inl, inr, arith, Option, None, MatchOption}
use Rattle.std.proofs.lemmas.Bool.{cases_eq}
use Rattle.std.proofs.lemmas.List.{get_or-set_same, get_or-set_other}
use Rattle.tn_base.specs.declared.ids.Board.{Board}
use Rattle.tn_base.specs.declared.message.Packet.{Packet}
use Rattle.tn_base.specs.declared.port.Port.{Port}
use Rattle.tn_base.specs.Address.{tile_of}
use Rattle.tn_base.specs.Ports.{board_x, board_y}
use Rattle.tn_node.specs.declared.node.Node.{Node}
use Rattle.tn_node.specs.declared.ports.Ports.{Ports}
use Rattle.tn_node.specs.PortRows.{with_at}
use Rattle.tn_node.proofs.PortLaws.{each_set}
use Rattle.tn_tile.specs.declared.state.TileState.{TileState}
use Rattle.tn_tile.specs.TileView.{TileView}
use Rattle.tn_letters.specs.Letters.{board_of}
use Rattle.tn_letters.proofs.Lift.{HomeTile, Homed}

-- a packet that is there, or none
abbrev pub AtHome : Board → Option Packet → Type 0
AtHome b o = MatchOption o (Unit {0}) (Homed b)

pub home_same : (v : TileView) (new : TileState) → new.pending ≡ v.now.pending → new.node ≡ v.now.node → HomeTile (board_of v.plan.tile) v.now.pending v.now.node.out → HomeTile (board_of v.plan.tile) new.pending new.node.out
home_same v new p q h =
    subst (λ x. HomeTile (board_of v.plan.tile) x new.node.out) (sym p) (subst (λ (x : Node). HomeTile (board_of v.plan.tile) v.now.pending x.out) (sym q) h)

pub home_sent : (b : Board) (pending : List (Option Packet)) (transit : Ports Packet) (k : ℕ) (o : Option Packet) → k < length pending → AtHome b o → HomeTile b pending transit → HomeTile b (set pending k o) transit
home_sent b pending transit k o within fits h = record {
  sent = λ j. elim (cases_eq j k) [
    | inl e ↦ subst (AtHome b) (sym (ap (λ i. get_or (set pending k o) i None) e ∙ get_or-set_same pending k o None within)) fits
    | inr ne ↦ subst (AtHome b) (sym (get_or-set_other pending k j o None ne)) (h.sent j)
  ];
  goes_on = h.goes_on;
}

pub home_way : (b : Board) (pending : List (Option Packet)) (transit : Ports Packet) (way : Port) (o : Option Packet) → AtHome b o → HomeTile b pending transit → HomeTile b pending (with_at way o transit)
home_way b pending transit way o fits h = record { sent = h.sent; goes_on = λ p. each_set (λ q. AtHome b) way p o transit fits h.goes_on }

-- the board of a thread is that of its tile
pub tile_board : (a : ℕ) → board_of (tile_of a) ≡ board_of a
tile_board a =
    let x : board_x (tile_of a) ≡ board_x a = omega arith in
    let y : board_y (tile_of a) ≡ board_y a = omega arith in
    λ i. record { x = x i; y = y i }
