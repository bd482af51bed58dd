-- A host without messages puts no packet on its link.
use Rattle.std.proofs.Common.{ℕ, ◌≡◌, ◌-◌, Bool, true, false, cond, refl, ap, subst, List, [], ◌∷◌, Some, None, Option, option_map}
use Rattle.std.specs.List.{AllByRecursion, slice_get}
use Rattle.std.proofs.lemmas.Option.{get_or_from_slice_get}
use Rattle.tn_base.specs.declared.event.Event.TheVariants as event
use Rattle.tn_base.specs.Parts.{part_count}
use Rattle.tn_host.specs.declared.script.ScriptItem.{ScriptItem}
use Rattle.tn_host.specs.declared.script.ScriptItem.TheVariants as item
use Rattle.tn_host.specs.HostView.{HostState}
use Rattle.tn_host.specs.Script.{first_item, packet_of}
use Rattle.tn_letters.specs.Tiles.{host_in}
use Rattle.tn_rows.specs.Events.{happened, meets_at, with_both, put_by}
use Rattle.tn_rows.specs.PartView.{PartView, TileV, RouterV, LinkV, HostV, DetectorV, AbsentV}
use Rattle.tn_rows.specs.WorldView.{WorldView}
use Rattle.tn_rows.proofs.Meeting.{no_crossing}
use Rattle.tn_stamp.specs.declared.entry.Crossing.TheVariants as crossing
use Rattle.polite_edges.specs.Runs.{IsAwait}
use Rattle.polite_flow.specs.Traffic.{HostSendsNothing}

no_packet : (number : ℕ) (script : List ScriptItem) → AllByRecursion IsAwait script → packet_of number (first_item script) ≡ None
no_packet number [] all = refl
no_packet number (item.Send t bytes ∷ xs) all = absurd all.0
no_packet number (item.AwaitIdle ∷ xs) all = refl

none_offered : (s : HostState) (held : Bool) → AllByRecursion IsAwait s.script → cond held None (packet_of s.sends (first_item s.script)) ≡ None
none_offered s true all = refl
none_offered s false all = no_packet s.sends s.script all

none_put : (x : PartView) → AllByRecursion IsAwait (host_in x).script → put_by x ≡ None
none_put (TileV v) still = refl
none_put (RouterV v) still = refl
none_put (LinkV v) still = refl
none_put (HostV s) still = none_offered s s.node.held still
none_put (DetectorV v) still = refl
none_put AbsentV still = refl

pub puts_nothing : (w : WorldView) → HostSendsNothing w → happened event.HostPut w ≡ None
puts_nothing w still = by (slice_get w.parts 0) (slice_get w.parts (part_count w.shape - 2)) refl where
  by : (low high : Option PartView) → slice_get w.parts 0 ≡ low → option_map (with_both w 0 (part_count w.shape - 2)) (meets_at event.HostPut low high) ≡ None
  by None high is = refl
  by (Some low) None is = refl
  by (Some low) (Some high) is =
      let none = none_put low (subst (λ x. AllByRecursion IsAwait (host_in x).script) (get_or_from_slice_get w.parts 0 low AbsentV is) still) in
      ap (option_map (with_both w 0 (part_count w.shape - 2))) (no_crossing event.HostPut low high (ap (option_map crossing.Packet) none))
