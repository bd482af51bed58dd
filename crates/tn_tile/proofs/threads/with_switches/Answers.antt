use Rattle.std.proofs.Common.{◌≡◌, ◌≤◌, ◌<◌, ◌+◌, ◌++◌, ◌∷◌, [], ◌∙◌, List, Some, ap, arith, length, length-append, length-set, set, slice_index_or, sym, rules}
use Rattle.std.proofs.lemmas.List.{get_or_default}
use Rattle.tn_thread.specs.declared.thread.Thread.{Thread}
use Rattle.polite_switch.specs.SwitchModel.{SwitchModel}
use Rattle.tn_tile.specs.Kept.{with_switches}
use Rattle.tn_tile.specs.Step.{no_thread}
use Rattle.tn_tile.proofs.Fresh.{switch_last}
use Rattle.tn_tile.proofs.threads.with_switches.Goals as goal

pub loop-switch-preserved : goal.loop-switch-preserved
loop-switch-preserved c =
    let before : List Thread = c.loop-switch.threads.items in
    let s : SwitchModel = c.in-Some.switch in
    let rest : List SwitchModel = c.pop.new.self.items in
    let last : c.loop-switch.switches.items ≡ rest ++ s ∷ [] = c.in-Some.ensures.items in
    let place : c.len.result ≡ length rest = search rules in
    let count : length (rest ++ s ∷ []) ≡ length rest + 1 = length-append rest (s ∷ []) in
    let few : length rest + 1 ≤ length before = rw (last, count) at c.loop-switch.invariant.few in
    let less : length rest < length before = omega arith in
    let was : c.index_mut.result.now ≡ slice_index_or before (length rest) no_thread = (rw place at c.index_mut.ensures.value) ∙ get_or_default before (length rest) _ no_thread less in
    let given : c.give_switch.new.self ≡ record (slice_index_or before (length rest) no_thread) { switch = Some s } = c.give_switch.ensures ∙ ap (λ (t : Thread). record t { switch = Some s }) was in
    let long : length (set before (length rest) c.give_switch.new.self) ≡ length before = length-set before (length rest) c.give_switch.new.self in
    rw place (record {
      few = omega arith;
      same = ap (λ (t : Thread). with_switches (set before (length rest) t) rest) given ∙ sym (switch_last before rest s less)
          ∙ ap (λ (ss : List SwitchModel). with_switches before ss) (sym last) ∙ c.loop-switch.invariant.same;
    })
