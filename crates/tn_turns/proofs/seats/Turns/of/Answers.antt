use Rattle.std.proofs.Common.{rules, ◌≡◌, sym, subst, length, map, replicate, Some, List}
use Rattle.atomic_table.specs.Table.{opening}
use Rattle.tn_turns.specs.Rule.{Holds, opened}
use Rattle.tn_turns.proofs.ByIndex.{same_somes}
use Rattle.tn_turns.proofs.Kept.{starts}
use Rattle.tn_turns.proofs.seats.Turns.of.Goals as goal

pub new-requires : goal.new-requires
new-requires g c = let firsts : List g.row.T.Denot = c.args.items.items in
    let blank : c.as_slice.result.now ≡ replicate (length firsts) 0 = search rules in
    let key : c.of-about.result.value.items ≡ firsts = search rules in let slots : c.fill.new.slots.items ≡ map (λ x. Some x) firsts = search rules in
    subst (λ (p : List g.row.T.Denot × List _). Holds g.T.Item.start g.T.Item.journal p.0 (opening c.as_slice.result.now p.1 (opened p.0))) (λ t. (sym key t, sym slots t))
    (starts g.T.Item.start g.T.Item.journal firsts c.as_slice.result.now blank c.requires.paired)

pub returns-clause-err : goal.returns-clause-err
returns-clause-err g c = same_somes c.empty.new.items.items c.args.items.items (search rules)
