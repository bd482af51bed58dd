use Rattle.std.proofs.Common.{rules, ◌≡◌, ◌++◌, ◌∷◌, [], List, length}
use Rattle.tn_crew.proofs.Laying.{Laying, end_laid, laid_more, next_fits, start_laid}
use Rattle.tn_crew.proofs.crew.laid_all.Goals as goal
use Rattle.tn_rows.specs.PartView.{PartView}

pub loop-part-init : goal.loop-part-init
loop-part-init c = start_laid _ _ _ _ (search rules) (search rules)

pub laid-requires : goal.laid-requires
laid-requires c =
    let rest : List PartView = c.pop.new.self.items in
    let laying : Laying c.args.shape c.args.parts.items c.loop-part.all.items (rest ++ c.in-Some.part ∷ []) = rw c.in-Some.ensures.items at c.loop-part.invariant in
    let long : c.len-in-Some.result ≡ length c.loop-part.all.items = search rules in
    rw long (next_fits c.args.shape c.args.parts.items c.loop-part.all.items rest c.in-Some.part c.requires.world laying)

pub loop-part-preserved : goal.loop-part-preserved
loop-part-preserved c =
    let rest : List PartView = c.pop.new.self.items in
    let laying : Laying c.args.shape c.args.parts.items c.loop-part.all.items (rest ++ c.in-Some.part ∷ []) = rw c.in-Some.ensures.items at c.loop-part.invariant in
    let long : c.len-in-Some.result ≡ length c.loop-part.all.items = search rules in
    rw c.in_ok-push.ensures.items (laid_more c.args.shape c.args.parts.items c.loop-part.all.items rest c.in-Some.part _ laying (rw long at c.in_ok-laid.ensures))

pub returns : goal.returns
returns c = end_laid c.args.shape c.args.parts.items c.loop-part.all.items c.loop-part.parts.items (search rules) c.loop-part.invariant
