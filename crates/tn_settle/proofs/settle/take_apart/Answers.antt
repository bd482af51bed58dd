use Rattle.std.proofs.Common.{◌∙◌, ◌∷◌, [], ap, map}
use Rattle.std.proofs.lemmas.Iterator.Adapters.{YieldsList-from_vec}
use Rattle.std.proofs.lemmas.Iterator.Consumers.{YieldsList-end, YieldsList-turn}
use Rattle.std.proofs.lemmas.List.{map-append}
use Rattle.tn_settle.proofs.Taking.{journals_are, presents_are, starts_are, taken_all, taken_more}
use Rattle.tn_settle.proofs.settle.take_apart.Goals as goal

pub loop-part-preserved : goal.loop-part-preserved
loop-part-preserved g c =
    let xs = c.args.parts.items in
    let gives = c.into_iter-part-iterator.ensures.into_iter_gives in
    let runs = YieldsList-from_vec {s = c.into_iter-part-iterator.result} xs gives.0 (gives.1 ∙ c.args.parts.ok.0) in
    let turn = YieldsList-turn runs c.loop-part.yielded c.loop-part.part-iterator c.loop-part.yielded_by c.next.result c.next.new.self c.in-Some.part c.in-Some.is c.next.ensures.steps in
    let stamped = c.into_stamped.ensures in
    let pieces = c.into_pieces-start.ensures in
    record {
      starts = taken_more (λ p. p.stamped.start) xs c.loop-part.yielded c.loop-part.starts.items c.push.new.self.items c.in-Some.part c.into_pieces-start.result.start
          c.loop-part.invariant.starts turn (pieces.start ∙ ap (λ s. s.start) stamped) c.in_ok-push.ensures.items;
      journals = taken_more (λ p. p.stamped.entries) xs c.loop-part.yielded (map (λ j. j.entries) c.loop-part.journals.items) (map (λ j. j.entries) c.push-in-loop-part.new.self.items) c.in-Some.part c.into_pieces-start.result.journal.entries
          c.loop-part.invariant.journals turn (pieces.journal ∙ ap (λ s. s.entries) stamped)
          (ap (map (λ j. j.entries)) c.in_ok-push-2.ensures.items ∙ map-append (λ j. j.entries) c.loop-part.journals.items (c.into_pieces-start.result.journal ∷ []));
      presents = taken_more (λ p. p.stamped.present) xs c.loop-part.yielded c.loop-part.presents.items c.push-in-loop-part-2.new.self.items c.in-Some.part c.into_pieces-start.result.present
          c.loop-part.invariant.presents turn (pieces.present ∙ ap (λ s. s.present) stamped) c.in_ok-push-3.ensures.items;
    }

pub returns-clause-starts : goal.returns-clause-starts
returns-clause-starts g c =
    let xs = c.args.parts.items in
    let gives = c.into_iter-part-iterator.ensures.into_iter_gives in
    let runs = YieldsList-from_vec {s = c.into_iter-part-iterator.result} xs gives.0 (gives.1 ∙ c.args.parts.ok.0) in
    let all = YieldsList-end runs c.loop-part.yielded c.loop-part.part-iterator c.loop-part.yielded_by c.next.result c.next.new.self c.in-None.is c.next.ensures.steps in
    taken_all (λ p. p.stamped.start) xs c.loop-part.yielded c.loop-part.starts.items c.loop-part.invariant.starts all.1 ∙ starts_are xs

pub returns-clause-journals : goal.returns-clause-journals
returns-clause-journals g c =
    let xs = c.args.parts.items in
    let gives = c.into_iter-part-iterator.ensures.into_iter_gives in
    let runs = YieldsList-from_vec {s = c.into_iter-part-iterator.result} xs gives.0 (gives.1 ∙ c.args.parts.ok.0) in
    let all = YieldsList-end runs c.loop-part.yielded c.loop-part.part-iterator c.loop-part.yielded_by c.next.result c.next.new.self c.in-None.is c.next.ensures.steps in
    taken_all (λ p. p.stamped.entries) xs c.loop-part.yielded (map (λ j. j.entries) c.loop-part.journals.items) c.loop-part.invariant.journals all.1 ∙ journals_are xs

pub returns-clause-presents : goal.returns-clause-presents
returns-clause-presents g c =
    let xs = c.args.parts.items in
    let gives = c.into_iter-part-iterator.ensures.into_iter_gives in
    let runs = YieldsList-from_vec {s = c.into_iter-part-iterator.result} xs gives.0 (gives.1 ∙ c.args.parts.ok.0) in
    let all = YieldsList-end runs c.loop-part.yielded c.loop-part.part-iterator c.loop-part.yielded_by c.next.result c.next.new.self c.in-None.is c.next.ensures.steps in
    taken_all (λ p. p.stamped.present) xs c.loop-part.yielded c.loop-part.presents.items c.loop-part.invariant.presents all.1 ∙ presents_are xs
