use Rattle.std.proofs.Common.{◌≡◌, ◌∙◌, IfOk, length, ap}
use Rattle.std.specs.declared.result.Result.{Result}
use Rattle.std.specs.declared.result.Result.TheVariants.{Ok, Err}
use Rattle.std.specs.Vec.Iter.{into_iter_items, into_iter_len}
use Rattle.std.specs.Vec.{vec_len}
use Rattle.std.proofs.lemmas.Iterator.Adapters.{YieldsList-from_skip, YieldsList-from_vec, fact_from_collect}
use Rattle.tinsel.proofs.words_of.Goals as goal

first_of_two : {V E : Type 0} (P Q : V → Type 0) (r : Result V E) → IfOk r (λ v. P v × Q v) → IfOk r P
first_of_two P Q (Ok v) h = h.0
first_of_two P Q (Err e) h = tt

-- the iterator is one over the arguments without their first
pub returns : goal.returns
returns c =
    let all = YieldsList-from_vec (into_iter_items c.args.args) (ap into_iter_items c.skip.ensures.source) (ap into_iter_len c.skip.ensures.source ∙ c.args.args.rest.ok.0) in
    let road = YieldsList-from_skip 1 all c.skip.ensures.count in
    first_of_two _ _ c.collect.result (fact_from_collect (λ xs w. (w.items ≡ xs) × (vec_len w ≡ length xs)) c.collect.result c.collect.ensures.ran road)
