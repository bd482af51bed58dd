use Rattle.std.proofs.Common.{◌*◌, ◌≡◌, ap, arith, length, List, ℕ}
use Rattle.rand_core.specs.Steps.{steps_u32, stream_of}
use Rattle.rand_pcg.specs.Pcg.{pcg32}
use Rattle.tn_gen.specs.Drawn.{drawn, generator}
use Rattle.tn_gen.proofs.DrawnLemmas.{length-next_words}
use Rattle.tn_gen.proofs.job.generate.Goals as goal

pub push_edges-requires-clause-few : goal.push_edges-requires-clause-few
push_edges-requires-clause-few c =
    let all : length (drawn c.args.start (4 * c.args.count)) ≡ 4 * c.args.count = length-next_words (4 * c.args.count) (stream_of (steps_u32 pcg32) (generator c.args.start)) in
    let items : length c.as_slice.result.now ≡ length c.in_ok-words.words.items = ap (λ (xs : List ℕ). length xs) c.as_slice.ensures.value in
    let is : length c.in_ok-words.words.items ≡ length (drawn c.args.start (4 * c.args.count)) = ap (λ (xs : List ℕ). length xs) c.in_ok-words.ensures in
    omega (arith, all, items, is, c.requires.few)
