-- The pages of a stock.
use Rattle.std.proofs.Common.{ℕ, ◌≤◌, ◌≡◌, List, length, replicate, take, ◌∙◌, ap, arith}
use Rattle.std.proofs.lemmas.List.{length-take-le, take-replicate}
use Rattle.tn_pages.specs.Pages.{StockFits}

pub fit_take : (n : ℕ) (pages : List (List ℕ)) → n ≤ length pages → StockFits pages → StockFits (take n pages)
fit_take n pages h fit =
    let l : length (take n pages) ≡ n = length-take-le n pages h in
    let few = fit.few in
    let z : take n pages ≡ replicate n (replicate 256 0) = ap (take n) fit.zeros ∙ take-replicate n (length pages) (replicate 256 0) h in
    record {
      few = omega arith;
      zeros = rw l z;
    }
