-- What is known of each place of a machine.
use Rattle.std.proofs.Common.{◌≡◌, ◌∙◌, ℕ, ◌+◌, ◌++◌, [], ◌∷◌, None, Some, arith, length, get_or, is_some, sym, nat_lt, Bor, IfSome, MatchOption}
use Rattle.std.specs.declared.option.Option.{Option}
use Rattle.std.proofs.lemmas.Bool.{ltb-false, ltb-true}
use Rattle.std.proofs.lemmas.List.{get_or_past}
use Rattle.std.proofs.lemmas.List.FromFn.{get_or-map-range_with_len, length-map-range_with_len, map-range_with_len_more}
use Rattle.tn_base.specs.declared.part.Kind.TheVariants.{Detector}
use Rattle.tn_base.specs.declared.shape.ShapeNumbers.{ShapeNumbers}
use Rattle.tn_base.specs.Parts.{kind_of, part_count, parts}
use Rattle.tn_part.specs.declared.site.Site.{Site}
use Rattle.tn_part.specs.Sites.{site_of, sites, sites_to}

pub sites_more : (n : ShapeNumbers) (k : ℕ) → sites_to n (k + 1) ≡ sites_to n k ++ site_of n k ∷ []
sites_more n k = map-range_with_len_more (site_of n) 0 k k (omega arith)

long : (n : ShapeNumbers) → length (sites n) ≡ part_count n
long n = length-map-range_with_len (site_of n) 0 (part_count n)

-- what a look at a place tells
pub found : (n : ShapeNumbers) (p : ℕ) (known : Option (Bor Site)) → is_some known ≡ nat_lt p (length (sites n)) → IfSome known (λ s. s.now ≡ get_or (sites n) p s.now) →
    MatchOption known (kind_of n p ≡ Detector) (λ s. s.now ≡ site_of n p)
found n p None there read = get_or_past (parts n) p Detector (omega (arith, ltb-false _ _ (sym there), long n))
found n p (Some s) there read = read ∙ get_or-map-range_with_len (site_of n) 0 (part_count n) p p s.now (omega (arith, ltb-true _ _ (sym there), long n)) (omega arith)
