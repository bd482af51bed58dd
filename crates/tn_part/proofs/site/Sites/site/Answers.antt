use Rattle.std.proofs.Common.{◌≡◌, ◌∙◌, ap, get_or, is_some, length, nat_lt, subst, Bor, IfSome, List}
use Rattle.tn_part.specs.declared.site.Site.{Site}
use Rattle.tn_part.specs.Sites.{sites}
use Rattle.tn_part.proofs.Sites.{found}
use Rattle.tn_part.proofs.site.Sites.site.Goals as goal

pub returns : goal.returns
returns c =
    let all : c.deref.result.now ≡ sites c.args.self.now = c.deref.ensures.value ∙ c.self.invariant.all ∙ ap sites c.self.view_is in
    let looked = c.get.ensures.lookup in
    found c.args.self.now c.args.p.0 c.get.result
    (subst (λ (xs : List Site). is_some c.get.result ≡ nat_lt c.args.p.0 (length xs)) all looked.0)
    (subst (λ (xs : List Site). IfSome c.get.result (λ (s : Bor Site). s.now ≡ get_or xs c.args.p.0 s.now)) all looked.1)
