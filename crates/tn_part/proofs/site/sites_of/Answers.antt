use Rattle.std.proofs.Common.{◌≡◌, ◌∙◌, ◌++◌, ◌∷◌, [], ap, arith, sym}
use Rattle.tn_base.specs.Parts.{part_count}
use Rattle.tn_part.specs.Sites.{sites_to}
use Rattle.tn_part.proofs.Sites.{sites_more}
use Rattle.tn_part.proofs.site.sites_of.Goals as goal

pub loop-p-preserved : goal.loop-p-preserved
loop-p-preserved c =
    let n = c.args.shape.now in
    c.in_ok-push.ensures.items ∙ ap (λ all. all ++ c.site_of.result ∷ []) c.loop-p.invariant ∙ ap (λ s. sites_to n c.loop-p.p ++ s ∷ []) c.site_of.ensures ∙ sym (sites_more n c.loop-p.p)

pub returns : goal.returns
returns c =
    let all : c.loop-p.p ≡ part_count c.args.shape.now = omega (arith, c.loop-p-test.false, c.part_count-count.ensures, c.loop-p.auto) in
    c.loop-p.invariant ∙ ap (sites_to c.args.shape.now) all
