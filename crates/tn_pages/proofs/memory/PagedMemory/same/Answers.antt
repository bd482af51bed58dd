use Rattle.std.proofs.Common.{◌≡◌, ◌∙◌, ap, sym}
use Rattle.std.proofs.lemmas.Bool.{ne_eqb}
use Rattle.tn_pages.specs.Paged.{Paged}
use Rattle.tn_pages.proofs.Same.{same_pages, same_size}
use Rattle.tn_pages.proofs.memory.PagedMemory.same.Goals as goal

pub returns-then-self-other : goal.returns-then-self-other
returns-then-self-other c = (
  λ h. let pages : c.self.inside.pages.items ≡ c.other.inside.pages.items = c.same_pages.ensures.0 h in rw (← c.self.view_is, ← c.other.view_is, pages, c.if-self-other.true),
  λ e.
      let v = c.self.view_is ∙ (e ∙ sym c.other.view_is) in
      c.same_pages.ensures.1 (same_pages c.self.inside.pages.items c.other.inside.pages.items c.self.inside.size c.other.inside.size c.self.invariant c.other.invariant (ap (λ (m : Paged). m.bytes) v) (ap (λ (m : Paged). m.made) v)),
)

pub returns-else-self-other : goal.returns-else-self-other
returns-else-self-other c = (
  λ h. absurd (let f = ne_eqb c.self.inside.size c.other.inside.size c.if-self-other.false in cc),
  λ e.
      let v = c.self.view_is ∙ (e ∙ sym c.other.view_is) in
      let size : c.self.inside.size ≡ c.other.inside.size = same_size c.self.inside.pages.items c.other.inside.pages.items c.self.inside.size c.other.inside.size (ap (λ (m : Paged). m.bytes) v) in
      absurd (c.if-self-other.false size),
)
