use Rattle.std.proofs.Common.{◌+◌, ◌/◌, ◌<◌, ◌≤◌, ◌≡◌, ◌∙◌, [], arith, get_or, length, rules}
use Rattle.std.proofs.lemmas.List.{get_or_default}
use Rattle.tn_pages.proofs.Bytes.{length-bytes}
use Rattle.tn_pages.proofs.Made.{flag_at, full_within, page_there, width_some, wrote}
use Rattle.tn_pages.proofs.memory.PagedMemory.write.Goals as goal

pub overflow_sub-self-inside : goal.overflow_sub-self-inside
overflow_sub-self-inside c =
    let h : c.args.at + c.args.width ≤ c.self.inside.size = rw (← c.self.view_is, length-bytes) at c.requires.within in
    omega arith

pub index_mut-page-requires : goal.index_mut-page-requires
index_mut-page-requires c =
    let h : c.args.at + c.args.width ≤ c.self.inside.size = rw (← c.self.view_is, length-bytes) at c.requires.within in
    let some = width_some c.args.width c.requires.width in
    let there : c.args.at / 256 < length c.self.inside.pages.items = page_there c.self.inside.pages.items c.self.inside.size c.args.at c.self.invariant (omega arith) in
    search rules

pub write-requires-clause-within : goal.write-requires-clause-within
write-requires-clause-within c =
    let h : c.args.at + c.args.width ≤ c.self.inside.size = rw (← c.self.view_is, length-bytes) at c.requires.within in
    let some = width_some c.args.width c.requires.width in
    let there : c.args.at / 256 < length c.self.inside.pages.items = page_there c.self.inside.pages.items c.self.inside.size c.args.at c.self.invariant (omega arith) in
    let read : c.index_mut-page.result.now ≡ get_or c.self.inside.pages.items (c.args.at / 256) [] = c.index_mut-page.ensures.value ∙ get_or_default c.self.inside.pages.items (c.args.at / 256) _ _ there in
    rw (c.make.ensures.page, read, c.min-len.ensures) (full_within c.self.inside.pages.items c.self.inside.size c.args.at c.args.width c.self.invariant h c.requires.one_page)

pub invariant_of-self : goal.invariant_of-self
invariant_of-self c =
    let h : c.args.at + c.args.width ≤ c.self.inside.size = rw (← c.self.view_is, length-bytes) at c.requires.within in
    let some = width_some c.args.width c.requires.width in
    let there : c.args.at / 256 < length c.self.inside.pages.items = page_there c.self.inside.pages.items c.self.inside.size c.args.at c.self.invariant (omega arith) in
    let read : c.index_mut-page.result.now ≡ get_or c.self.inside.pages.items (c.args.at / 256) [] = c.index_mut-page.ensures.value ∙ get_or_default c.self.inside.pages.items (c.args.at / 256) _ _ there in
    rw (c.write.ensures, c.make.ensures.page, read, c.min-len.ensures) (wrote c.self.inside.pages.items c.self.inside.size c.args.at c.args.width c.args.value c.requires.width c.self.invariant h c.requires.one_page).fit

pub returns-clause-memory : goal.returns-clause-memory
returns-clause-memory c =
    let h : c.args.at + c.args.width ≤ c.self.inside.size = rw (← c.self.view_is, length-bytes) at c.requires.within in
    let some = width_some c.args.width c.requires.width in
    let there : c.args.at / 256 < length c.self.inside.pages.items = page_there c.self.inside.pages.items c.self.inside.size c.args.at c.self.invariant (omega arith) in
    let read : c.index_mut-page.result.now ≡ get_or c.self.inside.pages.items (c.args.at / 256) [] = c.index_mut-page.ensures.value ∙ get_or_default c.self.inside.pages.items (c.args.at / 256) _ _ there in
    let w = wrote c.self.inside.pages.items c.self.inside.size c.args.at c.args.width c.args.value c.requires.width c.self.invariant h c.requires.one_page in
    rw (c.write.ensures, c.make.ensures.page, read, c.min-len.ensures, ← c.self.view_is, w.bytes, w.made)

pub returns-clause-stock : goal.returns-clause-stock
returns-clause-stock c =
    let h : c.args.at + c.args.width ≤ c.self.inside.size = rw (← c.self.view_is, length-bytes) at c.requires.within in
    let some = width_some c.args.width c.requires.width in
    let there : c.args.at / 256 < length c.self.inside.pages.items = page_there c.self.inside.pages.items c.self.inside.size c.args.at c.self.invariant (omega arith) in
    let read : c.index_mut-page.result.now ≡ get_or c.self.inside.pages.items (c.args.at / 256) [] = c.index_mut-page.ensures.value ∙ get_or_default c.self.inside.pages.items (c.args.at / 256) _ _ there in
    c.make.ensures.stock ∙ rw (← c.self.view_is, flag_at c.self.inside.pages.items (c.args.at / 256) there, read)
