use Rattle.std.proofs.Common.{◌+◌, ◌/◌, ◌<◌, ◌≤◌, ◌≡◌, ◌∙◌, [], arith, get_or, length, rules}
use Rattle.std.proofs.lemmas.List.{get_or_default}
use Rattle.tn_pages.proofs.Bytes.{length-bytes, value_on_page}
use Rattle.tn_pages.proofs.Made.{page_there, read_within, width_some}
use Rattle.tn_pages.proofs.memory.PagedMemory.value_at.Goals as goal

pub index-requires : goal.index-requires
index-requires c =
    let h : c.args.at + c.args.width ≤ c.self.inside.size = rw (← c.self.view_is, length-bytes) at c.requires.within in
    let some = width_some c.args.width c.requires.width in
    let there : c.args.at / 256 < length c.self.inside.pages.items = page_there c.self.inside.pages.items c.self.inside.size c.args.at c.self.invariant (omega arith) in
    search rules

pub value_at-requires-clause-within : goal.value_at-requires-clause-within
value_at-requires-clause-within c =
    let h : c.args.at + c.args.width ≤ c.self.inside.size = rw (← c.self.view_is, length-bytes) at c.requires.within in
    let some = width_some c.args.width c.requires.width in
    let there : c.args.at / 256 < length c.self.inside.pages.items = page_there c.self.inside.pages.items c.self.inside.size c.args.at c.self.invariant (omega arith) in
    let read : c.index.result.now ≡ get_or c.self.inside.pages.items (c.args.at / 256) [] = c.index.ensures ∙ get_or_default c.self.inside.pages.items (c.args.at / 256) _ _ there in
    rw read (read_within c.self.inside.pages.items c.self.inside.size c.args.at c.args.width c.self.invariant h c.requires.one_page)

pub returns : goal.returns
returns c =
    let h : c.args.at + c.args.width ≤ c.self.inside.size = rw (← c.self.view_is, length-bytes) at c.requires.within in
    let some = width_some c.args.width c.requires.width in
    let there : c.args.at / 256 < length c.self.inside.pages.items = page_there c.self.inside.pages.items c.self.inside.size c.args.at c.self.invariant (omega arith) in
    let read : c.index.result.now ≡ get_or c.self.inside.pages.items (c.args.at / 256) [] = c.index.ensures ∙ get_or_default c.self.inside.pages.items (c.args.at / 256) _ _ there in
    c.value_at.ensures ∙ rw (← c.self.view_is, read) (value_on_page c.self.inside.pages.items c.self.inside.size c.args.at c.args.width c.requires.width h c.requires.one_page)
