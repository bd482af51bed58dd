use Rattle.std.proofs.Common.{◌/◌, ◌<◌, ◌≡◌, ◌∙◌, [], get_or, length, rules, sym}
use Rattle.std.proofs.lemmas.List.{get_or_default}
use Rattle.tn_pages.proofs.Bytes.{byte_at, length-bytes}
use Rattle.tn_pages.proofs.Made.{page_there}
use Rattle.tn_pages.proofs.memory.PagedMemory.byte.Goals as goal

pub index-requires : goal.index-requires
index-requires c =
    let h : c.args.at < c.self.inside.size = rw (← c.self.view_is, length-bytes) at c.requires in
    let there : c.args.at / 256 < length c.self.inside.pages.items = page_there c.self.inside.pages.items c.self.inside.size c.args.at c.self.invariant h in
    search rules

pub returns : goal.returns
returns c =
    let h : c.args.at < c.self.inside.size = rw (← c.self.view_is, length-bytes) at c.requires in
    let there : c.args.at / 256 < length c.self.inside.pages.items = page_there c.self.inside.pages.items c.self.inside.size c.args.at c.self.invariant h in
    let read : c.index.result.now ≡ get_or c.self.inside.pages.items (c.args.at / 256) [] = c.index.ensures ∙ get_or_default c.self.inside.pages.items (c.args.at / 256) _ _ there in
    rw (← c.self.view_is, c.byte.ensures, read) (sym (byte_at c.self.inside.pages.items c.self.inside.size c.args.at h))
