use Rattle.std.proofs.Common.{sym}
use Rattle.tn_pages.proofs.Bytes.{length-bytes}
use Rattle.tn_pages.proofs.memory.PagedMemory.len.Goals as goal

pub returns : goal.returns
returns c = rw (← c.self.view_is) (sym (length-bytes c.self.inside.pages.items c.self.inside.size))
