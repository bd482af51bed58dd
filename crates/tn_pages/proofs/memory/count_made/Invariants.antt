use Rattle.std.proofs.Common.{◌≡◌, take}
use Rattle.std.specs.List.{count_by}
use Rattle.tn_pages.specs.Pages.{is_made}
use Rattle.tn_pages.proofs.memory.count_made.Given as goal

abbrev pub invariant-loop-page : goal.invariant-loop-page
invariant-loop-page l = l.made ≡ count_by is_made (take l.page-index l.pages.items)
