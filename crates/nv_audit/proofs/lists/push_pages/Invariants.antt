use Rattle.std.proofs.Common.{◌≡◌, ◌++◌, drop}
use Rattle.nv_alloc.specs.Block.{numbers_of}
use Rattle.nv_audit.proofs.lists.push_pages.Given as goal

abbrev pub invariant-loop-page : goal.invariant-loop-page
invariant-loop-page l = l.used.items ++ numbers_of (drop l.page-index l.pages) ≡ l.initial.used.items ++ numbers_of l.pages
