use Rattle.std.proofs.Common.{◌≡◌, ℕ, ◌<◌, ◌≤◌, not}
use Rattle.std.specs.Option.{option_copied}
use Rattle.nv_alloc.specs.Block.{numbers_of}
use Rattle.nv_alloc.specs.Numbers.{has}
use Rattle.nv_audit.specs.Lists.{list_or_none, mark_at}
use Rattle.nv_audit.proofs.lists.is_range_free.Given as goal

abbrev pub invariant-loop-number : goal.invariant-loop-number
invariant-loop-number l =
    (n : ℕ) → l.start ≤ n → n < l.number → has (numbers_of (list_or_none (option_copied l.list)).blocks) n ≡ not (mark_at l.marks n)
