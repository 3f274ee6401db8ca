use Rattle.std.proofs.Common.{◌≡◌, ℕ, ◌<◌, length, take}
use Rattle.nv_alloc.specs.Numbers.{has}
use Rattle.nv_audit.specs.Lists.{mark_at}
use Rattle.nv_audit.proofs.lists.marked.Given as goal

abbrev pub invariant-loop-number : goal.invariant-loop-number
invariant-loop-number l = record {
  len : length l.marks.items ≡ l.blocks;
  marks : (n : ℕ) → n < l.blocks → mark_at l.marks.items n ≡ has (take l.number-index l.used) n;
}
