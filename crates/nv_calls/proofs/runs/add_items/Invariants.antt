use Rattle.std.proofs.Common.{◌≡◌, ◌+◌, ◌++◌, length, take}
use Rattle.nv_entry.specs.Sound.{blocks_of, write_items}
use Rattle.nv_calls.proofs.runs.add_items.Given as goal

abbrev pub invariant-loop-run : goal.invariant-loop-run
invariant-loop-run l =
    (l.items.items ≡ l.fn.items.items ++ write_items l.first (take l.run-index l.runs) l.size)
    × (l.page ≡ l.first + length (blocks_of (take l.run-index l.runs)))
