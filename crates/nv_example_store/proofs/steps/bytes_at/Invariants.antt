use Rattle.std.proofs.Common.{◌≡◌, drop}
use Rattle.nv_example_store.specs.Held.{bytes_at}
use Rattle.nv_example_store.proofs.steps.bytes_at.Given as goal

abbrev pub invariant-loop-there : goal.invariant-loop-there
invariant-loop-there l =
    bytes_at l.key l.fn.tree ≡ bytes_at l.key (drop l.there-index l.tree)
