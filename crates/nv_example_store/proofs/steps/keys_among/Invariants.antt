use Rattle.std.proofs.Common.{◌≡◌, take}
use Rattle.nv_example_store.specs.Held.{keys_among}
use Rattle.nv_example_store.proofs.steps.keys_among.Given as goal

abbrev pub invariant-loop-bound : goal.invariant-loop-bound
invariant-loop-bound l =
    l.keys.items ≡ keys_among (take l.bound-index l.names)
