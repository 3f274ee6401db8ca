use Rattle.std.proofs.Common.{◌≡◌, ◌++◌, drop}
use Rattle.std.specs.List.{flat_map}
use Rattle.nv_entry.specs.Keys.{parts_of}
use Rattle.nv_audit.specs.Lists.{said_of, said_part}
use Rattle.nv_audit.proofs.lists.push_said_of.Given as goal

abbrev pub invariant-loop-place : goal.invariant-loop-place
invariant-loop-place l =
    l.used.items ++ flat_map (said_part l.block l.item) (drop l.place (parts_of l.item)) ≡ l.initial.used.items ++ said_of l.block l.item
