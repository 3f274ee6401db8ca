use Rattle.std.proofs.Common.{◌≡◌, filter}
use Rattle.std.specs.List.{range_with_len}
use Rattle.nv_core.specs.Shown.{shared_of}
use Rattle.nv_script.specs.JsonWorld.{has_entry}
use Rattle.nv_trace.proofs.json_world.slots_with_entry.Given as goal

abbrev pub invariant-loop-ino : goal.invariant-loop-ino
invariant-loop-ino l = l.slots.items ≡ filter (has_entry (shared_of l.world.shared)) (range_with_len 0 l.ino)
