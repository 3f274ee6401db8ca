use Rattle.std.proofs.Common.{◌≡◌, ◌++◌, drop}
use Rattle.nv_core.specs.Shown.{shared_of}
use Rattle.nv_machine.specs.World.{cell_at}
use Rattle.nv_script.specs.Json.{cell_object, values_from}
use Rattle.nv_trace.proofs.json_world.push_cells.Given as goal

abbrev pub invariant-loop-place : goal.invariant-loop-place
invariant-loop-place l =
    l.out.items ++ values_from (λ place ino. cell_object ino (cell_at (shared_of l.world.shared) ino)) l.place (drop l.place l.slots)
    ≡ l.initial.out.items ++ values_from (λ place ino. cell_object ino (cell_at (shared_of l.world.shared) ino)) 0 l.slots
