use Rattle.std.proofs.Common.{◌≡◌, ◌++◌, drop, map, take}
use Rattle.nv_calls.specs.Ready.{CellCommitValue}
use Rattle.nv_core.specs.Shown.{killed_in}
use Rattle.nv_script.specs.JsonWorld.{all_killed}
use Rattle.nv_trace.proofs.json_world.killed_parts.Given as goal

abbrev pub invariant-loop-j : goal.invariant-loop-j
invariant-loop-j l =
    l.parts.items ++ all_killed (map (λ (p : CellCommitValue). p.killed) (drop l.j (take l.commit.published l.commit.plans)))
    ≡ all_killed (killed_in l.commit)
