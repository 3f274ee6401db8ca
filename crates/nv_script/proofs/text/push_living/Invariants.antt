use Rattle.std.proofs.Common.{◌≡◌, ◌++◌, take}
use Rattle.std.specs.List.{flat_map}
use Rattle.nv_script.specs.Texts.{snap_line}
use Rattle.nv_script.proofs.text.push_living.Given as goal

abbrev pub invariant-loop-snap : goal.invariant-loop-snap
invariant-loop-snap l = l.out.items ≡ l.initial.out.items ++ flat_map snap_line (take l.snap-index l.living)
