use Rattle.std.proofs.Common.{take}
use Rattle.std.specs.List.{flat_map}
use Rattle.nv_mount.specs.Missing.{AreMarkedTo}
use Rattle.nv_mount.proofs.Marked.{number_in}
use Rattle.nv_mount.proofs.missing.mark_pages.Given as goal

abbrev pub invariant-loop-k : goal.invariant-loop-k
invariant-loop-k l = AreMarkedTo (flat_map number_in (take l.k l.pages)) l.initial.marks.items l.marks.items
