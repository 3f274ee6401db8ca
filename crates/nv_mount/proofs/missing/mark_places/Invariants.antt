use Rattle.std.proofs.Common.{take}
use Rattle.std.specs.List.{flat_map}
use Rattle.nv_mount.specs.Missing.{AreMarkedTo}
use Rattle.nv_mount.proofs.Marked.{numbers_at}
use Rattle.nv_mount.proofs.missing.mark_places.Given as goal

abbrev pub invariant-loop-k : goal.invariant-loop-k
invariant-loop-k l = AreMarkedTo (flat_map numbers_at (take l.k l.places)) l.initial.marks.items l.marks.items
