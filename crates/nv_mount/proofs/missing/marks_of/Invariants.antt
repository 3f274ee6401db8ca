use Rattle.std.proofs.Common.{take}
use Rattle.std.specs.List.{flat_map}
use Rattle.nv_audit.specs.Image.{slot_numbers}
use Rattle.nv_mount.specs.Missing.{AreMarks}
use Rattle.nv_mount.proofs.missing.marks_of.Given as goal

abbrev pub invariant-loop-ino : goal.invariant-loop-ino
invariant-loop-ino l = AreMarks l.geometry.numbers.blocks (flat_map slot_numbers (take l.ino l.slots)) l.marks.items
