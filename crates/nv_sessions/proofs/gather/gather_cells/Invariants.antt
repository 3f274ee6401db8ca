use Rattle.std.proofs.Common.{◌≡◌, ◌+◌, All, sum_by, length}
use Rattle.nv_sessions.specs.UnlockedParts.{BesideCellValue, IsKnown}
use Rattle.nv_sessions.proofs.gather.gather_cells.Given as goal

abbrev pub invariant-loop-rest : goal.invariant-loop-rest
invariant-loop-rest g l = record {
  parts : l.blocks.parts ≡ l.initial.blocks.parts + length l.yielded;
  amount : l.blocks.amount
      ≡ l.initial.blocks.amount + sum_by (λ (r : BesideCellValue). r.blocks) l.yielded;
  notes : l.notes ≡ l.initial.notes;
  met : All (IsKnown g.C.Commits.opened l.initial.notes) l.yielded;
}
