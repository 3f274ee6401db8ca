use Rattle.std.proofs.Common.{◌≡◌, ◌++◌, drop}
use Rattle.nv_audit.specs.Records.{recorded_in}
use Rattle.nv_audit.proofs.records.parts_held.Given as goal

abbrev pub invariant-loop-held : goal.invariant-loop-held
invariant-loop-held l =
    l.parts.items ++ recorded_in l.snapshot (drop l.held-index l.records) ≡ recorded_in l.snapshot l.records
