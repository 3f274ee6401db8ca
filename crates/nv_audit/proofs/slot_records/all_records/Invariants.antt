use Rattle.std.proofs.Common.{◌≡◌, ◌++◌, drop}
use Rattle.nv_book.specs.Listed.{all_records}
use Rattle.nv_audit.proofs.slot_records.all_records.Given as goal

abbrev pub invariant-loop-manifest : goal.invariant-loop-manifest
invariant-loop-manifest l =
    l.all.items ++ all_records (drop l.manifest-index l.manifest-items) ≡ all_records l.manifest-items
