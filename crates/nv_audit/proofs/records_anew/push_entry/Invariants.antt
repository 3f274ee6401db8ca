use Rattle.std.proofs.Common.{◌≡◌, ◌++◌, ℕ, List, drop}
use Rattle.nv_entry.specs.Log.{pairs_of}
use Rattle.nv_entry.specs.declared.item.Entry.{Entry}
use Rattle.nv_audit.specs.MountedLogs.{pair_records}
use Rattle.nv_audit.specs.Owed.{died}
use Rattle.nv_audit.proofs.records_anew.push_entry.Given as goal

abbrev pub invariant-loop-place : goal.invariant-loop-place
invariant-loop-place l = (block : ℕ) (later : List Entry) → l.deaths ≡ died (pairs_of block l.entry later)
    → l.records.items ++ pair_records l.snapshots l.ino (drop l.place (pairs_of block l.entry later))
    ≡ l.initial.records.items ++ pair_records l.snapshots l.ino (pairs_of block l.entry later)
