use Rattle.std.proofs.Common.{◌≡◌, ◌++◌, ℕ, List, drop}
use Rattle.nv_entry.specs.Log.{pairs_of}
use Rattle.nv_entry.specs.declared.item.Entry.{Entry}
use Rattle.nv_epoch.specs.SnapList.{ids}
use Rattle.nv_audit.specs.Owed.{died, owed_records}
use Rattle.nv_audit.proofs.owed.push_owed_of.Given as goal

abbrev pub invariant-loop-place : goal.invariant-loop-place
invariant-loop-place l = (block : ℕ) (later : List Entry) → l.deaths ≡ died (pairs_of block l.entry later)
    → l.owed.items ++ owed_records (ids l.snaps) l.named l.ino (drop l.place (pairs_of block l.entry later))
    ≡ l.initial.owed.items ++ owed_records (ids l.snaps) l.named l.ino (pairs_of block l.entry later)
