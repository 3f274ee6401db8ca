use Rattle.std.proofs.Common.{◌≡◌, ◌++◌, List, drop, map}
use Rattle.std.specs.List.{flat_map}
use Rattle.nv_entry.specs.Held.{keeps, retention_of}
use Rattle.nv_entry.specs.Log.{pairs_of}
use Rattle.nv_entry.specs.declared.item.Entry.{Entry}
use Rattle.nv_audit.specs.Lists.{blocks_kept_of, kept_pair}
use Rattle.nv_audit.proofs.lists.push_kept_of.Given as goal

abbrev pub invariant-loop-place : goal.invariant-loop-place
invariant-loop-place l = (later : List Entry) → l.kept ≡ map (keeps (retention_of l.retention)) (pairs_of l.retention.block l.entry later)
    → l.used.items ++ flat_map (kept_pair (retention_of l.retention) l.entry.item) (drop l.place (pairs_of l.retention.block l.entry later))
    ≡ l.initial.used.items ++ blocks_kept_of (retention_of l.retention) l.entry later
