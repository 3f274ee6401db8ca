-- What a world's reports say, by one scan of all logs, of the snapshot list, of records and of hands.
use Rattle.std.specs.Prelude.{ℕ, ◌-◌, List, length, map}
use Rattle.std.specs.List.{range_with_len}
use Rattle.nv_alloc.specs.Runs.{free_runs_of}
use Rattle.nv_alloc.specs.declared.runs.FreeRun.{FreeRun}
use Rattle.nv_audit.specs.Counts.{scanned_counts}
use Rattle.nv_epoch.specs.declared.snapshot.Snapshot.{Snapshot}
use Rattle.nv_machine.specs.Held.{free_by_logs, retention_at}
use Rattle.nv_machine.specs.Scanned.{scanned_chain, scanned_data, scanned_free, scanned_gain, scanned_held, scanned_pending}
use Rattle.nv_machine.specs.World.{World, cell_at}
use Rattle.nv_core.specs.declared.reports.LogCounts.{LogCounts}
use Rattle.nv_core.specs.declared.reports.Space.{Space}
use Rattle.nv_core.specs.declared.snaps.SnapCounts.{SnapCounts}
use Rattle.nv_core.specs.declared.snaps.Snaps.{Snaps}

-- WHERE THE BLOCKS ARE, by one scan: free; log pages; file pages that are current or that a living
-- snapshot holds; file pages of pending records; and all others. What it sums stands in `Scanned`
-- of `nv_machine`.
abbrev pub space_by_scan : World → Space
space_by_scan w = record {
  free = scanned_free w;
  chain = scanned_chain w.shared;
  «data» = scanned_data w.shared;
  pending = scanned_pending w;
  hand = w.numbers.blocks - scanned_free w - scanned_chain w.shared - scanned_data w.shared - scanned_pending w;
}

-- THE FREE LISTS, CPU by CPU: the runs of the numbers that the logs leave
abbrev pub lists_by_scan : World → List (List FreeRun)
lists_by_scan w = map (λ cpu. free_runs_of (free_by_logs w.numbers w cpu)) (range_with_len 0 w.numbers.cpus)

-- A LOG IN NUMBERS, by one scan: its entries up to the tail, and of each log page how many have a
-- current pair, and how many one that is needed, pending or killed
abbrev pub log_by_scan : World → ℕ → LogCounts
log_by_scan w ino =
    let cell = cell_at w.shared ino in
    record {
      entries = cell.chain.tail;
      pages = map (scanned_counts (retention_at w ino) cell) (range_with_len 0 (length cell.chain.blocks));
    }

-- A LIVING SNAPSHOT, by one scan: the file pages that it holds and that are no longer current,
-- those that it alone holds, and its pins
abbrev pub snap_by_scan : World → Snapshot → SnapCounts
snap_by_scan w snapshot = record {
  snapshot = snapshot.number;
  held = scanned_held w snapshot.number;
  gain = scanned_gain w snapshot.number;
  pins = snapshot.pins;
}

-- THE LIVING SNAPSHOTS, by one scan. File pages that are killed and not yet retired count for none
-- of them.
abbrev pub snaps_by_scan : World → Snaps
snaps_by_scan w = record {
  epoch = w.shared.book.snaps.epoch;
  commit = w.shared.book.commit;
  living = map (snap_by_scan w) w.shared.book.snaps.living;
}
