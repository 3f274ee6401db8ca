-- A world in which no call runs reports what the world with numbers reports.
use Rattle.std.proofs.Common.{◌≡◌, ◌∙◌, ℕ, ◌-◌, List, [], ◌∷◌, Option, Some, None, ap, arith, map, refl, subst, sym}
use Rattle.std.proofs.Math.Path.{fun_ext}
use Rattle.std.proofs.lemmas.List.{length-map}
use Rattle.std.specs.Prelude.{IsSome, option_map}
use Rattle.std.specs.List.{AllByRecursion, range_with_len}
use Rattle.nv_alloc.specs.Runs.{free_runs_of}
use Rattle.nv_base.specs.declared.geometry.GeometryNumbers.{GeometryNumbers}
use Rattle.nv_book.specs.declared.record.Record.{Record}
use Rattle.nv_entry.specs.declared.tree.TreeNode.{TreeNode}
use Rattle.nv_epoch.specs.SnapList.{pins_of}
use Rattle.nv_epoch.specs.declared.snapshot.Snapshot.{Snapshot}
use Rattle.nv_epoch.proofs.Pins.{lives-from_pins, pins_at-lives}
use Rattle.nv_machine.specs.Held.{free_by_logs}
use Rattle.nv_machine.specs.PlainRun.{Copy, copy_in}
use Rattle.nv_machine.specs.Scanned.{scanned_chain, scanned_data, scanned_free, scanned_pending}
use Rattle.nv_machine.specs.Settled.{snapshot_tree}
use Rattle.nv_machine.specs.Starts.{IsStart}
use Rattle.nv_machine.specs.World.{World}
use Rattle.nv_core.specs.Reports.{snap_counts}
use Rattle.nv_core.specs.Scans.{lists_by_scan, log_by_scan, space_by_scan}
use Rattle.nv_core.specs.Worlds.{HasRun}
use Rattle.nv_core.specs.declared.snaps.SnapCounts.{SnapCounts}
use Rattle.nv_core.specs.declared.snaps.Snaps.{Snaps}
use Rattle.nv_core.proofs.ScannedReports.{snaps_scanned}
use Rattle.nv_serial.specs.Reports.{chain_count, data_count, free_count, log_told, pending_count, snapshot_tree_told}
use Rattle.nv_serial.specs.Serial.{Serial}
use Rattle.nv_serial.specs.Shown.{slot_told}
use Rattle.nv_serial.proofs.AtRestLogPages.{entries_reported, log_reported}
use Rattle.nv_serial.proofs.AtRestLogs.{told_by}
use Rattle.nv_serial.proofs.AtRestPins.{IsReported, pins_none, snapshots_reported}
use Rattle.nv_serial.proofs.AtRestReports.{chain_reported, data_reported, free_reported, pending_reported, scan_is}
use Rattle.nv_serial.proofs.AtRestSpace.{all_counted}
use Rattle.nv_serial.proofs.AtRestTrees.{no_tree_reported, snapshot_tree_reported, tree_reported}
use Rattle.nv_script.specs.Play.{nodes_at, reports_by_scan}
use Rattle.nv_script.specs.SerialPlayer.{serial_log, serial_nodes, serial_reports, serial_snap, serial_snaps, serial_space}
use Rattle.nv_script.proofs.Alike.{ReportAlike}

some_none : (pins : Option ℕ) → pins ≡ None → IsSome pins → ⊥
some_none None none some = cc
some_none (Some pins) none some = cc

module _ (g : GeometryNumbers) (w : World) (rs : List Record) (is : IsStart g w rs) where
  abbrev s : Serial
  s = told_by g w rs

  space_same : space_by_scan w ≡ serial_space s
  space_same =
      let free : scanned_free w ≡ free_count s = free_reported g w rs is in
      let chain : scanned_chain w.shared ≡ chain_count s = chain_reported g w rs is in
      let needed : scanned_data w.shared ≡ data_count s = data_reported g w rs is in
      let pending : scanned_pending w ≡ pending_count s = pending_reported g w rs is in
      let blocks : w.numbers.blocks ≡ g.blocks = ap (λ (n : GeometryNumbers). n.blocks) is.numbers in
      let hand : w.numbers.blocks - scanned_free w - scanned_chain w.shared - scanned_data w.shared - scanned_pending w ≡ 0 =
      omega (arith, free, chain, needed, pending, blocks, all_counted g w rs is) in
      λ i. record { free = free i; chain = chain i; «data» = needed i; pending = pending i; hand = hand i }

  lists_same : lists_by_scan w ≡ (serial_reports s).lists
  lists_same =
      ap (λ (n : GeometryNumbers). map (λ cpu. free_runs_of (free_by_logs n w cpu)) (range_with_len 0 n.cpus)) is.numbers
      ∙ ap (λ (free : ℕ → List ℕ). map (λ cpu. free_runs_of (free cpu)) (range_with_len 0 g.cpus)) (fun_ext (λ cpu. scan_is g w rs is cpu))

  log_same : (ino : ℕ) → log_by_scan w ino ≡ serial_log s ino
  log_same ino =
      let entries = sym (entries_reported g w rs is ino) in
      let pages : (log_by_scan w ino).pages ≡ log_told s ino = sym (log_reported g w rs is ino) in
      λ i. record { entries = entries i; pages = pages i }

  -- the living snapshots, one by one
  each_snap : (snapshots : List Snapshot) → AllByRecursion (λ (t : Snapshot). t.pins ≡ 0) snapshots
      → AllByRecursion (λ (t : Snapshot). IsReported s w t.number) snapshots
      → map (snap_counts w.shared.book) snapshots
      ≡ map (serial_snap s) (map (λ (c : Copy). c.snapshot) (map (copy_in w.shared) snapshots))
  each_snap [] pins told = refl
  each_snap (t ∷ snapshots) pins told =
      let held = told.0.held in
      let gain = told.0.gain in
      let none = pins.0 in
      let one : snap_counts w.shared.book t ≡ serial_snap s t.number =
      λ i. record { snapshot = t.number; held = held i; gain = gain i; pins = none i } in
      ap (λ (counts : SnapCounts). counts ∷ map (snap_counts w.shared.book) snapshots) one
      ∙ ap (λ (rest : List SnapCounts). serial_snap s t.number ∷ rest) (each_snap snapshots pins.1 told.1)

  has_run : HasRun w
  has_run = (
    record { start = w; records = rs; events = [] },
    subst (λ (n : GeometryNumbers). IsStart n w rs) (sym is.numbers) is,
    refl,
  )

  snaps_same : (reports_by_scan w).snaps ≡ serial_snaps s
  snaps_same =
      sym (snaps_scanned w has_run)
      ∙ ap (λ (counts : List SnapCounts). let all : Snaps = record (serial_snaps s) { living = counts } in all)
      (each_snap w.shared.book.snaps.living (pins_none g w rs is) (snapshots_reported g w rs is))

  nodes_same : (which : Option ℕ) → nodes_at w which ≡ serial_nodes s which
  nodes_same None = ap (λ (nodes : List TreeNode). Some nodes) (tree_reported g w rs)
  nodes_same (Some n) = go (pins_of w.shared.book.snaps n) refl where
    go : (pins : Option ℕ) → pins_of w.shared.book.snaps n ≡ pins
        → option_map (λ (count : ℕ). snapshot_tree w n) pins ≡ snapshot_tree_told s n
    go None none =
        sym (no_tree_reported g w rs n (λ lives. some_none (pins_of w.shared.book.snaps n) none
        (pins_at-lives w.shared.book.snaps.living n lives)))
    go (Some pins) some =
        sym (snapshot_tree_reported g w rs n (lives-from_pins w.shared.book.snaps.living n (subst IsSome (sym some) refl)))

  pub reports_same : ReportAlike (reports_by_scan w) (serial_reports s)
  reports_same = record {
    space = space_same;
    lists = lists_same;
    slots = sym (length-map w.shared.cells slot_told);
    log = λ ino there. log_same ino;
    snaps = snaps_same;
    nodes = nodes_same;
  }
