-- What marks that are those of the logs give of a whole device.
use Rattle.std.proofs.Common.{◌≡◌, ℕ, zero, suc, ◌+◌, ◌-◌, ◌<◌, ◌≤◌, Bool, true, false, cond, List, [], ◌∷◌, ◌++◌, length, not, arith, refl, ap, ap₂, sym, subst, ◌∙◌, slice_index_or, flat_map, nat_eq}
use Rattle.std.specs.Prelude.{All}
use Rattle.std.proofs.lemmas.Bool.Decides.{nat_tests}
use Rattle.nv_base.specs.Homes.{home_start}
use Rattle.nv_base.specs.declared.geometry.GeometryNumbers.{GeometryNumbers}
use Rattle.nv_alloc.specs.FreeList.{FreeBlocks}
use Rattle.nv_alloc.specs.Numbers.{has, unused}
use Rattle.nv_book.specs.declared.record.Record.{Record}
use Rattle.nv_epoch.specs.SnapList.{ids}
use Rattle.nv_cell.specs.Cell.{CellState, stored_in}
use Rattle.nv_audit.specs.Lists.{AreFree, used_from, used_of}
use Rattle.nv_audit.specs.Pending.{retention_by}
use Rattle.nv_audit.specs.Records.{IsRecorded}
use Rattle.nv_audit.specs.Whole.{Agrees, AreFromScratch, Device, HasMarkedCells, HasRecords, IsMarkedCell}
use Rattle.nv_audit.specs.declared.part_list.InodePart.{InodePart}
use Rattle.nv_audit.proofs.PageEntries.{counted}
use Rattle.nv_audit.proofs.PartBlocks.{blocks_are_used}

all_used : (snapshots : List ℕ) (deferred : List Record) (in_hands : List InodePart) (from : ℕ) (cells : List CellState)
    → ((i : ℕ) (d : CellState) → i < length cells → IsMarkedCell snapshots deferred in_hands (from + i) (slice_index_or cells i d))
    → used_from snapshots deferred in_hands from cells ≡ flat_map stored_in cells
all_used snapshots deferred in_hands from [] marked = refl
all_used snapshots deferred in_hands from (cell ∷ cells) marked =
    let here : from + 0 ≡ from = omega arith in
    let first = subst (λ (n : ℕ). IsMarkedCell snapshots deferred in_hands n cell) here (marked 0 cell (omega arith)) in
    ap₂ (λ (a b : List ℕ). a ++ b) (blocks_are_used (retention_by snapshots deferred in_hands from cell) cell first.0 first.1)
    (all_used snapshots deferred in_hands (from + 1) cells (λ i d lt.
    let on : from + suc i ≡ from + 1 + i = omega arith in
    subst (λ (n : ℕ). IsMarkedCell snapshots deferred in_hands n (slice_index_or cells i d)) on (marked (suc i) d (omega (arith, lt)))))

-- the blocks in use are those that cells have, and those in hands
pub used_are_had : (d : Device) → HasMarkedCells d
    → used_of d.cells d.book d.in_hands d.blocks ≡ flat_map stored_in d.cells ++ d.blocks
used_are_had d marked =
    ap (λ (xs : List ℕ). xs ++ d.blocks) (all_used (ids d.book.snaps) d.book.deferred d.in_hands 0 d.cells (λ i default lt.
    let zeroth : i ≡ 0 + i = omega arith in
    subst (λ (n : ℕ). IsMarkedCell (ids d.book.snaps) d.book.deferred d.in_hands n (slice_index_or d.cells i default)) zeroth
    (marked i default lt)))

-- ---- lists from scratch

below : (u : ℕ → Bool) (low len n : ℕ) → n < low → has (unused u low len) n ≡ false
below u low zero n lt = refl
below u low (suc len) n lt = go (u low) (below u (low + 1) len n (omega (arith, lt))) where
  other : nat_eq low n ≡ false
  other = grind (arith, nat_tests)

  go : (b : Bool) → has (unused u (low + 1) len) n ≡ false
      → has (cond (not b) (low ∷ unused u (low + 1) len) (unused u (low + 1) len)) n ≡ false
  go true h = h
  go false h = rw other h

pub within : (u : ℕ → Bool) (low len n : ℕ) → low ≤ n → n < low + len → has (unused u low len) n ≡ not (u n)
within u low zero n from lt = absurd (omega (arith, from, lt))
within u low (suc len) n from lt = go (nat_eq low n) refl (u low) refl (λ above. within u (low + 1) len n above (omega (arith, lt))) where
  go : (same : Bool) → nat_eq low n ≡ same → (b : Bool) → u low ≡ b → (low + 1 ≤ n → has (unused u (low + 1) len) n ≡ not (u n))
      → has (cond (not (u low)) (low ∷ unused u (low + 1) len) (unused u (low + 1) len)) n ≡ not (u n)
  go true e true q h =
      let at : low ≡ n = grind (arith, nat_tests) in
      let used : u n ≡ true = ap u (sym at) ∙ q in
      rw (q, used) (below u (low + 1) len n (omega (arith, at)))
  go true e false q h =
      let at : low ≡ n = grind (arith, nat_tests) in
      let free : u n ≡ false = ap u (sym at) ∙ q in
      rw (q, free, e) refl
  go false e true q h = let above : low + 1 ≤ n = grind (arith, nat_tests) in rw q (h above)
  go false e false q h = let above : low + 1 ≤ n = grind (arith, nat_tests) in rw (q, e) (h above)

-- lists of the unused numbers of their home ranges are free lists
pub scratch_is_free : (g : GeometryNumbers) (lists : List FreeBlocks) (used : List ℕ) → AreFromScratch g lists used → AreFree g lists used
scratch_is_free g lists used are cpu lt n from under =
    let start = home_start g.blocks g.cpus cpu in
    let end = home_start g.blocks g.cpus (cpu + 1) in
    ap (λ (xs : List ℕ). has xs n) (are cpu lt) ∙ within (has used) start (end - start) n from (omega (arith, from, under))

-- marks that are those of the logs, lists from scratch and records leave nothing that differs
pub marked_agree : (d : Device) → HasMarkedCells d → AreFromScratch d.numbers d.lists (flat_map stored_in d.cells ++ d.blocks)
    → HasRecords d
    → Agrees d
marked_agree d marked lists records = record {
  counts = λ ino default lt. let is = marked ino default lt in counted _ _ is.0 is.1;
  records = records;
  lists = scratch_is_free d.numbers d.lists (used_of d.cells d.book d.in_hands d.blocks)
      (subst (AreFromScratch d.numbers d.lists) (sym (used_are_had d marked)) lists);
}

-- where no snapshot lives, nothing is to be recorded
pub none_recorded : (d : Device) → ids d.book.snaps ≡ [] → HasRecords d
none_recorded d none = subst (All (IsRecorded d.cells d.book d.in_hands)) (sym none) (λ k default lt. absurd (omega (arith, lt)))
