-- What the marks of every slot tell: which parts are current, and that a part is covered that a drain is to release.
use Rattle.std.proofs.Common.{◌≡◌, ℕ, ◌<◌, ◌≤◌, ◌++◌, ◌∙◌, Bool, true, false, not, List, [], ◌∷◌, Option, Some, None, ap, arith, length, refl, sym}
use Rattle.std.specs.Prelude.{unwrap_or}
use Rattle.std.specs.List.{AllByRecursion}
use Rattle.nv_book.specs.declared.record.Record.{Record}
use Rattle.nv_calls.specs.Retiring.{name_of}
use Rattle.nv_cell.specs.Cell.{CellState, log_of, number_in}
use Rattle.nv_cell.specs.Marks.{mark_at}
use Rattle.nv_cell.specs.declared.killed.KilledPart.{KilledPart}
use Rattle.nv_cell.specs.declared.mark.Mark.{Mark}
use Rattle.nv_cell.proofs.ValuesNow.{IsLog-take}
use Rattle.nv_entry.specs.Covered.{is_covered}
use Rattle.nv_entry.specs.Log.{IsLog}
use Rattle.nv_entry.specs.declared.item.Entry.{Entry}
use Rattle.nv_epoch.specs.SnapList.{ids}
use Rattle.nv_machine.specs.Held.{picked_by_actor, picked_by_call}
use Rattle.nv_machine.specs.Kept.{IsReleaseCovered, IsReleaseCoveredBy}
use Rattle.nv_machine.specs.Order.{IsInOrder}
use Rattle.nv_machine.specs.Recorded.{is_marked_kept}
use Rattle.nv_machine.specs.World.{Next, Release, Running, SnapshotOrCleaner, World, actor_at, cell_at}
use Rattle.nv_machine.proofs.OverEvents.{runs_inside}
use Rattle.nv_machine.proofs.EachElement.{all_back}
use Rattle.nv_machine.proofs.FiledLists.{count, count_append, count_cons, one}
use Rattle.nv_machine.proofs.FiledMarks.{AreMarks, IsTold, bit_is, is_filed_on, kept_not_current, pair_low}
use Rattle.nv_machine.proofs.FiledWorlds.{AreMarked, picked_in}
use Rattle.nv_machine.proofs.Lists.{self}
use Rattle.nv_machine.proofs.Pairs.{IsRecordOf, record_number}
use Rattle.nv_machine.proofs.PartsFor.{own_all, own_count}

-- the log of a slot is one
pub is_log : (w : World) (ino : ℕ) → IsInOrder w → IsLog (log_of (cell_at w.shared ino))
is_log w ino order =
    IsLog-take (cell_at w.shared ino).chain.tail (cell_at w.shared ino).chain.entries (order.logs ino).ordered

-- a part that is recorded is covered
pub filed_covered : (living : List ℕ) (ino epoch : ℕ) (killed : List KilledPart) (rs : List Record) (block : ℕ) (log : List Entry)
    (marks : List Mark) (d : Record) → IsLog log → AreMarks living ino epoch killed rs block log marks → d.ino ≡ ino
    → (pair : IsRecordOf living block log d)
    → one (is_filed_on ino log pair.n d) ≤ count (is_filed_on ino log pair.n) rs → is_covered block log pair.n ≡ true
filed_covered living ino epoch killed rs block log marks d is h mine pair some =
    covered (is_covered block log pair.n)
    (sym (h.current pair.n (pair_low block log pair.n pair.pair pair.is)) ∙ kept_not_current (mark_at marks pair.n) kept) where
      its : is_filed_on ino log pair.n d ≡ true
      its = rw (mine, self ino, record_number living block log d is pair) (self pair.n)

      kept : is_marked_kept (mark_at marks pair.n) ≡ true
      kept = bit_is (is_marked_kept (mark_at marks pair.n)) (omega (arith, some, ap one its, h.kept_are pair.n))

      covered : (b : Bool) → not b ≡ false → b ≡ true
      covered true e = refl
      covered false e = cc

pub releases_covered : (w : World) (rs : List Record) (actor : ℕ) → IsInOrder w → AreMarked w rs
    → IsReleaseCoveredBy w.shared (actor_at w actor).running
releases_covered w rs actor order marked = go (actor_at w actor).running refl where
  at : (k : Next) (r : Running) → (actor_at w actor).running ≡ Some r → r.next ≡ k → IsReleaseCovered w.shared k
  at (SnapshotOrCleaner (Release draining d)) r is e =
      let cell : CellState = cell_at w.shared d.ino in
      let m = marked.cells d.ino in
      let T : Record → Type 0 = IsTold (ids w.shared.book.snaps) d.ino cell.block (log_of cell) in
      let had : picked_by_actor (actor_at w actor) ≡ d ∷ [] =
      ap (λ (o : Option Running). picked_by_call o) is ∙ ap (λ (k : Next). picked_by_call (Some (record r { next = k }))) e in
      let low : actor < length w.actors = runs_inside w actor r is in
      let told : AllByRecursion T (d ∷ []) = rw had at (own_all picked_by_actor T w.actors actor low
      (all_back T rs (picked_in w) m.told)) in
      let pair = told.0 refl in
      let p : Record → Bool = is_filed_on d.ino (log_of cell) pair.n in
      let number : number_in cell (name_of d) ≡ pair.n = ap (λ (o : Option ℕ). unwrap_or o 0)
      (record_number (ids w.shared.book.snaps) cell.block (log_of cell) d (is_log w d.ino order) pair) in
      ap (is_covered cell.block (log_of cell)) number
      ∙ filed_covered _ d.ino _ _ (rs ++ picked_in w) cell.block (log_of cell) cell.marks d
      (is_log w d.ino order) m refl pair
      (omega (
        arith,
        own_count picked_by_actor p w.actors actor low,
        ap (λ (ds : List Record). count p ds) had,
        count_cons p d [],
        count_append p rs (picked_in w),
      ))
  at other r is e = tt

  go : (running : Option Running) → (actor_at w actor).running ≡ running → IsReleaseCoveredBy w.shared running
  go None is = tt
  go (Some r) is = at r.next r is refl
