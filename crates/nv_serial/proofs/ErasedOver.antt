-- A retire step erases an inode only where it is gone and nothing is kept of it.
use Rattle.std.proofs.Common.{Bool, List, Some, [], ap, append-nil, arith, false, filter, length, map, refl, slice_get, subst, suc, sym, take, true, zero, ℕ, ◌%◌, ◌++◌, ◌||◌, ◌∙◌, ◌∷◌, ◌≡◌}
use Rattle.std.specs.List.{AllByRecursion, list_any}
use Rattle.std.specs.Prelude.{not}
use Rattle.std.proofs.lemmas.Bool.{and_parts, false≢true, true≢false}
use Rattle.nv_base.specs.declared.geometry.GeometryNumbers.{GeometryNumbers}
use Rattle.nv_book.specs.Listed.{all_records}
use Rattle.nv_book.specs.declared.record.Record.{Record}
use Rattle.nv_calls.proofs.Retires.{chain_stays}
use Rattle.nv_calls.specs.Retiring.{name_of}
use Rattle.nv_cell.proofs.Publishing.{take_whole}
use Rattle.nv_cell.proofs.ValuesNow.{IsLog-take}
use Rattle.nv_cell.specs.Cell.{CellState, log_of}
use Rattle.nv_cell.specs.Marks.{bit, is_there, mark_at}
use Rattle.nv_cell.specs.Readers.{is_erased, is_gone}
use Rattle.nv_cell.specs.declared.killed.KilledPart.{KilledPart}
use Rattle.nv_cell.specs.declared.mark.Mark.{Mark}
use Rattle.nv_entry.specs.Held.{has_name, is_current, is_held, keeps}
use Rattle.nv_entry.specs.Log.{IsLog, pairs}
use Rattle.nv_entry.specs.declared.held.Pair.{Pair}
use Rattle.nv_entry.specs.declared.item.Entry.{Entry}
use Rattle.nv_entry.specs.declared.part.PartId.{PartId}
use Rattle.nv_epoch.specs.SnapList.{ids}
use Rattle.nv_log.specs.Chain.{ChainState, log}
use Rattle.nv_machine.specs.Erasing.{IsOver, keepers_of}
use Rattle.nv_machine.specs.Held.{is_of_slot, pending_in}
use Rattle.nv_machine.specs.Kept.{AreClosed, Knows}
use Rattle.nv_machine.specs.Kinds.{first_killed, retired_cell}
use Rattle.nv_machine.specs.Locks.{commits_at}
use Rattle.nv_machine.specs.Reads.{slot_at, written_slots}
use Rattle.nv_machine.specs.Recorded.{is_marked_kept, with_parts}
use Rattle.nv_machine.specs.Settled.{settled}
use Rattle.nv_machine.specs.World.{HandState, Next, Retire, Running, Shared, World, actor_at, cell_at, owner_at}
use Rattle.nv_machine.proofs.EachElement.{all_append, all_back, all_front}
use Rattle.nv_machine.proofs.FiledCommits.{retire_left}
use Rattle.nv_machine.proofs.FiledLists.{HasHolder, all_filed, count, count_append, count_filed, held_filed}
use Rattle.nv_machine.proofs.FiledMarks.{IsTold, is_filed_on}
use Rattle.nv_machine.proofs.FiledRuns.{can_list}
use Rattle.nv_machine.proofs.FiledSteps.{MarksOf, parts_held, retired_block}
use Rattle.nv_machine.proofs.FiledWorlds.{picked_in}
use Rattle.nv_machine.proofs.FitsEvents.{IsKnown, filed_known}
use Rattle.nv_machine.proofs.Journals.{closed_tail}
use Rattle.nv_machine.proofs.LocksHeld.{lent_cell, lent_holder}
use Rattle.nv_machine.proofs.LogsKeptRuns.{known_at}
use Rattle.nv_machine.proofs.MarksInUse.{in_use_there}
use Rattle.nv_machine.proofs.OverEvents.{runs_inside}
use Rattle.nv_machine.proofs.PoolRuns.{standing}
use Rattle.nv_machine.proofs.PoolTurns.{Standing}

-- what holds at each place holds of all
each_of : {A : Type 0} (P : A → Type 0) (xs : List A) → ((n : ℕ) (x : A) → slice_get xs n ≡ Some x → P x) → AllByRecursion P xs
each_of P [] each = tt
each_of P (x ∷ xs) each = (each 0 x refl, each_of P xs (λ n y e. each (suc n) y e))

none_there : (marks : List Mark) → list_any is_there marks ≡ false → (n : ℕ) → is_there (mark_at marks n) ≡ false
none_there [] none n = refl
none_there (m ∷ marks) none zero = go (is_there m) refl none where
  go : (b : Bool) → is_there m ≡ b → (b || list_any is_there marks) ≡ false → is_there m ≡ false
  go true is e = absurd (true≢false e)
  go false is e = is
none_there (m ∷ marks) none (suc n) = none_there marks (go (is_there m) none) n where
  go : (b : Bool) → (b || list_any is_there marks) ≡ false → list_any is_there marks ≡ false
  go true e = absurd (true≢false e)
  go false e = e

not_any : (b : Bool) → not b ≡ true → b ≡ false
not_any true e = absurd (false≢true e)
not_any false e = refl

module _ (g : GeometryNumbers) (w : World) (all : IsKnown g w) (actor place : ℕ) (r : Running)
    (runs : (actor_at w actor).running ≡ Some r) (next : r.next ≡ Retire place) where
  abbrev s : Shared
  s = w.shared

  abbrev h : HandState
  h = (actor_at w actor).hand

  abbrev slot : ℕ
  slot = slot_at (written_slots r) place

  abbrev cell : CellState
  cell = cell_at s slot

  abbrev killed : List KilledPart
  killed = first_killed h.killed

  abbrev left : CellState
  left = retired_cell slot killed s r

  stands : Standing g (Retire place) actor s h r
  stands = subst (λ (k : Next). Standing g k actor s h r) next
      (standing g w actor r all.reached.locks all.numbers all.reached.grown all.pooled runs)

  closed : AreClosed s.book.journals
  closed =
      let knows : Knows (Retire place) w.numbers.block s (actor % length s.lists) h r =
      subst (λ (k : Next). Knows k w.numbers.block s (actor % length s.lists) h r) next (known_at w actor r all.reached.kept runs) in
      knows.2

  pub settled_log : settled s slot ≡ log_of cell
  settled_log = ap (λ (n : ℕ). take n cell.chain.entries) (closed_tail s.book.journals slot cell.chain.tail closed)

  -- and all of its log
  pub settled_all : settled s slot ≡ cell.chain.entries
  settled_all =
      let owned : owner_at s slot ≡ Some actor = lent_cell (Retire place) (length s.lists) actor s r stands.before slot refl in
      settled_log ∙ ap (λ (n : ℕ). take n cell.chain.entries) (stands.grown.tails slot owned refl) ∙ take_whole cell.chain.entries

  abbrev living : List ℕ
  living = ids s.book.snaps

  abbrev more : List Record
  more = with_parts living slot r.epoch killed []

  log_is : IsLog (log_of cell)
  log_is = IsLog-take cell.chain.tail cell.chain.entries (all.reached.order.logs slot).ordered

  left_marks : MarksOf living slot r.epoch [] ((all.rs ++ picked_in w) ++ more) left
  left_marks =
      retire_left w actor all.rs r (runs_inside w actor r runs) all.reached.locks (lent_holder (Retire place) actor s r stands.before refl) runs
      ((can_list g w actor r (filed_known g w all) runs).epoch (ap commits_at next)) all.marked place next stands.before.inside stands.hand
      (all.reached.order.logs slot).ordered

  left_chain : left.chain ≡ cell.chain
  left_chain = chain_stays living slot r.epoch killed cell

  left_block : left.block ≡ cell.block
  left_block = retired_block living slot r.epoch killed cell

  left_log : log_of left ≡ log_of cell
  left_log = ap (λ (c : ChainState). log c) left_chain

  abbrev T : Record → Type 0
  T d = IsTold living slot left.block (log_of left) d

  front : AllByRecursion T (all.rs ++ picked_in w)
  front = all_front T (all.rs ++ picked_in w) more left_marks.told

  once : (n : ℕ) → count (λ d. is_filed_on slot (log_of left) n d) ((all_records s.book.manifests ++ more) ++ pending_in w)
      ≡ bit (is_marked_kept (mark_at left.marks n))
  once n =
      let p : Record → Bool = λ d. is_filed_on slot (log_of left) n d in
      omega (
        arith,
        left_marks.kept_are n,
        count_append p (all_records s.book.manifests ++ more) (pending_in w),
        count_append p (all_records s.book.manifests) more,
        count_append p s.book.deferred (picked_in w),
        count_append p (all.rs ++ picked_in w) more,
        count_append p all.rs (picked_in w),
        count_filed p living s.book.manifests s.book.deferred all.rs all.listed.rising all.listed.list,
      )

  -- a part is there exactly where its pair is kept
  pub there_is : (n : ℕ) (pair : Pair) → slice_get (pairs left.block (log_of left)) n ≡ Some pair
      → is_there (mark_at left.marks n) ≡ keeps (keepers_of (pending_in w) s slot) pair
  there_is n pair e =
      let ms = s.book.manifests in
      let filed_told = all_filed T living ms s.book.deferred all.rs all.listed.list (all_front T all.rs (picked_in w) front) in
      let in_use = in_use_there living slot r.epoch [] ((all.rs ++ picked_in w) ++ more) left.block (log_of left) left.marks
      (subst IsLog (sym left_log) log_is) left_marks n pair e (all_records ms ++ more) (pending_in w)
      (all_append T (all_records ms) more (all_front T (all_records ms) s.book.deferred filed_told)
      (all_back T (all.rs ++ picked_in w) more left_marks.told))
      (all_append (HasHolder living) (all_records ms) more (held_filed living ms s.book.deferred all.rs all.listed.list)
      (parts_held living slot r.epoch killed [] tt))
      (once n) in
      sym in_use
      ∙ ap (λ (ids : List PartId). (is_current pair || is_held living pair) || list_any (has_name pair) ids)
      (append-nil (map name_of (filter (is_of_slot slot) (pending_in w))))

  -- ERASED ONLY WHERE OVER
  pub erased_over : is_erased left ≡ true → IsOver (pending_in w) s slot
  erased_over is =
      let parts = and_parts (is_gone (log_of left)) _ is in
      let P : Pair → Type 0 = λ pair. keeps (keepers_of (pending_in w) s slot) pair ≡ false in
      record {
        gone = ap is_gone (settled_log ∙ sym left_log) ∙ parts.0;
        kept =
            subst (λ (l : List Entry). AllByRecursion P (pairs cell.block l)) (left_log ∙ sym settled_log)
            (subst (λ (b : ℕ). AllByRecursion P (pairs b (log_of left))) left_block
            (each_of P (pairs left.block (log_of left)) (λ n pair e. sym (there_is n pair e) ∙ none_there left.marks (not_any _ parts.1) n)));
      }
