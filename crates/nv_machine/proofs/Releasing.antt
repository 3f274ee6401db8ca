-- The law of erasing, of the release step: where the record that it releases was the last that kept a gone inode,
-- this is erased whole.
use Rattle.std.proofs.Common.{◌≡◌, ℕ, ◌<◌, ◌||◌, ◌++◌, ◌∙◌, Bool, true, false, List, [], ◌∷◌, Option, Some, None, ap, append-nil, arith, filter, get_or-set_same, if◌then◌else◌, inl, inr, length, map, refl, slice_get, slice_index_or, subst, sym, take}
use Rattle.std.specs.List.{AllByRecursion, list_any}
use Rattle.std.specs.Option.{IsSome}
use Rattle.std.proofs.lemmas.Bool.{cases_lt, false≢true}
use Rattle.std.proofs.lemmas.List.{get_or_past}
use Rattle.nv_alloc.specs.Block.{BlockValue, numbers_of}
use Rattle.nv_alloc.specs.Numbers.{has}
use Rattle.nv_base.specs.declared.geometry.GeometryNumbers.{GeometryNumbers}
use Rattle.nv_book.specs.Listed.{all_records}
use Rattle.nv_book.specs.Records.{holder_of}
use Rattle.nv_book.specs.declared.record.Record.{Record}
use Rattle.nv_calls.specs.Retiring.{erased, name_of, number_back, released, released_blocks}
use Rattle.nv_cell.specs.Cell.{CellState, log_of, number_in}
use Rattle.nv_cell.specs.Marks.{bit, is_there, mark_at}
use Rattle.nv_cell.specs.Readers.{is_erased, is_gone, is_withheld}
use Rattle.nv_cell.proofs.Publishing.{take_whole}
use Rattle.nv_cell.proofs.ValuesNow.{IsLog-take}
use Rattle.nv_entry.specs.Covered.{part_total}
use Rattle.nv_entry.specs.Held.{has_name, is_current, is_held, keeps}
use Rattle.nv_entry.specs.Log.{IsLog, pairs}
use Rattle.nv_entry.specs.declared.held.Pair.{Pair}
use Rattle.nv_entry.specs.declared.item.Entry.{Entry}
use Rattle.nv_entry.specs.declared.part.PartId.{PartId}
use Rattle.nv_entry.proofs.Covering.{at_place_of}
use Rattle.nv_epoch.specs.SnapList.{ids}
use Rattle.nv_machine.proofs.EveryWorld.{all_known}
use Rattle.nv_machine.specs.Erasing.{IsErasedWhole, IsOnItsWay, IsOver, emptied, keepers_of, pending_but}
use Rattle.nv_machine.specs.Grown.{HasGrown, HasGrownBy}
use Rattle.nv_machine.specs.Hands.{IsParted}
use Rattle.nv_machine.specs.Held.{is_of_slot, killed_by_call, killed_in, killed_slots, parts_for, pending_in, picked_at, picked_by_actor, picked_by_call}
use Rattle.nv_machine.specs.Kinds.{end_turn, with_erased}
use Rattle.nv_machine.specs.Reads.{written_slots}
use Rattle.nv_machine.specs.Recorded.{is_marked_kept}
use Rattle.nv_machine.specs.Settled.{settled}
use Rattle.nv_machine.specs.SnapshotOrCleaner.{one_more, with_released}
use Rattle.nv_machine.specs.Starts.{IsStart}
use Rattle.nv_machine.specs.Step.{Step, after, changed, kind_turn, step, turned}
use Rattle.nv_machine.specs.World.{Actor, Draining, Drains, Event, Go, HandState, Next, Release, Running, Shared, SnapshotOrCleaner, Unlock, World, actor_at, cell_at, empty_hand, idle, no_cell, owner_at, with_cell}
use Rattle.nv_machine.proofs.ErasedCells.{all_freed, behind, gone_erased}
use Rattle.nv_machine.proofs.OverEvents.{runs_inside}
use Rattle.nv_machine.proofs.FitsEvents.{IsKnown, filed_known}
use Rattle.nv_machine.proofs.SingleEvents.{goes}
use Rattle.nv_machine.proofs.EachElement.{all_append, all_back, all_front}
use Rattle.nv_machine.proofs.FiledLists.{all_filed, count, count_append, count_cons, count_filed, held_filed}
use Rattle.nv_machine.proofs.FiledMarks.{IsTold, is_filed_on}
use Rattle.nv_machine.proofs.FiledRuns.{can_list}
use Rattle.nv_machine.proofs.FiledSteps.{MarksOf, released_cell}
use Rattle.nv_machine.proofs.KilledByOthers.{none_locked}
use Rattle.nv_machine.proofs.FiledWorlds.{marks_as, picked_in}
use Rattle.nv_machine.proofs.MarksInUse.{in_use_there, same_default}
use Rattle.nv_machine.proofs.LocksHeld.{Before, lent_cell}
use Rattle.nv_machine.proofs.LocksOverEvents.{before}
use Rattle.nv_machine.proofs.Pairs.{IsRecordOf, pair_there}
use Rattle.nv_machine.proofs.PartPlaces.{settled_parted}
use Rattle.nv_machine.proofs.PartsFor.{own_all, swap_all, swap_count}
use Rattle.nv_machine.proofs.CellChanges.{settled_times}

-- ---- the release step

module _ (g : GeometryNumbers) (w : World) (all : IsKnown g w) (actor : ℕ) (draining : Draining) (d : Record) (r : Running)
    (runs : (actor_at w actor).running ≡ Some r) (next : r.next ≡ SnapshotOrCleaner (Release draining d)) where
  abbrev s : Shared
  s = w.shared

  abbrev h : HandState
  h = (actor_at w actor).hand

  abbrev living : List ℕ
  living = ids w.shared.book.snaps

  abbrev epoch : ℕ
  epoch = w.shared.book.snaps.epoch

  abbrev cell : CellState
  cell = cell_at w.shared d.ino

  abbrev left : CellState
  left = released d cell

  -- the world but for what this actor has picked
  abbrev but : World
  but = changed w.shared empty_hand None actor w

  here : actor < length w.actors
  here = runs_inside w actor r runs

  alone : (h ≡ empty_hand) × (r.slots ≡ d.ino ∷ [])
  alone =
      (can_list g w actor r (filed_known g w all) runs).alone
      (Release draining d) next

  lock_is : Before actor s (SnapshotOrCleaner (Release draining d)) r
  lock_is = subst (λ (k : Next). Before actor s k r) next (before w actor r all.reached.locks runs)

  low : d.ino < length s.cells
  low = let slots = rw alone.1 at lock_is.are.inside in omega (arith, slots.0, lock_is.wide)

  owned : owner_at s d.ino ≡ Some actor
  owned = lent_cell (SnapshotOrCleaner (Release draining d)) (length s.lists) actor s r lock_is d.ino refl

  grown : HasGrown (SnapshotOrCleaner (Release draining d)) s actor r
  grown =
      let own : HasGrownBy (Some r) s actor = subst (λ (o : Option Running). HasGrownBy o s actor) runs (all.reached.grown.each actor) in
      subst (λ (k : Next). HasGrown k s actor r) next own

  whole : log_of cell ≡ cell.chain.entries
  whole = ap (λ (n : ℕ). take n cell.chain.entries) (grown.tails d.ino owned refl) ∙ take_whole cell.chain.entries

  settled_log : settled s d.ino ≡ log_of cell
  settled_log = sym (whole ∙ grown.entries d.ino owned ∙ append-nil (settled s d.ino))

  log_is : IsLog (log_of cell)
  log_is = IsLog-take cell.chain.tail cell.chain.entries (all.reached.order.logs d.ino).ordered

  had : picked_by_actor (actor_at w actor) ≡ d ∷ []
  had = ap (λ (o : Option Running). picked_by_call o) runs ∙ ap picked_at next

  abbrev T : Record → Type 0
  T x = IsTold living d.ino cell.block (log_of cell) x

  told : AllByRecursion T (all.rs ++ picked_in but)
  told =
      let was = (all.marked.cells d.ino).told in
      all_append T all.rs (picked_in but) (all_front T all.rs (picked_in w) was)
      (swap_all picked_by_actor T w.actors actor (record { hand = empty_hand; running = None }) (all_back T all.rs (picked_in w) was) tt)

  pair : IsRecordOf living cell.block (log_of cell) d
  pair =
      let own : AllByRecursion T (d ∷ []) =
      rw had at (own_all picked_by_actor T w.actors actor here (all_back T all.rs (picked_in w) (all.marked.cells d.ino).told)) in
      own.0 refl

  unheld : holder_of living d ≡ None
  unheld =
      let own : AllByRecursion (λ x. holder_of living x ≡ None) (d ∷ []) =
      rw had at (own_all picked_by_actor (λ x. holder_of living x ≡ None) w.actors actor here all.marked.unheld) in
      own.0

  none : killed_in w d.ino ≡ []
  none = none_locked w actor d.ino all.reached.locks owned
      (ap (λ (o : Option Running). killed_by_call o h d.ino) runs
      ∙ ap (λ (k : Next). parts_for (killed_slots k (written_slots r)) h.killed d.ino) next)

  left_marks : MarksOf living d.ino epoch [] (all.rs ++ picked_in but) left
  left_marks =
      marks_as living d.ino epoch (killed_in w d.ino) [] (all.rs ++ picked_in but) (all.rs ++ picked_in but) left (sym none) refl
      (released_cell living epoch (killed_in w d.ino) (all.rs ++ picked_in w) (all.rs ++ picked_in but) d cell log_is
      (all.marked.cells d.ino) pair
      (λ p. omega (
        arith,
        swap_count picked_by_actor p w.actors actor (record { hand = empty_hand; running = None }) here,
        ap (λ (ys : List Record). count p ys) had,
        count_cons p d [],
        count_append p all.rs (picked_in w),
        count_append p all.rs (picked_in but),
      )) told unheld)

  module _ (over : IsOver (pending_but actor w) s d.ino) where
    gone : is_gone (log_of cell) ≡ true
    gone = ap is_gone (sym settled_log) ∙ over.gone

    outs : (n : ℕ) → n < length left.marks → is_there (mark_at left.marks n) ≡ false
    outs n lt =
        go (slice_get (pairs cell.block (log_of cell)) n) refl
        (pair_there cell.block (log_of cell) n log_is (omega (arith, lt, left_marks.len))) where
          go : (o : Option Pair) → slice_get (pairs cell.block (log_of cell)) n ≡ o → IsSome o → is_there (mark_at left.marks n) ≡ false
          go None e some = absurd (false≢true some)
          go (Some it) e some =
              let filed_told = all_filed T living s.book.manifests s.book.deferred all.rs all.listed.list
              (all_front T all.rs (picked_in but) told) in
              let p : Record → Bool = λ x. is_filed_on d.ino (log_of cell) n x in
              let once : count p (all_records s.book.manifests ++ pending_in but) ≡ bit (is_marked_kept (mark_at left.marks n)) = omega (
                arith,
                left_marks.kept_are n,
                count_append p (all_records s.book.manifests) (pending_in but),
                count_append p s.book.deferred (picked_in but),
                count_append p all.rs (picked_in but),
                count_filed p living s.book.manifests s.book.deferred all.rs all.listed.rising all.listed.list,
              ) in
              let in_use = in_use_there living d.ino epoch [] (all.rs ++ picked_in but) cell.block (log_of cell) left.marks log_is
              left_marks n
              it e (all_records s.book.manifests) (pending_in but) (all_front T (all_records s.book.manifests) s.book.deferred filed_told)
              (held_filed living s.book.manifests s.book.deferred all.rs all.listed.list) once in
              let at : slice_get (pairs cell.block (settled s d.ino)) n ≡ Some it =
              ap (λ (l : List Entry). slice_get (pairs cell.block l) n) settled_log ∙ e in
              sym in_use
              ∙ ap (λ (names : List PartId). (is_current it || is_held living it) || list_any (has_name it) names)
              (append-nil (map name_of (filter (is_of_slot d.ino) (pending_in but))))
              ∙ at_place_of (λ (x : Pair). keeps (keepers_of (pending_but actor w) s d.ino) x ≡ false)
              (pairs cell.block (settled s d.ino)) n it
              over.kept at

    is_now : is_erased left ≡ true
    is_now = gone_erased left gone outs

    abbrev t : Shared
    t = with_cell d.ino (erased left) s

    abbrev made : HandState
    made = with_erased d.ino left (with_released d s h)

    abbrev later : Running
    later = record r { ending = Drains (one_more draining); next = Unlock 0 }

    abbrev new : World
    new = changed t made (Some later) actor w

    pub stepped : (granted : Bool) → (step w (Go actor granted)).world ≡ new
    stepped granted =
        ap (λ (x : Step). x.world) (goes w actor granted r here runs).is_turn
        ∙ ap (λ (k : Next). (turned (kind_turn k w.numbers.block actor granted s h r) actor w).world) next
        ∙ ap (λ (slots : List ℕ). (turned (end_turn slots (Drains (one_more draining)) t made r) actor w).world) alone.1

    own : actor_at new actor ≡ record { hand = made; running = Some later }
    own = get_or-set_same w.actors actor (record { hand = made; running = Some later }) idle here

    empty : cell_at t d.ino ≡ emptied cell
    empty = get_or-set_same s.cells d.ino (erased left) no_cell low ∙ ap (λ (b : Bool). if b then emptied left else left) is_now

    abbrev full : HandState
    full = record (with_released d s h) { chain = h.chain ++ cell.chain.blocks; ino = number_back d.ino left h.ino }

    hand_is : (actor_at new actor).hand ≡ full
    hand_is =
        ap (λ (x : Actor). x.hand) own ∙ ap (λ (b : Bool). if b then full else with_released d s h) is_now

    number_is : full.ino ≡ (if is_withheld (cell_at t d.ino) then None else Some d.ino)
    number_is =
        ap (λ (x : HandState). number_back d.ino left x.ino) alone.0
        ∙ ap (λ (c : CellState). if is_withheld c then None else Some d.ino) (sym empty)

    left_none : (n : ℕ) → slice_index_or left.blocks n None ≡ None
    left_none n = elim (cases_lt n (length left.marks)) [
      | inl lt ↦ left_parted.out n (ap is_there (same_default left.marks n lt) ∙ outs n lt)
      | inr ge ↦ get_or_past left.blocks n None (omega (arith, ge, left_parted.marks, left_parted.places, ap part_total whole))
    ] where
      left_parted : IsParted g.block left
      left_parted = settled_parted g.block None (number_in cell (name_of d)) cell (all.numbers.cells d.ino)

    freed : (n : ℕ) (b : BlockValue) → slice_index_or cell.blocks n None ≡ Some b → has (numbers_of full.blocks) b.number ≡ true
    freed n b is =
        behind h.blocks (released_blocks d cell) b.number
        (all_freed cell left (released_blocks d cell) refl (λ k. settled_times k None (number_in cell (name_of d)) cell) left_none n b is)

    pub is_erased_whole : IsErasedWhole actor d.ino w new
    is_erased_whole = record {
      slot = empty;
      chain = ap (λ (x : HandState). x.chain) hand_is;
      blocks = λ n b is. subst (λ (x : HandState). has (numbers_of x.blocks) b.number ≡ true) (sym hand_is) (freed n b is);
      number = ap (λ (x : HandState). x.ino) hand_is ∙ number_is;
    }

    pub is_on_its_way : is_withheld (cell_at t d.ino) ≡ false → IsOnItsWay actor d.ino new
    is_on_its_way free = record {
      running = later;
      runs = ap (λ (x : Actor). x.running) own;
      late = refl;
      number = ap (λ (x : HandState). x.ino) hand_is ∙ number_is ∙ ap (λ (b : Bool). if b then None else Some d.ino) free;
    }

-- ---- the law, of the release step

pub release_erases : (g : GeometryNumbers) (start : World) (records : List Record) (events : List Event) (actor : ℕ)
    (draining : Draining) (picked : Record) (granted : Bool)
    (r : Running) → IsStart g start records
    → (actor_at (after start events) actor).running ≡ Some r → r.next ≡ SnapshotOrCleaner (Release draining picked)
    → IsOver (pending_but actor (after start events)) (after start events).shared picked.ino
    → IsErasedWhole actor picked.ino (after start events) (step (after start events) (Go actor granted)).world
release_erases g start records events actor draining picked granted r is_start runs next over =
    let w = after start events in
    let all = all_known g start records is_start events in
    subst (λ (v : World). IsErasedWhole actor picked.ino w v) (sym (stepped g w all actor draining picked r runs next over granted))
    (is_erased_whole g w all actor draining picked r runs next over)

pub released_has_it : (g : GeometryNumbers) (start : World) (records : List Record) (events : List Event) (actor : ℕ)
    (draining : Draining) (picked : Record) (granted : Bool)
    (r : Running) → IsStart g start records
    → (actor_at (after start events) actor).running ≡ Some r → r.next ≡ SnapshotOrCleaner (Release draining picked)
    → IsOver (pending_but actor (after start events)) (after start events).shared picked.ino
    → is_withheld (cell_at (step (after start events) (Go actor granted)).world.shared picked.ino) ≡ false
    → IsOnItsWay actor picked.ino (step (after start events) (Go actor granted)).world
released_has_it g start records events actor draining picked granted r is_start runs next over free =
    let w = after start events in
    let all = all_known g start records is_start events in
    let is = stepped g w all actor draining picked r runs next over granted in
    subst (λ (v : World). IsOnItsWay actor picked.ino v) (sym is)
    (is_on_its_way g w all actor draining picked r runs next over
    (sym (ap (λ (v : World). is_withheld (cell_at v.shared picked.ino)) is) ∙ free))
