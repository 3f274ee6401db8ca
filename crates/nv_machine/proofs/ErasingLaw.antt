-- The law of erasing: in its retire step an inode that is gone is erased whole, and its number goes back to the pool.
use Rattle.std.proofs.Common.{Bool, List, None, Option, Some, [], ap, append-nil, arith, false, filter, get_or-set_same, if◌then◌else◌, inl, inr, length, map, nat_lt, refl, slice_get, slice_index_or, subst, sym, take, true, ℕ, ◌%◌, ◌++◌, ◌+◌, ◌<◌, ◌||◌, ◌∙◌, ◌≡◌}
use Rattle.std.specs.List.{list_any}
use Rattle.std.specs.Prelude.{nat_le}
use Rattle.std.specs.Option.{IsSome}
use Rattle.std.proofs.lemmas.Bool.{cases_lt, false≢true}
use Rattle.std.proofs.lemmas.List.{get_or_past}
use Rattle.nv_alloc.specs.Block.{BlockValue, numbers_of}
use Rattle.nv_alloc.specs.Numbers.{has}
use Rattle.nv_base.specs.declared.geometry.GeometryNumbers.{GeometryNumbers}
use Rattle.nv_base.specs.declared.limits.TheConstants.{NUMBER}
use Rattle.nv_book.specs.declared.record.Record.{Record}
use Rattle.nv_book.specs.Listed.{all_records}
use Rattle.nv_calls.specs.Retiring.{erased, freed_by, name_of, number_back}
use Rattle.nv_calls.proofs.Retires.{chain_stays, generation_stays}
use Rattle.nv_cell.specs.Cell.{CellState, log_of}
use Rattle.nv_cell.specs.Readers.{is_erased, is_gone, is_withheld}
use Rattle.nv_cell.specs.declared.killed.KilledPart.{KilledPart}
use Rattle.nv_cell.specs.Marks.{bit, is_there, mark_at}
use Rattle.nv_cell.proofs.Publishing.{take_whole}
use Rattle.nv_cell.proofs.ValuesNow.{IsLog-take}
use Rattle.nv_entry.specs.Covered.{part_total}
use Rattle.nv_entry.specs.Held.{has_name, is_current, is_held, is_named, is_needed, keeps}
use Rattle.nv_entry.specs.Log.{IsLog, pairs}
use Rattle.nv_entry.specs.declared.item.Entry.{Entry}
use Rattle.nv_entry.specs.declared.part.PartId.{PartId}
use Rattle.nv_entry.proofs.Covering.{at_place_of}
use Rattle.nv_entry.specs.declared.held.Pair.{Pair}
use Rattle.nv_epoch.specs.SnapList.{ids}
use Rattle.nv_log.specs.Chain.{ChainState, log}
use Rattle.nv_machine.specs.Erasing.{IsErasedWhole, IsOnItsWay, IsOver, emptied, is_late, keepers_of}
use Rattle.nv_machine.specs.Hands.{IsParted}
use Rattle.nv_machine.specs.Held.{in_use_by, is_of_slot, killed_in, pending_at, pending_in, retention_at}
use Rattle.nv_machine.specs.Locks.{commits_at}
use Rattle.nv_machine.specs.Recorded.{is_marked_kept, with_parts}
use Rattle.nv_machine.specs.Kept.{AreClosed, Knows}
use Rattle.nv_machine.specs.Kinds.{first_killed, retired_book, retired_cell, with_erased, with_freed}
use Rattle.nv_machine.specs.Reads.{slot_at, written_slots}
use Rattle.nv_machine.specs.Sequence.{retiring}
use Rattle.nv_machine.specs.Settled.{settled}
use Rattle.nv_machine.specs.Starts.{IsStart}
use Rattle.nv_machine.specs.Step.{Step, after, changed, kind_turn, step, turned}
use Rattle.nv_machine.specs.World.{Actor, Event, Go, HandState, Leave, Next, Retire, Running, Shared, World, actor_at, cell_at, go_to, idle, no_cell, owner_at, with_book, with_cell}
use Rattle.nv_machine.proofs.EveryWorld.{all_known, reached}
use Rattle.nv_machine.proofs.WorldFacts.{have_marks, log_in}
use Rattle.nv_machine.proofs.ErasedCells.{all_freed, behind, erased_slot, gone_erased}
use Rattle.nv_machine.proofs.OverEvents.{runs_inside}
use Rattle.nv_machine.proofs.SingleEvents.{goes}
use Rattle.nv_machine.proofs.FiledCommits.{retire_left}
use Rattle.nv_machine.proofs.EachElement.{all_append, all_back, all_front}
use Rattle.nv_machine.proofs.FiledLists.{HasHolder, all_filed, count, count_append, count_filed, held_filed}
use Rattle.nv_machine.proofs.FiledMarks.{IsTold, is_filed_on}
use Rattle.nv_machine.proofs.FiledRuns.{can_list}
use Rattle.nv_machine.proofs.FitsEvents.{IsKnown, filed_known}
use Rattle.nv_machine.proofs.FiledSteps.{MarksOf, parts_held, retired_block}
use Rattle.nv_machine.proofs.FiledWorlds.{no_killed, picked_in}
use Rattle.nv_machine.proofs.HeldMarks.{used_there}
use Rattle.nv_machine.proofs.MarksInUse.{in_use_there, same_default}
use Rattle.nv_machine.proofs.Pairs.{pair_there}
use Rattle.nv_machine.proofs.GoneRuns.{none_retiring}
use Rattle.nv_machine.proofs.Journals.{closed_tail}
use Rattle.nv_machine.proofs.LogsKeptRuns.{known_at}
use Rattle.nv_machine.proofs.LocksHeld.{lent_cell, lent_holder}
use Rattle.nv_machine.proofs.BlockNumbers.{lent_inside}
use Rattle.nv_machine.proofs.PartPlaces.{retired_parted}
use Rattle.nv_machine.proofs.PoolCommits.{erased_number}
use Rattle.nv_machine.proofs.PoolRuns.{standing}
use Rattle.nv_machine.proofs.PoolTurns.{Standing}
use Rattle.nv_machine.proofs.CellChanges.{retired_times}

-- ---- the retire step

module _ (g : GeometryNumbers) (w : World) (all : IsKnown g w) (actor place : ℕ) (r : Running)
    (runs : (actor_at w actor).running ≡ Some r) (next : r.next ≡ Retire place) where
  abbrev s : Shared
  s = w.shared

  abbrev h : HandState
  h = (actor_at w actor).hand

  abbrev slot : ℕ
  slot = slot_at (written_slots r) place

  abbrev cell : CellState
  cell = cell_at s slot

  abbrev killed : List KilledPart
  killed = first_killed h.killed

  abbrev left : CellState
  left = retired_cell slot killed s r

  here : actor < length w.actors
  here = runs_inside w actor r runs

  stands : Standing g (Retire place) actor s h r
  stands = subst (λ (k : Next). Standing g k actor s h r) next
      (standing g w actor r all.reached.locks all.numbers all.reached.grown all.pooled runs)

  low : slot < length s.cells
  low = lent_inside (Retire place) actor s r stands.before slot refl

  owned : owner_at s slot ≡ Some actor
  owned = lent_cell (Retire place) (length s.lists) actor s r stands.before slot refl

  closed : AreClosed s.book.journals
  closed =
      let knows : Knows (Retire place) w.numbers.block s (actor % length s.lists) h r =
      subst (λ (k : Next). Knows k w.numbers.block s (actor % length s.lists) h r) next (known_at w actor r all.reached.kept runs) in
      knows.2

  settled_log : settled s slot ≡ log_of cell
  settled_log = ap (λ (n : ℕ). take n cell.chain.entries) (closed_tail s.book.journals slot cell.chain.tail closed)

  whole : log_of cell ≡ cell.chain.entries
  whole = ap (λ (n : ℕ). take n cell.chain.entries) (stands.grown.tails slot owned refl) ∙ take_whole cell.chain.entries

  abbrev living : List ℕ
  living = ids s.book.snaps

  abbrev more : List Record
  more = with_parts living slot r.epoch killed []

  log_is : IsLog (log_of cell)
  log_is = IsLog-take cell.chain.tail cell.chain.entries (all.reached.order.logs slot).ordered

  left_marks : MarksOf living slot r.epoch [] ((all.rs ++ picked_in w) ++ more) left
  left_marks =
      retire_left w actor all.rs r here all.reached.locks (lent_holder (Retire place) actor s r stands.before refl) runs
      ((can_list g w actor r (filed_known g w all) runs).epoch (ap commits_at next)) all.marked place next stands.before.inside stands.hand
      (all.reached.order.logs slot).ordered

  left_chain : left.chain ≡ cell.chain
  left_chain = chain_stays living slot r.epoch killed cell

  left_block : left.block ≡ cell.block
  left_block = retired_block living slot r.epoch killed cell

  left_log : log_of left ≡ log_of cell
  left_log = ap (λ (c : ChainState). log c) left_chain

  left_parted : IsParted g.block left
  left_parted = retired_parted g.block living slot r.epoch killed cell (all.numbers.cells slot)

  module _ (over : IsOver (pending_in w) s slot) where
    gone : is_gone (log_of cell) ≡ true
    gone = ap is_gone (sym settled_log) ∙ over.gone

    abbrev T : Record → Type 0
    T d = IsTold living slot left.block (log_of left) d

    -- nothing is there of what is left
    outs : (n : ℕ) → n < length left.marks → is_there (mark_at left.marks n) ≡ false
    outs n lt =
        go (slice_get (pairs left.block (log_of left)) n) refl
        (pair_there left.block (log_of left) n (subst IsLog (sym left_log) log_is) (omega (arith, lt, left_marks.len))) where
          go : (o : Option Pair) → slice_get (pairs left.block (log_of left)) n ≡ o → IsSome o → is_there (mark_at left.marks n) ≡ false
          go None e some = absurd (false≢true some)
          go (Some pair) e some =
              let ms = s.book.manifests in
              let front = all_front T (all.rs ++ picked_in w) more left_marks.told in
              let filed_told = all_filed T living ms s.book.deferred all.rs all.listed.list (all_front T all.rs (picked_in w) front) in
              let in_use = in_use_there living slot r.epoch [] ((all.rs ++ picked_in w) ++ more) left.block (log_of left) left.marks
              (subst IsLog (sym left_log) log_is) left_marks n pair e (all_records ms ++ more) (pending_in w)
              (all_append T (all_records ms) more (all_front T (all_records ms) s.book.deferred filed_told)
              (all_back T (all.rs ++ picked_in w) more left_marks.told))
              (all_append (HasHolder living) (all_records ms) more (held_filed living ms s.book.deferred all.rs all.listed.list)
              (parts_held living slot r.epoch killed [] tt))
              (once pair) in
              let at : slice_get (pairs cell.block (settled s slot)) n ≡ Some pair =
              ap (λ (l : List Entry). slice_get (pairs cell.block l) n) (settled_log ∙ sym left_log)
              ∙ ap (λ (b : ℕ). slice_get (pairs b (log_of left)) n) (sym left_block) ∙ e in
              let kept = at_place_of (λ (p : Pair). keeps (keepers_of (pending_in w) s slot) p ≡ false)
              (pairs cell.block (settled s slot)) n pair
              over.kept at in
              sym in_use
              ∙ ap (λ (ids : List PartId). (is_current pair || is_held living pair) || list_any (has_name pair) ids)
              (append-nil (map name_of (filter (is_of_slot slot) (pending_in w))))
              ∙ kept
            where
              once : (pair : Pair) → count (λ d. is_filed_on slot (log_of left) n d)
                  ((all_records s.book.manifests ++ more) ++ pending_in w)
                  ≡ bit (is_marked_kept (mark_at left.marks n))
              once pair =
                  let p : Record → Bool = λ d. is_filed_on slot (log_of left) n d in
                  omega (
                    arith,
                    left_marks.kept_are n,
                    count_append p (all_records s.book.manifests ++ more) (pending_in w),
                    count_append p (all_records s.book.manifests) more,
                    count_append p s.book.deferred (picked_in w),
                    count_append p (all.rs ++ picked_in w) more,
                    count_append p all.rs (picked_in w),
                    count_filed p living s.book.manifests s.book.deferred all.rs all.listed.rising all.listed.list,
                  )

    is_now : is_erased left ≡ true
    is_now = gone_erased left (ap (λ (c : ChainState). is_gone (log c)) left_chain ∙ gone) outs

    hand_before : h.ino ≡ None
    hand_before = erased_number g w.numbers.block actor s h r place stands is_now

    abbrev t : Shared
    t = with_cell slot (erased left) (with_book (retired_book slot killed s r) s)

    abbrev made : HandState
    made = with_erased slot left (with_freed slot killed s r h)

    abbrev later : Running
    later = go_to (retiring (place + 1) (written_slots r)) r

    abbrev new : World
    new = changed t made (Some later) actor w

    pub stepped : (granted : Bool) → (step w (Go actor granted)).world ≡ new
    stepped granted =
        ap (λ (x : Step). x.world) (goes w actor granted r here runs).is_turn
        ∙ ap (λ (k : Next). (turned (kind_turn k w.numbers.block actor granted s h r) actor w).world) next

    own : actor_at new actor ≡ record { hand = made; running = Some later }
    own = get_or-set_same w.actors actor (record { hand = made; running = Some later }) idle here

    empty : cell_at t slot ≡ emptied cell
    empty = get_or-set_same s.cells slot (erased left) no_cell low ∙ erased_slot (ids s.book.snaps) slot r.epoch killed cell is_now

    abbrev full : HandState
    full = record (with_freed slot killed s r h) { chain = h.chain ++ left.chain.blocks; ino = number_back slot left h.ino }

    made_is : made ≡ full
    made_is = ap (λ (b : Bool). if b then full else with_freed slot killed s r h) is_now

    hand_is : (actor_at new actor).hand ≡ full
    hand_is = ap (λ (x : Actor). x.hand) own ∙ made_is

    number_is : full.ino ≡ (if is_withheld (cell_at t slot) then None else Some slot)
    number_is =
        ap (λ (o : Option ℕ). number_back slot left o) hand_before
        ∙ ap (λ (n : ℕ). if nat_le NUMBER (n + 1) then None else Some slot)
        (generation_stays (ids s.book.snaps) slot r.epoch killed cell)
        ∙ ap (λ (c : CellState). if is_withheld c then None else Some slot) (sym empty)

    left_none : (n : ℕ) → slice_index_or left.blocks n None ≡ None
    left_none n = elim (cases_lt n (length left.marks)) [
      | inl lt ↦ left_parted.out n (ap is_there (same_default left.marks n lt) ∙ outs n lt)
      | inr ge ↦
          let entries = ap (λ (c : ChainState). part_total c.entries) left_chain in
          let log = ap (λ (c : ChainState). part_total (log c)) left_chain in
          let same = ap part_total whole in
          get_or_past left.blocks n None (omega (arith, ge, left_parted.marks, left_parted.places, entries, log, same))
    ]

    freed : (n : ℕ) (b : BlockValue) → slice_index_or cell.blocks n None ≡ Some b → has (numbers_of full.blocks) b.number ≡ true
    freed n b is =
        behind h.blocks (freed_by living slot r.epoch killed cell) b.number
        (all_freed cell left (freed_by living slot r.epoch killed cell) left_chain
        (λ k. retired_times k living slot r.epoch killed cell) left_none n b is)

    pub is_erased_whole : IsErasedWhole actor slot w new
    is_erased_whole = record {
      slot = empty;
      chain = ap (λ (x : HandState). x.chain) hand_is ∙ ap (λ (c : ChainState). h.chain ++ c.blocks) left_chain;
      blocks = λ n b is. subst (λ (x : HandState). has (numbers_of x.blocks) b.number ≡ true) (sym hand_is) (freed n b is);
      number = ap (λ (x : HandState). x.ino) hand_is ∙ number_is;
    }

    late_next : (b : Bool) → is_late (if b then Retire (place + 1) else Leave) ≡ true
    late_next true = refl
    late_next false = refl

    pub is_on_its_way : is_withheld (cell_at t slot) ≡ false → IsOnItsWay actor slot new
    is_on_its_way free = record {
      running = later;
      runs = ap (λ (x : Actor). x.running) own;
      late = late_next (nat_lt (place + 1) (length (written_slots r)));
      number = ap (λ (x : HandState). x.ino) hand_is ∙ number_is
          ∙ ap (λ (b : Bool). if b then None else Some slot) free;
    }

-- ---- the law, of the retire step

pub retire_erases : (g : GeometryNumbers) (start : World) (records : List Record) (events : List Event) (actor place : ℕ)
    (granted : Bool) (r : Running) → IsStart g start records
    → (actor_at (after start events) actor).running ≡ Some r → r.next ≡ Retire place
    → IsOver (pending_in (after start events)) (after start events).shared (slot_at (written_slots r) place)
    → IsErasedWhole actor (slot_at (written_slots r) place) (after start events)
    (step (after start events) (Go actor granted)).world
retire_erases g start records events actor place granted r is_start runs next over =
    let w = after start events in
    let all = all_known g start records is_start events in
    subst (λ (v : World). IsErasedWhole actor (slot_at (written_slots r) place) w v)
    (sym (stepped g w all actor place r runs next over granted)) (is_erased_whole g w all actor place r runs next over)

pub hand_has_it : (g : GeometryNumbers) (start : World) (records : List Record) (events : List Event) (actor place : ℕ)
    (granted : Bool) (r : Running) → IsStart g start records
    → (actor_at (after start events) actor).running ≡ Some r → r.next ≡ Retire place
    → IsOver (pending_in (after start events)) (after start events).shared (slot_at (written_slots r) place)
    → is_withheld (cell_at (step (after start events) (Go actor granted)).world.shared (slot_at (written_slots r) place)) ≡ false
    → IsOnItsWay actor (slot_at (written_slots r) place) (step (after start events) (Go actor granted)).world
hand_has_it g start records events actor place granted r is_start runs next over free =
    let w = after start events in
    let all = all_known g start records is_start events in
    let slot = slot_at (written_slots r) place in
    let is = stepped g w all actor place r runs next over granted in
    subst (λ (v : World). IsOnItsWay actor slot v) (sym is)
    (is_on_its_way g w all actor place r runs next over (sym (ap (λ (v : World). is_withheld (cell_at v.shared slot)) is) ∙ free))

-- ---- no slot has one with the commit lock free

pub none_stays : (g : GeometryNumbers) (start : World) (records : List Record) (events : List Event) (ino : ℕ) → IsStart g start records
    → (after start events).shared.holder ≡ None
    → IsOver (pending_in (after start events)) (after start events).shared ino → ⊥
none_stays g start records events ino is_start free over =
    none_retiring g start records events ino is_start free (gone_erased cell (ap is_gone (sym same) ∙ over.gone) outs) where
      w : World
      w = after start events

      cell : CellState
      cell = cell_at w.shared ino

      closed : AreClosed w.shared.book.journals
      closed = (reached g start records events is_start).kept.logs.closed free

      same : settled w.shared ino ≡ log_of cell
      same = ap (λ (n : ℕ). take n cell.chain.entries) (closed_tail w.shared.book.journals ino cell.chain.tail closed)

      none : killed_in w ino ≡ []
      none = no_killed w ino (reached g start records events is_start).locks free

      outs : (n : ℕ) → n < length cell.marks → is_there (mark_at cell.marks n) ≡ false
      outs n lt =
          ap is_there (sym (same_default cell.marks n lt)) ∙ sym (used_there g start records events ino n is_start)
          ∙ go (slice_get (pairs cell.block (log_of cell)) n) refl
          (pair_there cell.block (log_of cell) n (log_in g start records events ino is_start)
          (let len = (have_marks g start records events ino is_start).len in omega (arith, lt, len))) where
            go : (o : Option Pair) → slice_get (pairs cell.block (log_of cell)) n ≡ o → IsSome o → in_use_by (retention_at w ino) o ≡ false
            go None e some = absurd (false≢true some)
            go (Some pair) e some =
                let at : slice_get (pairs cell.block (settled w.shared ino)) n ≡ Some pair =
                ap (λ (l : List Entry). slice_get (pairs cell.block l) n) same ∙ e in
                ap (λ (parts : List KilledPart). is_needed (ids w.shared.book.snaps) pair
                || is_named (pending_at w ino ++ map (λ (k : KilledPart). k.part) parts) pair) none
                ∙ ap (λ (names : List PartId). is_needed (ids w.shared.book.snaps) pair || is_named names pair)
                (append-nil (pending_at w ino))
                ∙ at_place_of (λ (p : Pair). keeps (keepers_of (pending_in w) w.shared ino) p ≡ false)
                (pairs cell.block (settled w.shared ino)) n
                pair over.kept at
