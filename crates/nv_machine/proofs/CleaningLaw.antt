-- What a cleaner leaves of its log by what keeps the pairs of its slot.
use Rattle.std.proofs.Common.{◌≡◌, ◌∙◌, ℕ, ◌++◌, ◌<◌, Bool, false, true, filter, List, [], ◌∷◌, Option, Some, None, ap, arith, get_or-set_same, length, map, refl, subst, sym, take_all}
use Rattle.std.specs.Int.{div_ceil}
use Rattle.nv_base.specs.declared.geometry.GeometryNumbers.{GeometryNumbers}
use Rattle.nv_book.specs.Book.{BookState}
use Rattle.nv_book.specs.declared.record.Record.{Record}
use Rattle.nv_calls.specs.Retiring.{name_of}
use Rattle.nv_cell.specs.Cell.{CellState, IsCell, log_of}
use Rattle.nv_cell.specs.Removal.{log_flags}
use Rattle.nv_cell.specs.Retained.{AreMarksOf}
use Rattle.nv_cell.specs.declared.killed.KilledPart.{KilledPart}
use Rattle.nv_cell.proofs.ValuesNow.{IsLog-take}
use Rattle.nv_clean.specs.Cleaned.{answer_of}
use Rattle.nv_clean.specs.Plans.{entries_staying, pages_staying, wanted_of}
use Rattle.nv_clean.specs.declared.cleaned.Cleaned.{Cleaned}
use Rattle.nv_clean.proofs.Cleanings.{entries_are, none_left, pages_are, pages_flagged}
use Rattle.nv_entry.specs.Clean.{thorough_leaves, pages_left, pages_stay, select}
use Rattle.nv_entry.specs.Held.{Retention}
use Rattle.nv_entry.specs.Laws.{NoneDroppable}
use Rattle.nv_entry.specs.declared.item.Entry.{Entry}
use Rattle.nv_epoch.specs.SnapList.{ids}
use Rattle.nv_log.specs.Chain.{left_of, log_pages, parts_from, with_entries_left}
use Rattle.nv_log.proofs.Chains.{has_pages_left}
use Rattle.nv_log.proofs.Flags.{left_of-select}
use Rattle.nv_log.proofs.Parts.{length-parts}
use Rattle.nv_machine.specs.Cleaning.{compacted_cell, unlinked, with_old_chain, with_unlinked}
use Rattle.nv_machine.specs.Frame.{lent}
use Rattle.nv_machine.specs.Grown.{HasGrown, HasGrownBy, is_behind}
use Rattle.nv_machine.specs.Held.{is_of_slot, killed_by_actor, killed_by_call, killed_in, killed_slots, parts_for, picked_at, picked_by_actor, picked_by_call, retention_at}
use Rattle.nv_machine.specs.Kinds.{blocks_in, end_turn, rest_turn}
use Rattle.nv_machine.specs.Reads.{home_from, written_slots}
use Rattle.nv_machine.specs.Starts.{IsStart}
use Rattle.nv_machine.specs.Step.{Step, after, changed, kind_turn, step, turned}
use Rattle.nv_machine.specs.WhatStays.{IsCompacted, IsUnlinked}
use Rattle.nv_machine.specs.World.{ReturnNumber, Cleans, Compact, Event, Give, Go, HandState, SnapshotOrCleaner, Next, Running, Shared, Unlink, Unlock, World, actor_at, cell_at, go_to, no_cell, owner_at, with_cell}
use Rattle.nv_machine.proofs.CellChanges.{lent_inside_own}
use Rattle.nv_machine.proofs.CleanSteps.{compact_cleans, unlink_cleans}
use Rattle.nv_machine.proofs.Cleanable.{IsCleanable, cleanable}
use Rattle.nv_machine.proofs.CleanedCells.{Cleans as CleansCell, new_log}
use Rattle.nv_machine.proofs.EveryWorld.{all_known}
use Rattle.nv_machine.proofs.FiledWorlds.{picked_in, same_killed, same_picked}
use Rattle.nv_machine.proofs.FitsEvents.{IsKnown}
use Rattle.nv_machine.proofs.LocksHeld.{Before}
use Rattle.nv_machine.proofs.LocksOverEvents.{before}
use Rattle.nv_machine.proofs.MarksInUse.{slot_marks}
use Rattle.nv_machine.proofs.OverEvents.{runs_inside}
use Rattle.nv_machine.proofs.SingleEvents.{goes}

-- ---- a cell

module _ (cell : CellState) (is : IsCell cell) (last : cell.chain.tail ≡ length cell.chain.entries) (by : Retention)
    (marks : AreMarksOf by cell) where
  whole : log_of cell ≡ cell.chain.entries
  whole = take_all cell.chain.tail cell.chain.entries (omega (arith, last))

  module _ (h : HandState) (count : length h.pages ≡ (wanted_of cell).pages) where
    abbrev new : CellState
    new = compacted_cell h cell

    cleans : CleansCell by (entries_staying cell) cell new
    cleans = compact_cleans by cell is last marks h count

    compacted_log : log_of new ≡ thorough_leaves by (log_of cell)
    compacted_log = cleans.left ∙ ap (λ (flags : List Bool). select flags (log_of cell)) (entries_are cell is by marks)

    compacted_pages : length new.chain.blocks ≡ div_ceil (length (log_of new)) cell.chain.page
    compacted_pages =
        count ∙ ap (λ (l : List Entry). div_ceil (length l) cell.chain.page) (sym (new_log by (entries_staying cell) cell new cleans))

    compacted_none : NoneDroppable by [] (log_of new)
    compacted_none = subst (NoneDroppable by []) (sym cleans.left) (none_left cell is by marks)

  unlinked_pages : log_pages (unlinked cell).chain ≡ pages_left by (log_pages cell.chain)
  unlinked_pages =
      let stays = pages_staying cell in
      let chain = cell.chain in
      let new = unlinked cell in
      ap (parts_from 0 new.chain.ends) (new_log by (log_flags stays chain) cell new (unlink_cleans by cell is last marks))
      ∙ (has_pages_left stays chain (with_entries_left stays chain) (left_of stays chain.blocks) is.chain refl refl).keeps.pages_are
      ∙ ap (λ (l : List Entry). left_of stays (parts_from 0 chain.ends l)) (sym whole)
      ∙ left_of-select stays (log_pages chain) (pages_flagged cell ∙ sym (length-parts 0 chain.ends (log_of cell)))
      ∙ ap (λ (flags : List Bool). select flags (log_pages chain)) (pages_are cell is by marks)

  unlinked_blocks : (unlinked cell).chain.blocks ≡ left_of (pages_stay by [] (log_pages cell.chain)) cell.chain.blocks
  unlinked_blocks = ap (λ (flags : List Bool). left_of flags cell.chain.blocks) (pages_are cell is by marks)

-- ---- a step

-- the actor has ended its call, or is at one of its last steps
record IsEnded (actor : ℕ) (w v : World) (t : Shared) : Type 0 where
  hand : HandState
  running : Option Running
  is : v ≡ changed t hand running actor w
  killed : (ino : ℕ) → killed_by_call running hand ino ≡ []
  picked : picked_by_call running ≡ []

ended : (slots : List ℕ) (cleaned : Cleaned) (actor : ℕ) (w : World) (t : Shared) (h : HandState) (r : Running)
    → IsEnded actor w (turned (end_turn slots (Cleans cleaned) t h r) actor w).world t
ended (slot ∷ slots) cleaned actor w t h r = record {
  hand = h;
  running = Some (record r { ending = Cleans cleaned; next = Unlock 0 });
  is = refl;
  killed = λ ino. refl;
  picked = refl;
}
ended [] cleaned actor w t h r = go (home_from 0 0 t.lists (blocks_in h)) h.ino where
  q : Running
  q = record r { ending = Cleans cleaned }

  go : (o number : Option ℕ) → IsEnded actor w (turned (rest_turn o number t h q) actor w).world t
  go (Some cpu) number =
      record { hand = h; running = Some (go_to (Give cpu) q); is = refl; killed = λ ino. refl; picked = refl }
  go None (Some ino) = record { hand = h; running = Some (go_to ReturnNumber q); is = refl; killed = λ ino. refl; picked = refl }
  go None None = record { hand = h; running = None; is = refl; killed = λ ino. refl; picked = refl }

-- what keeps the pairs of a slot, by what it is read from
abbrev keeper : ℕ → ℕ → BookState → List Record → List KilledPart → Retention
keeper ino size book picked killed = record {
  block = size;
  snapshots = ids book.snaps;
  pending = map name_of (filter (is_of_slot ino) (book.deferred ++ picked)) ++ map (λ (k : KilledPart). k.part) killed;
}

module _ (g : GeometryNumbers) (w : World) (known : IsKnown g w) (actor ino : ℕ) (granted : Bool) (r : Running)
    (runs : (actor_at w actor).running ≡ Some r) where
  abbrev s : Shared
  s = w.shared

  abbrev h : HandState
  h = (actor_at w actor).hand

  abbrev cell : CellState
  cell = cell_at s ino

  abbrev by : Retention
  by = retention_at w ino

  marks : AreMarksOf (retention_at w ino) cell
  marks =
      slot_marks w known.rs known.listed known.marked ino
      (IsLog-take cell.chain.tail cell.chain.entries (known.reached.order.logs ino).ordered)

  module _ (k : Next) (next : r.next ≡ k) where
    goes_to : (step w (Go actor granted)).world ≡ (turned (kind_turn k w.numbers.block actor granted s h r) actor w).world
    goes_to =
        ap (λ (x : Step). x.world) (goes w actor granted r (runs_inside w actor r runs) runs).is_turn
        ∙ ap (λ (k : Next). (turned (kind_turn k w.numbers.block actor granted s h r) actor w).world) next

    owned : (lent k (length s.lists) actor r).cell ≡ Some ino → (ino < length s.cells) × (owner_at s ino ≡ Some actor)
    owned is =
        lent_inside_own k actor s r (subst (λ (n : Next). Before actor s n r) next (before w actor r known.reached.locks runs)) ino is

    last : (lent k (length s.lists) actor r).cell ≡ Some ino → is_behind k (written_slots r) ino ≡ false
        → cell.chain.tail ≡ length cell.chain.entries
    last is none =
        let grown : HasGrown r.next s actor r =
        subst (λ (o : Option Running). HasGrownBy o s actor) runs (known.reached.grown.each actor) in
        (subst (λ (n : Next). HasGrown n s actor r) next grown).tails ino (owned is).1 none

    ready : IsCleanable k w.numbers.block s h r
    ready =
        subst (λ (n : Next). IsCleanable n w.numbers.block s h r) next (cleanable w actor r known.reached.apart.cleanable runs)

    no_killed : killed_slots k (written_slots r) ≡ [] → killed_by_actor ino (actor_at w actor) ≡ []
    no_killed none =
        ap (λ (o : Option Running). killed_by_call o h ino) runs
        ∙ ap (λ (n : Next). parts_for (killed_slots n (written_slots r)) h.killed ino) next
        ∙ ap (λ (slots : List ℕ). parts_for slots h.killed ino) none

    no_picked : picked_at k ≡ [] → picked_by_actor (actor_at w actor) ≡ []
    no_picked none = ap picked_by_call runs ∙ ap picked_at next ∙ none

  -- what keeps the pairs stays
  still_kept : (v : World) (new : CellState) → new.block ≡ cell.block → (e : IsEnded actor w v (with_cell ino new s))
      → ino < length s.cells → killed_by_actor ino (actor_at w actor) ≡ [] → picked_by_actor (actor_at w actor) ≡ []
      → retention_at v ino ≡ retention_at w ino
  still_kept v new size e low killed picked =
      let t = with_cell ino new s in
      let u = changed t e.hand e.running actor w in
      ap (λ (x : World). retention_at x ino) e.is
      ∙ ap (λ (n : ℕ). keeper ino n s.book (picked_in u) (killed_in u ino))
      (ap (λ (c : CellState). c.block) (get_or-set_same s.cells ino new no_cell low) ∙ size)
      ∙ ap (λ (rs : List Record). keeper ino cell.block s.book rs (killed_in u ino))
      (same_picked w actor t e.hand e.running (e.picked ∙ sym picked))
      ∙ ap (λ (parts : List KilledPart). keeper ino cell.block s.book (picked_in w) parts)
      (same_killed w actor ino t e.hand e.running (e.killed ino ∙ sym killed))

  compacts : r.next ≡ SnapshotOrCleaner (Compact ino) → IsCompacted ino w (step w (Go actor granted)).world
  compacts next =
      let k = SnapshotOrCleaner (Compact ino) in
      let low = (owned k next refl).0 in
      let is = (ready k next).cells ino low in
      let tail = last k next refl refl in
      let count = (ready k next).pages in
      let new = compacted_cell h cell in
      let t = with_cell ino new s in
      let here : cell_at t ino ≡ new = get_or-set_same s.cells ino new no_cell low in
      let e = ended r.slots (answer_of true cell new) actor w t (with_old_chain cell h) r in
      let v = (turned (end_turn r.slots (Cleans (answer_of true cell new)) t (with_old_chain cell h) r) actor w).world in
      let now : cell_at v.shared ino ≡ new = ap (λ (x : World). cell_at x.shared ino) e.is ∙ here in
      subst (IsCompacted ino w) (sym (goes_to k next)) (record {
        log = ap log_of now ∙ compacted_log cell is tail by marks h count;
        pages = subst (λ (c : CellState). length c.chain.blocks ≡ div_ceil (length (log_of c)) cell.chain.page) (sym now)
            (compacted_pages cell is tail by marks h count);
        none = subst (λ (x : Retention). NoneDroppable x [] (log_of (cell_at v.shared ino)))
            (sym (still_kept v new refl e low (no_killed k next refl) (no_picked k next refl)))
            (subst (λ (c : CellState). NoneDroppable by [] (log_of c)) (sym now) (compacted_none cell is tail by marks h count));
      })

  unlinks : r.next ≡ SnapshotOrCleaner (Unlink ino) → IsUnlinked ino w (step w (Go actor granted)).world
  unlinks next =
      let k = SnapshotOrCleaner (Unlink ino) in
      let low = (owned k next refl).0 in
      let is = (ready k next).cells ino low in
      let new = unlinked cell in
      let t = with_cell ino new s in
      let e = ended r.slots (answer_of false cell new) actor w t (with_unlinked cell h) r in
      let v = (turned (end_turn r.slots (Cleans (answer_of false cell new)) t (with_unlinked cell h) r) actor w).world in
      let now : cell_at v.shared ino ≡ new =
      ap (λ (x : World). cell_at x.shared ino) e.is ∙ get_or-set_same s.cells ino new no_cell low in
      subst (IsUnlinked ino w) (sym (goes_to k next)) (record {
        pages = ap (λ (c : CellState). log_pages c.chain) now ∙ unlinked_pages cell is (last k next refl refl) by marks;
        blocks = ap (λ (c : CellState). c.chain.blocks) now ∙ unlinked_blocks cell is (last k next refl refl) by marks;
      })

-- ---- the law

pub compact_leaves : (g : GeometryNumbers) (start : World) (records : List Record) (events : List Event) (actor ino : ℕ)
    (granted : Bool) (r : Running) → IsStart g start records → (actor_at (after start events) actor).running ≡ Some r
    → r.next ≡ SnapshotOrCleaner (Compact ino)
    → IsCompacted ino (after start events) (step (after start events) (Go actor granted)).world
compact_leaves g start records events actor ino granted r is_start runs =
    compacts g (after start events) (all_known g start records is_start events) actor ino granted r runs

pub unlink_leaves : (g : GeometryNumbers) (start : World) (records : List Record) (events : List Event) (actor ino : ℕ)
    (granted : Bool) (r : Running) → IsStart g start records → (actor_at (after start events) actor).running ≡ Some r
    → r.next ≡ SnapshotOrCleaner (Unlink ino)
    → IsUnlinked ino (after start events) (step (after start events) (Go actor granted)).world
unlink_leaves g start records events actor ino granted r is_start runs =
    unlinks g (after start events) (all_known g start records is_start events) actor ino granted r runs
