-- Whatever events come, each cell has the marks and blocks of its parts; so that each is a cell.
use Rattle.std.proofs.Common.{Bool, List, None, Option, Some, [], ap, arith, false, flat_map, length, nat_lt, refl, set, subst, suc, sym, take, true, zero, ℕ, ◌++◌, ◌+◌, ◌<◌, ◌∙◌, ◌∷◌, ◌≡◌}
use Rattle.std.specs.Prelude.{if◌then◌else◌, not, slice_index_or}
use Rattle.std.specs.Option.{option_map}
use Rattle.std.proofs.lemmas.Bool.{false≢true, le-ltb}
use Rattle.nv_alloc.specs.Block.{AreSized, BlockValue, number_of}
use Rattle.nv_base.specs.Limits.{IsWithinLimits}
use Rattle.nv_base.specs.declared.geometry.GeometryNumbers.{GeometryNumbers}
use Rattle.nv_book.specs.declared.record.Record.{Record}
use Rattle.nv_calls.specs.Retiring.{released}
use Rattle.nv_calls.specs.Slots.{items_for, place_in}
use Rattle.nv_cell.specs.Cell.{CellState, IsCell, log_of, mark_or_fresh, page_block}
use Rattle.nv_cell.specs.Marks.{is_current, is_there, mark_at}
use Rattle.nv_entry.specs.Covered.{is_covered}
use Rattle.nv_cell.proofs.ValuesNow.{IsLog-take}
use Rattle.nv_entry.specs.Log.{IsLog}
use Rattle.nv_epoch.specs.SnapList.{ids}
use Rattle.nv_log.specs.Chain.{AreEnds}
use Rattle.std.specs.List.{AllByRecursion}
use Rattle.nv_machine.specs.Format.{formatted, root_cell}
use Rattle.nv_machine.specs.Hands.{HandAt, HandOf}
use Rattle.nv_machine.specs.Held.{killed_in, picked_at, picked_by_actor, picked_by_call}
use Rattle.nv_machine.specs.Kinds.{entries_for, first_killed, with_log_pages}
use Rattle.nv_machine.specs.Locks.{commits_at}
use Rattle.nv_machine.specs.Reads.{pages_needed, slot_at, written_slots}
use Rattle.nv_machine.specs.Step.{step}
use Rattle.nv_machine.specs.Pages.{AreOnPages}
use Rattle.nv_machine.specs.Whole.{HasItsParts, HaveTheirParts}
use Rattle.nv_machine.specs.World.{Append, Event, HandState, Next, Release, Retire, Running, Shared, SnapshotOrCleaner, World, actor_at, cell_at, idle}
use Rattle.nv_machine.proofs.NewWorld.{new_cell}
use Rattle.nv_machine.proofs.FiledCommits.{retire_mine}
use Rattle.nv_machine.proofs.OverEvents.{event_shared}
use Rattle.nv_machine.proofs.EachElement.{all_back}
use Rattle.nv_machine.proofs.FiledLists.{count, count_append, count_cons, one}
use Rattle.nv_machine.proofs.FiledMarks.{IsTold}
use Rattle.nv_machine.proofs.FiledRuns.{can_list}
use Rattle.nv_machine.proofs.FiledWorlds.{AreMarked, picked_in}
use Rattle.nv_machine.proofs.FitsEvents.{IsKnown, filed_known}
use Rattle.nv_machine.proofs.HandsInCommits.{slot_first}
use Rattle.nv_machine.proofs.StepWork.{work}
use Rattle.nv_machine.proofs.WorkKeeps.{turn_keeps}
use Rattle.nv_machine.proofs.BlockNumbers.{cleans_now}
use Rattle.nv_machine.proofs.CleanedCells.{cleaned_parts}
use Rattle.nv_machine.proofs.CleanSteps.{stays_at}
use Rattle.nv_machine.proofs.CellChanges.{appended_at, cells_after, clean_cell, clean_slot, is_clean, is_removal, removal, slots_stay}
use Rattle.nv_machine.proofs.LocksHeld.{Before, lent_holder}
use Rattle.nv_machine.proofs.LocksOverEvents.{before}
use Rattle.nv_machine.proofs.Cleanable.{IsCleanable, cleanable}
use Rattle.nv_machine.proofs.CellMarks.{empty_parts, entries_parts, erased_parts, paged_parts, published_parts, released_parts, retired_parts}
use Rattle.nv_machine.proofs.PartsFor.{own_all, swap_count}
use Rattle.nv_machine.proofs.SoundWorlds.{entries_within, sized_left}

-- ---- kind by kind

module _ (g : GeometryNumbers) (w : World) (known : IsKnown g w) (all : HaveTheirParts g.block w.shared) (a block : ℕ) (r : Running)
    (there : a < length w.actors) (running : (actor_at w a).running ≡ Some r) where
  abbrev rs : List Record
  rs = known.rs

  abbrev m : AreMarked w known.rs
  m = known.marked

  abbrev s : Shared
  s = w.shared

  abbrev h : HandState
  h = (actor_at w a).hand

  before_it : (k : Next) → r.next ≡ k → Before a s k r
  before_it k e = subst (λ (k : Next). Before a s k r) e (before w a r known.reached.locks running)

  hand_at : (k : Next) → r.next ≡ k → HandAt g k h r
  hand_at k e =
      let own : HandOf g h (Some r) = subst (λ (o : Option Running). HandOf g h o) running (known.numbers.hands a) in
      subst (λ (k : Next). HandAt g k h r) e own.0

  log_is : (ino : ℕ) → IsLog (log_of (cell_at s ino))
  log_is ino = IsLog-take (cell_at s ino).chain.tail (cell_at s ino).chain.entries (known.reached.order.logs ino).ordered

  append_parts : (place : ℕ) → r.next ≡ Append place → place < length (written_slots r) → let ino = slot_at (written_slots r) place in
      ino < length s.cells → HasItsParts g.block (appended_at ino s h r)
  append_parts place e inside low =
      let hand = hand_at (Append place) e in
      let ino = slot_at (written_slots r) place in
      let pages = take (pages_needed s r.plan ino) h.pages in
      entries_parts g.block (entries_for r ino) h.blocks (with_log_pages pages (cell_at s ino))
      (entries_within r.commit r.epoch (place_in r.plan ino) (items_for r.plan ino) (hand.within ino))
      (slot_first place h r inside hand)
      (sized_left g.block h.blocks h.pages (sized_left g.block _ h.chain (known.numbers.sized a)))
      (paged_parts g.block pages (cell_at s ino) (all ino low))

  release_parts : (d : Record) → picked_at r.next ≡ d ∷ [] → d.ino < length s.cells → HasItsParts g.block (released d (cell_at s d.ino))
  release_parts d e low =
      let cell = cell_at s d.ino in
      let mine = m.cells d.ino in
      let T : Record → Type 0 = IsTold (ids s.book.snaps) d.ino cell.block (log_of cell) in
      let had : picked_by_actor (actor_at w a) ≡ d ∷ [] = ap (λ (o : Option Running). picked_by_call o) running ∙ e in
      let told : AllByRecursion T (d ∷ []) = rw had at (own_all picked_by_actor T w.actors a there
      (all_back T rs (picked_in w) mine.told)) in
      let after : List Record = rs ++ flat_map picked_by_actor (set w.actors a idle) in
      let counts : (p : Record → Bool) → count p (rs ++ picked_in w) ≡ one (p d) + count p after =
      λ p. omega (
        arith,
        swap_count picked_by_actor p w.actors a idle there,
        ap (λ (ds : List Record). count p ds) had,
        count_cons p d [],
        count_append p rs (picked_in w),
        count_append p rs (flat_map picked_by_actor (set w.actors a idle)),
      ) in
      released_parts g.block (ids s.book.snaps) s.book.snaps.epoch (killed_in w d.ino) (rs ++ picked_in w) after d cell (log_is d.ino) mine
      (told.0 refl) counts (all d.ino low)

  removal_parts : (k : Next) → r.next ≡ k → is_removal k ≡ true → (removal k s h r).slot < length s.cells
      → HasItsParts g.block (removal k s h r).cell
  removal_parts (Retire place) e is low =
      let b = before_it (Retire place) e in
      let ino = slot_at (written_slots r) place in
      let parts = first_killed h.killed in
      let mine = retire_mine w a rs r there known.reached.locks (lent_holder (Retire place) a s r b refl) running
      ((can_list g w a r (filed_known g w known) running).epoch (ap commits_at e)) m place e b.inside (hand_at (Retire place) e) in
      retired_parts g.block (ids s.book.snaps) ino r.epoch parts (rs ++ picked_in w) (cell_at s ino) (log_is ino) mine (all ino low)
  removal_parts (SnapshotOrCleaner (Release draining d)) e is low = release_parts d (ap picked_at e) low
  removal_parts other e is low = absurd (false≢true is)

  clean_parts : (k : Next) → r.next ≡ k → IsCleanable k block s h r → is_clean k ≡ true → clean_slot k < length s.cells
      → HasItsParts g.block (clean_cell k s h)
  clean_parts k e ready is low =
      let slot = clean_slot k in
      let c = cleans_now w a r k block e known.reached.locks known.numbers.tails running (before_it k e) ready is in
      cleaned_parts _ (stays_at k s) (cell_at s slot) (clean_cell k s h) c g.block (all slot low).size

  work_parts : (k : Next) → r.next ≡ k → IsCleanable k block s h r → HaveTheirParts g.block (work k block a s h r).shared
  work_parts k e ready ino lt =
      cells_after (λ (n : ℕ) (c : CellState). n < length s.cells → HasItsParts g.block c) block a s h r all k (before_it k e) (record {
        appends = λ place is inside low there. append_parts place (e ∙ is) inside low;
        publishes = λ place is inside low there.
            let slot = slot_at (written_slots r) place in published_parts g.block (cell_at s slot) (all slot low);
        removes = λ is low left there. erased_parts g.block (removal k s h r).cell (removal_parts k e is low);
        cleans = λ is low there. clean_parts k e ready is low;
      }) ino (let n = slots_stay k block a s h r in omega (arith, lt, n))

-- ---- events

pub event_parts : (g : GeometryNumbers) (w : World) (e : Event) → IsKnown g w → HaveTheirParts g.block w.shared
    → HaveTheirParts g.block (step w e).world.shared
event_parts g w e known all = event_shared (HaveTheirParts g.block) w all e (λ actor granted r there is.
    turn_keeps (λ (t : Shared) (x : HandState). HaveTheirParts g.block t) r.next w.numbers.block actor granted w.shared
    (actor_at w actor).hand r all (work_parts g w known all actor w.numbers.block r there is r.next refl
    (cleanable w actor r known.reached.apart.cleanable is)))

-- ---- a new world

root_parts : (g : GeometryNumbers) → HasItsParts g.block (root_cell g)
root_parts g = record {
  size = refl;
  within = omega arith;
  marks = record { len = refl; current = current };
  blocks = record { len = refl; numbers = numbers; sized = sized };
} where
  current : (n : ℕ) → n < 3 → is_current (mark_at (root_cell g).marks n) ≡ not (is_covered g.block (log_of (root_cell g)) n)
  current zero lt = refl
  current (suc zero) lt = refl
  current (suc (suc zero)) lt = refl
  current (suc (suc (suc n))) lt = absurd (omega (arith, lt))

  numbers : (n : ℕ) → option_map number_of (slice_index_or (root_cell g).blocks n None)
      ≡ (if is_there (mark_or_fresh (root_cell g).marks n) then page_block g.block (root_cell g).chain.entries n else None)
  numbers zero = refl
  numbers (suc zero) = refl
  numbers (suc (suc zero)) = refl
  numbers (suc (suc (suc n))) =
      let past : nat_lt (suc (suc (suc n))) 3 ≡ false = le-ltb (suc (suc (suc n))) 3 (omega arith) in
      rw past refl

  sized : (n : ℕ) (b : BlockValue) → slice_index_or (root_cell g).blocks n None ≡ Some b → length b.bytes ≡ g.block
  sized zero b e = cc
  sized (suc zero) b e = cc
  sized (suc (suc zero)) b e = cc
  sized (suc (suc (suc n))) b e = cc

pub new_parts : (g : GeometryNumbers) → HaveTheirParts g.block (formatted g).shared
new_parts g = new_cell g (λ (ino : ℕ) (c : CellState). ino < length (formatted g).shared.cells → HasItsParts g.block c)
    (λ lt. root_parts g) (λ n lt. empty_parts g.block g.page 1 0) (λ n past lt. absurd (omega (arith, past, lt)))

-- a cell with its parts, whose log stands on its pages, is one
pub is_cell : (g : GeometryNumbers) (cell : CellState) → IsWithinLimits g → HasItsParts g.block cell → AreOnPages g.page cell.chain
    → IsLog cell.chain.entries → AreSized g.block cell.chain.blocks → IsCell cell
is_cell g cell within h on log sized = record {
  some = omega (arith, h.size, within.some_bytes);
  chain = record {
    least = omega (arith, on.size, within.some_entries);
    most = omega (arith, on.size, within.entries_fit);
    paged = omega (arith, on.each);
    parted = subst (λ (page : ℕ). AreEnds page 0 cell.chain.ends (length cell.chain.entries)) (sym on.size) on.parted;
    rising = log;
    within = h.within;
  };
  pages = subst (λ (size : ℕ). AreSized size cell.chain.blocks) (sym h.size) sized;
  marks = h.marks;
  blocks = h.blocks;
}
