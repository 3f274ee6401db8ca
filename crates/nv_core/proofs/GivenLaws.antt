-- What the laws of the machine say of one actor's call.
use Rattle.std.proofs.Common.{◌≡◌, ℕ, ◌+◌, ◌<◌, ◌≤◌, ◌==◌, ◌∙◌, Bool, true, false, List, [], ◌∷◌, Option, Some, ap, length, refl, subst, sym}
use Rattle.std.specs.Prelude.{◌||◌}
use Rattle.std.specs.List.{AllByRecursion}
use Rattle.std.proofs.lemmas.Bool.{eqb-true}
use Rattle.nv_alloc.specs.Block.{AreSized, BlockValue, numbers_of}
use Rattle.nv_alloc.specs.Numbers.{has, times}
use Rattle.nv_base.specs.declared.geometry.GeometryNumbers.{GeometryNumbers}
use Rattle.nv_base.specs.declared.limits.TheConstants.{NUMBER}
use Rattle.nv_base.specs.declared.numbers.Handle.{Handle}
use Rattle.nv_book.specs.declared.record.Record.{Record}
use Rattle.nv_calls.specs.Locked.{handles}
use Rattle.nv_calls.specs.Prepared.{IsStill}
use Rattle.nv_cell.specs.Cell.{IsCell, log_of}
use Rattle.nv_machine.specs.Effects.{IsSoundIn}
use Rattle.nv_machine.specs.Grown.{HasGrown, HasGrownBy, is_behind}
use Rattle.nv_machine.specs.Hands.{AreLists, AreNumbers, HandAt, HandOf, is_going}
use Rattle.nv_machine.specs.Kept.{AreApart, AreLogsKept}
use Rattle.nv_machine.specs.Kinds.{blocks_in}
use Rattle.nv_machine.specs.Locks.{AreSlots, HoldsIts, IsInside, commits_at, held_at}
use Rattle.nv_machine.specs.Order.{AreLogsOrdered}
use Rattle.nv_machine.specs.Reached.{IsReached}
use Rattle.nv_machine.specs.Reads.{slot_at, written_slots}
use Rattle.nv_machine.specs.Starts.{IsStart}
use Rattle.nv_machine.specs.Step.{after}
use Rattle.nv_machine.specs.World.{Answers, Check, Enter, Event, HandState, Next, Ready, Running, Shared, SnapshotOrCleanerStep, SnapshotOrCleaner, World, actor_at, cell_at, list_at}
use Rattle.nv_machine.proofs.DecidedReads.{logs_held}
use Rattle.nv_machine.proofs.FitsEvents.{AreFit}
use Rattle.nv_machine.proofs.LocksHeld.{owner_is, slot_owned}
use Rattle.nv_machine.proofs.PoolRuns.{ArePooled}
use Rattle.nv_machine.proofs.EveryWorld.{all_fit, all_numbers, all_pooled, reached}
use Rattle.nv_machine.proofs.WorldSizes.{IsOfNumbers, of_numbers}
use Rattle.nv_core.proofs.GivenOn.{HasOn}

-- ---- laws

-- what a call holds before its check: the slots of what it reads, and with a new number its slot, which is empty
pub record HoldsForCheck (s : Shared) (h : HandState) (r : Running) : Type 0 where
  pub number : (n : ℕ) → h.ino ≡ Some n → (has r.slots n ≡ true) × (log_of (cell_at s n) ≡ [])
  pub held : AllByRecursion (λ (handle : Handle). handle.ino < length s.cells → has r.slots handle.ino ≡ true)
      (handles r.looked r.call)

-- what holds of hands, cells and checks
pub record LawsOf (g : GeometryNumbers) (m : World) : Type 0 where
  pub device : (actor : ℕ) → AllByRecursion (λ (b : BlockValue). b.number < g.blocks) (blocks_in (actor_at m actor).hand)
  pub numbers : (actor n : ℕ) → (actor_at m actor).hand.ino ≡ Some n → (n < g.inodes) × (has m.shared.pool.numbers n ≡ false)
  pub once : (actor cpu n : ℕ)
      → times n (numbers_of (blocks_in (actor_at m actor).hand)) + times n (numbers_of (list_at m.shared cpu).blocks) ≤ 1
  pub cells : (ino : ℕ) → ino < length m.shared.cells → IsCell (cell_at m.shared ino)
  pub versions : (ino : ℕ) → (cell_at m.shared ino).version ≤ m.shared.book.commit
  pub generations : (actor : ℕ) (r : Running) → (actor_at m actor).running ≡ Some r → r.next ≡ Enter → (place : ℕ)
      → place < length (written_slots r) → (cell_at m.shared (slot_at (written_slots r) place)).generation < NUMBER
  pub checks : (actor : ℕ) (r : Running) → (actor_at m actor).running ≡ Some r → r.next ≡ Check
      → HoldsForCheck m.shared (actor_at m actor).hand r
  pub snapshots : (actor : ℕ) (r : Running) (step : SnapshotOrCleanerStep) → (actor_at m actor).running ≡ Some r → r.next ≡ SnapshotOrCleaner step
      → HasOn g m.shared step

-- ---- one actor

-- what the laws say of an actor whose call goes on
pub record IsGiven (g : GeometryNumbers) (s : Shared) (actor : ℕ) (h : HandState) (r : Running) : Type 0 where
  pub lists : AreLists g s
  pub slots : AreSlots (length s.cells) r.slots
  pub inside : IsInside r.next r
  pub wide : length s.owners ≡ length s.cells
  pub inodes : length s.cells ≡ g.inodes
  pub pool : s.pool.inodes ≡ g.inodes
  pub device : AllByRecursion (λ (b : BlockValue). b.number < g.blocks) (blocks_in h)
  pub sized : AreSized g.block (blocks_in h)
  pub once : (cpu n : ℕ) → times n (numbers_of (blocks_in h)) + times n (numbers_of (list_at s cpu).blocks) ≤ 1
  pub numbers : (n : ℕ) → h.ino ≡ Some n → (n < g.inodes) × (has s.pool.numbers n ≡ false)
  pub hand : HandAt g r.next h r
  pub cells : (ino : ℕ) → ino < length s.cells → IsCell (cell_at s ino)
  pub apart : (ino : ℕ) → AreApart (cell_at s ino).blocks
  pub logs : AreLogsKept s
  pub ordered : AreLogsOrdered s
  pub versions : (ino : ℕ) → (cell_at s ino).version ≤ s.book.commit
  pub still : r.next ≡ Check → (ino : ℕ) → has r.slots ino ≡ true → IsStill g.block (cell_at s ino)
  pub checks : r.next ≡ Check → HoldsForCheck s h r
  pub commits : commits_at r.next ≡ true → s.holder ≡ Some actor
  pub generations : r.next ≡ Enter → (place : ℕ) → place < length (written_slots r)
      → (cell_at s (slot_at (written_slots r) place)).generation < NUMBER
  pub going : is_going r.next ≡ true → r.ending ≡ Answers
  pub sound : r.next ≡ Ready → (ino : ℕ) → has r.slots ino ≡ true → IsSoundIn (cell_at s ino) (log_of (cell_at s ino))
  pub snapshots : (step : SnapshotOrCleanerStep) → r.next ≡ SnapshotOrCleaner step → HasOn g s step

-- a slot of a list of slots is one of all
pub slot_there : (many : ℕ) (slots : List ℕ) (ino : ℕ) → AllByRecursion (λ n. n < many) slots → has slots ino ≡ true → ino < many
slot_there many [] ino all h = cc
slot_there many (n ∷ slots) ino all h = go (n == ino) refl h (slot_there many slots ino all.1) where
  go : (b : Bool) → (n == ino) ≡ b → (b || has slots ino) ≡ true → (has slots ino ≡ true → ino < many) → ino < many
  go true q h more = subst (λ (k : ℕ). k < many) (eqb-true n ino q) all.0
  go false q h more = more h

module _ (g : GeometryNumbers) (m : World) (reached : IsReached m) (all : AreNumbers g m) (pooled : ArePooled g m) (fit : AreFit m)
    (counts : IsOfNumbers g m) (laws : LawsOf g m) (actor : ℕ) (r : Running) (is : (actor_at m actor).running ≡ Some r) where
  holds : HoldsIts m.shared actor (Some r)
  holds = subst (λ (o : Option Running). HoldsIts m.shared actor o) is (reached.locks.each actor)

  its_slots : AreSlots (length m.shared.cells) r.slots
  its_slots = subst (λ (n : ℕ). AreSlots n r.slots) reached.locks.wide holds.slots.0

  own_hand : HandOf g (actor_at m actor).hand (Some r)
  own_hand = subst (λ (o : Option Running). HandOf g (actor_at m actor).hand o) is (all.hands actor)

  grown : HasGrown r.next m.shared actor r
  grown = subst (λ (o : Option Running). HasGrownBy o m.shared actor) is (reached.grown.each actor)

  -- before its check it holds all its slots
  held_still : r.next ≡ Check → (ino : ℕ) → has r.slots ino ≡ true → IsStill g.block (cell_at m.shared ino)
  held_still e ino h =
      let owned = slot_owned actor m.shared r ino holds (ap (λ (k : Next). has (held_at k r.slots) ino) e ∙ h) in
      let there = slot_there (length m.shared.cells) r.slots ino its_slots.inside h in
      record {
        size = fit.sizes ino there ∙ ap (λ (n : GeometryNumbers). n.block) all.numbers;
        settled = grown.tails ino owned (ap (λ (k : Next). is_behind k (written_slots r) ino) e);
      }

  -- before it is made ready the log of each of its slots is settled, and so sound
  held_sound : r.next ≡ Ready → (ino : ℕ) → has r.slots ino ≡ true → IsSoundIn (cell_at m.shared ino) (log_of (cell_at m.shared ino))
  held_sound e ino h =
      subst (IsSoundIn (cell_at m.shared ino))
      (logs_held m actor r reached.locks reached.grown is (ap commits_at e) ino (ap (λ (k : Next). has (held_at k r.slots) ino) e ∙ h))
      (fit.sound ino)

  pub given_by : IsGiven g m.shared actor (actor_at m actor).hand r
  given_by = record {
    lists = all.lists;
    slots = its_slots;
    inside = holds.slots.1;
    wide = reached.locks.wide;
    inodes = pooled.slots;
    pool = counts.pool;
    device = laws.device actor;
    sized = all.sized actor;
    once = laws.once actor;
    numbers = laws.numbers actor;
    hand = own_hand.0;
    cells = laws.cells;
    apart = reached.apart.cells;
    logs = reached.kept.logs;
    ordered = reached.order.logs;
    versions = laws.versions;
    still = held_still;
    checks = laws.checks actor r is;
    commits = λ e. owner_is actor m.shared.holder (holds.holder ∙ e);
    generations = laws.generations actor r is;
    going = own_hand.1;
    sound = held_sound;
    snapshots = λ step e. laws.snapshots actor r step is e;
  }

-- the same of the machine's world after some events from where a run starts
pub given_after : (g : GeometryNumbers) (start : World) (records : List Record) (m : World) (events : List Event)
    → IsStart g start records → m ≡ after start events → LawsOf g m
    → (actor : ℕ) (r : Running) → (actor_at m actor).running ≡ Some r → IsGiven g m.shared actor (actor_at m actor).hand r
given_after g start records m events is_start from =
    given_by g m (subst IsReached (sym from) (reached g start records events is_start))
    (subst (AreNumbers g) (sym from) (all_numbers g start records events is_start))
    (subst (ArePooled g) (sym from) (all_pooled g start records events is_start))
    (subst AreFit (sym from) (all_fit g start records is_start events))
    (subst (IsOfNumbers g) (sym from) (of_numbers g start records events is_start))
