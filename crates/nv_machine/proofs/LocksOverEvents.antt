-- The locks of a world, over events.
use Rattle.std.proofs.Common.{Bool, List, None, Option, Some, [], ap, false, length, nat_lt, refl, replicate, subst, suc, sym, true, zero, ℕ, ◌<◌, ◌∙◌, ◌≡◌, ◌≢◌, arith}
use Rattle.std.specs.Prelude.{Err, Ok, slice_index_or}
use Rattle.std.proofs.lemmas.Bool.{lt-ltb, true≢false}
use Rattle.nv_book.specs.Book.{BookState}
use Rattle.nv_calls.specs.declared.call.Call.{Call}
use Rattle.nv_machine.specs.Frame.{lent}
use Rattle.nv_machine.specs.Locks.{AllRecords, AreLocks, AreSlots, HasLent, HasSlots, HoldsIts, IsInside, IsOfSlot, WaitsFor, held_on}
use Rattle.nv_machine.specs.Sequence.{Beginning, Locks, Looks, Numbers, Maintains, Visits, beginning, begun, nothing_looked, started, first_step, slots_on}
use Rattle.nv_machine.specs.Step.{Step, after, go_step, step, turn, turned}
use Rattle.nv_machine.specs.Reads.{slots_of, written_slots}
use Rattle.nv_machine.specs.World.{Actor, Check, Ends, Event, Go, Moves, Next, Reply, Retire, Running, Shared, SnapshotOrCleanerStep, SnapshotOrCleaner, Turn, Waiting, Waits, World, actor_at}
use Rattle.nv_machine.proofs.BookRecords.{OnRecords, records_all}
use Rattle.nv_machine.proofs.OverEvents.{begun_in, event_by, events_by, set_begun, set_one, turn_at, with_call}
use Rattle.nv_machine.proofs.SingleEvents.{go_is_turn, turned_frame}
use Rattle.nv_machine.proofs.StepFrames.{framed}
use Rattle.nv_machine.proofs.LocksAlongCalls.{Holds, LocksLeft, OnLocks, holds_as, locking_holds}
use Rattle.nv_machine.proofs.Lists.{written_inside}
use Rattle.nv_machine.proofs.LocksHeld.{Before, lent_cell, lent_holder, locks_kept, new_slots}
use Rattle.nv_machine.proofs.FirstSteps.{first_by}

-- ---- replies

abbrev waits_by : Reply → Bool
waits_by Waiting = true
waits_by other = false

not_waiting : {reply : Reply} → waits_by reply ≡ false → reply ≡ Waiting → ⊥
not_waiting no-wait e = true≢false (sym (ap waits_by e) ∙ no-wait)

-- ---- an actor's own

pub before : (w : World) (actor : ℕ) (r : Running) → AreLocks w → (actor_at w actor).running ≡ Some r → Before actor w.shared r.next r
before w actor r locks is =
    let own : HoldsIts w.shared actor (Some r) = subst (λ (running : Option Running). HoldsIts w.shared actor running) is
    (locks.each actor) in
    record {
      mine = record { owners = own.owners; holder = own.holder };
      are = own.slots.0;
      inside = own.slots.1;
      wide = locks.wide;
      deferred = locks.records.deferred;
    }

-- ---- what others hold

their_slots : (n m : ℕ) (running : Option Running) → n ≡ m → HasSlots n running → HasSlots m running
their_slots n m running e h = subst (λ (k : ℕ). HasSlots k running) e h

theirs : (a b : ℕ) (s t : Shared) (running : Option Running) → LocksLeft a s t → b ≢ a → HoldsIts s b running → HoldsIts t b running
theirs a b s t running left ne h = record {
  owners = λ ino. left.owners b ne ino ∙ h.owners ino;
  holder = left.holder b ne ∙ h.holder;
  slots = their_slots (length s.owners) (length t.owners) running (sym left.wide) h.slots;
}

abbrev HoldsBy : ℕ → Shared → Actor → Type 0
HoldsBy b s x = HoldsIts s b x.running

-- the records of a book where the slots are as many
as_many : (n m : ℕ) (b : BookState) → n ≡ m → AllRecords (IsOfSlot n) b → AllRecords (IsOfSlot m) b
as_many n m b e h = subst (λ (k : ℕ). AllRecords (IsOfSlot k) b) e h

turned_locks : (t : Turn) (actor : ℕ) (w : World) (waits : Type 0) → actor < length w.actors → AreLocks w → OnLocks actor w.shared waits t
    → OnRecords (IsOfSlot (length w.shared.owners)) t
    → length (turned t actor w).world.shared.cells ≡ length w.shared.cells → AreLocks (turned t actor w).world
turned_locks (Moves s h r) actor w waits there locks on records e = record {
  each = set_one HoldsBy w actor (with_call h (Some r)) s there on.1
      (λ b ne. theirs actor b w.shared s (actor_at w b).running on.0 ne (locks.each b));
  wide = on.0.wide ∙ locks.wide ∙ sym e;
  records = as_many (length w.shared.owners) (length s.owners) s.book (sym on.0.wide) records;
}
turned_locks Waits actor w waits there locks on records e = locks
turned_locks (Ends result s h) actor w waits there locks on records e = record {
  each = set_one HoldsBy w actor (with_call h None) s there on.1
      (λ b ne. theirs actor b w.shared s (actor_at w b).running on.0 ne (locks.each b));
  wide = on.0.wide ∙ locks.wide ∙ sym e;
  records = as_many (length w.shared.owners) (length s.owners) s.book (sym on.0.wide) records;
}

retire_inside : (place : ℕ) (r : Running) → r.next ≡ Retire place → IsInside r.next r → place < length (written_slots r)
retire_inside place r e inside = subst (λ (k : Next). IsInside k r) e inside

go_locks : (w : World) → AreLocks w → (actor : ℕ) (granted : Bool) (r : Running) → actor < length w.actors
    → (actor_at w actor).running ≡ Some r → AreLocks (turned (turn_at w actor granted r) actor w).world
go_locks w locks actor granted r there is =
    let t = turn_at w actor granted r in
    let b = before w actor r locks is in
    turned_locks t actor w (WaitsFor w.shared actor r r.next) there locks
    (locks_kept r.next w.numbers.block actor granted w.shared (actor_at w actor).hand r b)
    (records_all (IsOfSlot (length w.shared.owners)) r.next w.numbers.block actor granted w.shared (actor_at w actor).hand r
    (λ place k killed. written_inside (length w.shared.owners) r place b.are (retire_inside place r k b.inside)) locks.records)
    (turned_frame (lent r.next (length w.shared.lists) actor r) t actor w
    (framed r.next w.numbers.block actor granted w.shared (actor_at w actor).hand r)).slots

no_slots : (n : ℕ) → AreSlots n []
no_slots n = record { rising = tt; inside = tt }

first_holds : (step : SnapshotOrCleanerStep) (s : Shared) (actor : ℕ) (c : Call) → Holds s actor [] false
    → held_on step (slots_on step) ≡ [] → AreSlots (length s.owners) (slots_on step)
    → HoldsIts s actor (Some (started c (SnapshotOrCleaner step) (slots_on step)))
first_holds step s actor c h e are = holds_as s actor (started c (SnapshotOrCleaner step) (slots_on step)) [] false h e refl are refl

begun_locks : (b : Beginning) (w : World) (actor : ℕ) (c : Call) → AreLocks w → Holds w.shared actor [] false
    → HoldsIts w.shared actor (Some (begun b w.shared c))
begun_locks Numbers w actor c locks h = holds_as w.shared actor (begun Numbers w.shared c) [] false h refl refl
    (no_slots (length w.shared.owners)) tt
begun_locks Looks w actor c locks h = holds_as w.shared actor (begun Looks w.shared c) [] false h refl refl
    (no_slots (length w.shared.owners)) tt
begun_locks Locks w actor c locks h =
    let slots = slots_of w.shared None nothing_looked c in
    locking_holds w.shared actor 0 (started c Check slots) h (new_slots w.shared None nothing_looked (started c Check slots) locks.wide)
begun_locks Visits w actor c locks h = holds_as w.shared actor (begun Visits w.shared c) [] false h refl refl
    (no_slots (length w.shared.owners)) refl
begun_locks (Maintains what) w actor c locks h =
    first_holds (first_step (length w.shared.cells) what) w.shared actor c h
    (first_by (λ (step : SnapshotOrCleanerStep). held_on step (slots_on step) ≡ []) (length w.shared.cells) refl
    (λ snapshot. refl) (λ snapshot. refl) (λ count. refl) (λ manner ino inside. refl) (λ manner. refl) what)
    (first_by (λ (step : SnapshotOrCleanerStep). AreSlots (length w.shared.owners) (slots_on step)) (length w.shared.cells) (no_slots _)
    (λ snapshot. no_slots _) (λ snapshot. no_slots _) (λ count. no_slots _)
    (λ manner ino inside. record { rising = (tt, tt); inside = (omega (arith, inside, locks.wide), tt) }) (λ manner. no_slots _) what)

start_locks : (w : World) → AreLocks w → (actor : ℕ) (c : Call) → actor < length w.actors → (actor_at w actor).running ≡ None
    → AreLocks (begun_in w actor c)
start_locks w locks actor c there is =
    let idle_now : HoldsIts w.shared actor None = subst (λ (running : Option Running). HoldsIts w.shared actor running) is
    (locks.each actor) in
    record {
      each = set_begun HoldsBy w actor c there
          (begun_locks (beginning c) w actor c locks (record { owners = idle_now.owners; holder = idle_now.holder })) locks.each;
      wide = locks.wide;
      records = locks.records;
    }

pub event_locks : (w : World) (e : Event) → AreLocks w → AreLocks (step w e).world
event_locks w e locks = event_by AreLocks w locks e (start_locks w locks) (go_locks w locks)

pub events_locks : (events : List Event) (w : World) → AreLocks w → AreLocks (after w events)
events_locks events w locks =
    events_by (λ (v : World). Unit {0}) AreLocks (λ v e known. event_locks v e) events w (λ before. tt) locks

-- ---- lists of one item

pub all_same : {X : Type 0} (n i : ℕ) (x : X) → slice_index_or (replicate n x) i x ≡ x
all_same zero i x = refl
all_same (suc n) zero x = refl
all_same (suc n) (suc i) x = all_same n i x

pub many_same : {X : Type 0} (n : ℕ) (x : X) → length (replicate n x) ≡ n
many_same zero x = refl
many_same (suc n) x = ap suc (many_same n x)

-- ---- who waits

turned_waits : (t : Turn) (actor : ℕ) (w : World) (waits : Type 0) → OnLocks actor w.shared waits t
    → (turned t actor w).reply ≡ Waiting → ((turned t actor w).world ≡ w) × waits
turned_waits (Moves s h r) actor w waits on e = absurd (not_waiting refl e)
turned_waits Waits actor w waits on e = (refl, on)
turned_waits (Ends (Ok found) s h) actor w waits on e = absurd (not_waiting refl e)
turned_waits (Ends (Err fault) s h) actor w waits on e = absurd (not_waiting refl e)

go_waits : (b : Bool) (running : Option Running) (w : World) (actor : ℕ) (granted : Bool) (r : Running) → AreLocks w
    → (actor_at w actor).running ≡ Some r → b ≡ true → running ≡ Some r
    → (go_step b running actor granted w).reply ≡ Waiting
    → ((go_step b running actor granted w).world ≡ w) × WaitsFor w.shared actor r r.next
go_waits b running w actor granted r locks is there same e =
    let t = turn w.numbers.block actor granted w.shared (actor_at w actor).hand r in
    let found = go_is_turn b running w actor granted r there same in
    let waited = turned_waits t actor w (WaitsFor w.shared actor r r.next)
    (locks_kept r.next w.numbers.block actor granted w.shared (actor_at w actor).hand r (before w actor r locks is))
    (subst (λ (x : Step). x.reply ≡ Waiting) found e) in
    (ap (λ (x : Step). x.world) found ∙ waited.0, waited.1)

pub waits : (w : World) (actor : ℕ) (granted : Bool) (r : Running) → AreLocks w → actor < length w.actors
    → (actor_at w actor).running ≡ Some r
    → (step w (Go actor granted)).reply ≡ Waiting → ((step w (Go actor granted)).world ≡ w) × WaitsFor w.shared actor r r.next
waits w actor granted r locks there is e =
    go_waits (nat_lt actor (length w.actors)) (actor_at w actor).running w actor granted r locks is
    (lt-ltb actor (length w.actors) there) is e

pub has_lent : (w : World) (actor : ℕ) (r : Running) → AreLocks w → (actor_at w actor).running ≡ Some r → HasLent w.shared actor r
has_lent w actor r locks is = record {
  cell = lent_cell r.next (length w.shared.lists) actor w.shared r (before w actor r locks is);
  holder = lent_holder r.next actor w.shared r (before w actor r locks is);
}
