-- Every world's logs are in order, whatever events come.
use Rattle.std.proofs.Common.{Bool, List, None, Option, Some, arith, false, if◌then◌else◌, length, nat_lt, refl, subst, sym, true, ℕ, ◌<◌, ◌∙◌, ◌≡◌, ◌≢◌}
use Rattle.std.specs.Prelude.{slice_index_or}
use Rattle.std.proofs.lemmas.Bool.{false≢true}
use Rattle.nv_alloc.specs.Numbers.{has}
use Rattle.nv_base.specs.declared.geometry.GeometryNumbers.{GeometryNumbers}
use Rattle.nv_calls.specs.Slots.{IsBefore}
use Rattle.nv_calls.specs.declared.call.Call.{Call}
use Rattle.nv_cell.specs.Cell.{CellState}
use Rattle.nv_machine.proofs.LogTails.{same_slot as some_same}
use Rattle.nv_machine.specs.Format.{formatted}
use Rattle.nv_machine.specs.Frame.{Frame, IsFramed, Lent, lent}
use Rattle.nv_machine.specs.Locks.{AreLocks, HoldsIts, commits_at, held_at}
use Rattle.nv_machine.specs.Order.{CommitsIn, IsEntered, IsInOrder, entries_at, to_append}
use Rattle.nv_machine.specs.Reads.{is_written, slots_of, written_slots}
use Rattle.nv_machine.specs.Sequence.{Beginning, Locks, beginning, begun, nothing_looked}
use Rattle.nv_machine.specs.Step.{after, step, turned}
use Rattle.nv_machine.specs.World.{Actor, Append, Check, Ends, Event, Lock, Moves, Next, Running, Shared, Turn, Waits, World, actor_at, idle}
use Rattle.nv_machine.proofs.NewWorld.{each_cell}
use Rattle.nv_machine.proofs.OverEvents.{event_by, events_by, set_begun, set_one, turn_at, with_call}
use Rattle.nv_machine.proofs.StepFrames.{framed}
use Rattle.nv_machine.proofs.Lists.{has_filter, has_later}
use Rattle.nv_machine.proofs.LocksHeld.{lent_cell, slot_owned}
use Rattle.nv_machine.proofs.LocksOverEvents.{all_same, before, events_locks}
use Rattle.nv_machine.proofs.AppendsToCome.{OnOrder, OrderLeft}
use Rattle.nv_machine.proofs.OrderedIds.{EnteredAt, order_kept}

-- ---- what another commit still has to append to is locked by its actor

append_held : (next : Next) (r : Running) (ino : ℕ) → has (to_append next (written_slots r)) ino ≡ true
    → has (held_at next r.slots) ino ≡ true
append_held (Append place) r ino there = has_filter (is_written r.plan) r.slots ino (has_later place (written_slots r) ino there)
append_held other r ino there = absurd (false≢true there)

their_commit : (a b : ℕ) (s t : Shared) (l : Lent) (running : Option Running) → b ≢ a → OrderLeft a s t → Frame l s t
    → ((ino : ℕ) → l.cell ≡ Some ino → slice_index_or s.owners ino None ≡ Some a)
    → HoldsIts s b running → CommitsIn s running → CommitsIn t running
their_commit a b s t l None ne left f own holds h = tt
their_commit a b s t l (Some r) ne left f own holds h = λ e.
    let was = h e in
    let kept = left.others b ne (holds.holder ∙ e) in
    record {
      commit = was.commit ∙ sym kept.commit;
      epoch = was.epoch ∙ sym kept.epoch;
      earlier = λ ino there.
          let theirs = slot_owned b s r ino holds (append_held r.next r ino there) in
          subst (λ (x : CellState). IsBefore r.commit r.epoch x.chain.entries)
          (sym (f.cells ino (λ is. ne (some_same b a (sym theirs ∙ own ino is))))) (was.earlier ino there);
    }

abbrev CommitsBy : ℕ → Shared → Actor → Type 0
CommitsBy b s x = CommitsIn s x.running

turned_order : (t : Turn) (actor : ℕ) (w : World) (l : Lent) → actor < length w.actors → AreLocks w → IsInOrder w
    → OnOrder actor w.shared t → IsFramed l w.shared t
    → ((ino : ℕ) → l.cell ≡ Some ino → slice_index_or w.shared.owners ino None ≡ Some actor) → IsInOrder (turned t actor w).world
turned_order (Moves s h r) actor w l there locks order on f own = record {
  logs = on.0.logs;
  each = set_one CommitsBy w actor (with_call h (Some r)) s there on.1
      (λ b ne. their_commit actor b w.shared s l (actor_at w b).running ne on.0 f own (locks.each b) (order.each b));
}
turned_order Waits actor w l there locks order on f own = order
turned_order (Ends result s h) actor w l there locks order on f own = record {
  logs = on.logs;
  each = set_one CommitsBy w actor (with_call h None) s there tt
      (λ b ne. their_commit actor b w.shared s l (actor_at w b).running ne on f own (locks.each b) (order.each b));
}

-- ---- one event

entered_at : (s : Shared) (r : Running) → IsEntered s r → EnteredAt s r.next r
entered_at s r h = record { commit = h.commit; epoch = h.epoch; earlier = h.earlier }

go_order : (w : World) → AreLocks w → IsInOrder w → (actor : ℕ) (granted : Bool) (r : Running) → actor < length w.actors
    → (actor_at w actor).running ≡ Some r → IsInOrder (turned (turn_at w actor granted r) actor w).world
go_order w locks order actor granted r there is =
    let h = (actor_at w actor).hand in
    let b = before w actor r locks is in
    let own : CommitsIn w.shared (Some r) = subst (λ (running : Option Running). CommitsIn w.shared running) is (order.each actor) in
    turned_order (turn_at w actor granted r) actor w (lent r.next (length w.shared.lists) actor r) there locks order
    (order_kept r.next w.numbers.block actor granted w.shared h r b (λ c. entered_at w.shared r (own c)) order.logs)
    (framed r.next w.numbers.block actor granted w.shared h r) (lent_cell r.next (length w.shared.lists) actor w.shared r b)

locking_commits : (place : ℕ) (slots : List ℕ) (b : Bool) → commits_at (if b then Lock place else Check) ≡ false
locking_commits place slots true = refl
locking_commits place slots false = refl

pub begun_commits : (b : Beginning) (s : Shared) (c : Call) → commits_at (begun b s c).next ≡ false
begun_commits Locks s c = locking_commits 0 (slots_of s None nothing_looked c) (nat_lt 0 (length (slots_of s None nothing_looked c)))
begun_commits other s c = refl

pub event_order : (w : World) (e : Event) → AreLocks w → IsInOrder w → IsInOrder (step w e).world
event_order w e locks order = event_by IsInOrder w order e
    (λ actor c there none. record {
      logs = order.logs;
      each = set_begun CommitsBy w actor c there (λ k. absurd (false≢true (sym (begun_commits (beginning c) w.shared c) ∙ k))) order.each;
    })
    (go_order w locks order)

pub events_order : (events : List Event) (w : World) → AreLocks w → IsInOrder w → IsInOrder (after w events)
events_order events w locks order = events_by AreLocks IsInOrder event_order events w (λ before. events_locks before w locks) order

-- ---- a new world

new_logs : (g : GeometryNumbers) (ino : ℕ) → IsBefore 1 1 (entries_at (formatted g).shared ino)
new_logs g = each_cell g (λ (c : CellState). IsBefore 1 1 c.chain.entries)
    (record { ordered = (tt, tt); earlier = ((omega arith, omega arith), tt) })
    (λ block page generation. record { ordered = tt; earlier = tt })

pub new_order : (g : GeometryNumbers) → IsInOrder (formatted g)
new_order g = record {
  logs = λ ino. new_logs g ino;
  each = λ actor. subst (λ (x : Actor). CommitsIn (formatted g).shared x.running) (sym (all_same g.actors actor idle)) tt;
}
