-- What stands past settled logs, over events.
use Rattle.std.proofs.Common.{Bool, List, None, Option, Some, ap, length, refl, subst, sym, ℕ, ◌++◌, ◌<◌, ◌∙◌, ◌≡◌, ◌≢◌}
use Rattle.std.proofs.lemmas.Bool.{eq-eqb, false≢true}
use Rattle.nv_base.specs.declared.geometry.GeometryNumbers.{GeometryNumbers}
use Rattle.nv_calls.specs.declared.call.Call.{Call}
use Rattle.nv_cell.specs.Cell.{CellState}
use Rattle.nv_entry.specs.declared.item.Entry.{Entry}
use Rattle.nv_machine.proofs.LogTails.{same_slot as same_owner}
use Rattle.nv_machine.specs.Format.{formatted}
use Rattle.nv_machine.specs.Grown.{AreGrown, HasGrownBy, fresh_entries, is_appended}
use Rattle.nv_machine.specs.Kept.{AreBlocksApart, IsKept}
use Rattle.nv_machine.specs.Locks.{AreLocks, HoldsIts, is_owner}
use Rattle.nv_machine.specs.Order.{IsInOrder}
use Rattle.nv_machine.specs.Reads.{written_slots}
use Rattle.nv_machine.specs.Sequence.{beginning, begun}
use Rattle.nv_machine.specs.Step.{after, step, turned}
use Rattle.nv_machine.specs.World.{Actor, Ends, Event, Moves, Running, Shared, Turn, Waits, World, actor_at, idle, owner_at}
use Rattle.nv_machine.proofs.NewWorld.{new_settled, new_tails}
use Rattle.nv_machine.proofs.OverEvents.{begun_in, event_by, events_by, set_begun, set_one, turn_at, with_call}
use Rattle.nv_machine.proofs.UnsettledLogs.{CellsLeft, OnGrown, all_settled, not_appended}
use Rattle.nv_machine.proofs.LogsInOrder.{begun_commits}
use Rattle.nv_machine.proofs.LogsKeptRuns.{events_kept}
use Rattle.nv_machine.proofs.LocksAlongCalls.{LocksLeft, OnLocks}
use Rattle.nv_machine.proofs.LocksHeld.{locks_kept, owner_is}
use Rattle.nv_machine.proofs.LocksOverEvents.{all_same, before, events_locks}
use Rattle.nv_machine.proofs.UnsettledTurns.{grown_turn, standing}

-- ---- all actors

their_grown : (a b : ℕ) (s t : Shared) (running : Option Running) → b ≢ a → LocksLeft a s t → CellsLeft a s t → HasGrownBy running s b
    → HasGrownBy running t b
their_grown a b s t None ne locks left g = tt
their_grown a b s t (Some r) ne locks left g = record {
  entries = λ ino q.
      let o = was ino q in
      ap (λ (c : CellState). c.chain.entries) (left.cells ino (other ino o)) ∙ g.entries ino o
      ∙ ap (λ (l : List Entry). l ++ fresh_entries (is_appended r.next (written_slots r) ino) r ino) (sym (left.logs ino (other ino o)));
  tails = λ ino q e. let o = was ino q in rw (left.cells ino (other ino o)) (g.tails ino o e);
} where
  was : (ino : ℕ) → owner_at t ino ≡ Some b → owner_at s ino ≡ Some b
  was ino q = owner_is b (owner_at s ino) (sym (locks.owners b ne ino) ∙ ap (is_owner b) q ∙ eq-eqb b b refl)

  other : (ino : ℕ) → owner_at s ino ≡ Some b → owner_at s ino ≢ Some a
  other ino o e = ne (same_owner b a (sym o ∙ e))

abbrev GrownBy : ℕ → Shared → Actor → Type 0
GrownBy b s x = HasGrownBy x.running s b

turned_grown : (t : Turn) (actor : ℕ) (w : World) (waits : Type 0) → actor < length w.actors → AreGrown w → OnLocks actor w.shared waits t
    → OnGrown actor w.shared t → AreGrown (turned t actor w).world
turned_grown (Moves s h r) actor w waits there grown locks on = record {
  free = on.1;
  each = set_one GrownBy w actor (with_call h (Some r)) s there on.2
      (λ b ne. their_grown actor b w.shared s (actor_at w b).running ne locks.0 on.0 (grown.each b));
}
turned_grown Waits actor w waits there grown locks on = grown
turned_grown (Ends result s h) actor w waits there grown locks on = record {
  free = on.1;
  each = set_one GrownBy w actor (with_call h None) s there tt
      (λ b ne. their_grown actor b w.shared s (actor_at w b).running ne locks.0 on.0 (grown.each b));
}

go_grown : (w : World) → AreLocks w → IsKept w → AreGrown w → (actor : ℕ) (granted : Bool) (r : Running) → actor < length w.actors
    → (actor_at w actor).running ≡ Some r → AreGrown (turned (turn_at w actor granted r) actor w).world
go_grown w locks kept grown actor granted r there is =
    turned_grown (turn_at w actor granted r) actor w _ there grown
    (locks_kept r.next w.numbers.block actor granted w.shared (actor_at w actor).hand r (before w actor r locks is))
    (grown_turn r.next w.numbers.block actor granted w.shared (actor_at w actor).hand r (standing w actor r locks kept grown is))

-- an actor without a call has no lock
no_owner : (s : Shared) (actor ino : ℕ) → HoldsIts s actor None → owner_at s ino ≡ Some actor → ⊥
no_owner s actor ino holds e = false≢true (sym (holds.owners ino) ∙ ap (is_owner actor) e ∙ eq-eqb actor actor refl)

start_grown : (w : World) → AreLocks w → AreGrown w → (actor : ℕ) (c : Call) → actor < length w.actors
    → (actor_at w actor).running ≡ None → AreGrown (begun_in w actor c)
start_grown w locks grown actor c there is =
    let holds : HoldsIts w.shared actor None = subst (λ (running : Option Running). HoldsIts w.shared actor running) is
    (locks.each actor) in
    let r = begun (beginning c) w.shared c in
    record {
      free = grown.free;
      each = set_begun GrownBy w actor c there
          (all_settled r.next w.shared actor r (λ ino. not_appended r.next _ ino (begun_commits (beginning c) w.shared c))
          (λ ino q. absurd (no_owner w.shared actor ino holds q))) grown.each;
    }

pub event_grown : (w : World) (e : Event) → AreLocks w → IsKept w → AreGrown w → AreGrown (step w e).world
event_grown w e locks kept grown = event_by AreGrown w grown e (start_grown w locks grown) (go_grown w locks kept grown)

pub events_grown : (events : List Event) (w : World) → AreLocks w → IsInOrder w → IsKept w → AreGrown w
    → ((before : List Event) → AreBlocksApart (after w before)) → AreGrown (after w events)
events_grown events w locks order kept grown apart =
    events_by (λ (v : World). AreLocks v × IsKept v) AreGrown (λ v e is g. event_grown v e is.0 is.1 g) events w
    (λ before. (events_locks before w locks, events_kept before w locks order kept apart)) grown

-- ---- a new world

pub new_grown : (g : GeometryNumbers) → AreGrown (formatted g)
new_grown g = record {
  free = λ ino e. record { entries = sym (new_settled g ino); tail = new_tails g ino };
  each = λ actor. subst (λ (x : Actor). HasGrownBy x.running (formatted g).shared actor) (sym (all_same g.actors actor idle)) tt;
}
