-- The open journals note no inode twice, whatever events come.
use Rattle.std.proofs.Common.{◌≡◌, ℕ, zero, suc, ◌<◌, ◌==◌, ◌&&◌, ◌++◌, ◌∙◌, Bool, true, false, not, List, [], ◌∷◌, Option, Some, ap, append-nil, arith, refl, set, subst, ◌%◌, length}
use Rattle.std.specs.List.{AllByRecursion, list_all}
use Rattle.std.proofs.lemmas.Bool.{eqb-true}
use Rattle.nv_alloc.specs.Numbers.{IsRising}
use Rattle.nv_audit.specs.Image.{all_notes}
use Rattle.nv_audit.specs.Mounted.{are_apart}
use Rattle.nv_base.specs.declared.geometry.GeometryNumbers.{GeometryNumbers}
use Rattle.nv_book.specs.declared.record.Record.{Record}
use Rattle.nv_journal.specs.declared.old_tail.OldTail.{OldTail}
use Rattle.nv_machine.specs.Kept.{AreClosed, Knows, KnowsOf}
use Rattle.nv_machine.specs.Kinds.{old_tails}
use Rattle.nv_machine.specs.Locks.{HasSlots}
use Rattle.nv_machine.specs.Reads.{is_written, written_slots}
use Rattle.nv_machine.specs.Starts.{IsStart}
use Rattle.nv_machine.specs.Step.{after, kind_turn, step}
use Rattle.nv_machine.specs.World.{Close, Drop, Event, HandState, SnapshotOrCleaner, SnapshotOrCleanerStep, Make, Next, Number, Open, ReturnNumber, Running, Shared, World, actor_at}
use Rattle.nv_machine.proofs.EveryWorld.{reached}
use Rattle.nv_machine.proofs.Lists.{rising_filter}
use Rattle.nv_machine.proofs.OverEvents.{event_shared, events_by}
use Rattle.nv_machine.proofs.StepWork.{by_back, by_number, snapshot_or_cleaner_work}
use Rattle.nv_machine.proofs.WorkKeeps.{AfterTurn, turn_keeps}
use Rattle.nv_machine.specs.Reached.{IsReached}

abbrev pub NotesOnce : Shared → Type 0
NotesOnce s = are_apart (all_notes s.book.journals) ≡ true

-- ---- lists of notes

pub none_noted : (journals : List (List OldTail)) → AreClosed journals → all_notes journals ≡ []
none_noted [] closed = refl
none_noted (tails ∷ journals) closed = rw (closed.0, none_noted journals closed.1) refl

-- closed journals, of which one has notes
one_notes : (journals : List (List OldTail)) (cpu : ℕ) (tails : List OldTail) → AreClosed journals
    → are_apart tails ≡ true
    → are_apart (all_notes (set journals cpu tails)) ≡ true
one_notes [] cpu tails closed apart = refl
one_notes (own ∷ journals) zero tails closed apart =
    ap (λ (l : List OldTail). are_apart (tails ++ l)) (none_noted journals closed.1)
    ∙ ap are_apart (append-nil tails) ∙ apart
one_notes (own ∷ journals) (suc cpu) tails closed apart =
    ap (λ (l : List OldTail). are_apart (l ++ all_notes (set journals cpu tails))) closed.0
    ∙ one_notes journals cpu tails closed.1 apart

-- slots that rise are noted once each
others : (s : Shared) (slot : ℕ) (slots : List ℕ) → AllByRecursion (λ m. slot < m) slots
    → list_all (λ (t : OldTail). not (t.ino == slot)) (old_tails s slots) ≡ true
others s slot [] above = refl
others s slot (m ∷ slots) above = go (m == slot) refl (others s slot slots above.1) where
  go : (b : Bool) → (m == slot) ≡ b
      → list_all (λ (t : OldTail). not (t.ino == slot)) (old_tails s slots) ≡ true
      → (not b && list_all (λ (t : OldTail). not (t.ino == slot)) (old_tails s slots)) ≡ true
  go true e more =
      absurd (let same = eqb-true m slot e in let low = above.0 in omega (arith, same, low))
  go false e more = more

apart_tails : (s : Shared) (slots : List ℕ) → IsRising slots → are_apart (old_tails s slots) ≡ true
apart_tails s [] rising = refl
apart_tails s (slot ∷ slots) rising =
    rw (others s slot slots rising.0) (apart_tails s slots rising.1)

-- ---- one turn

module _ (block a cpu : ℕ) (granted : Bool) (s : Shared) (h : HandState) (r : Running)
    (once : NotesOnce s)
    (at : cpu ≡ a % length s.lists) (rising : IsRising r.slots) where
  abbrev P : Shared → HandState → Type 0
  P t x = NotesOnce t

  works : (step : SnapshotOrCleanerStep) → NotesOnce (snapshot_or_cleaner_work step a s h).shared
  works Make = once
  works (Drop snapshot) = once
  works other = once

  kind_once : (k : Next) → Knows k block s cpu h r → AfterTurn P (kind_turn k block a granted s h r)
  kind_once Number knows =
      turn_keeps P Number block a granted s h r once (by_number P s h (λ numbers ino. once))
  kind_once ReturnNumber knows =
      turn_keeps P ReturnNumber block a granted s h r once (by_back P s h (λ numbers ino. once))
  kind_once Open knows = turn_keeps P Open block a granted s h r once
      (subst (λ (c : ℕ).
      are_apart (all_notes (set s.book.journals c (old_tails s (written_slots r)))) ≡ true) at
      (one_notes s.book.journals cpu (old_tails s (written_slots r)) knows.2
      (apart_tails s (written_slots r) (rising_filter (is_written r.plan) r.slots rising))))
  kind_once Close knows = turn_keeps P Close block a granted s h r once
      (subst (λ (c : ℕ). are_apart (all_notes (set s.book.journals c [])) ≡ true) at
      (ap are_apart (none_noted (set s.book.journals cpu []) knows.2.alone)))
  kind_once (SnapshotOrCleaner step) knows =
      turn_keeps P (SnapshotOrCleaner step) block a granted s h r once (works step)
  kind_once other knows = turn_keeps P other block a granted s h r once once

-- ---- all events

event_once : (w : World) (e : Event) → IsReached w → NotesOnce w.shared
    → NotesOnce (step w e).world.shared
event_once w e reached once = event_shared NotesOnce w once e (λ a granted r there is.
    kind_once w.numbers.block a (a % length w.shared.lists) granted w.shared (actor_at w a).hand r
    once refl
    (rises r (subst (HasSlots (length w.shared.owners)) is (reached.locks.each a).slots)) r.next
    (subst (λ (o : Option Running). KnowsOf o w.numbers.block w.shared (a % length w.shared.lists)
    (actor_at w a).hand) is
    (reached.kept.each a)))
  where
    rises : (r : Running) → HasSlots (length w.shared.owners) (Some r) → IsRising r.slots
    rises r has = has.0.rising

pub all_once : (g : GeometryNumbers) (start : World) (records : List Record) (events : List Event)
    → IsStart g start records
    → NotesOnce (after start events).shared
all_once g start records events is =
    events_by IsReached (λ (w : World). NotesOnce w.shared) event_once events start
    (λ before. reached g start records before is)
    (ap are_apart (none_noted start.shared.book.journals is.closed))
