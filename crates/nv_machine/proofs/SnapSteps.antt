-- What each step makes of the list of snapshots is what its deed in the plain world says.
use Rattle.nv_base.specs.declared.fault.Fault.{Fault}
use Rattle.std.proofs.lemmas.Bool.{false≢true}
use Rattle.nv_calls.specs.declared.answer.Answer.TheVariants as answers
use Rattle.nv_machine.proofs.SnapshotOrCleanerWalk.{is_denied, tells, told_on}
use Rattle.nv_machine.proofs.SnapshotOrCleanerAlone.{alone_walk}
use Rattle.std.proofs.Common.{◌≡◌, ℕ, ◌∙◌, Bool, true, false, if◌then◌else◌, List, [], ◌∷◌, length, nat_lt, Option, Some, None, refl, subst, sym, ◌<◌, arith}
use Rattle.std.specs.Prelude.{Ok, Err}
use Rattle.nv_base.specs.declared.geometry.GeometryNumbers.{GeometryNumbers}
use Rattle.nv_epoch.specs.SnapList.{Snapshots as Living, after_making, after_pin, after_removal, after_unpin}
use Rattle.nv_machine.specs.Hands.{AreNumbers, HandAt, HandOf, HandOn}
use Rattle.nv_machine.specs.Locks.{AreLocks, HasSlots, IsInside, commits_at}
use Rattle.nv_machine.specs.Sequence.{slots_on}
use Rattle.nv_machine.specs.PlainRun.{Commits, PlainChange, Nothing, Numbers, Maintains, plain_change, plain_change_of, done_on, entered}
use Rattle.nv_machine.specs.Reads.{written_slots}
use Rattle.nv_machine.specs.SnapshotOrCleaner.{snapshot_or_cleaner_turn}
use Rattle.nv_machine.specs.Step.{kind_turn, step, turned}
use Rattle.nv_machine.specs.World.{ReturnNumber, Drop, Ends, Enter, Event, HandState, Make, Moves, Next, Number, Pin, Publish, Running, Shared, SnapshotOrCleanerStep, SnapshotOrCleaner, Turn, Unpin, Waits, World, actor_at, PlanCleaning, Pick}
use Rattle.nv_machine.proofs.OverEvents.{event_deed, turn_at}
use Rattle.nv_machine.proofs.StepWork.{return_number_work, work, number_work, snapshot_or_cleaner_work}
use Rattle.nv_machine.proofs.WorkKeeps.{AfterTurn, turn_keeps}

-- ---- the list after a deed

abbrev pub snaps_after : PlainChange → Living → Living
snaps_after (Maintains Make) l = after_making l
snaps_after (Maintains (Drop snapshot)) l = after_removal l snapshot
snaps_after (Maintains (Pin snapshot)) l = after_pin l snapshot
snaps_after (Maintains (Unpin snapshot seen)) l = after_unpin l snapshot
snaps_after other l = l

abbrev OnSnaps : PlainChange → Living → Turn → Type 0
OnSnaps d l (Moves t h r) = t.book.snaps ≡ snaps_after d l
OnSnaps d l Waits = l ≡ snaps_after d l
OnSnaps d l (Ends result t h) = t.book.snaps ≡ snaps_after d l

-- a turn that leaves it, whose deed does
same_snaps : (d : PlainChange) (l : Living) (t : Turn) → snaps_after d l ≡ l → AfterTurn (λ (u : Shared) (h : HandState). u.book.snaps ≡ l) t
    → OnSnaps d l t
same_snaps d l (Moves s h r) e on = on ∙ sym e
same_snaps d l Waits e on = sym e
same_snaps d l (Ends result s h) e on = on ∙ sym e

-- ---- the steps of calls on snapshots

abbrev OnStep : SnapshotOrCleanerStep → Living → Turn → Type 0
OnStep step l t = OnSnaps (done_on step t) l t

module _ (a : ℕ) (granted : Bool) (s : Shared) (h : HandState) (r : Running) where
  abbrev l : Living
  l = s.book.snaps

  work_snaps : (step : SnapshotOrCleanerStep) → (snapshot_or_cleaner_work step a s h).shared.book.snaps ≡ snaps_after (Maintains step) l
  work_snaps Make = refl
  work_snaps other = refl

  refused_snaps : (step : SnapshotOrCleanerStep) (fault : Fault) → is_denied step ≡ true → OnStep step l (Ends (Err fault) s h)
  refused_snaps (Unpin snapshot seen) fault is = absurd (false≢true is)
  refused_snaps other fault is = refl

  -- a step that is refused and unlocks leaves the list of snapshots
  denied_snaps : (step : SnapshotOrCleanerStep) → (0 < length (slots_on step)) → is_denied step ≡ true → l ≡ snaps_after (Maintains step) l
  denied_snaps (PlanCleaning manner slot) some is = refl
  denied_snaps Make some is = absurd (omega (arith, some))
  denied_snaps (Drop snapshot) some is = absurd (omega (arith, some))
  denied_snaps (Pin snapshot) some is = absurd (omega (arith, some))
  denied_snaps (Pick draining) some is = absurd (omega (arith, some))
  denied_snaps other some is = absurd (false≢true is)

  told_snaps : (step : SnapshotOrCleanerStep) → tells step ≡ true
      → OnStep step l (Ends (told_on step s r) (snapshot_or_cleaner_work step a s h).shared (snapshot_or_cleaner_work step a s h).hand)
  told_snaps Make is = refl
  told_snaps (Drop snapshot) is = refl
  told_snaps (Unpin snapshot seen) is = refl
  told_snaps other is = absurd (false≢true is)

  step_snaps : (step : SnapshotOrCleanerStep) → HandOn step h → r.slots ≡ slots_on step
      → OnStep step l (snapshot_or_cleaner_turn step a granted s h r)
  step_snaps step empty slots = alone_walk (OnStep step l) step a granted s h r empty slots (record {
    waits = refl;
    refused = refused_snaps step;
    goes = λ on clear. work_snaps step;
    told = λ on clear. told_snaps step on;
    denied = λ snapshot showing on. subst (λ (x : SnapshotOrCleanerStep). l ≡ snaps_after (Maintains x) l) (sym on) refl;
    unlocks = λ fault on some. denied_snaps step some on;
    leads_on = λ next leads. work_snaps step;
    over = λ e ends. work_snaps step;
    none = λ draining on nothing.
        subst (λ (x : SnapshotOrCleanerStep). OnStep x l (Ends (Ok (answers.Count draining.released)) s h)) (sym on) refl;
  })

-- ---- every kind

entered_same : (t : Turn) (l : Living) → snaps_after (entered t) l ≡ l
entered_same (Moves s h r) l = go (commits_at r.next) where
  go : (b : Bool) → snaps_after (if b then Numbers else Nothing) l ≡ l
  go true = refl
  go false = refl
entered_same Waits l = refl
entered_same (Ends result s h) l = refl

publish_same : (b : Bool) (l : Living) → snaps_after (if b then Nothing else Commits) l ≡ l
publish_same true l = refl
publish_same false l = refl

-- what is known of the hand and the slots of a call on snapshots
abbrev pub IsBare : Next → HandState → Running → Type 0
IsBare (SnapshotOrCleaner step) h r = HandOn step h × (r.slots ≡ slots_on step)
IsBare other h r = Unit {0}

pub number_same : (numbers : List ℕ) (s : Shared) (h : HandState) → (number_work numbers s h).shared.book.snaps ≡ s.book.snaps
number_same [] s h = refl
number_same (ino ∷ numbers) s h = refl

pub back_same : (number : Option ℕ) (s : Shared) (h : HandState) → (return_number_work number s h).shared.book.snaps ≡ s.book.snaps
back_same None s h = refl
back_same (Some ino) s h = refl

module _ (block a : ℕ) (granted : Bool) (s : Shared) (h : HandState) (r : Running) where
  file_snaps : (k : Next) → (work k block a s h r).shared.book.snaps ≡ s.book.snaps
      → snaps_after (plain_change k (written_slots r) (kind_turn k block a granted s h r)) s.book.snaps ≡ s.book.snaps
      → OnSnaps (plain_change k (written_slots r) (kind_turn k block a granted s h r)) s.book.snaps (kind_turn k block a granted s h r)
  file_snaps k same e =
      let t = kind_turn k block a granted s h r in
      same_snaps (plain_change k (written_slots r) t) s.book.snaps t e
      (turn_keeps (λ (u : Shared) (x : HandState). u.book.snaps ≡ s.book.snaps) k block a granted s h r refl same)

  kind_snaps : (k : Next) → IsBare k h r
      → OnSnaps (plain_change k (written_slots r) (kind_turn k block a granted s h r)) s.book.snaps (kind_turn k block a granted s h r)
  kind_snaps Number bare = file_snaps Number (number_same s.pool.numbers s h) refl
  kind_snaps Enter bare = file_snaps Enter refl (entered_same (kind_turn Enter block a granted s h r) s.book.snaps)
  kind_snaps (Publish place) bare = file_snaps (Publish place) refl (publish_same (nat_lt 1 (length (written_slots r))) s.book.snaps)
  kind_snaps ReturnNumber bare = file_snaps ReturnNumber (back_same h.ino s h) refl
  kind_snaps (SnapshotOrCleaner step) bare = step_snaps a granted s h r step bare.0 bare.1
  kind_snaps other bare = file_snaps other refl refl

-- ---- events

abbrev pub AreBare : World → Type 0
AreBare w = (actor : ℕ) (r : Running) → (actor_at w actor).running ≡ Some r → IsBare r.next (actor_at w actor).hand r

turned_snaps : (d : PlainChange) (t : Turn) (actor : ℕ) (w : World) → OnSnaps d w.shared.book.snaps t
    → (turned t actor w).world.shared.book.snaps ≡ snaps_after d w.shared.book.snaps
turned_snaps d (Moves s h r) actor w on = on
turned_snaps d other actor w on = on

pub event_snaps : (w : World) (e : Event) → AreBare w
    → (step w e).world.shared.book.snaps ≡ snaps_after (plain_change_of w e) w.shared.book.snaps
event_snaps w e bare = event_deed (λ (d : PlainChange) (v : World). v.shared.book.snaps ≡ snaps_after d w.shared.book.snaps) w refl e
    (λ actor c there is. refl)
    (λ actor granted r there is. turned_snaps _ (turn_at w actor granted r) actor w
    (kind_snaps w.numbers.block actor granted w.shared (actor_at w actor).hand r r.next (bare actor r is)))

-- ---- every world

bare_at : (g : GeometryNumbers) (w : World) (k : Next) (h : HandState) (r : Running) → HandOf g h (Some r) → r.next ≡ k
    → HasSlots (length w.shared.owners) (Some r) → IsBare k h r
bare_at g w k h r hand is slots = subst (λ (n : Next). IsBare n h r) is (go r.next hand.0 slots.1) where
  go : (n : Next) → HandAt g n h r → IsInside n r → IsBare n h r
  go (SnapshotOrCleaner step) hand inside = (hand, inside)
  go other hand inside = tt

pub are_bare : (g : GeometryNumbers) (w : World) → AreLocks w → AreNumbers g w → AreBare w
are_bare g w locks numbers actor r is =
    bare_at g w r.next (actor_at w actor).hand r
    (subst (λ (o : Option Running). HandOf g (actor_at w actor).hand o) is (numbers.hands actor)) refl
    (subst (HasSlots (length w.shared.owners)) is (locks.each actor).slots)
