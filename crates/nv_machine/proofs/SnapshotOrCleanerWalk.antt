-- EVERY STEP OF A CALL ON SNAPSHOTS AND OF A CLEANER, walked once for all laws: a law that says what it wants of each way
-- (`SnapshotOrCleanerWays`) gets it of the turn.
use Rattle.std.proofs.Common.{◌≡◌, ℕ, ◌<◌, zero, suc, ◌+◌, ◌-◌, ◌||◌, not, Bool, true, false, List, [], ◌∷◌, Option, Some, None, ap, arith, inl, inr, length, nat_lt, option_to_list, refl, subst, sym, ◌∙◌}
use Rattle.std.specs.Prelude.{Result, Ok, Err, is_some}
use Rattle.std.proofs.lemmas.Bool.{false≢true, ltb-false, true≢false}
use Rattle.nv_base.specs.declared.fault.Fault.{Fault}
use Rattle.nv_base.specs.declared.fault.Fault.TheVariants.{NoSnapshot, NoSpace, Stale}
use Rattle.nv_base.specs.Memory.{out_of_memory}
use Rattle.nv_book.specs.declared.record.Record.{Record}
use Rattle.nv_calls.specs.Refusals.{Check as Tests}
use Rattle.nv_calls.specs.declared.answer.Answer.{Answer}
use Rattle.nv_calls.specs.declared.answer.Answer.TheVariants as answers
use Rattle.nv_epoch.specs.SnapList.{pins_of}
use Rattle.nv_clean.specs.Cleaned.{answer_of}
use Rattle.nv_clean.specs.Plans.{wanted_of}
use Rattle.nv_machine.specs.Causes.{IsCauseOn, IsShort, is_cleanable}
use Rattle.nv_machine.specs.Cleaning.{chosen_turn, compacted_cell, fresh_turn, inode_turn, is_thorough, plan_cleaning_turn, lock_cleaned_turn, nothing_cleaned, thorough_turn, unlinked}
use Rattle.nv_machine.specs.Kinds.{asked_list}
use Rattle.nv_cell.specs.Readers.{has_inode}
use Rattle.nv_machine.specs.Sequence.{slots_on}
use Rattle.nv_machine.specs.SnapshotOrCleaner.{copies_at, drop_tests, drop_turn, first_showing, if_free, is_first, lock_picked_turn, make_tests, make_turn, one_more, picked_turn, pin_turn, seen_on, show_turn, showing_on, shown_by, snapshot_or_cleaner_turn, visited, show_or_unpin}
use Rattle.nv_machine.specs.World.{Cleans, Compact, Draining, Drains, Drop, Ending, Fresh, HandState, PlanCleaning, LockCleaned, LockPicked, Make, Manner, BoundAnew, Pick, Pin, Refuses, Release, Running, Shared, Show, Showing, SnapshotOrCleanerStep, SnapshotOrCleaner, Turn, Unlink, Unpin, cell_at, go_to, list_at, owner_at}
use Rattle.nv_machine.proofs.StepWork.{snapshot_or_cleaner_work}
use Rattle.nv_machine.proofs.StepWays.{After, AfterBy, EndsBy, Going, IsBlockedOn, IsClearOn, IsHeld, Telling, ends_go, is_overtaken}
use Rattle.nv_machine.proofs.StepWalk.{Denies, grown_goes, refused_goes}
use Rattle.nv_reader.specs.Walk as walk

-- ---- calls on snapshots

-- what comes next behind the work of a step, and the slots of its call then
abbrev pub goes_next : SnapshotOrCleanerStep → Bool
goes_next (Pin snapshot) = true
goes_next (Show snapshot showing) = true
goes_next (Pick draining) = true
goes_next (LockPicked draining picked) = true
goes_next (LockCleaned manner ino) = true
goes_next other = false

abbrev pub picked_next : List Record → Draining → SnapshotOrCleanerStep
picked_next [] draining = Pick draining
picked_next (picked ∷ deferred) draining = LockPicked draining picked

abbrev pub next_on : SnapshotOrCleanerStep → Shared → SnapshotOrCleanerStep
next_on (Pin snapshot) s = showing_on snapshot (first_showing s)
next_on (Show snapshot showing) s = showing_on snapshot (seen_on (copies_at s snapshot (visited showing.visits)) showing)
next_on (Pick draining) s = picked_next s.book.deferred draining
next_on (LockPicked draining picked) s = Release draining picked
next_on (LockCleaned manner ino) s = PlanCleaning manner (Some ino)
next_on other s = other

abbrev pub picked_slots : List Record → List ℕ
picked_slots [] = []
picked_slots (picked ∷ deferred) = picked.ino ∷ []

abbrev pub slots_next : SnapshotOrCleanerStep → Shared → Running → List ℕ
slots_next (Pick draining) s r = picked_slots s.book.deferred
slots_next other s r = r.slots

-- it may be refused
abbrev pub is_denied : SnapshotOrCleanerStep → Bool
is_denied Make = true
is_denied (Drop snapshot) = true
is_denied (Pin snapshot) = true
is_denied (Pick draining) = true
is_denied (PlanCleaning manner slot) = true
is_denied other = false

-- what the last step of a call is told
abbrev pub tells : SnapshotOrCleanerStep → Bool
tells Make = true
tells (Drop snapshot) = true
tells (Unpin snapshot seen) = true
tells other = false

abbrev pub told_on : SnapshotOrCleanerStep → Shared → Running → Result Answer Fault
told_on Make s r = Ok (answers.Snapshot s.book.snaps.epoch)
told_on (Unpin snapshot seen) s r = shown_by r.ending seen
told_on other s r = Ok answers.Nothing

-- a planning and a taking go on to another step of their cleaner, of the same slot
abbrev pub leads : SnapshotOrCleanerStep → Bool
leads (PlanCleaning manner slot) = true
leads (Fresh ino asked wanted) = true
leads other = false

abbrev pub is_cleaning : SnapshotOrCleanerStep → Bool
is_cleaning (Fresh ino asked wanted) = true
is_cleaning (Unlink ino) = true
is_cleaning (Compact ino) = true
is_cleaning other = false

-- a step of a call on snapshots goes on to no step of a cleaner behind its planning
showing_plain : (left : ℕ) (visits : List walk.Visit) (snapshot : ℕ) (showing : Showing)
    → is_cleaning (show_or_unpin left visits snapshot showing) ≡ false
showing_plain zero visits snapshot showing = refl
showing_plain (suc left) [] snapshot showing = refl
showing_plain (suc left) (visit ∷ visits) snapshot showing = refl

picked_plain : (deferred : List Record) (draining : Draining) → is_cleaning (picked_next deferred draining) ≡ false
picked_plain [] draining = refl
picked_plain (picked ∷ deferred) draining = refl

pub goes_plain : (step : SnapshotOrCleanerStep) (s : Shared) → goes_next step ≡ true → is_cleaning (next_on step s) ≡ false
goes_plain (Pin snapshot) s on = showing_plain (first_showing s).left (first_showing s).visits snapshot (first_showing s)
goes_plain (Show snapshot showing) s on =
    let seen = seen_on (copies_at s snapshot (visited showing.visits)) showing in showing_plain seen.left seen.visits snapshot seen
goes_plain (Pick draining) s on = picked_plain s.book.deferred draining
goes_plain (LockPicked draining picked) s on = refl
goes_plain (LockCleaned manner ino) s on = refl
goes_plain other s on = absurd (false≢true on)

pub record LeadsTo (step next : SnapshotOrCleanerStep) : Type 0 where
  pub from : leads step ≡ true
  pub to : is_cleaning next ≡ true
  pub slots : slots_on next ≡ slots_on step

-- how the call is to end behind the work of a step that turns to the last steps: a drain has released one more; a planning has
-- found nothing, and a clean step tells what it took out; and a taking lacks blocks
abbrev pub EndsWith : SnapshotOrCleanerStep → ℕ → Shared → HandState → Ending → Type 0
EndsWith (Release draining picked) a s h e = e ≡ Drains (one_more draining)
EndsWith (PlanCleaning manner slot) a s h e = (e ≡ Cleans nothing_cleaned) × (is_cleanable slot s ≡ true)
EndsWith (Fresh ino asked wanted) a s h e =
    (e ≡ Refuses NoSpace) × IsCauseOn (Fresh ino asked wanted) a true s NoSpace
EndsWith (Unlink ino) a s h e = e ≡ Cleans (answer_of false (cell_at s ino) (unlinked (cell_at s ino)))
EndsWith (Compact ino) a s h e = e ≡ Cleans (answer_of true (cell_at s ino) (compacted_cell h (cell_at s ino)))
EndsWith other a s h e = ⊥

-- it does not look its names up again
pub ends_fair : (step : SnapshotOrCleanerStep) (a : ℕ) (s : Shared) (h : HandState) (e : Ending) → EndsWith step a s h e
    → is_overtaken e ≡ false
ends_fair (Release draining picked) a s h e is = ap is_overtaken is
ends_fair (PlanCleaning manner slot) a s h e is = ap is_overtaken is.0
ends_fair (Fresh ino asked wanted) a s h e is = ap is_overtaken is.0
ends_fair (Unlink ino) a s h e is = ap is_overtaken is
ends_fair (Compact ino) a s h e is = ap is_overtaken is
ends_fair other a s h e is = absurd is

pub ends_apart : (step : SnapshotOrCleanerStep) (a : ℕ) (s : Shared) (h : HandState) (e : Ending) → EndsWith step a s h e
    → e ≡ BoundAnew → ⊥
ends_apart step a s h e is over = true≢false (sym (ap is_overtaken over) ∙ ends_fair step a s h e is)

-- such a step has a slot locked
pub ends_slots : (step : SnapshotOrCleanerStep) (a : ℕ) (s : Shared) (h : HandState) (e : Ending) → EndsWith step a s h e
    → 0 < length (slots_on step)
ends_slots (Release draining picked) a s h e is = omega arith
ends_slots (PlanCleaning manner None) a s h e is = absurd (false≢true is.1)
ends_slots (PlanCleaning manner (Some ino)) a s h e is = omega arith
ends_slots (Fresh ino asked wanted) a s h e is = omega arith
ends_slots (Unlink ino) a s h e is = omega arith
ends_slots (Compact ino) a s h e is = omega arith
ends_slots other a s h e is = absurd is

-- nothing stops such a step
pub ends_clear : (step : SnapshotOrCleanerStep) (a : ℕ) (s : Shared) (h : HandState) (e : Ending) → EndsWith step a s h e → IsClearOn step s
ends_clear (Release draining picked) a s h e is = tt
ends_clear (PlanCleaning manner slot) a s h e is = tt
ends_clear (Fresh ino asked wanted) a s h e is = tt
ends_clear (Unlink ino) a s h e is = tt
ends_clear (Compact ino) a s h e is = tt
ends_clear other a s h e is = absurd is

pub leads_clear : {next : SnapshotOrCleanerStep} (step : SnapshotOrCleanerStep) (s : Shared) → LeadsTo step next → IsClearOn step s
leads_clear (PlanCleaning manner slot) s l = tt
leads_clear (Fresh ino asked wanted) s l = tt
leads_clear other s l = absurd (false≢true l.from)

-- memory is not granted that is asked for
pub no_growth : (granted grows : Bool) → (granted || not grows) ≡ false → (granted ≡ false) × (grows ≡ true)
no_growth true grows e = cc
no_growth false true e = (refl, refl)
no_growth false false e = cc

-- WHAT A LAW SAYS OF A STEP of a call on snapshots: of one that is refused, and behind its work of one that goes on to
-- another such step and of one that is told; of a show whose memory is refused; of one that turns to the last steps; and of a
-- pick that finds none
pub record SnapshotOrCleanerWays (P : Going) (E : Telling) (step : SnapshotOrCleanerStep) (a : ℕ) (granted : Bool) (s : Shared) (h : HandState)
    (r : Running) : Type 0 where
  pub stops : (fault : Fault) → (is_denied step ≡ true) × IsCauseOn step a granted s fault
      → EndsBy P E r.slots s h r (Refuses fault)
  pub goes : goes_next step ≡ true → IsClearOn step s → P (snapshot_or_cleaner_work step a s h).shared (snapshot_or_cleaner_work step a s h).hand
      (record r { slots = slots_next step s r; next = SnapshotOrCleaner (next_on step s) })
  pub told : tells step ≡ true → IsClearOn step s
      → E (told_on step s r) (snapshot_or_cleaner_work step a s h).shared (snapshot_or_cleaner_work step a s h).hand
  pub denied : (snapshot : ℕ) (showing : Showing) → (step ≡ Show snapshot showing) × (granted ≡ false)
      → P s h (record r { ending = Refuses out_of_memory; next = SnapshotOrCleaner (Unpin snapshot []) })
  pub leads_on : (next : SnapshotOrCleanerStep) → LeadsTo step next
      → P (snapshot_or_cleaner_work step a s h).shared (snapshot_or_cleaner_work step a s h).hand (go_to (SnapshotOrCleaner next) r)
  pub over : (e : Ending) → EndsWith step a s h e
      → EndsBy P E r.slots (snapshot_or_cleaner_work step a s h).shared (snapshot_or_cleaner_work step a s h).hand r e
  pub none : (draining : Draining) → step ≡ Pick draining → s.book.deferred ≡ [] → E (Ok (answers.Count draining.released)) s h

-- behind its work a step goes on to another such step, or its call is told
abbrev pub StepGoes : Going → SnapshotOrCleanerStep → ℕ → Shared → HandState → Running → Type 0
StepGoes P step a s h r =
    IsClearOn step s
    → P (snapshot_or_cleaner_work step a s h).shared (snapshot_or_cleaner_work step a s h).hand (go_to (SnapshotOrCleaner (next_on step s)) r)

abbrev pub StepTold : Telling → SnapshotOrCleanerStep → ℕ → Shared → HandState → Running → Type 0
StepTold E step a s h r =
    IsClearOn step s → E (told_on step s r) (snapshot_or_cleaner_work step a s h).shared (snapshot_or_cleaner_work step a s h).hand

-- what a planning finds: pages that may go, or none; entries that go, so that the others move; or none
pub record Planned (P : Going) (E : Telling) (manner : Manner) (ino : ℕ) (s : Shared) (h : HandState) (r : Running) : Type 0 where
  pub fast : is_thorough manner (cell_at s ino) ≡ false → P s h (go_to (SnapshotOrCleaner (Unlink ino)) r)
  pub some : (n : ℕ) → is_thorough manner (cell_at s ino) ≡ true → (wanted_of (cell_at s ino)).dropped ≡ suc n
      → P s h (go_to (SnapshotOrCleaner (Fresh ino 0 (wanted_of (cell_at s ino)).pages)) r)
  pub none : is_thorough manner (cell_at s ino) ≡ true → (wanted_of (cell_at s ino)).dropped ≡ 0
      → EndsBy P E r.slots s h r (Cleans nothing_cleaned)

-- so many pages are wanted yet of another list, where there is one, or none are
abbrev pub fresh_yet : ℕ → ℕ → ℕ → Shared → ℕ
fresh_yet asked wanted a s = wanted - length (list_at s (asked_list (length s.lists) a asked)).blocks

pub record Freshened (P : Going) (E : Telling) (ino asked wanted a : ℕ) (s : Shared) (h : HandState) (r : Running) : Type 0 where
  pub ready : fresh_yet asked wanted a s ≡ 0
      → let d = snapshot_or_cleaner_work (Fresh ino asked wanted) a s h in P d.shared d.hand (go_to (SnapshotOrCleaner (Compact ino)) r)
  pub more : (n : ℕ) → fresh_yet asked wanted a s ≡ suc n → nat_lt (asked + 1) (length s.lists) ≡ true
      → let d = snapshot_or_cleaner_work (Fresh ino asked wanted) a s h in
      P d.shared d.hand (go_to (SnapshotOrCleaner (Fresh ino (asked + 1) (suc n))) r)
  pub short : (n : ℕ) → fresh_yet asked wanted a s ≡ suc n → nat_lt (asked + 1) (length s.lists) ≡ false
      → let d = snapshot_or_cleaner_work (Fresh ino asked wanted) a s h in Denies P E d.shared d.hand r NoSpace

-- EVERY WAY OF A STEP of a call on snapshots or of a cleaner, with what is known there
abbrev pub StepWaysOf : Going → Telling → SnapshotOrCleanerStep → ℕ → Bool → Shared → HandState → Running → Type 0
StepWaysOf P E Make a granted s h r =
    ((fault : Fault) → make_tests s.book.snaps ≡ Err fault → Denies P E s h r fault) × StepTold E Make a s h r
StepWaysOf P E (Drop snapshot) a granted s h r =
    ((fault : Fault) → drop_tests (pins_of s.book.snaps snapshot) ≡ Err fault → Denies P E s h r fault)
    × StepTold E (Drop snapshot) a s h r
StepWaysOf P E (Pin snapshot) a granted s h r =
    (pins_of s.book.snaps snapshot ≡ None → Denies P E s h r NoSnapshot) × StepGoes P (Pin snapshot) a s h r
StepWaysOf P E (Show snapshot showing) a granted s h r =
    (granted ≡ false → P s h (record r { ending = Refuses out_of_memory; next = SnapshotOrCleaner (Unpin snapshot []) }))
    × StepGoes P (Show snapshot showing) a s h r
StepWaysOf P E (Unpin snapshot seen) a granted s h r = StepTold E (Unpin snapshot seen) a s h r
StepWaysOf P E (Pick draining) a granted s h r =
    (granted ≡ false → is_first draining ≡ true → Denies P E s h r out_of_memory)
    × (s.book.deferred ≡ [] → E (Ok (answers.Count draining.released)) s h)
    × ((picked : Record) (rest : List Record) → s.holder ≡ None → s.book.deferred ≡ picked ∷ rest
    → P (snapshot_or_cleaner_work (Pick draining) a s h).shared h
    (record r { slots = picked.ino ∷ []; next = SnapshotOrCleaner (LockPicked draining picked) }))
StepWaysOf P E (LockPicked draining picked) a granted s h r = StepGoes P (LockPicked draining picked) a s h r
StepWaysOf P E (Release draining picked) a granted s h r =
    EndsBy P E r.slots (snapshot_or_cleaner_work (Release draining picked) a s h).shared
    (snapshot_or_cleaner_work (Release draining picked) a s h).hand r
    (Drains (one_more draining))
StepWaysOf P E (LockCleaned manner ino) a granted s h r = StepGoes P (LockCleaned manner ino) a s h r
StepWaysOf P E (PlanCleaning manner slot) a granted s h r =
    (is_cleanable slot s ≡ false → Denies P E s h r Stale)
    × (is_cleanable slot s ≡ true → granted ≡ false → Denies P E s h r out_of_memory)
    × ((ino : ℕ) → slot ≡ Some ino → has_inode (cell_at s ino) ≡ true → Planned P E manner ino s h r)
StepWaysOf P E (Fresh ino asked wanted) a granted s h r = Freshened P E ino asked wanted a s h r
StepWaysOf P E (Unlink ino) a granted s h r =
    EndsBy P E r.slots (snapshot_or_cleaner_work (Unlink ino) a s h).shared (snapshot_or_cleaner_work (Unlink ino) a s h).hand r
    (Cleans (answer_of false (cell_at s ino) (unlinked (cell_at s ino))))
StepWaysOf P E (Compact ino) a granted s h r =
    EndsBy P E r.slots (snapshot_or_cleaner_work (Compact ino) a s h).shared (snapshot_or_cleaner_work (Compact ino) a s h).hand r
    (Cleans (answer_of true (cell_at s ino) (compacted_cell h (cell_at s ino))))

module _ (W : Type 0) (P : Going) (E : Telling) (a : ℕ) (s : Shared) (h : HandState) (r : Running) where
  abbrev Steps : SnapshotOrCleanerStep → Bool → Type 0
  Steps step granted = StepWaysOf P E step a granted s h r

  free_goes : (holder : Option ℕ) (t : Turn) → s.holder ≡ holder → (IsHeld s.holder → W) → (s.holder ≡ None → AfterBy W P E t)
      → AfterBy W P E (if_free holder t)
  free_goes (Some other) t free wait on = wait (other, free)
  free_goes None t free wait on = on free

  make_goes : (tests : Tests) (granted : Bool) → make_tests s.book.snaps ≡ tests → Steps Make granted → s.holder ≡ None
      → AfterBy W P E (make_turn tests s h r)
  make_goes (Err fault) granted is w free = refused_goes W P E fault s h r (w.0 fault is)
  make_goes (Ok tt) granted is w free = w.1 (free, is)

  drop_goes : (snapshot : ℕ) (tests : Tests) (granted : Bool) → drop_tests (pins_of s.book.snaps snapshot) ≡ tests
      → Steps (Drop snapshot) granted → s.holder ≡ None → AfterBy W P E (drop_turn snapshot tests s h r)
  drop_goes snapshot (Err fault) granted is w free = refused_goes W P E fault s h r (w.0 fault is)
  drop_goes snapshot (Ok tt) granted is w free = w.1 (free, is)

  pin_goes : (snapshot : ℕ) (pins : Option ℕ) (granted : Bool) → pins_of s.book.snaps snapshot ≡ pins → Steps (Pin snapshot) granted
      → s.holder ≡ None → AfterBy W P E (pin_turn snapshot pins s h r)
  pin_goes snapshot None granted is w free = refused_goes W P E NoSnapshot s h r (w.0 is)
  pin_goes snapshot (Some pins) granted is w free = w.1 (free, ap (λ (o : Option ℕ). is_some o) is)

  show_goes : (owner : Option ℕ) (granted : Bool) (snapshot : ℕ) (showing : Showing)
      → owner_at s (visited showing.visits).ino ≡ owner → (IsBlockedOn (Show snapshot showing) s → W)
      → Steps (Show snapshot showing) granted
      → AfterBy W P E (show_turn owner granted (copies_at s snapshot (visited showing.visits)) snapshot showing s h r)
  show_goes (Some other) granted snapshot showing free wait w = wait (other, free)
  show_goes None true snapshot showing free wait w = w.1 free
  show_goes None false snapshot showing free wait w = w.0 refl

  picked_goes : (deferred : List Record) (draining : Draining) (granted : Bool) → s.holder ≡ None → s.book.deferred ≡ deferred
      → Steps (Pick draining) granted → AfterBy W P E (picked_turn deferred draining s h r)
  picked_goes [] draining granted free is w = w.1 is
  picked_goes (picked ∷ deferred) draining granted free is w = w.2 picked deferred free is

  lock_picked_goes : (owner : Option ℕ) (draining : Draining) (picked : Record) (granted : Bool) → owner_at s picked.ino ≡ owner
      → (IsBlockedOn (LockPicked draining picked) s → W) → Steps (LockPicked draining picked) granted
      → AfterBy W P E (lock_picked_turn owner a draining picked s h r)
  lock_picked_goes (Some other) draining picked granted free wait w = wait (other, free)
  lock_picked_goes None draining picked granted free wait w = w free

  lock_cleaned_goes : (owner : Option ℕ) (manner : Manner) (ino : ℕ) (granted : Bool) → owner_at s ino ≡ owner
      → (IsBlockedOn (LockCleaned manner ino) s → W) → Steps (LockCleaned manner ino) granted
      → AfterBy W P E (lock_cleaned_turn owner a manner ino s h r)
  lock_cleaned_goes (Some other) manner ino granted free wait w = wait (other, free)
  lock_cleaned_goes None manner ino granted free wait w = w free

  thorough_goes : (n : ℕ) (manner : Manner) (ino : ℕ) → (wanted_of (cell_at s ino)).dropped ≡ n
      → is_thorough manner (cell_at s ino) ≡ true → Planned P E manner ino s h r
      → AfterBy W P E (thorough_turn n (wanted_of (cell_at s ino)).pages ino s h r)
  thorough_goes zero manner ino none is w = ends_go W P E s h r _ r.slots (w.none is none)
  thorough_goes (suc n) manner ino some is w = w.some n is some

  chosen_goes : (b : Bool) (manner : Manner) (ino : ℕ) → is_thorough manner (cell_at s ino) ≡ b → Planned P E manner ino s h r
      → AfterBy W P E (chosen_turn b ino s h r)
  chosen_goes true manner ino is w = thorough_goes _ manner ino refl is w
  chosen_goes false manner ino is w = w.fast is

  inode_goes : (b : Bool) (manner : Manner) (ino : ℕ) (granted : Bool) → has_inode (cell_at s ino) ≡ b
      → Steps (PlanCleaning manner (Some ino)) granted → AfterBy W P E (inode_turn b manner ino granted s h r)
  inode_goes false manner ino granted is w = refused_goes W P E Stale s h r (w.0 is)
  inode_goes true manner ino granted is w =
      grown_goes W P E granted _ s h r (w.1 is) (chosen_goes _ manner ino refl (w.2 ino refl is))

  plan_cleaning_goes : (manner : Manner) (slot : Option ℕ) (granted : Bool) → Steps (PlanCleaning manner slot) granted
      → AfterBy W P E (plan_cleaning_turn manner slot granted s h r)
  plan_cleaning_goes manner None granted w = refused_goes W P E Stale s h r (w.0 refl)
  plan_cleaning_goes manner (Some ino) granted w = inode_goes _ manner ino granted refl w

  fresh_goes : (n : ℕ) (more : Bool) (ino asked wanted : ℕ) → fresh_yet asked wanted a s ≡ n
      → nat_lt (asked + 1) (length s.lists) ≡ more → Freshened P E ino asked wanted a s h r
      → let d = snapshot_or_cleaner_work (Fresh ino asked wanted) a s h in AfterBy W P E (fresh_turn n more ino asked d.shared d.hand r)
  fresh_goes zero more ino asked wanted q m w = w.ready q
  fresh_goes (suc n) true ino asked wanted q m w = w.more n q m
  fresh_goes (suc n) false ino asked wanted q m w = refused_goes W P E NoSpace _ _ r (w.short n q m)

  -- EVERY STEP of a call on snapshots, or of a cleaner
  pub step_walk_by : (step : SnapshotOrCleanerStep) (granted : Bool) → (IsBlockedOn step s → W) → StepWaysOf P E step a granted s h r
      → AfterBy W P E (snapshot_or_cleaner_turn step a granted s h r)
  step_walk_by Make granted wait w = free_goes s.holder _ refl wait (make_goes (make_tests s.book.snaps) granted refl w)
  step_walk_by (Drop snapshot) granted wait w = free_goes s.holder _ refl wait (drop_goes snapshot _ granted refl w)
  step_walk_by (Pin snapshot) granted wait w = free_goes s.holder _ refl wait (pin_goes snapshot _ granted refl w)
  step_walk_by (Show snapshot showing) granted wait w = show_goes _ granted snapshot showing refl wait w
  step_walk_by (Unpin snapshot seen) granted wait w = free_goes s.holder _ refl wait (λ free. w (free, tt))
  step_walk_by (Pick draining) granted wait w =
      free_goes s.holder _ refl wait (λ free.
      grown_goes W P E _ _ s h r (λ lacks. let none = no_growth granted (is_first draining) lacks in w.0 none.0 none.1)
      (picked_goes s.book.deferred draining granted free refl w))
  step_walk_by (LockPicked draining picked) granted wait w = lock_picked_goes _ draining picked granted refl wait w
  step_walk_by (Release draining picked) granted wait w = ends_go W P E _ _ r _ r.slots w
  step_walk_by (LockCleaned manner ino) granted wait w = lock_cleaned_goes _ manner ino granted refl wait w
  step_walk_by (PlanCleaning manner slot) granted wait w = plan_cleaning_goes manner slot granted w
  step_walk_by (Fresh ino asked wanted) granted wait w = fresh_goes _ _ ino asked wanted refl refl w
  step_walk_by (Unlink ino) granted wait w = ends_go W P E _ _ r _ r.slots w
  step_walk_by (Compact ino) granted wait w = ends_go W P E _ _ r _ r.slots w

module _ (P : Going) (E : Telling) (a : ℕ) (s : Shared) (h : HandState) (r : Running) where
  short_of : (asked wanted n : ℕ) → fresh_yet asked wanted a s ≡ suc n → nat_lt (asked + 1) (length s.lists) ≡ false
      → IsShort s (asked_list (length s.lists) a asked) asked wanted NoSpace
  short_of asked wanted n q m = record {
    is = refl;
    last = omega (arith, ltb-false (asked + 1) (length s.lists) m);
    short = omega (arith, q);
  }

  any_step_ways : (step : SnapshotOrCleanerStep) (granted : Bool) → SnapshotOrCleanerWays P E step a granted s h r
      → StepWaysOf P E step a granted s h r
  any_step_ways Make granted w = (λ fault by. w.stops fault (refl, by), w.told refl)
  any_step_ways (Drop snapshot) granted w = (λ fault by. w.stops fault (refl, by), w.told refl)
  any_step_ways (Pin snapshot) granted w = (λ none. w.stops NoSnapshot (refl, (refl, none)), w.goes refl)
  any_step_ways (Show snapshot showing) granted w = (λ lacks. w.denied snapshot showing (refl, lacks), w.goes refl)
  any_step_ways (Unpin snapshot seen) granted w = w.told refl
  any_step_ways (Pick draining) granted w = (
    λ lacks first. w.stops out_of_memory (refl, ((refl, lacks), first)),
    λ empty. w.none draining refl empty,
    λ picked rest free is. subst (λ (l : List Record). P (snapshot_or_cleaner_work (Pick draining) a s h).shared h
        (record r { slots = picked_slots l; next = SnapshotOrCleaner (picked_next l draining) })) is
        (w.goes refl (free, (let some = ap (λ (l : List Record). length l) is in omega (arith, some)))),
  )
  any_step_ways (LockPicked draining picked) granted w = w.goes refl
  any_step_ways (Release draining picked) granted w = w.over (Drains (one_more draining)) refl
  any_step_ways (LockCleaned manner ino) granted w = w.goes refl
  any_step_ways (PlanCleaning manner slot) granted w = (
    λ none. w.stops Stale (refl, inl (refl, none)),
    λ some lacks. w.stops out_of_memory (refl, inr ((refl, lacks), some)),
    λ ino is some. record {
      fast = λ plain. w.leads_on (Unlink ino)
          (record { from = refl; to = refl; slots = ap (λ (o : Option ℕ). option_to_list o) (sym is) });
      some = λ n plain more. w.leads_on (Fresh ino 0 (wanted_of (cell_at s ino)).pages)
          (record { from = refl; to = refl; slots = ap (λ (o : Option ℕ). option_to_list o) (sym is) });
      none = λ plain less. w.over (Cleans nothing_cleaned)
          (refl, ap (λ (o : Option ℕ). is_cleanable o s) is ∙ some);
    },
  )
  any_step_ways (Fresh ino asked wanted) granted w = record {
    ready = λ q. w.leads_on (Compact ino) (record { from = refl; to = refl; slots = refl });
    more = λ n q m. w.leads_on (Fresh ino (asked + 1) (suc n)) (record { from = refl; to = refl; slots = refl });
    short = λ n q m. w.over (Refuses NoSpace) (refl, short_of asked wanted n q m);
  }
  any_step_ways (Unlink ino) granted w = w.over _ refl
  any_step_ways (Compact ino) granted w = w.over _ refl

  pub snapshot_or_cleaner_walk : (step : SnapshotOrCleanerStep) (granted : Bool) → SnapshotOrCleanerWays P E step a granted s h r
      → After P E (snapshot_or_cleaner_turn step a granted s h r)
  snapshot_or_cleaner_walk step granted w =
      step_walk_by (Unit {0}) P E a s h r step granted (λ blocked. tt) (any_step_ways step granted w)
