-- A step that may yet refuse its call leaves all cells, and the book except for pins; and so does each further step of a
-- call that was refused.
use Rattle.std.proofs.Common.{◌≡◌, ◌∙◌, ℕ, ◌-◌, ◌+◌, ◌<◌, ◌==◌, Bool, true, false, cond, List, [], ◌∷◌, Some, ap, ap₂, arith, map, refl, subst, sym, suc}
use Rattle.std.specs.Prelude.{Err, Ok, Result}
use Rattle.std.proofs.lemmas.Bool.{eqb-true, false≢true, true≢false}
use Rattle.nv_base.specs.declared.fault.Fault.{Fault}
use Rattle.nv_base.specs.declared.fault.Fault.TheVariants.{CommitLimit, NoSnapshot, NoSpace, Stale}
use Rattle.nv_base.specs.Memory.{out_of_memory}
use Rattle.nv_book.specs.Book.{after_pin_snapshot, after_unpin_snapshot}
use Rattle.nv_calls.specs.AllCalls.{early, looked, refusal}
use Rattle.nv_calls.specs.declared.answer.Answer.{Answer}
use Rattle.nv_epoch.specs.SnapList.{repinned, with_pins}
use Rattle.nv_epoch.specs.declared.snapshot.Snapshot.{Snapshot}
use Rattle.nv_machine.specs.Kinds.{result_by}
use Rattle.nv_machine.specs.OwnSteps.{SameButPins, unpinned}
use Rattle.nv_machine.specs.Reads.{copies, written_slots}
use Rattle.nv_machine.specs.Sequence.{beginning, sequel}
use Rattle.nv_machine.specs.SnapshotOrCleaner.{is_first, one_more, shown_by}
use Rattle.nv_machine.specs.Step.{ending_at, is_numbered, kind_turn, same_looked, with_made}
use Rattle.nv_machine.specs.World.{Answers, Append, ReturnNumber, Check, Close, Draining, Drains, Drop, Ending, Enter, Give, HandState, Leave, Lock, LockPicked, Look, Make, Next, Number, Open, BoundAnew, Pick, Pin, Publish, Ready, Refuses, Release, Retire, Running, Shared, Show, SnapshotOrCleanerStep, SnapshotOrCleaner, TakeBlocks, TakeLogPages, Unlock, Unpin, Visit, with_book, Cleans, Compact, Fresh, PlanCleaning, LockCleaned, Unlink, cell_at}
use Rattle.nv_machine.proofs.LoopSteps.{Commits, appending_any, publishing_any, retiring_any}
use Rattle.nv_machine.proofs.RefusalCauses.{CheckCause, reads_itself}
use Rattle.nv_machine.proofs.SnapshotOrCleanerWalk.{StepWaysOf, next_on, step_walk_by}
use Rattle.nv_machine.proofs.StepWalk.{WaysOf, last_walk, last_ways, walk_of}
use Rattle.nv_machine.proofs.StepWays.{After, Closes, EndsBy, Going, Takes, Telling, any_ends, asks_on, by_last, is_last, is_overtaken, noted, noted_ending}
use Rattle.nv_machine.proofs.StepWork.{by_back, by_number, work}
use Rattle.nv_clean.specs.declared.cleaned.Cleaned.{Cleaned}
use Rattle.nv_clean.specs.Plans.{wanted_of}
use Rattle.nv_machine.specs.Cleaning.{nothing_cleaned}

-- ---- where a call may yet be refused, and where it was

abbrev pub is_open_on : SnapshotOrCleanerStep → Bool
is_open_on Make = true
is_open_on (Drop snapshot) = true
is_open_on (Pin snapshot) = true
is_open_on (Show snapshot showing) = true
is_open_on (Pick draining) = is_first draining
is_open_on (LockCleaned manner ino) = true
is_open_on (PlanCleaning manner slot) = true
is_open_on (Fresh ino asked wanted) = true
is_open_on other = false

abbrev pub is_open : Next → Bool
is_open Number = true
is_open (Look place) = true
is_open (Lock place) = true
is_open Check = true
is_open (TakeBlocks asked) = true
is_open (TakeLogPages asked) = true
is_open Ready = true
is_open Enter = true
is_open Visit = true
is_open (SnapshotOrCleaner step) = is_open_on step
is_open other = false

abbrev pub is_closing_on : SnapshotOrCleanerStep → Bool
is_closing_on (Unpin snapshot seen) = true
is_closing_on other = false

abbrev pub is_closing : Next → Bool
is_closing (Unlock place) = true
is_closing (Give cpu) = true
is_closing ReturnNumber = true
is_closing (SnapshotOrCleaner step) = is_closing_on step
is_closing other = false

abbrev pub is_unlock : Next → Bool
is_unlock (Unlock place) = true
is_unlock other = false

last_closes : (n : Next) → is_last n ≡ true → is_closing n ≡ true
last_closes = by_last (λ (n : Next). is_closing n ≡ true) (λ place. refl) (λ cpu. refl) refl

last_shuts : (n : Next) → is_last n ≡ true → is_open n ≡ false
last_shuts = by_last (λ (n : Next). is_open n ≡ false) (λ place. refl) (λ cpu. refl) refl

-- what an ending is
abbrev is_draining : Ending → Bool
is_draining (Drains draining) = true
is_draining other = false

abbrev released_of : Ending → ℕ
released_of (Drains draining) = draining.released
released_of other = 0

-- ---- pins

pin_lost : (s : ℕ) (change : ℕ → ℕ) (x : Snapshot) → unpinned (repinned s change x) ≡ unpinned x
pin_lost s change x = go (x.number == s) where
  go : (b : Bool) → unpinned (cond b (record x { pins = change x.pins }) x) ≡ unpinned x
  go true = refl
  go false = refl

pins_lost : (s : ℕ) (change : ℕ → ℕ) (living : List Snapshot) → map unpinned (with_pins living s change) ≡ map unpinned living
pins_lost s change [] = refl
pins_lost s change (x ∷ living) =
    ap₂ (λ (y : Snapshot) (l : List Snapshot). y ∷ l) (pin_lost s change x) (pins_lost s change living)

abbrev same_as : (s : Shared) → SameButPins s s
same_as s = record { book = refl; cells = refl }

pinned : (s : Shared) (snapshot : ℕ) → SameButPins s (with_book (after_pin_snapshot snapshot s.book) s)
pinned s snapshot = record {
  book = ap (λ (l : List Snapshot). record s.book { snaps = record s.book.snaps { living = l } })
      (pins_lost snapshot (λ pins. pins + 1) s.book.snaps.living);
  cells = refl;
}

unpins : (s : Shared) (snapshot : ℕ) → SameButPins s (with_book (after_unpin_snapshot snapshot s.book) s)
unpins s snapshot = record {
  book = ap (λ (l : List Snapshot). record s.book { snaps = record s.book.snaps { living = l } })
      (pins_lost snapshot (λ pins. pins - 1) s.book.snaps.living);
  cells = refl;
}

numbered : (s : Shared) (h : HandState) (block a : ℕ) (r : Running) → SameButPins s (work Number block a s h r).shared
numbered s h block a r = by_number (λ (t : Shared) (x : HandState). SameButPins s t) s h (λ numbers ino. record { book = refl; cells = refl })

given_back : (s : Shared) (h : HandState) (block a : ℕ) (r : Running) → SameButPins s (work ReturnNumber block a s h r).shared
given_back s h block a r = by_back (λ (t : Shared) (x : HandState). SameButPins s t) s h (λ numbers ino. record { book = refl; cells = refl })

-- ---- a call that is to be answered

-- the step may yet refuse it, and has left these
abbrev pub IsOpenLeft : Next → Shared → Shared → Type 0
IsOpenLeft k s t = (is_open k ≡ true) × SameButPins s t

abbrev pub OpenGoes : Next → Shared → Shared → Ending → Next → Type 0
OpenGoes k s t Answers n = is_open n ≡ true → IsOpenLeft k s t
OpenGoes k s t (Refuses fault) n = (is_closing n ≡ true) × IsOpenLeft k s t
OpenGoes k s t BoundAnew n = (is_unlock n ≡ true) × IsOpenLeft k s t
OpenGoes k s t (Drains draining) n = (is_last n ≡ true) × (0 < draining.released)
OpenGoes k s t (Cleans cleaned) n = is_last n ≡ true

abbrev pub OpenTold : Next → Shared → Shared → Result Answer Fault → Type 0
OpenTold k s t (Ok found) = Unit {0}
OpenTold k s t (Err fault) = IsOpenLeft k s t

abbrev pub Goes : Next → Shared → Going
Goes k s t h q = OpenGoes k s t q.ending q.next

abbrev pub Tells : Next → Shared → Telling
Tells k s x t h = OpenTold k s t x

module _ (k : Next) (s : Shared) where
  refused_closes : {t : Shared} {h : HandState} {r : Running} (fault : Fault) → IsOpenLeft k s t
      → Closes (Goes k s) (Tells k s) t h r (Refuses fault)
  refused_closes fault left =
      record { last = λ n is. (last_closes n is, left); told = left; again = λ n over some o. left; picks = λ d l drains some o. left }

  answered_closes : {t : Shared} {h : HandState} {r : Running} (e : Ending) → e ≡ Answers → Closes (Goes k s) (Tells k s) t h r e
  answered_closes e is = subst (Closes (Goes k s) (Tells k s) _ _ _) (sym is) (record {
    last = λ n last o. absurd (false≢true (sym (last_shuts n last) ∙ o));
    told = tt;
    again = λ n over some o. absurd (false≢true (ap is_overtaken over));
    picks = λ d l drains some o. absurd (false≢true (ap is_draining drains));
  })

  cleans_closes : {t : Shared} {h : HandState} {r : Running} (c : Cleaned) → Closes (Goes k s) (Tells k s) t h r (Cleans c)
  cleans_closes c = record {
    last = λ n is. is;
    told = tt;
    again = λ n over x o. absurd (false≢true (ap is_overtaken over));
    picks = λ other l drains x o. absurd (false≢true (ap is_draining drains));
  }

  drains_closes : {t : Shared} {h : HandState} {r : Running} (d : Draining) → 0 < d.released
      → Closes (Goes k s) (Tells k s) t h r (Drains d)
  drains_closes d some = record {
    last = λ n is. (is, some);
    told = tt;
    again = λ n over x o. absurd (false≢true (ap is_overtaken over));
    picks = λ other l drains x o.
        (let none = eqb-true other.released 0 o in let same = ap released_of drains in absurd (omega (arith, some, none, same)));
  }

-- a check leads to no drain
no_drain : (block : ℕ) (s : Shared) (h : HandState) (r : Running) (d : Draining) → ending_at block s h r ≡ Some (Drains d) → ⊥
no_drain block s h r d by =
    subst (CheckCause (early (copies s) r.call) (same_looked (looked (copies s) r.call) r.looked) (refusal block (copies s) r.call)
    (is_numbered (beginning r.call) h.ino)) by (reads_itself Check block s h r)

no_clean : (block : ℕ) (s : Shared) (h : HandState) (r : Running) (c : Cleaned) → ending_at block s h r ≡ Some (Cleans c) → ⊥
no_clean block s h r c by =
    subst (CheckCause (early (copies s) r.call) (same_looked (looked (copies s) r.call) r.looked) (refusal block (copies s) r.call)
    (is_numbered (beginning r.call) h.ino)) by (reads_itself Check block s h r)

-- behind each step of a commit it can be refused no more
abbrev IsShut : Next → Type 0
IsShut n = is_open n ≡ false

shut_commits : Commits IsShut
shut_commits = record {
  append = λ place. refl;
  opens = refl;
  publish = λ place. refl;
  close = refl;
  retire = λ place. refl;
  leave = refl;
}

-- of such a step and of an enter
abbrev enters_on : Next → Bool
enters_on Enter = true
enters_on (Append place) = true
enters_on Open = true
enters_on (Publish place) = true
enters_on Close = true
enters_on (Retire place) = true
enters_on other = false

shut_behind : (k : Next) (q : Running) → enters_on k ≡ true → is_open (sequel q k) ≡ false
shut_behind Enter q on = appending_any IsShut shut_commits 0 (written_slots q)
shut_behind (Append place) q on = appending_any IsShut shut_commits (place + 1) (written_slots q)
shut_behind Open q on = publishing_any IsShut shut_commits 0 (written_slots q)
shut_behind (Publish place) q on = publishing_any IsShut shut_commits (place + 1) (written_slots q)
shut_behind Close q on = retiring_any IsShut shut_commits 0 (written_slots q)
shut_behind (Retire place) q on = retiring_any IsShut shut_commits (place + 1) (written_slots q)
shut_behind other q on = absurd (false≢true on)

module _ (block a : ℕ) (granted : Bool) (s : Shared) (h : HandState) (r : Running) (going : r.ending ≡ Answers) where
  by_going : (k n : Next) (t : Shared) → (is_open n ≡ true → IsOpenLeft k s t) → OpenGoes k s t (noted k block s h r).ending n
  by_going k n t left = subst (λ (e : Ending). OpenGoes k s t e n) (sym (noted_ending k block s h r ∙ going)) left

  opens : (k n : Next) (t : Shared) → IsOpenLeft k s t → OpenGoes k s t (noted k block s h r).ending n
  opens k n t left = by_going k n t (λ o. left)

  shuts : (k n : Next) (t : Shared) → is_open n ≡ false → OpenGoes k s t (noted k block s h r).ending n
  shuts k n t shut = by_going k n t (λ o. absurd (false≢true (sym shut ∙ o)))

  denies : {slots : List ℕ} {t : Shared} {x : HandState} {q : Running} (k : Next) (fault : Fault) → IsOpenLeft k s t
      → EndsBy (Goes k s) (Tells k s) slots t x q (Refuses fault)
  denies k fault left = any_ends (refused_closes k s fault left)

  takes : (k : Next) → IsOpenLeft k s (work k block a s h r).shared → Takes (Goes k s) k block a s h r
  takes k left = record {
    more = λ n is ask. opens k (asks_on k) _ left;
    pages = λ n none is. opens k (TakeLogPages 0) _ left;
    ready = λ none is. opens k Ready _ left;
  }

  check_ends : (e : Ending) → ending_at block s h r ≡ Some e → EndsBy (Goes Check s) (Tells Check s) r.slots s h (with_made s h r) e
  check_ends Answers by = any_ends (answered_closes Check s Answers refl)
  check_ends (Refuses fault) by = denies Check fault (refl, same_as s)
  check_ends BoundAnew by = record {
    unlock = λ some. (refl, (refl, same_as s));
    overs = λ none. record {
      again = λ n over some o. (refl, same_as s);
      contended = λ over zero. (refl, same_as s);
      rests = λ is. absurd (true≢false is);
    };
  }
  check_ends (Drains d) by = absurd (no_drain block s h r d by)
  check_ends (Cleans c) by = absurd (no_clean block s h r c by)

  ways : (k : Next) → WaysOf (Goes k s) (Tells k s) k block a granted s h r
  ways Number = opens Number _ _ (refl, numbered s h block a r)
  ways (Look place) = (
    λ fault free by. denies (Look place) fault (refl, same_as s),
    λ clear. opens (Look place) _ s (refl, same_as s),
  )
  ways (Lock place) = λ free. opens (Lock place) _ _ (refl, record { book = refl; cells = refl })
  ways Check = (check_ends, λ none lacks. denies Check out_of_memory (refl, same_as s), λ none. takes Check (refl, same_as s))
  ways (TakeBlocks asked) = (
    takes (TakeBlocks asked) (refl, record { book = refl; cells = refl }),
    λ n is last. denies (TakeBlocks asked) NoSpace (refl, record { book = refl; cells = refl }),
  )
  ways (TakeLogPages asked) = (
    takes (TakeLogPages asked) (refl, record { book = refl; cells = refl }),
    λ n is last. denies (TakeLogPages asked) NoSpace (refl, record { book = refl; cells = refl }),
  )
  ways Ready = (λ lacks. denies Ready out_of_memory (refl, same_as s), opens Ready Enter s (refl, same_as s))
  ways Enter = (
    λ free last. denies Enter CommitLimit (refl, same_as s),
    λ clear lacks. denies Enter out_of_memory (refl, same_as s),
    λ clear. shuts Enter _ _ (shut_behind Enter (noted Enter block s h r) refl),
  )
  ways (Append place) = shuts (Append place) _ _ (shut_behind (Append place) r refl)
  ways Open = shuts Open _ _ (shut_behind Open r refl)
  ways (Publish place) = shuts (Publish place) _ _ (shut_behind (Publish place) r refl)
  ways Close = shuts Close _ _ (shut_behind Close r refl)
  ways (Retire place) = shuts (Retire place) _ _ (shut_behind (Retire place) r refl)
  ways Leave = any_ends (answered_closes Leave s r.ending going)
  ways (Unlock place) = last_ways (Goes (Unlock place) s) (Tells (Unlock place) s) block a s h r (Unlock place) granted refl
      (answered_closes (Unlock place) s r.ending going)
  ways (Give cpu) = last_ways (Goes (Give cpu) s) (Tells (Give cpu) s) block a s h r (Give cpu) granted refl
      (answered_closes (Give cpu) s r.ending going)
  ways ReturnNumber = last_ways (Goes ReturnNumber s) (Tells ReturnNumber s) block a s h r ReturnNumber granted refl (answered_closes ReturnNumber s r.ending going)
  ways Visit = (
    λ fault free by. denies Visit fault (refl, same_as s),
    λ free passed lacks. denies Visit out_of_memory (refl, same_as s),
    λ free passed. tt,
  )
  ways (SnapshotOrCleaner step) = tt

  step_ways : (step : SnapshotOrCleanerStep) → StepWaysOf (Goes (SnapshotOrCleaner step) s) (Tells (SnapshotOrCleaner step) s) step a granted s h r
  step_ways Make = (λ fault by. denies (SnapshotOrCleaner Make) fault (refl, same_as s), λ clear. tt)
  step_ways (Drop snapshot) = (λ fault by. denies (SnapshotOrCleaner (Drop snapshot)) fault (refl, same_as s), λ clear. tt)
  step_ways (Pin snapshot) = (
    λ none. denies (SnapshotOrCleaner (Pin snapshot)) NoSnapshot (refl, same_as s),
    λ clear. opens (SnapshotOrCleaner (Pin snapshot)) (SnapshotOrCleaner (next_on (Pin snapshot) s)) _ (refl, pinned s snapshot),
  )
  step_ways (Show snapshot showing) = (
    λ lacks. (refl, (refl, same_as s)),
    λ clear. opens (SnapshotOrCleaner (Show snapshot showing)) (SnapshotOrCleaner (next_on (Show snapshot showing) s)) s (refl, same_as s),
  )
  step_ways (Unpin snapshot seen) =
      λ clear. subst (λ (e : Ending). OpenTold (SnapshotOrCleaner (Unpin snapshot seen)) s
      (with_book (after_unpin_snapshot snapshot s.book) s) (shown_by e seen)) (sym going) tt
  step_ways (Pick draining) = (
    λ lacks first. denies (SnapshotOrCleaner (Pick draining)) out_of_memory (first, same_as s),
    λ empty. tt,
    λ picked rest free is. shuts (SnapshotOrCleaner (Pick draining)) (SnapshotOrCleaner (LockPicked draining picked)) _ refl,
  )
  step_ways (LockPicked draining picked) =
      λ clear. shuts (SnapshotOrCleaner (LockPicked draining picked)) (SnapshotOrCleaner (Release draining picked)) _ refl
  step_ways (Release draining picked) =
      any_ends (drains_closes (SnapshotOrCleaner (Release draining picked)) s (one_more draining) (omega arith))
  step_ways (LockCleaned manner ino) =
      λ clear. opens (SnapshotOrCleaner (LockCleaned manner ino)) (SnapshotOrCleaner (PlanCleaning manner (Some ino))) _
      (refl, record { book = refl; cells = refl })
  step_ways (PlanCleaning manner slot) = (
    λ none. denies (SnapshotOrCleaner (PlanCleaning manner slot)) Stale (refl, same_as s),
    λ some lacks. denies (SnapshotOrCleaner (PlanCleaning manner slot)) out_of_memory (refl, same_as s),
    λ ino is some. record {
      fast = λ plain. opens (SnapshotOrCleaner (PlanCleaning manner slot)) (SnapshotOrCleaner (Unlink ino)) s (refl, same_as s);
      some = λ n plain more. opens (SnapshotOrCleaner (PlanCleaning manner slot)) (SnapshotOrCleaner (Fresh ino 0 (wanted_of (cell_at s ino)).pages)) s
          (refl, same_as s);
      none = λ plain less. any_ends (cleans_closes (SnapshotOrCleaner (PlanCleaning manner slot)) s nothing_cleaned);
    },
  )
  step_ways (Fresh ino asked wanted) = record {
    ready = λ q. opens (SnapshotOrCleaner (Fresh ino asked wanted)) (SnapshotOrCleaner (Compact ino)) _
        (refl, record { book = refl; cells = refl });
    more = λ n q m. opens (SnapshotOrCleaner (Fresh ino asked wanted)) (SnapshotOrCleaner (Fresh ino (asked + 1) (suc n))) _
        (refl, record { book = refl; cells = refl });
    short = λ n q m. denies (SnapshotOrCleaner (Fresh ino asked wanted)) NoSpace (refl, record { book = refl; cells = refl });
  }
  step_ways (Unlink ino) = any_ends (cleans_closes (SnapshotOrCleaner (Unlink ino)) s _)
  step_ways (Compact ino) = any_ends (cleans_closes (SnapshotOrCleaner (Compact ino)) s _)

  pub open_kind : (k : Next) → After (Goes k s) (Tells k s) (kind_turn k block a granted s h r)
  open_kind (SnapshotOrCleaner step) =
      step_walk_by (Unit {0}) (Goes (SnapshotOrCleaner step) s) (Tells (SnapshotOrCleaner step) s) a s h r step granted
      (λ blocked. tt) (step_ways step)
  open_kind other = walk_of (Goes other s) (Tells other s) block a s h r other granted (ways other) refl

-- ---- a call that was refused

abbrev pub ClosingGoes : Fault → Shared → Going
ClosingGoes fault s t h q = (q.ending ≡ Refuses fault) × (is_closing q.next ≡ true) × SameButPins s t

abbrev pub ClosingTold : Fault → Shared → Telling
ClosingTold fault s x t h = (x ≡ Err fault) × SameButPins s t

module _ (fault : Fault) (block a : ℕ) (granted : Bool) (s : Shared) (h : HandState) (r : Running) (is : r.ending ≡ Refuses fault) where
  closing : {t : Shared} {x : HandState} → SameButPins s t → Closes (ClosingGoes fault s) (ClosingTold fault s) t x r r.ending
  closing same = record {
    last = λ n last. (is, last_closes n last, same);
    told = (ap (λ (e : Ending). result_by e r) is, same);
    again = λ n over some. absurd (false≢true (ap is_overtaken (sym is ∙ over)));
    picks = λ d l drains some. absurd (false≢true (ap is_draining (sym is ∙ drains)));
  }

  last_closing : (k : Next) → is_last k ≡ true → SameButPins s (work k block a s h r).shared
      → After (ClosingGoes fault s) (ClosingTold fault s) (kind_turn k block a granted s h r)
  last_closing k last same = last_walk (ClosingGoes fault s) (ClosingTold fault s) block a s h r k granted last (closing same)

  pub closing_kind : (k : Next) → is_closing k ≡ true → After (ClosingGoes fault s) (ClosingTold fault s) (kind_turn k block a granted s h r)
  closing_kind (Unlock place) on = last_closing (Unlock place) refl (record { book = refl; cells = refl })
  closing_kind (Give cpu) on = last_closing (Give cpu) refl (record { book = refl; cells = refl })
  closing_kind ReturnNumber on = last_closing ReturnNumber refl (given_back s h block a r)
  closing_kind (SnapshotOrCleaner (Unpin snapshot seen)) on =
      step_walk_by (Unit {0}) (ClosingGoes fault s) (ClosingTold fault s) a s h r (Unpin snapshot seen) granted (λ blocked. tt)
      (λ clear. (ap (λ (e : Ending). shown_by e seen) is, unpins s snapshot))
  closing_kind other on = absurd (false≢true on)

-- ---- a call that was overtaken

abbrev pub OvertakenGoes : Shared → Shared → Ending → Next → Type 0
OvertakenGoes s t Answers n = SameButPins s t
OvertakenGoes s t BoundAnew n = (is_unlock n ≡ true) × SameButPins s t
OvertakenGoes s t other n = ⊥

abbrev pub OverGoes : Shared → Going
OverGoes s t h q = OvertakenGoes s t q.ending q.next

abbrev pub OverTold : Shared → Telling
OverTold s x t h = SameButPins s t

module _ (block a : ℕ) (granted : Bool) (s : Shared) (h : HandState) (r : Running) (is : r.ending ≡ BoundAnew) where
  pub over_kind : (k : Next) → is_unlock k ≡ true → After (OverGoes s) (OverTold s) (kind_turn k block a granted s h r)
  over_kind (Unlock place) on = walk_of (OverGoes s) (OverTold s) block a s h r (Unlock place) granted (
    λ more. subst (λ (e : Ending). OvertakenGoes s (work (Unlock place) block a s h r).shared e (Unlock (place + 1))) (sym is)
        (refl, record { book = refl; cells = refl }),
    λ past. record {
      again = λ n over some. record { book = refl; cells = refl };
      contended = λ over zero. record { book = refl; cells = refl };
      rests = λ other. absurd (false≢true (sym other ∙ ap is_overtaken is));
    },
  ) refl
  over_kind other on = absurd (false≢true on)

-- ---- a drain that has released a record

abbrev pub DrainingGoes : Ending → Next → Type 0
DrainingGoes Answers n = is_open n ≡ false
DrainingGoes (Drains draining) n = (0 < draining.released) × (is_last n ≡ true)
DrainingGoes other n = ⊥

abbrev pub DrainGoes : Going
DrainGoes t h q = DrainingGoes q.ending q.next

abbrev pub DrainTold : Result Answer Fault → Type 0
DrainTold (Ok found) = Unit {0}
DrainTold (Err fault) = ⊥

abbrev pub DrainTells : Telling
DrainTells x t h = DrainTold x

not_first : (d : Draining) → 0 < d.released → is_first d ≡ false
not_first d some = go (is_first d) refl where
  go : (b : Bool) → is_first d ≡ b → is_first d ≡ false
  go true e = let none = eqb-true d.released 0 e in absurd (omega (arith, some, none))
  go false e = e

module _ (d : Draining) (block a : ℕ) (granted : Bool) (s : Shared) (h : HandState) (r : Running) (is : r.ending ≡ Drains d)
    (some : 0 < d.released) where
  draining_closes : {t : Shared} {x : HandState} → Closes DrainGoes DrainTells t x r r.ending
  draining_closes = subst (Closes DrainGoes DrainTells _ _ r) (sym is) (record {
    last = λ n last. (some, last);
    told = tt;
    again = λ n over left. absurd (false≢true (ap is_overtaken over));
    picks = λ other l drains left. not_first other (let same = ap released_of drains in omega (arith, some, same));
  })

  pub drain_kind : (k : Next) → is_last k ≡ true → After DrainGoes DrainTells (kind_turn k block a granted s h r)
  drain_kind k last = last_walk DrainGoes DrainTells block a s h r k granted last draining_closes

-- ---- a cleaner that ends

abbrev pub CleanedGoes : Ending → Next → Type 0
CleanedGoes (Cleans cleaned) n = is_last n ≡ true
CleanedGoes other n = ⊥

abbrev pub CleanGoes : Going
CleanGoes t h q = CleanedGoes q.ending q.next

module _ (c : Cleaned) (block a : ℕ) (granted : Bool) (s : Shared) (h : HandState) (r : Running) (is : r.ending ≡ Cleans c) where
  cleaned_closes : {t : Shared} {x : HandState} → Closes CleanGoes DrainTells t x r r.ending
  cleaned_closes = subst (Closes CleanGoes DrainTells _ _ r) (sym is) (record {
    last = λ n last. last;
    told = tt;
    again = λ n over left. absurd (false≢true (ap is_overtaken over));
    picks = λ other l drains left. absurd (false≢true (ap is_draining drains));
  })

  pub clean_kind : (k : Next) → is_last k ≡ true → After CleanGoes DrainTells (kind_turn k block a granted s h r)
  clean_kind k last = last_walk CleanGoes DrainTells block a s h r k granted last cleaned_closes
