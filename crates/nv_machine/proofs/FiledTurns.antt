-- What is filed is told by the record list after every step.
use Rattle.nv_calls.specs.declared.answer.Answer.TheVariants as answers
use Rattle.nv_machine.proofs.StepWays.{IsClearOn}
use Rattle.nv_machine.proofs.SnapshotOrCleanerWalk.{is_denied, tells, told_on, ends_clear, leads_clear}
use Rattle.nv_machine.proofs.SnapshotOrCleanerAlone.{alone_walk, none_home}
use Rattle.std.proofs.Common.{◌≡◌, ℕ, zero, suc, ◌==◌, Bool, true, false, cond, List, [], ◌∷◌, Option, Some, None, ap, arith, drop, if◌then◌else◌, length, nat_lt, refl, subst, sym, ◌<◌}
use Rattle.std.specs.Prelude.{Ok, Err}
use Rattle.std.specs.List.{Contains}
use Rattle.std.proofs.lemmas.Bool.{eqb-true, false≢true}
use Rattle.nv_base.specs.declared.fault.Fault.{Fault}
use Rattle.nv_book.specs.declared.record.Record.{Record}
use Rattle.nv_epoch.specs.SnapList.{ids, numbers, pins_at, pins_of}
use Rattle.nv_epoch.specs.declared.snapshot.Snapshot.{Snapshot}
use Rattle.nv_machine.specs.Kinds.{end_turn, first_killed, refuse, rest_turn}
use Rattle.nv_machine.specs.Hands.{HandOn}
use Rattle.nv_machine.specs.Locks.{commits_at}
use Rattle.nv_machine.specs.Sequence.{slots_on}
use Rattle.nv_machine.specs.PlainRun as plain
use Rattle.nv_machine.specs.Reads.{slot_at, written_slots}
use Rattle.nv_machine.specs.Recorded.{after_deed, after_retire}
use Rattle.nv_machine.specs.SnapshotOrCleaner.{drop_tests, snapshot_or_cleaner_turn}
use Rattle.nv_machine.specs.Step.{kind_turn}
use Rattle.nv_machine.specs.World.{ReturnNumber, Close, Draining, Drop, Ends, Enter, HandState, Make, Moves, Next, Number, Open, Pick, Pin, Publish, Refuses, Retire, Running, Shared, SnapshotOrCleanerStep, SnapshotOrCleaner, Turn, Unpin, Waits, empty_hand, PlanCleaning}
use Rattle.nv_machine.proofs.FiledBooks.{IsListed, dropped_listed, made_listed, picked_listed, pinned_listed, retired_listed, unpinned_listed}
use Rattle.nv_machine.proofs.StepWork.{work, snapshot_or_cleaner_work, by_number, by_back}
use Rattle.nv_machine.proofs.WorkKeeps.{AfterTurn, turn_keeps}

-- the book's lists are told by this one
abbrev pub Listed : List Record → Shared → Type 0
Listed rs s = IsListed s.book.snaps s.book.manifests s.book.deferred rs

abbrev pub OnListed : List Record → Turn → Type 0
OnListed rs t = AfterTurn (λ (s : Shared) (h : HandState). Listed rs s) t

-- ---- a call that holds nothing is refused at once

ends_at_once : (slots : List ℕ) (fault : Fault) (s : Shared) (h : HandState) (r : Running) → h ≡ empty_hand → slots ≡ []
    → end_turn slots (Refuses fault) s h r ≡ Ends (Err fault) s h
ends_at_once [] fault s h r empty none =
    rw empty (ap (λ (o : Option ℕ). rest_turn o None s empty_hand (record r { ending = Refuses fault })) (none_home 0 0 s.lists))
ends_at_once (slot ∷ slots) fault s h r empty none = cc

pub refused_at_once : (fault : Fault) (s : Shared) (h : HandState) (r : Running) → h ≡ empty_hand → r.slots ≡ []
    → refuse fault s h r ≡ Ends (Err fault) s h
refused_at_once fault s h r empty none = ends_at_once r.slots fault s h r empty none

-- ---- what a step does to the list

pub entered_same : (t : Turn) (living : List ℕ) (rs : List Record) → after_deed (plain.entered t) living rs ≡ rs
entered_same (Moves s h r) living rs = go (commits_at r.next) where
  go : (b : Bool) → after_deed (if b then plain.Numbers else plain.Nothing) living rs ≡ rs
  go true = refl
  go false = refl
entered_same Waits living rs = refl
entered_same (Ends result s h) living rs = refl

pub published_same : (b : Bool) (living : List ℕ) (rs : List Record)
    → after_deed (if b then plain.Nothing else plain.Commits) living rs ≡ rs
published_same true living rs = refl
published_same false living rs = refl

-- ---- steps of calls on snapshots

-- the steps that move records, or take one out
abbrev pub moves : SnapshotOrCleanerStep → Bool
moves (Drop snapshot) = true
moves (Pick draining) = true
moves other = false

-- what is left of the list by a step of these, where the turn is this
abbrev After : SnapshotOrCleanerStep → List Record → Shared → Turn → Type 0
After step rs s t = OnListed (after_deed (plain.done_on step t) (ids s.book.snaps) rs) t

module _ (rs : List Record) (s : Shared) (h : HandState) (r : Running) (is : Listed rs s) where
  lives_by : (snapshot : ℕ) (living : List Snapshot) → pins_at living snapshot ≡ Some zero → Contains (numbers living) snapshot
  lives_by snapshot [] e = cc
  lives_by snapshot (t ∷ ts) e = go (t.number == snapshot) refl e (lives_by snapshot ts) where
    go : (b : Bool) → (t.number == snapshot) ≡ b → cond b (Some t.pins) (pins_at ts snapshot) ≡ Some zero
        → (pins_at ts snapshot ≡ Some zero → Contains (numbers ts) snapshot) → Contains (numbers (t ∷ ts)) snapshot
    go true q f later = (zero, omega arith, eqb-true t.number snapshot q)
    go false q f later = let k = later f in (suc k.0, omega (arith, k.1), k.2)

  refused_listed : (step : SnapshotOrCleanerStep) (fault : Fault) → is_denied step ≡ true → After step rs s (Ends (Err fault) s h)
  refused_listed (Unpin snapshot seen) fault on = absurd (false≢true on)
  refused_listed other fault on = is

  -- a step that is refused and unlocks leaves the list
  denied_listed : (step : SnapshotOrCleanerStep) → 0 < length (slots_on step) → is_denied step ≡ true
      → Listed (after_deed (plain.Maintains step) (ids s.book.snaps) rs) s
  denied_listed (PlanCleaning manner slot) some on = is
  denied_listed Make some on = absurd (omega (arith, some))
  denied_listed (Drop snapshot) some on = absurd (omega (arith, some))
  denied_listed (Pin snapshot) some on = absurd (omega (arith, some))
  denied_listed (Pick draining) some on = absurd (omega (arith, some))
  denied_listed other some on = absurd (false≢true on)

  -- behind its work
  abbrev LeftBy : SnapshotOrCleanerStep → Shared → Type 0
  LeftBy step t = Listed (after_deed (plain.Maintains step) (ids s.book.snaps) rs) t

  work_listed : (step : SnapshotOrCleanerStep) (actor : ℕ) → IsClearOn step s → LeftBy step (snapshot_or_cleaner_work step actor s h).shared
  work_listed Make actor clear = made_listed s.book.snaps s.book.manifests s.book.deferred rs is
  work_listed (Drop snapshot) actor clear = go (pins_of s.book.snaps snapshot) refl clear.1 where
    go : (pins : Option ℕ) → pins_of s.book.snaps snapshot ≡ pins → drop_tests pins ≡ Ok tt
        → LeftBy (Drop snapshot) (snapshot_or_cleaner_work (Drop snapshot) actor s h).shared
    go None e passed = cc
    go (Some (suc pins)) e passed = cc
    go (Some zero) e passed =
        dropped_listed snapshot s.book.snaps s.book.manifests s.book.deferred rs (lives_by snapshot s.book.snaps.living e) is
  work_listed (Pin snapshot) actor clear = pinned_listed snapshot s.book.snaps s.book.manifests s.book.deferred rs is
  work_listed (Unpin snapshot seen) actor clear = unpinned_listed snapshot s.book.snaps s.book.manifests s.book.deferred rs is
  work_listed (Pick draining) actor clear = picked_listed s.book.snaps s.book.manifests s.book.deferred rs is
  work_listed other actor clear = is

  told_listed : (step : SnapshotOrCleanerStep) (t : Shared) (g : HandState) → tells step ≡ true → LeftBy step t
      → After step rs s (Ends (told_on step s r) t g)
  told_listed Make t g on left = left
  told_listed (Drop snapshot) t g on left = left
  told_listed (Unpin snapshot seen) t g on left = left
  told_listed other t g on left = absurd (false≢true on)

  none_listed : s.book.deferred ≡ [] → (draining : Draining) → LeftBy (Pick draining) s
  none_listed e draining =
      let none : drop 1 s.book.deferred ≡ s.book.deferred = rw e refl in
      subst (λ (ds : List Record). IsListed s.book.snaps s.book.manifests ds
      (after_deed (plain.Maintains (Pick draining)) (ids s.book.snaps) rs))
      none (picked_listed s.book.snaps s.book.manifests s.book.deferred rs is)

  snapshot_listed : (step : SnapshotOrCleanerStep) (actor : ℕ) (granted : Bool) → HandOn step h → r.slots ≡ slots_on step
      → After step rs s (snapshot_or_cleaner_turn step actor granted s h r)
  snapshot_listed step actor granted empty slots = alone_walk (After step rs s) step actor granted s h r empty slots (record {
    waits = tt;
    refused = refused_listed step;
    goes = λ on clear. work_listed step actor clear;
    told = λ on clear. told_listed step _ (snapshot_or_cleaner_work step actor s h).hand on (work_listed step actor clear);
    denied = λ snapshot showing on. subst (λ (x : SnapshotOrCleanerStep). LeftBy x s) (sym on) is;
    unlocks = λ fault on some. denied_listed step some on;
    leads_on = λ next leads. work_listed step actor (leads_clear step s leads);
    over = λ e ends. work_listed step actor (ends_clear step actor s h e ends);
    none = λ draining on nothing.
        subst (λ (x : SnapshotOrCleanerStep). After x rs s (Ends (Ok (answers.Count draining.released)) s h)) (sym on)
        (none_listed nothing draining);
  })

-- ---- every step

-- a commit has the book's epoch; a step of a call on snapshots or of a cleaner has log pages in the hand at most, and locks
-- what it releases or cleans
pub record CanList (k : Next) (s : Shared) (h : HandState) (r : Running) : Type 0 where
  pub epoch : commits_at k ≡ true → r.epoch ≡ s.book.snaps.epoch
  pub alone : (step : SnapshotOrCleanerStep) → k ≡ SnapshotOrCleaner step → HandOn step h × (r.slots ≡ slots_on step)

-- the list after a step of this kind, where the turn is this
abbrev pub list_after : Next → Shared → HandState → Running → Turn → List Record → List Record
list_after k s h r t rs = after_deed (plain.plain_change k (written_slots r) t) (ids s.book.snaps) (after_retire k s h r rs)

module _ (block a : ℕ) (granted : Bool) (rs : List Record) (s : Shared) (h : HandState) (r : Running) (is : Listed rs s) where
  -- a kind that leaves what is filed
  same : (k : Next) → Listed rs (work k block a s h r).shared → OnListed rs (kind_turn k block a granted s h r)
  same k done = turn_keeps (λ (t : Shared) (g : HandState). Listed rs t) k block a granted s h r is done

  abbrev Lists : Next → Type 0
  Lists k = OnListed (list_after k s h r (kind_turn k block a granted s h r) rs) (kind_turn k block a granted s h r)

  pub turn_listed : (k : Next) → CanList k s h r → Lists k
  turn_listed Number can = same Number (by_number (λ (t : Shared) (g : HandState). Listed rs t) s h (λ numbers ino. is))
  turn_listed Enter can =
      let t : Turn = kind_turn Enter block a granted s h r in
      subst (λ (l : List Record). OnListed l t) (sym (entered_same t (ids s.book.snaps) rs))
      (same Enter (record { rising = is.rising; below = is.below; list = is.list; dead = is.dead }))
  turn_listed Open can = same Open (record { rising = is.rising; below = is.below; list = is.list; dead = is.dead })
  turn_listed (Publish place) can =
      subst (λ (l : List Record). OnListed l (kind_turn (Publish place) block a granted s h r))
      (sym (published_same (nat_lt 1 (length (written_slots r))) (ids s.book.snaps) rs)) (same (Publish place) is)
  turn_listed Close can = same Close (record { rising = is.rising; below = is.below; list = is.list; dead = is.dead })
  turn_listed (Retire place) can =
      retired_listed (slot_at (written_slots r) place) r.epoch (first_killed h.killed) s.book.snaps s.book.manifests s.book.deferred rs
      (let e = can.epoch refl in omega (arith, e)) is
  turn_listed ReturnNumber can = same ReturnNumber (by_back (λ (t : Shared) (g : HandState). Listed rs t) s h (λ numbers ino. is))
  turn_listed (SnapshotOrCleaner step) can = let own = can.alone step refl in snapshot_listed rs s h r is step a granted own.0 own.1
  turn_listed other can = same other is

  -- a step that waits leaves the list
  pub waits_listed : (k : Next) → kind_turn k block a granted s h r ≡ Waits → list_after k s h r Waits rs ≡ rs
  waits_listed (Publish place) e = published_same (nat_lt 1 (length (written_slots r))) (ids s.book.snaps) rs
  waits_listed (Retire place) e = cc
  waits_listed other e = refl
