-- What a step leaves of the deferred list, beside the records that its call has picked and is yet to be answered.
use Rattle.std.proofs.Common.{◌≡◌, ◌∙◌, ℕ, zero, suc, ◌+◌, ◌<◌, ◌≤◌, Bool, true, false, List, [], ◌∷◌, drop, length, Option, Some, None, Ok, Err, ap, arith, refl, sym}
use Rattle.std.specs.Prelude.{Result}
use Rattle.std.proofs.lemmas.Bool.{false≢true, true≢false}
use Rattle.nv_base.specs.declared.fault.Fault.{Fault}
use Rattle.nv_base.specs.declared.numbers.Handle.{Handle}
use Rattle.nv_book.specs.declared.record.Record.{Record}
use Rattle.nv_calls.specs.AllCalls.{answer}
use Rattle.nv_calls.specs.Plain.{Change, PlainNode}
use Rattle.nv_calls.specs.Refusals.{Check as Tests}
use Rattle.nv_calls.specs.declared.answer.Answer.{Answer}
use Rattle.nv_calls.specs.declared.call.Call.{Call}
use Rattle.nv_calls.specs.declared.call.Call.TheVariants as call
use Rattle.nv_calls.specs.declared.snapshot_or_cleaner_call.SnapshotOrCleanerCall.TheVariants as on
use Rattle.nv_reader.specs.Walk as walks
use Rattle.nv_machine.specs.Kinds.{check_ending, result_by}
use Rattle.nv_machine.specs.Needed.{count_in, told_to}
use Rattle.nv_machine.specs.Reads.{nodes}
use Rattle.nv_machine.specs.Sequence.{sequel}
use Rattle.nv_machine.specs.SnapshotOrCleaner.{copies_at, first_showing, seen_on, show_or_unpin, shown_by, snapshot_or_cleaner_turn, visited}
use Rattle.nv_machine.specs.Step.{kind_turn, reply_of}
use Rattle.nv_machine.specs.World.{Answers, Check, Done, Draining, Drains, Drop, Ending, HandState, LockPicked, Make, Next, Pick, Pin, Refuses, Release, Running, Shared, Show, Showing, SnapshotOrCleanerStep, SnapshotOrCleaner, Turn, Unpin, Compact, Fresh, PlanCleaning, LockCleaned, Unlink}
use Rattle.nv_machine.proofs.UnlentSteps.{files_leave}
use Rattle.nv_machine.proofs.StepWork.{work, snapshot_or_cleaner_work}
use Rattle.nv_machine.proofs.NextSteps.{last_on, taking_on}
use Rattle.nv_machine.proofs.LoopSteps.{is_on_files, sequel_on}
use Rattle.nv_machine.proofs.StepWays.{After, Closes, IsClearOn, StopsBy, any_ends, noted}
use Rattle.nv_machine.proofs.StepWalk.{walk}
use Rattle.nv_machine.proofs.SnapshotOrCleanerWalk.{goes_next, next_on, picked_next, snapshot_or_cleaner_walk, tells, told_on, EndsWith, LeadsTo, is_cleaning}

-- ---- how many records a call has picked that it is yet to be answered

abbrev pub owed_by : Ending → ℕ
owed_by (Drains draining) = draining.released
owed_by other = 0

abbrev pub owed_on : SnapshotOrCleanerStep → ℕ
owed_on (Pick draining) = draining.released
owed_on (LockPicked draining picked) = draining.released + 1
owed_on (Release draining picked) = draining.released + 1
owed_on other = 0

abbrev pub owed_at : Next → Ending → ℕ
owed_at (SnapshotOrCleaner step) e = owed_on step
owed_at other e = owed_by e

-- the call is to drop a snapshot
abbrev pub drops_on : SnapshotOrCleanerStep → Bool
drops_on (Drop snapshot) = true
drops_on other = false

abbrev pub drops_at : Next → Bool
drops_at (SnapshotOrCleaner step) = drops_on step
drops_at other = false

-- a step of a call, where so many records were deferred or owed to it before the step: no more are,
-- with what it is answered
abbrev Owes : ℕ → Shared → HandState → Running → Type 0
Owes most t h q = (length t.book.deferred + owed_at q.next q.ending ≤ most) × (drops_at q.next ≡ false)

abbrev Told : ℕ → Call → Result Answer Fault → Shared → HandState → Type 0
Told most c result t h = length t.book.deferred + told_to c (count_in (reply_of result)) ≤ most

abbrev pub OnDeferred : ℕ → Call → Turn → Type 0
OnDeferred most c turn = After (Owes most) (Told most c) turn

-- ---- answers

pub told_few : (c : Call) (n : ℕ) → told_to c n ≤ n
told_few (call.SnapshotOrCleaner (on.Drain count)) n = omega arith
told_few other n = omega arith

-- what nodes answer counts nothing to a drain
no_count : (found : Handle → Option PlainNode) (made : Handle) (c : Call) → told_to c (count_in (Done (answer found made c))) ≡ 0
no_count found made (call.SnapshotOrCleaner (on.Drain count)) = refl
no_count found made other = refl

-- ---- what comes next

pub owed_same : (k : Next) (e : Ending) → is_on_files k ≡ true → (owed_at k e ≡ owed_by e) × (drops_at k ≡ false)
owed_same (SnapshotOrCleaner step) e is = absurd (false≢true is)
owed_same other e is = (refl, refl)

module _ (most : ℕ) where
  goes : (k : Next) (e : Ending) (n : ℕ) → is_on_files k ≡ true → n + owed_by e ≤ most
      → (n + owed_at k e ≤ most) × (drops_at k ≡ false)
  goes k e n is few = let same = owed_same k e is in let owed = same.0 in (omega (arith, few, owed), same.1)

  -- ---- the last steps of a call

  told_owes : (e : Ending) (n : ℕ) (r : Running) → n + owed_by e ≤ most
      → n + told_to r.call (count_in (reply_of (result_by e r))) ≤ most
  told_owes Answers n r few = omega (arith, few, no_count (λ handle. None) r.made r.call)
  told_owes (Drains draining) n r few = omega (arith, few, told_few r.call draining.released)
  told_owes other n r few = omega (arith, few, told_few r.call 0)

  closes : (s : Shared) (h : HandState) (r : Running) (e : Ending) → length s.book.deferred + owed_by e ≤ most
      → Closes (Owes most) (Told most r.call) s h r e
  closes s h r e few = record {
    last = λ k is. goes k e (length s.book.deferred) (last_on k is) few;
    told = told_owes e (length s.book.deferred) r few;
    again = λ n over some. (omega (arith, few), refl);
    picks = λ d left drains some. let owed = ap owed_by drains in (omega (arith, few, owed), refl);
  }

  -- ---- every kind

  -- what stops before its work ends no drain
  abbrev owed_in : Option Ending → ℕ
  owed_in None = 0
  owed_in (Some e) = owed_by e

  no_drain : (tests : Tests) (same : Bool) (all : Tests) (numbered : Bool) (effect : List Change)
      → owed_in (check_ending tests same all numbered effect) ≡ 0
  no_drain (Err fault) same all numbered effect = refl
  no_drain (Ok passed) false all numbered effect = refl
  no_drain (Ok passed) true (Err fault) numbered effect = refl
  no_drain (Ok passed) true (Ok all) false effect = refl
  no_drain (Ok passed) true (Ok all) true [] = refl
  no_drain (Ok passed) true (Ok all) true (change ∷ effect) = refl

  stops_owe : (k : Next) (block : ℕ) (s : Shared) (h : HandState) (r : Running) (e : Ending) → StopsBy k block s h r e → owed_by e ≡ 0
  stops_owe k block s h r (Refuses fault) by = refl
  stops_owe Check block s h r e by = ap owed_in (sym by) ∙ no_drain _ _ _ _ _
  stops_owe other block s h r e by = absurd by

  showing_owes : (n left : ℕ) (visits : List walks.Visit) (snapshot : ℕ) (showing : Showing) → n + 0 ≤ most
      → (n + owed_on (show_or_unpin left visits snapshot showing) ≤ most) × (drops_on (show_or_unpin left visits snapshot showing) ≡ false)
  showing_owes n zero visits snapshot showing few = (few, refl)
  showing_owes n (suc left) [] snapshot showing few = (few, refl)
  showing_owes n (suc left) (visit ∷ visits) snapshot showing few = (few, refl)

  picked_owes : (deferred : List Record) (draining : Draining) → length deferred + draining.released ≤ most → 0 < length deferred
      → (length (drop 1 deferred) + owed_on (picked_next deferred draining) ≤ most) × (drops_on (picked_next deferred draining) ≡ false)
  picked_owes [] draining few some = absurd (omega (arith, some))
  picked_owes (picked ∷ deferred) draining few some = (omega (arith, few), refl)

  goes_owe : (step : SnapshotOrCleanerStep) (a : ℕ) (s : Shared) (h : HandState) → length s.book.deferred + owed_on step ≤ most
      → goes_next step ≡ true → IsClearOn step s
      → (length (snapshot_or_cleaner_work step a s h).shared.book.deferred + owed_on (next_on step s) ≤ most)
      × (drops_on (next_on step s) ≡ false)
  goes_owe (Pin snapshot) a s h few on clear =
      showing_owes (length s.book.deferred) (first_showing s).left (first_showing s).visits snapshot (first_showing s) few
  goes_owe (Show snapshot showing) a s h few on clear =
      let next = seen_on (copies_at s snapshot (visited showing.visits)) showing in
      showing_owes (length s.book.deferred) next.left next.visits snapshot next few
  goes_owe (Pick draining) a s h few on clear = picked_owes s.book.deferred draining few clear.1
  goes_owe (LockPicked draining picked) a s h few on clear = (few, refl)
  goes_owe (LockCleaned manner ino) a s h few on clear = (few, refl)
  goes_owe other a s h few on clear = absurd (false≢true on)

  tells_owe : (step : SnapshotOrCleanerStep) (a : ℕ) (s : Shared) (h : HandState) (r : Running) → drops_on step ≡ false
      → length s.book.deferred + owed_on step ≤ most → tells step ≡ true
      → Told most r.call (told_on step s r) (snapshot_or_cleaner_work step a s h).shared (snapshot_or_cleaner_work step a s h).hand
  tells_owe Make a s h r apart few on = omega (arith, few, told_few r.call 0)
  tells_owe (Drop snapshot) a s h r apart few on = absurd (true≢false apart)
  tells_owe (Unpin snapshot seen) a s h r apart few on =
      omega (arith, few, told_few r.call (count_in (reply_of (shown_by r.ending seen))), none r.ending) where
        none : (e : Ending) → count_in (reply_of (shown_by e seen)) ≡ 0
        none (Refuses fault) = refl
        none other = refl
  tells_owe other a s h r apart few on = absurd (false≢true on)

  ends_owe : (step : SnapshotOrCleanerStep) (a : ℕ) (s : Shared) (h : HandState) (e : Ending) → length s.book.deferred + owed_on step ≤ most
      → EndsWith step a s h e → length (snapshot_or_cleaner_work step a s h).shared.book.deferred + owed_by e ≤ most
  ends_owe (Release draining picked) a s h e few is = let owed = ap owed_by is in omega (arith, few, owed)
  ends_owe (PlanCleaning manner slot) a s h e few is = let owed = ap owed_by is.0 in omega (arith, few, owed)
  ends_owe (Fresh ino asked wanted) a s h e few is = let owed = ap owed_by is.0 in omega (arith, few, owed)
  ends_owe (Unlink ino) a s h e few is = let owed = ap owed_by is in omega (arith, few, owed)
  ends_owe (Compact ino) a s h e few is = let owed = ap owed_by is in omega (arith, few, owed)
  ends_owe other a s h e few is = absurd is

  cleaning_owes : (next : SnapshotOrCleanerStep) → is_cleaning next ≡ true → (owed_on next ≡ 0) × (drops_on next ≡ false)
  cleaning_owes (Fresh ino asked wanted) is = (refl, refl)
  cleaning_owes (Unlink ino) is = (refl, refl)
  cleaning_owes (Compact ino) is = (refl, refl)
  cleaning_owes other is = absurd (false≢true is)

  leads_owe : (step : SnapshotOrCleanerStep) (a : ℕ) (s : Shared) (h : HandState) → length s.book.deferred + owed_on step ≤ most
      → (next : SnapshotOrCleanerStep) → LeadsTo step next
      → (length (snapshot_or_cleaner_work step a s h).shared.book.deferred + owed_on next ≤ most) × (drops_on next ≡ false)
  leads_owe (PlanCleaning manner slot) a s h few next leads =
      let none = cleaning_owes next leads.to in let owed = none.0 in (omega (arith, few, owed), none.1)
  leads_owe (Fresh ino asked wanted) a s h few next leads =
      let none = cleaning_owes next leads.to in let owed = none.0 in (omega (arith, few, owed), none.1)
  leads_owe other a s h few next leads = absurd (false≢true leads.from)

  on_owes : (step : SnapshotOrCleanerStep) (actor : ℕ) (granted : Bool) (s : Shared) (h : HandState) (r : Running) → drops_on step ≡ false
      → length s.book.deferred + owed_on step ≤ most → OnDeferred most r.call (snapshot_or_cleaner_turn step actor granted s h r)
  on_owes step actor granted s h r apart few = snapshot_or_cleaner_walk (Owes most) (Told most r.call) actor s h r step granted (record {
    stops = λ fault cause. any_ends (closes s h r _ (omega (arith, few)));
    goes = goes_owe step actor s h few;
    told = λ on clear. tells_owe step actor s h r apart few on;
    denied = λ snapshot showing on. (omega (arith, few), refl);
    leads_on = leads_owe step actor s h few;
    over = λ e ends. any_ends (closes _ _ r e (ends_owe step actor s h e few ends));
    none = λ draining on empty. let owed = ap owed_on (sym on) in omega (arith, few, owed, told_few r.call draining.released);
  })

  kind_owes : (k : Next) (block actor : ℕ) (granted : Bool) (s : Shared) (h : HandState) (r : Running) → drops_at k ≡ false
      → length s.book.deferred + owed_at k r.ending ≤ most → OnDeferred most r.call (kind_turn k block actor granted s h r)
  kind_owes (SnapshotOrCleaner step) block actor granted s h r apart few = on_owes step actor granted s h r apart few
  kind_owes other block actor granted s h r apart few =
      let d = work other block actor s h r in
      let stay : length d.shared.book.deferred ≡ length s.book.deferred =
      ap (λ (l : List Record). length l) (files_leave other block actor s h r refl).deferred in
      let left : length d.shared.book.deferred + owed_by r.ending ≤ most = omega (arith, few, stay) in
      walk (Owes most) (Told most r.call) block actor s h r other granted (record {
        stops = λ e by. let none = stops_owe other block s h r e by in closes s h _ e (omega (arith, few, none));
        goes = λ on clear. let q = noted other block s h r in goes (sequel q other) r.ending _ (sequel_on other q on) left;
        takes = λ on n next taking. goes next r.ending _ (taking_on next taking) left;
        over = λ on. closes _ _ r r.ending left;
        short = λ on. closes _ _ r _ (omega (arith, left));
        told = λ on clear. omega (arith, few, no_count (nodes s) r.made r.call);
      }) refl

pub kind_owed : (k : Next) (block actor : ℕ) (granted : Bool) (s : Shared) (h : HandState) (r : Running) → drops_at k ≡ false
    → OnDeferred (length s.book.deferred + owed_at k r.ending) r.call (kind_turn k block actor granted s h r)
kind_owed k block actor granted s h r apart =
    kind_owes (length s.book.deferred + owed_at k r.ending) k block actor granted s h r apart (omega arith)
