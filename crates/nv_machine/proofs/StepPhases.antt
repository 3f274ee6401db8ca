-- Which steps go on to which: those before a check, and the last ones, to their like; those of a commit to no taking,
-- nor past both; and a check to a taking's first list.
use Rattle.std.proofs.Common.{Bool, List, None, Option, Some, false, refl, suc, sym, true, zero, ℕ, not, ◌+◌, ◌==◌, ◌||◌, ◌∙◌, ◌≡◌, ap}
use Rattle.std.proofs.lemmas.Bool.{false≢true, true≢false}
use Rattle.nv_base.specs.Memory.{out_of_memory}
use Rattle.nv_machine.specs.Kinds.{check_turn, end_turn, grown, wants_blocks, wants_pages, wants_room}
use Rattle.nv_machine.specs.Reads.{pages_wanted, plan_by}
use Rattle.nv_machine.specs.Sequence.{sequel}
use Rattle.nv_machine.specs.SnapshotOrCleaner.{snapshot_or_cleaner_turn}
use Rattle.nv_machine.specs.Step.{ending_at, kind_turn, with_made}
use Rattle.nv_machine.specs.Takings.{asks_list}
use Rattle.nv_machine.specs.World.{ReturnNumber, Check, Ending, Ends, Give, HandState, Leave, Lock, Look, Moves, Next, Number, Ready, Refuses, Running, Shared, SnapshotOrCleaner, TakeBlocks, TakeLogPages, Turn, Unlock, Visit, Waits, Fresh, PlanCleaning, SnapshotOrCleanerStep}
use Rattle.nv_machine.proofs.NextSteps.{IsNext, end_next, kind_next, step_next}
use Rattle.nv_machine.proofs.LoopSteps.{Sequel, goes_on, locking_any, looking_any, sequel_any}
use Rattle.nv_machine.proofs.StepWays.{by_last, is_last, is_taker, noted, EndsBy, any_ends}
use Rattle.nv_machine.proofs.SnapshotOrCleanerWalk.{leads, step_walk_by, goes_plain, is_cleaning}

abbrev pub IsFirst : Next → Type 0
IsFirst (TakeBlocks asked) = (asked == 0) ≡ true
IsFirst (TakeLogPages asked) = (asked == 0) ≡ true
IsFirst (SnapshotOrCleaner (Fresh ino asked wanted)) = (asked == 0) ≡ true
IsFirst other = Unit {0}

-- no taking, and not the step behind both; and none of a commit either
abbrev pub IsApart : Next → Type 0
IsApart (TakeBlocks asked) = ⊥
IsApart (TakeLogPages asked) = ⊥
IsApart Ready = ⊥
IsApart (SnapshotOrCleaner (Fresh ino asked wanted)) = ⊥
IsApart other = Unit {0}

abbrev pub IsPlain : Next → Type 0
IsPlain Number = Unit {0}
IsPlain (Look place) = Unit {0}
IsPlain (Lock place) = Unit {0}
IsPlain Check = Unit {0}
IsPlain (Unlock place) = Unit {0}
IsPlain (Give cpu) = Unit {0}
IsPlain ReturnNumber = Unit {0}
IsPlain Visit = Unit {0}
IsPlain (SnapshotOrCleaner (Fresh ino asked wanted)) = ⊥
IsPlain (SnapshotOrCleaner step) = Unit {0}
IsPlain other = ⊥

abbrev pub OnNext : (Next → Type 0) → Turn → Type 0
OnNext P t = IsNext P t

abbrev pub OnFirst : Turn → Type 0
OnFirst t = OnNext IsFirst t

abbrev pub OnApart : Turn → Type 0
OnApart t = OnNext IsApart t

abbrev pub OnPlain : Turn → Type 0
OnPlain t = OnNext IsPlain t

next_weaker : (P Q : Next → Type 0) → ((next : Next) → P next → Q next) → (t : Turn) → OnNext P t → OnNext Q t
next_weaker P Q weaker (Moves s h q) on = weaker q.next on
next_weaker P Q weaker Waits on = tt
next_weaker P Q weaker (Ends result s h) on = tt

plain_apart : (next : Next) → IsPlain next → IsApart next
plain_apart (TakeBlocks asked) is = absurd is
plain_apart (TakeLogPages asked) is = absurd is
plain_apart Ready is = absurd is
plain_apart (SnapshotOrCleaner (Fresh ino asked wanted)) is = absurd is
plain_apart other is = tt

pub on_apart : (t : Turn) → OnPlain t → OnApart t
on_apart t on = next_weaker IsPlain IsApart plain_apart t on

apart_first : (next : Next) → IsApart next → IsFirst next
apart_first (TakeBlocks asked) is = absurd is
apart_first (TakeLogPages asked) is = absurd is
apart_first (SnapshotOrCleaner (Fresh ino asked wanted)) is = absurd is
apart_first other is = tt

pub on_first : (t : Turn) → OnApart t → OnFirst t
on_first t on = next_weaker IsApart IsFirst apart_first t on

-- ---- the last steps

last_plain : (next : Next) → is_last next ≡ true → IsPlain next
last_plain = by_last IsPlain (λ place. tt) (λ cpu. tt) tt

pub end_plain : (slots : List ℕ) (e : Ending) (s : Shared) (h : HandState) (r : Running) → OnPlain (end_turn slots e s h r)
end_plain slots e s h r = end_next IsPlain last_plain tt (λ draining. tt) slots e s h r

-- ---- what comes next

-- these go on to their like alone
abbrev pub leads_to_plain : Next → Bool
leads_to_plain Number = true
leads_to_plain (Look place) = true
leads_to_plain (Lock place) = true
leads_to_plain Leave = true
leads_to_plain (Unlock place) = true
leads_to_plain (Give cpu) = true
leads_to_plain ReturnNumber = true
leads_to_plain Visit = true
leads_to_plain (SnapshotOrCleaner step) = not (leads step)
leads_to_plain other = false

sequel_plain : (k : Next) (q : Running) → leads_to_plain k ≡ true → goes_on k ≡ true → IsPlain (sequel q k)
sequel_plain Number q e on = locking_any IsPlain (λ place. tt) tt 0 q.slots
sequel_plain (Look place) q e on = looking_any IsPlain (λ place. tt) (λ place. tt) tt (place + 1) q
sequel_plain (Lock place) q e on = locking_any IsPlain (λ place. tt) tt (place + 1) q.slots
sequel_plain other q e on = cc

all_apart : Sequel IsApart
all_apart = record {
  look = λ place. tt;
  lock = λ place. tt;
  check = tt;
  enter = tt;
  commits = record { append = λ place. tt; opens = tt; publish = λ place. tt; close = tt; retire = λ place. tt; leave = tt };
}

-- ---- every kind but a check and takings

no_taker : (k : Next) → leads_to_plain k ≡ true → is_taker k ≡ true → ⊥
no_taker Check e on = false≢true e
no_taker (TakeBlocks asked) e on = false≢true e
no_taker (TakeLogPages asked) e on = false≢true e
no_taker other e on = false≢true on

not_cleaning : (step : SnapshotOrCleanerStep) → is_cleaning step ≡ false → IsPlain (SnapshotOrCleaner step)
not_cleaning (Fresh ino asked wanted) plain = absurd (true≢false plain)
not_cleaning other plain = tt

pub plain : (k : Next) (block actor : ℕ) (granted : Bool) (s : Shared) (h : HandState) (r : Running) → leads_to_plain k ≡ true
    → OnPlain (kind_turn k block actor granted s h r)
plain (SnapshotOrCleaner step) block actor granted s h r e =
    step_next IsPlain last_plain tt (λ draining. tt) step actor granted s h r (λ on clear. not_cleaning _ (goes_plain step s on))
    (λ snapshot showing on. tt)
    (λ next is. absurd (true≢false (sym e ∙ ap not is.from)))
plain other block actor granted s h r e =
    kind_next IsPlain last_plain tt (λ draining. tt) other block actor granted s h r
    (λ on. sequel_plain other (noted other block s h r) e on) (λ on next taking. absurd (no_taker other e on)) refl

abbrev pub leads_to_takings : Next → Bool
leads_to_takings Check = true
leads_to_takings (SnapshotOrCleaner step) = leads step
leads_to_takings other = asks_list other

taker_leads : (k : Next) → is_taker k ≡ true → leads_to_takings k ≡ true
taker_leads Check on = refl
taker_leads (TakeBlocks asked) on = refl
taker_leads (TakeLogPages asked) on = refl
taker_leads other on = absurd (false≢true on)

pub apart : (k : Next) (block actor : ℕ) (granted : Bool) (s : Shared) (h : HandState) (r : Running) → leads_to_takings k ≡ false
    → OnApart (kind_turn k block actor granted s h r)
apart (SnapshotOrCleaner step) block actor granted s h r e =
    on_apart (snapshot_or_cleaner_turn step actor granted s h r) (plain (SnapshotOrCleaner step) block actor granted s h r (ap not e))
apart other block actor granted s h r e =
    kind_next IsApart (λ next last. plain_apart next (last_plain next last)) tt (λ draining. tt) other block actor granted s h r
    (λ on. sequel_any IsApart all_apart other (noted other block s h r) on)
    (λ on next taking. absurd (true≢false (sym (taker_leads other on) ∙ e))) refl

-- ---- a check

pub pages_first : (n : ℕ) (s : Shared) (h : HandState) (r : Running) → OnFirst (wants_pages n s h r)
pages_first zero s h r = tt
pages_first (suc n) s h r = refl

wants_first : (n block : ℕ) (s : Shared) (h : HandState) (r : Running) → OnFirst (wants_blocks n block s h r)
wants_first zero block s h r = pages_first _ s h r
wants_first (suc n) block s h r = refl

check_first : (ending : Option Ending) (granted : Bool) (wanted block : ℕ) (s : Shared) (h : HandState) (r : Running)
    → OnFirst (check_turn ending granted wanted block s h r)
check_first None granted wanted block s h r =
    go (granted || not (wants_room wanted (pages_wanted s r.slots (plan_by block s h r)))) where
      go : (b : Bool) → OnFirst (grown b (wants_blocks wanted block s h r) s h r)
      go true = wants_first wanted block s h r
      go false =
          let t = end_turn r.slots (Refuses out_of_memory) s h r in
          on_first t (on_apart t (end_plain r.slots (Refuses out_of_memory) s h r))
check_first (Some ending) granted wanted block s h r =
    let t = end_turn r.slots ending s h r in on_first t (on_apart t (end_plain r.slots ending s h r))

-- the last steps
first_ends : {slots : List ℕ} {s : Shared} {h : HandState} {r : Running} {e : Ending}
    → EndsBy (λ t g q. IsFirst q.next) (λ x t g. Unit {0}) slots s h r e
first_ends = any_ends (record {
  last = by_last IsFirst (λ place. tt) (λ cpu. tt) tt;
  told = tt;
  again = λ n over some. tt;
  picks = λ d left drains some. tt;
})

pub first : (k : Next) (block actor : ℕ) (granted : Bool) (s : Shared) (h : HandState) (r : Running) → asks_list k ≡ false
    → OnFirst (kind_turn k block actor granted s h r)
first Check block actor granted s h r e = check_first (ending_at block s h r) granted _ block s h (with_made s h r)
first (SnapshotOrCleaner (PlanCleaning manner slot)) block actor granted s h r e =
    step_walk_by (Unit {0}) (λ t g q. IsFirst q.next) (λ x t g. Unit {0}) actor s h r (PlanCleaning manner slot) granted (λ blocked. tt) (
      λ none. first_ends,
      λ some lacks. first_ends,
      λ ino is some. record { fast = λ plain. tt; some = λ n plain more. refl; none = λ plain less. first_ends },
    )
first other block actor granted s h r e =
    on_first (kind_turn other block actor granted s h r) (apart other block actor granted s h r e)
