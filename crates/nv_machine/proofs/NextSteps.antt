-- What comes next behind a step: behind one of a call on files and directories another such step, or the pick of a drain.
use Rattle.std.proofs.Common.{◌≡◌, ℕ, Bool, true, List, [], None, refl, suc, ◌+◌, false, sym, ◌∙◌}
use Rattle.std.specs.Prelude.{Result}
use Rattle.nv_base.specs.declared.fault.Fault.{Fault}
use Rattle.nv_calls.specs.declared.answer.Answer.{Answer}
use Rattle.nv_machine.specs.Kinds.{end_turn}
use Rattle.nv_machine.specs.Sequence.{sequel}
use Rattle.nv_machine.specs.SnapshotOrCleaner.{snapshot_or_cleaner_turn}
use Rattle.nv_machine.specs.Step.{ending_at, kind_turn}
use Rattle.nv_machine.specs.World.{ReturnNumber, Check, Draining, Ending, Enter, Give, HandState, Leave, Lock, Look, Next, Pick, Ready, Running, Shared, Show, Showing, SnapshotOrCleanerStep, SnapshotOrCleaner, TakeBlocks, TakeLogPages, Turn, Unlock, Unpin, Visit, PlanCleaning, Fresh, Unlink, Compact, cell_at, go_to}
use Rattle.nv_machine.proofs.LoopSteps.{goes_on, is_on_files, sequel_on}
use Rattle.nv_machine.proofs.StepWays.{After, Closes, EndsBy, Going, IsClear, IsClearOn, Takes, Telling, any_ends, end_goes, is_last, is_taker, is_taking, noted, by_last, by_taking}
use Rattle.nv_machine.proofs.StepWalk.{WaysOf, Works, last_walk, walk, walk_of}
use Rattle.nv_machine.proofs.SnapshotOrCleanerWalk.{goes_next, next_on, snapshot_or_cleaner_walk, LeadsTo, is_cleaning, leads, fresh_yet, step_walk_by, goes_plain}
use Rattle.nv_clean.specs.Plans.{wanted_of}
use Rattle.nv_machine.proofs.StepWork.{snapshot_or_cleaner_work}
use Rattle.std.proofs.lemmas.Bool.{true≢false}

pub last_on : (k : Next) → is_last k ≡ true → is_on_files k ≡ true
last_on = by_last (λ (k : Next). is_on_files k ≡ true) (λ place. refl) (λ cpu. refl) refl

pub taking_on : (k : Next) → is_taking k ≡ true → is_on_files k ≡ true
taking_on = by_taking (λ (k : Next). is_on_files k ≡ true) (λ asked. refl) (λ asked. refl) refl

-- what comes next, if anything does
abbrev pub IsNext : (Next → Type 0) → Turn → Type 0
IsNext P t = After (λ (s : Shared) (h : HandState) (q : Running). P q.next) (λ (x : Result Answer Fault) (s : Shared) (h : HandState). Unit {0}) t

module _ (P : Next → Type 0) (last : (k : Next) → is_last k ≡ true → P k) (look : P (Look 0))
    (picks : (draining : Draining) → P (SnapshotOrCleaner (Pick draining))) where
  closes_next : (s : Shared) (h : HandState) (r : Running) (e : Ending)
      → Closes (λ (s : Shared) (h : HandState) (q : Running). P q.next) (λ (x : Result Answer Fault) (s : Shared) (h : HandState). Unit {0}) s h r e
  closes_next s h r e = record { last = last; told = tt; again = λ n over some. look; picks = λ d left drains some. picks _ }

  pub end_next : (slots : List ℕ) (e : Ending) (s : Shared) (h : HandState) (r : Running) → IsNext P (end_turn slots e s h r)
  end_next slots e s h r = end_goes _ _ s h r e (closes_next s h r e) slots

  -- a step of a call on files and directories, by what comes next in the sequence and of takings
  pub kind_next : (k : Next) (block a : ℕ) (granted : Bool) (s : Shared) (h : HandState) (r : Running)
      → (goes_on k ≡ true → P (sequel (noted k block s h r) k)) → (is_taker k ≡ true → (next : Next) → is_taking next ≡ true → P next)
      → is_on_files k ≡ true → IsNext P (kind_turn k block a granted s h r)
  kind_next k block a granted s h r goes takes is = walk _ _ block a s h r k granted (record {
    stops = λ e by. closes_next s h _ e;
    goes = λ on clear. goes on;
    takes = λ on n next taking. takes on next taking;
    over = λ on. closes_next _ _ r _;
    short = λ on. closes_next _ _ r _;
    told = λ on clear. tt;
  }) is

  -- and one of a call on snapshots
  pub step_next : (step : SnapshotOrCleanerStep) (a : ℕ) (granted : Bool) (s : Shared) (h : HandState) (r : Running)
      → (goes_next step ≡ true → IsClearOn step s → P (SnapshotOrCleaner (next_on step s)))
      → ((snapshot : ℕ) (showing : Showing) → step ≡ Show snapshot showing → P (SnapshotOrCleaner (Unpin snapshot [])))
      → ((next : SnapshotOrCleanerStep) → LeadsTo step next → P (SnapshotOrCleaner next))
      → IsNext P (snapshot_or_cleaner_turn step a granted s h r)
  step_next step a granted s h r goes denied leads = snapshot_or_cleaner_walk _ _ a s h r step granted (record {
    stops = λ fault cause. any_ends (closes_next s h r _);
    goes = goes;
    told = λ on clear. tt;
    denied = λ snapshot showing on. denied snapshot showing on.0;
    leads_on = leads;
    over = λ e ends. any_ends (closes_next _ _ r _);
    none = λ draining on empty. tt;
  })

module _ (P : Next → Type 0) (files : (k : Next) → is_on_files k ≡ true → P k)
    (picks : (draining : Draining) → P (SnapshotOrCleaner (Pick draining))) where
  pub files_next : (k : Next) (block a : ℕ) (granted : Bool) (s : Shared) (h : HandState) (r : Running) → is_on_files k ≡ true
      → IsNext P (kind_turn k block a granted s h r)
  files_next k block a granted s h r is =
      kind_next P (λ next last. files next (last_on next last)) (files (Look 0) refl) picks k block a granted s h r
      (λ on. let q = noted k block s h r in files (sequel q k) (sequel_on k q on))
      (λ on next taking. files next (taking_on next taking)) is

  pub snapshots_next : (step : SnapshotOrCleanerStep) (a : ℕ) (granted : Bool) (s : Shared) (h : HandState) (r : Running)
      → (goes_next step ≡ true → IsClearOn step s → P (SnapshotOrCleaner (next_on step s)))
      → ((snapshot : ℕ) (showing : Showing) → step ≡ Show snapshot showing → P (SnapshotOrCleaner (Unpin snapshot [])))
      → ((next : SnapshotOrCleanerStep) → LeadsTo step next → P (SnapshotOrCleaner next))
      → IsNext P (snapshot_or_cleaner_turn step a granted s h r)
  snapshots_next step a granted s h r goes denied leads =
      step_next P (λ next last. files next (last_on next last)) (files (Look 0) refl) picks step a granted s h r goes denied leads

-- ---- what a call knows before its next step, where of a look anew, of the last steps and of calls on snapshots that is
-- nothing: of a cleaner behind its planning it may be something

abbrev pub Known : Type 1
Known = Next → Shared → HandState → Running → Type 0

abbrev pub KnowsNext : Known → Going
KnowsNext X s h q = X q.next s h q

abbrev pub Untold : Telling
Untold x s h = Unit {0}

abbrev pub OnKnown : Known → Turn → Type 0
OnKnown X t = After (KnowsNext X) Untold t

pub record IsQuiet (X : Known) : Type 0 where
  pub unlock : (place : ℕ) (s : Shared) (h : HandState) (r : Running) → X (Unlock place) s h r
  pub give : (cpu : ℕ) (s : Shared) (h : HandState) (r : Running) → X (Give cpu) s h r
  pub back : (s : Shared) (h : HandState) (r : Running) → X ReturnNumber s h r
  pub look : (s : Shared) (h : HandState) (r : Running) → X (Look 0) s h r
  pub steps : (step : SnapshotOrCleanerStep) → is_cleaning step ≡ false
      → (s : Shared) (h : HandState) (r : Running) → X (SnapshotOrCleaner step) s h r

-- what is left to say of each kind
abbrev pub QuietWays : Known → Next → ℕ → ℕ → Shared → HandState → Running → Type 0
QuietWays X Check block a s h r = ending_at block s h r ≡ None → Takes (KnowsNext X) Check block a s h r
QuietWays X (TakeBlocks asked) block a s h r = Takes (KnowsNext X) (TakeBlocks asked) block a s h r
QuietWays X (TakeLogPages asked) block a s h r = Takes (KnowsNext X) (TakeLogPages asked) block a s h r
QuietWays X Enter block a s h r = IsClear Enter s r → Works (KnowsNext X) Enter block a s h r
QuietWays X Leave block a s h r = Unit {0}
QuietWays X (Unlock place) block a s h r = Unit {0}
QuietWays X (Give cpu) block a s h r = Unit {0}
QuietWays X ReturnNumber block a s h r = Unit {0}
QuietWays X Visit block a s h r = Unit {0}
QuietWays X (SnapshotOrCleaner (PlanCleaning manner slot)) block a s h r =
    (ino : ℕ) → X (SnapshotOrCleaner (Unlink ino)) s h (go_to (SnapshotOrCleaner (Unlink ino)) r)
    × X (SnapshotOrCleaner (Fresh ino 0 (wanted_of (cell_at s ino)).pages)) s h
    (go_to (SnapshotOrCleaner (Fresh ino 0 (wanted_of (cell_at s ino)).pages)) r)
QuietWays X (SnapshotOrCleaner (Fresh ino asked wanted)) block a s h r =
    let d = snapshot_or_cleaner_work (Fresh ino asked wanted) a s h in
    (fresh_yet asked wanted a s ≡ 0 → X (SnapshotOrCleaner (Compact ino)) d.shared d.hand (go_to (SnapshotOrCleaner (Compact ino)) r))
    × ((n : ℕ) → fresh_yet asked wanted a s ≡ suc n
    → X (SnapshotOrCleaner (Fresh ino (asked + 1) (suc n))) d.shared d.hand (go_to (SnapshotOrCleaner (Fresh ino (asked + 1) (suc n))) r))
QuietWays X (SnapshotOrCleaner step) block a s h r = Unit {0}
QuietWays X other block a s h r = Works (KnowsNext X) other block a s h r

module _ (X : Known) (quiet : IsQuiet X) where
  pub quiet_closes : {s : Shared} {h : HandState} {r : Running} {e : Ending} → Closes (KnowsNext X) Untold s h r e
  quiet_closes {s = s} {h = h} {r = r} {e = e} = record {
    last = by_last (λ (n : Next). X n s h (record r { ending = e; next = n })) (λ place. quiet.unlock place _ _ _)
        (λ cpu. quiet.give cpu _ _ _) (quiet.back _ _ _);
    told = tt;
    again = λ n over some. quiet.look _ _ _;
    picks = λ d left drains some. quiet.steps _ refl _ _ _;
  }

  pub quiet_ends : {slots : List ℕ} {s : Shared} {h : HandState} {r : Running} {e : Ending} → EndsBy (KnowsNext X) Untold slots s h r e
  quiet_ends = any_ends quiet_closes

  -- every step of a call on snapshots
  other_step : (step : SnapshotOrCleanerStep) (a : ℕ) (granted : Bool) (s : Shared) (h : HandState) (r : Running) → leads step ≡ false
      → OnKnown X (snapshot_or_cleaner_turn step a granted s h r)
  other_step step a granted s h r apart = snapshot_or_cleaner_walk (KnowsNext X) Untold a s h r step granted (record {
    stops = λ fault cause. any_ends (quiet_closes);
    goes = λ on clear. quiet.steps _ (goes_plain step s on) _ _ _;
    told = λ on clear. tt;
    denied = λ snapshot showing on. quiet.steps _ refl _ _ _;
    leads_on = λ next is. absurd (true≢false (sym is.from ∙ apart));
    over = λ e ends. any_ends (quiet_closes);
    none = λ draining on empty. tt;
  })

  pub quiet_step : (step : SnapshotOrCleanerStep) (block a : ℕ) (granted : Bool) (s : Shared) (h : HandState) (r : Running)
      → QuietWays X (SnapshotOrCleaner step) block a s h r → OnKnown X (snapshot_or_cleaner_turn step a granted s h r)
  quiet_step (PlanCleaning manner slot) block a granted s h r w =
      step_walk_by (Unit {0}) (KnowsNext X) Untold a s h r (PlanCleaning manner slot) granted (λ blocked. tt) (
        λ none. quiet_ends,
        λ some lacks. quiet_ends,
        λ ino is some. record { fast = λ plain. (w ino).0; some = λ n plain more. (w ino).1; none = λ plain less. quiet_ends },
      )
  quiet_step (Fresh ino asked wanted) block a granted s h r w =
      step_walk_by (Unit {0}) (KnowsNext X) Untold a s h r (Fresh ino asked wanted) granted (λ blocked. tt)
      (record { ready = w.0; more = λ n q m. w.1 n q; short = λ n q m. quiet_ends })
  quiet_step other block a granted s h r w = other_step other a granted s h r refl

  pub quiet_walk : (block a : ℕ) (granted : Bool) (s : Shared) (h : HandState) (r : Running) (k : Next) → QuietWays X k block a s h r
      → OnKnown X (kind_turn k block a granted s h r)
  quiet_walk block a granted s h r k w = go k w where
    walks : (k : Next) → WaysOf (KnowsNext X) Untold k block a granted s h r → is_on_files k ≡ true
        → OnKnown X (kind_turn k block a granted s h r)
    walks k ways is = walk_of (KnowsNext X) Untold block a s h r k granted ways is

    go : (k : Next) → QuietWays X k block a s h r → OnKnown X (kind_turn k block a granted s h r)
    go (Look place) w = walks (Look place) (λ fault free by. quiet_ends, λ clear. w) refl
    go (Lock place) w = walks (Lock place) (λ free. w) refl
    go Check w = walks Check (λ e by. quiet_ends, λ none lacks. quiet_ends, w) refl
    go (TakeBlocks asked) w = walks (TakeBlocks asked) (w, λ n is last. quiet_ends) refl
    go (TakeLogPages asked) w = walks (TakeLogPages asked) (w, λ n is last. quiet_ends) refl
    go Ready w = walks Ready (λ lacks. quiet_ends, w) refl
    go Enter w = walks Enter (λ free last. quiet_ends, λ clear lacks. quiet_ends, w) refl
    go Leave w = walks Leave quiet_ends refl
    go (Unlock place) w = last_walk (KnowsNext X) Untold block a s h r (Unlock place) granted refl quiet_closes
    go (Give cpu) w = last_walk (KnowsNext X) Untold block a s h r (Give cpu) granted refl quiet_closes
    go ReturnNumber w = last_walk (KnowsNext X) Untold block a s h r ReturnNumber granted refl quiet_closes
    go Visit w = walks Visit (λ fault free by. quiet_ends, λ free passed lacks. quiet_ends, λ free passed. tt) refl
    go (SnapshotOrCleaner step) w = quiet_step step block a granted s h r w
    go other w = walks other w refl
