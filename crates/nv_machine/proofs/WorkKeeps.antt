-- A turn keeps what its kind keeps: what holds of what is shared and of a hand before the step, and behind its work.
use Rattle.std.proofs.Common.{Bool, List, ap, false, refl, sym, true, ℕ, ◌∙◌, ◌≡◌}
use Rattle.std.specs.Prelude.{Result}
use Rattle.std.proofs.lemmas.Bool.{true≢false}
use Rattle.nv_base.specs.declared.fault.Fault.{Fault}
use Rattle.nv_calls.specs.declared.answer.Answer.{Answer}
use Rattle.nv_machine.specs.Kinds.{end_turn}
use Rattle.nv_machine.specs.SnapshotOrCleaner.{snapshot_or_cleaner_turn}
use Rattle.nv_machine.specs.Step.{kind_turn}
use Rattle.nv_machine.specs.World.{Ending, HandState, Next, Running, Shared, SnapshotOrCleanerStep, SnapshotOrCleaner, Turn}
use Rattle.nv_machine.proofs.StepWork.{work, snapshot_or_cleaner_work}
use Rattle.nv_machine.proofs.LoopSteps.{is_on_files}
use Rattle.nv_machine.proofs.StepWays.{After, Closes, IsClearOn, any_ends, end_goes, may_refuse, never_stops}
use Rattle.nv_machine.proofs.StepWalk.{walk}
use Rattle.nv_machine.proofs.SnapshotOrCleanerWalk.{snapshot_or_cleaner_walk, ends_clear, leads_clear}

-- it holds of what is shared and of the hand after a turn
abbrev pub AfterTurn : (Shared → HandState → Type 0) → Turn → Type 0
AfterTurn P t = After (λ (s : Shared) (h : HandState) (r : Running). P s h) (λ (x : Result Answer Fault) (s : Shared) (h : HandState). P s h) t

module _ (P : Shared → HandState → Type 0) where
  abbrev On : Shared → HandState → Running → Type 0
  On s h r = P s h

  abbrev At : Result Answer Fault → Shared → HandState → Type 0
  At x s h = P s h

  closes : (s : Shared) (h : HandState) (r : Running) (e : Ending) → P s h → Closes On At s h r e
  closes s h r e p = record { last = λ k is. p; told = p; again = λ n over some. p; picks = λ d left drains some. p }

  pub end_keeps : (slots : List ℕ) (e : Ending) (s : Shared) (h : HandState) (r : Running) → P s h → AfterTurn P (end_turn slots e s h r)
  end_keeps slots e s h r p = end_goes On At s h r e (closes s h r e p) slots

  -- by a step that no other actor makes wait
  pub snapshot_works : (step : SnapshotOrCleanerStep) (actor : ℕ) (granted : Bool) (s : Shared) (h : HandState) (r : Running) → P s h
      → (IsClearOn step s → P (snapshot_or_cleaner_work step actor s h).shared (snapshot_or_cleaner_work step actor s h).hand)
      → AfterTurn P (snapshot_or_cleaner_turn step actor granted s h r)
  snapshot_works step actor granted s h r p q = snapshot_or_cleaner_walk On At actor s h r step granted (record {
    stops = λ fault cause. any_ends (closes s h r _ p);
    goes = λ on clear. q clear;
    told = λ on clear. q clear;
    denied = λ snapshot showing on. p;
    leads_on = λ next leads. q (leads_clear step s leads);
    over = λ e ends. any_ends (closes _ _ r _ (q (ends_clear step actor s h e ends)));
    none = λ draining on empty. p;
  })

  pub snapshot_keeps : (step : SnapshotOrCleanerStep) (actor : ℕ) (granted : Bool) (s : Shared) (h : HandState) (r : Running) → P s h
      → P (snapshot_or_cleaner_work step actor s h).shared (snapshot_or_cleaner_work step actor s h).hand
      → AfterTurn P (snapshot_or_cleaner_turn step actor granted s h r)
  snapshot_keeps step actor granted s h r p q = snapshot_works step actor granted s h r p (λ clear. q)

  pub turn_keeps : (k : Next) (block actor : ℕ) (granted : Bool) (s : Shared) (h : HandState) (r : Running) → P s h
      → P (work k block actor s h r).shared (work k block actor s h r).hand → AfterTurn P (kind_turn k block actor granted s h r)
  turn_keeps (SnapshotOrCleaner step) block actor granted s h r p q = snapshot_keeps step actor granted s h r p q
  turn_keeps other block actor granted s h r p q = walk On At block actor s h r other granted (record {
    stops = λ e by. closes s h _ e p;
    goes = λ on clear. q;
    takes = λ on n next taking. q;
    over = λ on. closes _ _ r _ q;
    short = λ on. closes _ _ r _ q;
    told = λ on clear. p;
  }) refl

  -- a kind that refuses nothing before its work
  pub work_keeps : (k : Next) (block actor : ℕ) (granted : Bool) (s : Shared) (h : HandState) (r : Running) → may_refuse k ≡ false
      → is_on_files k ≡ true → P (work k block actor s h r).shared (work k block actor s h r).hand
      → AfterTurn P (kind_turn k block actor granted s h r)
  work_keeps k block actor granted s h r none is q = walk On At block actor s h r k granted (record {
    stops = λ e by. absurd (never_stops k block s h r e none by);
    goes = λ on clear. q;
    takes = λ on n next taking. q;
    over = λ on. closes _ _ r _ q;
    short = λ on. closes _ _ r _ q;
    told = λ on clear. absurd (true≢false (sym (ap may_refuse on) ∙ none));
  }) is
