-- A call stays the call that it is from step to step.
use Rattle.std.proofs.Common.{◌≡◌, ℕ, Bool, Option, Some, None, refl, subst, sym}
use Rattle.std.specs.Prelude.{Result}
use Rattle.nv_base.specs.declared.fault.Fault.{Fault}
use Rattle.nv_calls.specs.declared.answer.Answer.{Answer}
use Rattle.nv_calls.specs.declared.call.Call.{Call}
use Rattle.nv_machine.specs.Step.{kind_turn, step}
use Rattle.nv_machine.specs.World.{Actor, Check, Ending, Go, HandState, Next, Number, Running, Shared, SnapshotOrCleaner, World, actor_at}
use Rattle.nv_machine.proofs.OverEvents.{own_after, own_goes, turn_at}
use Rattle.nv_machine.proofs.StepWays.{After, Closes, noted, stopped, any_ends}
use Rattle.nv_machine.proofs.StepWalk.{walk}
use Rattle.nv_machine.proofs.SnapshotOrCleanerWalk.{snapshot_or_cleaner_walk}

-- a running call is this one; and so after a turn
abbrev pub IsCallOf : Call → Option Running → Type 0
IsCallOf c None = Unit {0}
IsCallOf c (Some r) = r.call ≡ c

module _ (c : Call) where
  abbrev P : Shared → HandState → Running → Type 0
  P s h q = q.call ≡ c

  abbrev E : Result Answer Fault → Shared → HandState → Type 0
  E result s h = Unit {0}

  closes : (s : Shared) (h : HandState) (r : Running) (e : Ending) → r.call ≡ c → Closes P E s h r e
  closes s h r e is = record { last = λ k last. is; told = tt; again = λ n over some. is; picks = λ d left drains some. is }

  noted_is : (k : Next) (block : ℕ) (s : Shared) (h : HandState) (r : Running) → r.call ≡ c → (noted k block s h r).call ≡ c
  noted_is Number block s h r is = is
  noted_is other block s h r is = is

  stopped_is : (k : Next) (s : Shared) (h : HandState) (r : Running) → r.call ≡ c → (stopped k s h r).call ≡ c
  stopped_is Check s h r is = is
  stopped_is other s h r is = is

  pub kind_stays : (k : Next) (block a : ℕ) (granted : Bool) (s : Shared) (h : HandState) (r : Running) → r.call ≡ c
      → After P E (kind_turn k block a granted s h r)
  kind_stays (SnapshotOrCleaner step) block a granted s h r is = snapshot_or_cleaner_walk P E a s h r step granted (record {
    stops = λ fault cause. any_ends (closes s h r _ is);
    goes = λ on clear. is;
    told = λ on clear. tt;
    denied = λ snapshot showing on. is;
    leads_on = λ next leads. is;
    over = λ e ends. any_ends (closes _ _ r _ is);
    none = λ draining on empty. tt;
  })
  kind_stays other block a granted s h r is = walk P E block a s h r other granted (record {
    stops = λ e by. closes s h (stopped other s h r) e (stopped_is other s h r is);
    goes = λ on clear. noted_is other block s h r is;
    takes = λ on n next taking. noted_is other block s h r is;
    over = λ on. closes _ _ r _ is;
    short = λ on. closes _ _ r _ is;
    told = λ on clear. tt;
  }) refl

-- after a step of its actor
pub call_stays : (w : World) (actor : ℕ) (granted : Bool) (r : Running) (c : Call) → (actor_at w actor).running ≡ Some r → r.call ≡ c
    → IsCallOf c (actor_at (step w (Go actor granted)).world actor).running
call_stays w actor granted r c is same =
    let had : IsCallOf c (actor_at w actor).running = subst (IsCallOf c) (sym is) same in
    own_goes (λ (x : Actor). IsCallOf c x.running) w actor granted (λ none. had) (λ q there its.
    own_after (λ (x : Actor). IsCallOf c x.running) (actor_at w actor) (turn_at w actor granted q) had
    (kind_stays c q.next w.numbers.block actor granted w.shared (actor_at w actor).hand q (subst (IsCallOf c) its had)))
