-- A CALL OF A SESSION AS A RUN of the machine's turns, or as one that a test broke off.
use Rattle.std.specs.Prelude.{◌≡◌, ◌⊎◌, ℕ, false, List, Result, Err}
use Rattle.nv_alloc.specs.declared.hand.Hand.{Hand}
use Rattle.nv_base.specs.declared.fault.Fault.{Fault}
use Rattle.nv_base.specs.declared.fault.Fault.TheVariants.{Mismatch}
use Rattle.nv_base.specs.declared.fault.MismatchPart.{MismatchPart}
use Rattle.nv_base.specs.declared.fault.MismatchPart.TheVariants.{Lists}
use Rattle.nv_base.specs.declared.geometry.GeometryNumbers.{GeometryNumbers}
use Rattle.nv_calls.specs.declared.answer.Answer.{Answer}
use Rattle.nv_machine.specs.World.{HandState, Running, empty_hand}
use Rattle.nv_sessions.specs.Misfits.{TakesMisfit}
use Rattle.nv_sessions.specs.Sessions.{HeldValue}
use Rattle.nv_steps.specs.Hands.{hand_of}
use Rattle.nv_steps.specs.Runs.{IsRun, Leads}
use Rattle.nv_steps.specs.Turns.{Made}

-- A TEST BREAKS A CALL OFF: its turns lead to a step that takes what does not fit it
pub record IsBrokenOff (numbers : GeometryNumbers) (actor : ℕ) (h0 : HandState) (r0 : Running) (what : MismatchPart) : Type 0 where
  -- the turns, of which the last is first
  pub turns : List Made
  -- the hand behind them
  pub hand : Hand
  -- the call behind them
  pub running : Running
  -- they lead there
  pub leads : Leads numbers actor h0 r0 turns (hand_of hand) running
  -- what the next step takes does not fit it
  pub misfit : TakesMisfit numbers actor hand running what

-- A CALL OF A SESSION IS A RUN to its answer or its refusal; or a test breaks it off, and it is refused by a `Mismatch`
abbrev pub IsSessionRun : GeometryNumbers → ℕ → HandState → Running → Result Answer Fault → HandState → Type 0
IsSessionRun numbers actor h0 r0 (Err (Mismatch what)) h =
    IsBrokenOff numbers actor h0 r0 what ⊎ IsRun numbers actor h0 r0 (Err (Mismatch what)) h
IsSessionRun numbers actor h0 r0 result h = IsRun numbers actor h0 r0 result h

-- ---- calls that give back what is in their hand

-- a hand keeps a block or a number, which a list or the pool has refused
abbrev pub KeepsSome : HeldValue → Type 0
KeepsSome held = ¬ ((held.blocks ≡ 0) × (held.number ≡ false))

-- SO IS A CALL THAT GIVES BACK what is in its hand; or it keeps some of that, and is refused by a `Mismatch` of `Lists`
abbrev pub IsGivingRun : GeometryNumbers → ℕ → Running → HeldValue → Result Answer Fault → Type 0
IsGivingRun numbers actor r0 held result =
    (KeepsSome held × (result ≡ Err (Mismatch Lists))) ⊎ IsSessionRun numbers actor empty_hand r0 result empty_hand
