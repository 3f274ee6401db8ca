-- What the laws of takings and of log pages refuse: wrong turns of a write of one block, whose log wants a page.
use Rattle.std.proofs.Common.{◌≡◌, ℕ, ◌+◌, Option, Some, None, [], arith, inl, inr, refl, subst, sym}
use Rattle.nv_calls.specs.declared.call.Call.TheVariants as call
use Rattle.nv_machine.specs.Format.{formatted}
use Rattle.nv_machine.specs.Pages.{HasLogPages}
use Rattle.nv_machine.specs.Sequence.{started}
use Rattle.nv_machine.specs.Wanted.{TakesInTurn, data_wanted, lacking}
use Rattle.nv_machine.specs.World.{Check, HandState, Moves, Next, Ready, Running, Shared, TakeBlocks, TakeLogPages, Turn, World, actor_at}
use Rattle.nv_machine.proofs.LimitRows.{two_takings}
use Rattle.nv_machine.proofs.ScriptRows.{device, handle, played}

-- after so many of its steps: 1 stands before the check, 2 and 3 before the takings, 4 before the ready
abbrev at : ℕ → World
at steps = played (formatted device) (two_takings steps)

abbrev shared_at : ℕ → Shared
shared_at steps = (at steps).shared

abbrev hand_at : ℕ → HandState
hand_at steps = (actor_at (at steps) 0).hand

abbrev call_of : Option Running → Running
call_of None = started (call.Stat (handle 0 1)) Check []
call_of (Some r) = r

abbrev call_at : ℕ → Running
call_at steps = call_of (actor_at (at steps) 0).running

-- the turn of a step that goes on with what the next one has, to this step, and wants so much
abbrev goes_on : ℕ → Next → ℕ → Turn
goes_on steps next wanted = Moves (shared_at (steps + 1)) (hand_at (steps + 1)) (record (call_at steps) { next = next; wanted = wanted })

abbrev IsLawful : ℕ → Next → ℕ → Type 0
IsLawful steps next wanted = TakesInTurn (call_at steps).next 4 0 (shared_at steps) (call_at steps) (goes_on steps next wanted)

-- a check that goes on to one taking of the block and the page
both_at_once : IsLawful 1 (TakeBlocks 0) 2 → ⊥
both_at_once (inl begins) = let e : 2 ≡ 1 = begins.1.is in omega (arith, e)
both_at_once (inr goes) = let e = goes.1 in cc

-- one that leaves out the block, and one that leaves out both
one_block : data_wanted 4 (shared_at 1) (call_at 1) ≡ 1
one_block = refl

page_alone : IsLawful 1 (TakeLogPages 0) 1 → ⊥
page_alone (inl begins) = let e : data_wanted 4 (shared_at 1) (call_at 1) ≡ 0 = begins.0 in omega (arith, e, one_block)
page_alone (inr goes) = let e = goes.1 in cc

nothing_taken : IsLawful 1 Ready 0 → ⊥
nothing_taken (inl all) = let e : data_wanted 4 (shared_at 1) (call_at 1) ≡ 0 = all.0 in omega (arith, e, one_block)
nothing_taken (inr goes) = let e = goes.1 in cc

-- a taking of the block that leaves out the page, and one that goes on to another list for it
page_left_out : IsLawful 2 Ready 0 → ⊥
page_left_out (inl all) = let e : 1 ≡ 0 = all.1 in omega (arith, e)
page_left_out (inr goes) = let e = goes.1 in cc

page_as_block : IsLawful 2 (TakeBlocks 1) 1 → ⊥
page_as_block (inl begins) = let e = begins.0 in cc
page_as_block (inr goes) = missing goes.0 goes.1 goes.2.is where
  missing : (before : ℕ) → TakeBlocks 0 ≡ TakeBlocks before → 1 ≡ lacking before 0 (shared_at 2) (call_at 2) → ⊥
  missing before same e = let f : 1 ≡ 0 = subst (λ (k : Next). 1 ≡ left k) (sym same) e in omega (arith, f) where
    left : Next → ℕ
    left (TakeBlocks n) = lacking n 0 (shared_at 2) (call_at 2)
    left other = 0

-- a hand without the page before the ready
no_page : HasLogPages Ready 4 (shared_at 4) (record (hand_at 4) { pages = [] }) (call_at 4) → ⊥
no_page e = let f : 0 ≡ 1 = e in omega (arith, f)
