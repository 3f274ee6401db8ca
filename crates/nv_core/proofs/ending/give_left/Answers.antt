use Rattle.std.proofs.Common.{◌≡◌, ◌∙◌, ℕ, Option, Some, None, ap, refl, subst, true≢false, sym}
use Rattle.std.specs.Prelude.{IsSome}
use Rattle.nv_machine.specs.Kinds.{rest_turn}
use Rattle.nv_machine.specs.World.{HandState, Moves, ReturnNumber, Running, Shared, go_to}
use Rattle.nv_steps.specs.OnList.{HasNumber, home_left}
use Rattle.nv_steps.specs.declared.lists.LeftInHand.{LeftInHand}
use Rattle.nv_core.specs.Shown.{shown}
use Rattle.nv_core.proofs.ending.give_left.Goals as goal

numbered : (number : Option ℕ) (s : Shared) (h : HandState) (r : Running) → IsSome number
    → rest_turn None number s h r ≡ Moves s h (go_to ReturnNumber r)
numbered None s h r some = absurd (true≢false (sym some))
numbered (Some ino) s h r some = refl

pub returns-in-Number-clause-turn : goal.returns-in-Number-clause-turn
returns-in-Number-clause-turn c told s h owes number =
    ap (λ (left : LeftInHand). rest_turn (home_left left) h.ino s h (shown told c.args.running.now)) c.in-Number.is
    ∙ numbered h.ino s h (shown told c.args.running.now) (subst (λ (left : LeftInHand). HasNumber left h.ino) c.in-Number.is number)

pub returns-in-Nothing-clause-turn : goal.returns-in-Nothing-clause-turn
returns-in-Nothing-clause-turn c told s h owes number =
    ap (λ (left : LeftInHand). rest_turn (home_left left) h.ino s h (shown told c.args.running.now)) c.in-Nothing.is
    ∙ ap (λ (o : Option ℕ). rest_turn None o s h (shown told c.args.running.now))
    (subst (λ (left : LeftInHand). HasNumber left h.ino) c.in-Nothing.is number)
    ∙ c.last.ensures.turn told s h owes
