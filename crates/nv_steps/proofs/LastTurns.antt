-- The last step of a call, wherever the other parts are.
use Rattle.std.proofs.Common.{◌≡◌, ℕ, zero, suc}
use Rattle.nv_base.specs.declared.geometry.GeometryNumbers.{GeometryNumbers}
use Rattle.nv_machine.specs.Kinds.{drained_turn, last_turn}
use Rattle.nv_machine.specs.Step.{turn}
use Rattle.nv_machine.specs.World.{Answers, BoundAnew, Cleans, Drains, Ending, HandState, Refuses, Shared, Turn}
use Rattle.nv_steps.specs.LastSteps.{IsDrained, IsLast}
use Rattle.nv_steps.specs.Parts.{Has, IsOf, with_parts}
use Rattle.nv_steps.specs.Turns.{Made}

module _ (numbers : GeometryNumbers) (actor : ℕ) (t : Made) (h : HandState) where
  -- the turn comes to this, wherever the other parts are
  abbrev ComesTo : (Shared → Turn) → Type 0
  ComesTo after = (s : Shared) → IsOf numbers s → Has s t.found
      → turn numbers.block actor t.granted s t.hand t.running ≡ after (with_parts t.left s)

  drains : (left released : ℕ) → ComesTo (λ s. drained_turn left released s h t.running) → IsDrained numbers actor t left released h
  drains zero released comes = comes
  drains (suc left) released comes = comes

  pub lasts : (how : Ending) → ComesTo (λ s. last_turn how s h t.running) → IsLast numbers actor t how h
  lasts Answers comes = comes
  lasts (Refuses fault) comes = comes
  lasts BoundAnew comes = comes
  lasts (Drains draining) comes = drains draining.left draining.released comes
  lasts (Cleans cleaned) comes = comes

  back : (left released : ℕ) → IsDrained numbers actor t left released h → ComesTo (λ s. drained_turn left released s h t.running)
  back zero released is = is
  back (suc left) released is = is

  -- and back
  pub last_comes : (how : Ending) → IsLast numbers actor t how h → ComesTo (λ s. last_turn how s h t.running)
  last_comes Answers is = is
  last_comes (Refuses fault) is = is
  last_comes BoundAnew is = is
  last_comes (Drains draining) is = back draining.left draining.released is
  last_comes (Cleans cleaned) is = is
