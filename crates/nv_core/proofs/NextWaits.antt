-- A step waits exactly where an actor is told that it waits for.
use Rattle.std.proofs.Common.{◌≡◌, ◌<◌, ◌↔◌, ℕ, Bool, Option, Some, None, length, refl, subst, sym}
use Rattle.std.specs.Prelude.{IsTrue, is_some}
use Rattle.std.proofs.lemmas.Bool.{false≢true}
use Rattle.nv_machine.specs.Locks.{AreLocks, WaitsFor}
use Rattle.nv_machine.specs.Step.{step}
use Rattle.nv_machine.specs.World.{Go, Running, Waiting, World, actor_at}
use Rattle.nv_machine.proofs.EveryWorld.{reached}
use Rattle.nv_machine.proofs.MustWait.{waits_exactly}
use Rattle.nv_core.specs.NextSteps.{IsAwaited, IsNext}
use Rattle.nv_core.specs.Worlds.{HasRun}
use Rattle.nv_core.specs.declared.next_step.NextStep.{NextStep}

module _ (m : World) (actor : ℕ) (granted : Bool) (told : NextStep) (has : HasRun m) (there : actor < length m.actors) where
  locks : AreLocks m
  locks = subst AreLocks (sym has.2) (reached m.numbers has.0.start has.0.records has.0.events has.1).locks

  by : (o : Option Running) → (actor_at m actor).running ≡ o → IsNext m actor o (Some told)
      → ((step m (Go actor granted)).reply ≡ Waiting) ↔ IsTrue (is_some told.waits_for)
  by None is it = absurd it
  by (Some r) is it = go told.waits_for it.waits where
    exact : ((step m (Go actor granted)).reply ≡ Waiting) ↔ WaitsFor m.shared actor r r.next
    exact = waits_exactly m actor granted r there is locks

    go : (o : Option ℕ) → IsAwaited m.shared actor r o → ((step m (Go actor granted)).reply ≡ Waiting) ↔ IsTrue (is_some o)
    go None never = (λ waiting. absurd (never (exact.0 waiting)), λ some. absurd (false≢true some))
    go (Some other) held = (λ waiting. refl, λ some. exact.1 held.0)

  pub waits_as_told : IsNext m actor (actor_at m actor).running (Some told)
      → ((step m (Go actor granted)).reply ≡ Waiting) ↔ IsTrue (is_some told.waits_for)
  waits_as_told it = by (actor_at m actor).running refl it
