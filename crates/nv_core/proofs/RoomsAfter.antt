-- What holds of all running calls after a step of one of them, and the machine's world after one event more.
use Rattle.std.proofs.Common.{◌≡◌, ◌≢◌, ℕ, ◌<◌, ◌++◌, ◌==◌, Bool, true, false, List, [], ◌∷◌, Some, arith, get_or-set_other, get_or-set_same, length, length-set, refl, subst, sym}
use Rattle.std.specs.Prelude.{slice_index_or, slice_set}
use Rattle.std.proofs.lemmas.Bool.{eqb-false, eqb-true}
use Rattle.nv_machine.specs.Locks.{AreLocks, held_at}
use Rattle.nv_machine.specs.Step.{after, step}
use Rattle.nv_machine.specs.World as machine
use Rattle.nv_machine.specs.World.{actor_at}
use Rattle.nv_core.specs.Frames.{LeavesRest}
use Rattle.nv_core.specs.Rooms.{HasActorRooms}
use Rattle.nv_core.specs.Shown.{shared_of}
use Rattle.nv_core.specs.Worlds.{ShowsActor}
use Rattle.nv_core.specs.declared.shared.Shared.{Shared}
use Rattle.nv_core.specs.declared.world.Actor.{Actor}
use Rattle.nv_core.proofs.Stays.{rooms_stay}

-- one event more
pub after_more : (w : machine.World) (events : List machine.Event) (e : machine.Event)
    → after w (events ++ e ∷ []) ≡ (step (after w events) e).world
after_more w [] e = refl
after_more w (other ∷ events) e = after_more (step w other).world events e

-- what holds of each actor
abbrev pub AllHaveRooms : Shared → List Actor → Type 0
AllHaveRooms shared actors = (k : ℕ) (d : Actor) → k < length actors
    → HasActorRooms shared (slice_index_or actors k d).reserved (slice_index_or actors k d).running

-- after a step it holds of the actor that has made it, and stays of all others
pub all_rooms : (m : machine.World) → AreLocks m → (old new : Shared) → shared_of old ≡ m.shared → (actors : List Actor)
    → ((k : ℕ) (d : Actor) → k < length actors → ShowsActor (slice_index_or actors k d) (actor_at m k)) → AllHaveRooms old actors
    → (actor : ℕ) → actor < length actors → (r : machine.Running) → (actor_at m actor).running ≡ Some r
    → LeavesRest actor (held_at r.next r.slots) old new → (state : Actor) → HasActorRooms new state.reserved state.running
    → AllHaveRooms new (slice_set actors actor state)
all_rooms m locks old new same actors shows rooms actor there r goes rest state own k d lt = go (k == actor) refl where
  inside : k < length actors
  inside = omega (arith, lt, length-set actors actor state)

  go : (b : Bool) → (k == actor) ≡ b
      → HasActorRooms new (slice_index_or (slice_set actors actor state) k d).reserved
      (slice_index_or (slice_set actors actor state) k d).running
  go true q =
      subst (λ (j : ℕ). HasActorRooms new (slice_index_or (slice_set actors actor state) j d).reserved
      (slice_index_or (slice_set actors actor state) j d).running) (sym (eqb-true k actor q))
      (subst (λ (x : Actor). HasActorRooms new x.reserved x.running) (sym (get_or-set_same actors actor state d there)) own)
  go false q =
      let ne : k ≢ actor = eqb-false k actor q in
      subst (λ (x : Actor). HasActorRooms new x.reserved x.running) (sym (get_or-set_other actors actor k state d ne))
      (rooms_stay m locks old new same actor k ne r goes rest (slice_index_or actors k d) (shows k d inside) (rooms k d inside))
