-- What an actor has in its hand is what the machine's actor has.
use Rattle.std.proofs.Common.{◌≡◌, ℕ, ◌<◌, length, refl, subst}
use Rattle.std.specs.Prelude.{slice_index_or}
use Rattle.nv_machine.specs.World as machine
use Rattle.nv_machine.specs.World.{actor_at}
use Rattle.nv_core.specs.Rooms.{hand_held}
use Rattle.nv_core.specs.Shown.{hand_with, held_by}
use Rattle.nv_core.specs.Worlds.{Shows, ShowsActor, WorldState}
use Rattle.nv_core.specs.declared.reservation.Reservation.{Reservation}
use Rattle.nv_core.specs.declared.reservation.Reservation.TheVariants as reserved
use Rattle.nv_core.specs.declared.world.Actor.{Actor}

-- the hand, with the parts that a commit killed, is all that is held
pub whole : (r : Reservation) → hand_with (held_by r).killed (hand_held r) ≡ held_by r
whole (reserved.Hand hand) = refl
whole (reserved.Ready ready) = refl
whole (reserved.Commit commit) = refl

-- an actor that is there holds what the machine's actor does
pub held_shown : (w : WorldState) (m : machine.World) (actor : ℕ) (own d : Actor) → Shows w m → actor < length w.actors
    → slice_index_or w.actors actor d ≡ own → held_by own.reserved ≡ (actor_at m actor).hand
held_shown w m actor own d shows there at =
    (subst (λ (a : Actor). ShowsActor a (actor_at m actor)) at (shows.each actor d there)).hand
