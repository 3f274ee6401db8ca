-- A world taken apart, and when it is.
use Rattle.std.specs.Prelude.{◌≡◌, ℕ, Bool, true, is_some}
use Rattle.nv_machine.specs.World as machine
use Rattle.nv_core.specs.declared.shared.Shared.{Shared}
use Rattle.nv_core.specs.declared.world.Actor.{Actor}
pub use Rattle.nv_parts.specs.AtRest.{AreJudged, IsMismatchOf, at_rest}
pub use Rattle.nv_parts.specs.declared.parts.Parts.{Parts}

-- what is shared without its locks, with the room that it has
abbrev pub parts_of : Shared → Parts
parts_of shared = record {
  geometry = shared.geometry;
  cells = shared.cells.items;
  lists = shared.lists.items;
  pool = shared.pool;
  book = shared.book;
}

-- some actor has a call
abbrev pub IsBusy : machine.World → Type 0
IsBusy m = (actor : ℕ) × (is_some (machine.actor_at m actor).running ≡ true)

-- the actor has a call
abbrev pub has_call : Actor → Bool
has_call actor = is_some actor.running
