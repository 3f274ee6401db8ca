-- How many records a drain releases.
use Rattle.std.specs.Prelude.{◌≡◌, ℕ, nat_lt, if◌then◌else◌, [], Some}
use Rattle.nv_base.specs.declared.limits.TheConstants.{DRAIN}
use Rattle.nv_machine.specs.World.{Draining, Pick, Running, SnapshotOrCleaner, World, actor_at}

-- how many records a drain releases at most: its number, or 1 or 1,048,576 where the number is
-- outside of these
abbrev pub drain_number : ℕ → ℕ
drain_number count = if nat_lt count 1 then 1 else if nat_lt DRAIN count then DRAIN else count

-- a drain is to pick its next record, and none is deferred
pub record FindsNothing (actor : ℕ) (w : World) : Type 0 where
  -- the call that the actor runs
  pub running : Running
  -- how far its drain has come
  pub draining : Draining
  -- the actor runs it
  pub runs : (actor_at w actor).running ≡ Some running
  -- its next step is to pick a record
  pub picks : running.next ≡ SnapshotOrCleaner (Pick draining)
  -- no record is deferred
  pub nothing : w.shared.book.deferred ≡ []
