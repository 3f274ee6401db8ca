-- A cell's version and the number of the last commit: what bounds the one by the other, and which cells a
-- commit has yet to publish.
use Rattle.std.specs.Prelude.{◌≡◌, ℕ, ◌<◌, ◌≤◌, true, List, [], drop, Option, Some, None}
use Rattle.nv_alloc.specs.Numbers.{has}
use Rattle.nv_base.specs.declared.limits.TheConstants.{NUMBER}
use Rattle.nv_machine.specs.Locks.{commits_at}
use Rattle.nv_machine.specs.Reads.{written_slots}
use Rattle.nv_machine.specs.World.{Append, Next, Open, Publish, Running, Shared, World, actor_at, cell_at}

-- the slots that a commit has yet to publish
abbrev pub to_publish : Next → List ℕ → List ℕ
to_publish (Append place) written = written
to_publish Open written = written
to_publish (Publish place) written = drop place written
to_publish other written = []

-- the versions of cells beside the commits
pub record AreVersions (s : Shared) : Type 0 where
  -- no cell has seen more commits than there were
  pub cells : (ino : ℕ) → (cell_at s ino).version ≤ s.book.commit
  -- there were at most as many as there are commit numbers
  pub limit : s.book.commit ≤ NUMBER

-- a slot that a commit has yet to publish has not seen that commit
abbrev pub HasUnseen : Shared → Running → Type 0
HasUnseen s r = commits_at r.next ≡ true → (ino : ℕ) → has (to_publish r.next (written_slots r)) ino ≡ true
    → (cell_at s ino).version < r.commit

-- `HasUnseen` of the call that an actor runs
abbrev pub HasUnseenBy : Shared → Option Running → Type 0
HasUnseenBy s None = Unit {0}
HasUnseenBy s (Some r) = HasUnseen s r

-- versions count the commits that were published
pub record AreCounted (w : World) : Type 0 where
  -- no cell has seen more commits than there were
  pub versions : AreVersions w.shared
  -- no slot has seen a commit that is yet to publish it
  pub each : (actor : ℕ) → HasUnseenBy w.shared (actor_at w actor).running
