-- What stands past the settled logs: the entries of the commit under way, and nothing else.
use Rattle.std.specs.Prelude.{◌≡◌, ℕ, ◌++◌, Bool, false, if◌then◌else◌, List, [], drop, length, take, Option, Some, None}
use Rattle.nv_alloc.specs.Numbers.{has}
use Rattle.nv_entry.specs.declared.item.Entry.{Entry}
use Rattle.nv_machine.specs.Kinds.{entries_for}
use Rattle.nv_machine.specs.Reads.{written_slots}
use Rattle.nv_machine.specs.Settled.{settled}
use Rattle.nv_machine.specs.World.{Append, Close, Next, Open, Publish, Running, Shared, World, actor_at, cell_at, owner_at}

-- whether a commit has appended entries to a slot that are not yet settled
abbrev pub is_appended : Next → List ℕ → ℕ → Bool
is_appended (Append place) written ino = has (take place written) ino
is_appended Open written ino = has written ino
is_appended (Publish place) written ino = has written ino
is_appended Close written ino = has written ino
is_appended other written ino = false

-- a commit has appended entries to a slot, and has yet to move the tail over them
abbrev pub is_behind : Next → List ℕ → ℕ → Bool
is_behind (Append place) written ino = has (take place written) ino
is_behind Open written ino = has written ino
is_behind (Publish place) written ino = has (drop place written) ino
is_behind other written ino = false

-- the entries of a commit for a slot that it writes
abbrev pub fresh_entries : Bool → Running → ℕ → List Entry
fresh_entries appended r ino = if appended then entries_for r ino else []

-- a log is settled as a whole
pub record IsAllSettled (s : Shared) (ino : ℕ) : Type 0 where
  -- no entry stands past the settled log
  pub entries : (cell_at s ino).chain.entries ≡ settled s ino
  -- the tail stands behind the last entry
  pub tail : (cell_at s ino).chain.tail ≡ length (cell_at s ino).chain.entries

-- what stands past the settled logs of the slots that a call holds
pub record HasGrown (k : Next) (s : Shared) (actor : ℕ) (r : Running) : Type 0 where
  -- behind the settled log stand exactly the entries that the call has appended there
  pub entries : (ino : ℕ) → owner_at s ino ≡ Some actor
      → (cell_at s ino).chain.entries ≡ settled s ino ++ fresh_entries (is_appended k (written_slots r) ino) r ino
  -- the tail stands behind the last entry, unless the call has yet to move it there
  pub tails : (ino : ℕ) → owner_at s ino ≡ Some actor → is_behind k (written_slots r) ino ≡ false
      → (cell_at s ino).chain.tail ≡ length (cell_at s ino).chain.entries

-- `HasGrown` of the call that an actor runs, before the step that comes next
abbrev pub HasGrownBy : Option Running → Shared → ℕ → Type 0
HasGrownBy None s actor = Unit {0}
HasGrownBy (Some r) s actor = HasGrown r.next s actor r

-- PAST THE SETTLED LOGS stand the entries that the commit under way has appended, and no others
pub record AreGrown (w : World) : Type 0 where
  -- a slot that nobody has locked has no entry past its settled log
  pub free : (ino : ℕ) → owner_at w.shared ino ≡ None → IsAllSettled w.shared ino
  -- a slot that a call has locked has past it exactly what that call has appended
  pub each : (actor : ℕ) → HasGrownBy (actor_at w actor).running w.shared actor
