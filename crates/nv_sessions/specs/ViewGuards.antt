-- The guards of places whose cells a call only reads.
use Rattle.std.specs.Prelude.{◌≡◌, ℕ, List, slice_index}
use Rattle.std.specs.Sync.RwLock.{read_guard_value, write_guard_value}
use Rattle.nv_sessions.specs.Locked.{LockedValue, version_at}
use Rattle.nv_sessions.specs.declared.view_guards.ViewGuard.{ViewGuard}
use Rattle.nv_sessions.specs.declared.view_guards.ViewGuard.TheVariants as guard

-- the place under the guard
abbrev pub place_of : {C B : Type 0} → ViewGuard C B → LockedValue
place_of (guard.Shared shared) = read_guard_value shared
place_of (guard.Alone own) = write_guard_value own

-- a place that others read too is at the version that was seen of its inode
abbrev pub IsNotedBy : {C B : Type 0} → List ℕ → List ℕ → ViewGuard C B → Type 0
IsNotedBy opened seen (guard.Shared shared) =
    version_at opened (read_guard_value shared).ino (slice_index seen (read_guard_value shared).ino)
    ≡ (read_guard_value shared).version
IsNotedBy opened seen (guard.Alone own) = Unit {0}
