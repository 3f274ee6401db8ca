-- What a call of C does where it finds a world, and where it finds none.
use Rattle.std.specs.Prelude.{◌≡◌, ◌⊎◌, ℕ, ◌<◌, ◌≤◌, length, [], Option, Some, None, Result, Ok, Err}
use Rattle.std_alloc.specs.declared.boxed.Box.{Box}
use Rattle.nv_base.specs.Limits.{IsFirstBad, IsWithinLimits, first_bad_field}
use Rattle.nv_base.specs.Memory.{out_of_memory}
use Rattle.nv_base.specs.declared.fault.Fault.{Fault}
use Rattle.nv_base.specs.declared.geometry.GeometryNumbers.{GeometryNumbers}
use Rattle.nv_calls.specs.declared.call.Call.{Call}
use Rattle.nv_calls.specs.declared.answer.Answer.{Answer}
use Rattle.nv_files.specs.Stands.{Leads, Stands}
use Rattle.nv_serial.specs.Serial.{new_serial}
use Rattle.nv_base.specs.declared.limits.TheConstants.{MODE}
use Rattle.nv_base.specs.declared.numbers.Handle.{Handle}
use Rattle.nv_calls.specs.declared.answer.Answer.TheVariants as answers
use Rattle.nv_calls.specs.declared.call.Call.TheVariants as call
use Rattle.nv_calls.specs.declared.snapshot_or_cleaner_call.SnapshotOrCleanerCall.TheVariants as on
use Rattle.nv_core.specs.Consistent.{IsConsistentWorld}
use Rattle.nv_core.specs.Reports.{space_of}
use Rattle.nv_core.specs.Worlds.{Shows}
use Rattle.nv_machine.specs.Settled.{tree_of}
use Rattle.nv_machine.specs.World as machine
use Rattle.nv_c.specs.Numbers.{blocks_of}
use Rattle.nv_c.specs.Status.{Tells, TellsOrStarved, number_of}
use Rattle.nv_c.specs.declared.numbers.NovaBlocks.{NovaBlocks}
use Rattle.nv_c.specs.declared.held.Held.{Held}
use Rattle.nv_c.specs.declared.status.TheConstants.{BAD_MODE, NO_WORLD}

-- the world is taken, if there is one
abbrev pub IsTaken : {A : Type 0} → Option Held → Option (Box Held A) → Type 0
IsTaken was None = was ≡ None
IsTaken was (Some box) = was ≡ Some box.value

-- A CALL OF C does this to the world that it finds. Where it finds none, the status says so, and none is there after it.
abbrev pub OnWorld : Option Held → Option Held → (status : ℕ) → (Held → Held → Type 0) → Type 0
OnWorld (Some old) (Some new) status Does = Does old new
OnWorld None None status Does = status ≡ NO_WORLD
OnWorld old new status Does = ⊥

-- what was listed and shown last stays
abbrev pub KeepsLists : Held → Held → Type 0
KeepsLists old new = (new.listed ≡ old.listed) × (new.shown ≡ old.shown)

-- a status tells a call, and what was listed and shown last stays
abbrev pub Calls : Call → (status : ℕ) → Answer → Held → Held → Type 0
Calls c status answer old new = Leads (TellsOrStarved c status answer) old.files new.files × KeepsLists old new

-- the same of a call that takes no memory
abbrev pub CallsSurely : Call → (status : ℕ) → Answer → Held → Held → Type 0
CallsSurely c status answer old new = Leads (Tells c status answer) old.files new.files × KeepsLists old new

-- a new world is made of lawful numbers, unless memory is refused; of other numbers none is made
abbrev pub IsMadeAs : {A : Type 0} → GeometryNumbers → Result (Box Held A) Fault → Type 0
IsMadeAs numbers (Ok box) =
    IsWithinLimits numbers × Stands box.value.files (new_serial numbers) × (box.value.listed ≡ []) × (box.value.shown ≡ [])
IsMadeAs numbers (Err why) = IsFirstBad why (first_bad_field numbers) ⊎ (why ≡ out_of_memory)

-- a new world of lawful numbers is there, and the status is 0; or the first number that is not lawful is refused, or memory is, and
-- what was there stays
abbrev pub IsNew : GeometryNumbers → (status : ℕ) → Option Held → Option Held → Type 0
IsNew numbers status old new =
    ((held : Held) × (new ≡ Some held) × (status ≡ 0)
    × IsWithinLimits numbers × Stands held.files (new_serial numbers) × (held.listed ≡ []) × (held.shown ≡ []))
    ⊎ ((why : Fault) × (new ≡ old) × (status ≡ number_of why)
    × (IsFirstBad why (first_bad_field numbers) ⊎ (why ≡ out_of_memory)))

-- a mode of at most 12 bits lets a call be made; another is told as such, and nothing changes
abbrev pub WithMode : (mode status : ℕ) → (Held → Held → Type 0) → Held → Held → Type 0
WithMode mode status Does old new =
    (mode ≤ MODE → Does old new) × (MODE < mode → (status ≡ BAD_MODE) × (new ≡ old))

-- names are listed, and kept until the next list; or the call is refused, and what was listed last stays
pub record Lists (dir : Handle) (status told_count : ℕ) (old new : Held) : Type 0 where
  -- the names are those of the world with numbers
  pub told : Leads (TellsOrStarved (call.List dir) status (answers.Names new.listed)) old.files new.files
  -- they are counted
  pub count : status ≡ 0 → told_count ≡ length new.listed
  -- else what was listed last stays
  pub kept : 0 < status → new.listed ≡ old.listed
  -- what was shown last stays
  pub shown : new.shown ≡ old.shown

-- the tree of a snapshot is shown, and kept until the next one; or the call is refused, and what was shown last stays
pub record ShowsSnapshot (snapshot : ℕ) (status told_count : ℕ) (old new : Held) : Type 0 where
  -- the tree is that of the world with numbers
  pub told : Leads (TellsOrStarved (call.SnapshotOrCleaner (on.Show snapshot)) status (answers.Tree new.shown)) old.files new.files
  -- its nodes are counted
  pub count : status ≡ 0 → told_count ≡ length new.shown
  -- else what was shown last stays
  pub kept : 0 < status → new.shown ≡ old.shown
  -- what was listed last stays
  pub listed : new.listed ≡ old.listed

-- the tree as it is now is shown, and kept until the next one; or memory is refused, and what was shown last stays
pub record ShowsNow (status told_count : ℕ) (old new : Held) : Type 0 where
  -- the tree is that of the machine's world which the files show
  pub told : status ≡ 0 → (m : machine.World) → Shows old.files m → new.shown ≡ tree_of m
  -- memory alone is refused
  pub err : (status ≡ 0) ⊎ (status ≡ number_of out_of_memory)
  -- its nodes are counted
  pub count : status ≡ 0 → told_count ≡ length new.shown
  -- else what was shown last stays
  pub kept : 0 < status → new.shown ≡ old.shown
  -- the files stay
  pub files : new.files ≡ old.files
  -- what was listed last stays
  pub listed : new.listed ≡ old.listed

-- where the blocks are is told, whatever world of the machine the files show
abbrev pub ReportsSpace : Held → NovaBlocks → Type 0
ReportsSpace held out = (m : machine.World) → Shows held.files m → out ≡ blocks_of (space_of m)

-- an audit judges a world, which is consistent: nothing differs, or memory is refused
abbrev pub Audits : (status : ℕ) → Held → Type 0
Audits status held = ((status ≡ 0) ⊎ (status ≡ number_of out_of_memory)) × IsConsistentWorld held.files
