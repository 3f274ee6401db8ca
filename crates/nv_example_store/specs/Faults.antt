-- Why a store refuses, by the numbers of its world.
use Rattle.std.specs.Prelude.{◌≡◌, ◌⊎◌, ◌*◌, ◌<◌, ℕ, true, false, List, [], ◌∷◌, length, Option, Some, None}
use Rattle.std.specs.Option.{unwrap_or}
use Rattle.nv_base.specs.Memory.{out_of_memory}
use Rattle.nv_base.specs.declared.fault.Fault.{Fault}
use Rattle.nv_base.specs.declared.fault.Fault.TheVariants as fault
use Rattle.nv_base.specs.declared.limits.TheConstants.{FILE_PAGES, WRITE_PAGES}
use Rattle.nv_base.specs.declared.numbers.Handle.{Handle}
use Rattle.nv_calls.specs.declared.call.Call.{Call}
use Rattle.nv_calls.specs.declared.call.Call.TheVariants as call
use Rattle.nv_entry.specs.Bytes.{pages_touched}
use Rattle.nv_entry.specs.Index.{bound_to}
use Rattle.nv_entry.specs.Tree.{names_under, root}
use Rattle.nv_serial.specs.Cleaning.{pages_filled}
use Rattle.nv_serial.specs.Free.{row_of}
use Rattle.nv_serial.specs.OneCall.{serial_call}
use Rattle.nv_serial.specs.Serial.{Serial, copies_now}
use Rattle.nv_effects.specs.Causes.{IsShort}
use Rattle.nv_example_store.specs.Keys.{may_be_key, scratch}
use Rattle.nv_example_store.specs.Stored.{value_in}
use Rattle.nv_example_store.specs.Tidied.{after, drained}
use Rattle.nv_example_store.specs.Values.{Backup, entries_at, has_value, value_of}

-- bytes that are no key are refused `BadName`, and a key for these faults
abbrev pub IsKeyFault : (Fault → Type 0) → List ℕ → Fault → Type 0
IsKeyFault Of key why = ((why ≡ fault.BadName) × (may_be_key key ≡ false)) ⊎ ((may_be_key key ≡ true) × Of why)

-- ---- a put, which makes three calls

-- the file under the name that is no key; the root where there is none, which nothing reads
abbrev pub scratch_file : Serial → Handle
scratch_file s = unwrap_or (bound_to scratch (names_under (copies_now s) root)) root

-- what leaves an empty file under that name: it is made, of mode 384 (octal 600), or the one that is there is cut
abbrev pub emptying_of : Option Handle → Call
emptying_of None = call.Create root scratch 384
emptying_of (Some file) = call.Size file 0

-- the first call
abbrev pub emptying : Serial → Call
emptying s = emptying_of (bound_to scratch (names_under (copies_now s) root))

-- the second: the value is written there
abbrev pub filling : List ℕ → Serial → Call
filling value s = call.Write (scratch_file s) 0 value

-- the third: the file takes the key's place
abbrev pub placing : List ℕ → Call
placing key = call.Rename root scratch root key

-- THE CALLS OF A PUT, each with the world in which it is made
abbrev pub put_calls : (key value : List ℕ) → Serial → List (Serial × Call)
put_calls key value s =
    let t : Serial = after s (emptying s) in
    (s, emptying s) ∷ (t, filling value t) ∷ (after t (filling value t), placing key) ∷ []

-- one of these calls is short of something in its world: of an inode number, of blocks or of a commit number
abbrev pub IsShortIn : List (Serial × Call) → Fault → Type 0
IsShortIn [] why = ⊥
IsShortIn (made ∷ rest) why = IsShort made.0 0 made.1 why ⊎ IsShortIn rest why

-- a value of so many bytes is too long: for one write, or for a file
abbrev pub IsTooLong : (block count : ℕ) → Fault → Type 0
IsTooLong block count fault.WriteTooBig = WRITE_PAGES < pages_touched block 0 count
IsTooLong block count fault.FileTooBig = FILE_PAGES * block < count
IsTooLong block count other = ⊥

-- WHY A PUT IS REFUSED: its value is too long, one of its calls is short of something, or memory is refused
abbrev pub IsPutCause : (key value : List ℕ) → Serial → Fault → Type 0
IsPutCause key value s why =
    IsTooLong s.numbers.block (length value) why ⊎ (IsShortIn (put_calls key value s) why ⊎ (why ≡ out_of_memory))

-- ---- other methods

-- WHY A REMOVAL IS REFUSED: the key has no value, or its `unlink` is short of something, or memory is refused
abbrev pub IsRemoveCause : (key : List ℕ) → Serial → Fault → Type 0
IsRemoveCause key s why =
    ((why ≡ fault.Missing) × (value_of key (value_in s.plain).entries ≡ None))
    ⊎ (((has_value key (value_in s.plain).entries ≡ true) × IsShort s 0 (call.Unlink root key) why) ⊎ (why ≡ out_of_memory))

-- why a backup that is to go is refused: there is none of this number
abbrev pub IsForgetCause : (snapshot : ℕ) → List Backup → Fault → Type 0
IsForgetCause snapshot backups why = (why ≡ fault.NoSnapshot) × (entries_at snapshot backups ≡ None)

-- why a value of a backup is refused: `NoSnapshot` where there is no such backup, or want of memory
abbrev pub IsBackupFault : ℕ → List Backup → Fault → Type 0
IsBackupFault snapshot backups fault.NoSnapshot = entries_at snapshot backups ≡ None
IsBackupFault snapshot backups (fault.OutOfMemory memory) = Unit {0}
IsBackupFault snapshot backups other = ⊥

-- WHY A TIDYING IS REFUSED: after its drain fewer blocks are free than what stays of the root's log fills, or memory is
-- refused
abbrev pub IsTidyCause : Serial → Fault → Type 0
IsTidyCause s why =
    ((why ≡ fault.NoSpace) × (length (row_of (drained s) 0) < pages_filled (drained s) root.ino)) ⊎ (why ≡ out_of_memory)
