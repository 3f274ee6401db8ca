-- What a turn leaves of the parts, by the table of what each step is lent.
use Rattle.std.specs.Prelude.{◌≡◌, ◌⊎◌, true, Some}
use Rattle.nv_machine.specs.Frame.{Lent}
use Rattle.nv_machine.specs.World.{Shared}
use Rattle.nv_steps.specs.Parts.{BookIs, CellIs, HasPart, HolderIs, ListIs, OwnerIs, Part, PoolIs}

-- a step that is lent so much is lent this part
abbrev pub IsLent : Lent → Part → Type 0
IsLent l (ListIs cpu list) = l.list ≡ Some cpu
IsLent l (PoolIs pool) = l.pool ≡ true
IsLent l (CellIs ino cell) = l.cell ≡ Some ino
IsLent l (OwnerIs ino owner) = l.lock ≡ Some ino
IsLent l (BookIs book) = l.book ≡ true
IsLent l (HolderIs holder) = l.commit_lock ≡ true

-- a part that is left is one that the step is lent, or is as it was
abbrev pub IsLentOrSame : Lent → Shared → Part → Type 0
IsLentOrSame l s part = IsLent l part ⊎ HasPart s part
