-- The slots that a call needs.
use Rattle.std.specs.Prelude.{ℕ, ◌++◌, Bool, true, false, List, map}
use Rattle.nv_base.specs.declared.numbers.Handle.{Handle}
use Rattle.nv_calls.specs.Locked.{handles}
use Rattle.nv_machine.specs.Reads.{if_number}
use Rattle.nv_machine.specs.World.{Check, HandState, Lock, Next, Running}

-- a call takes its locks, or has just taken them
abbrev pub is_locking : Next → Bool
is_locking (Lock place) = true
is_locking Check = true
is_locking other = false

-- the inode numbers of its new inode, of the handles that it names, and of those that its looks have found
abbrev pub needed_inos : HandState → Running → List ℕ
needed_inos h r = if_number h.ino ++ map (λ (handle : Handle). handle.ino) (handles r.looked r.call)
