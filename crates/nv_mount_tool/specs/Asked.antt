-- What one actor of a world is answered.
use Rattle.std.specs.Prelude.{◌≡◌, length, Result, Ok, Err}
use Rattle.nv_base.specs.declared.fault.Fault.{Fault}
use Rattle.nv_base.specs.declared.fault.Fault.TheVariants as faults
use Rattle.nv_calls.specs.declared.answer.Answer.{Answer}
use Rattle.nv_calls.specs.declared.call.Call.{Call}
use Rattle.nv_core.specs.Reports.{space_of}
use Rattle.nv_core.specs.Whole.{Calls, last_reply}
use Rattle.nv_core.specs.Worlds.{Leads, Shows, WorldState}
use Rattle.nv_core.specs.declared.whole.CallFault.{CallFault}
use Rattle.nv_core.specs.declared.whole.CallFault.TheVariants as call_faults
use Rattle.nv_machine.specs.World as machine
use Rattle.nv_mounted.specs.declared.world.Room.{Room}

-- A whole call that waits for another actor is told as `Contended`: a world with one actor has none that it waits for.
abbrev pub told : Result Answer CallFault → Result Answer Fault
told (Ok answer) = Ok answer
told (Err (call_faults.Refused fault)) = Err fault
told (Err call_faults.Waits) = Err faults.Contended

-- actor 0 makes a whole call, which is told so
pub record Asks (old : WorldState) (call : Call) (result : Result Answer Fault) (new : WorldState) : Type 0 where
  -- what the whole call ended with
  pub last : Result Answer CallFault
  -- it is told so
  pub is_told : result ≡ told last
  -- the call leads from one world to the other
  pub leads : Leads (λ m n. Calls m 0 call (last_reply last) n) old new

-- the numbers of a world's geometry, the inode numbers of its pool, and the free blocks of one scan
pub record HasRoom (w : WorldState) (room : Room) : Type 0 where
  -- all blocks
  pub blocks : room.blocks ≡ w.shared.geometry.numbers.blocks
  -- all inode slots
  pub inodes : room.inodes ≡ w.shared.geometry.numbers.inodes
  -- the inode numbers that are free
  pub free_inodes : room.free_inodes ≡ length w.shared.pool.numbers
  -- how many bytes a block has
  pub block : room.block ≡ w.shared.geometry.numbers.block
  -- the free blocks of whatever world of the machine it shows
  pub free : (m : machine.World) → Shows w m → room.free ≡ (space_of m).free
