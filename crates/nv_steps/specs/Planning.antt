-- What the cleaning of a log is planned to do.
use Rattle.std.specs.Prelude.{◌≡◌, ℕ, ◌≤◌, ◌==◌, Bool, true, false, Result, Ok, Err}
use Rattle.nv_alloc.specs.Queue.{QueueValue}
use Rattle.nv_base.specs.declared.fault.Fault.{Fault}
use Rattle.nv_cell.specs.Cell.{CellState}
use Rattle.nv_clean.specs.Plans.{unlinkable_of, wanted_of}
use Rattle.nv_machine.specs.Cleaning.{nothing_cleaned}
use Rattle.nv_machine.specs.World as machine
use Rattle.nv_machine.specs.World.{Cleans, Fresh, Refuses, Running, SnapshotOrCleaner, Unlink, go_to}
use Rattle.nv_steps.specs.OnCell.{once_ending}
use Rattle.nv_steps.specs.declared.planning.Manner.{Manner}
use Rattle.nv_steps.specs.declared.planning.Manner.TheVariants as manner
use Rattle.nv_steps.specs.declared.planning.Planned.{Planned}
use Rattle.nv_steps.specs.declared.planning.Planned.TheVariants as planned

-- how a cleaner cleans, in the machine's words
abbrev pub manner_of : Manner → machine.Manner
manner_of manner.Fast = machine.Fast
manner_of manner.Thorough = machine.Thorough
manner_of manner.Auto = machine.Auto

-- a planning finds this in a cell, where its cleaning is to go entry by entry or not
abbrev pub IsFoundIn : CellState → Bool → Planned → Type 0
IsFoundIn cell thorough (planned.Unlinks walk) = (thorough ≡ false) × (walk ≡ unlinkable_of cell)
IsFoundIn cell thorough (planned.Compacts walk) = (thorough ≡ true) × (walk ≡ wanted_of cell) × ((walk.dropped == 0) ≡ false)
IsFoundIn cell thorough (planned.Ends cleaned) =
    (thorough ≡ true) × (((wanted_of cell).dropped == 0) ≡ true) × (cleaned ≡ nothing_cleaned)

-- there is room for the log pages that move
abbrev pub HasRoomFor : QueueValue → Planned → Type 0
HasRoomFor queue (planned.Unlinks walk) = walk.pages ≤ queue.room
HasRoomFor queue (planned.Compacts walk) = walk.pages ≤ queue.room
HasRoomFor queue (planned.Ends cleaned) = Unit {0}

-- a queue has lost no room
pub record IsNoSmaller (old new : QueueValue) : Type 0 where
  -- its blocks are the same
  pub same : new ≡ record old { room = new.room }
  -- it has room for as many more blocks, or for more
  pub room : old.room ≤ new.room

-- a call whose planning came to this: it goes on to its cleaning, or it ends
abbrev pub once_planned : ℕ → Result Planned Fault → Running → Running
once_planned ino (Ok (planned.Unlinks walk)) r = go_to (SnapshotOrCleaner (Unlink ino)) r
once_planned ino (Ok (planned.Compacts walk)) r = go_to (SnapshotOrCleaner (Fresh ino 0 walk.pages)) r
once_planned ino (Ok (planned.Ends cleaned)) r = once_ending (Cleans cleaned) r
once_planned ino (Err fault) r = once_ending (Refuses fault) r
