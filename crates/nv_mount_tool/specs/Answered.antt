-- What the mount of one actor's world answers to the bytes of a request, and what it cleans then.
use Rattle.std.specs.Prelude.{ℕ, List, Result, Ok, drop}
use Rattle.nv_base.specs.declared.fault.Fault.{Fault}
use Rattle.nv_base.specs.declared.geometry.GeometryNumbers.{GeometryNumbers}
use Rattle.nv_calls.specs.declared.answer.Answer.{Answer}
use Rattle.nv_calls.specs.declared.call.Call.{Call}
use Rattle.nv_core.specs.Worlds.{Shows}
use Rattle.nv_fuse.specs.Requests.{IsHeader, IsRead, IsRequest}
use Rattle.nv_fuse.specs.declared.request.Request.{Request}
use Rattle.nv_machine.specs.Format.{formatted}
use Rattle.nv_mount_answers.specs.declared.kept.Time.{Time}
use Rattle.nv_mount_beside.specs.declared.outcome.Outcome.{Outcome}
use Rattle.nv_mounted.specs.Answers.{IsAnswered}
use Rattle.nv_mounted.specs.Contents.{clean}
use Rattle.nv_mounted.specs.NewMounts.{Begins}
use Rattle.nv_mounted.specs.Side.{Does}
use Rattle.nv_mounted.specs.declared.mount.Mount.{Mount}
use Rattle.nv_mounted.specs.declared.world.Room.{Room}
use Rattle.nv_mount_tool.specs.Asked.{Asks, HasRoom}
use Rattle.nv_mount_tool.specs.declared.world.OneActor.{OneActor}

-- the mount of a world that one actor asks
abbrev pub OneMount : Type 0
OneMount = Mount OneActor

-- what a call of the actor tells
abbrev pub Tells : OneActor → Call → Result Answer Fault → OneActor → Type 0
Tells old call result new = Asks old.world call result new.world

-- what room its world has
abbrev pub TellsRoom : OneActor → Room → Type 0
TellsRoom one room = HasRoom one.world room

-- A NEW MOUNT of a world that is made anew with these numbers, at a time: its hidden directory is made there.
pub record IsNewMount (numbers : GeometryNumbers) (now : Time) (mount : OneMount) : Type 0 where
  -- the actor, with the world
  pub one : OneActor
  -- the world is the machine's new one
  pub made : Shows one.world (formatted numbers)
  -- the mount begins over it
  pub begins : Begins Tells TellsRoom one now (Ok mount.side) mount.core

-- the request that bytes are read as
pub record IsReadAs (bytes : List ℕ) (request : Request) : Type 0 where
  -- they are a whole request
  pub whole : IsRequest bytes
  -- they begin with its header
  pub header : IsHeader bytes request.header
  -- its operation is what the table tells of the bytes behind the header
  pub operation : IsRead request.header.operation (drop 40 bytes) request.operation

-- A MOUNT ANSWERS the request that bytes are read as, at a time: with this outcome, and this mount is left.
pub record Answers (old : OneMount) (now : Time) (bytes : List ℕ) (outcome : Outcome) (new : OneMount) : Type 0 where
  -- the request
  pub request : Request
  -- the bytes are read as it
  pub is_read : IsReadAs bytes request
  -- it is answered so
  pub answered : IsAnswered Tells TellsRoom old.core old.side now request outcome new.core new.side

-- a mount cleans the log that is due, where one is
abbrev pub Cleans : OneMount → OneMount → Type 0
Cleans old new = Does Tells (clean old.side) old.core old.side (Ok tt) new.core new.side
