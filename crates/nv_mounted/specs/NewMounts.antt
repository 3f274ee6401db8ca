-- A new mount: what it asks its world, and what stands beside that then.
use Rattle.std.specs.Prelude.{ℕ, [], None, Ok, Result, min}
use Rattle.nv_base.specs.declared.fault.Fault.{Fault}
use Rattle.nv_base.specs.declared.numbers.Handle.{Handle}
use Rattle.nv_calls.specs.declared.answer.Answer.{Answer}
use Rattle.nv_calls.specs.declared.call.Call.{Call}
use Rattle.nv_calls.specs.declared.call.Call.TheVariants as calls
use Rattle.nv_mount_answers.specs.Nodes.{root}
use Rattle.nv_mount_answers.specs.declared.kept.Time.{Time}
use Rattle.nv_mount_beside.specs.Beside.{AllBeside, none_beside}
use Rattle.nv_mount_beside.specs.Names.{hidden}
use Rattle.nv_mount_beside.specs.declared.refusal.Refusal.{Refusal}
use Rattle.nv_mounted.specs.Asks.{ask_handle}
use Rattle.nv_mounted.specs.Dialogues.{Dialogue, Ends, Grows, IsHad, ◌>>=◌}
use Rattle.nv_mounted.specs.declared.side.Side.{Side}
use Rattle.nv_mounted.specs.declared.world.Room.{Room}

-- the mode of the hidden directory: only its owner may read, write and search it (octal 700)
abbrev pub hidden_mode : ℕ
hidden_mode = 448

-- the hidden directory is made in the root
abbrev pub make_hidden : Dialogue Handle
make_hidden = Grows (ask_handle (calls.Mkdir root hidden hidden_mode))

-- no directory is open, no snapshot has a name, no room was told, and no log is to be cleaned
abbrev pub new_side : Handle → AllBeside → Side
new_side dir nodes = record {
  hidden = dir;
  nodes = nodes;
  directories = [];
  snapshots = [];
  told = None;
  due = None;
}

-- nothing is told yet of any slot; a world has 65,536 at most
abbrev pub no_nodes : Room → Time → AllBeside
no_nodes room now = none_beside (min room.inodes 65536) now

-- a mount begins at a time: the hidden directory is made
abbrev pub begin : Room → Time → Dialogue Side
begin room now = make_hidden >>= λ dir. Ends (Ok (new_side dir (no_nodes room now)))

-- A MOUNT BEGINS: its world tells what room it has, and is asked for the hidden directory. That ends
-- with what stands beside the world then, or with a refusal.
pub record Begins {W : Type 0} (Tells : W → Call → Result Answer Fault → W → Type 0)
    (HasRoom : W → Room → Type 0) (core : W) (now : Time) (result : Result Side Refusal)
    (new_core : W) : Type 0 where
  pub room : Room
  pub has_room : HasRoom core room
  pub had : IsHad Tells (begin room now) core result new_core
