-- What a mount has beside its world, and how a request changes it.
use Rattle.std.specs.Prelude.{◌≡◌, ◌==◌, if◌then◌else◌, Some, Result, Ok, Err, OnErr}
use Rattle.nv_base.specs.declared.fault.Fault.{Fault}
use Rattle.nv_base.specs.declared.numbers.Handle.{Handle}
use Rattle.nv_calls.specs.declared.answer.Answer.{Answer}
use Rattle.nv_calls.specs.declared.call.Call.{Call}
use Rattle.nv_mount_answers.specs.declared.kept.Time.{Time}
use Rattle.nv_mount_beside.specs.Beside.{beside_at, changed, with_beside}
use Rattle.nv_mounted.specs.Dialogues.{Dialogue, IsHad}
use Rattle.nv_mount_beside.specs.declared.beside.Beside.{Beside}
use Rattle.nv_mounted.specs.declared.side.Side.{Side}
use Rattle.nv_mount_beside.specs.declared.refusal.Refusal.{Refusal}

-- what stands beside one node of the mount
abbrev pub at_node : Side → Handle → Beside
at_node side handle = beside_at side.nodes handle

-- this stands beside a node from now on
abbrev pub put_node : Handle → Beside → Side → Side
put_node handle b side = record side { nodes = with_beside handle b side.nodes }

-- a node that has changed is told of, and its log is to be cleaned at the 512th change
abbrev pub touched : Time → Handle → Side → Side
touched now handle side =
    let after = changed now (at_node side handle) in
    record side {
      nodes = with_beside handle after side.nodes;
      due = if after.changes == 512 then Some handle.ino else side.due;
    }

-- a result with what stands beside the world then
abbrev pub with_side : {S A : Type 0} → S → Result A Refusal → Result (A × S) Refusal
with_side side (Ok a) = Ok (a, side)
with_side side (Err refusal) = Err refusal

-- What a mount does: it has a dialogue with its world, whose end tells the result and what stands
-- beside the world then. A refusal leaves that as it was.
pub record Does {W A : Type 0} (Tells : W → Call → Result Answer Fault → W → Type 0)
    (talk : Dialogue (A × Side)) (core : W) (side : Side) (result : Result A Refusal)
    (new_core : W) (new_side : Side) : Type 0 where
  pub had : IsHad Tells talk core (with_side new_side result) new_core
  pub same : OnErr result (new_side ≡ side)
