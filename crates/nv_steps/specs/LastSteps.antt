-- The last steps of a call: it ends, or a drain goes on to its next record.
use Rattle.std.specs.Prelude.{ℕ, zero, suc, [], Ok}
use Rattle.nv_base.specs.declared.geometry.GeometryNumbers.{GeometryNumbers}
use Rattle.nv_calls.specs.declared.answer.Answer.TheVariants as answers
use Rattle.nv_machine.specs.Kinds.{result_by}
use Rattle.nv_machine.specs.World.{Answers, Drains, Ending, HandState, Pick, Running, SnapshotOrCleaner}
use Rattle.nv_steps.specs.OnBook.{drain_of}
use Rattle.nv_steps.specs.Turns.{IsEnd, IsMove, Made}

-- a drain that has released so many, and picks the next record
abbrev pub once_drained : ℕ → ℕ → Running → Running
once_drained released left r = record r { ending = Answers; slots = []; next = SnapshotOrCleaner (Pick (drain_of released left)) }

-- a drain goes on if it may release more, and is answered else how many it has released
abbrev pub IsDrained : GeometryNumbers → ℕ → Made → ℕ → ℕ → HandState → Type 0
IsDrained numbers actor t zero released h = IsEnd numbers actor t (Ok (answers.Count released)) h
IsDrained numbers actor t (suc left) released h = IsMove numbers actor t h (once_drained released left t.running)

-- A LAST STEP IS THE MACHINE'S TURN: the call ends as it is to end, except a drain that goes on
abbrev pub IsLast : GeometryNumbers → ℕ → Made → Ending → HandState → Type 0
IsLast numbers actor t (Drains draining) h = IsDrained numbers actor t draining.left draining.released h
IsLast numbers actor t how h = IsEnd numbers actor t (result_by how t.running) h
