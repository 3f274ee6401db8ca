-- What a judge of parts tells.
use Rattle.std.specs.Prelude.{◌≡◌, Bool, Option, Some, not}
use Rattle.nv_base.specs.declared.fault.Fault.{Fault}
use Rattle.nv_base.specs.declared.fault.Fault.TheVariants.{Mismatch}
use Rattle.nv_base.specs.declared.fault.MismatchPart.{MismatchPart}

-- what contracts see of the judge of parts
pub record JudgeValue : Type 0 where
  -- a turn, which is another one each time that a part is found to differ
  pub turn : Bool
  -- the part that was found to differ last, if one was
  pub found : Option MismatchPart

-- the judge once parts were refused by this fault
abbrev pub after_refusal : Fault → JudgeValue → JudgeValue
after_refusal (Mismatch part) judge = record { turn = not judge.turn; found = Some part }
after_refusal other judge = judge

-- A DIFFERENCE WAS FOUND by the judge since. Example: a user lets the cells of two files change
-- places through their guards. The service does not close, by `Mismatch(lists)`. Once they have
-- changed back, it does. Example: a service opens on a world of 3 commits. Session 0 writes a
-- file, session 1 another one. Each has one commit, and receipts have the numbers 4 and 5, in one
-- order or the other. Closed, the world has 3 + 1 + 1 commits.
abbrev pub IsFound : JudgeValue → JudgeValue → Fault → Type 0
IsFound old new (Mismatch part) = (new.turn ≡ not old.turn) × (new.found ≡ Some part)
IsFound old new other = Unit {0}
