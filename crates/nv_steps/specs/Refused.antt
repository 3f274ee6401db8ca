-- For what the turns of a run refused its call, and the causes.
use Rattle.std.specs.Prelude.{◌≡◌, ℕ, List, [], ◌∷◌, ◌++◌}
use Rattle.std.specs.List.{AllByRecursion}
use Rattle.nv_base.specs.declared.fault.Fault.{Fault}
use Rattle.nv_base.specs.declared.geometry.GeometryNumbers.{GeometryNumbers}
use Rattle.nv_machine.specs.Causes.{IsCause, IsRoundless}
use Rattle.nv_machine.specs.OwnSteps.{fault_of}
use Rattle.nv_machine.specs.Reads.{copies}
use Rattle.nv_machine.specs.World.{BoundAnew, Ending, Refuses, Shared}
use Rattle.nv_steps.specs.Parts.{Has, IsOf}
use Rattle.nv_steps.specs.Turns.{Made}

-- ---- for what they refused it

-- a turn refuses a call that was not refused before: the fault, by how the call was to end and what is told behind the turn
abbrev pub refused_by : Ending → List Fault → List Fault
refused_by (Refuses fault) told = []
refused_by other told = told

-- the faults for which these turns, the last one first, refused a call that is to end so behind them
abbrev pub refused_for : List Made → Ending → List Fault
refused_for [] after = []
refused_for (t ∷ before) after = refused_by t.running.ending (fault_of after) ++ refused_for before t.running.ending

-- ---- their causes

-- the cause of a fault is there in a shared state, by how the call was to end: no round of looks is left to one that was
-- overtaken, and else it is one of the step
abbrev pub IsCauseIn : Ending → GeometryNumbers → ℕ → Made → Shared → Fault → Type 0
IsCauseIn BoundAnew numbers actor t s fault = IsRoundless t.running fault
IsCauseIn other numbers actor t s fault =
    IsCause t.running.next numbers.block actor t.granted (copies s) s t.hand t.running fault

-- it was there in what the turn found, whatever the other parts are
abbrev pub HadCause : GeometryNumbers → ℕ → Made → Fault → Type 0
HadCause numbers actor t fault = (s : Shared) → IsOf numbers s → Has s t.found → IsCauseIn t.running.ending numbers actor t s fault

-- each fault for which one of these turns refused the call had its cause there
abbrev pub HadCauses : GeometryNumbers → ℕ → List Made → Ending → Type 0
HadCauses numbers actor [] after = Unit {0}
HadCauses numbers actor (t ∷ before) after =
    AllByRecursion (HadCause numbers actor t) (refused_by t.running.ending (fault_of after))
    × HadCauses numbers actor before t.running.ending

-- ---- a run that ends refused

-- EXACTLY ONE TURN REFUSED THE CALL, for this fault, whose cause was there.
-- Example: a `drop` of a snapshot that is pinned is one turn, whose cause is in the book that it found.
pub record IsRefusedOnce (numbers : GeometryNumbers) (actor : ℕ) (turns : List Made) (last : Made) (fault : Fault) : Type 0 where
  -- the faults for which its turns refused it
  pub once : refused_by last.running.ending (fault ∷ []) ++ refused_for turns last.running.ending ≡ fault ∷ []
  -- the cause, if the last turn refused it
  pub last_caused : AllByRecursion (HadCause numbers actor last) (refused_by last.running.ending (fault ∷ []))
  -- the cause, if a turn before did
  pub caused : HadCauses numbers actor turns last.running.ending
