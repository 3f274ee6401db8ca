-- In which order a check tests its call.
use Rattle.std.specs.Prelude.{Option, Some, Ok, Err, not}
use Rattle.nv_base.specs.declared.fault.Fault.TheVariants.{NoInode}
use Rattle.nv_calls.specs.Refusals.{Check as Tests, passes}
use Rattle.nv_calls.specs.Rules.{Rule, rule}
use Rattle.nv_machine.specs.Sequence.{beginning}
use Rattle.nv_machine.specs.Step.{is_numbered}
use Rattle.nv_machine.specs.World.{Ending, HandState, BoundAnew, Refuses, Running}

-- what the ending of a check refuses its call for
abbrev pub tests_of : Option Ending → Tests
tests_of (Some (Refuses fault)) = Err fault
tests_of other = passes

-- a call that needs a number and has none
abbrev pub number_rule : HandState → Running → Rule
number_rule h r = rule NoInode (not (is_numbered (beginning r.call) h.ino))

-- a call whose names were bound anew: it is refused by their tests, or its round has failed
abbrev pub bound_anew : Tests → Ending
bound_anew (Err fault) = Refuses fault
bound_anew (Ok passed) = BoundAnew
