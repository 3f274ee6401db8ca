use Rattle.std.specs.Prelude.{◌++◌}
use Rattle.nv_machine.proofs.DrainRuns.{none_left}
use Rattle.nv_machine.proofs.NeededBlocks.{needed_alone}
use Rattle.nv_machine.proofs.snapshot_laws.drained_worlds_use_what_is_needed.Goals as goal

pub returns-clause-rest : goal.returns-clause-rest
returns-clause-rest c g start records events cpu is_start inside at_rest none =
    needed_alone g start records events is_start at_rest none cpu inside

pub returns-clause-drained : goal.returns-clause-drained
returns-clause-drained c g start records before events is_start at_rest apart enough = none_left start before events at_rest apart enough

pub returns-clause-lists : goal.returns-clause-lists
returns-clause-lists c g start records before events cpu is_start inside at_rest apart enough now =
    needed_alone g start records (before ++ events) is_start now (none_left start before events at_rest apart enough) cpu inside
