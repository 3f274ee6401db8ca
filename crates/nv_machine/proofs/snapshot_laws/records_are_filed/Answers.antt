use Rattle.nv_machine.proofs.WorldFacts.{are_deferred, are_listed, recorded_once, recorded_pairs}
use Rattle.nv_machine.proofs.snapshot_laws.records_are_filed.Goals as goal

pub returns-clause-list : goal.returns-clause-list
returns-clause-list c = are_listed

pub returns-clause-deferred : goal.returns-clause-deferred
returns-clause-deferred c = are_deferred

pub returns-clause-once : goal.returns-clause-once
returns-clause-once c = recorded_once

pub returns-clause-pairs : goal.returns-clause-pairs
returns-clause-pairs c = recorded_pairs
