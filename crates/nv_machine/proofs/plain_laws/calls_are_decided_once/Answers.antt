use Rattle.nv_machine.proofs.DecidedRuns.{commits_something, is_decided, is_undecided}
use Rattle.nv_machine.proofs.plain_laws.calls_are_decided_once.Goals as goal

pub returns-clause-done : goal.returns-clause-done
returns-clause-done c =
    λ g start records events actor granted r told is_start. is_decided g start records events actor is_start granted r told

pub returns-clause-refused : goal.returns-clause-refused
returns-clause-refused c =
    λ g start records events actor granted r fault is_start. is_undecided g start records events actor is_start granted r fault

pub returns-clause-something : goal.returns-clause-something
returns-clause-something c =
    λ g start records events actor granted r is_start. commits_something g start records events actor is_start granted r
