use Rattle.nv_machine.proofs.RoundsOfLooks.{eight_failed, events_rounds, start_rounds}
use Rattle.nv_machine.proofs.plain_laws.contended_calls_have_failed_eight_checks.Goals as goal

pub returns-clause-starts : goal.returns-clause-starts
returns-clause-starts c = start_rounds

pub returns-clause-fails : goal.returns-clause-fails
returns-clause-fails c = events_rounds

pub returns-clause-eight : goal.returns-clause-eight
returns-clause-eight c = eight_failed
