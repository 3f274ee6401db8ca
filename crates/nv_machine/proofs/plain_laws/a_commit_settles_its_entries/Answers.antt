use Rattle.nv_machine.proofs.UnsettledRuns.{events_grown, new_grown}
use Rattle.nv_machine.proofs.UnsettledTurns.{point_settles}
use Rattle.nv_machine.proofs.StartParts.{first_grown}
use Rattle.nv_machine.proofs.plain_laws.a_commit_settles_its_entries.Goals as goal

pub returns-clause-new : goal.returns-clause-new
returns-clause-new c = new_grown

pub returns-clause-start : goal.returns-clause-start
returns-clause-start c = first_grown

pub returns-clause-stays : goal.returns-clause-stays
returns-clause-stays c = events_grown

pub returns-clause-settles : goal.returns-clause-settles
returns-clause-settles c = point_settles
