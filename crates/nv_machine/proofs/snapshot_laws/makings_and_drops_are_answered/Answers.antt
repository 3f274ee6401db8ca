use Rattle.nv_machine.proofs.SnapAnswers.{dropped_told, made_told}
use Rattle.nv_machine.proofs.snapshot_laws.makings_and_drops_are_answered.Goals as goal

pub returns-clause-made : goal.returns-clause-made
returns-clause-made c g start records events actor granted r told is_start is next reply =
    made_told g start records events actor granted r is told is_start next reply

pub returns-clause-dropped : goal.returns-clause-dropped
returns-clause-dropped c g start records events actor snapshot granted r told is_start is next reply =
    dropped_told g start records events actor granted r is snapshot told is_start next reply
