use Rattle.nv_machine.proofs.OwnSteps.{met_cause}
use Rattle.nv_machine.proofs.refusal_laws.refused_calls_met_their_cause.Goals as goal

pub returns : goal.returns
returns c = λ g start records events actor granted r fault is_start. met_cause g start records events actor is_start granted r fault
