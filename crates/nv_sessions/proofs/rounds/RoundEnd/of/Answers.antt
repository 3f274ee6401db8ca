use Rattle.std.proofs.Common.{subst}
use Rattle.std.specs.Prelude.{Result}
use Rattle.nv_calls.specs.Commit.{ReceiptValue}
use Rattle.nv_sessions.specs.Changing.{IsOfCall}
use Rattle.nv_sessions.specs.Rounds.{IsEndedBy}
use Rattle.nv_sessions.specs.declared.change.ChangeEnd.{ChangeEnd}
use Rattle.nv_sessions.proofs.SeatCalls.{held_alike}
use Rattle.nv_sessions.proofs.rounds.RoundEnd.of.Goals as goal

pub returns-in-Err-Answers-clause-ended : goal.returns-in-Err-Answers-clause-ended
returns-in-Err-Answers-clause-ended c opening before after u ended same =
    let is = subst (λ (end : Result ReceiptValue ChangeEnd). IsEndedBy opening before after u end) c.in-Err-Answers.is ended in
    (subst (λ (end : ChangeEnd). IsOfCall u end) c.in-Err-Answers.field-0-is is.1, same, held_alike before after is.0)
