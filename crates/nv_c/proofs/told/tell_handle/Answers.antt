use Rattle.std.proofs.Common.{ap, sym}
use Rattle.nv_calls.specs.declared.answer.Answer.TheVariants as answers
use Rattle.nv_base.specs.declared.numbers.Handle.{Handle}
use Rattle.nv_c.proofs.Statuses.{starved_err, starved_ok}
use Rattle.nv_c.proofs.told.tell_handle.Goals as goal

pub returns-in-Ok-clause-told : goal.returns-in-Ok-clause-told
returns-in-Ok-clause-told c = λ call old new leads.
    starved_ok c.args.outcome call (λ (v : Handle). answers.Made v) _ old new c.in-Ok.handle c.in-Ok.is (ap (λ (v : Handle). answers.Made v) (sym c.of.ensures)) leads

pub returns-in-Err-clause-told : goal.returns-in-Err-clause-told
returns-in-Err-clause-told c = λ call old new leads.
    starved_err c.args.outcome call (λ (v : Handle). answers.Made v) _ old new c.in-Err.fault c.number_of.result c.in-Err.is c.number_of.ensures.number leads
