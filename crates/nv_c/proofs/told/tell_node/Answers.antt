use Rattle.std.proofs.Common.{sym}
use Rattle.nv_calls.specs.declared.answer.Answer.TheVariants as answers
use Rattle.nv_files.specs.declared.answers.Stat.{Stat}
use Rattle.nv_c.proofs.Statuses.{tells_err, tells_ok}
use Rattle.nv_c.proofs.told.tell_node.Goals as goal

pub returns-in-Ok-clause-told : goal.returns-in-Ok-clause-told
returns-in-Ok-clause-told c = λ call old new leads.
    tells_ok c.args.outcome call (λ (v : Stat). answers.Stat v.kind v.mode v.size v.commit) _ old new c.in-Ok.stat c.in-Ok.is (sym c.of_stat.ensures.told) leads

pub returns-in-Err-clause-told : goal.returns-in-Err-clause-told
returns-in-Err-clause-told c = λ call old new leads.
    tells_err c.args.outcome call (λ (v : Stat). answers.Stat v.kind v.mode v.size v.commit) _ old new c.in-Err.fault c.number_of.result c.in-Err.is c.number_of.ensures.number leads
