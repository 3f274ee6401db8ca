use Rattle.std.proofs.Common.{refl}
use Rattle.nv_c.proofs.Statuses.{starved_err, starved_ok, tells_err, tells_ok}
use Rattle.nv_c.proofs.told.tell_done.Goals as goal

pub returns-in-Ok-clause-told : goal.returns-in-Ok-clause-told
returns-in-Ok-clause-told c = λ call answer old new leads.
    tells_ok c.args.outcome call (λ (v : Unit {0}). answer) answer old new tt c.in-Ok.is refl leads

pub returns-in-Err-clause-told : goal.returns-in-Err-clause-told
returns-in-Err-clause-told c = λ call answer old new leads.
    tells_err c.args.outcome call (λ (v : Unit {0}). answer) answer old new c.in-Err.fault c.number_of.result c.in-Err.is c.number_of.ensures.number leads

pub returns-in-Ok-clause-starved : goal.returns-in-Ok-clause-starved
returns-in-Ok-clause-starved c = λ call answer old new leads.
    starved_ok c.args.outcome call (λ (v : Unit {0}). answer) answer old new tt c.in-Ok.is refl leads

pub returns-in-Err-clause-starved : goal.returns-in-Err-clause-starved
returns-in-Err-clause-starved c = λ call answer old new leads.
    starved_err c.args.outcome call (λ (v : Unit {0}). answer) answer old new c.in-Err.fault c.number_of.result c.in-Err.is c.number_of.ensures.number leads
