use Rattle.nv_script.proofs.Acting.{audited}
use Rattle.nv_script.proofs.act.act.Goals as goal

pub returns-in-Audit-clause-acts : goal.returns-in-Audit-clause-acts
returns-in-Audit-clause-acts g c =
    audited c.audit.result g.T.CommandTeller.form c.args.number c.args.world.now c.args.command c.audit.new.out.items
    c.requires.form c.in-Audit.is c.audit.ensures
