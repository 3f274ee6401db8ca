use Rattle.nv_audit.proofs.names.unbind.Goals as goal

pub returns : goal.returns
returns c = λ other. c.remove.ensures.updates.0 (record c.args.name { now = other })
