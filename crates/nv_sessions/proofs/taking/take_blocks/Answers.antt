use Rattle.std.proofs.Common.{◌∙◌}
use Rattle.nv_base.specs.declared.fault.MismatchPart.TheVariants as part
use Rattle.nv_sessions.proofs.Turns.{misfit_keeps, turned_out}
use Rattle.nv_sessions.proofs.taking.take_blocks.Goals as goal

pub returns-in_err-left-clause-short : goal.returns-in_err-left-clause-short
returns-in_err-left-clause-short g c =
    let old = c.args.asking.now.turn in
    turned_out c.from_residual.result _ old c.take_here.new.asking.turn c.from_residual.ensures.1
    (c.take_here.ensures.turn ∙ c.loop.invariant.turn ∙ misfit_keeps _ part.Lists c.in_err-left.ensures.err old)
