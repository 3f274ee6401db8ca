use Rattle.std.proofs.Common.{◌∙◌, Bool, ap}
use Rattle.nv_base.specs.declared.fault.MismatchPart.TheVariants as part
use Rattle.nv_sessions.specs.Asking.{turned_in}
use Rattle.nv_sessions.specs.Refusing.{IsWant}
use Rattle.nv_sessions.proofs.OtherRefusals.{exits}
use Rattle.nv_sessions.proofs.Refusals.{either_wants, memory_wants, space_wants}
use Rattle.nv_sessions.proofs.Turns.{memory_keeps, turned_out}
use Rattle.nv_sessions.proofs.taking.take_all.Goals as goal

pub returns-in_err-make_room-clause-err : goal.returns-in_err-make_room-clause-err
returns-in_err-make_room-clause-err g c =
    exits IsWant c.from_residual.result _ c.from_residual.ensures.1 (memory_wants _ c.in_err-make_room.ensures.err.0)

pub returns-in_err-take_blocks-clause-err : goal.returns-in_err-take_blocks-clause-err
returns-in_err-take_blocks-clause-err g c =
    exits IsWant c.from_residual-in_err-take_blocks.result _ c.from_residual-in_err-take_blocks.ensures.1
    (space_wants _ part.Lists c.in_err-take_blocks.ensures.err)

pub returns-clause-err : goal.returns-clause-err
returns-clause-err g c = either_wants c.take_blocks-2.result part.Lists c.take_blocks-2.ensures.err

pub returns-in_err-make_room-clause-short : goal.returns-in_err-make_room-clause-short
returns-in_err-make_room-clause-short g c =
    let old = c.args.asking.now.turn in
    turned_out c.from_residual.result _ old old c.from_residual.ensures.1 (memory_keeps _ c.in_err-make_room.ensures.err.0 old)

pub returns-in_err-take_blocks-clause-short : goal.returns-in_err-take_blocks-clause-short
returns-in_err-take_blocks-clause-short g c =
    let exit = c.from_residual-in_err-take_blocks in
    turned_out exit.result _ c.args.asking.now.turn c.take_blocks.new.asking.turn exit.ensures.1 c.in_err-take_blocks.ensures.short

pub returns-clause-short : goal.returns-clause-short
returns-clause-short g c =
    c.take_blocks-2.ensures.short ∙ ap (λ (turn : Bool). turned_in c.take_blocks-2.result turn) c.in_ok-take_blocks.ensures.short
