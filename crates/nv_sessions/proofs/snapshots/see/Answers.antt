use Rattle.std.proofs.Common.{rules, ◌≡◌, ◌∙◌, sym}
use Rattle.nv_reader.specs.Showing.{visited}
use Rattle.nv_sessions.proofs.OtherRefusals.{exit_is}
use Rattle.nv_sessions.proofs.ShowTurns.{finds, wants}
use Rattle.nv_sessions.proofs.snapshots.see.Goals as goal

pub returns-in_err-node-clause-cell : goal.returns-in_err-node-clause-cell
returns-in_err-node-clause-cell c numbers inside =
    wants numbers c.args.snapshot c.args.showing c.args.cell.now c.requires.more inside c.from_residual.result _
    (exit_is c.from_residual.result _ c.from_residual.ensures.1) c.in_err-node.ensures.err

pub returns-clause-cell : goal.returns-clause-cell
returns-clause-cell c numbers inside =
    let same : (visited c.args.showing.visits).generation ≡ c.args.cell.now.state.generation = search rules in
    let node = c.in-Some.node in
    finds numbers c.args.snapshot c.args.showing c.args.cell.now c.requires.more inside node c.see.result same
    (sym c.in-Some.is ∙ c.in_ok-node.ensures.own) (λ bytes are there. sym c.in-Some.is ∙ c.in_ok-node.ensures.node bytes are there)
    c.see.ensures.ok c.see.ensures.err
