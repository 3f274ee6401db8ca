use Rattle.std.proofs.Common.{Bor, option_map}
use Rattle.nv_cell.specs.declared.cell.InodeCell.{InodeCell}
use Rattle.nv_steps.proofs.Looks.{bytes_in}
use Rattle.nv_steps.proofs.VisitTurns.{shows, whole_in}
use Rattle.nv_steps.proofs.reading.show.Goals as goal

pub returns-clause-turn : goal.returns-clause-turn
returns-clause-turn c numbers actor h r next range whole =
    shows numbers actor h r c.args.snapshot c.args.showing (λ cell. cell.now) c.args.cell next c.visit.result range
    (c.visit.ensures.ok (bytes_in (option_map (λ (cell : Bor InodeCell). cell.now) c.args.cell))
    (whole_in c.args.snapshot (λ cell. cell.now) c.args.cell whole)) c.visit.ensures.err
