use Rattle.std.proofs.Common.{arith}
use Rattle.nv_cell.specs.Cell.{log_of}
use Rattle.nv_cell.specs.Fields.{state_in}
use Rattle.nv_cell.proofs.Weighing.{kills_are_few, weights_are, weights_were}
use Rattle.nv_cell.proofs.cell.InodeCell.most_killed.Goals as goal

pub returns-clause-value : goal.returns-clause-value
returns-clause-value c =
    let i = c.self.inside in
    let inv = c.self.invariant in
    let distinct = c.most_killed.ensures.distinct in
    let items = c.args.items.now in
    let log = log_of (state_in i) in
    rw (← c.self.view_is)
    (omega (
      arith,
      c.most_killed.ensures.value,
      weights_are i.block log i.index items inv.refs inv.names distinct,
      weights_were i.block log i.index items inv.refs inv.names distinct,
    ))

pub returns-clause-most : goal.returns-clause-most
returns-clause-most c =
    let i = c.self.inside in
    let inv = c.self.invariant in
    let items = c.args.items.now in
    let log = log_of (state_in i) in
    rw (← c.self.view_is)
    (omega (
      arith,
      c.most_killed.ensures.value,
      weights_were i.block log i.index items inv.refs inv.names c.most_killed.ensures.distinct,
      kills_are_few i.block log items,
    ))
