use Rattle.std.proofs.Common.{arith}
use Rattle.nv_cell.proofs.PartEnds.{goes_on}
use Rattle.nv_cell.proofs.part_ends.EvenRun.with.Goals as goal

pub returns-then-end-start-2 : goal.returns-then-end-start-2
returns-then-end-start-2 c =
    goes_on c.args.self c.args.ends.now c.args.end c.requires.even
    (omega (arith, c.if-end-start.true, c.if-end-start-2.true, c.requires.start)) (omega (arith, c.ranges.end.fits))
