use Rattle.std.proofs.Common.{◌≡◌, Some}
use Rattle.nv_steps.proofs.VisitTurns.{none_lent, visits_lent}
use Rattle.nv_steps.proofs.reading.visit.Goals as goal

pub returns-in-Some : goal.returns-in-Some
returns-in-Some c = record {
  turn = λ numbers actor r next call none range own.
      let is = c.in-Some.is in
      let cell = c.in-Some.cell-is in
      let lent : c.args.cell ≡ Some c.in-Some.cell = cc in
      visits_lent numbers actor r c.args.call c.args.ino next call none c.requires.visit c.requires.ino (λ cell. cell.now) c.args.cell
      c.in-Some.cell c.view_on.result lent own c.view_on.ensures;
}

pub returns-in-None : goal.returns-in-None
returns-in-None c = record {
  turn = λ numbers actor r next call none range own.
      none_lent numbers actor r c.args.call c.args.ino next call none c.requires.visit c.requires.ino (λ cell. cell.now) c.args.cell
      c.in-None.is range;
}
