use Rattle.std.proofs.Common.{arith}
use Rattle.nv_book.proofs.Series.{rest-none, rest-some}
use Rattle.nv_book.proofs.run.RecordRun.rest.Goals as goal

pub returns-then-self-eq0-clause-records : goal.returns-then-self-eq0-clause-records
returns-then-self-eq0-clause-records c runs = let none = c.if-self-eq0.true in rest-none c.args.self runs (omega (arith, none))

pub returns-clause-records : goal.returns-clause-records
returns-clause-records c runs = let some = c.if-self-eq0.false in rw c.cut.ensures (rest-some c.args.self runs (omega (arith, some)))
