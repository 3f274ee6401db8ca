use Rattle.std.proofs.Common.{ap, length}
use Rattle.std.proofs.iter.runs.Sources.{from_front}
use Rattle.std.specs.Map.Iter.{ShowsInOrder, TakesFirst}
use Rattle.nv_nindex.specs.NameIndex.{lent}
use Rattle.nv_nindex.proofs.Shown.{none_distinct}
use Rattle.nv_nindex.proofs.name_index.NameIndex.iter.Goals as goal

runs : ShowsInOrder lent
runs = from_front (TakesFirst lent) lent (λ s. s) (λ s t h. ap length h.0) (λ s x t h. h)

pub returns-in-Some-clause-runs : goal.returns-in-Some-clause-runs
returns-in-Some-clause-runs c = runs

pub returns-in-None-clause-runs : goal.returns-in-None-clause-runs
returns-in-None-clause-runs c = runs

pub returns-in-None-clause-distinct : goal.returns-in-None-clause-distinct
returns-in-None-clause-distinct c = none_distinct c.args.self.now (rw c.in-None.is at c.bound.ensures)
