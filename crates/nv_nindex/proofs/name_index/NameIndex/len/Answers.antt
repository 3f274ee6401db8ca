use Rattle.nv_nindex.proofs.Shown.{none_distinct}
use Rattle.nv_nindex.proofs.name_index.NameIndex.len.Goals as goal

pub returns-in-None-clause-distinct : goal.returns-in-None-clause-distinct
returns-in-None-clause-distinct c = none_distinct c.args.self.now (rw c.in-None.is at c.bound.ensures)
