use Rattle.std.proofs.Common.{subst}
use Rattle.nv_nindex.specs.NameIndex.{AreDistinct, Names}
use Rattle.nv_nindex.proofs.Shown.{distinct_shown}
use Rattle.nv_nindex.proofs.bound_names.BoundNames.len.Goals as goal

pub returns-clause-distinct : goal.returns-clause-distinct
returns-clause-distinct c =
    subst (λ (v : Names). AreDistinct v.names) c.self.view_is (distinct_shown c.self.inside.bindings.entries c.len.ensures.unique)
