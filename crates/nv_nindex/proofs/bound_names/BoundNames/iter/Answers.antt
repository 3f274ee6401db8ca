use Rattle.std.proofs.Common.{subst}
use Rattle.nv_nindex.specs.NameIndex.{AreDistinct, AreLawful, Names}
use Rattle.nv_nindex.proofs.Order.{lawful_all}
use Rattle.nv_nindex.proofs.Shown.{distinct_shown}
use Rattle.nv_nindex.proofs.bound_names.BoundNames.iter.Goals as goal

pub returns-clause-distinct : goal.returns-clause-distinct
returns-clause-distinct c =
    subst (λ (v : Names). AreDistinct v.names) c.self.view_is (distinct_shown c.self.inside.bindings.entries c.iter.ensures.unique)

pub returns-clause-lawful : goal.returns-clause-lawful
returns-clause-lawful c = subst (λ (v : Names). AreLawful v.names) c.self.view_is (lawful_all _ c.self.invariant.lawful)
