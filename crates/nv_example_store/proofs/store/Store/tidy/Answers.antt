use Rattle.nv_example_store.proofs.Told.{rests, tidied_by}
use Rattle.nv_example_store.proofs.store.Store.tidy.Goals as goal

pub invariant_of-self : goal.invariant_of-self
invariant_of-self c =
    rests _ c.self.inside.files c.tidy.new.files c.self.invariant c.tidy.ensures

pub returns-clause-same : goal.returns-clause-same
returns-clause-same c =
    rw (← c.self.view_is) (tidied_by c.tidy.result c.self.inside.files c.tidy.new.files c.self.invariant c.tidy.ensures).2

pub returns-clause-ok : goal.returns-clause-ok
returns-clause-ok c =
    rw (← c.self.view_is) (tidied_by c.tidy.result c.self.inside.files c.tidy.new.files c.self.invariant c.tidy.ensures).0

pub returns-clause-err : goal.returns-clause-err
returns-clause-err c =
    rw (← c.self.view_is) (tidied_by c.tidy.result c.self.inside.files c.tidy.new.files c.self.invariant c.tidy.ensures).1
