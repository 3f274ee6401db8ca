use Rattle.nv_effects.specs.Causes.{IsSnapCause}
use Rattle.nv_example_store.specs.Values.{IsBackedUp}
use Rattle.nv_example_store.proofs.Told.{by_result, rests}
use Rattle.nv_example_store.proofs.store.Store.backup.Goals as goal

pub invariant_of-self : goal.invariant_of-self
invariant_of-self c =
    rests _ c.self.inside.files c.backup.new.files c.self.invariant c.backup.ensures

pub returns-clause-ok : goal.returns-clause-ok
returns-clause-ok c =
    rw (← c.self.view_is) (by_result IsBackedUp IsSnapCause c.backup.result c.self.inside.files c.backup.new.files c.self.invariant c.backup.ensures).0

pub returns-clause-err : goal.returns-clause-err
returns-clause-err c =
    rw (← c.self.view_is) (by_result IsBackedUp IsSnapCause c.backup.result c.self.inside.files c.backup.new.files c.self.invariant c.backup.ensures).1

pub returns-clause-same : goal.returns-clause-same
returns-clause-same c =
    rw (← c.self.view_is) (by_result IsBackedUp IsSnapCause c.backup.result c.self.inside.files c.backup.new.files c.self.invariant c.backup.ensures).2
