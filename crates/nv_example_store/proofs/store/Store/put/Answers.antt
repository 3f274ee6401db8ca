use Rattle.std.proofs.Common.{◌∙◌, sym}
use Rattle.nv_example_store.specs.Faults.{IsPutCause}
use Rattle.nv_example_store.specs.Stored.{IsCausedIn}
use Rattle.nv_example_store.proofs.StoreSteps.{Puts}
use Rattle.nv_example_store.proofs.Told.{by_result, of_key, rests}
use Rattle.nv_example_store.proofs.store.Store.put.Goals as goal

pub invariant_of-self : goal.invariant_of-self
invariant_of-self c =
    rests _ c.self.inside.files c.put.new.files c.self.invariant c.put.ensures

pub returns-clause-ok : goal.returns-clause-ok
returns-clause-ok c =
    rw (← c.self.view_is) (by_result (Puts c.args.key.now c.args.value.now) (IsPutCause c.args.key.now c.args.value.now) c.put.result c.self.inside.files c.put.new.files c.self.invariant c.put.ensures).0

pub returns-clause-err : goal.returns-clause-err
returns-clause-err c =
    rw (← c.self.view_is) (of_key (IsCausedIn (IsPutCause c.args.key.now c.args.value.now) c.self.inside.files) c.args.key.now c.put.result (sym c.may_be_key.ensures ∙ c.if-not-may_be_key.false)
    (by_result (Puts c.args.key.now c.args.value.now) (IsPutCause c.args.key.now c.args.value.now) c.put.result c.self.inside.files c.put.new.files c.self.invariant c.put.ensures).1)

pub returns-clause-same : goal.returns-clause-same
returns-clause-same c =
    rw (← c.self.view_is) (by_result (Puts c.args.key.now c.args.value.now) (IsPutCause c.args.key.now c.args.value.now) c.put.result c.self.inside.files c.put.new.files c.self.invariant c.put.ensures).2
