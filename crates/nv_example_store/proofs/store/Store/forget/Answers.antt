use Rattle.nv_base.specs.declared.fault.Fault.{Fault}
use Rattle.nv_example_store.specs.Faults.{IsForgetCause}
use Rattle.nv_example_store.specs.Values.{StoreValue}
use Rattle.nv_example_store.proofs.Backups.{ForgetFails, Forgets}
use Rattle.nv_example_store.proofs.Told.{by_result, cause_shown, rests}
use Rattle.nv_example_store.proofs.store.Store.forget.Goals as goal

pub invariant_of-self : goal.invariant_of-self
invariant_of-self c =
    rests _ c.self.inside.files c.forget.new.files c.self.invariant c.forget.ensures

pub returns-clause-ok : goal.returns-clause-ok
returns-clause-ok c =
    rw (← c.self.view_is) (by_result (Forgets c.args.backup) (ForgetFails c.args.backup) c.forget.result c.self.inside.files c.forget.new.files c.self.invariant c.forget.ensures).0

pub returns-clause-err : goal.returns-clause-err
returns-clause-err c =
    rw (← c.self.view_is) (cause_shown (λ (v : StoreValue) (why : Fault). IsForgetCause c.args.backup v.backups why) c.forget.result
    c.self.inside.files c.self.invariant (by_result (Forgets c.args.backup) (ForgetFails c.args.backup) c.forget.result c.self.inside.files c.forget.new.files c.self.invariant c.forget.ensures).1)

pub returns-clause-same : goal.returns-clause-same
returns-clause-same c =
    rw (← c.self.view_is) (by_result (Forgets c.args.backup) (ForgetFails c.args.backup) c.forget.result c.self.inside.files c.forget.new.files c.self.invariant c.forget.ensures).2
