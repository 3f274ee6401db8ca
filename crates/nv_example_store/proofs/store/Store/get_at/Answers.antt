use Rattle.std.proofs.Common.{List, Option, ℕ, ◌∙◌, sym}
use Rattle.nv_base.specs.declared.fault.Fault.{Fault}
use Rattle.nv_example_store.specs.Faults.{IsBackupFault}
use Rattle.nv_example_store.specs.Stored.{store_in}
use Rattle.nv_example_store.specs.Values.{IsBackupValue, StoreValue}
use Rattle.nv_example_store.proofs.Told.{finds, of_key, rests}
use Rattle.nv_example_store.proofs.store.Store.get_at.Goals as goal

pub invariant_of-self : goal.invariant_of-self
invariant_of-self c =
    rests _ c.self.inside.files c.get_at.new.files c.self.invariant c.get_at.ensures

pub returns-clause-ok : goal.returns-clause-ok
returns-clause-ok c =
    rw (← c.self.view_is) (finds (λ (store : StoreValue) (found : Option (List ℕ)). IsBackupValue store.backups c.args.backup c.args.key.now found) (λ (store : StoreValue) (why : Fault). IsBackupFault c.args.backup store.backups why) c.get_at.result c.self.inside.files c.get_at.new.files c.self.invariant c.get_at.ensures).0

pub returns-clause-err : goal.returns-clause-err
returns-clause-err c =
    rw (← c.self.view_is) (of_key (IsBackupFault c.args.backup (store_in c.self.inside.files).backups) c.args.key.now c.get_at.result (sym c.may_be_key.ensures ∙ c.if-not-may_be_key.false)
    (finds (λ (store : StoreValue) (found : Option (List ℕ)). IsBackupValue store.backups c.args.backup c.args.key.now found) (λ (store : StoreValue) (why : Fault). IsBackupFault c.args.backup store.backups why) c.get_at.result c.self.inside.files c.get_at.new.files c.self.invariant c.get_at.ensures).1)

pub returns-clause-same : goal.returns-clause-same
returns-clause-same c =
    rw (← c.self.view_is) (finds (λ (store : StoreValue) (found : Option (List ℕ)). IsBackupValue store.backups c.args.backup c.args.key.now found) (λ (store : StoreValue) (why : Fault). IsBackupFault c.args.backup store.backups why) c.get_at.result c.self.inside.files c.get_at.new.files c.self.invariant c.get_at.ensures).2
