use Rattle.std.proofs.Common.{◌≡◌, List, Option, ℕ, ◌∙◌, sym}
use Rattle.nv_base.specs.Memory.{out_of_memory}
use Rattle.nv_base.specs.declared.fault.Fault.{Fault}
use Rattle.nv_example_store.specs.Values.{StoreValue, value_of}
use Rattle.nv_example_store.proofs.Told.{finds, of_key, rests}
use Rattle.nv_example_store.proofs.store.Store.get.Goals as goal

pub invariant_of-self : goal.invariant_of-self
invariant_of-self c =
    rests _ c.self.inside.files c.get.new.files c.self.invariant c.get.ensures

pub returns-clause-ok : goal.returns-clause-ok
returns-clause-ok c =
    rw (← c.self.view_is) (finds (λ (store : StoreValue) (found : Option (List ℕ)). found ≡ value_of c.args.key.now store.entries) (λ (store : StoreValue) (why : Fault). why ≡ out_of_memory) c.get.result c.self.inside.files c.get.new.files c.self.invariant c.get.ensures).0

pub returns-clause-err : goal.returns-clause-err
returns-clause-err c =
    of_key (λ (why : Fault). why ≡ out_of_memory) c.args.key.now c.get.result (sym c.may_be_key.ensures ∙ c.if-not-may_be_key.false)
    (finds (λ (store : StoreValue) (found : Option (List ℕ)). found ≡ value_of c.args.key.now store.entries) (λ (store : StoreValue) (why : Fault). why ≡ out_of_memory) c.get.result c.self.inside.files c.get.new.files c.self.invariant c.get.ensures).1

pub returns-clause-same : goal.returns-clause-same
returns-clause-same c =
    rw (← c.self.view_is) (finds (λ (store : StoreValue) (found : Option (List ℕ)). found ≡ value_of c.args.key.now store.entries) (λ (store : StoreValue) (why : Fault). why ≡ out_of_memory) c.get.result c.self.inside.files c.get.new.files c.self.invariant c.get.ensures).2
