use Rattle.std.proofs.Common.{◌≡◌, List, ℕ}
use Rattle.nv_base.specs.Memory.{out_of_memory}
use Rattle.nv_base.specs.declared.fault.Fault.{Fault}
use Rattle.nv_example_store.specs.Values.{StoreValue, keys_of}
use Rattle.nv_example_store.proofs.Told.{finds, rests}
use Rattle.nv_example_store.proofs.store.Store.keys.Goals as goal

pub invariant_of-self : goal.invariant_of-self
invariant_of-self c =
    rests _ c.self.inside.files c.keys.new.files c.self.invariant c.keys.ensures

pub returns-clause-ok : goal.returns-clause-ok
returns-clause-ok c =
    rw (← c.self.view_is) (finds (λ (store : StoreValue) (found : List (List ℕ)). found ≡ keys_of store.entries) (λ (store : StoreValue) (why : Fault). why ≡ out_of_memory) c.keys.result c.self.inside.files c.keys.new.files c.self.invariant c.keys.ensures).0

pub returns-clause-err : goal.returns-clause-err
returns-clause-err c =
    (finds (λ (store : StoreValue) (found : List (List ℕ)). found ≡ keys_of store.entries) (λ (store : StoreValue) (why : Fault). why ≡ out_of_memory) c.keys.result c.self.inside.files c.keys.new.files c.self.invariant c.keys.ensures).1

pub returns-clause-same : goal.returns-clause-same
returns-clause-same c =
    rw (← c.self.view_is) (finds (λ (store : StoreValue) (found : List (List ℕ)). found ≡ keys_of store.entries) (λ (store : StoreValue) (why : Fault). why ≡ out_of_memory) c.keys.result c.self.inside.files c.keys.new.files c.self.invariant c.keys.ensures).2
