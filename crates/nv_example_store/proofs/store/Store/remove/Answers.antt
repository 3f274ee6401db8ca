use Rattle.std.proofs.Common.{◌≡◌, true, ◌∙◌, sym}
use Rattle.nv_example_store.specs.Faults.{IsRemoveCause}
use Rattle.nv_example_store.specs.Stored.{IsCausedIn, store_in}
use Rattle.nv_example_store.specs.Values.{has_value, removed_in}
use Rattle.nv_example_store.proofs.StoreSteps.{Removes}
use Rattle.nv_example_store.proofs.Told.{both_ok, by_result, of_key, rests}
use Rattle.nv_example_store.proofs.store.Store.remove.Goals as goal

pub invariant_of-self : goal.invariant_of-self
invariant_of-self c =
    rests _ c.self.inside.files c.remove.new.files c.self.invariant c.remove.ensures

pub returns-clause-ok : goal.returns-clause-ok
returns-clause-ok c =
    rw (← c.self.view_is) (both_ok (has_value c.args.key.now (store_in c.self.inside.files).entries ≡ true) (store_in c.remove.new.files ≡ removed_in c.args.key.now (store_in c.self.inside.files)) c.remove.result (by_result (Removes c.args.key.now) (IsRemoveCause c.args.key.now) c.remove.result c.self.inside.files c.remove.new.files c.self.invariant c.remove.ensures).0).1

pub returns-clause-key : goal.returns-clause-key
returns-clause-key c =
    rw (← c.self.view_is) (both_ok (has_value c.args.key.now (store_in c.self.inside.files).entries ≡ true) (store_in c.remove.new.files ≡ removed_in c.args.key.now (store_in c.self.inside.files)) c.remove.result (by_result (Removes c.args.key.now) (IsRemoveCause c.args.key.now) c.remove.result c.self.inside.files c.remove.new.files c.self.invariant c.remove.ensures).0).0

pub returns-clause-err : goal.returns-clause-err
returns-clause-err c =
    rw (← c.self.view_is) (of_key (IsCausedIn (IsRemoveCause c.args.key.now) c.self.inside.files) c.args.key.now c.remove.result (sym c.may_be_key.ensures ∙ c.if-not-may_be_key.false)
    (by_result (Removes c.args.key.now) (IsRemoveCause c.args.key.now) c.remove.result c.self.inside.files c.remove.new.files c.self.invariant c.remove.ensures).1)

pub returns-clause-same : goal.returns-clause-same
returns-clause-same c =
    rw (← c.self.view_is) (by_result (Removes c.args.key.now) (IsRemoveCause c.args.key.now) c.remove.result c.self.inside.files c.remove.new.files c.self.invariant c.remove.ensures).2
