use Rattle.nv_serial.specs.Serial.{new_serial}
use Rattle.nv_example_store.proofs.NewStores.{new_holds, new_shown}
use Rattle.nv_example_store.proofs.store.Store.new.Goals as goal

pub invariant_of-result : goal.invariant_of-result
invariant_of-result c = (
  new_serial c.args.geometry.numbers,
  c.in_ok-files.ensures.ok,
  new_holds c.args.geometry.numbers c.requires,
)

pub returns-clause-ok : goal.returns-clause-ok
returns-clause-ok c =
    new_shown c.in_ok-files.files c.args.geometry.numbers c.in_ok-files.ensures.ok
