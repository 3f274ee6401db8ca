-- What new files hold.
use Rattle.std.proofs.Common.{◌≡◌, ◌≤◌, [], arith}
use Rattle.std.proofs.lemmas.List.{length-replicate}
use Rattle.nv_base.specs.declared.geometry.GeometryNumbers.{GeometryNumbers}
use Rattle.nv_core.specs.Worlds.{WorldState}
use Rattle.nv_serial.specs.Serial.{new_serial}
use Rattle.nv_files.specs.Stands.{Stands}
use Rattle.nv_example_store.specs.Stored.{HoldsStore, store_in}
use Rattle.nv_example_store.specs.Values.{StoreValue}
use Rattle.nv_example_store.proofs.Told.{shown}

-- the root of new files has no names
pub new_holds : (g : GeometryNumbers) → 2 ≤ g.inodes → HoldsStore (new_serial g)
new_holds g two = record {
  now = λ bound at. absurd (let lt = at.1 in omega (arith, lt));
  backups = tt;
  slots = rw length-replicate (omega (arith, two));
}

-- THEY SHOW AN EMPTY STORE
pub new_shown : (w : WorldState) (g : GeometryNumbers) → Stands w (new_serial g)
    → store_in w ≡ (let empty : StoreValue = record { entries = []; backups = [] } in empty)
new_shown w g stands = shown w (new_serial g) stands
