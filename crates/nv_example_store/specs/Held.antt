-- What the steps of a store leave of it.
use Rattle.std.specs.Prelude.{◌≡◌, ◌⊎◌, ℕ, Bool, false, if◌then◌else◌, List, [], ◌∷◌, map, Option, Some, None, Result, Ok, Err}
use Rattle.nv_base.specs.Memory.{out_of_memory}
use Rattle.nv_base.specs.Names.{same_name}
use Rattle.nv_base.specs.declared.fault.Fault.{Fault}
use Rattle.nv_base.specs.declared.numbers.Handle.{Handle}
use Rattle.nv_calls.specs.declared.call.Call.{Call}
use Rattle.nv_entry.specs.Index.{bound_to, without}
use Rattle.nv_entry.specs.Tree.{names_under, root}
use Rattle.nv_entry.specs.declared.names.BoundName.{BoundName}
use Rattle.nv_entry.specs.declared.tree.TreeNode.{TreeNode}
use Rattle.nv_serial.specs.Serial.{Serial, copies_now}
use Rattle.nv_effects.specs.Causes.{IsShort}
use Rattle.nv_example_store.specs.Faults.{IsTidyCause, emptying}
use Rattle.nv_example_store.specs.Keys.{scratch}
use Rattle.nv_example_store.specs.Stored.{IsScratch, value_in}
use Rattle.nv_example_store.specs.Tidied.{IsTidied, after}
use Rattle.nv_example_store.specs.Values.{StoreValue}

-- the store stays
abbrev pub SameStore : Serial → Serial → Type 0
SameStore old new = value_in new.plain ≡ value_in old.plain

-- the store becomes what this says, or the step is refused so and the store stays
abbrev pub BecomesBy : {T : Type 0} → (T → StoreValue → StoreValue → Type 0) → (Serial → Fault → Type 0) → Result T Fault
    → Serial → Serial → Type 0
BecomesBy To Fails (Ok done) old new = To done (value_in old.plain) (value_in new.plain)
BecomesBy To Fails (Err why) old new = SameStore old new × Fails old why

-- a call has left a file with these bytes under the name that is no key, and the store stays
pub record IsLeft (c : Call) (file : Handle) (bytes : List ℕ) (old new : Serial) : Type 0 where
  -- the store stays
  pub same : SameStore old new
  -- the file is there
  pub there : IsScratch new file bytes
  -- the world is the one after the call
  pub world : new ≡ after old c
  -- its blocks are as large
  pub block : new.numbers.block ≡ old.numbers.block

-- an empty file is left under the name that is no key, unless the step is refused; the store stays
abbrev pub EmptiesBy : Result Handle Fault → Serial → Serial → Type 0
EmptiesBy (Ok file) old new = IsLeft (emptying old) file [] old new
EmptiesBy (Err why) old new = SameStore old new × (IsShort old 0 (emptying old) why ⊎ (why ≡ out_of_memory))

-- blocks are given back, unless the step is refused; the store stays
abbrev pub TidiesBy : Result (Unit {0}) Fault → Serial → Serial → Type 0
TidiesBy (Ok done) old new = SameStore old new × IsTidied old new
TidiesBy (Err why) old new = SameStore old new × IsTidyCause old why

-- no name of the root is that one
abbrev pub HasNoScratch : Serial → Type 0
HasNoScratch s = bound_to scratch (names_under (copies_now s) root) ≡ None

-- nothing changes, and what is found is so, unless the step is refused so
abbrev pub FindsBy : {T : Type 0} → (Serial → T → Type 0) → (Serial → Fault → Type 0) → Result T Fault → Serial → Serial → Type 0
FindsBy P Fails (Ok found) old new = (new ≡ old) × P old found
FindsBy P Fails (Err why) old new = (new ≡ old) × Fails old why

-- ---- names and trees

-- the names except the one that is no key
abbrev pub keys_among : List BoundName → List (List ℕ)
keys_among names = map (λ (b : BoundName). b.name) (without scratch names)

-- a path has one name, this one
abbrev pub is_path : List ℕ → List (List ℕ) → Bool
is_path key (name ∷ []) = same_name key name
is_path key other = false

-- the bytes of the first node of a tree with this name in the root, if there is one
abbrev pub bytes_at : List ℕ → List TreeNode → Option (List ℕ)
bytes_at key [] = None
bytes_at key (there ∷ tree) = if is_path key there.path then Some there.node.bytes else bytes_at key tree
