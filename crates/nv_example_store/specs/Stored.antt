-- How files hold a store: each key is a name of the root, and its value the bytes of a file. Under one name more, which is
-- no key, a value is written before it takes a key's place.
use Rattle.std.specs.Prelude.{◌≡◌, ◌≤◌, ℕ, List, length, map, Option, Some}
use Rattle.std.specs.List.{AllByRecursion}
use Rattle.nv_base.specs.declared.fault.Fault.{Fault}
use Rattle.nv_base.specs.declared.node.Kind.TheVariants.{File}
use Rattle.nv_base.specs.declared.numbers.Handle.{Handle}
use Rattle.nv_calls.specs.Plain.{node_in}
use Rattle.nv_calls.specs.Refusals.{bytes_of, kind_of}
use Rattle.nv_core.specs.Worlds.{WorldState}
use Rattle.nv_entry.specs.Index.{bound_to, without}
use Rattle.nv_entry.specs.Tree.{names_under, root}
use Rattle.nv_entry.specs.declared.names.BoundName.{BoundName}
use Rattle.nv_entry.specs.declared.node.NodeCopy.{NodeCopy}
use Rattle.nv_files.specs.Stands.{Stands, plain_shown}
use Rattle.nv_machine.specs.Directories.{HasName}
use Rattle.nv_machine.specs.PlainRun.{Copy, Plain}
use Rattle.nv_serial.specs.Serial.{Serial, copies_now}
use Rattle.nv_example_store.specs.Keys.{scratch}
use Rattle.nv_example_store.specs.Values.{Backup, Entry, StoreValue}

-- the entry of a name
abbrev pub entry_of : (Handle → Option NodeCopy) → BoundName → Entry
entry_of nodes bound = record { key = bound.name; value = bytes_of (nodes bound.to) }

-- the entries that nodes hold: those of all names of the root but that one, in order
abbrev pub entries_in : (Handle → Option NodeCopy) → List Entry
entries_in nodes = map (entry_of nodes) (without scratch (names_under nodes root))

-- the backup that a copy of all nodes holds
abbrev pub backup_of : Copy → Backup
backup_of copy = record { snapshot = copy.snapshot; entries = entries_in copy.nodes }

-- the store that a plain world holds
abbrev pub value_in : Plain → StoreValue
value_in plain = record { entries = entries_in (node_in plain.nodes); backups = map backup_of plain.copies }

-- the store that files hold
abbrev pub store_in : WorldState → StoreValue
store_in w = value_in (plain_shown w)

-- each name of the root is that of a file
abbrev pub HoldFiles : (Handle → Option NodeCopy) → Type 0
HoldFiles nodes = (bound : BoundName) → HasName nodes root bound → kind_of (nodes bound.to) ≡ Some File

-- a world with numbers holds a store: names of the root are those of files, now and at each backup
pub record HoldsStore (s : Serial) : Type 0 where
  -- so now
  pub now : HoldFiles (copies_now s)
  -- so at each backup
  pub backups : AllByRecursion (λ (copy : Copy). HoldFiles copy.nodes) s.plain.copies
  -- there is room for a file
  pub slots : 2 ≤ length s.slots

-- files hold a store
abbrev pub IsStore : WorldState → Type 0
IsStore w = (s : Serial) × Stands w s × HoldsStore s

-- as whatever world with numbers files stand that hold a store, this is why
abbrev pub IsCausedIn : (Serial → Fault → Type 0) → WorldState → Fault → Type 0
IsCausedIn Cause w why = (s : Serial) → Stands w s → HoldsStore s → Cause s why

-- a file stands under the name that is no key, with these bytes
pub record IsScratch (s : Serial) (file : Handle) (bytes : List ℕ) : Type 0 where
  -- the name leads to it
  pub bound : bound_to scratch (names_under (copies_now s) root) ≡ Some file
  -- it has these bytes
  pub bytes_are : bytes_of (copies_now s file) ≡ bytes

-- a step from one world with numbers that holds a store to the next
abbrev pub Steps : (Serial → Serial → Type 0) → WorldState → WorldState → Type 0
Steps To old new = (s : Serial) → Stands old s → HoldsStore s → (t : Serial) × To s t × Stands new t × HoldsStore t
