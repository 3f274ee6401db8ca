-- What a store is to its callers: a finite map, and one for each backup.
use Rattle.std.specs.Prelude.{◌≡◌, ℕ, ◌==◌, ◌++◌, Bool, if◌then◌else◌, not, List, [], ◌∷◌, filter, map, Option, Some, None, is_some}
use Rattle.nv_base.specs.Names.{same_name}

-- a key with its value
pub record Entry : Type 0 where
  -- the key
  pub key : List ℕ
  -- its value
  pub value : List ℕ

-- the entries of the store when a backup was made
pub record Backup : Type 0 where
  -- the number of its snapshot
  pub snapshot : ℕ
  -- the entries of then
  pub entries : List Entry

-- A STORE is its entries, in the order in which they were put last, and its backups, oldest first
pub record StoreValue : Type 0 where
  -- the entries, of which each has a key of its own
  pub entries : List Entry
  -- the backups
  pub backups : List Backup

-- the value of a key, if it has one
abbrev pub value_of : List ℕ → List Entry → Option (List ℕ)
value_of key [] = None
value_of key (e ∷ entries) = if same_name key e.key then Some e.value else value_of key entries

-- the key has a value
abbrev pub has_value : List ℕ → List Entry → Bool
has_value key entries = is_some (value_of key entries)

-- the entries of all other keys
abbrev pub without_key : List ℕ → List Entry → List Entry
without_key key entries = filter (λ (e : Entry). not (same_name key e.key)) entries

-- the entries with a value for this key, which goes last
abbrev pub with_value : List ℕ → List ℕ → List Entry → List Entry
with_value key value entries = without_key key entries ++ record { key = key; value = value } ∷ []

-- the keys
abbrev pub keys_of : List Entry → List (List ℕ)
keys_of entries = map (λ (e : Entry). e.key) entries

-- the entries of a backup, if it is there
abbrev pub entries_at : ℕ → List Backup → Option (List Entry)
entries_at snapshot [] = None
entries_at snapshot (b ∷ backups) = if b.snapshot == snapshot then Some b.entries else entries_at snapshot backups

-- all other backups
abbrev pub without_backup : ℕ → List Backup → List Backup
without_backup snapshot backups = filter (λ (b : Backup). not (b.snapshot == snapshot)) backups

-- ---- what methods make of a store

-- a value is put
abbrev pub put_in : (key value : List ℕ) → StoreValue → StoreValue
put_in key value store = record store { entries = with_value key value store.entries }

-- a key is removed
abbrev pub removed_in : (key : List ℕ) → StoreValue → StoreValue
removed_in key store = record store { entries = without_key key store.entries }

-- a backup is made
abbrev pub backed_up : (snapshot : ℕ) → StoreValue → StoreValue
backed_up snapshot store =
    record store { backups = store.backups ++ record { snapshot = snapshot; entries = store.entries } ∷ [] }

-- a backup is made, of a number that no other backup has
pub record IsBackedUp (snapshot : ℕ) (old new : StoreValue) : Type 0 where
  -- it is the newest
  pub made : new ≡ backed_up snapshot old
  -- its number is new
  pub is_new : entries_at snapshot old.backups ≡ None

-- a backup goes
abbrev pub forgotten_in : (snapshot : ℕ) → StoreValue → StoreValue
forgotten_in snapshot store = record store { backups = without_backup snapshot store.backups }

-- what is found of a key in a backup that is there
abbrev pub IsBackupValue : List Backup → ℕ → List ℕ → Option (List ℕ) → Type 0
IsBackupValue backups snapshot key found =
    (entries : List Entry) × (entries_at snapshot backups ≡ Some entries) × (found ≡ value_of key entries)
