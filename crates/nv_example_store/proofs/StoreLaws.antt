-- What is put is got, and a backup has what stood.
use Rattle.std.proofs.Common.{◌≡◌, ◌∙◌, ◌++◌, ℕ, ◌==◌, Bool, true, false, List, [], ◌∷◌, ap, Some, None, refl, sym}
use Rattle.std.specs.Prelude.{if◌then◌else◌}
use Rattle.std.proofs.lemmas.Bool.{eq-eqb, true≢false}
use Rattle.nv_base.specs.Names.{same_name}
use Rattle.nv_entry.proofs.Hiding.{same_name-equal, same_name-self, same_name-sym}
use Rattle.nv_example_store.specs.Values.{Backup, Entry, IsBackedUp, StoreValue, entries_at, put_in, removed_in, value_of, without_key}

-- a key that was taken out has no value
pub none_left : (key : List ℕ) (entries : List Entry) → value_of key (without_key key entries) ≡ None
none_left key [] = refl
none_left key (e ∷ entries) = go (same_name key e.key) refl (none_left key entries) where
  go : (b : Bool) → same_name key e.key ≡ b → value_of key (without_key key entries) ≡ None
      → value_of key (without_key key (e ∷ entries)) ≡ None
  go true is rest = rw is rest
  go false is rest = rw is (rw is rest)

-- another key has the value that it had
pub left_alone : (key other : List ℕ) (entries : List Entry) → same_name key other ≡ false
    → value_of other (without_key key entries) ≡ value_of other entries
left_alone key other [] differ = refl
left_alone key other (e ∷ entries) differ = go (same_name key e.key) (same_name other e.key) refl refl (left_alone key other entries differ) where
  go : (a b : Bool) → same_name key e.key ≡ a → same_name other e.key ≡ b
      → value_of other (without_key key entries) ≡ value_of other entries
      → value_of other (without_key key (e ∷ entries)) ≡ value_of other (e ∷ entries)
  go true true p q rest =
      let same : key ≡ other = same_name-equal key e.key p ∙ sym (same_name-equal other e.key q) in
      let alike : same_name key other ≡ true = ap (same_name key) (sym same) ∙ same_name-self key in
      absurd (true≢false (sym alike ∙ differ))
  go true false p q rest = rw (p, q) rest
  go false true p q rest = rw (p, q) refl
  go false false p q rest = rw (p, q) rest

-- what stands last is found where nothing before it is
last_found : (key : List ℕ) (entries : List Entry) (e : Entry) → value_of key entries ≡ None
    → value_of key (entries ++ e ∷ []) ≡ value_of key (e ∷ [])
last_found key [] e none = refl
last_found key (f ∷ entries) e none = go (same_name key f.key) refl none (last_found key entries e) where
  go : (b : Bool) → same_name key f.key ≡ b → value_of key (f ∷ entries) ≡ None
      → (value_of key entries ≡ None → value_of key (entries ++ e ∷ []) ≡ value_of key (e ∷ []))
      → value_of key ((f ∷ entries) ++ e ∷ []) ≡ value_of key (e ∷ [])
  go true is found rest = absurd (let z : Some f.value ≡ None = rw is at found in cc)
  go false is found rest = rw is (rest (rw is at found))

-- another key is not found there
last_passed : (key : List ℕ) (entries : List Entry) (e : Entry) → same_name key e.key ≡ false
    → value_of key (entries ++ e ∷ []) ≡ value_of key entries
last_passed key [] e differ = rw differ refl
last_passed key (f ∷ entries) e differ = go (same_name key f.key) refl (last_passed key entries e differ) where
  go : (b : Bool) → same_name key f.key ≡ b → value_of key (entries ++ e ∷ []) ≡ value_of key entries
      → value_of key ((f ∷ entries) ++ e ∷ []) ≡ value_of key (f ∷ entries)
  go true is rest = rw is refl
  go false is rest = rw is rest

pub put_got : (store : StoreValue) (key value : List ℕ) → value_of key (put_in key value store).entries ≡ Some value
put_got store key value =
    let last : Entry = record { key = key; value = value } in
    last_found key (without_key key store.entries) last (none_left key store.entries)
    ∙ ap (λ (b : Bool). if b then Some value else None) (same_name-self key)

pub put_others : (store : StoreValue) (key other value : List ℕ) → same_name key other ≡ false
    → value_of other (put_in key value store).entries ≡ value_of other store.entries
put_others store key other value differ =
    let last : Entry = record { key = key; value = value } in
    last_passed other (without_key key store.entries) last (same_name-sym key other false differ)
    ∙ left_alone key other store.entries differ

pub removed_none : (store : StoreValue) (key : List ℕ) → value_of key (removed_in key store).entries ≡ None
removed_none store key = none_left key store.entries

pub removed_others : (store : StoreValue) (key other : List ℕ) → same_name key other ≡ false
    → value_of other (removed_in key store).entries ≡ value_of other store.entries
removed_others store key other differ = left_alone key other store.entries differ

-- ---- backups

newest_found : (snapshot : ℕ) (backups : List Backup) (entries : List Entry) → entries_at snapshot backups ≡ None
    → entries_at snapshot (backups ++ record { snapshot = snapshot; entries = entries } ∷ []) ≡ Some entries
newest_found snapshot [] entries none = rw (eq-eqb snapshot snapshot refl) refl
newest_found snapshot (b ∷ backups) entries none = go (b.snapshot == snapshot) refl none (newest_found snapshot backups entries) where
  last : Backup
  last = record { snapshot = snapshot; entries = entries }

  go : (same : Bool) → (b.snapshot == snapshot) ≡ same → entries_at snapshot (b ∷ backups) ≡ None
      → (entries_at snapshot backups ≡ None → entries_at snapshot (backups ++ last ∷ []) ≡ Some entries)
      → entries_at snapshot ((b ∷ backups) ++ last ∷ []) ≡ Some entries
  go true is found rest = absurd (let z : Some b.entries ≡ None = rw is at found in cc)
  go false is found rest = rw is (rest (rw is at found))

older_found : (snapshot : ℕ) (backups more : List Backup) (entries : List Entry) → entries_at snapshot backups ≡ Some entries
    → entries_at snapshot (backups ++ more) ≡ Some entries
older_found snapshot [] more entries is = absurd (let z : None ≡ Some entries = is in cc)
older_found snapshot (b ∷ backups) more entries is = go (b.snapshot == snapshot) refl is (older_found snapshot backups more entries) where
  go : (same : Bool) → (b.snapshot == snapshot) ≡ same → entries_at snapshot (b ∷ backups) ≡ Some entries
      → (entries_at snapshot backups ≡ Some entries → entries_at snapshot (backups ++ more) ≡ Some entries)
      → entries_at snapshot ((b ∷ backups) ++ more) ≡ Some entries
  go true e found rest = rw e (rw e at found)
  go false e found rest = rw e (rest (rw e at found))

pub backup_made : (snapshot : ℕ) (old new : StoreValue) → IsBackedUp snapshot old new → entries_at snapshot new.backups ≡ Some old.entries
backup_made snapshot old new is =
    ap (λ (v : StoreValue). entries_at snapshot v.backups) is.made ∙ newest_found snapshot old.backups old.entries is.is_new

pub backup_older : (snapshot other : ℕ) (old new : StoreValue) (entries : List Entry) → IsBackedUp snapshot old new
    → entries_at other old.backups ≡ Some entries → entries_at other new.backups ≡ Some entries
backup_older snapshot other old new entries is there =
    ap (λ (v : StoreValue). entries_at other v.backups) is.made
    ∙ older_found other old.backups (record { snapshot = snapshot; entries = old.entries } ∷ []) entries there
