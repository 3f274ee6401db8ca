-- The record list: one list of all recorded parts, in the order in which they came to their
-- present holders. It tells the manifests and the deferred list.
use Rattle.std.specs.Prelude.{◌≡◌, ℕ, ◌==◌, Bool, false, not, if◌then◌else◌, is_none, List, [], ◌∷◌, ◌++◌, map, filter, Option, Some, None}
use Rattle.nv_book.specs.declared.manifest.Manifest.{Manifest}
use Rattle.nv_book.specs.declared.record.Record.{Record}
use Rattle.nv_book.specs.Records.{holder_of}

-- the snapshot is the one that is known
abbrev pub is_snapshot : ℕ → Option ℕ → Bool
is_snapshot s None = false
is_snapshot s (Some t) = s == t

-- the records whose youngest living holder is `s`
abbrev pub kept_by : ℕ → List ℕ → List Record → List Record
kept_by s living rs = filter (λ r. is_snapshot s (holder_of living r)) rs

-- the records that have another youngest living holder than `s`, or none
abbrev pub not_kept_by : ℕ → List ℕ → List Record → List Record
not_kept_by s living rs = filter (λ r. not (is_snapshot s (holder_of living r))) rs

-- the records that no living snapshot holds
abbrev pub unheld : List ℕ → List Record → List Record
unheld living rs = filter (λ r. is_none (holder_of living r)) rs

-- the manifest of a snapshot with these records
abbrev pub manifest_of : ℕ → List Record → Manifest
manifest_of s rs = record { snapshot = s; records = rs }

-- the manifest of a snapshot by the list of all records
abbrev pub manifest_told : List ℕ → List Record → ℕ → Manifest
manifest_told living rs s = manifest_of s (kept_by s living rs)

-- one list of records tells the manifests and the deferred records. To retire puts a record to its
-- end. To drop moves the records of the dropped snapshot there, in order. To pick takes out the
-- first without a living holder.
pub record IsRecordList (living : List ℕ) (manifests : List Manifest) (deferred rs : List Record) : Type 0 where
  -- each manifest has those whose youngest living holder is its snapshot, in the list's order
  pub manifests_are : manifests ≡ map (manifest_told living rs) living
  -- the deferred ones are those that no living snapshot holds, in the list's order
  pub deferred_is : deferred ≡ unheld living rs

-- the manifests' records, oldest snapshot first. With the deferred
-- ones behind them they are a record list.
abbrev pub all_records : List Manifest → List Record
all_records [] = []
all_records (m ∷ ms) = m.records ++ all_records ms

-- a retired record stands at the end, if it has a living holder
abbrev pub with_retired : List ℕ → Record → List Record → List Record
with_retired living r rs = if is_none (holder_of living r) then rs else rs ++ r ∷ []

-- where s is dropped, its records move in order to the end
abbrev pub with_moved : ℕ → List ℕ → List Record → List Record
with_moved s living rs = not_kept_by s living rs ++ kept_by s living rs

-- the list without its first record that has no living holder
abbrev pub without_first : List ℕ → List Record → List Record
without_first living [] = []
without_first living (r ∷ rs) = if is_none (holder_of living r) then rs else r ∷ without_first living rs
