-- The manifests of the living snapshots, and the deferred list.
use Rattle.std.specs.Prelude.{◌≡◌, ℕ, ◌≤◌, ◌==◌, not, if◌then◌else◌, List, [], ◌∷◌, ◌++◌, map, filter, length, sum_by, Option, Some, None}
use Rattle.std.specs.List.{AllByRecursion}
use Rattle.nv_book.specs.declared.record.Record.{Record}
use Rattle.nv_book.specs.Records.{is_held_by, holder_of, moved_down, let_go, block_count, run_count_of}
use Rattle.nv_book.specs.declared.manifest.Manifest.{Manifest}

-- the snapshots of manifests, in order
abbrev pub snapshots : List Manifest → List ℕ
snapshots manifests = map (λ (m : Manifest). m.snapshot) manifests

-- each record of the manifest has its snapshot as the youngest living holder
abbrev pub IsFiled : List ℕ → Manifest → Type 0
IsFiled living m = AllByRecursion (λ r. holder_of living r ≡ Some m.snapshot) m.records

-- each record stands with its youngest living holder, or is deferred
pub record AreFiled (living : List ℕ) (manifests : List Manifest) (deferred : List Record) : Type 0 where
  -- there is a manifest for each living snapshot, in their order
  pub all : snapshots manifests ≡ living
  -- each record of a manifest has its snapshot as the youngest living holder
  pub filed : AllByRecursion (IsFiled living) manifests
  -- no living snapshot holds a deferred record
  pub unheld : AllByRecursion (λ r. holder_of living r ≡ None) deferred

-- each record died in that epoch or before
pub record AreDead (epoch : ℕ) (manifests : List Manifest) (deferred : List Record) : Type 0 where
  -- each record of a manifest died in that epoch or before
  pub filed : AllByRecursion (λ (m : Manifest). AllByRecursion (λ r. r.death ≤ epoch) m.records) manifests
  -- each deferred record died in that epoch or before
  pub others : AllByRecursion (λ r. r.death ≤ epoch) deferred

-- the records of the manifest of the snapshot `s`
abbrev pub records_at : ℕ → List Manifest → List Record
records_at s [] = []
records_at s (m ∷ ms) = if m.snapshot == s then m.records else records_at s ms

-- a manifest with more records at its end, if it is that snapshot's
abbrev pub with_records : Option ℕ → List Record → Manifest → Manifest
with_records None rs m = m
with_records (Some s) rs m = if m.snapshot == s then record m { records = m.records ++ rs } else m

-- the manifests, where records go to the end of that of one snapshot
abbrev pub put_to : Option ℕ → List Record → List Manifest → List Manifest
put_to s rs manifests = map (with_records s rs) manifests

-- the manifests without that of one snapshot
abbrev pub manifests_without : ℕ → List Manifest → List Manifest
manifests_without s manifests = filter (λ (m : Manifest). not (m.snapshot == s)) manifests

-- the manifests once a snapshot was dropped: what it moves down is with the next older one
abbrev pub after_drop : ℕ → Option ℕ → List Manifest → List Manifest
after_drop s older manifests = put_to older (moved_down older (records_at s manifests)) (manifests_without s manifests)

-- the manifests with an empty one of a new snapshot
abbrev pub after_make : ℕ → List Manifest → List Manifest
after_make s manifests = manifests ++ (record { snapshot = s; records = [] }) ∷ []

-- the gain of a snapshot: how many blocks its drop defers. They are those of its records that the
-- next older snapshot does not hold.
abbrev pub gain_of : ℕ → Option ℕ → List Manifest → ℕ
gain_of s older manifests = block_count (let_go older (records_at s manifests))

-- the sum of what `f` says of each manifest's records
abbrev pub total : (List Record → ℕ) → List Manifest → ℕ
total f manifests = sum_by (λ (m : Manifest). f m.records) manifests

-- how many runs the manifests are stored as
abbrev pub run_total : List Manifest → ℕ
run_total manifests = total run_count_of manifests

-- how many records the manifests have together
abbrev pub record_count : List Manifest → ℕ
record_count manifests = total length manifests

-- how many blocks of recorded parts the snapshot s holds
abbrev pub held_of : ℕ → List Manifest → ℕ
held_of s manifests = total (λ rs. block_count (filter (is_held_by s) rs)) manifests
