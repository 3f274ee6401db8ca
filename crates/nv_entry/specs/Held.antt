-- Which pairs are current, held by a snapshot, and needed.
use Rattle.std.specs.Prelude.{ℕ, ◌==◌, ◌&&◌, ◌||◌, Bool, true, false, nat_lt, nat_le, List, Option, Some, None}
use Rattle.std.specs.List.{list_any}
use Rattle.nv_base.specs.Ids.{is_same_id}
use Rattle.nv_entry.specs.declared.part.Part.{Part}
use Rattle.nv_entry.specs.declared.part.Part.TheVariants as part
use Rattle.nv_entry.specs.declared.part.PartId.{PartId}
use Rattle.nv_entry.specs.declared.held.Pair.{Pair}
use Rattle.nv_entry.specs.declared.retention.Retention.{Retention as CodeRetention}

-- what keeps pairs that are no longer current, and the size of blocks. Pending are the pairs whose
-- record is deferred, or picked and not yet released.
pub record Retention : Type 0 where
  -- how many bytes a block has
  pub block : ℕ
  -- the living snapshots, in any order
  pub snapshots : List ℕ
  -- the pending pairs by name; where counts are asked, the killed ones with them
  pub pending : List PartId

-- the retention that the code names so
abbrev pub retention_of : CodeRetention → Retention
retention_of r = record { block = r.block; snapshots = r.snapshots.now; pending = r.pending.now }

-- an epoch is before a death; where there is none, each epoch is
abbrev pub is_before_death : ℕ → Option ℕ → Bool
is_before_death epoch None = true
is_before_death epoch (Some death) = nat_lt epoch death

-- a snapshot `s` holds a pair where birth <= s, and where it has no death or s < death
abbrev pub holds : ℕ → Pair → Bool
holds snapshot pair = nat_le pair.birth snapshot && is_before_death snapshot pair.death

-- one of these snapshots holds the pair
abbrev pub is_held : List ℕ → Pair → Bool
is_held snapshots pair = list_any (λ snapshot. holds snapshot pair) snapshots

-- no later entry covers the pair's key, so that it has no death
abbrev pub is_current : Pair → Bool
is_current pair = has_no_death pair.death where
  has_no_death : Option ℕ → Bool
  has_no_death None = true
  has_no_death (Some death) = false

-- a pair is needed: it is current, or a living snapshot holds it
abbrev pub is_needed : List ℕ → Pair → Bool
is_needed snapshots pair = is_current pair || is_held snapshots pair

-- the two parts are one
abbrev pub same_part : Part → Part → Bool
same_part part.Kind part.Kind = true
same_part part.Mode part.Mode = true
same_part part.Size part.Size = true
same_part part.Bound part.Bound = true
same_part (part.Page p) (part.Page q) = p == q
same_part a b = false

-- what names a pair within its log
abbrev pub pair_name : Pair → PartId
pair_name pair = record { entry = pair.entry; part = pair.part }

-- the pair has this name
abbrev pub has_name : Pair → PartId → Bool
has_name pair name = is_same_id name.entry pair.entry && same_part name.part pair.part

-- the pair is among the named ones: those that are pending, or killed and not yet retired
abbrev pub is_named : List PartId → Pair → Bool
is_named names pair = list_any (has_name pair) names

-- a pair is needed or pending, so that its entry stays.
-- Example: page 0 is written in epoch 1 and again in epoch 2, with snapshot 1 living. The snapshot
-- holds the first pair, since 1 <= 1 < 2. A third write in epoch 2 gives the second pair birth 2
-- and death 2. No snapshot holds it, whatever its number, and its block is free at once.
abbrev pub keeps : Retention → Pair → Bool
keeps r pair = is_needed r.snapshots pair || is_named r.pending pair
