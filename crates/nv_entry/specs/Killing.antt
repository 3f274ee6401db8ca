-- What one more entry does to the pairs of a log and to its counts.
use Rattle.std.specs.Prelude.{◌≡◌, ℕ, zero, suc, ◌+◌, ◌≤◌, ◌&&◌, ◌||◌, Bool, true, not, if◌then◌else◌, List, [], ◌∷◌, ◌++◌, length, map, Some}
use Rattle.std.specs.List.{AllByRecursion, list_any}
use Rattle.nv_entry.specs.declared.held.Pair.{Pair}
use Rattle.nv_entry.specs.declared.item.Entry.{Entry}
use Rattle.nv_entry.specs.declared.part.Part.{Part}
use Rattle.nv_entry.specs.declared.part.PartId.{PartId}
use Rattle.nv_entry.specs.Counts.{is_live, live_of}
use Rattle.nv_entry.specs.Held.{Retention, is_current, is_named}
use Rattle.nv_entry.specs.Keys.{covers, key_of, parts_of}
use Rattle.nv_entry.specs.Log.{pair_of, pairs, pairs_of}

-- an entry kills the pair of an earlier one's part, which is current and whose key it covers
abbrev pub kills : ℕ → Entry → Entry → List Entry → Part → Bool
kills block e x later part = is_current (pair_of block x later part) && covers block e.item (key_of x.item part)

-- the pair once it has died in an epoch
abbrev pub dead_at : ℕ → Pair → Pair
dead_at epoch pair = record pair { death = Some epoch }

-- the pair of an entry's part after one more entry
abbrev pub pair_after : ℕ → Entry → Entry → List Entry → Part → Pair
pair_after block e x later part =
    if kills block e x later part then dead_at e.epoch (pair_of block x later part) else pair_of block x later part

-- the pairs of a log after one more entry, without that entry's own
abbrev pub pairs_after : ℕ → Entry → List Entry → List Pair
pairs_after block e [] = []
pairs_after block e (x ∷ later) = map (pair_after block e x later) (parts_of x.item) ++ pairs_after block e later

-- an entry has a current pair that one more entry does not kill
abbrev pub stays_live : ℕ → Entry → Entry → List Entry → Bool
stays_live block e x later =
    list_any (λ part. is_current (pair_of block x later part) && not (kills block e x later part)) (parts_of x.item)

-- how many of the first `count` entries lose their last current pair by one more entry
abbrev pub died_of : ℕ → Entry → ℕ → List Entry → ℕ
died_of block e zero log = 0
died_of block e (suc count) [] = 0
died_of block e (suc count) (x ∷ later) =
    (if is_live block x later && not (stays_live block e x later) then 1 else 0) + died_of block e count later

-- what one more entry makes of the pairs of a log
pub record OneMorePairs (block : ℕ) (log : List Entry) (e : Entry) : Type 0 where
  -- the pairs are those of before, dead where the entry kills them, and then its own
  pub all : pairs block (log ++ e ∷ []) ≡ pairs_after block e log ++ pairs_of block e []
  -- each of the entry's own pairs is current
  pub born : AllByRecursion (λ pair. is_current pair ≡ true) (pairs_of block e [])
  -- the live entries of before are fewer by those whose last current pair died
  pub live : (count : ℕ) → count ≤ length log → live_of block count (log ++ e ∷ []) + died_of block e count log ≡ live_of block count log

-- these names are those of a log's pending pairs, and of its pairs that one more entry kills
abbrev pub NamesKilled : Retention → List PartId → Entry → List Entry → Type 0
NamesKilled r names e [] = Unit {0}
NamesKilled r names e (x ∷ later) =
    AllByRecursion (λ part. is_named names (pair_of r.block x later part)
    ≡ (is_named r.pending (pair_of r.block x later part) || kills r.block e x later part)) (parts_of x.item)
    × NamesKilled r names e later

-- a retention with other pairs pending
abbrev pub with_pending : Retention → List PartId → Retention
with_pending r names = record r { pending = names }
