-- Which parts of a log later entries cover.
use Rattle.std.specs.Prelude.{◌≡◌, ℕ, ◌+◌, ◌-◌, ◌<◌, ◌&&◌, ◌||◌, Bool, false, not, if◌then◌else◌, nat_lt, List, [], ◌∷◌, ◌++◌, length, map, take, count_by, slice_index_or}
use Rattle.std.specs.List.{list_any, flat_map}
use Rattle.nv_entry.specs.declared.item.Entry.{Entry}
use Rattle.nv_entry.specs.declared.part.Part.TheVariants as part
use Rattle.nv_entry.specs.Counts.{live_of}
use Rattle.nv_entry.specs.Held.{is_current}
use Rattle.nv_entry.specs.Keys.{Key, KindKey, covers, key_of, parts_of}
use Rattle.nv_entry.specs.Log.{pairs}

-- one of these entries covers the key
abbrev pub any_cover : ℕ → List Entry → Key → Bool
any_cover block log key = list_any (λ e. covers block e.item key) log

-- which parts of an entry are covered by the entries behind it, in order
abbrev pub covered_of : ℕ → Entry → List Entry → List Bool
covered_of block e later = map (λ part. any_cover block later (key_of e.item part)) (parts_of e.item)

-- for each entry of a log one flag a part: whether an entry behind it covers the part's key
abbrev pub covered_parts : ℕ → List Entry → List (List Bool)
covered_parts block [] = []
covered_parts block (e ∷ later) = covered_of block e later ∷ covered_parts block later

-- how many parts an entry has
abbrev pub part_count : Entry → ℕ
part_count e = length (parts_of e.item)

-- how many parts the entries have together
abbrev pub part_total : List Entry → ℕ
part_total [] = 0
part_total (e ∷ later) = part_count e + part_total later

-- the key of an entry's part at a place
abbrev pub part_key : Entry → ℕ → Key
part_key e place = key_of e.item (slice_index_or (parts_of e.item) place part.Kind)

-- the key of the part `n` of a log, whose parts are numbered from 0, by entry and then by place
abbrev pub key_at : List Entry → ℕ → Key
key_at [] n = KindKey
key_at (e ∷ later) n = if nat_lt n (part_count e) then part_key e n else key_at later (n - part_count e)

-- an entry behind the part `n` of a log covers its key
abbrev pub is_covered : ℕ → List Entry → ℕ → Bool
is_covered block [] n = false
is_covered block (e ∷ later) n =
    if nat_lt n (part_count e) then any_cover block later (part_key e n) else is_covered block later (n - part_count e)

-- some part is not covered later
abbrev pub has_uncovered : List Bool → Bool
has_uncovered covered = list_any not covered

-- which parts are current is told by what later entries cover
pub record UncoveredAreCurrent (block : ℕ) (log : List Entry) : Type 0 where
  -- a pair is current exactly where no later entry covers its part's key
  pub current : map is_current (pairs block log) ≡ map not (flat_map (λ covered. covered) (covered_parts block log))
  -- by its number a part is covered exactly where its flag says so
  pub numbered : (n : ℕ) → is_covered block log n ≡ slice_index_or (flat_map (λ covered. covered) (covered_parts block log)) n false
  -- as many of the first entries have a current pair as have a part that is not covered
  pub live : (count : ℕ) → live_of block count log ≡ count_by has_uncovered (take count (covered_parts block log))

-- what one more entry makes of the parts of a log, by their numbers
pub record OneMoreCovers (block : ℕ) (log : List Entry) (e : Entry) : Type 0 where
  -- the log has the new entry's parts more
  pub total : part_total (log ++ e ∷ []) ≡ part_total log + part_count e
  -- the parts of before have the keys that they had
  pub key : (n : ℕ) → n < part_total log → key_at (log ++ e ∷ []) n ≡ key_at log n
  -- the new entry's parts are numbered behind those of before, in their order
  pub own_key : (place : ℕ) → place < part_count e → key_at (log ++ e ∷ []) (part_total log + place) ≡ part_key e place
  -- a part of before is covered if it was, or if the new entry covers its key; no new part is
  pub covered : (n : ℕ)
      → is_covered block (log ++ e ∷ []) n ≡ (is_covered block log n || (nat_lt n (part_total log) && covers block e.item (key_at log n)))
