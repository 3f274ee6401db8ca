-- What a log says of a key: its value now and at an epoch, and how long each pair lives.
use Rattle.std.specs.Prelude.{ℕ, ◌≤◌, Bool, true, if◌then◌else◌, nat_le, List, [], ◌∷◌, ◌++◌, map, filter, Option, Some, None}
use Rattle.std.specs.List.{AllByRecursion}
use Rattle.nv_base.specs.Ids.{IsIdBefore}
use Rattle.nv_entry.specs.declared.item.Entry.{Entry}
use Rattle.nv_entry.specs.declared.key.Datum.{Datum}
use Rattle.nv_entry.specs.declared.key.Setting.{Setting}
use Rattle.nv_entry.specs.declared.key.Setting.TheVariants.{Untouched, Absent, Present}
use Rattle.nv_entry.specs.declared.part.Part.{Part}
use Rattle.nv_entry.specs.declared.held.Pair.{Pair}
use Rattle.nv_entry.specs.declared.value.When.{When}
use Rattle.nv_entry.specs.declared.value.When.TheVariants.{Now, At}
use Rattle.nv_entry.specs.Keys.{Key, sets, covers, parts_of, key_of}

-- an entry may stand somewhere behind another in one log
pub record MayFollow (earlier later : Entry) : Type 0 where
  -- its id stands behind the earlier one's
  pub id_rises : IsIdBefore earlier.id later.id
  -- its epoch is not below the earlier one's
  pub epoch_stays : earlier.epoch ≤ later.epoch

-- along a log ids rise and epochs never fall
abbrev pub IsLog : List Entry → Type 0
IsLog [] = Unit {0}
IsLog (e ∷ later) = AllByRecursion (MayFollow e) later × IsLog later

-- the later of two settings, where it sets anything
abbrev pub later_of : Setting → Setting → Setting
later_of earlier Untouched = earlier
later_of earlier Absent = Absent
later_of earlier (Present value) = Present value

-- what the last entry that covers the key does to it
abbrev pub last_setting : ℕ → List Entry → Key → Setting
last_setting block [] key = Untouched
last_setting block (e ∷ later) key = later_of (sets block e.item key) (last_setting block later key)

-- the value that a setting leaves
abbrev pub value_of : Setting → Option Datum
value_of Untouched = None
value_of Absent = None
value_of (Present value) = Some value

-- the value of a key now: what the last entry that covers the key sets. There is none if that is
-- absent, or if no entry covers the key.
abbrev pub value_now : ℕ → List Entry → Key → Option Datum
value_now block log key = value_of (last_setting block log key)

-- an entry of that epoch counts now, and at its own epoch and each later one
abbrev pub sees : When → ℕ → Bool
sees Now epoch = true
sees (At last) epoch = nat_le epoch last

-- the entries of an epoch and of those before it
abbrev pub up_to : ℕ → List Entry → List Entry
up_to epoch log = filter (λ e. nat_le e.epoch epoch) log

-- what of a log is seen now or at an epoch
abbrev pub seen : When → List Entry → List Entry
seen Now log = log
seen (At last) log = up_to last log

-- the value of a key at an epoch, by the entries of that epoch and of earlier ones
abbrev pub value_at : ℕ → ℕ → List Entry → Key → Option Datum
value_at block epoch log key = value_now block (up_to epoch log) key

-- the epoch of the first of these entries that covers the key. It is the death of a pair of that
-- key which stands before them.
-- Example: entry 2.0 writes page 0 in epoch 1, and another entry does in epoch 2. The pair of 2.0
-- and page 0 has birth 1 and death 2.
abbrev pub first_cover : ℕ → List Entry → Key → Option ℕ
first_cover block [] key = None
first_cover block (e ∷ later) key = if covers block e.item key then Some e.epoch else first_cover block later key

-- the pair of an entry's part, where `later` are the entries behind the entry. Its birth is the
-- entry's epoch, and its death that of the first later entry that covers its key.
abbrev pub pair_of : ℕ → Entry → List Entry → Part → Pair
pair_of block e later part = record { entry = e.id; part = part; birth = e.epoch; death = first_cover block later (key_of e.item part) }

-- the pairs of an entry, by its parts
abbrev pub pairs_of : ℕ → Entry → List Entry → List Pair
pairs_of block e later = map (pair_of block e later) (parts_of e.item)

-- the pairs of a log, by entry and then by part
abbrev pub pairs : ℕ → List Entry → List Pair
pairs block [] = []
pairs block (e ∷ later) = pairs_of block e later ++ pairs block later
