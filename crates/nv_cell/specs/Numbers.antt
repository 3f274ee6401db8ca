-- The parts of a log by number, and which of them an index names. Parts are numbered through from
-- 0, by entry and then by place.
use Rattle.std.specs.Prelude.{◌≡◌, ℕ, ◌+◌, ◌-◌, ◌<◌, if◌then◌else◌, filter, slice_get, ◌≤◌, ◌==◌, ◌&&◌, ◌^◌, Bool, true, false, not, nat_lt, nat_le, List, [], ◌∷◌, take, length, map, count_by, Option, Some, None, unwrap_or, vec_len, vec_capacity}
use Rattle.std.specs.Global.{Vec}
use Rattle.std.specs.List.{range_with_len}
use Rattle.std.specs.Option.{option_map, is_some, IsSome}
use Rattle.nv_base.specs.Names.{same_name}
use Rattle.nv_entry.specs.declared.item.Entry.{Entry}
use Rattle.nv_entry.specs.declared.part_ref.PartRef.{PartRef}
use Rattle.nv_entry.specs.Covered.{is_covered, key_at, part_count, part_total}
use Rattle.nv_entry.specs.Keys.{Key, KindKey, ModeKey, SizeKey, NameKey, PageKey, parts_of}
use Rattle.nv_log.specs.Chain.{place_of_id}
use Rattle.nv_nindex.specs.declared.binding.Binding.{Binding}
use Rattle.nv_nindex.specs.NameIndex.{binding_of}
use Rattle.nv_cell.specs.declared.killed.KilledPart.{KilledPart}
use Rattle.nv_cell.specs.declared.mark.Mark.{Mark}
use Rattle.nv_cell.specs.declared.number.NumberedPart.{NumberedPart}
use Rattle.nv_cell.specs.declared.mark.Mark.TheVariants.{Current, Killed, Out}
use Rattle.nv_cell.specs.Index.{IndexValue, ref_of}
use Rattle.nv_cell.specs.Marks.{mark_at}
use Rattle.nv_cell.specs.Tallies.{start_at}

-- how many parts the first `t` entries have, which is the number of the next entry's first part
abbrev pub part_base : List Entry → ℕ → ℕ
part_base es t = part_total (take t es)

-- these are the places where the parts of each entry end, by number
pub record AreEnds (ends : List ℕ) (es : List Entry) : Type 0 where
  -- the parts of an entry begin behind those of the entries before it
  pub first : (i : ℕ) → i < length es → start_at ends i ≡ part_base es i
  -- there are fewer than 2^64 parts
  pub small : part_total es < 2 ^ 64

-- the number of a part
abbrev pub number : List Entry → PartRef → ℕ
number es r = part_base es (unwrap_or (place_of_id es r.entry) 0) + r.place

-- the number of the part that an index names at a key
abbrev pub number_at : List Entry → IndexValue → Key → Option ℕ
number_at es index key = option_map (number es) (ref_of index key)

-- the number is known and is this one
abbrev pub is_number : Option ℕ → ℕ → Bool
is_number None n = false
is_number (Some m) n = m == n

-- how often a number stands on a list
abbrev pub times : ℕ → List ℕ → ℕ
times n list = count_by (λ m. m == n) list

-- the numbers of parts
abbrev pub numbers_in : List NumberedPart → List ℕ
numbers_in parts = map (λ p. p.number) parts

-- a part that an index names is one of the log
pub record IsPart (es : List Entry) (r : PartRef) : Type 0 where
  -- the log has its entry
  pub entry : IsSome (place_of_id es r.entry)
  -- its number is below the number of parts
  pub within : number es r < part_total es

-- a part stands in the entry that it comes with
pub record StandsIn (es : List Entry) (p : NumberedPart) : Type 0 where
  -- the log has that entry
  pub within : p.entry < length es
  -- the part is not before the first part of the entry
  pub start : part_base es p.entry ≤ p.number
  -- the part is before the first part of the next entry
  pub end : p.number < part_base es (p.entry + 1)

-- the index names parts of the log at their keys
pub record AreNamed (es : List Entry) (index : IndexValue) : Type 0 where
  -- each part that the index names is one of the log
  pub parts : (key : Key) (r : PartRef) → ref_of index key ≡ Some r → IsPart es r
  -- a part that the index names at a key is a part of that key
  pub keys : (key : Key) (m : ℕ) → number_at es index key ≡ Some m → key_at es m ≡ key

-- the index names the part n
abbrev pub is_named : List Entry → IndexValue → ℕ → Bool
is_named es index n = is_number (number_at es index (key_at es n)) n

-- the key is a page, from `from` on and below `to`
abbrev pub is_page_in : ℕ → ℕ → Key → Bool
is_page_in from to (PageKey page) = nat_le from page && nat_lt page to
is_page_in from to key = false

-- the key is a name that is bound in the list
abbrev pub is_name_in : List (List ℕ × Binding) → Key → Bool
is_name_in list (NameKey name) = is_some (binding_of name list)
is_name_in list key = false

-- the key is a name
abbrev pub is_any_name : Key → Bool
is_any_name (NameKey name) = true
is_any_name key = false

-- the key is kind, mode or size
abbrev pub is_stat : Key → Bool
is_stat KindKey = true
is_stat ModeKey = true
is_stat SizeKey = true
is_stat key = false

-- the two keys are one
abbrev pub is_key : Key → Key → Bool
is_key KindKey KindKey = true
is_key ModeKey ModeKey = true
is_key SizeKey SizeKey = true
is_key (NameKey name) (NameKey other) = same_name name other
is_key (PageKey page) (PageKey other) = page == other
is_key key other = false

-- there is room for so many more parts on a list
abbrev pub HasRoomFor : ℕ → Vec NumberedPart → Type 0
HasRoomFor count list = vec_len list + count ≤ vec_capacity list

-- the parts that the index names at the keys which pass a test were put on a list
pub record Pushes (es : List Entry) (index : IndexValue) (test : Key → Bool) (most : ℕ) (old new : Vec NumberedPart) : Type 0 where
  -- each of these parts stands on the list once more, and no other part does
  pub numbers : (n : ℕ)
      → times n (numbers_in new.items) ≡ times n (numbers_in old.items) + (if is_named es index n && test (key_at es n) then 1 else 0)
  -- the list has got at most `most` parts more
  pub len : vec_len new ≤ vec_len old + most
  -- the list has the room in all that it had
  pub capacity : vec_capacity new ≡ vec_capacity old

-- the entries from `tail` on kill the part `n`: all entries cover it, and those before do not
abbrev pub dies : ℕ → List Entry → ℕ → ℕ → Bool
dies block es tail n = (nat_lt n (part_total es) && is_covered block es n) && not (is_covered block (take tail es) n)

-- the numbers of the parts that the entries from `tail` on kill, rising
abbrev pub killed_numbers : ℕ → List Entry → ℕ → List ℕ
killed_numbers block es tail = filter (dies block es tail) (range_with_len 0 (part_total es))

-- the part n of a log, with its birth
abbrev pub killed_part : List Entry → ℕ → Option KilledPart
killed_part [] n = None
killed_part (e ∷ later) n =
    if nat_lt n (part_count e)
    then option_map (λ part. record { part = record { entry = e.id; part = part }; birth = e.epoch }) (slice_get (parts_of e.item) n)
    else killed_part later (n - part_count e)

-- the mark of the part n once the entries from `tail` on are published
abbrev pub published_mark : ℕ → List Entry → ℕ → List Mark → ℕ → Mark
published_mark block es tail marks n =
    if dies block es tail n then Killed
    else if nat_lt n (part_base es tail) then mark_at marks n
    else if nat_lt n (part_total es) then Current else Out
