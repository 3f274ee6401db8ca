-- The tally of each entry, and the counts of each log page. A tally has how many of the entry's
-- parts are current, how many are not out, and where its part slots end.
use Rattle.std.specs.Prelude.{◌≡◌, ℕ, ◌+◌, ◌-◌, ◌<◌, ◌≤◌, ◌==◌, Bool, if◌then◌else◌, nat_lt, List, length, take, drop, count_by, slice_index_or, vec_len, vec_capacity}
use Rattle.std.specs.List.{list_any}
use Rattle.nv_cell.specs.declared.mark.Mark.{Mark}
use Rattle.nv_cell.specs.declared.marks.Marks.{Marks}
use Rattle.nv_cell.specs.declared.tally.LogPageCounts.{LogPageCounts}
use Rattle.nv_cell.specs.declared.tally.Tally.{Tally}
use Rattle.nv_cell.specs.Marks.{bit, is_current, is_there}
pub use Rattle.nv_cell.specs.Runs.{start_at, end_at, AreRuns, IsInRun}

-- the tally of an entry that is not there
abbrev pub no_tally : Tally
no_tally = record { current = 0; there = 0; slots_end = 0 }

-- the tally at a place
abbrev pub tally_at : List Tally → ℕ → Tally
tally_at tallies i = slice_index_or tallies i no_tally

-- the entry has a current part
abbrev pub is_live : Tally → Bool
is_live t = nat_lt 0 t.current

-- the entry has a part that is not out
abbrev pub is_valid : Tally → Bool
is_valid t = nat_lt 0 t.there

-- the counts of a page without entries
abbrev pub no_counts : LogPageCounts
no_counts = record { live = 0; valid = 0 }

-- the counts of a log page
abbrev pub counts_at : List LogPageCounts → ℕ → LogPageCounts
counts_at pages k = slice_index_or pages k no_counts

-- a tally after one part has gone from one mark to another
abbrev pub moved : Tally → Mark → Mark → Tally
moved t was mark = record t {
  current = t.current - bit (is_current was) + bit (is_current mark);
  there = t.there - bit (is_there was) + bit (is_there mark);
}

-- the counts of a page after one entry has gone from one tally to another
abbrev pub recounted : LogPageCounts → Tally → Tally → LogPageCounts
recounted c was now = record {
  live = c.live - bit (is_live was) + bit (is_live now);
  valid = c.valid - bit (is_valid was) + bit (is_valid now);
}

-- the counts of a page with one more entry
abbrev pub with_entry : LogPageCounts → Tally → LogPageCounts
with_entry c t = record { live = c.live + bit (is_live t); valid = c.valid + bit (is_valid t) }

-- how many of the items from `from` up to `to` pass a test
abbrev pub count_in : {X : Type 0} → (X → Bool) → List X → ℕ → ℕ → ℕ
count_in test xs from to = count_by test (take (to - from) (drop from xs))

-- where an entry's slots begin: those of the entries before it lie in front
abbrev pub first_slot : List Tally → ℕ → ℕ
first_slot tallies i = if i == 0 then 0 else (tally_at tallies (i - 1)).slots_end

-- each entry's tally counts the marks of its parts, and says where its part slots end
pub record AreTallies (tallies : List Tally) (ends : List ℕ) (marks : List Mark) : Type 0 where
  -- the ends of the entries' parts cut all marks into runs
  pub runs : AreRuns ends (length marks)
  -- the parts of no entry end behind the last mark
  pub within : (i : ℕ) → i < length ends → end_at ends i ≤ length marks
  -- the parts of the last entry end with the last mark
  pub whole : start_at ends (length ends) ≡ length marks
  -- there is a tally for each entry
  pub len : length tallies ≡ length ends
  -- a tally counts the parts of its entry that are current
  pub current : (i : ℕ) → i < length ends → (tally_at tallies i).current ≡ count_in is_current marks (start_at ends i) (end_at ends i)
  -- a tally counts the parts of its entry that are not out
  pub there : (i : ℕ) → i < length ends → (tally_at tallies i).there ≡ count_in is_there marks (start_at ends i) (end_at ends i)
  -- an entry's slots end behind those of the entries before, one for each part except the first
  pub slots : (i : ℕ) → i < length ends → (tally_at tallies i).slots_end ≡ first_slot tallies i + (end_at ends i - start_at ends i - 1)

-- each log page's counts are those of its entries
pub record AreCounts (pages : List LogPageCounts) (ends : List ℕ) (tallies : List Tally) : Type 0 where
  -- the ends of the log pages cut all tallies into runs
  pub runs : AreRuns ends (length tallies)
  -- there are counts for each log page with entries
  pub len : length pages ≡ length ends
  -- `live` counts the entries of the log page with a current part
  pub live : (k : ℕ) → k < length ends → (counts_at pages k).live ≡ count_in is_live tallies (start_at ends k) (end_at ends k)
  -- `valid` counts the entries of the log page with a part that is not out
  pub valid : (k : ℕ) → k < length ends → (counts_at pages k).valid ≡ count_in is_valid tallies (start_at ends k) (end_at ends k)

-- tallies and counts are those of the marks, where the log pages end at these places
pub record AreTallied (m : Marks) (page_ends : List ℕ) : Type 0 where
  -- each entry's tally is that of its marks
  pub tallies : AreTallies m.tallies.items m.ends.items m.marks.items
  -- each log page's counts are those of its entries
  pub counts : AreCounts m.pages.items page_ends m.tallies.items
  -- one number counts the parts that are not out
  pub there : m.there ≡ count_by is_there m.marks.items

-- there is room for the marks of so many more parts and for the tallies of so many more entries
pub record HasSpare (m : Marks) (parts entries : ℕ) : Type 0 where
  -- there is room for the marks of these parts
  pub marks : vec_len m.marks + parts ≤ vec_capacity m.marks
  -- there is room for the ends of these entries' parts
  pub ends : vec_len m.ends + entries ≤ vec_capacity m.ends
  -- there is room for the tallies of these entries
  pub tallies : vec_len m.tallies + entries ≤ vec_capacity m.tallies

-- all vectors of marks have the room in all that they had
pub record SameCapacity (old new : Marks) : Type 0 where
  -- there is room for as many marks as before
  pub marks : vec_capacity new.marks ≡ vec_capacity old.marks
  -- there is room for the ends of as many entries as before
  pub ends : vec_capacity new.ends ≡ vec_capacity old.ends
  -- there is room for the tallies of as many entries as before
  pub tallies : vec_capacity new.tallies ≡ vec_capacity old.tallies
  -- there is room for the counts of as many log pages as before
  pub pages : vec_capacity new.pages ≡ vec_capacity old.pages

-- the number stands in the list
abbrev pub is_in : ℕ → List ℕ → Bool
is_in n list = list_any (λ m. m == n) list
