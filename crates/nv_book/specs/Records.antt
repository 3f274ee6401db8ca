-- Records of killed parts: what holds them, and the runs that they make one after another.
use Rattle.std.specs.Prelude.{ℕ, ◌+◌, ◌==◌, ◌&&◌, Bool, true, false, not, if◌then◌else◌, List, [], ◌∷◌, filter, count_by, Option, Some, None, nat_le}
use Rattle.nv_epoch.specs.Holders.{holds, youngest_holder}
use Rattle.nv_base.specs.declared.numbers.EntryId.{EntryId}
use Rattle.nv_entry.specs.declared.part.Part.{Part}
use Rattle.nv_entry.specs.declared.part.Part.TheVariants.{Kind, Mode, Size, Bound, Page}
use Rattle.nv_book.specs.declared.record.Record.{Record}

-- the two ids are one
abbrev pub is_same_entry : EntryId → EntryId → Bool
is_same_entry a b = (a.commit == b.commit) && (a.place == b.place)

-- the second is the page after the first
abbrev pub is_next_page : Part → Part → Bool
is_next_page (Page p) (Page q) = p + 1 == q
is_next_page Kind b = false
is_next_page Mode b = false
is_next_page Size b = false
is_next_page Bound b = false
is_next_page (Page p) Kind = false
is_next_page (Page p) Mode = false
is_next_page (Page p) Size = false
is_next_page (Page p) Bound = false

-- two records of one inode, entry, birth and death, of one page and the next
abbrev pub goes_on : Record → Record → Bool
goes_on a b = (a.ino == b.ino) &&
    (is_same_entry a.entry b.entry && ((a.birth == b.birth) && ((a.death == b.death) && is_next_page a.part b.part)))

-- the first record of a list goes on the run of this one
abbrev pub goes_on_in : Record → List Record → Bool
goes_on_in a [] = false
goes_on_in a (b ∷ bs) = goes_on a b

-- how many record runs a list of records makes: each record
-- that the next one does not go on ends one.
-- Example: pages 0, 1, 2, 3, 5 of an entry are two record runs.
abbrev pub run_count_of : List Record → ℕ
run_count_of [] = 0
run_count_of (r ∷ rs) = (if goes_on_in r rs then 0 else 1) + run_count_of rs

-- the record's part was born by that snapshot
abbrev pub is_born_by : Option ℕ → Record → Bool
is_born_by None r = false
is_born_by (Some s) r = nat_le r.birth s

-- of the records of a dropped snapshot, those that the next older one holds: they move down to it
abbrev pub moved_down : Option ℕ → List Record → List Record
moved_down older rs = filter (λ r. is_born_by older r) rs

-- of the records of a dropped snapshot, those that the next older one does not hold
abbrev pub let_go : Option ℕ → List Record → List Record
let_go older rs = filter (λ r. not (is_born_by older r)) rs

-- the snapshot `s` holds the record's part: birth <= s < death
abbrev pub is_held_by : ℕ → Record → Bool
is_held_by s r = holds r.birth r.death s

-- the youngest of the living snapshots that hold the record's part
abbrev pub holder_of : List ℕ → Record → Option ℕ
holder_of living r = youngest_holder living r.birth r.death

-- the part is a file page
abbrev pub is_page : Part → Bool
is_page (Page p) = true
is_page Kind = false
is_page Mode = false
is_page Size = false
is_page Bound = false

-- how many blocks the records have: one each page
abbrev pub block_count : List Record → ℕ
block_count rs = count_by (λ (r : Record). is_page r.part) rs
