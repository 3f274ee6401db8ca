-- The cleaners of a world with numbers: they change the pages of one log, and no node, now or at a snapshot.
use Rattle.std.specs.Prelude.{ℕ, ◌-◌, ◌*◌, Bool, true, false, if◌then◌else◌, nat_le, nat_lt, List, [], length, map, slice_set, take}
use Rattle.std.specs.Int.{div_ceil}
use Rattle.nv_base.specs.declared.fault.Fault.TheVariants.{NoSpace, Stale}
use Rattle.nv_calls.specs.declared.answer.Answer.TheVariants as answers
use Rattle.nv_cell.specs.Readers.{has_entry}
use Rattle.nv_entry.specs.Clean.{thorough_leaves, pages_stay, select}
use Rattle.nv_entry.specs.declared.item.Entry.{Entry}
use Rattle.nv_serial.specs.Free.{row_of}
use Rattle.nv_serial.specs.LogPages.{Page, entries_in, fresh, with_all}
use Rattle.nv_serial.specs.Serial.{Outcome, Serial, keepers, log_in, refused, slot_of, told}

-- a slot has these pages; the answer tells by how many entries and pages its log is shorter
abbrev pub with_slot_pages : Serial → ℕ → List Page → Serial
with_slot_pages s ino pages = record s { slots = slice_set s.slots ino (record (slot_of s ino) { pages = pages }) }

-- what a cleaner is answered, and the world with these pages
abbrev pub cleaned : Bool → Serial → ℕ → List Page → Outcome
cleaned thorough s ino pages =
    told (answers.Cleaned thorough (length (log_in s ino) - length (entries_in pages))
    (length (slot_of s ino).pages - length pages)) (with_slot_pages s ino pages)

-- ---- fast: each page goes whose entries the walk removes

-- the pages of a slot that stay where whole pages go
abbrev pub pages_staying : Serial → ℕ → List Page
pages_staying s ino =
    select (pages_stay (keepers s ino) [] (map (λ (p : Page). p.entries) (slot_of s ino).pages)) (slot_of s ino).pages

-- a `fast`: whole pages go
abbrev pub fast : Serial → ℕ → Outcome
fast s ino = cleaned false s ino (pages_staying s ino)

-- ---- thorough: the entries that the walk leaves, on the first blocks of the row

-- the entries of a slot that stay where single ones go
abbrev pub entries_staying : Serial → ℕ → List Entry
entries_staying s ino = thorough_leaves (keepers s ino) (log_in s ino)

-- how many log pages the entries fill that stay where single ones go
abbrev pub pages_filled : Serial → ℕ → ℕ
pages_filled s ino = div_ceil (length (entries_staying s ino)) s.numbers.page

-- a `thorough`, by whether an entry goes, and whether the row has the pages for the others
abbrev pub thorough_if : (some_go fits : Bool) → Serial → ℕ → ℕ → Outcome
thorough_if false fits s actor ino = told (answers.Cleaned true 0 0) s
thorough_if true false s actor ino = refused NoSpace s
thorough_if true true s actor ino =
    cleaned true s ino (with_all s.numbers.page (entries_staying s ino) (fresh (take (pages_filled s ino) (row_of s actor))))

-- a `thorough`: single entries go
abbrev pub thorough : Serial → ℕ → ℕ → Outcome
thorough s actor ino =
    thorough_if (nat_lt (length (entries_staying s ino)) (length (log_in s ino)))
    (nat_le (pages_filled s ino) (length (row_of s actor))) s actor ino

-- ---- auto: thorough where less than half of the entries would stay

-- an `auto`: as `thorough` where less than half of the entries stay
abbrev pub auto : Serial → ℕ → ℕ → Outcome
auto s actor ino =
    if nat_lt (2 * length (entries_staying s ino)) (length (log_in s ino)) then thorough s actor ino else fast s ino

-- a cleaning, which is refused where the number has no slot, or its slot no inode
abbrev pub if_inode : Serial → ℕ → Outcome → Outcome
if_inode s ino clean = if has_entry (log_in s ino) then clean else refused Stale s
