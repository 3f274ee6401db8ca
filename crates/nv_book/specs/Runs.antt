-- Stored runs, and the records that they stand for.
use Rattle.std.specs.Prelude.{◌≡◌, ℕ, zero, suc, ◌+◌, ◌-◌, ◌<◌, ◌^◌, Bool, false, if◌then◌else◌, List, [], ◌∷◌, ◌++◌, filter, sum_by, Option, Some, None}
use Rattle.nv_entry.specs.declared.part.Part.{Part}
use Rattle.nv_entry.specs.declared.part.Part.TheVariants.{Kind, Mode, Size, Bound, Page}
use Rattle.nv_book.specs.declared.record.Record.{Record}
use Rattle.nv_book.specs.declared.run.RecordRun.{RecordRun}
use Rattle.nv_book.specs.Records.{goes_on, is_page}

-- the part so many pages on
abbrev pub part_on : ℕ → Part → Part
part_on n (Page p) = Page (p + n)
part_on n Kind = Kind
part_on n Mode = Mode
part_on n Size = Size
part_on n Bound = Bound

-- the record of the page that is so many pages behind
abbrev pub record_on : ℕ → Record → Record
record_on n r = record r { part = part_on n r.part }

-- the record `r`, and so many more after it, each of the next page
unfoldable pub series : ℕ → Record → List Record
series zero r = r ∷ []
series (suc n) r = r ∷ series n (record_on 1 r)

-- so many more parts may follow one in a run: pages follow a page, each below 2^32, and else none
abbrev pub PageRun : ℕ → Part → Type 0
PageRun more (Page p) = p + more < 2 ^ 32
PageRun more Kind = more ≡ 0
PageRun more Mode = more ≡ 0
PageRun more Size = more ≡ 0
PageRun more Bound = more ≡ 0

-- records of one inode, entry, birth and death with rising consecutive pages, stored as one run
pub record IsRun (r : RecordRun) : Type 0 where
  -- a part that is no page stands alone, and each page is below 2^32
  pub pages : PageRun r.more r.first.part

-- the records of a run, in order
abbrev pub run_records : RecordRun → List Record
run_records r = series r.more r.first

-- the last record of a run
abbrev pub last_of : RecordRun → Record
last_of r = record_on r.more r.first

-- the records of the runs, in order
unfoldable pub records_of : List RecordRun → List Record
records_of [] = []
records_of (r ∷ rs) = run_records r ++ records_of rs

-- the records of a run that was begun, if there is one, and of the runs after it
abbrev pub records_left : Option RecordRun → List RecordRun → List Record
records_left None runs = records_of runs
records_left (Some run) runs = run_records run ++ records_of runs

-- the second run goes on the first
abbrev pub joins : RecordRun → RecordRun → Bool
joins r s = goes_on (last_of r) s.first

-- two runs as one
abbrev pub joined : RecordRun → RecordRun → RecordRun
joined r s = record { first = r.first; more = r.more + (1 + s.more) }

-- the first run of a list goes on this one
abbrev pub joins_in : RecordRun → List RecordRun → Bool
joins_in r [] = false
joins_in r (s ∷ rs) = joins r s

-- runs of which no two neighbours are one
unfoldable pub AreRuns : List RecordRun → Type 0
AreRuns [] = Unit {0}
AreRuns (r ∷ rs) = IsRun r × (joins_in r rs ≡ false) × AreRuns rs

-- the run that was begun, if there is one, and runs behind it of which no two neighbours are one
abbrev pub AreLeft : Option RecordRun → List RecordRun → Type 0
AreLeft None runs = AreRuns runs
AreLeft (Some run) runs = IsRun run × AreRuns runs

-- a run put to the end of others, as one with the last of them if it goes on there
unfoldable pub put : List RecordRun → RecordRun → List RecordRun
put [] s = s ∷ []
put (r ∷ []) s = if joins r s then joined r s ∷ [] else r ∷ s ∷ []
put (r ∷ q ∷ rs) s = r ∷ put (q ∷ rs) s

-- the run goes on where the last of the others ends
unfoldable pub joins_last : List RecordRun → RecordRun → Bool
joins_last [] s = false
joins_last (r ∷ []) s = joins r s
joins_last (r ∷ q ∷ rs) s = joins_last (q ∷ rs) s

-- a run without its first record
abbrev pub rest_of : RecordRun → RecordRun
rest_of r = record { first = record_on 1 r.first; more = r.more - 1 }

-- how many blocks the records of a run have
abbrev pub pages_of : RecordRun → ℕ
pages_of r = if is_page r.first.part then r.more + 1 else 0

-- how many blocks the runs have whose first record passes the test
abbrev pub pages_where : (Record → Bool) → List RecordRun → ℕ
pages_where passes runs = sum_by pages_of (filter (λ (run : RecordRun). passes run.first) runs)
