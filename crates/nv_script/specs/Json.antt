-- The values of a trace as JSON: strings, arrays, and the parts of a world as objects. Names are spelled as in scripts, and numbers are
-- plain decimal. Example: the free list of CPU 0 with the blocks 1 to 3 and 7 is `{"cpu":0,"free":[[1,3],[7,7]]}`.
use Rattle.std.specs.Prelude.{ℕ, ◌+◌, ◌-◌, ◌/◌, ◌%◌, ◌==◌, ◌||◌, ◌&&◌, Bool, false, if◌then◌else◌, nat_le, nat_lt, List, [], ◌∷◌, ◌++◌, length, take, drop, filter, codes, decimal, Option, Some, None, slice_index_or, unwrap_or}
use Rattle.std.specs.List.{flat_map, range_with_len}
use Rattle.std.specs.Fmt.{digit_glyph}
use Rattle.nv_alloc.specs.Block.{BlockValue, numbers_of}
use Rattle.nv_alloc.specs.FreeList.{FreeBlocks}
use Rattle.nv_alloc.specs.Runs.{free_runs_of}
use Rattle.nv_alloc.specs.declared.runs.FreeRun.{FreeRun}
use Rattle.nv_base.specs.declared.node.Kind.{Kind}
use Rattle.nv_base.specs.declared.node.Kind.TheVariants.{Dir, File}
use Rattle.nv_book.specs.Book.{BookState}
use Rattle.nv_book.specs.declared.manifest.Manifest.{Manifest}
use Rattle.nv_book.specs.declared.record.Record.{Record}
use Rattle.nv_cell.specs.Cell.{CellState, log_of}
use Rattle.nv_cell.specs.Readers.{marks_by_entry}
use Rattle.nv_cell.specs.declared.mark.Mark.{Mark}
use Rattle.nv_cell.specs.declared.mark.Mark.TheVariants as mark
use Rattle.nv_base.specs.declared.numbers.Handle.{Handle}
use Rattle.nv_entry.specs.declared.item.BlockRun.{BlockRun}
use Rattle.nv_entry.specs.declared.item.Entry.{Entry}
use Rattle.nv_entry.specs.declared.item.Item.{Item}
use Rattle.nv_entry.specs.declared.item.Item.TheVariants as items
use Rattle.nv_entry.specs.declared.part.Part.{Part}
use Rattle.nv_entry.specs.declared.part.Part.TheVariants as part
use Rattle.nv_epoch.specs.SnapList.{pins_of}
use Rattle.nv_journal.specs.declared.old_tail.OldTail.{OldTail}
use Rattle.nv_log.specs.Chain.{ChainState, end_of, start_of}
use Rattle.nv_script.specs.Texts.{handle_text, line_of}
use Rattle.nv_script.specs.Words.{escaped, lines_of}

-- ---- values

-- a byte as it stands in a string: a quotation mark and a backslash behind a backslash, and each byte that is not visible by its number
abbrev pub quoted_byte : ℕ → List ℕ
quoted_byte byte =
    if (byte == 34) || (byte == 92) then 92 ∷ byte ∷ []
    else if nat_le 32 byte && nat_le byte 126 then byte ∷ []
    else codes "\\u00" ++ digit_glyph false (byte / 16) ∷ digit_glyph false (byte % 16) ∷ []

-- a string
abbrev pub quoted : List ℕ → List ℕ
quoted bytes = codes "\"" ++ flat_map quoted_byte bytes ++ codes "\""

-- what stands before the value at a place of an array
abbrev pub comma_at : ℕ → List ℕ
comma_at place = if place == 0 then [] else codes ","

-- the values of an array from a place on
abbrev pub values_from : {A : Type 0} → (ℕ → A → List ℕ) → ℕ → List A → List ℕ
values_from text place [] = []
values_from text place (one ∷ more) = comma_at place ++ text place one ++ values_from text (place + 1) more

-- an array of values that know their places
abbrev pub array_by : {A : Type 0} → (ℕ → A → List ℕ) → List A → List ℕ
array_by text all = codes "[" ++ values_from text 0 all ++ codes "]"

-- an array
abbrev pub array : {A : Type 0} → (A → List ℕ) → List A → List ℕ
array text all = array_by (λ place one. text one) all

-- an object of these members
abbrev pub object : List (List ℕ) → List ℕ
object members = codes "{" ++ values_from (λ place member. member) 0 members ++ codes "}"

-- a number, or null
abbrev pub or_null : Option ℕ → List ℕ
or_null None = codes "null"
or_null (Some number) = decimal number

-- ---- free lists

-- a run of free blocks: the first and the last
abbrev pub run_pair : FreeRun → List ℕ
run_pair run = codes "[" ++ decimal run.first ++ codes "," ++ decimal run.last ++ codes "]"

-- the free list of a CPU
abbrev pub list_object : ℕ → FreeBlocks → List ℕ
list_object cpu list =
    codes "{\"cpu\":" ++ decimal cpu ++ codes ",\"free\":" ++ array run_pair (free_runs_of (numbers_of list.blocks)) ++ codes "}"

-- the numbers of blocks
abbrev pub numbers_array : List BlockValue → List ℕ
numbers_array blocks = array decimal (numbers_of blocks)

-- ---- cells

-- a file or a directory
abbrev pub kind_word : Kind → List ℕ
kind_word File = codes "file"
kind_word Dir = codes "dir"

-- the first item of an inode
abbrev pub init_members : Kind → ℕ → List ℕ
init_members kind mode = codes "\"item\":\"init\",\"kind\":\"" ++ kind_word kind ++ codes "\",\"mode\":" ++ decimal mode

-- an item that writes pages
abbrev pub write_members : ℕ → BlockRun → ℕ → List ℕ
write_members first run size =
    codes "\"item\":\"write\",\"first\":" ++ decimal first ++ codes ",\"start\":" ++ decimal run.start ++ codes ",\"len\":"
    ++ decimal run.len ++ codes ",\"size\":" ++ decimal size

-- one that binds a name
abbrev pub bind_members : List ℕ → Handle → List ℕ
bind_members name to =
    codes "\"item\":\"bind\",\"name\":" ++ quoted (escaped name) ++ codes ",\"to\":\"" ++ handle_text to ++ codes "\""

-- one that takes a name away
abbrev pub unbind_members : List ℕ → List ℕ
unbind_members name = codes "\"item\":\"unbind\",\"name\":" ++ quoted (escaped name)

-- an item with its fields
abbrev pub item_members : Item → List ℕ
item_members (items.Init kind mode) = init_members kind mode
item_members (items.Write first run size) = write_members first run size
item_members (items.SetSize size) = codes "\"item\":\"set_size\",\"size\":" ++ decimal size
item_members (items.SetMode mode) = codes "\"item\":\"set_mode\",\"mode\":" ++ decimal mode
item_members (items.Bind name to) = bind_members name to
item_members (items.Unbind name) = unbind_members name
item_members items.Gone = codes "\"item\":\"gone\""

-- what keeps a part
abbrev pub mark_text : Mark → List ℕ
mark_text mark.Current = codes "\"current\""
mark_text mark.Killed = codes "\"killed\""
mark_text mark.Kept = codes "\"kept\""
mark_text mark.Out = codes "\"out\""

-- the marks of the entry at a place of the log; past the tail there are none
abbrev pub marks_at : CellState → ℕ → List Mark
marks_at c place = slice_index_or (marks_by_entry (log_of c) c.marks) place []

-- an entry with the marks of its parts
abbrev pub entry_object : Entry → List Mark → List ℕ
entry_object e marks =
    codes "{\"commit\":" ++ decimal e.id.commit ++ codes ",\"place\":" ++ decimal e.id.place ++ codes ",\"epoch\":" ++ decimal e.epoch
    ++ codes "," ++ item_members e.item ++ codes ",\"marks\":" ++ array mark_text marks ++ codes "}"

-- the entries of a page, those past the tail too
abbrev pub entries_on : ChainState → ℕ → List Entry
entries_on chain page = take (end_of chain page - start_of chain page) (drop (start_of chain page) chain.entries)

-- a page of a log: its block, and its entries
abbrev pub page_object : CellState → ℕ → BlockValue → List ℕ
page_object c page block =
    codes "{\"block\":" ++ decimal block.number ++ codes ",\"entries\":"
    ++ array_by (λ place e. entry_object e (marks_at c (start_of c.chain page + place))) (entries_on c.chain page) ++ codes "}"

-- a cell before its pages
abbrev pub cell_head : (ino generation tail : ℕ) → List ℕ
cell_head ino generation tail =
    codes "{\"ino\":" ++ decimal ino ++ codes ",\"gen\":" ++ decimal generation ++ codes ",\"tail\":" ++ decimal tail ++ codes ",\"pages\":"

-- a cell: its pages, each with its entries
abbrev pub cell_object : ℕ → CellState → List ℕ
cell_object ino c = cell_head ino c.generation c.chain.tail ++ array_by (page_object c) c.chain.blocks ++ codes "}"

-- the lock of a slot
abbrev pub lock_object : ℕ → Option ℕ → List ℕ
lock_object ino owner = codes "{\"ino\":" ++ decimal ino ++ codes ",\"owner\":" ++ or_null owner ++ codes "}"

-- ---- the book

-- a part of an entry
abbrev pub part_text : Part → List ℕ
part_text part.Kind = codes "\"kind\""
part_text part.Mode = codes "\"mode\""
part_text part.Size = codes "\"size\""
part_text part.Bound = codes "\"name\""
part_text (part.Page page) = codes "\"page " ++ decimal page ++ codes "\""

-- a record
abbrev pub record_object : Record → List ℕ
record_object r =
    codes "{\"ino\":" ++ decimal r.ino ++ codes ",\"commit\":" ++ decimal r.entry.commit ++ codes ",\"place\":" ++ decimal r.entry.place
    ++ codes ",\"part\":" ++ part_text r.part ++ codes ",\"birth\":" ++ decimal r.birth ++ codes ",\"death\":" ++ decimal r.death
    ++ codes "}"

-- an inode with its old tail
abbrev pub tail_pair : OldTail → List ℕ
tail_pair noted = codes "[" ++ decimal noted.ino ++ codes "," ++ decimal noted.tail ++ codes "]"

-- the journal of a CPU
abbrev pub journal_object : BookState → ℕ → List ℕ
journal_object b cpu =
    codes "{\"cpu\":" ++ decimal cpu ++ codes ",\"tails\":" ++ array tail_pair (slice_index_or b.journals cpu []) ++ codes "}"

-- a journal is open
abbrev pub is_open : BookState → ℕ → Bool
is_open b cpu = nat_lt 0 (length (slice_index_or b.journals cpu []))

-- the CPUs whose journals are open
abbrev pub open_journals : BookState → List ℕ
open_journals b = filter (is_open b) (range_with_len 0 (length b.journals))

-- a living snapshot, before its records
abbrev pub snap_head : (snapshot pins : ℕ) → List ℕ
snap_head snapshot pins =
    codes "{\"snapshot\":" ++ decimal snapshot ++ codes ",\"pins\":" ++ decimal pins ++ codes ",\"records\":"

-- a living snapshot with its records
abbrev pub snap_object : BookState → Manifest → List ℕ
snap_object b m =
    snap_head m.snapshot (unwrap_or (pins_of b.snaps m.snapshot) 0) ++ array record_object m.records ++ codes "}"

-- the epoch and the last commit
abbrev pub book_head : (epoch commit : ℕ) → List ℕ
book_head epoch commit = codes "{\"epoch\":" ++ decimal epoch ++ codes ",\"commit\":" ++ decimal commit ++ codes ",\"journals\":"

-- the open journals, and the living snapshots
abbrev pub book_lists : BookState → List ℕ
book_lists b = array (journal_object b) (open_journals b) ++ codes ",\"snaps\":" ++ array (snap_object b) b.manifests

-- the book
abbrev pub book_object : BookState → List ℕ
book_object b =
    book_head b.snaps.epoch b.commit ++ book_lists b ++ codes ",\"deferred\":" ++ array record_object b.deferred ++ codes "}"

-- ---- lines

-- the line of a script
abbrev pub text_line : ℕ → List ℕ → List ℕ
text_line number line = line_of (codes "{\"line\":" ++ decimal number ++ codes ",\"text\":" ++ quoted line ++ codes "}")

-- a line of an answer. Behind the last line end of an answer stands nothing
abbrev pub answer_line : ℕ → List ℕ → List ℕ
answer_line number [] = []
answer_line number (byte ∷ bytes) =
    line_of (codes "{\"line\":" ++ decimal number ++ codes ",\"answer\":" ++ quoted (byte ∷ bytes) ++ codes "}")

-- each line of an answer
abbrev pub answer_lines : ℕ → List ℕ → List ℕ
answer_lines number text = flat_map (answer_line number) (lines_of text)
