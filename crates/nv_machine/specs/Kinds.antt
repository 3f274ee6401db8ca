-- The steps, one function a kind. What decides a step is an argument.
pub use Rattle.nv_calls.specs.Looks.{look_tests, seen_at}
use Rattle.std.specs.Prelude.{ℕ, zero, suc, ◌+◌, ◌-◌, ◌%◌, ◌||◌, Bool, true, false, if◌then◌else◌, nat_lt, not, List, [], ◌∷◌, ◌++◌, drop, length, map, take, Option, Some, None, Result, Ok, Err}
use Rattle.nv_calls.specs.declared.looked.LookupResult.{LookupResult}
use Rattle.nv_alloc.specs.Block.{BlockValue}
use Rattle.nv_alloc.specs.Giving.{after_giving, not_taken}
use Rattle.nv_alloc.specs.Numbers.{put_by}
use Rattle.nv_base.specs.declared.fault.Fault.{Fault}
use Rattle.nv_base.specs.declared.fault.Fault.TheVariants.{CommitLimit, Contended, NoInode, NoSpace}
use Rattle.nv_base.specs.Memory.{out_of_memory}
use Rattle.nv_book.specs.Book.{BookState, after_enter, with_journal}
use Rattle.nv_calls.specs.AllCalls.{answer}
use Rattle.nv_calls.specs.Plain.{Change}
use Rattle.nv_calls.specs.Refusals.{Check as Tests}
use Rattle.nv_calls.specs.Retiring.{erased, freed_by, number_back, retired, with_records}
use Rattle.nv_calls.specs.Slots.{entries_of, items_for, place_in}
use Rattle.nv_calls.specs.declared.answer.Answer.{Answer}
use Rattle.nv_calls.specs.declared.answer.Answer.TheVariants as answers
use Rattle.nv_entry.specs.Blocks.{item_blocks}
use Rattle.nv_cell.specs.Append.{appended, blocks_for}
use Rattle.nv_cell.specs.Cell.{CellState, killed_by, published}
use Rattle.nv_cell.specs.declared.killed.KilledPart.{KilledPart}
use Rattle.nv_entry.specs.declared.item.Entry.{Entry}
use Rattle.nv_epoch.specs.SnapList.{ids}
use Rattle.nv_journal.specs.declared.old_tail.OldTail.{OldTail}
use Rattle.nv_log.specs.Chain.{with_page}
use Rattle.nv_calls.specs.FillPages.{filled, fresh_pages}
use Rattle.nv_machine.specs.Reads.{copies, home_from, pages_wanted, plan_by, slot_at, slots_of, written_slots}
use Rattle.nv_machine.specs.Sequence.{sequel}
use Rattle.nv_cell.specs.Readers.{is_erased}
use Rattle.nv_machine.specs.World.{Answers, Append, ReturnNumber, Cleans, Close, Drains, Ending, Ends, Enter, Give, HandState, Lock, Look, Moves, Next, Number, Open, BoundAnew, Pick, Publish, Ready, Refuses, Retire, Running, Shared, SnapshotOrCleaner, TakeBlocks, TakeLogPages, Turn, Unlock, Waits, cell_at, go_to, list_at, with_book, with_cell, with_list, with_numbers, with_owner}

-- ---- how a call ends

-- all blocks of a hand: data blocks, log pages, and those of a chain
abbrev pub blocks_in : HandState → List BlockValue
blocks_in h = h.blocks ++ h.pages ++ h.chain

-- what a call is answered at its last step, for which no node is read
abbrev pub result_by : Ending → Running → Result Answer Fault
result_by Answers r = Ok (answer (λ handle. None) r.made r.call)
result_by (Refuses fault) r = Err fault
result_by BoundAnew r = Err Contended
result_by (Drains draining) r = Ok (answers.Count draining.released)
result_by (Cleans cleaned) r = Ok (answers.Cleaned cleaned.thorough cleaned.entries cleaned.pages)

-- a drain picks the next record, if it may release more
abbrev pub drained_turn : ℕ → ℕ → Shared → HandState → Running → Turn
drained_turn zero released s h r = Ends (Ok (answers.Count released)) s h
drained_turn (suc left) released s h r =
    Moves s h (record r { ending = Answers; slots = []; next = SnapshotOrCleaner (Pick (record { released = released; left = left })) })

-- what comes once nothing is locked and the hand is empty: the reply, or the next record of a
-- drain
abbrev pub last_turn : Ending → Shared → HandState → Running → Turn
last_turn Answers s h r = Ends (result_by Answers r) s h
last_turn (Refuses fault) s h r = Ends (Err fault) s h
last_turn BoundAnew s h r = Ends (Err Contended) s h
last_turn (Drains draining) s h r = drained_turn draining.left draining.released s h r
last_turn (Cleans cleaned) s h r = Ends (result_by (Cleans cleaned) r) s h

-- nothing is locked: blocks go home, CPU by CPU, and then a number goes back; where nothing is left, the step
-- replies, or a drain goes on
abbrev pub rest_turn : Option ℕ → Option ℕ → Shared → HandState → Running → Turn
rest_turn (Some cpu) number s h r = Moves s h (go_to (Give cpu) r)
rest_turn None (Some ino) s h r = Moves s h (go_to ReturnNumber r)
rest_turn None None s h r = last_turn r.ending s h r

-- the next round of looks, or the end by `Contended` where no round is left
abbrev pub again_turn : ℕ → Shared → HandState → Running → Turn
again_turn zero s h r = Ends (Err Contended) s h
again_turn (suc rounds) s h r = Moves s h (record r { ending = Answers; rounds = rounds; next = Look 0 })

-- what comes behind the last unlock: the last steps, or the next pick of a drain
abbrev pub over_turn : Ending → Shared → HandState → Running → Turn
over_turn Answers s h r = rest_turn (home_from 0 0 s.lists (blocks_in h)) h.ino s h r
over_turn (Refuses fault) s h r = rest_turn (home_from 0 0 s.lists (blocks_in h)) h.ino s h r
over_turn (Drains draining) s h r = rest_turn (home_from 0 0 s.lists (blocks_in h)) h.ino s h r
over_turn (Cleans cleaned) s h r = rest_turn (home_from 0 0 s.lists (blocks_in h)) h.ino s h r
over_turn BoundAnew s h r = again_turn r.rounds s h r

-- the call turns to its last steps, of which the first is to unlock what is locked
abbrev pub end_turn : List ℕ → Ending → Shared → HandState → Running → Turn
end_turn [] ending s h r = over_turn ending s h (record r { ending = ending })
end_turn (slot ∷ slots) ending s h r = Moves s h (record r { ending = ending; next = Unlock 0 })

-- the call is refused, and turns to its last steps
abbrev pub refuse : Fault → Shared → HandState → Running → Turn
refuse fault s h r = end_turn r.slots (Refuses fault) s h r

-- a step that grows anything: where `granted` it goes on, and else it refuses its call for want of
-- memory
abbrev pub grown : Bool → Turn → Shared → HandState → Running → Turn
grown true turn s h r = turn
grown false turn s h r = refuse out_of_memory s h r

-- the call goes on to what comes behind a step that has done its work
abbrev pub moves_past : Next → Shared → HandState → Running → Turn
moves_past done s h r = Moves s h (go_to (sequel r done) r)

-- ---- number: the lowest free number, if there is one

-- a number step: the lowest free inode number goes to the hand, if there is one
abbrev pub number_turn : List ℕ → Shared → HandState → Running → Turn
number_turn [] s h r = moves_past Number s h (record r { slots = slots_of s None r.looked r.call })
number_turn (ino ∷ numbers) s h r =
    moves_past Number (with_numbers numbers s) (record h { ino = Some ino }) (record r { slots = slots_of s (Some ino) r.looked r.call })

-- ---- look: what the names of one directory are bound to

-- a look: what it found is noted, or the call is refused, or waits
abbrev pub look_turn : Option ℕ → Tests → LookupResult → ℕ → Shared → HandState → Running → Turn
look_turn (Some other) tests found place s h r = Waits
look_turn None (Err fault) found place s h r = end_turn [] (Refuses fault) s h r
look_turn None (Ok passed) found place s h r = moves_past (Look place) s h (record r { looked = found; slots = slots_of s None found r.call })

-- ---- lock

-- a lock: it is the actor's, or the call waits
abbrev pub lock_turn : Option ℕ → ℕ → ℕ → Shared → HandState → Running → Turn
lock_turn (Some other) actor place s h r = Waits
lock_turn None actor place s h r = moves_past (Lock place) (with_owner (slot_at r.slots place) (Some actor) s) h r

-- ---- check

-- whether a check ends the call, and how: refused by the tests before the names are compared with
-- what the looks found; since a name was bound anew; refused by the other tests; refused for want
-- of a number; or answered, since there is nothing to commit
abbrev pub check_ending : Tests → Bool → Tests → Bool → List Change → Option Ending
check_ending (Err fault) same tests numbered effect = Some (Refuses fault)
check_ending (Ok passed) false tests numbered effect = Some BoundAnew
check_ending (Ok passed) true (Err fault) numbered effect = Some (Refuses fault)
check_ending (Ok passed) true (Ok all) false effect = Some (Refuses NoInode)
check_ending (Ok passed) true (Ok all) true [] = Some Answers
check_ending (Ok passed) true (Ok all) true (change ∷ effect) = None

-- a call goes on to the taking of log pages; where it wants none, it goes on to `ready`
abbrev pub wants_pages : ℕ → Shared → HandState → Running → Turn
wants_pages zero s h r = Moves s h (record r { wanted = 0; next = Ready })
wants_pages (suc n) s h r = Moves s h (record r { wanted = suc n; next = TakeLogPages 0 })

-- a call goes on to the taking of data blocks, or to that of log pages
abbrev pub wants_blocks : ℕ → ℕ → Shared → HandState → Running → Turn
wants_blocks zero block s h r = wants_pages (pages_wanted s r.slots (plan_by block s h r)) s h r
wants_blocks (suc n) block s h r = Moves s h (record r { wanted = suc n; next = TakeBlocks 0 })

-- what is to be taken needs room in the hand: where nothing is, nothing grows
abbrev pub wants_room : ℕ → ℕ → Bool
wants_room zero pages = nat_lt 0 pages
wants_room (suc blocks) pages = true

-- a check: it ends the call, or goes on to the takings
abbrev pub check_turn : Option Ending → Bool → ℕ → ℕ → Shared → HandState → Running → Turn
check_turn (Some ending) granted wanted block s h r = end_turn r.slots ending s h r
check_turn None granted wanted block s h r =
    grown (granted || not (wants_room wanted (pages_wanted s r.slots (plan_by block s h r)))) (wants_blocks wanted block s h r) s h r

-- ---- take: from one list, its lowest blocks

-- the list that is asked so many lists behind the actor's own
abbrev pub asked_list : ℕ → ℕ → ℕ → ℕ
asked_list cpus actor asked = (actor + asked) % cpus

-- what is shared once a list gave its lowest blocks
abbrev pub less_list : ℕ → ℕ → Shared → Shared
less_list cpu n s = with_list cpu (record (list_at s cpu) { blocks = drop n (list_at s cpu).blocks }) s

-- a taking of data blocks with so many still wanted, and with another list to ask or not: it asks
-- that one, goes on to log pages, or is refused
abbrev pub blocks_turn : ℕ → Bool → ℕ → ℕ → Shared → HandState → Running → Turn
blocks_turn zero more asked block s h r = wants_pages (pages_wanted s r.slots (plan_by block s h r)) s h r
blocks_turn (suc n) true asked block s h r = Moves s h (record r { wanted = suc n; next = TakeBlocks (asked + 1) })
blocks_turn (suc n) false asked block s h r = refuse NoSpace s h r

-- a taking of log pages with so many still wanted: the call is ready, asks the next list, or is
-- refused
abbrev pub pages_turn : ℕ → Bool → ℕ → Shared → HandState → Running → Turn
pages_turn zero more asked s h r = Moves s h (record r { wanted = 0; next = Ready })
pages_turn (suc n) true asked s h r = Moves s h (record r { wanted = suc n; next = TakeLogPages (asked + 1) })
pages_turn (suc n) false asked s h r = refuse NoSpace s h r

-- a taking of data blocks from a list
abbrev pub take_blocks_turn : ℕ → ℕ → ℕ → Shared → HandState → Running → Turn
take_blocks_turn cpu asked block s h r =
    blocks_turn (r.wanted - length (list_at s cpu).blocks) (nat_lt (asked + 1) (length s.lists)) asked block (less_list cpu r.wanted s)
    (record h { blocks = h.blocks ++ take r.wanted (list_at s cpu).blocks }) r

-- a taking of log pages from a list
abbrev pub take_log_pages_turn : ℕ → ℕ → Shared → HandState → Running → Turn
take_log_pages_turn cpu asked s h r =
    pages_turn (r.wanted - length (list_at s cpu).blocks) (nat_lt (asked + 1) (length s.lists)) asked (less_list cpu r.wanted s)
    (record h { pages = h.pages ++ take r.wanted (list_at s cpu).blocks }) r

-- ---- ready: all growths; then the fresh blocks have their bytes

-- the hand with its fresh blocks filled
abbrev pub with_bytes : ℕ → Shared → Running → HandState → HandState
with_bytes block s r h = record h { blocks = filled (fresh_pages block (copies s) r.call) h.blocks }

-- a ready: the plan stands, and the fresh blocks have their bytes
abbrev pub ready_turn : Bool → ℕ → Shared → HandState → Running → Turn
ready_turn granted block s h r =
    grown granted (moves_past Ready s (with_bytes block s r h) (record r { plan = plan_by block s h r })) s h r

-- ---- enter: the commit lock, and the commit's number and epoch

-- an enter: the next commit number and the commit lock, or the call waits, or is refused
abbrev pub enter_turn : Option ℕ → Bool → Bool → ℕ → Shared → HandState → Running → Turn
enter_turn (Some other) last granted actor s h r = Waits
enter_turn None true granted actor s h r = refuse CommitLimit s h r
enter_turn None false granted actor s h r =
    grown granted (moves_past Enter (record s { book = after_enter actor s.book; holder = Some actor }) h
    (record r { commit = s.book.commit + 1; epoch = s.book.snaps.epoch })) s h r

-- ---- append: one inode's entries, past its tail

-- a cell with more log pages
abbrev pub with_log_pages : List BlockValue → CellState → CellState
with_log_pages [] cell = cell
with_log_pages (b ∷ blocks) cell = with_log_pages blocks (record cell { chain = with_page b cell.chain })

-- a cell with more entries, each with the blocks of its pages from the front of these
abbrev pub with_entries : List Entry → List BlockValue → CellState → CellState
with_entries [] blocks cell = cell
with_entries (e ∷ entries) blocks cell =
    with_entries entries (drop (length (item_blocks e.item)) blocks) (appended e (blocks_for e.item blocks) cell)

-- the blocks that are left once these entries have theirs
abbrev pub blocks_left : List Entry → List BlockValue → List BlockValue
blocks_left [] blocks = blocks
blocks_left (e ∷ entries) blocks = blocks_left entries (drop (length (item_blocks e.item)) blocks)

-- the entries that a call has for a slot
abbrev pub entries_for : Running → ℕ → List Entry
entries_for r ino = entries_of r.commit r.epoch (place_in r.plan ino) (items_for r.plan ino)

-- an append: log pages, entries and data blocks go to the cell
abbrev pub append_turn : ℕ → ℕ → ℕ → Shared → HandState → Running → Turn
append_turn ino pages place s h r =
    moves_past (Append place) (with_cell ino (with_entries (entries_for r ino) h.blocks (with_log_pages (take pages h.pages) (cell_at s ino))) s)
    (record h { blocks = blocks_left (entries_for r ino) h.blocks; pages = drop pages h.pages }) r

-- ---- open and close the journal of the actor's CPU

-- the tails that a journal notes
abbrev pub old_tails : Shared → List ℕ → List OldTail
old_tails s slots = map (λ ino. record { ino = ino; tail = (cell_at s ino).chain.tail }) slots

-- an open: the journal of the CPU notes the old tails
abbrev pub open_turn : ℕ → Shared → HandState → Running → Turn
open_turn cpu s h r = moves_past Open (with_book (with_journal cpu (old_tails s (written_slots r)) s.book) s) h r

-- a close: the journal notes nothing any more, and a new inode keeps its number from here on
abbrev pub close_turn : ℕ → Shared → HandState → Running → Turn
close_turn cpu s h r = moves_past Close (with_book (with_journal cpu [] s.book) s) (record h { ino = None }) r

-- ---- publish: one inode

-- the hand with the killed parts of one more inode
abbrev pub with_killed : List KilledPart → HandState → HandState
with_killed parts h = record h { killed = h.killed ++ parts ∷ [] }

-- a publish: the tail moves, and the killed parts are in the hand
abbrev pub publish_turn : ℕ → ℕ → Shared → HandState → Running → Turn
publish_turn ino place s h r =
    moves_past (Publish place) (with_cell ino (published (cell_at s ino)) s) (with_killed (killed_by (cell_at s ino)) h) r

-- ---- retire: the killed parts of one inode, in order

-- the killed parts of the first inode that is yet to be retired
abbrev pub first_killed : List (List KilledPart) → List KilledPart
first_killed [] = []
first_killed (parts ∷ rest) = parts

-- the cell once its killed parts are retired: what a living snapshot holds is kept, and the rest
-- is out
abbrev pub retired_cell : ℕ → List KilledPart → Shared → Running → CellState
retired_cell ino killed s r = retired (ids s.book.snaps) ino r.epoch killed (cell_at s ino)

-- the book with the records of killed parts
abbrev pub retired_book : ℕ → List KilledPart → Shared → Running → BookState
retired_book ino killed s r = record s.book { manifests = with_records (ids s.book.snaps) ino r.epoch killed s.book.manifests }

-- the hand with the blocks that a retirement sets free, and without the first list of killed parts
abbrev pub with_freed : ℕ → List KilledPart → Shared → Running → HandState → HandState
with_freed ino killed s r h = record h {
  blocks = h.blocks ++ freed_by (ids s.book.snaps) ino r.epoch killed (cell_at s ino);
  killed = drop 1 h.killed;
}

-- the hand with the chain and the number of an inode that was erased, if it was; the number stays
-- out where the slot's next generation is the last
abbrev pub with_erased : ℕ → CellState → HandState → HandState
with_erased ino cell h =
    if is_erased cell then record h { chain = h.chain ++ cell.chain.blocks; ino = number_back ino cell h.ino } else h

-- a retire: records are filed, blocks go to the hand, and the inode may be erased
abbrev pub retire_turn : ℕ → List KilledPart → ℕ → Shared → HandState → Running → Turn
retire_turn ino killed place s h r =
    moves_past (Retire place) (with_cell ino (erased (retired_cell ino killed s r)) (with_book (retired_book ino killed s r) s))
    (with_erased ino (retired_cell ino killed s r) (with_freed ino killed s r h)) r

-- ---- leave

-- a leave: the commit lock is free
abbrev pub leave_turn : Shared → HandState → Running → Turn
leave_turn s h r = end_turn r.slots r.ending (record s { holder = None }) h r

-- ---- unlock

-- what comes behind an unlock: the next one, or what comes behind the last
abbrev pub unlocked_turn : Bool → ℕ → Shared → HandState → Running → Turn
unlocked_turn true place s h r = Moves s h (go_to (Unlock (place + 1)) r)
unlocked_turn false place s h r = over_turn r.ending s h r

-- an unlock: the slot's lock is free
abbrev pub unlock_turn : ℕ → Shared → HandState → Running → Turn
unlock_turn place s h r = unlocked_turn (nat_lt (place + 1) (length r.slots)) place (with_owner (slot_at r.slots place) None s) h r

-- ---- give: all that is at home on one CPU

-- the hand without what a list takes
abbrev pub given : ℕ → Shared → HandState → HandState
given cpu s h = record h {
  blocks = not_taken (list_at s cpu) h.blocks;
  pages = not_taken (after_giving (list_at s cpu) h.blocks) h.pages;
  chain = not_taken (after_giving (list_at s cpu) (h.blocks ++ h.pages)) h.chain;
}

-- what is shared once a list took from a hand
abbrev pub with_given : ℕ → HandState → Shared → Shared
with_given cpu h s = with_list cpu (after_giving (list_at s cpu) (blocks_in h)) s

-- a give: a list takes what is at home there
abbrev pub give_turn : ℕ → Shared → HandState → Running → Turn
give_turn cpu s h r =
    rest_turn (home_from (cpu + 1) 0 s.lists (blocks_in (given cpu s h))) h.ino (with_given cpu h s) (given cpu s h) r

-- ---- back: the number in the hand goes to the pool

-- a return number: the number goes to the pool, and the call ends
abbrev pub return_number_turn : Option ℕ → Shared → HandState → Running → Turn
return_number_turn None s h r = last_turn r.ending s h r
return_number_turn (Some ino) s h r = last_turn r.ending (with_numbers (put_by (λ n. n) ino s.pool.numbers) s) (record h { ino = None }) r

-- ---- visit

-- a visit: it answers what it read, or is refused, or waits
abbrev pub visit_turn : Option ℕ → Tests → Bool → Answer → Shared → HandState → Running → Turn
visit_turn (Some other) tests granted found s h r = Waits
visit_turn None (Err fault) granted found s h r = refuse fault s h r
visit_turn None (Ok passed) granted found s h r = grown granted (Ends (Ok found) s h) s h r
