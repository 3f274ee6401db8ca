-- What a world with numbers reports: counts over its logs, snapshots and records.
pub use Rattle.nv_serial.specs.Snapshots.{first_of, snapshot_tree_told}
use Rattle.std.specs.Prelude.{ℕ, ◌&&◌, ◌++◌, is_none, List, [], ◌∷◌, filter, length, map}
use Rattle.std.specs.List.{range_with_len, sum_by}
use Rattle.nv_book.specs.Records.{block_count, holder_of, is_held_by, is_page}
use Rattle.nv_book.specs.declared.record.Record.{Record}
use Rattle.nv_cell.specs.declared.tally.LogPageCounts.{LogPageCounts}
use Rattle.nv_entry.specs.Counts.{live_of, valid_of}
use Rattle.nv_entry.specs.Held.{Retention, is_needed}
use Rattle.nv_entry.specs.Log.{pairs}
use Rattle.nv_entry.specs.Tree.{root, tree_from}
use Rattle.nv_entry.specs.declared.held.Pair.{Pair}
use Rattle.nv_entry.specs.declared.tree.TreeNode.{TreeNode}
use Rattle.nv_epoch.specs.Holders.{without}
use Rattle.nv_serial.specs.Free.{free_on}
use Rattle.nv_serial.specs.LogPages.{Page, entries_in}
use Rattle.nv_serial.specs.Serial.{NumberedSlot, Serial, copies_now, deferred_in, keepers, living, log_in, slot_of}

-- ---- lists: the free blocks of each CPU

-- what `lists` tells: the free blocks of each CPU, lowest first.
-- Example, with 16 blocks of 4 bytes on 2 CPUs and 4 entries a log page, where all calls are of
-- actor 0. A `create` of `a` in the root makes 1.1, with its log page in block 1. A `write` of
-- `aaaabbbbcccc` at 0 takes blocks 2, 3 and 4, and `snap` makes snapshot 1. A `write` of `XXXXXX`
-- at 3 takes blocks 5, 6 and 7. The Size and the three pages of the first write are records then.
-- Then `lists` says `cpu 0 -` and `cpu 1 8-15`, and `space` says `free 8 chain 2 data 6 pending 0
-- hand 0`. Three data blocks are current, and snapshot 1 holds the other three. The log of `a` has
-- three entries on one log page, of which two are live and all are valid. After `drop 1` the old
-- three are pending, and data are 3. A `drain 9` is answered 4, and `lists` says `cpu 0 2-4` and
-- `cpu 1 8-15`.
abbrev pub lists_told : Serial → List (List ℕ)
lists_told s = map (free_on s) (range_with_len 0 s.numbers.cpus)

-- ---- space: free blocks, log pages, data blocks that are needed, and those that are deferred; none is in a hand

-- how many blocks are free
abbrev pub free_count : Serial → ℕ
free_count s = sum_by (λ cpu. length (free_on s cpu)) (range_with_len 0 s.numbers.cpus)

-- how many log pages there are
abbrev pub chain_count : Serial → ℕ
chain_count s = sum_by (λ (slot : NumberedSlot). length slot.pages) s.slots

-- how many file pages of an inode's log are needed
abbrev pub needed_in : Serial → ℕ → ℕ
needed_in s ino = length (filter (λ (p : Pair). is_page p.part && is_needed (living s) p) (pairs s.numbers.block (log_in s ino)))

-- how many file pages of all logs are needed
abbrev pub data_count : Serial → ℕ
data_count s = sum_by (needed_in s) (range_with_len 0 (length s.slots))

-- how many deferred records have a block
abbrev pub pending_count : Serial → ℕ
pending_count s = block_count (deferred_in s)

-- ---- log: the entries of a slot, and of each page how many have a current pair, and how many one that is kept

-- how many entries the log of an inode has
abbrev pub entry_count : Serial → ℕ → ℕ
entry_count s ino = length (log_in s ino)

-- the counts of pages, one after another
abbrev pub pages_counted : Retention → List Page → List LogPageCounts
pages_counted r [] = []
pages_counted r (p ∷ pages) = record {
  live = live_of r.block (length p.entries) (p.entries ++ entries_in pages);
  valid = valid_of r (length p.entries) (p.entries ++ entries_in pages);
} ∷ pages_counted r pages

-- what `log` tells of a slot
abbrev pub log_told : Serial → ℕ → List LogPageCounts
log_told s ino = pages_counted (keepers s ino) (slot_of s ino).pages

-- ---- snaps: the recorded blocks that a snapshot holds, and those that nothing would hold without it

-- how many blocks of records a snapshot holds
abbrev pub held_by : Serial → ℕ → ℕ
held_by s snapshot = block_count (filter (is_held_by snapshot) s.records)

-- how many blocks of records a snapshot holds and no other living one does
abbrev pub gain_by : Serial → ℕ → ℕ
gain_by s snapshot =
    block_count (filter (λ (r : Record). is_held_by snapshot r && is_none (holder_of (without snapshot (living s)) r)) s.records)

-- ---- the tree now; that of a snapshot is what a show is answered

-- the tree now
abbrev pub tree_told : Serial → List TreeNode
tree_told s = tree_from (copies_now s) (length s.slots) [] root
