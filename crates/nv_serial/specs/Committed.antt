-- What a commit leaves of a world with numbers: logs on pages, nodes, and the records of what it killed; and what is erased.
use Rattle.std.specs.Prelude.{ℕ, ◌+◌, ◌&&◌, ◌++◌, Bool, if◌then◌else◌, not, List, [], ◌∷◌, drop, length, map, take, option_to_list}
use Rattle.std.specs.List.{flat_map, list_any, range_with_len, sum_by}
use Rattle.nv_base.specs.declared.numbers.Handle.{Handle}
use Rattle.nv_book.specs.declared.record.Record.{Record}
use Rattle.nv_calls.specs.AllCalls.{effect}
use Rattle.nv_calls.specs.Plain.{nodes_after}
use Rattle.nv_calls.specs.Slots.{entries_of, items_for, place_in}
use Rattle.nv_calls.specs.declared.call.Call.{Call}
use Rattle.nv_calls.specs.declared.plan.InodePlan.{InodePlan}
use Rattle.nv_cell.specs.Numbers.{killed_numbers, killed_part}
use Rattle.nv_cell.specs.Readers.{is_gone}
use Rattle.nv_cell.specs.declared.killed.KilledPart.{KilledPart}
use Rattle.nv_entry.specs.Held.{keeps}
use Rattle.nv_entry.specs.Log.{pairs}
use Rattle.nv_entry.specs.declared.item.Entry.{Entry}
use Rattle.nv_machine.specs.Recorded.{with_parts}
use Rattle.nv_serial.specs.LogPages.{Page, fresh, pages_more, with_all}
use Rattle.nv_serial.specs.Serial.{NumberedSlot, Serial, copies_now, keepers, living, log_in, slot_of}

-- ---- logs

-- how many more log pages the entries of a plan need in one slot
abbrev pub need_of : Serial → List InodePlan → ℕ → ℕ
need_of s plan ino = pages_more s.numbers.page (slot_of s ino).pages (length (items_for plan ino))

-- how many more log pages the entries of a plan need in all slots
abbrev pub needs : Serial → List InodePlan → ℕ
needs s plan = sum_by (need_of s plan) (range_with_len 0 (length s.slots))

-- the entries that the next commit appends in one slot
abbrev pub entries_by : Serial → List InodePlan → ℕ → List Entry
entries_by s plan ino = entries_of (s.plain.commit + 1) s.plain.epoch (place_in plan ino) (items_for plan ino)

-- the log pages that a slot gets of these numbers, which go to the slots by rising inode number
abbrev pub pages_by : Serial → List InodePlan → List ℕ → ℕ → List Page
pages_by s plan numbers ino =
    fresh (take (need_of s plan ino) (drop (sum_by (need_of s plan) (range_with_len 0 ino)) numbers))

-- a slot once a plan was appended: with log pages of these numbers
abbrev pub slot_after : Serial → List InodePlan → List ℕ → ℕ → NumberedSlot
slot_after s plan numbers ino = record (slot_of s ino) {
  pages = with_all s.numbers.page (entries_by s plan ino) ((slot_of s ino).pages ++ pages_by s plan numbers ino);
}

-- ---- records

-- what entries kill, in the order of the log
abbrev pub killed_of : ℕ → List Entry → List Entry → List KilledPart
killed_of block log entries =
    flat_map (λ n. option_to_list (killed_part (log ++ entries) n)) (killed_numbers block (log ++ entries) (length log))

-- the record list after a commit: slot by slot, what it kills and a snapshot holds goes to the end
abbrev pub records_with : Serial → List InodePlan → List ℕ → List Record → List Record
records_with s plan [] rs = rs
records_with s plan (ino ∷ inos) rs =
    records_with s plan inos
    (with_parts (living s) ino s.plain.epoch (killed_of s.numbers.block (log_in s ino) (entries_by s plan ino)) rs)

-- ---- erasing

-- the inode of a slot is over: it is gone, and nothing of it is kept
abbrev pub is_over : Serial → ℕ → Bool
is_over s ino =
    is_gone (log_in s ino) && not (list_any (keeps (keepers s ino)) (pairs s.numbers.block (log_in s ino)))

-- a slot after erasing: where its inode is over, it is empty and of the next generation
abbrev pub left_in : Serial → ℕ → NumberedSlot
left_in s ino = if is_over s ino then record { generation = (slot_of s ino).generation + 1; pages = [] } else slot_of s ino

-- the world once every inode that is over was erased
abbrev pub erased : Serial → Serial
erased s = record s { slots = map (left_in s) (range_with_len 0 (length s.slots)) }

-- ---- THE WORLD AFTER A COMMIT of a plan, with the effect of its call and with these blocks as log pages

-- THE WORLD AFTER A COMMIT of a plan, with its call's effect, and these blocks as log pages
abbrev pub committed : Serial → Handle → Call → List InodePlan → List ℕ → Serial
committed s made c plan numbers = erased (record s {
  plain = record s.plain {
    nodes = nodes_after (s.plain.commit + 1) (effect (copies_now s) made c) s.plain.nodes;
    commit = s.plain.commit + 1;
  };
  slots = map (slot_after s plan numbers) (range_with_len 0 (length s.slots));
  records = records_with s plan (range_with_len 0 (length s.slots)) s.records;
})
