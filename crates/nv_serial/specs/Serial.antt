-- The plain world with numbers: what stands between calls that are made one at a time. It has no steps, hands, locks, marks
-- or counts: which numbers are free is told by the logs, the snapshots and the records.
use Rattle.std.specs.Prelude.{ℕ, ◌-◌, List, [], ◌∷◌, filter, map, replicate, Option, slice_index_or}
use Rattle.nv_base.specs.declared.fault.Fault.{Fault}
use Rattle.nv_base.specs.declared.geometry.GeometryNumbers.{GeometryNumbers}
use Rattle.nv_base.specs.declared.numbers.Handle.{Handle}
use Rattle.nv_book.specs.Listed.{unheld}
use Rattle.nv_book.specs.declared.record.Record.{Record}
use Rattle.nv_calls.specs.Plain.{node_in}
use Rattle.nv_calls.specs.Retiring.{name_of}
use Rattle.nv_calls.specs.declared.answer.Answer.{Answer}
use Rattle.nv_entry.specs.Held.{Retention}
use Rattle.nv_entry.specs.declared.item.Entry.{Entry}
use Rattle.nv_entry.specs.declared.node.NodeCopy.{NodeCopy}
use Rattle.nv_machine.specs.Format.{root_entry}
use Rattle.nv_machine.specs.Held.{is_of_slot}
use Rattle.nv_machine.specs.PlainRun.{Copy, Plain, new_plain}
use Rattle.nv_machine.specs.World.{Done, Refused, Reply}
use Rattle.nv_serial.specs.LogPages.{Page, entries_in}

-- ---- the state

-- an inode slot of the world with numbers
pub record NumberedSlot : Type 0 where
  -- the slot's generation
  pub generation : ℕ
  -- the pages of its log
  pub pages : List Page

-- THE WORLD WITH NUMBERS
pub record Serial : Type 0 where
  -- the numbers of the geometry
  pub numbers : GeometryNumbers
  -- the plain world
  pub plain : Plain
  -- the inode slots, with their logs
  pub slots : List NumberedSlot
  -- all records, in one list
  pub records : List Record

-- a new world: the root, whose log has block 0
abbrev pub new_serial : GeometryNumbers → Serial
new_serial g = record {
  numbers = g;
  plain = new_plain;
  slots = (record { generation = 1; pages = (record { number = 0; entries = root_entry ∷ [] }) ∷ [] })
      ∷ replicate (g.inodes - 1) (record { generation = 1; pages = [] });
  records = [];
}

-- ---- what stands in it

-- a slot that is not there
abbrev pub no_slot : NumberedSlot
no_slot = record { generation = 0; pages = [] }

-- an inode slot
abbrev pub slot_of : Serial → ℕ → NumberedSlot
slot_of s ino = slice_index_or s.slots ino no_slot

-- the log of an inode slot
abbrev pub log_in : Serial → ℕ → List Entry
log_in s ino = entries_in (slot_of s ino).pages

-- the living snapshots, oldest first
abbrev pub living : Serial → List ℕ
living s = map (λ (c : Copy). c.snapshot) s.plain.copies

-- the nodes as they are, without the commits that changed them last
abbrev pub copies_now : Serial → Handle → Option NodeCopy
copies_now s = node_in s.plain.nodes

-- the records that no living snapshot holds, which are to be released
abbrev pub deferred_in : Serial → List Record
deferred_in s = unheld (living s) s.records

-- what keeps the pairs of a slot: the living snapshots, and the deferred records by name
abbrev pub keepers : Serial → ℕ → Retention
keepers s ino = record {
  block = s.numbers.block;
  snapshots = living s;
  pending = map name_of (filter (is_of_slot ino) (deferred_in s));
}

-- ---- what a call leaves

-- what a call comes to
pub record Outcome : Type 0 where
  -- what the call is answered, or the fault that refuses it
  pub reply : Reply
  -- the world after the call
  pub world : Serial

-- a refusal, and the world as it was
abbrev pub refused : Fault → Serial → Outcome
refused fault s = record { reply = Refused fault; world = s }

-- an answer, and the world as it was
abbrev pub told : Answer → Serial → Outcome
told a s = record { reply = Done a; world = s }
