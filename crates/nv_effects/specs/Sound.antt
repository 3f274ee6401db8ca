-- What holds of every world with numbers to which calls and stops led.
use Rattle.std.specs.Prelude.{◌≡◌, ◌<◌, true, length, Some}
use Rattle.std.specs.List.{AllByRecursion}
use Rattle.nv_base.specs.declared.numbers.Handle.{Handle}
use Rattle.nv_cell.specs.Readers.{has_entry}
use Rattle.nv_entry.specs.declared.node.NodeCopy.{NodeCopy}
use Rattle.nv_machine.specs.Directories.{AreTree}
use Rattle.nv_machine.specs.PlainRun.{Copy}
use Rattle.nv_serial.specs.Serial.{Serial, copies_now, log_in}

-- A SOUND WORLD WITH NUMBERS: its directories form a tree, now and at each living snapshot.
-- A sound world: it has an actor and an inode slot. Each node has as many bytes as its size says, and a log. Its directories form a
-- tree, now and at each living snapshot, and each snapshot is of an earlier epoch.
pub record IsSoundWorld (s : Serial) : Type 0 where
  -- it has an actor
  pub actors : 0 < s.numbers.actors
  -- it has an inode slot
  pub some_slots : 0 < length s.slots
  -- each node has as many bytes as its size says
  pub sizes : (handle : Handle) (node : NodeCopy) → copies_now s handle ≡ Some node → length node.bytes ≡ node.size
  -- each node has a log
  pub logs : (handle : Handle) (node : NodeCopy) → copies_now s handle ≡ Some node → has_entry (log_in s handle.ino) ≡ true
  -- directories form a tree
  pub tree : AreTree (copies_now s)
  -- those of each living snapshot do
  pub copies : AllByRecursion (λ (copy : Copy). AreTree copy.nodes) s.plain.copies
  -- each snapshot is of an earlier epoch
  pub before : AllByRecursion (λ (copy : Copy). copy.snapshot < s.plain.epoch) s.plain.copies
