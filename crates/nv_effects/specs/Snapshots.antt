-- What calls leave of the living snapshots, in the plain world with numbers.
use Rattle.std.specs.Prelude.{◌≡◌, ℕ, ◌==◌, ◌++◌, Bool, true, false, not, List, [], ◌∷◌, filter, length}
use Rattle.std.specs.List.{AllByRecursion}
use Rattle.nv_calls.specs.declared.call.Call.{Call}
use Rattle.nv_calls.specs.declared.call.Call.TheVariants as call
use Rattle.nv_calls.specs.declared.snapshot_or_cleaner_call.SnapshotOrCleanerCall.{SnapshotOrCleanerCall}
use Rattle.nv_calls.specs.declared.snapshot_or_cleaner_call.SnapshotOrCleanerCall.TheVariants as on
use Rattle.nv_machine.specs.PlainRun.{Copy, is_of}
use Rattle.nv_serial.specs.OneCall.{serial_call}
use Rattle.nv_serial.specs.Serial.{Serial, copies_now}

-- the call makes a snapshot or drops one
abbrev pub changes_snapshots : SnapshotOrCleanerCall → Bool
changes_snapshots on.Snap = true
changes_snapshots (on.Drop snapshot) = true
changes_snapshots other = false

-- the call drops this snapshot
abbrev pub drops : ℕ → Call → Bool
drops snapshot (call.SnapshotOrCleaner (on.Drop other)) = other == snapshot
drops snapshot c = false

-- the plain world stays, as large as it was.
-- Nodes, snapshots, epoch and number of the last commit stay, and so do the geometry and the count of inode slots.
pub record KeepsPlain (old new : Serial) : Type 0 where
  -- the plain world stays
  pub plain : new.plain ≡ old.plain
  -- the geometry stays
  pub numbers : new.numbers ≡ old.numbers
  -- there are as many inode slots
  pub slots : length new.slots ≡ length old.slots

-- a making adds a copy of the nodes as they are, which the epoch names
abbrev pub new_copy : Serial → Copy
new_copy s = record { snapshot = s.plain.epoch; nodes = copies_now s; pins = 0 }

-- a making adds a copy of all nodes as they are, and nothing else changes.
pub record HasSnapped (old : Serial) (snapshot : ℕ) (new : Serial) : Type 0 where
  -- the epoch names it
  pub named : snapshot ≡ old.plain.epoch
  -- it is the newest
  pub snapshots : new.plain.copies ≡ old.plain.copies ++ new_copy old ∷ []
  -- the nodes stay
  pub nodes : new.plain.nodes ≡ old.plain.nodes
  -- the geometry stays
  pub numbers : new.numbers ≡ old.numbers
  -- there are as many inode slots
  pub slots : length new.slots ≡ length old.slots

-- a drop takes one snapshot out, and nothing else of the plain world changes.
pub record HasDropped (old : Serial) (snapshot : ℕ) (new : Serial) : Type 0 where
  -- the others stay
  pub snapshots : new.plain.copies ≡ filter (λ copy. not (is_of snapshot copy)) old.plain.copies
  -- the nodes stay
  pub nodes : new.plain.nodes ≡ old.plain.nodes
  -- the geometry stays
  pub numbers : new.numbers ≡ old.numbers
  -- there are as many inode slots
  pub slots : length new.slots ≡ length old.slots

-- ---- one call after another

-- a call of an actor
abbrev pub CallOf : Type 0
CallOf = ℕ × Call

-- the world after calls, one after another, answered or refused
abbrev pub after_calls : List CallOf → Serial → Serial
after_calls [] s = s
after_calls (c ∷ calls) s = after_calls calls (serial_call s c.0 c.1).world

-- none of them drops this snapshot
abbrev pub NoneDrops : ℕ → List CallOf → Type 0
NoneDrops snapshot calls = AllByRecursion (λ (c : CallOf). drops snapshot c.1 ≡ false) calls
