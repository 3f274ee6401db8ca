-- What a tidying of a store leaves of its world.
use Rattle.std.specs.Prelude.{◌≡◌, ◌<◌, ◌-◌, ◌^◌, [], length}
use Rattle.nv_base.specs.declared.limits.TheConstants.{DRAIN}
use Rattle.nv_calls.specs.declared.call.Call.{Call}
use Rattle.nv_calls.specs.declared.call.Call.TheVariants as call
use Rattle.nv_calls.specs.declared.snapshot_or_cleaner_call.SnapshotOrCleanerCall.TheVariants as on
use Rattle.nv_entry.specs.Tree.{root}
use Rattle.nv_serial.specs.Free.{used_in}
use Rattle.nv_serial.specs.OneCall.{serial_call}
use Rattle.nv_serial.specs.Serial.{Serial, deferred_in}
use Rattle.nv_effects.specs.Held.{needed_in}

-- the world after a call
abbrev pub after : Serial → Call → Serial
after s c = (serial_call s 0 c).world

-- the world after a drain of as many records as it may release
abbrev pub drained : Serial → Serial
drained s = after s (call.SnapshotOrCleaner (on.Drain (2 ^ 64 - 1)))

-- the world after a drain and a cleaning of the log of the root
abbrev pub tidied : Serial → Serial
tidied s = after (drained s) (call.SnapshotOrCleaner (on.Auto root.ino))

-- A TIDYING drains, and cleans the log of the root
pub record IsTidied (old new : Serial) : Type 0 where
  -- the world is the one after both
  pub world : new ≡ tidied old
  -- where fewer records wait than a drain may release, none waits then
  pub none_waits : length (deferred_in old) < DRAIN → deferred_in new ≡ []
  -- where none waits, the blocks in use are those that the entries and the backups need
  pub needed : deferred_in new ≡ [] → used_in new ≡ needed_in new
