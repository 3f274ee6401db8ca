-- How many blocks drains have picked and not yet released.
use Rattle.std.specs.Prelude.{ℕ, if◌then◌else◌, Option, Some, None}
use Rattle.nv_book.specs.Records.{is_page}
use Rattle.nv_book.specs.declared.record.Record.{Record}
use Rattle.nv_core.specs.declared.reservation.Reservation.{Reservation}
use Rattle.nv_core.specs.declared.reservation.Reservation.TheVariants as reserved
use Rattle.nv_core.specs.declared.next.Next.{Next}
use Rattle.nv_core.specs.declared.next.Next.TheVariants as next
use Rattle.nv_core.specs.declared.next.SnapshotOrCleanerStep.{SnapshotOrCleanerStep}
use Rattle.nv_core.specs.declared.next.SnapshotOrCleanerStep.TheVariants as on
use Rattle.nv_core.specs.declared.running.Running.{Running}
use Rattle.nv_core.specs.declared.world.Actor.{Actor}

-- 1 for the record of a file page, else 0
abbrev pub block_of : Record → ℕ
block_of d = if is_page d.part then 1 else 0

-- the blocks of the record that a step has picked
abbrev pub picked_on : SnapshotOrCleanerStep → ℕ
picked_on (on.LockPicked draining picked) = block_of picked
picked_on (on.Release draining picked) = block_of picked
picked_on other = 0

-- the blocks of the record that such a next step has picked
abbrev pub picked_at : Next → ℕ
picked_at (next.SnapshotOrCleaner step) = picked_on step
picked_at other = 0

-- the blocks of the record that a call has picked
abbrev pub picked_by : Option Running → ℕ
picked_by None = 0
picked_by (Some running) = picked_at running.next

-- the blocks of the record that an actor's call has picked, while its hand is in no commit
abbrev pub picked_with : Reservation → Option Running → ℕ
picked_with (reserved.Hand hand) running = picked_by running
picked_with other running = 0

-- the blocks of the record that an actor has picked: one or none
abbrev pub picked_of : Actor → ℕ
picked_of actor = picked_with actor.reserved actor.running
