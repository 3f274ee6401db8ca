-- What a hand has once its call is made ready.
use Rattle.std.specs.Prelude.{ℕ, List, slice_index_or}
use Rattle.nv_alloc.specs.declared.hand.Hand.{Hand}
use Rattle.nv_calls.specs.FillPages.{filled_by}
use Rattle.nv_calls.specs.declared.update.Update.{Update}
use Rattle.nv_cell.specs.Cell.{CellValue}
use Rattle.nv_machine.specs.World.{HandState}
use Rattle.nv_core.specs.Shown.{ShownCall, hand_of, shared_of, shown}
use Rattle.nv_core.specs.GhostCalls.{planned}
use Rattle.nv_core.specs.declared.reservation.Reservation.{Reservation}
use Rattle.nv_core.specs.declared.running.Running.{Running}
use Rattle.nv_core.specs.declared.shared.Shared.{Shared}

-- the hand of a call that is ready: its data blocks have the pages of the call, over these cells
-- and with this text
abbrev pub filled_hand : List (ℕ × CellValue) → List ℕ → Update → Hand → HandState
filled_hand cells text u hand = record (hand_of hand) { blocks = filled_by cells (λ i. slice_index_or text i 0) u hand.«data» }

-- what is told of a call after it was to be made ready
abbrev pub planned_by : Reservation → Shared → Hand → Running → ShownCall → ShownCall
planned_by result shared hand running told =
    planned result shared.geometry.numbers.block (shared_of shared) (hand_of hand) (shown told running) told
