-- How far the turns of a drain have come.
use Rattle.std.specs.Prelude.{◌≡◌, ◌⊎◌, ◌<◌, ℕ, zero, suc, ◌+◌, Bool, true, false, Option, Some, Ok, Err, slice_get}
use Rattle.nv_alloc.specs.declared.hand.Hand.{Hand}
use Rattle.nv_base.specs.Memory.{out_of_memory}
use Rattle.nv_base.specs.declared.geometry.GeometryNumbers.{GeometryNumbers}
use Rattle.nv_book.specs.Book.{BookState}
use Rattle.nv_book.specs.declared.record.Record.{Record}
use Rattle.nv_calls.specs.declared.answer.Answer.TheVariants as answers
use Rattle.nv_cell.specs.Cell.{CellState}
use Rattle.nv_machine.specs.SnapshotOrCleaner.{one_more}
use Rattle.nv_machine.specs.World.{Draining, Drains, HandState, Release, Running, SnapshotOrCleaner, empty_hand, go_to}
use Rattle.nv_sessions.specs.Cleaning.{CanRelease}
use Rattle.nv_sessions.specs.Underway.{HasCome, UnlocksNext}
use Rattle.nv_steps.specs.LastSteps.{once_drained}
use Rattle.nv_steps.specs.OnBook.{once_picked}
use Rattle.nv_steps.specs.OnCell.{once_ending}
use Rattle.nv_steps.specs.Runs.{IsRun}
use Rattle.nv_steps.specs.declared.picks.Picked.{Picked}
use Rattle.nv_steps.specs.declared.picks.Picked.TheVariants as pick

-- ---- picks

-- where a drain that has released so many ends at its pick, it is answered that, or memory was refused
abbrev pub EndsPick : ℕ → Picked → Type 0
EndsPick released (pick.First first) = Unit {0}
EndsPick released (pick.Ends told) = (told ≡ Ok (answers.Count released)) ⊎ (told ≡ Err out_of_memory)

-- what is picked from a book is its first deferred record, and nothing else of it changes
abbrev pub IsPickedFrom : BookState → BookState → Picked → Type 0
IsPickedFrom old new (pick.First first) = (slice_get old.deferred 0 ≡ Some first) × (new ≡ record old { deferred = new.deferred })
IsPickedFrom old new (pick.Ends told) = new ≡ old

-- a record was picked
abbrev pub is_record : Option Picked → Bool
is_record (Some (pick.First picked)) = true
is_record other = false

-- what is picked is this record, which can be released from a cell with this hand
abbrev pub CanReleasePicked : CellState → Record → Hand → Picked → Type 0
CanReleasePicked cell first hand (pick.First picked) = (picked ≡ first) × CanRelease cell picked hand × (0 < hand.«data».room)
CanReleasePicked cell first hand (pick.Ends told) = Unit {0}

-- ---- calls

-- a call that holds the cell of the record that it has picked
abbrev pub once_locked : Draining → Record → Running → Running
once_locked draining picked r = go_to (SnapshotOrCleaner (Release draining picked)) (once_picked draining r picked)

-- a call that has released it, and unlocks next
abbrev pub once_released : Draining → Record → Running → Running
once_released draining picked r = once_ending (Drains (one_more draining)) (once_locked draining picked r)

-- ---- a drain, by its pick: where that ended the call, it is a run

-- it has looked at the first record
abbrev pub HasLooked : GeometryNumbers → ℕ → HandState → Running → Picked → Type 0
HasLooked numbers actor h0 r0 (pick.First first) = Unit {0}
HasLooked numbers actor h0 r0 (pick.Ends told) = IsRun numbers actor h0 r0 told empty_hand

-- it has picked
abbrev pub HasPicked : GeometryNumbers → ℕ → HandState → Running → Draining → Running → Picked → Type 0
HasPicked numbers actor h0 r0 draining r (pick.First picked) = HasCome numbers actor h0 r0 empty_hand (once_picked draining r picked)
HasPicked numbers actor h0 r0 draining r (pick.Ends told) = IsRun numbers actor h0 r0 told empty_hand

-- it has released what it picked, which leaves this hand
abbrev pub HasReleased : GeometryNumbers → ℕ → HandState → Running → Draining → Running → HandState → Picked → Type 0
HasReleased numbers actor h0 r0 draining r h (pick.First picked) = UnlocksNext numbers actor h0 r0 h (once_released draining picked r)
HasReleased numbers actor h0 r0 draining r h (pick.Ends told) = IsRun numbers actor h0 r0 told empty_hand

-- with so many released it goes on to its next pick, if it may release so many more, or has ended
abbrev pub GoesOn : GeometryNumbers → ℕ → HandState → Running → ℕ → ℕ → Running → Type 0
GoesOn numbers actor h0 r0 released zero r = IsRun numbers actor h0 r0 (Ok (answers.Count released)) empty_hand
GoesOn numbers actor h0 r0 released (suc left) r = HasCome numbers actor h0 r0 empty_hand (once_drained released left r)

-- it has given back what one record more set free
abbrev pub HasDrained : GeometryNumbers → ℕ → HandState → Running → ℕ → ℕ → Running → Picked → Type 0
HasDrained numbers actor h0 r0 released left r (pick.First picked) = GoesOn numbers actor h0 r0 (released + 1) left r
HasDrained numbers actor h0 r0 released left r (pick.Ends told) = IsRun numbers actor h0 r0 told empty_hand
