-- What a call on snapshots, or a cleaner, has when it turns to its last steps.
use Rattle.std.proofs.Common.{◌≡◌, ℕ, ◌==◌, ◌<◌, if◌then◌else◌, Bool, true, false, List, [], ◌∷◌, arith, length, length-append, refl}
use Rattle.nv_alloc.specs.Block.{BlockValue}
use Rattle.nv_alloc.specs.declared.hand.Hand.{Hand}
use Rattle.nv_base.specs.declared.geometry.GeometryNumbers.{GeometryNumbers}
use Rattle.nv_calls.specs.Retiring as calls
use Rattle.nv_calls.specs.declared.looked.LookupResult.{LookupResult}
use Rattle.nv_cell.specs.Cell.{CellState}
use Rattle.nv_cell.specs.Readers.{is_erased}
use Rattle.nv_clean.specs.Cleaned.{with_chain}
use Rattle.nv_clean.specs.Plans.{WantedValue}
use Rattle.nv_machine.specs.Kinds.{end_turn}
use Rattle.nv_machine.specs.World as machine
use Rattle.nv_steps.specs.OnCell.{once_ending}
use Rattle.nv_core.specs.GhostCalls.{IsLookAt, IsSnapshotOrCleaner}
use Rattle.nv_core.specs.Rooms.{CanEnd, HoldsOne, IsHandOf, IsNoVisit, LooksAsTold}
use Rattle.nv_core.specs.declared.next.Ending.{Ending}
use Rattle.nv_core.specs.declared.next.Ending.TheVariants as ending
use Rattle.nv_core.specs.declared.request.Request.{Request}
use Rattle.nv_core.specs.declared.request.Request.TheVariants as request
use Rattle.nv_core.specs.declared.running.Running.{Running}

-- ---- the call

no_visit : (j : Request) → IsSnapshotOrCleaner j → IsNoVisit j
no_visit (request.SnapshotOrCleaner on) is = tt
no_visit other is = absurd is

none_looked : (j : Request) (looked : LookupResult) → IsSnapshotOrCleaner j → LooksAsTold j looked
none_looked (request.SnapshotOrCleaner on) looked is = tt
none_looked other looked is = absurd is

-- its names are never bound anew
pub can_end : (running : Running) (how : Ending) → IsSnapshotOrCleaner running.request → (how ≡ ending.BoundAnew → IsLookAt 0 running.request)
    → CanEnd running how
can_end running how is overtaken = record {
  request = no_visit running.request is;
  looks = none_looked running.request running.looked is;
  overtaken = overtaken;
}

-- a call that holds something unlocks next
pub unlocks : (slots : List ℕ) (how : machine.Ending) (s : machine.Shared) (h : machine.HandState) (r : machine.Running) → 0 < length slots
    → end_turn slots how s h r ≡ machine.Moves s h (once_ending how r)
unlocks [] how s h r some = absurd (omega (arith, some))
unlocks (slot ∷ slots) how s h r some = refl

-- ---- the hand

pub holds_with : (ino : ℕ) (mid : CellState) (hand : Hand) → HoldsOne hand → HoldsOne (calls.hand_with ino mid hand)
holds_with ino mid hand one = go (is_erased mid) where
  go : (b : Bool)
      → HoldsOne (if b then record hand { chain = mid.chain.blocks; ino = calls.number_back ino mid hand.ino } else hand)
  go true = one
  go false = one

pub holds_back : (free : List BlockValue) (hand : Hand) → HoldsOne hand → HoldsOne (record hand { «data» = calls.with_back free hand.data })
holds_back free hand one = omega (arith, one, length-append hand.data.blocks free)

pub chain_stays : (g : GeometryNumbers) (walk : WantedValue) (cell : CellState) (hand : Hand) → IsHandOf g hand
    → IsHandOf g (with_chain walk cell hand)
chain_stays g walk cell hand is = go (walk.dropped == 0) where
  moved : Hand
  moved = record hand { pages = record hand.pages { blocks = []; room = 0 }; chain = cell.chain.blocks }

  go : (b : Bool) → IsHandOf g (if b then hand else moved)
  go true = is
  go false = record { blocks = is.blocks; pages = is.pages }
