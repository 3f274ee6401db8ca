-- Snapshots beside the plain world's copies: what they read as, their pins, and for what their calls are refused.
use Rattle.std.specs.Prelude.{◌≡◌, ◌≢◌, ℕ, zero, suc, ◌+◌, ◌==◌, Bool, true, false, if◌then◌else◌, nat_le, List, [], ◌∷◌, count_by, length, Option, Some, None, Ok, Err}
use Rattle.nv_base.specs.declared.fault.Fault.{Fault}
use Rattle.nv_base.specs.declared.fault.Fault.TheVariants.{EpochLimit, NoSnapshot, Pinned, TooManySnapshots}
use Rattle.nv_base.specs.declared.limits.TheConstants.{NUMBER}
use Rattle.nv_base.specs.declared.numbers.Handle.{Handle}
use Rattle.nv_calls.specs.Plain.{node_in}
use Rattle.nv_calls.specs.Refusals.{Check as Tests, passes}
use Rattle.nv_entry.specs.Tree.{root, tree_from}
use Rattle.nv_entry.specs.declared.tree.TreeNode.{TreeNode}
use Rattle.nv_epoch.specs.SnapList.{Snapshots as Living, pins_of}
use Rattle.nv_epoch.specs.declared.snapshot.Snapshot.{Snapshot}
use Rattle.nv_machine.specs.PlainRun.{Copy, Plain, is_of}
use Rattle.nv_machine.specs.Settled.{settled_copies}
use Rattle.nv_machine.specs.SnapshotOrCleaner.{drop_tests, make_tests}
use Rattle.nv_machine.specs.Step.{step}
use Rattle.nv_machine.specs.World.{Actor, Drop, Event, Go, Make, Next, Pin, Refused, Release, Reply, Running, Shared, Show, SnapshotOrCleanerStep, SnapshotOrCleaner, Start, Unpin, World, actor_at}

-- ---- copies

-- A LIVING SNAPSHOT READS AS A COPY of the plain world
pub record IsCopied (s : Shared) (snapshot : Snapshot) (copy : Copy) : Type 0 where
  -- the numbers are the same
  pub number : snapshot.number ≡ copy.snapshot
  -- the pins are as many
  pub pins : snapshot.pins ≡ copy.pins
  -- at its epoch the settled log of each slot gives the copy's node
  pub nodes : (handle : Handle) → settled_copies s snapshot.number handle ≡ copy.nodes handle

-- each living snapshot reads as the copy in its place
abbrev pub AreCopied : Shared → List Snapshot → List Copy → Type 0
AreCopied s [] [] = Unit {0}
AreCopied s [] (copy ∷ copies) = ⊥
AreCopied s (snapshot ∷ living) [] = ⊥
AreCopied s (snapshot ∷ living) (copy ∷ copies) = IsCopied s snapshot copy × AreCopied s living copies

-- ---- trees

-- the tree of the plain world where there are so many inodes
abbrev pub plain_tree : ℕ → Plain → List TreeNode
plain_tree inodes p = tree_from (node_in p.nodes) inodes [] root

-- the tree of the plain world's copy of a snapshot, if it has one
abbrev pub copied_tree : ℕ → List Copy → ℕ → Option (List TreeNode)
copied_tree inodes [] snapshot = None
copied_tree inodes (copy ∷ copies) snapshot =
    if is_of snapshot copy then Some (tree_from copy.nodes inodes [] root) else copied_tree inodes copies snapshot

-- ---- pins: what is between a show's first step and its last

-- such a step is of a show that pins the snapshot
abbrev pub pins_on : ℕ → SnapshotOrCleanerStep → Bool
pins_on snapshot (Show other showing) = other == snapshot
pins_on snapshot (Unpin other seen) = other == snapshot
pins_on snapshot other = false

-- a call before this step pins the snapshot
abbrev pub pins_at : ℕ → Next → Bool
pins_at snapshot (SnapshotOrCleaner step) = pins_on snapshot step
pins_at snapshot other = false

-- an actor's call pins the snapshot
abbrev pub pins_by_call : ℕ → Option Running → Bool
pins_by_call snapshot None = false
pins_by_call snapshot (Some r) = pins_at snapshot r.next

-- how many `show` calls of a snapshot are between their first step and their last
abbrev pub shows_of : ℕ → World → ℕ
shows_of snapshot w = count_by (λ (actor : Actor). pins_by_call snapshot actor.running) w.actors

-- a snapshot that lives has a pin for each such call, and one that does not live has no such call
abbrev pub ArePins : ℕ → Option ℕ → Type 0
ArePins shows None = shows ≡ 0
ArePins shows (Some pins) = pins ≡ shows

-- ---- refusals

-- the pins of a copy, if there is one of the snapshot
abbrev pub pins_in : List Copy → ℕ → Option ℕ
pins_in [] snapshot = None
pins_in (copy ∷ copies) snapshot = if is_of snapshot copy then Some copy.pins else pins_in copies snapshot

-- a drop is refused by the pins of its snapshot
abbrev pub test_pins : Option ℕ → Tests
test_pins None = Err NoSnapshot
test_pins (Some zero) = passes
test_pins (Some (suc pins)) = Err Pinned

-- a show is refused where its snapshot does not live
abbrev pub test_there : Option ℕ → Tests
test_there None = Err NoSnapshot
test_there (Some pins) = passes

-- for what the plain world refuses a step of `snap`, `drop` or `show`, where so many snapshots may
-- live: by its epoch, its copies and their pins
abbrev pub plain_tests : ℕ → SnapshotOrCleanerStep → Plain → Tests
plain_tests most Make p =
    if nat_le NUMBER p.epoch then Err EpochLimit else if nat_le most (length p.copies) then Err TooManySnapshots else passes
plain_tests most (Drop snapshot) p = test_pins (pins_in p.copies snapshot)
plain_tests most (Pin snapshot) p = test_there (pins_in p.copies snapshot)
plain_tests most other p = passes

-- for what the machine refuses such a step, by its list of snapshots
abbrev pub tests_on : SnapshotOrCleanerStep → Living → Tests
tests_on Make snaps = make_tests snaps
tests_on (Drop snapshot) snaps = drop_tests (pins_of snaps snapshot)
tests_on (Pin snapshot) snaps = test_there (pins_of snaps snapshot)
tests_on other snaps = passes

-- the steps that the list of snapshots may refuse
abbrev pub is_tested : SnapshotOrCleanerStep → Bool
is_tested Make = true
is_tested (Drop snapshot) = true
is_tested (Pin snapshot) = true
is_tested other = false

-- a reply goes by tests: it tells their fault, and no fault where they pass
abbrev pub GoesBy : Tests → Reply → Type 0
GoesBy (Err fault) reply = reply ≡ Refused fault
GoesBy (Ok passed) reply = (fault : Fault) → reply ≢ Refused fault

-- ---- releases

-- 1 for a step that releases a record, else 0
abbrev pub releases_at : Next → ℕ
releases_at (SnapshotOrCleaner (Release draining picked)) = 1
releases_at other = 0

-- how many records the next step of an actor's call releases
abbrev pub releases_of : Option Running → ℕ
releases_of None = 0
releases_of (Some r) = releases_at r.next

-- how many records an event of an actor releases
abbrev pub releases_in : ℕ → World → Event → ℕ
releases_in actor w (Start other c) = 0
releases_in actor w (Go other granted) = if other == actor then releases_of (actor_at w actor).running else 0

-- HOW MANY RECORDS an actor's steps release: one at each `release` step. Example, in a new world
-- of 16 blocks: a file gets a page under epoch 1, snapshot 1 is made, and the page is written
-- again. The Size and the page of the first Write are recorded, in the manifest of 1, which holds
-- one block. A `show` call of it has four steps: `pin`, `show` of the root, `show` of the file,
-- `unpin`. A `drop` call in between is refused as pinned. Once snapshot 1 is dropped both records
-- are deferred. `drain 1` releases the Size in four steps: `pick`, `lock picked`, `release`,
-- `unlock`. The next one releases the page in five, with its block in the hand after the third and
-- in a free list after the last. One `pick` more finds nothing.
abbrev pub releases : ℕ → World → List Event → ℕ
releases actor w [] = 0
releases actor w (e ∷ events) = releases_in actor w e + releases actor (step w e).world events
