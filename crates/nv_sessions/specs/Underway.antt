-- How far the turns of a session's call have come.
use Rattle.std.specs.Prelude.{◌≡◌, ◌≢◌, ◌<◌, ℕ, true, List, [], ◌∷◌, length, Option, Some, None}
use Rattle.nv_alloc.specs.Block.{BlockValue}
use Rattle.nv_base.specs.declared.geometry.GeometryNumbers.{GeometryNumbers}
use Rattle.nv_machine.specs.Hands.{AreGiven}
use Rattle.nv_machine.specs.World.{BoundAnew, HandState, Running, Unlock, go_to}
use Rattle.nv_steps.specs.OnList.{IsGive}
use Rattle.nv_steps.specs.Parts.{IsThere, OwnerIs}
use Rattle.nv_steps.specs.Runs.{Fits, Leads, Unheld, known_book, known_cell}
use Rattle.nv_steps.specs.Turns.{Made}
use Rattle.nv_steps.specs.declared.lists.LeftInHand.{LeftInHand}
use Rattle.nv_steps.specs.declared.lists.LeftInHand.TheVariants as left_in

-- ---- turns on locks

-- a turn that found the lock of a slot free, and took it
abbrev pub locking : ℕ → ℕ → HandState → Running → Made
locking actor ino h r = record {
  running = r;
  hand = h;
  granted = true;
  found = OwnerIs ino None ∷ [];
  left = OwnerIs ino (Some actor) ∷ [];
}

-- a turn that gave the lock of a slot back
abbrev pub unlocking : ℕ → ℕ → HandState → Running → Made
unlocking actor ino h r = record {
  running = r;
  hand = h;
  granted = true;
  found = OwnerIs ino (Some actor) ∷ [];
  left = OwnerIs ino None ∷ [];
}

-- ---- how far a call has come

-- these turns of an actor, the last one first, hold no lock
pub record HoldNothing (actor : ℕ) (turns : List Made) : Type 0 where
  -- no cell's
  pub cells : (ino : ℕ) → known_cell actor turns ino ≡ Unheld
  -- nor the book's
  pub book : known_book actor turns ≡ Unheld

-- A CALL HAS COME TO THIS, and holds no lock
pub record HasCome (numbers : GeometryNumbers) (actor : ℕ) (h0 : HandState) (r0 : Running) (h : HandState) (r : Running) : Type 0 where
  -- its turns, of which the last is first
  pub turns : List Made
  -- they lead from its start to this
  pub leads : Leads numbers actor h0 r0 turns h r
  -- they hold nothing
  pub free : HoldNothing actor turns

-- A CALL UNLOCKS NEXT its one slot, and is to end behind that
pub record UnlocksNext (numbers : GeometryNumbers) (actor : ℕ) (h0 : HandState) (r0 : Running) (h : HandState) (r : Running) : Type 0 where
  -- its turns, of which the last is first
  pub turns : List Made
  -- they lead from its start to this
  pub leads : Leads numbers actor h0 r0 turns h r
  -- the unlock comes next
  pub next : r.next ≡ Unlock 0
  -- it does not look its names up again
  pub ends : r.ending ≢ BoundAnew
  -- the slot that it holds
  pub ino : ℕ
  -- it holds this one alone
  pub slots : r.slots ≡ ino ∷ []
  -- there is such a slot
  pub inside : ino < numbers.inodes
  -- its turns hold no other cell
  pub others : (other : ℕ) → ino ≢ other → known_cell actor turns other ≡ Unheld
  -- nor the book
  pub book : known_book actor turns ≡ Unheld

-- A CALL GIVES BACK what its last turn has left in its hand: next go blocks home, or the number, or that turn was its last step.
-- Behind the unlock it is as it was there, except for the next step.
pub record GivesBack (numbers : GeometryNumbers) (actor : ℕ) (h0 : HandState) (r0 : Running) (left : LeftInHand) (h : HandState)
    (r : Running) : Type 0 where
  -- the turns before the last one, of which the last is first
  pub turns : List Made
  -- the last turn
  pub last : Made
  -- they lead to the last one
  pub leads : Leads numbers actor h0 r0 turns last.hand last.running
  -- it fits them
  pub fits : Fits actor turns last.found
  -- some state has what it found
  pub there : IsThere numbers last.found
  -- it has left that in the hand
  pub gives : IsGive numbers actor last left h
  -- the call is the same, except for the next step
  pub same : last.running ≡ go_to last.running.next r
  -- with the last one they hold nothing
  pub free : HoldNothing actor (last ∷ turns)

-- ---- what is left in a hand

-- what is left once no block is
abbrev pub number_left : Option ℕ → LeftInHand
number_left None = left_in.Nothing
number_left (Some ino) = left_in.Number

-- a CPU is told that is home of the first of some blocks; or none is home of any
abbrev pub IsFirstHome : GeometryNumbers → List BlockValue → Option ℕ → Type 0
IsFirstHome numbers blocks None = AreGiven numbers numbers.cpus blocks
IsFirstHome numbers blocks (Some cpu) = (0 < length blocks) × (cpu < numbers.cpus) × AreGiven numbers cpu blocks
