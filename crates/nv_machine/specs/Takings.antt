-- What a taking asks, list by list: its actor's own first, and the next as long as blocks are wanted.
use Rattle.std.specs.Prelude.{◌≡◌, ℕ, zero, suc, ◌+◌, ◌-◌, ◌%◌, ◌<◌, ◌==◌, if◌then◌else◌, Bool, true, false, List, [], ◌∷◌, length, Option, Some, None}
use Rattle.std.specs.List.{sum_by}
use Rattle.nv_base.specs.declared.fault.Fault.{Fault}
use Rattle.nv_base.specs.declared.fault.Fault.TheVariants.{NoSpace}
use Rattle.nv_machine.specs.Kinds.{asked_list, blocks_in}
use Rattle.nv_machine.specs.Step.{step, turn}
use Rattle.nv_machine.specs.World.{Ends, Event, Fresh, Go, HandState, SnapshotOrCleaner, Moves, Next, Running, Shared, Start, TakeBlocks, TakeLogPages, Turn, Waits, World, actor_at, list_at}

-- ---- what was asked

-- a list that a step asked for blocks
pub record Asked : Type 0 where
  -- the CPU whose list it is
  pub cpu : ℕ
  -- how many blocks the list had before the step
  pub had : ℕ
  -- how many it has after the step
  pub left : ℕ
  -- how many more blocks the hand has after the step
  pub more : ℕ

-- a taking: what it wants, and what it has got so far
pub record Taking : Type 0 where
  -- how many blocks it wants in all
  pub wanted : ℕ
  -- the lists that it has asked, the last one first
  pub asked : List Asked

-- a taking that has asked no list
abbrev pub no_taking : Taking
no_taking = record { wanted = 0; asked = [] }

-- what a list had and gave, where it was asked
abbrev pub asked_in : ℕ → Shared → HandState → Shared → HandState → Asked
asked_in cpu s h t after = record {
  cpu = cpu;
  had = length (list_at s cpu).blocks;
  left = length (list_at t cpu).blocks;
  more = length (blocks_in after) - length (blocks_in h);
}

-- the taking with one more list that was asked
abbrev pub and_asked : ℕ → Shared → HandState → Shared → HandState → Taking → Taking
and_asked cpu s h t after taking = record taking { asked = asked_in cpu s h t after ∷ taking.asked }

-- the taking behind a step: it has one more list where the step asks one
abbrev pub asking : Next → ℕ → Shared → HandState → Shared → HandState → Taking → Taking
asking (TakeBlocks asked) actor s h t after taking = and_asked (asked_list (length s.lists) actor asked) s h t after taking
asking (TakeLogPages asked) actor s h t after taking = and_asked (asked_list (length s.lists) actor asked) s h t after taking
asking (SnapshotOrCleaner (Fresh ino asked wanted)) actor s h t after taking =
    and_asked (asked_list (length s.lists) actor asked) s h t after taking
asking other actor s h t after taking = taking

-- the taking behind a step that goes on: another one begins at a first list
abbrev pub beginning_with : Next → ℕ → Taking → Taking
beginning_with (TakeBlocks asked) wanted taking = if asked == 0 then record { wanted = wanted; asked = [] } else taking
beginning_with (TakeLogPages asked) wanted taking = if asked == 0 then record { wanted = wanted; asked = [] } else taking
beginning_with (SnapshotOrCleaner (Fresh ino asked wanted)) other taking =
    if asked == 0 then record { wanted = wanted; asked = [] } else taking
beginning_with other wanted taking = taking

-- the taking behind a turn
abbrev pub taking_by : Next → ℕ → Shared → HandState → Turn → Taking → Taking
taking_by k actor s h (Moves t after r) taking = beginning_with r.next r.wanted (asking k actor s h t after taking)
taking_by k actor s h Waits taking = taking
taking_by k actor s h (Ends result t after) taking = asking k actor s h t after taking

-- ---- over events

-- the taking behind an actor's step
abbrev pub taking_of : Option Running → World → ℕ → Bool → Taking → Taking
taking_of None w actor granted taking = taking
taking_of (Some r) w actor granted taking =
    taking_by r.next actor w.shared (actor_at w actor).hand
    (turn w.numbers.block actor granted w.shared (actor_at w actor).hand r) taking

-- the taking of an actor behind an event
abbrev pub taking_in : ℕ → World → Event → Taking → Taking
taking_in actor w (Start other c) taking = taking
taking_in actor w (Go other granted) taking =
    if other == actor then taking_of (actor_at w actor).running w actor granted taking else taking

-- THE LAST TAKING of an actor, after these events
abbrev pub taking_after : ℕ → World → List Event → Taking → Taking
taking_after actor w [] taking = taking
taking_after actor w (e ∷ events) taking = taking_after actor (step w e).world events (taking_in actor w e taking)

-- ---- what is to hold of it

-- the list gave all that it had, to the hand
pub record IsEmptied (one : Asked) : Type 0 where
  -- the list has nothing left
  pub left : one.left ≡ 0
  -- the hand has all that the list had
  pub more : one.more ≡ one.had

-- so many lists were asked, each once, from the actor's own on, and each gave all that it had
abbrev pub AreEmptied : ℕ → ℕ → ℕ → List Asked → Type 0
AreEmptied cpus actor zero [] = Unit {0}
AreEmptied cpus actor zero (one ∷ asked) = ⊥
AreEmptied cpus actor (suc n) [] = ⊥
AreEmptied cpus actor (suc n) (one ∷ asked) =
    (one.cpu ≡ (actor + n) % cpus) × IsEmptied one × AreEmptied cpus actor n asked

-- the step asks a list for blocks
abbrev pub asks_list : Next → Bool
asks_list (TakeBlocks asked) = true
asks_list (TakeLogPages asked) = true
asks_list (SnapshotOrCleaner (Fresh ino asked wanted)) = true
asks_list other = false

-- EVERY LIST was asked in vain: why a taking is refused
pub record IsShortInAll (cpus actor : ℕ) (taking : Taking) (fault : Fault) : Type 0 where
  -- it is refused with `NoSpace`
  pub is : fault ≡ NoSpace
  -- each CPU's list was asked once, from the actor's own on, and gave all that it had
  pub all : AreEmptied cpus actor cpus taking.asked
  -- these blocks together are fewer than the taking wants
  pub short : sum_by (λ (one : Asked). one.had) taking.asked < taking.wanted
