-- What the steps take that take: the pool's first number, or the first blocks of a list, as many
-- as are wanted.
use Rattle.std.specs.Prelude.{◌≡◌, ℕ, ◌++◌, List, drop, option_to_list, take}
use Rattle.nv_alloc.specs.Block.{BlockValue}
use Rattle.nv_machine.specs.World.{Ends, HandState, Moves, Shared, Turn, Waits, list_at}

-- after the step this holds of what is shared and of the hand, whatever becomes of the call
abbrev pub Leaves : (Shared → HandState → Type 0) → Turn → Type 0
Leaves P (Moves t h r) = P t h
Leaves P Waits = Unit {0}
Leaves P (Ends result t h) = P t h

-- the number in the hand is the pool's first, if it had one
abbrev pub HasFirst : Shared → Shared → HandState → Type 0
HasFirst s t after = s.pool.numbers ≡ option_to_list after.ino ++ t.pool.numbers

-- the first blocks of a list, as many as are wanted or all that it has
abbrev pub first_blocks : Shared → ℕ → ℕ → List BlockValue
first_blocks s cpu wanted = take wanted (list_at s cpu).blocks

-- the list is without its first blocks, and else as it was
abbrev pub HasGiven : Shared → ℕ → ℕ → Shared → Type 0
HasGiven s cpu wanted t = list_at t cpu ≡ record (list_at s cpu) { blocks = drop wanted (list_at s cpu).blocks }

-- a step takes data blocks from a list
pub record TakesData (s : Shared) (cpu : ℕ) (h : HandState) (wanted : ℕ) (t : Shared) (after : HandState) : Type 0 where
  -- the hand has the list's first blocks behind its data blocks, and else what it had
  pub hand : after ≡ record h { blocks = h.blocks ++ first_blocks s cpu wanted }
  -- the list has them no more, and else what it had
  pub list : HasGiven s cpu wanted t

-- a step takes log pages from a list
pub record TakesLogPages (s : Shared) (cpu : ℕ) (h : HandState) (wanted : ℕ) (t : Shared) (after : HandState) : Type 0 where
  -- the hand has the list's first blocks behind its log pages, and else what it had
  pub hand : after ≡ record h { pages = h.pages ++ first_blocks s cpu wanted }
  -- the list has them no more, and else what it had
  pub list : HasGiven s cpu wanted t
