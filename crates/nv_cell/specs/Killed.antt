-- The parts that a publish kills, by name and by pair.
use Rattle.std.specs.Prelude.{◌≡◌, ℕ, ◌<◌, true, List, [], ◌∷◌, Some, None, slice_get}
use Rattle.std.specs.List.{AllByRecursion}
use Rattle.std.specs.Option.{IsSome, option_map}
use Rattle.nv_entry.specs.declared.held.Pair.{Pair}
use Rattle.nv_entry.specs.declared.item.Entry.{Entry}
use Rattle.nv_entry.specs.declared.part.PartId.{PartId}
use Rattle.nv_entry.specs.Covered.{part_total}
use Rattle.nv_entry.specs.Held.{pair_name}
use Rattle.nv_entry.specs.Log.{pairs}
use Rattle.nv_cell.specs.declared.killed.KilledPart.{KilledPart}
use Rattle.nv_cell.specs.declared.mark.Mark.{Mark}
use Rattle.nv_cell.specs.declared.mark.Mark.TheVariants.{Killed}
use Rattle.nv_cell.specs.Cell.{CellState, block_named, mark_named}
use Rattle.nv_cell.specs.Named.{number_named}
use Rattle.nv_cell.specs.Numbers.{dies, killed_part}

-- each part of a log has a name of its own
pub record AreNamesOfParts (log : List Entry) : Type 0 where
  -- each number below the number of parts has a part
  pub there : (n : ℕ) → n < part_total log → IsSome (killed_part log n)
  -- by the name of a part its number is found
  pub number : (n : ℕ) (k : KilledPart) → killed_part log n ≡ Some k → number_named log k.part ≡ Some n
  -- the part of a number that is found has the name that was looked for
  pub name : (id : PartId) (n : ℕ) → number_named log id ≡ Some n → option_map (λ k. k.part) (killed_part log n) ≡ Some id
  -- no two names lead to one number
  pub once : (a b : PartId) (n : ℕ) → number_named log a ≡ Some n → number_named log b ≡ Some n → a ≡ b

-- the part of a pair, as a publish tells it
abbrev pub part_of_pair : Pair → KilledPart
part_of_pair pair = record { part = pair_name pair; birth = pair.birth }

-- the parts of a log by number are its pairs in order
abbrev pub ArePairs : ℕ → List Entry → Type 0
ArePairs block log = (n : ℕ) → killed_part log n ≡ option_map part_of_pair (slice_get (pairs block log) n)

-- each part that the entries from `tail` on kill dies at that epoch
abbrev pub DiesAt : ℕ → List Entry → ℕ → ℕ → Type 0
DiesAt block es tail epoch =
    (n : ℕ) (pair : Pair) → dies block es tail n ≡ true → slice_get (pairs block es) n ≡ Some pair → pair.death ≡ Some epoch

-- these parts are marked killed, and none is told twice
abbrev pub AreKilled : List PartId → CellState → Type 0
AreKilled [] cell = Unit {0}
AreKilled (id ∷ later) cell = (mark_named cell id ≡ Some Killed) × AllByRecursion (λ other. other ≡ id → ⊥) later × AreKilled later cell

-- a part has got another mark
pub record IsMarkedAnew (id : PartId) (mark : Mark) (old new : CellState) : Type 0 where
  -- the part has that mark
  pub own : mark_named new id ≡ Some mark
  -- each other part has the mark that it had
  pub others : (other : PartId) → (other ≡ id → ⊥) → mark_named new other ≡ mark_named old other

-- a part has lost its block
pub record IsWithoutBlock (id : PartId) (old new : CellState) : Type 0 where
  -- the part has no block
  pub own : block_named new id ≡ None
  -- each other part has the block that it had
  pub others : (other : PartId) → (other ≡ id → ⊥) → block_named new other ≡ block_named old other
