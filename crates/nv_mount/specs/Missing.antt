-- Marks of the blocks that stand in an image, and the lists of those that do not.
use Rattle.std.specs.Prelude.{◌≡◌, ℕ, ◌<◌, ◌||◌, Bool, true, false, List, length, slice_index_or}
use Rattle.nv_alloc.specs.Block.{zero_block}
use Rattle.nv_alloc.specs.FreeList.{FreeBlocks}
use Rattle.nv_alloc.specs.Numbers.{has}
use Rattle.nv_audit.specs.Mounted.{list_anew}
use Rattle.nv_base.specs.declared.geometry.GeometryNumbers.{GeometryNumbers}

-- the number is marked; one past the marks is not
abbrev pub is_marked : List Bool → ℕ → Bool
is_marked marks n = slice_index_or marks n false

-- each of the numbers is below so many
abbrev pub AreWithin : ℕ → List ℕ → Type 0
AreWithin count numbers = (n : ℕ) → has numbers n ≡ true → n < count

-- the marks of the numbers that stand in a list
pub record AreMarks (count : ℕ) (numbers : List ℕ) (marks : List Bool) : Type 0 where
  -- there is a mark for each number below `count`
  pub len : length marks ≡ count
  -- a number below `count` is marked exactly where it stands in the list
  pub each : (n : ℕ) → n < count → is_marked marks n ≡ has numbers n

-- marks to which the numbers of a list are added
pub record AreMarkedTo (numbers : List ℕ) (old new : List Bool) : Type 0 where
  -- there are as many marks as before
  pub len : length new ≡ length old
  -- a number is marked where it was marked before, or stands in the list
  pub each : (n : ℕ) → n < length old → is_marked new n ≡ (is_marked old n || has numbers n)

-- the list of a CPU with the blocks that are not marked, whose bytes are 0
abbrev pub list_unmarked : GeometryNumbers → List Bool → ℕ → FreeBlocks
list_unmarked g marks cpu = list_anew g (is_marked marks) (zero_block g.block) cpu
