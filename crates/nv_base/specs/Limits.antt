-- The limits of a geometry's numbers.
use Rattle.std.specs.Prelude.{◌≡◌, ℕ, ◌≤◌, ◌&&◌, Bool, List, [], ◌∷◌, Option, Some, None, nat_le, min, if◌then◌else◌}
use Rattle.nv_base.specs.declared.fault.Fault.{Fault}
use Rattle.nv_base.specs.declared.fault.Fault.TheVariants.{BadGeometry}
use Rattle.nv_base.specs.declared.fault.GeometryField.{GeometryField}
use Rattle.nv_base.specs.declared.fault.GeometryField.TheVariants.{Blocks, Cpus, Block, Page, Inodes, Snaps, Actors}
use Rattle.nv_base.specs.declared.geometry.GeometryNumbers.{GeometryNumbers}
use Rattle.nv_base.specs.declared.limits.TheConstants.{ACTORS, BLOCKS, BLOCK_BYTES, CPUS, INODES, LEAST_BLOCKS, LEAST_PAGE_ENTRIES, PAGE_ENTRIES, SNAPS}

-- each number of a geometry is within its limits
pub record IsWithinLimits (numbers : GeometryNumbers) : Type 0 where
  -- a device has at least 2 blocks
  pub some_blocks : LEAST_BLOCKS ≤ numbers.blocks
  -- a device has at most 1,048,576 blocks
  pub blocks_fit : numbers.blocks ≤ BLOCKS
  -- there is a CPU
  pub some_cpus : 1 ≤ numbers.cpus
  -- there are at most 64 CPUs
  pub cpus_fit : numbers.cpus ≤ CPUS
  -- there are no more CPUs than blocks, so that each home range has a block
  pub cpus_have_blocks : numbers.cpus ≤ numbers.blocks
  -- a block has at least one byte
  pub some_bytes : 1 ≤ numbers.block
  -- a block has at most 4,096 bytes
  pub bytes_fit : numbers.block ≤ BLOCK_BYTES
  -- a log page holds at least 2 entries
  pub some_entries : LEAST_PAGE_ENTRIES ≤ numbers.page
  -- a log page holds at most 63 entries
  pub entries_fit : numbers.page ≤ PAGE_ENTRIES
  -- there is an inode slot, which is that of the root
  pub some_inodes : 1 ≤ numbers.inodes
  -- there are at most 65,536 inode slots
  pub inodes_fit : numbers.inodes ≤ INODES
  -- at least one snapshot may live
  pub some_snaps : 1 ≤ numbers.snaps
  -- at most 1,024 snapshots may live at a time
  pub snaps_fit : numbers.snaps ≤ SNAPS
  -- there is an actor
  pub some_actors : 1 ≤ numbers.actors
  -- there are at most 64 actors
  pub actors_fit : numbers.actors ≤ ACTORS

-- the number is between these two, both included
abbrev pub is_between : ℕ → ℕ → ℕ → Bool
is_between least most n = nat_le least n && nat_le n most

-- the field of the first test that fails; none where all pass
abbrev pub first_failing : List (Bool × GeometryField) → Option GeometryField
first_failing [] = None
first_failing (test ∷ tests) = if test.0 then first_failing tests else Some test.1

-- the first field out of its limits, in the order of the numbers; none where all are within
abbrev pub first_bad_field : GeometryNumbers → Option GeometryField
first_bad_field numbers = first_failing (
    (is_between LEAST_BLOCKS BLOCKS numbers.blocks, Blocks)
    ∷ (is_between 1 (min numbers.blocks CPUS) numbers.cpus, Cpus)
    ∷ (is_between 1 BLOCK_BYTES numbers.block, Block)
    ∷ (is_between LEAST_PAGE_ENTRIES PAGE_ENTRIES numbers.page, Page)
    ∷ (is_between 1 INODES numbers.inodes, Inodes)
    ∷ (is_between 1 SNAPS numbers.snaps, Snaps)
    ∷ (is_between 1 ACTORS numbers.actors, Actors)
    ∷ [])

-- there is a first bad field, and the fault names it
abbrev pub IsFirstBad : Fault → Option GeometryField → Type 0
IsFirstBad fault None = ⊥
IsFirstBad fault (Some field) = fault ≡ BadGeometry field
