-- The home ranges of block numbers: one range for each CPU.
use Rattle.std.specs.Prelude.{◌≡◌, ℕ, ◌+◌, ◌*◌, ◌/◌, ◌<◌, ◌≤◌}

-- the first block number of a CPU's home range, which ends where the next one's begins.
-- At `cpus` it is the number of blocks.
abbrev pub home_start : ℕ → ℕ → ℕ → ℕ
home_start blocks cpus cpu = cpu * blocks / cpus

-- a block number is in the home range of this CPU
pub record IsHome (blocks cpus cpu number : ℕ) : Type 0 where
  -- the number is not below the range
  pub from : home_start blocks cpus cpu ≤ number
  -- the number is below where the next CPU's range begins
  pub below : number < home_start blocks cpus (cpu + 1)

-- a block number has exactly one home
pub record HasOneHome (blocks cpus number : ℕ) : Type 0 where
  -- the CPU that is its home
  pub home : ℕ
  -- this CPU is one of the `cpus`
  pub is_cpu : home < cpus
  -- the home range of this CPU has the number
  pub is_home : IsHome blocks cpus home number
  -- no other CPU has the number in its home range
  pub only : (cpu : ℕ) → cpu < cpus → IsHome blocks cpus cpu number → cpu ≡ home

-- the home ranges cut the blocks of a device into one range for each CPU
pub record CutsBlocks (blocks cpus : ℕ) : Type 0 where
  -- the first range begins at block 0
  pub first : home_start blocks cpus 0 ≡ 0
  -- no range begins behind the one after it
  pub in_order : (cpu : ℕ) → home_start blocks cpus cpu ≤ home_start blocks cpus (cpu + 1)
  -- the last range ends where the device ends
  pub last : home_start blocks cpus cpus ≡ blocks
  -- each block number of the device has exactly one home
  pub once : (number : ℕ) → number < blocks → HasOneHome blocks cpus number
