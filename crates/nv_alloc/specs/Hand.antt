-- What a hand holds.
use Rattle.std.specs.Prelude.{◌≡◌, ℕ, ◌<◌, ◌≤◌, true, List, ◌++◌, Option, Some, None}
use Rattle.std.specs.List.{AllByRecursion}
use Rattle.nv_base.specs.Homes.{IsHome, home_start}
use Rattle.nv_alloc.specs.Block.{BlockValue}
use Rattle.nv_alloc.specs.Numbers.{has}
use Rattle.nv_alloc.specs.declared.hand.Hand.{Hand}

-- all blocks of a hand: data blocks, log pages, and the pages of a chain
abbrev pub blocks_of : Hand → List BlockValue
blocks_of hand = hand.data.blocks ++ hand.pages.blocks ++ hand.chain

-- the first CPU that is home of one of these numbers; none where no number is of the device
abbrev pub IsFirstHomeCpu : ℕ → ℕ → List ℕ → Option ℕ → Type 0
IsFirstHomeCpu blocks cpus numbers None = AllByRecursion (λ n. blocks ≤ n) numbers
IsFirstHomeCpu blocks cpus numbers (Some cpu) =
    (cpu < cpus) × ((n : ℕ) × (has numbers n ≡ true) × IsHome blocks cpus cpu n)
    × AllByRecursion (λ n. home_start blocks cpus cpu ≤ n) numbers
