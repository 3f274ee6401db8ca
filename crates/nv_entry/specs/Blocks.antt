-- Which blocks the pages of a log stand in.
use Rattle.std.specs.Prelude.{◌≡◌, ℕ, ◌+◌, ◌<◌, ◌≤◌, List, [], Some}
use Rattle.std.specs.List.{range_with_len}
use Rattle.nv_entry.specs.declared.item.Entry.{Entry}
use Rattle.nv_entry.specs.declared.item.Item.{Item}
use Rattle.nv_entry.specs.declared.item.Item.TheVariants.{Write}
use Rattle.nv_entry.specs.Node.{block_now}

-- a page of the log stands in the block now
abbrev pub Uses : ℕ → List Entry → ℕ → Type 0
Uses block log number = (page : ℕ) × (block_now block log page ≡ Some number)

-- the blocks of an item's pages, in order
abbrev pub item_blocks : Item → List ℕ
item_blocks (Write first run size) = range_with_len run.start run.len
item_blocks item = []

-- the block is one of a Write's block run; no other item has one
abbrev pub IsItemBlock : Item → ℕ → Type 0
IsItemBlock (Write first run size) number = (run.start ≤ number) × (number < run.start + run.len)
IsItemBlock item number = ⊥
