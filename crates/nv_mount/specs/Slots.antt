-- The slots of an image, with chains for their logs and without.
use Rattle.std.specs.Prelude.{◌≡◌, ℕ, ◌≤◌, All, List, map, option_to_list, reverse}
use Rattle.std.specs.List.{flat_map}
use Rattle.nv_audit.specs.Image.{SlotImageValue}
use Rattle.nv_base.specs.declared.limits.TheConstants.{LEAST_PAGE_ENTRIES, PAGE_ENTRIES}
use Rattle.nv_cell.specs.declared.bare.BareCell.{BareCell}
use Rattle.nv_entry.specs.Log.{IsLog}
use Rattle.nv_log.specs.Image.{IsPaged, chain_of, image_of}

-- the slot of what is left of a cell
abbrev pub closed : BareCell → SlotImageValue
closed cell = record {
  generation = cell.generation;
  chain = image_of cell.chain.state;
  blocks = flat_map option_to_list cell.blocks.items;
}

-- the log of a slot may have a chain, whose log pages hold `page` entries
pub record CanOpen (page : ℕ) (slot : SlotImageValue) : Type 0 where
  -- a log page holds at least `LEAST_PAGE_ENTRIES` entries
  pub least : LEAST_PAGE_ENTRIES ≤ page
  -- a log page holds at most `PAGE_ENTRIES` entries
  pub most : page ≤ PAGE_ENTRIES
  -- the entries stand on the log pages of the slot
  pub paged : IsPaged page slot.chain
  -- ids rise along the entries, and epochs never fall
  pub rising : IsLog slot.chain.entries

-- the log of each slot may have a chain
abbrev pub CanOpenAll : ℕ → List SlotImageValue → Type 0
CanOpenAll page slots = All (CanOpen page) slots

-- a slot is opened: its log has a chain
pub record IsOpen (page : ℕ) (slot : SlotImageValue) (cell : BareCell) : Type 0 where
  -- the cell is closed to the same slot
  pub same : closed cell ≡ slot
  -- the chain has what the slot has, on log pages that hold `page` entries
  pub page_is : cell.chain.state ≡ chain_of page slot.chain

-- all slots are opened, the last one first
pub record AreOpen (page : ℕ) (slots : List SlotImageValue) (bare : List BareCell) : Type 0 where
  -- the cells are closed to the same slots
  pub same : map closed (reverse bare) ≡ slots
  -- each log page of these chains holds `page` entries
  pub pages : All (λ (cell : BareCell). cell.chain.state.page ≡ page) bare
