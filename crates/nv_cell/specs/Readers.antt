-- What callers ask of a cell.
use Rattle.std.specs.Prelude.{◌≡◌, ◌&&◌, ℕ, Bool, nat_le, true, false, not, List, [], ◌∷◌, take, drop, count_by, map, slice_index_or, unwrap_or}
use Rattle.std.specs.List.{list_any}
use Rattle.std.specs.Option.{option_map}
use Rattle.nv_base.specs.declared.geometry.GeometryNumbers.{GeometryNumbers}
use Rattle.nv_base.specs.declared.limits.TheConstants.{NUMBER}
use Rattle.nv_entry.specs.declared.item.Entry.{Entry}
use Rattle.nv_entry.specs.declared.item.Item.{Item}
use Rattle.nv_entry.specs.declared.item.Item.TheVariants.{Gone}
use Rattle.nv_entry.specs.Covered.{part_count}
use Rattle.nv_log.specs.Chain.{last_of, parts_from}
use Rattle.nv_cell.specs.declared.mark.Mark.{Mark}
use Rattle.nv_cell.specs.declared.tally.LogPageCounts.{LogPageCounts}
use Rattle.nv_cell.specs.Cell.{CellState, log_of}
use Rattle.nv_cell.specs.Marks.{is_current, is_killed, is_there}

-- a cell is one of a device
pub record IsCellOf (g : GeometryNumbers) (cell : CellState) : Type 0 where
  -- its blocks have as many bytes as the device's
  pub block : cell.block ≡ g.block
  -- its log pages hold as many entries as the device's
  pub page : cell.chain.page ≡ g.page

-- the marks of a log, entry by entry
abbrev pub marks_by_entry : List Entry → List Mark → List (List Mark)
marks_by_entry [] marks = []
marks_by_entry (e ∷ later) marks = take (part_count e) marks ∷ marks_by_entry later (drop (part_count e) marks)

-- for each published entry, whether one of its parts is not out
abbrev pub there_flags : CellState → List Bool
there_flags cell = map (list_any is_there) (marks_by_entry (log_of cell) cell.marks)

-- the marks of the published entries of a log page, entry by entry
abbrev pub marks_of_page : CellState → ℕ → List (List Mark)
marks_of_page cell page = slice_index_or (parts_from 0 cell.chain.ends (marks_by_entry (log_of cell) cell.marks)) page []

-- the counts of a log page: how many of its published entries have a current part, and how many
-- have one that is not out
abbrev pub counts_of : CellState → ℕ → LogPageCounts
counts_of cell page = record {
  live = count_by (list_any is_current) (marks_of_page cell page);
  valid = count_by (list_any is_there) (marks_of_page cell page);
}

-- nothing may stand behind the item
abbrev pub is_last_word : Item → Bool
is_last_word Gone = true
is_last_word item = false

-- the inode of a log is gone: the last entry is a Gone
abbrev pub is_gone : List Entry → Bool
is_gone log = unwrap_or (option_map (λ e. is_last_word e.item) (last_of log)) false

-- every published part of the cell is out
abbrev pub keeps_nothing : CellState → Bool
keeps_nothing cell = not (list_any is_there cell.marks)

-- an inode is erased once it is gone and nothing is kept of it
abbrev pub is_erased : CellState → Bool
is_erased cell = is_gone (log_of cell) && keeps_nothing cell

-- the log has an entry
abbrev pub has_entry : List Entry → Bool
has_entry [] = false
has_entry (e ∷ log) = true

-- a slot has an inode as long as its log has an entry
abbrev pub has_inode : CellState → Bool
has_inode cell = has_entry (log_of cell)

-- a slot of the last generation gets no inode any more: its number is withheld
abbrev pub is_withheld : CellState → Bool
is_withheld cell = nat_le NUMBER cell.generation

-- a part of the cell is marked killed
abbrev pub has_killed : CellState → Bool
has_killed cell = list_any is_killed cell.marks
