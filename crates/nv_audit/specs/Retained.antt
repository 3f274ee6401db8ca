-- Which parts and which entries of a log are needed or pending.
use Rattle.std.specs.Prelude.{ℕ, ◌&&◌, Bool, true, nat_le, nat_lt, List, [], ◌∷◌, Option, Some, None, count_by, drop, map, slice_set, take}
use Rattle.std.specs.List.{list_any}
use Rattle.nv_cell.specs.Cell.{CellState, log_of}
use Rattle.nv_cell.specs.Named.{number_named}
use Rattle.nv_cell.specs.Retained.{published_on}
use Rattle.nv_entry.specs.Covered.{part_count}
use Rattle.nv_entry.specs.Held.{Retention, is_needed, keeps}
use Rattle.nv_entry.specs.Log.{pairs}
use Rattle.nv_entry.specs.declared.item.Entry.{Entry}
use Rattle.nv_entry.specs.declared.part.PartId.{PartId}
use Rattle.nv_log.specs.Chain.{start_of}

-- WHICH PARTS of a cell's log are needed or pending, by number
abbrev pub retained_in : Retention → CellState → List Bool
retained_in r cell = map (keeps r) (pairs cell.block (log_of cell))

-- of each part of a log whether its pair is current or held by one of these snapshots
abbrev pub needed_by : List ℕ → ℕ → List Entry → List Bool
needed_by snapshots block log = map (is_needed snapshots) (pairs block log)

-- of each part of a cell's log whether its pair is current or held by one of these snapshots
abbrev pub needed_in : List ℕ → CellState → List Bool
needed_in snapshots cell = needed_by snapshots cell.block (log_of cell)

-- a part with that birth and death is current, or held by one of these snapshots
abbrev pub is_needed_from : List ℕ → ℕ → Option ℕ → Bool
is_needed_from snapshots birth None = true
is_needed_from snapshots birth (Some death) = list_any (λ (s : ℕ). nat_le birth s && nat_lt s death) snapshots

-- the flags where that of a part is set too, if its number is given
abbrev pub with_number : Option ℕ → List Bool → List Bool
with_number None parts = parts
with_number (Some n) parts = slice_set parts n true

-- flags of the parts of a log, where parts with these names have theirs set
abbrev pub with_named : List Entry → List PartId → List Bool → List Bool
with_named log [] parts = parts
with_named log (id ∷ names) parts = with_named log names (with_number (number_named log id) parts)

-- for each entry whether one of its parts is marked: such an entry is valid
abbrev pub marked_entries : List Entry → List Bool → List Bool
marked_entries [] parts = []
marked_entries (e ∷ later) parts =
    list_any (λ (b : Bool). b) (take (part_count e) parts) ∷ marked_entries later (drop (part_count e) parts)

-- how many published entries of a page are marked
abbrev pub marked_on : CellState → List Bool → ℕ → ℕ
marked_on cell entries page = count_by (λ (b : Bool). b) (take (published_on cell page) (drop (start_of cell.chain page) entries))
