-- The image of a world that stops, and the world that goes on.
use Rattle.std.specs.Prelude.{List, map, option_to_list, take}
use Rattle.std.specs.List.{flat_map}
use Rattle.nv_alloc.specs.Block.{BlockValue}
use Rattle.nv_audit.specs.Image.{ImageValue, SlotImageValue}
use Rattle.nv_cell.specs.Cell.{CellState, log_of}
use Rattle.nv_entry.specs.Covered.{part_total}
use Rattle.nv_epoch.specs.SnapList.{ids}
use Rattle.nv_machine.specs.World.{World}
use Rattle.nv_restart.specs.Mounted.{mounted}

-- the blocks of a cell's published parts, without those of entries past the tail
abbrev pub data_blocks : CellState → List BlockValue
data_blocks cell = flat_map option_to_list (take (part_total (log_of cell)) cell.blocks)

-- the slot of a cell: its chain as it stands, with the entries past the tail
abbrev pub slot_image : CellState → SlotImageValue
slot_image cell = record {
  generation = cell.generation;
  chain = record {
    pages = cell.chain.blocks;
    ends = cell.chain.ends;
    entries = cell.chain.entries;
    tail = cell.chain.tail;
  };
  blocks = data_blocks cell;
}

-- THE IMAGE OF A WORLD: each slot as it stands, the journals, the numbers of the living snapshots,
-- the epoch and the number of the last commit.
-- Hands, locks, pins, records and the deferred list are not in it.
abbrev pub image_of : World → ImageValue
image_of w = record {
  numbers = w.numbers;
  slots = map slot_image w.shared.cells;
  journals = w.shared.book.journals;
  snapshots = ids w.shared.book.snaps;
  epoch = w.shared.book.snaps.epoch;
  commit = w.shared.book.commit;
}

-- THE WORLD THAT GOES ON once a world was stopped
abbrev pub restarted : World → World
restarted w = mounted (image_of w)
