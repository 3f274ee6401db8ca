-- A world that was just made.
use Rattle.std.specs.Prelude.{ℕ, ◌+◌, ◌-◌, List, [], ◌∷◌, drop, map, replicate, None}
use Rattle.std.specs.List.{range_with_len}
use Rattle.nv_alloc.specs.Block.{zero_block, zero_blocks}
use Rattle.nv_alloc.specs.FreeList.{FreeBlocks}
use Rattle.nv_base.specs.Homes.{home_start}
use Rattle.nv_base.specs.declared.geometry.GeometryNumbers.{GeometryNumbers}
use Rattle.nv_base.specs.declared.node.Kind.TheVariants.{Dir}
use Rattle.nv_book.specs.Book.{empty_book}
use Rattle.nv_cell.specs.Cell.{CellState, empty_cell}
use Rattle.nv_cell.specs.declared.mark.Mark.TheVariants.{Current}
use Rattle.nv_entry.specs.declared.item.Entry.{Entry}
use Rattle.nv_entry.specs.declared.item.Item.TheVariants.{Init}
use Rattle.nv_machine.specs.World.{World, idle}

-- the list of a CPU with all blocks of its home range
abbrev pub full_list : GeometryNumbers → ℕ → FreeBlocks
full_list g cpu = record {
  start = home_start g.blocks g.cpus cpu;
  end = home_start g.blocks g.cpus (cpu + 1);
  size = g.block;
  blocks = zero_blocks g.block (home_start g.blocks g.cpus cpu) (home_start g.blocks g.cpus (cpu + 1) - home_start g.blocks g.cpus cpu);
}

-- the lists once the root has its log page
abbrev pub without_lowest : List FreeBlocks → List FreeBlocks
without_lowest [] = []
without_lowest (list ∷ lists) = record list { blocks = drop 1 list.blocks } ∷ lists

-- the first entry of the root's log
abbrev pub root_entry : Entry
root_entry = record { id = record { commit = 0; place = 0 }; epoch = 1; item = Init Dir 493 }

-- the root's cell: its first log page is block 0
abbrev pub root_cell : GeometryNumbers → CellState
root_cell g = record {
  block = g.block;
  generation = 1;
  version = 0;
  chain = record { page = g.page; blocks = zero_block g.block 0 ∷ []; ends = 1 ∷ []; entries = root_entry ∷ []; tail = 1 };
  marks = replicate 3 Current;
  blocks = replicate 3 None;
}

-- A NEW WORLD: block 0 is the root's log page, and number 0 its slot; all else is free, and nobody
-- has a call
abbrev pub formatted : GeometryNumbers → World
formatted g = record {
  numbers = g;
  shared = record {
    lists = without_lowest (map (full_list g) (range_with_len 0 g.cpus));
    pool = record { inodes = g.inodes; numbers = range_with_len 1 (g.inodes - 1) };
    cells = root_cell g ∷ replicate (g.inodes - 1) (empty_cell g.block g.page 1 0);
    owners = replicate g.inodes None;
    book = empty_book g 1 0;
    holder = None;
  };
  actors = replicate g.actors idle;
}
