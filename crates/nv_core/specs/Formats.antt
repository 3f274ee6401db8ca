-- What a world is made of before it has a root.
use Rattle.std.specs.Prelude.{[], map, replicate, None}
use Rattle.std.specs.List.{range_with_len}
use Rattle.nv_alloc.specs.declared.hand.Hand.{Hand}
use Rattle.nv_base.specs.declared.geometry.GeometryNumbers.{GeometryNumbers}
use Rattle.nv_book.specs.Book.{empty_book}
use Rattle.nv_cell.specs.Cell.{CellValue, empty_cell, no_room}
use Rattle.nv_machine.specs.Format.{full_list}
use Rattle.nv_machine.specs.World as machine
use Rattle.nv_core.specs.declared.reservation.Reservation.TheVariants as reserved
use Rattle.nv_core.specs.declared.world.Actor.{Actor}

-- the cell of a slot that nothing was ever in
abbrev pub new_cell : GeometryNumbers → CellValue
new_cell g = record { state = empty_cell g.block g.page 1 0; room = no_room }

-- what is shared where all blocks and numbers are free
abbrev pub rootless : GeometryNumbers → machine.Shared
rootless g = record {
  lists = map (full_list g) (range_with_len 0 g.cpus);
  pool = record { inodes = g.inodes; numbers = range_with_len 0 g.inodes };
  cells = replicate g.inodes (empty_cell g.block g.page 1 0);
  owners = replicate g.inodes None;
  book = empty_book g 1 0;
  holder = None;
}

-- an empty hand for blocks of the device's size
abbrev pub empty_of : GeometryNumbers → Hand
empty_of g = record {
  «data» = record { blocks = []; size = g.block; room = 0 };
  pages = record { blocks = []; size = g.block; room = 0 };
  chain = [];
  ino = None;
}

-- an actor without a call, with an empty hand of the device's size
abbrev pub idle_actor : GeometryNumbers → Actor
idle_actor g = record { reserved = reserved.Hand (empty_of g); running = None }
