-- The world that a mount makes of an image.
use Rattle.std.specs.Prelude.{None, replicate}
use Rattle.nv_audit.specs.Image.{ImageValue}
use Rattle.nv_audit.specs.Mounted.{book_anew, cells_of, lists_anew, pool_anew}
use Rattle.nv_machine.specs.World.{World, idle}

-- THE WORLD THAT A MOUNT MAKES: the cells, free lists, pool and book are those of the image, no
-- lock is held, and every actor is idle.
-- Example: a file of block 2 is overwritten by block 3 under the living snapshot 1, and then by
-- block 4. Behind its Init its log has three Writes. Write(block 2) is of epoch 1: its Size and
-- page 0 are kept, since snapshot 1 holds them. Write(block 3) is of epoch 2: its Size and page 0
-- are out. Write(block 4) is of epoch 2: its Size and page 0 are current. The records anew are
-- those of the first Size and of block 2, on the manifest of snapshot 1. Block 3 is free, with its
-- bytes. Where block 2 is not among the data blocks of the slot, the first fault is `run`.
abbrev pub mounted : ImageValue → World
mounted image = record {
  numbers = image.numbers;
  shared = record {
    lists = lists_anew image;
    pool = pool_anew image;
    cells = cells_of image;
    owners = replicate image.numbers.inodes None;
    book = book_anew image;
    holder = None;
  };
  actors = replicate image.numbers.actors idle;
}
