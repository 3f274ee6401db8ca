-- The pool of inode numbers by one scan of all logs and hands.
use Rattle.std.specs.Prelude.{ℕ, ◌||◌, Bool, List}
use Rattle.std.specs.List.{flat_map}
use Rattle.nv_alloc.specs.Numbers.{has, unused}
use Rattle.nv_base.specs.declared.geometry.GeometryNumbers.{GeometryNumbers}
use Rattle.nv_cell.specs.Readers.{has_inode, is_withheld}
use Rattle.nv_machine.specs.Reads.{if_number}
use Rattle.nv_machine.specs.World.{Actor, World, cell_at}

-- the inode number in an actor's hand, if it has one
abbrev pub number_held : Actor → List ℕ
number_held actor = if_number actor.hand.ino

-- the inode numbers in hands
abbrev pub numbers_held : World → List ℕ
numbers_held w = flat_map number_held w.actors

-- a number is in use: its slot has an inode or is withheld, or a hand has it
abbrev pub is_number_used : World → ℕ → Bool
is_number_used w ino = has_inode (cell_at w.shared ino) || is_withheld (cell_at w.shared ino) || has (numbers_held w) ino

-- THE POOL FROM SCRATCH, in rising order: the numbers whose slots have no entry and are not of the
-- last generation, and which no hand has
abbrev pub pool_from_scratch : GeometryNumbers → World → List ℕ
pool_from_scratch g w = unused (is_number_used w) 0 g.inodes
