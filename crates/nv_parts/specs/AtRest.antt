-- The world at rest that parts make, where they are judged so.
use Rattle.std.specs.Prelude.{length, map, replicate, None}
use Rattle.nv_audit.specs.Records.{states_of}
use Rattle.nv_audit.specs.Resting.{AreAtRest, IsFirstAtRest}
use Rattle.nv_base.specs.declared.fault.Fault.{Fault}
use Rattle.nv_base.specs.declared.fault.Fault.TheVariants.{Mismatch}
use Rattle.nv_cell.specs.Cell.{CellValue}
use Rattle.nv_machine.specs.World as machine
use Rattle.nv_parts.specs.declared.parts.Parts.{Parts}

-- A WORLD AT REST has these parts: no lock is held, every hand is empty, and no call runs
abbrev pub at_rest : Parts → machine.World
at_rest parts = record {
  numbers = parts.geometry.numbers;
  shared = record {
    lists = parts.lists;
    pool = parts.pool;
    cells = map (λ (c : CellValue). c.state) parts.cells;
    owners = replicate (length parts.cells) None;
    book = parts.book.state;
    holder = None;
  };
  actors = replicate parts.geometry.numbers.actors machine.idle;
}

-- the parts are those of a world at rest
abbrev pub AreJudged : Parts → Type 0
AreJudged parts = AreAtRest parts.geometry.numbers (states_of parts.cells) parts.lists parts.pool parts.book.state

-- the fault tells the first of the parts that is not as in a world at rest
abbrev pub IsMismatchOf : Parts → Fault → Type 0
IsMismatchOf parts (Mismatch part) =
    IsFirstAtRest part parts.geometry.numbers (states_of parts.cells) parts.lists parts.pool parts.book.state
IsMismatchOf parts fault = ⊥
