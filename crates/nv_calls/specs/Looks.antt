-- The looks of a call: in which directories it looks its names up, and what each look leaves of what was found before.
use Rattle.std.specs.Prelude.{◌≡◌, ℕ, zero, suc, if◌then◌else◌, List, [], ◌∷◌, Option, None, Some, Result, Ok, Err, slice_index_or}
use Rattle.nv_base.specs.declared.fault.Fault.{Fault}
use Rattle.nv_base.specs.declared.numbers.Handle.{Handle}
use Rattle.nv_entry.specs.Tree.{root}
use Rattle.nv_cell.specs.Cell.{CellValue}
use Rattle.nv_calls.specs.Nodes.{alone}
use Rattle.nv_calls.specs.Plain.{same_handle}
use Rattle.nv_calls.specs.Refusals.{Check, passes}
use Rattle.nv_calls.specs.declared.call.Call.{Call}
use Rattle.nv_calls.specs.declared.call.Call.TheVariants as call
use Rattle.nv_calls.specs.declared.looked.LookupResult.{LookupResult}

-- the directories in which a call looks its names up, one look for each
abbrev pub directories : Call → List Handle
directories (call.Unlink dir name) = dir ∷ []
directories (call.Rmdir dir name) = dir ∷ []
directories (call.Rename from old to new) = if same_handle from to then from ∷ [] else from ∷ to ∷ []
directories other = []

-- the handle at a place of a list: the directory of a look, or the node that a visit reads
abbrev pub handle_at : List Handle → ℕ → Handle
handle_at list place = slice_index_or list place root

-- what no look has found
abbrev pub nothing_looked : LookupResult
nothing_looked = record { first = None; second = None }

-- what the looks have found after one more. A look at the only directory finds both names, and of
-- two directories each finds its own.
abbrev pub seen_at : List Handle → ℕ → LookupResult → LookupResult → LookupResult
seen_at (dir ∷ other ∷ rest) zero now before = record { first = now.first; second = None }
seen_at (dir ∷ other ∷ rest) (suc place) now before = record { first = before.first; second = now.second }
seen_at directories place now before = now

-- the first name may be refused at its look; what is wrong with the second is told at the check
abbrev pub look_tests : ℕ → Check → Check
look_tests zero tests = tests
look_tests (suc place) tests = passes

-- the cell of a slot, if there is such a slot
abbrev pub in_slot : ℕ → Option CellValue → List (ℕ × CellValue)
in_slot ino None = []
in_slot ino (Some cell) = alone ino cell

-- the outcome of a look for a first name, beside what was found of the second
abbrev pub IsFirstLook : Check → Option Handle → Option Handle → Result LookupResult Fault → Type 0
IsFirstLook tests first second (Ok found) = (tests ≡ passes) × (found ≡ record { first = first; second = second })
IsFirstLook tests first second (Err fault) = tests ≡ Err fault
