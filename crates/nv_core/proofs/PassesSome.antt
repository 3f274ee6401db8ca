-- A call that passes its check over the cells of some slots has a slot: with none there is no node that it could read.
use Rattle.std.proofs.Common.{◌≡◌, ◌∙◌, ℕ, ◌<◌, List, [], ◌∷◌, arith, length, sym}
use Rattle.nv_calls.specs.AllCalls.{refusal}
use Rattle.nv_calls.specs.Nodes.{nodes_in}
use Rattle.nv_calls.specs.Refusals.{passes}
use Rattle.nv_calls.specs.Updates.{blank_call}
use Rattle.nv_calls.specs.declared.update.Update.{Update}
use Rattle.nv_calls.proofs.CheckEnds.{stale_none}
use Rattle.nv_cell.specs.Cell.{CellValue}

pub some_cell : (block : ℕ) (cells : List (ℕ × CellValue)) (u : Update) → refusal block (nodes_in cells) (blank_call u) ≡ passes
    → 0 < length cells
some_cell block [] u e = let stale = sym (stale_none block u) ∙ e in cc
some_cell block (c ∷ cells) u e = omega arith
