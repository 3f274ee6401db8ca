-- What a call finds in a cell is of that call and of the cell's version.
use Rattle.std.specs.Prelude.{IfOk, MatchResult, Option, Result, Ok, Err}
use Rattle.nv_base.specs.declared.fault.Fault.{Fault}
use Rattle.nv_base.specs.declared.numbers.Handle.{Handle}
use Rattle.nv_cell.specs.Cell.{CellState}
use Rattle.nv_calls.specs.Nodes.{IsViewOver}
use Rattle.nv_calls.specs.Plain.{PlainNode}
use Rattle.nv_calls.specs.declared.call.Call.{Call}
use Rattle.nv_calls.specs.declared.view.View.{View}
use Rattle.nv_sessions.specs.Sessions.{IsFoundAt}

pub found_at : (r : Result View Fault) (nodes : Handle → Option PlainNode) (cell : CellState) (c : Call) (Q : Fault → Type 0)
    → MatchResult r (IsViewOver nodes cell c) Q → IfOk r (IsFoundAt cell.version c)
found_at (Ok view) nodes cell c Q is = (is.call, is.version)
found_at (Err fault) nodes cell c Q is = tt
