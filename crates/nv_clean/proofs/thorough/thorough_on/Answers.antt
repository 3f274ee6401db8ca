use Rattle.std.proofs.Common.{◌≡◌, ◌∙◌, [], List, ap, subst, sym}
use Rattle.nv_cell.specs.Cell.{CellState, log_of}
use Rattle.nv_clean.specs.Cleaned.{KeepsValues}
use Rattle.nv_clean.specs.Plans.{WantedValue, entries_staying}
use Rattle.nv_clean.proofs.Cleanings.{entries_keep, nodes_stay, none_left, same_size}
use Rattle.nv_entry.specs.Clean.{select}
use Rattle.nv_entry.specs.Laws.{KeepsReads, NoneDroppable}
use Rattle.nv_entry.specs.declared.item.Entry.{Entry}
use Rattle.nv_clean.proofs.thorough.thorough_on.Goals as goal

log_is : (c : goal.After-drop-wanted-inside)
    → log_of c.leave.new.cell.state ≡ select (entries_staying c.args.cell.now.state) (log_of c.args.cell.now.state)
log_is c =
    c.leave.ensures.log ∙ ap (λ (w : WantedValue). select w.stays (log_of c.args.cell.now.state)) c.requires.walk

pub returns-clause-none : goal.returns-clause-none
returns-clause-none c = λ r are.
    subst (λ (l : List Entry). NoneDroppable r [] l) (sym (log_is c)) (none_left c.args.cell.now.state c.holds_together.ensures r are)

values : (c : goal.After-drop-wanted-inside) → KeepsValues c.args.cell.now.state c.leave.new.cell.state
values c = λ r are.
    subst (λ (l : List Entry). KeepsReads r (log_of c.args.cell.now.state) l) (sym (log_is c))
    (entries_keep c.args.cell.now.state c.holds_together.ensures r are)

pub returns-clause-values : goal.returns-clause-values
returns-clause-values c = values c

pub returns-clause-nodes : goal.returns-clause-nodes
returns-clause-nodes c =
    nodes_stay c.args.cell.now.state c.leave.new.cell.state c.holds_together.ensures
    (ap (λ (cell : CellState). cell.block) c.leave.ensures.cell
    ∙ same_size c.args.wanted c.args.hand.now.pages.blocks c.args.cell.now.state)
    (values c)
