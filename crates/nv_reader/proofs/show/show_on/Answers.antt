use Rattle.std.proofs.Common.{◌≡◌, ℕ, List, length, take, ap, ap₂, sym, subst, ◌∙◌}
use Rattle.nv_entry.specs.declared.item.Entry.{Entry}
use Rattle.nv_entry.specs.Log.{IsLog, up_to}
use Rattle.nv_cell.specs.Cell.{log_of}
use Rattle.nv_log.specs.Chain.{log}
use Rattle.nv_cell.proofs.ValuesNow.{IsLog-take}
use Rattle.nv_reader.specs.Blocks.{shown_node}
use Rattle.nv_reader.specs.Cells.{part_bytes}
use Rattle.nv_reader.proofs.CellBytes.{front_gives}
use Rattle.nv_reader.proofs.PageBytes.{node_shown}
use Rattle.nv_reader.proofs.show.show_on.Goals as goal

pub entries_to-log-requires : goal.entries_to-log-requires
entries_to-log-requires c =
    let chain = c.args.cell.now.state.chain in
    let logs : c.log-2.result.now ≡ log chain = c.log-2.ensures.value ∙ ap log c.log.ensures.state in
    subst IsLog (sym logs) (IsLog-take chain.tail chain.entries c.holds_together.ensures.chain.rising)

pub returns-clause-own : goal.returns-clause-own
returns-clause-own c =
    let cell = c.args.cell.now.state in
    let block : c.block_bytes.result ≡ cell.block = c.block_bytes.ensures.value in
    let logs : c.log-2.result.now ≡ log_of cell = c.log-2.ensures.value ∙ ap log c.log.ensures.state in
    let is : c.entries_to-log.result.now ≡ up_to c.args.epoch (log_of cell) = c.entries_to-log.ensures.entries
    ∙ ap (up_to c.args.epoch) logs in
    c.in_ok-node_by.ensures ∙ ap₂ (λ (b : ℕ) (es : List Entry). shown_node (part_bytes cell) b es) block is

pub returns-clause-node : goal.returns-clause-node
returns-clause-node c bytes same there =
    let cell = c.args.cell.now.state in
    let epoch = c.args.epoch in
    let part = c.entries_to-log.result.now in
    let logs : c.log-2.result.now ≡ log_of cell = c.log-2.ensures.value ∙ ap log c.log.ensures.state in
    let is : part ≡ up_to epoch (log_of cell) = c.entries_to-log.ensures.entries ∙ ap (up_to epoch) logs in
    let front : part ≡ take (length part) (log_of cell) = c.entries_to-log.ensures.front ∙ ap (take (length part)) logs in
    let whole : up_to epoch (log_of cell) ≡ take (length (up_to epoch (log_of cell))) (log_of cell) =
    subst (λ (es : List Entry). es ≡ take (length es) (log_of cell)) is front in
    returns-clause-own c
    ∙ node_shown (part_bytes cell) bytes cell.block (up_to epoch (log_of cell))
    (front_gives cell (up_to epoch (log_of cell)) bytes c.holds_together.ensures whole same there)
