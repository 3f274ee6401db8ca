use Rattle.std.proofs.Common.{◌≡◌, ◌≤◌, ℕ, List, take, ap, ap₂, ◌∙◌}
use Rattle.nv_entry.specs.declared.item.Entry.{Entry}
use Rattle.nv_log.specs.Chain.{ChainState}
use Rattle.nv_reader.specs.Blocks.{shown_node}
use Rattle.nv_reader.specs.Cells.{NoneOut, part_bytes}
use Rattle.nv_reader.proofs.CellBytes.{cell_gives}
use Rattle.nv_reader.proofs.PageBytes.{node_shown}
use Rattle.nv_reader.proofs.show.settled_on.Goals as goal

pub returns-clause-own : goal.returns-clause-own
returns-clause-own c =
    let cell = c.args.cell.now.state in
    let block : c.block_bytes.result ≡ cell.block = c.block_bytes.ensures.value in
    let entries : c.entries.result.now ≡ cell.chain.entries =
    c.entries.ensures.value ∙ ap (λ (chain : ChainState). chain.entries) c.log.ensures.state in
    rw c.in-Some.is (c.in_ok-node_by.ensures
    ∙ ap₂ (λ (b : ℕ) (es : List Entry). shown_node (part_bytes cell) b (take c.in-Some.tail es)) block entries)

pub returns-clause-node : goal.returns-clause-node
returns-clause-node c bytes same there =
    let cell = c.args.cell.now.state in
    let tail = c.in-Some.tail in
    let le : tail ≤ cell.chain.tail = c.requires tail c.in-Some.is in
    let there' : NoneOut cell (take tail cell.chain.entries) = rw c.in-Some.is at (there tail c.in-Some.is) in
    returns-clause-own c
    ∙ rw c.in-Some.is
    (node_shown (part_bytes cell) bytes cell.block (take tail cell.chain.entries)
    (cell_gives cell tail bytes c.holds_together.ensures le same there'))
