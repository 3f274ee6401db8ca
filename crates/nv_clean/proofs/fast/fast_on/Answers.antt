use Rattle.std.proofs.Common.{◌≡◌, ◌∙◌, ◌-◌, ℕ, List, ap, arith, length, subst, sym}
use Rattle.nv_alloc.specs.Block.{BlockValue}
use Rattle.nv_cell.specs.Cell.{CellState, log_of}
use Rattle.nv_clean.specs.Cleaned.{KeepsValues, with_pages_unlinked}
use Rattle.nv_clean.specs.Plans.{UnlinkableValue, pages_staying, unlinkable_of}
use Rattle.nv_clean.proofs.Cleanings.{entries_lost, log_without, nodes_stay, pages_flagged, pages_keep, pages_lost}
use Rattle.nv_entry.specs.Clean.{entries_of, select}
use Rattle.nv_entry.specs.Laws.{KeepsReads}
use Rattle.nv_entry.specs.declared.item.Entry.{Entry}
use Rattle.nv_clean.specs.declared.cleaned.Cleaned.{Cleaned}
use Rattle.nv_log.specs.Chain.{ChainState, log_pages}
use Rattle.nv_clean.proofs.fast.fast_on.Goals as goal

-- the cell is without the pages that the walk finds
left_is : (c : goal.After-drop-unlinkable-inside)
    → c.unlink.new.cell.state ≡ with_pages_unlinked (unlinkable_of c.args.cell.now.state) c.args.cell.now.state
left_is c =
    c.unlink.ensures.cell ∙ ap (λ (u : UnlinkableValue). with_pages_unlinked u c.args.cell.now.state) c.requires.walk

log_is : (c : goal.After-drop-unlinkable-inside)
    → log_of c.unlink.new.cell.state ≡ entries_of (select (pages_staying c.args.cell.now.state) (log_pages c.args.cell.now.state.chain))
log_is c =
    let cell = c.args.cell.now.state in
    ap log_of (left_is c) ∙ log_without (pages_staying cell) cell.chain c.holds_together.ensures.chain (pages_flagged cell)

pub returns-clause-log : goal.returns-clause-log
returns-clause-log c =
    log_is c
    ∙ sym (ap (λ (u : UnlinkableValue). entries_of (select u.stays (log_pages c.args.cell.now.state.chain))) c.requires.walk)

values : (c : goal.After-drop-unlinkable-inside) → KeepsValues c.args.cell.now.state c.unlink.new.cell.state
values c = λ r are.
    subst (λ (l : List Entry). KeepsReads r (log_of c.args.cell.now.state) l) (sym (log_is c))
    (pages_keep c.args.cell.now.state c.holds_together.ensures r are)

pub returns-clause-values : goal.returns-clause-values
returns-clause-values c = values c

pub returns-clause-nodes : goal.returns-clause-nodes
returns-clause-nodes c =
    nodes_stay c.args.cell.now.state c.unlink.new.cell.state c.holds_together.ensures
    (ap (λ (cell : CellState). cell.block) (left_is c))
    (values c)

pub returns-clause-entries : goal.returns-clause-entries
returns-clause-entries c =
    let cell = c.args.cell.now.state in
    ap (λ (cleaned : Cleaned). cleaned.entries) c.since.ensures
    ∙ ap (λ (n : ℕ). n - length c.unlink.new.cell.state.chain.entries) c.len-entries.ensures
    ∙ ap (λ (left : CellState). length cell.chain.entries - length left.chain.entries) (left_is c)
    ∙ entries_lost cell c.holds_together.ensures c.requires.published
    ∙ sym (ap (λ (u : UnlinkableValue). u.entries) c.requires.walk)

pub returns-clause-pages : goal.returns-clause-pages
returns-clause-pages c =
    let cell = c.args.cell.now.state in
    let said = ap (λ (cleaned : Cleaned). cleaned.pages) c.since.ensures in
    let had = ap (λ (blocks : List BlockValue). length blocks)
    (c.blocks-pages.ensures ∙ ap (λ (chain : ChainState). chain.blocks) c.log.ensures.state) in
    let left = ap (λ (left : CellState). length left.chain.blocks) (left_is c) in
    let told = ap (λ (u : UnlinkableValue). u.pages) c.requires.walk in
    omega (arith, said, had, left, told, pages_lost cell c.holds_together.ensures)
