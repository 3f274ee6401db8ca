use Rattle.std.proofs.Common.{◌≡◌, ◌+◌, List, ◌∷◌, length, ap, sym, ◌∙◌, arith, subst}
use Rattle.nv_alloc.specs.Queue.{QueueValue}
use Rattle.nv_log.specs.Chain.{IsChain}
use Rattle.nv_entry.specs.Blocks.{item_blocks}
use Rattle.nv_cell.specs.Append.{MayAppend, blocks_for}
use Rattle.nv_cell.specs.Cell.{CellValue}
use Rattle.nv_alloc.specs.Block.{numbers_of}
use Rattle.nv_entry.specs.declared.item.Entry.{Entry}
use Rattle.nv_entry.specs.declared.item.Item.{Item}
use Rattle.nv_calls.specs.Cells.{value_at}
use Rattle.nv_calls.specs.Steps.{numbers_in, stamped_entries, stamped_entry, with_entries, with_entry, without_front}
use Rattle.nv_calls.proofs.Appends.{IsUnderway, blocks_are, goes_on, may_append, without_more}
use Rattle.nv_calls.proofs.CellLists.{only_along, value_is}
use Rattle.nv_calls.proofs.append.append_to_pages.Goals as goal

pub append-requires-clause-next : goal.append-requires-clause-next
append-requires-clause-next g c =
    let l = c.loop-done in
    let now = value_at (g.C.Cells.cells l.cells) c.args.k in
    let under = rw c.in-Some.ensures.items at l.invariant.underway in
    subst (λ (e : Entry). MayAppend e now) (sym c.entry_of.ensures)
    (may_append c.args.stamp.now l.next c.in-Some.item c.pop_front.new.self.items l.blocks now under)

pub append-requires-clause-blocks : goal.append-requires-clause-blocks
append-requires-clause-blocks g c =
    let l = c.loop-done in
    let now = value_at (g.C.Cells.cells l.cells) c.args.k in
    let under = rw c.in-Some.ensures.items at l.invariant.underway in
    subst (λ (e : Entry). numbers_of (blocks_for e.item l.blocks.blocks) ≡ item_blocks e.item) (sym c.entry_of.ensures)
    (blocks_are c.args.stamp.now l.next c.in-Some.item c.pop_front.new.self.items l.blocks now under)

pub loop-done-preserved : goal.loop-done-preserved
loop-done-preserved g c =
    let l = c.loop-done in
    let i = l.invariant in
    let k = c.args.k in
    let stamp = c.args.stamp.now in
    let item = c.in-Some.item in
    let rest = c.pop_front.new.self.items in
    let now = value_at (g.C.Cells.cells l.cells) k in
    let new = value_at (g.C.Cells.cells c.append.new.self) k in
    let items : l.left.items ≡ item ∷ rest = c.in-Some.ensures.items in
    let under = rw c.in-Some.ensures.items at i.underway in
    let e : c.entry_of.result ≡ stamped_entry stamp l.next item = c.entry_of.ensures in
    let made : new ≡ with_entry (stamped_entry stamp l.next item) l.blocks.blocks now =
    value_is new _ _ c.append.ensures.state c.append.ensures.room ∙ ap (λ (x : Entry). with_entry x l.blocks.blocks now) e in
    let queue : c.append.new.queue ≡ without_front (length (item_blocks item)) l.blocks =
    c.append.ensures.queue ∙ ap (λ (x : Entry). without_front (length (item_blocks x.item)) l.blocks) e in
    let chain : IsChain now.state.chain = subst (λ (v : CellValue). IsChain v.state.chain) c.cell.ensures c.holds_together.ensures.chain in
    record {
      only = only_along (g.C.Cells.cells c.args.cells.now) (g.C.Cells.cells l.cells)
          (g.C.Cells.cells c.append.new.self) k i.only c.append.ensures.cells;
      rest = ap (λ (q : QueueValue). with_entries (stamped_entries stamp (l.next + 1) rest) q.blocks new) queue
          ∙ ap (λ (v : CellValue). with_entries (stamped_entries stamp (l.next + 1) rest)
          (without_front (length (item_blocks item)) l.blocks).blocks v) made
          ∙ sym (ap (λ (xs : List Item). with_entries (stamped_entries stamp l.next xs) l.blocks.blocks now) items) ∙ i.rest;
      underway = subst (λ (q : QueueValue). IsUnderway stamp (l.next + 1) rest q new) (sym queue)
          (goes_on stamp l.next item rest l.blocks now new under chain made);
      count = omega (arith, i.count, ap length items);
      few = omega (arith, i.few, ap length items);
      queue = ap (without_front (length (numbers_in rest))) queue ∙ without_more item rest l.blocks
          ∙ sym (ap (λ (xs : List Item). without_front (length (numbers_in xs)) l.blocks) items) ∙ i.queue;
      frame = c.append.ensures.frame ∙ i.frame;
    }
