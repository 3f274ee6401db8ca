use Rattle.std.proofs.Common.{◌≡◌, ◌-◌, ◌∷◌, [], arith, length-append, refl, ap, subst, sym, ◌∙◌}
use Rattle.nv_log.specs.Chain.{with_page}
use Rattle.nv_cell.specs.Cell.{CellValue}
use Rattle.nv_cell.specs.Fields.{value_in}
use Rattle.nv_cell.specs.Room.{IsReadyFor}
use Rattle.nv_cell.proofs.Appending.{sized_more}
use Rattle.nv_cell.proofs.ReadySteps.{adds_page, page_ready}
use Rattle.nv_cell.proofs.cell.InodeCell.add_page.Goals as goal

pub invariant_of-self : goal.invariant_of-self
invariant_of-self c =
    let inv = c.self.invariant in
    rw c.add_page.ensures.state (record {
      some = inv.some;
      pages = sized_more c.self.inside.block c.self.inside.chain.state.blocks c.args.block inv.pages
          (c.requires.sized ∙ sym (ap (λ (v : CellValue). v.state.block) c.self.view_is));
      marks = record { len = inv.marks.len; current = inv.marks.current };
      blocks = record { len = inv.blocks.len; numbers = inv.blocks.numbers; sized = inv.blocks.sized };
      refs = inv.refs;
      names = inv.names;
      ends_len = inv.ends_len;
      ends = inv.ends;
      tallied = inv.tallied;
      spare = inv.spare;
      held = inv.held;
      slots = inv.slots;
      blocks_room = inv.blocks_room;
      pages_room =
          omega (arith, inv.pages_room, length-append c.self.inside.chain.state.blocks (c.args.block ∷ []), c.add_page.ensures.spare);
      no_numbers = inv.no_numbers;
      no_killed = inv.no_killed;
    })

pub returns-clause-pages : goal.returns-clause-pages
returns-clause-pages c =
    rw (← c.self.view_is, c.add_page.ensures.state) (adds_page c.args.block c.self.inside.chain.state c.holds_together.ensures)

pub returns-clause-ready : goal.returns-clause-ready
returns-clause-ready c items h =
    let i = c.self.inside in
    let chain : c.add_page.new.self.state ≡ with_page c.args.block i.chain.state = c.add_page.ensures.state in
    let spare : c.add_page.new.self.spare ≡ i.chain.spare - 1 = omega (arith, c.add_page.ensures.spare) in
    page_ready c.args.block items (value_in i) _ c.holds_together.ensures (rw chain refl) (rw spare refl)
    (subst (λ (v : CellValue). IsReadyFor items v) (sym c.self.view_is) h)
