use Rattle.std.proofs.Common.{rules, ◌≡◌, ℕ, true, length, take, ap, sym, ◌∙◌, subst}
use Rattle.nv_entry.specs.Covered.{part_total}
use Rattle.nv_cell.specs.Cell.{CellValue}
use Rattle.nv_cell.specs.Fields.{state_in}
use Rattle.nv_cell.specs.Readers.{keeps_nothing}
use Rattle.nv_cell.proofs.Erasing.{none_left, slots_empty}
use Rattle.nv_cell.proofs.Publishing.{take_whole}
use Rattle.nv_cell.proofs.cell.InodeCell.erase.Goals as goal

pub clear_slots-requires : goal.clear_slots-requires
clear_slots-requires c =
    let s = state_in c.self.inside in
    let inv = c.self.invariant in
    let nothing = subst (λ (v : CellValue). keeps_nothing v.state ≡ true) (sym c.self.view_is) c.requires.nothing in
    let tail : s.chain.tail ≡ length s.chain.entries =
    subst (λ (v : CellValue). v.state.chain.tail ≡ length v.state.chain.entries) (sym c.self.view_is) c.requires.published in
    let all : length s.marks ≡ part_total s.chain.entries =
    inv.marks.len ∙ ap (λ (t : ℕ). part_total (take t s.chain.entries)) tail ∙ ap part_total (take_whole s.chain.entries) in
    slots_empty s.chain.entries c.self.inside.blocks.items inv.slots (none_left s inv.blocks all nothing)

pub invariant_of-self : goal.invariant_of-self
invariant_of-self c = record {
  some = search rules;
  pages = search rules;
  marks = search rules;
  blocks = search rules;
  refs = λ key. search (rules, c.reset.ensures.refs key);
  names = search rules;
  ends_len = search rules;
  ends = search rules;
  tallied = search rules;
  spare = search rules;
  held = search rules;
  slots = search rules;
  blocks_room = search rules;
  pages_room = search rules;
  no_numbers = search rules;
  no_killed = search rules;
}
