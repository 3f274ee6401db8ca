use Rattle.std.proofs.Common.{◌≡◌, ◌++◌, ℕ, List, [], ap, arith, length, replicate, ◌∙◌}
use Rattle.nv_cell.specs.declared.mark.Mark.{Mark}
use Rattle.nv_cell.specs.declared.mark.Mark.TheVariants.{Current}
use Rattle.nv_cell.specs.Numbers.{part_base}
use Rattle.nv_cell.proofs.Publishes.{first_base}
use Rattle.nv_cell.proofs.Publishing.{total_take}
use Rattle.nv_cell.proofs.Scanning.{base_at}
use Rattle.nv_cell.proofs.scan.fresh_marks.Goals as goal

pub push_ends-requires-clause-none : goal.push_ends-requires-clause-none
push_ends-requires-clause-none c = c.in_ok-reserve.ensures.same.ends.items ∙ c.new-marks.ensures.ends

pub push_ends-requires-clause-room : goal.push_ends-requires-clause-room
push_ends-requires-clause-room c = omega (arith, c.in_ok-reserve.ensures.spare.ends, c.len.ensures)

pub push_ends-requires-clause-small : goal.push_ends-requires-clause-small
push_ends-requires-clause-small c = omega (arith, c.in_ok-reserve.ensures.counted, c.count_parts.ensures)

pub push_current-requires : goal.push_current-requires
push_current-requires c =
    let es = c.args.chain.now.state.entries in
    let tail = c.args.tail in
    let parts : c.first-parts.result ≡ part_base es tail =
    c.first-parts.ensures ∙ base_at c.push_ends.new.ends.items es (length es) c.push_ends.ensures.ended tail c.requires in
    omega (
      arith,
      parts,
      total_take es tail,
      c.in_ok-reserve.ensures.spare.marks,
      c.in_ok-reserve.ensures.counted,
      c.count_parts.ensures,
    )

pub returns-clause-ends : goal.returns-clause-ends
returns-clause-ends c =
    let es = c.args.chain.now.state.entries in
    let spare = c.in_ok-reserve.ensures.spare in
    record {
      ends = record {
        first = first_base c.push_ends.new.ends.items es (length es) c.push_ends.ensures.ended;
        small = omega (arith, c.in_ok-reserve.ensures.counted, c.count_parts.ensures);
      };
      len = c.push_ends.ensures.len;
      ended = c.push_ends.ensures.ended;
      ends_room = omega (arith, c.push_ends.ensures.capacity, spare.ends, c.len.ensures);
      tallies_room = omega (arith, spare.tallies, c.len.ensures);
      pages_room = omega (
        arith,
        c.in_ok-reserve.ensures.pages,
        c.saturating_add-pages.ensures,
        ap length c.blocks-2.ensures,
        c.spare.ensures,
        c.reserve.new.self.pages.small,
      );
    }

pub returns-clause-marks : goal.returns-clause-marks
returns-clause-marks c =
    let es = c.args.chain.now.state.entries in
    let tail = c.args.tail in
    let parts : c.first-parts.result ≡ part_base es tail =
    c.first-parts.ensures ∙ base_at c.push_ends.new.ends.items es (length es) c.push_ends.ensures.ended tail c.requires in
    let none : c.reserve.new.self.marks.items ≡ [] = c.in_ok-reserve.ensures.same.marks.items ∙ c.new-marks.ensures.marks in
    c.push_current.ensures.items ∙ ap (λ (ms : List Mark). ms ++ replicate c.first-parts.result Current) none
    ∙ ap (λ (n : ℕ). replicate n Current) parts
