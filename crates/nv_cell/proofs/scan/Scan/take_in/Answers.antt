use Rattle.std.proofs.Common.{◌≡◌, ◌<◌, ◌&&◌, ℕ, List, cond, length, arith, ap, refl, slice_index, ◌∙◌}
use Rattle.nv_entry.specs.declared.item.Entry.{Entry}
use Rattle.nv_entry.specs.Keys.{covers}
use Rattle.nv_entry.specs.Refs.{ref_after}
use Rattle.nv_entry.specs.Covered.{key_at}
use Rattle.nv_cell.specs.declared.number.NumberedPart.{NumberedPart}
use Rattle.nv_cell.specs.declared.scan.Scan.{Scan}
use Rattle.nv_cell.specs.Anew.{birth_at, mark_ended}
use Rattle.nv_cell.specs.Marks.{mark_at}
use Rattle.nv_cell.specs.Numbers.{is_named, numbers_in, part_base, times}
use Rattle.nv_cell.specs.Tallies.{is_in}
use Rattle.nv_cell.proofs.Cells.{base_rises}
use Rattle.nv_cell.proofs.EntryRead.{entry_read}
use Rattle.nv_cell.proofs.Numbered.{length_numbers}
use Rattle.nv_cell.proofs.Publishing.{IsScan, are_named, total_take}
use Rattle.nv_cell.proofs.Scanning.{ended_low, same_ends, scan_more, weight_few}
use Rattle.nv_cell.proofs.scan.Scan.take_in.Goals as goal
use Rattle.nv_cell.proofs.scan.Scan.take_in.Goals.{After-push_covered-place}

pub push_covered-place-requires-clause-ends : goal.push_covered-place-requires-clause-ends
push_covered-place-requires-clause-ends c = c.requires.scanned.ends.ends

pub push_covered-place-requires-clause-named : goal.push_covered-place-requires-clause-named
push_covered-place-requires-clause-named c =
    are_named c.args.block c.args.chain.now.state.entries c.args.t c.args.self.now.index
    (record { log = c.holds_together.ensures.rising; scan = c.requires.scanned.refs })

pub push_covered-place-requires-clause-room : goal.push_covered-place-requires-clause-room
push_covered-place-requires-clause-room c =
    let most = rw c.name_count-names.ensures.value at c.weight_of-most.ensures in
    omega (
      arith,
      weight_few c.args.block c.args.self.now.index c.entry_at-entry.result.now.item,
      most,
      c.in_ok-reserve.ensures.ok,
      c.reserve.new.self.small,
    )

-- the parts that the entry ends, by their numbers
counted : (c : After-push_covered-place) (n : ℕ) → times n (numbers_in c.push_covered-place.new.killed.items)
    ≡ cond (is_named c.args.chain.now.state.entries c.args.self.now.index n
    && covers c.args.block c.entry_at-entry.result.now.item (key_at c.args.chain.now.state.entries n)) 1 0
counted c n =
    let empty = c.in_ok-reserve.ensures.items ∙ c.clear.ensures.items in
    omega (
      arith,
      c.push_covered-place.ensures.numbers n,
      ap (λ (ps : List NumberedPart). times n (numbers_in ps)) empty,
    )

pub end_all-requires-clause-ends : goal.end_all-requires-clause-ends
end_all-requires-clause-ends c = c.requires.scanned.ends

pub end_all-requires-clause-within : goal.end_all-requires-clause-within
end_all-requires-clause-within c i lt =
    let es = c.args.chain.now.state.entries in
    let parts = c.push_covered-place.new.killed.items in
    let ns = numbers_in parts in
    let here = (goal.at.end_all-requires-clause-within c).After-push_covered-place in
    let is : IsScan c.args.block es c.args.t c.args.self.now.index =
    record { log = c.holds_together.ensures.rising; scan = c.requires.scanned.refs } in
    let within : i < length ns = omega (arith, lt, ap (λ (ps : List NumberedPart). length ps) c.deref.ensures.value, length_numbers parts) in
    let low : slice_index ns i < part_base es c.args.t =
    ended_low c.args.block es c.args.t c.entry_at-entry.result.now c.args.self.now.index is ns (counted here) i within in
    let same = ap (λ (ps : List NumberedPart). slice_index (numbers_in ps) i) c.deref.ensures.value in
    omega (
      arith,
      same,
      low,
      base_rises es c.args.t c.args.tail (omega (arith, c.requires.next)),
      c.requires.scanned.len,
    )

pub end_all-requires-clause-known : goal.end_all-requires-clause-known
end_all-requires-clause-known c =
    omega (arith, c.requires.scanned.len, total_take c.args.chain.now.state.entries c.args.tail)

pub returns-clause-ok : goal.returns-clause-ok
returns-clause-ok c =
    let es = c.args.chain.now.state.entries in
    let living = c.args.living.now in
    let old : Scan = c.args.self.now in
    let e : Entry = c.entry_at-entry.result.now in
    let here = (goal.at.returns-clause-ok c).After-push_covered-place in
    let ns = numbers_in c.push_covered-place.new.killed.items in
    let marks = c.end_all.new.self.marks.items in
    let new : Scan = record { index = c.put.new.self; marks = c.end_all.new.self; ended = c.push_covered-place.new.killed } in
    scan_more c.args.block living c.args.chain.now c.args.tail c.args.t e old c.holds_together.ensures.rising c.requires.next
    c.requires.within (entry_read es c.args.t e c.entry_at-entry.ensures).is c.requires.scanned ns (counted here) marks
    (λ n. c.end_all.ensures.marks n
    ∙ ap (λ (ps : List NumberedPart). cond (is_in n (numbers_in ps)) (mark_ended living (birth_at es n) e.epoch)
    (mark_at old.marks.marks.items n)) c.deref.ensures.value)
    new c.reserve_for.new.self.names
    (λ key. c.put.ensures.refs key ∙ ap (ref_after c.args.block e key) (c.in_ok-reserve_for.ensures.same.refs key))
    c.in_ok-reserve_for.ensures.same.names c.put.ensures.names refl
    (same_ends c.args.chain.now old.marks c.end_all.new.self c.requires.scanned.ends c.end_all.ensures.ends c.end_all.ensures.room)
    (omega (arith, c.end_all.ensures.len, c.end_all.new.self.marks.ok, old.marks.marks.ok))
