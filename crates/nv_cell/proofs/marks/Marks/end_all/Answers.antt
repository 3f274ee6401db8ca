use Rattle.std.proofs.Common.{◌≡◌, ◌+◌, ◌<◌, ◌≤◌, ℕ, List, arith, ap, cond, get_or, length, slice_index, sym, take, ◌∙◌}
use Rattle.std.proofs.lemmas.List.{take_all}
use Rattle.std.specs.Global.{Vec}
use Rattle.nv_cell.specs.declared.mark.Mark.{Mark}
use Rattle.nv_cell.specs.declared.number.NumberedPart.{NumberedPart}
use Rattle.nv_cell.specs.Anew.{birth_at, mark_ended}
use Rattle.nv_cell.specs.Marks.{mark_at}
use Rattle.nv_cell.specs.Numbers.{numbers_in}
use Rattle.nv_cell.specs.Tallies.{is_in}
use Rattle.nv_cell.proofs.EntryRead.{entry_read}
use Rattle.nv_cell.proofs.Numbered.{ended_more, number_at_place}
use Rattle.nv_cell.proofs.Scanning.{born_in, part_runs}
use Rattle.nv_cell.proofs.marks.Marks.end_all.Goals as goal

none : NumberedPart
none = record { number = 0; entry = 0 }

-- a part of the list is one of the marked parts
low : (parts : List NumberedPart) (i many : ℕ) → i < length parts
    → ((j : ℕ) → j < length parts → slice_index (numbers_in parts) j < many)
    → (get_or parts i none).number < many
low parts i many lt within = omega (arith, number_at_place parts i 0 none lt, within i lt)

pub entry_of-requires : goal.entry_of-requires
unfolding none
entry_of-requires c =
    let es = c.args.chain.now.state.entries in
    let parts = c.args.ended.now in
    let i = c.loop-part.part-index in
    let n = (get_or parts i none).number in
    let few = low parts i (length c.args.self.now.marks.items) c.loop-part-test.true c.requires.within in
    record {
      runs = rw c.loop-part.invariant.ends
          (part_runs es c.args.self.now.ends.items n c.requires.ends.len c.requires.ends.ended (omega (arith, few, c.requires.known)));
    }

pub entry_at-entry-requires : goal.entry_at-entry-requires
entry_at-entry-requires c =
    omega (
      arith,
      c.entry_of.ensures.within,
      ap (λ (ends : Vec ℕ). length ends.items) c.loop-part.invariant.ends,
      c.requires.ends.len,
    )

pub index_mut-requires : goal.index_mut-requires
unfolding none
index_mut-requires c =
    let parts = c.args.ended.now in
    let i = c.loop-part.part-index in
    let few = low parts i (length c.args.self.now.marks.items) c.loop-part-test.true c.requires.within in
    omega (arith, few, c.loop-part.invariant.len, c.args.self.now.marks.ok)

pub loop-part-preserved : goal.loop-part-preserved
unfolding none
loop-part-preserved c =
    let old = c.args.self.now in
    let marks = c.loop-part.self.marks.items in
    let es = c.args.chain.now.state.entries in
    let parts = c.args.ended.now in
    let i = c.loop-part.part-index in
    let inv = c.loop-part.invariant in
    let n = (get_or parts i none).number in
    let e = c.entry_at-entry.result.now in
    let read = entry_read es c.entry_of.result e c.entry_at-entry.ensures in
    let few = low parts i (length old.marks.items) c.loop-part-test.true c.requires.within in
    let within : n < length marks = omega (arith, few, inv.len, old.marks.ok, c.loop-part.self.marks.ok) in
    let run = rw inv.ends at c.entry_of.ensures in
    let born : birth_at es n ≡ e.epoch = born_in c.args.chain.now n c.entry_of.result e old c.requires.ends run read.within read.is in
    let f : ℕ → Mark = λ k. mark_ended c.args.living.now (birth_at es k) c.args.death in
    let is : c.ended.result ≡ f n =
    c.ended.ensures ∙ ap (λ (birth : ℕ). mark_ended c.args.living.now birth c.args.death) (sym born) in
    record {
      len = inv.len;
      ends = inv.ends;
      room = record { marks = inv.room.marks; ends = inv.room.ends; tallies = inv.room.tallies; pages = inv.room.pages };
      marks = λ k. ended_more marks parts i k none f c.ended.result (mark_at old.marks.items k) c.loop-part-test.true within is
          (inv.marks k);
    }

pub returns-clause-marks : goal.returns-clause-marks
returns-clause-marks c n =
    let old = c.args.self.now.marks.items in
    let es = c.args.chain.now.state.entries in
    let mark = mark_ended c.args.living.now (birth_at es n) c.args.death in
    let all : take c.loop-part.part-index c.args.ended.now ≡ c.args.ended.now =
    take_all c.loop-part.part-index c.args.ended.now (omega arith) in
    c.loop-part.invariant.marks n
    ∙ ap (λ (ps : List NumberedPart). cond (is_in n (numbers_in ps)) mark (mark_at old n)) all
