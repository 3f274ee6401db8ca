use Rattle.std.proofs.Common.{◌≡◌, ℕ, ◌+◌, [], ◌∷◌, arith, ap, sym, ◌∙◌, length, length-append, replicate}
use Rattle.nv_cell.specs.declared.mark.Mark.TheVariants.{Current}
use Rattle.nv_cell.specs.Marks.{mark_at}
use Rattle.nv_cell.specs.Numbers.{part_base}
use Rattle.nv_cell.proofs.Cells.{base_rises, mark_step, end_step}
use Rattle.nv_cell.proofs.EntryRead.{entry_read}
use Rattle.nv_cell.proofs.Publishing.{total_take}
use Rattle.nv_cell.proofs.Publishes.{chain_runs}
use Rattle.nv_cell.proofs.Runs.{fewer_runs}
use Rattle.nv_cell.proofs.Tallies.{fresh_length}
use Rattle.nv_cell.proofs.publish.add_all.Goals as goal

pub add-requires-clause-room : goal.add-requires-clause-room
add-requires-clause-room c =
    let es = c.args.chain.now.state.entries in
    let t = c.loop-t.t in
    let e = c.entry_at-entry.result.now in
    let p = entry_read es t e c.entry_at-entry.ensures in
    let r = c.loop-t.invariant.room in
    let up = base_rises es c.args.tail t c.loop-t.auto.t in
    record {
      marks =
          omega (
            arith,
            p.parts,
            up,
            total_take es
                (t + 1),
            c.part_count.ensures,
            c.loop-t.invariant.len,
            r.marks,
            c.requires.room.marks,
            c.requires.len,
          );
      ends = omega (arith, c.loop-t.invariant.counted, r.ends, c.requires.room.ends, c.requires.counted, p.within);
      tallies =
          omega (
            arith,
            c.loop-t.invariant.counted,
            c.loop-t.invariant.tallied.tallies.len,
            r.tallies,
            c.requires.room.tallies,
            c.requires.tallied.tallies.len,
            c.requires.counted,
            p.within,
          );
    }

pub add-requires-clause-page : goal.add-requires-clause-page
add-requires-clause-page c =
    let es = c.args.chain.now.state.entries in
    let t = c.loop-t.t in
    let e = c.entry_at-entry.result.now in
    let p = entry_read es t e c.entry_at-entry.ensures in
    let n = length c.loop-t.marks.tallies.items in
    rw c.ends.ensures.value (fewer_runs c.args.chain.now.state.ends (length es) (n + 1)
    (chain_runs c.args.chain.now.state c.ends.ensures.chain)
    (omega (arith, c.loop-t.invariant.counted, c.loop-t.invariant.tallied.tallies.len, p.within)))

pub loop-t-preserved : goal.loop-t-preserved
loop-t-preserved c =
    let es = c.args.chain.now.state.entries in
    let t = c.loop-t.t in
    let e = c.entry_at-entry.result.now in
    let p = entry_read es t e c.entry_at-entry.ensures in
    let up : part_base es (t + 1) ≡ part_base es t + c.part_count.result =
    p.parts ∙ ap (λ (k : ℕ). part_base es t + k) (sym c.part_count.ensures) in
    let len = c.loop-t.invariant.len in
    let r = c.loop-t.invariant.room in
    let s = c.add.ensures.room in
    record {
      counted =
          omega (
            arith,
            ap length c.add.ensures.ends,
            length-append c.loop-t.marks.ends.items
                ((length c.loop-t.marks.marks.items + c.part_count.result) ∷ []),
            c.loop-t.invariant.counted,
          );
      len =
          omega (
            arith,
            ap length c.add.ensures.marks,
            length-append c.loop-t.marks.marks.items
                (replicate c.part_count.result Current),
            fresh_length c.part_count.result,
            len,
            up,
          );
      room = record { marks = s.marks ∙ r.marks; ends = s.ends ∙ r.ends; tallies = s.tallies ∙ r.tallies; pages = s.pages ∙ r.pages };
      ended =
          λ i li. rw c.add.ensures.ends (end_step c.loop-t.marks.ends.items es t
          (length c.loop-t.marks.marks.items + c.part_count.result) i c.loop-t.invariant.counted (omega (arith, up, len)) li
          (λ l. c.loop-t.invariant.ended i l));
      tallied = rw c.ends.ensures.value at c.add.ensures.tallied;
      marks =
          λ n. mark_step c.loop-t.marks.marks.items c.add.new.self.marks.items (mark_at c.args.marks.now.marks.items n)
          (part_base es c.args.tail) (part_base es t) (part_base es (t + 1)) c.part_count.result n c.add.ensures.marks len up
          (base_rises es c.args.tail t c.loop-t.auto.t) (c.loop-t.invariant.marks n);
    }
