use Rattle.std.proofs.Common.{◌+◌, ◌-◌, length, arith, refl, ap, sym, ◌∙◌}
use Rattle.nv_cell.specs.Marks.{bit}
use Rattle.nv_cell.proofs.Runs.{fewer_runs}
use Rattle.nv_cell.proofs.Tallies.{counts_page}
use Rattle.nv_cell.proofs.Setting.{reads, set_tallied, there_falls, valid_there}
use Rattle.nv_cell.proofs.marks.Marks.set.Goals as goal

pub moved-new-requires : goal.moved-new-requires
moved-new-requires c =
    let r = reads c.args.self.now c.requires.tallied.tallies c.requires.there refl c.entry_of-i.ensures c.index-was.ensures
    c.index-old.ensures in
    record {
      there = rw r.was_is c.requires.there;
      ended = c.requires.ended;
      current = r.counts.current;
      counted = rw (r.was_is, c.requires.there) at r.counts.there;
    }

pub page_of-k-requires : goal.page_of-k-requires
page_of-k-requires c =
    let r = reads c.args.self.now c.requires.tallied.tallies c.requires.there refl c.entry_of-i.ensures c.index-was.ensures
    c.index-old.ensures in
    fewer_runs c.args.page_ends.now (length c.args.self.now.tallies.items) (c.entry_of-i.result + 1) c.requires.tallied.counts.runs
    (omega (arith, r.entry))

pub recounted-requires-clause-live : goal.recounted-requires-clause-live
recounted-requires-clause-live c =
    let r = reads c.args.self.now c.requires.tallied.tallies c.requires.there refl c.entry_of-i.ensures c.index-was.ensures
    c.index-old.ensures in
    rw r.old_is (counts_page c.requires.tallied.counts c.page_of-k.ensures r.entry c.index.ensures).live

pub recounted-requires-clause-valid : goal.recounted-requires-clause-valid
recounted-requires-clause-valid c =
    let r = reads c.args.self.now c.requires.tallied.tallies c.requires.there refl c.entry_of-i.ensures c.index-was.ensures
    c.index-old.ensures in
    rw r.old_is (counts_page c.requires.tallied.counts c.page_of-k.ensures r.entry c.index.ensures).valid

pub recounted-requires-clause-no_more_valid : goal.recounted-requires-clause-no_more_valid
recounted-requires-clause-no_more_valid c _ =
    let r = reads c.args.self.now c.requires.tallied.tallies c.requires.there refl c.entry_of-i.ensures c.index-was.ensures
    c.index-old.ensures in
    valid_there c.index-old.result.now c.index-was.result.now r.counts.there (rw r.was_is c.requires.there)

pub returns-then-not-is_there-clause-tallied : goal.returns-then-not-is_there-clause-tallied
returns-then-not-is_there-clause-tallied c =
    let m = c.args.self.now in
    let r = reads c.args.self.now c.requires.tallied.tallies c.requires.there refl c.entry_of-i.ensures c.index-was.ensures
    c.index-old.ensures in
    let fewer = there_falls m.marks.items c.args.part.number c.args.mark m.there c.requires.there c.requires.tallied.there
    (sym c.is_there.ensures ∙ c.if-not-is_there.true) in
    set_tallied c.args.mark (m.there - 1) c.requires.tallied r c.requires.there c.page_of-k.ensures c.moved-new.ensures c.index.ensures
    c.recounted.ensures fewer

pub returns-else-not-is_there-clause-tallied : goal.returns-else-not-is_there-clause-tallied
returns-else-not-is_there-clause-tallied c =
    let m = c.args.self.now in
    let r = reads c.args.self.now c.requires.tallied.tallies c.requires.there refl c.entry_of-i.ensures c.index-was.ensures
    c.index-old.ensures in
    set_tallied c.args.mark m.there c.requires.tallied r c.requires.there c.page_of-k.ensures c.moved-new.ensures c.index.ensures
    c.recounted.ensures (ap (λ b. m.there + bit b) (sym c.if-not-is_there.false ∙ c.is_there.ensures))
