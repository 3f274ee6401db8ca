use Rattle.std.proofs.Common.{arith, refl}
use Rattle.nv_log.proofs.Cuts.{IsChain-of_image}
use Rattle.nv_log.proofs.chain.Chain.rebuild.Goals as goal

pub returns-in-Err-clause-same : goal.returns-in-Err-clause-same
returns-in-Err-clause-same c = rw (c.make_room.ensures.entries, c.make_room.ensures.ends, ← c.image.view_is) refl

pub invariant_of-result : goal.invariant_of-result
invariant_of-result c =
    let asked = c.requires in
    let whole = IsChain-of_image c.args.page c.args.image asked.least asked.most asked.paged asked.rising in
    let is = rw (← c.image.view_is) at whole in
    record {
      chain = rw (c.make_room.ensures.entries, c.make_room.ensures.ends) is;
      run = c.empty-run.ensures c.make_room.new.entries.items;
      there = omega (arith, c.len-reserved.ensures);
      blocks_room = omega (arith, c.len-reserved.ensures, c.image.inside.pages.ok);
      ends_room = c.in_default.ensures.ends_room;
      entries_room = c.in_default.ensures.entries_room;
    }

pub returns-clause-state : goal.returns-clause-state
returns-clause-state c = rw (c.make_room.ensures.entries, c.make_room.ensures.ends, ← c.image.view_is) refl
