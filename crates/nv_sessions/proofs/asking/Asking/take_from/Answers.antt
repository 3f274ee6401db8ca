use Rattle.std.proofs.Common.{rules, ◌∙◌, arith, length-take, sym}
use Rattle.nv_alloc.specs.FreeList.{IsHomeList}
use Rattle.nv_sessions.proofs.Takings.{taken_from}
use Rattle.nv_sessions.proofs.asking.Asking.take_from.Goals as goal

pub returns-clause-taken : goal.returns-clause-taken
returns-clause-taken g c =
    let home : IsHomeList c.args.geometry.now.numbers c.args.cpu c.args.list.now = search rules in
    let list = c.args.list.now in
    taken_from c.take.result c.args.wanted list.end list c.args.queue.now c.take.new.queue
    (omega (arith, home.end, c.home_ends_within.ensures, c.args.geometry.now.limits.blocks_fit)) home.free.below_end (length-take c.args.wanted list.blocks ∙ sym c.take.ensures.taken) c.take.ensures.queue
