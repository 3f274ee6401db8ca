use Rattle.nv_steps.specs.OnBook.{drain_of}
use Rattle.nv_sessions.proofs.Draining.{finds_nothing, looks, picks}
use Rattle.nv_sessions.proofs.drain.look_first.Goals as goal

pub returns-clause-run : goal.returns-clause-run
returns-clause-run g c numbers actor left h0 r0 r w before =
    let d = drain_of c.args.released left in
    looks numbers actor h0 r0 d r c.pick.result
    (picks numbers actor h0 r0 d r _ _ _ c.pick.result w (c.pick.ensures.turn numbers actor left r before))

-- so is one that the flag ends
pub returns-then-not-is_raised-clause-run : goal.returns-then-not-is_raised-clause-run
returns-then-not-is_raised-clause-run g c numbers actor left h0 r0 r w before =
    finds_nothing numbers actor h0 r0 c.args.released left r w before
