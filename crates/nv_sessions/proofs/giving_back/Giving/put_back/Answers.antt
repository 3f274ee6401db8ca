use Rattle.std.proofs.Common.{◌∙◌, sym}
use Rattle.nv_steps.specs.Hands.{hand_of}
use Rattle.nv_sessions.proofs.Pool.{pool_taken, pool_told}
use Rattle.nv_sessions.proofs.giving_back.Giving.put_back.Goals as goal

pub returns-clause-pool : goal.returns-clause-pool
returns-clause-pool c =
    let takes = sym c.takes_number.ensures ∙ c.if-not-takes_number.false in
    pool_told c.args.pool.now c.return_number.new.pool c.args.ino (hand_of c.args.hand.now) (hand_of c.return_number.new.hand)
    c.requires.own c.return_number.ensures.turn
    ∙ sym (pool_taken c.args.pool.now c.args.ino c.args.hand.now.ino c.requires.own takes)
