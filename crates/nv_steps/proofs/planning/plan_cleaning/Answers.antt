use Rattle.std.proofs.Common.{◌∙◌, ap, sym}
use Rattle.nv_alloc.specs.Queue.{QueueValue}
use Rattle.nv_steps.specs.Hands.{hand_of}
use Rattle.nv_steps.specs.Planning.{manner_of}
use Rattle.nv_steps.proofs.PlanTurns.{plans}
use Rattle.nv_steps.proofs.planning.plan_cleaning.Goals as goal

pub returns-clause-turn : goal.returns-clause-turn
returns-clause-turn c numbers actor ino r holds =
    let hand = c.args.hand.now in
    plans numbers actor ino r (manner_of c.args.manner) c.args.cell.now.state (hand_of hand)
    (hand_of (record hand { pages = c.choose.new.pages })) holds
    (ap (λ (q : QueueValue). hand_of (record hand { pages = q })) c.choose.ensures.rest.same)
    (sym c.has_inode.ensures ∙ c.if-not-has_inode.false)
    c.choose.result c.choose.ensures.found c.choose.ensures.err
