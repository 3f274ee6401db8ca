use Rattle.std.proofs.Common.{◌∙◌, inl, refl, sym}
use Rattle.nv_sessions.proofs.Refusals.{of_round}
use Rattle.nv_sessions.proofs.Turns.{check_keeps}
use Rattle.nv_sessions.proofs.rounds.round.Goals as goal

pub returns-in-Err-clause-ended : goal.returns-in-Err-clause-ended
returns-in-Err-clause-ended g c = (refl, inl (of_round c.args.update c.in-Err.fault c.in-Err.ensures.err))

pub returns-in-Err-clause-short : goal.returns-in-Err-clause-short
returns-in-Err-clause-short g c = check_keeps c.args.update c.in-Err.fault c.in-Err.ensures.err c.args.seat.now.asking.turn

pub returns-clause-ended : goal.returns-clause-ended
returns-clause-ended g c = c.of.ensures.ended _ _ _ c.args.update c.change_slots-hand.ensures.ended c.answer_to-nothing.ensures

pub returns-clause-short : goal.returns-clause-short
returns-clause-short g c = c.change_slots-hand.ensures.short ∙ sym (c.of.ensures.short c.args.seat.now.asking.turn)
