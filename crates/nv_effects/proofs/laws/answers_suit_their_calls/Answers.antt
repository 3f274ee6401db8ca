use Rattle.nv_effects.proofs.Fair.{all_fair, answer_fair, refused_fair}
use Rattle.nv_serial.specs.OneCall.{serial_call}
use Rattle.nv_effects.proofs.laws.answers_suit_their_calls.Goals as goal

pub returns-clause-answered : goal.returns-clause-answered
returns-clause-answered c = answer_fair

pub returns-clause-refused : goal.returns-clause-refused
returns-clause-refused c = λ s actor on why is. refused_fair on s (serial_call s actor on) why is (all_fair s actor on)
