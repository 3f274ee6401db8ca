use Rattle.nv_machine.proofs.TakingOrder.{takes_in_turn}
use Rattle.nv_machine.proofs.laws.data_is_taken_before_log_pages.Goals as goal

pub returns : goal.returns
returns c = λ block actor granted s h r. takes_in_turn r.next block actor granted s h r
