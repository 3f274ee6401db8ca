use Rattle.nv_machine.proofs.ListsAsked.{lists_asked}
use Rattle.nv_machine.proofs.plain_laws.short_takings_have_asked_every_list.Goals as goal

pub returns : goal.returns
returns c = lists_asked
