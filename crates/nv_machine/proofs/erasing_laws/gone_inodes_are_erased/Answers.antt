use Rattle.nv_machine.proofs.ErasingLaw.{hand_has_it, none_stays, retire_erases}
use Rattle.nv_machine.proofs.Releasing.{release_erases, released_has_it}
use Rattle.nv_machine.proofs.NumbersReturn.{number_returns}
use Rattle.nv_machine.proofs.erasing_laws.gone_inodes_are_erased.Goals as goal

pub returns-clause-retire : goal.returns-clause-retire
returns-clause-retire c = retire_erases

pub returns-clause-release : goal.returns-clause-release
returns-clause-release c = release_erases

pub returns-clause-hand : goal.returns-clause-hand
returns-clause-hand c = hand_has_it

pub returns-clause-released : goal.returns-clause-released
returns-clause-released c = released_has_it

pub returns-clause-pool : goal.returns-clause-pool
returns-clause-pool c = number_returns

pub returns-clause-none : goal.returns-clause-none
returns-clause-none c = none_stays
