use Rattle.nv_machine.proofs.SingleEvents.{busy, goes, idles, nobody, starts}
use Rattle.nv_machine.proofs.laws.one_step.Goals as goal

pub returns-clause-goes : goal.returns-clause-goes
returns-clause-goes c = goes

pub returns-clause-starts : goal.returns-clause-starts
returns-clause-starts c = starts

pub returns-clause-nobody : goal.returns-clause-nobody
returns-clause-nobody c = nobody

pub returns-clause-busy : goal.returns-clause-busy
returns-clause-busy c = busy

pub returns-clause-idle : goal.returns-clause-idle
returns-clause-idle c = idles
