use Rattle.nv_steps.proofs.RefusedRuns.{refused_once}
use Rattle.nv_steps.proofs.laws.runs_are_refused_once.Goals as goal

pub returns : goal.returns
returns c = λ numbers actor h0 r0 fault h run going. refused_once numbers actor h0 r0 going fault h run
