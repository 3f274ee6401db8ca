use Rattle.std.proofs.Common.{◌≡◌, List, map, ℕ}
use Rattle.nv_work.specs.declared.forked.ForkedCall.{ForkedCall}
use Rattle.nv_work.proofs.crew.Crew.seated.Given as goal

abbrev pub invariant-loop-session : goal.invariant-loop-session
invariant-loop-session g l = record {
  jobs : map {B = ℕ × List ForkedCall} (λ job. (job.thread, job.calls.items)) l.jobs.items
      ≡ map {B = ℕ × List ForkedCall} (λ p. (p.1.0, p.1.1.items)) l.yielded;
  seats : map (λ job. job.session.number) l.jobs.items ≡ map (λ p. p.0.number) l.yielded;
}
