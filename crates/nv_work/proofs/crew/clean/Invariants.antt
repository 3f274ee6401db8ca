use Rattle.std.proofs.Common.{◌≡◌}
use Rattle.nv_service.specs.Sessions.{with_held}
use Rattle.nv_work.proofs.crew.clean.Given as goal

abbrev pub invariant-loop : goal.invariant-loop
invariant-loop g l = record { same : l.session ≡ with_held l.session.held l.fn.session }
