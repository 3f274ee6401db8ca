use Rattle.std.proofs.Common.{ap}
use Rattle.nv_service.specs.Sessions.{SessionValue}
use Rattle.nv_work.proofs.Seats.{made_seat}
use Rattle.nv_work.proofs.crew.answered.Goals as goal

pub returns-in-Ok-clause-seat : goal.returns-in-Ok-clause-seat
returns-in-Ok-clause-seat g c = made_seat _ _ _ _ _ _ c.in-Ok.ensures.ok

pub returns-in-Err-clause-seat : goal.returns-in-Err-clause-seat
returns-in-Err-clause-seat g c = ap (λ (s : SessionValue). s.number) c.in-Err.ensures.same
