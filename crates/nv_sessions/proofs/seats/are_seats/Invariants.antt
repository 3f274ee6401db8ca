use Rattle.std.proofs.Common.{◌≡◌, ℕ, ◌<◌, map}
use Rattle.nv_alloc.specs.Numbers.{times}
use Rattle.nv_sessions.specs.Sessions.{SessionValue}
use Rattle.nv_sessions.proofs.seats.are_seats.Given as goal

abbrev pub invariant-loop-number : goal.invariant-loop-number
invariant-loop-number g l = (n : ℕ) → n < l.number → times n (map (λ (s : SessionValue). s.number) l.sessions) ≡ 1
