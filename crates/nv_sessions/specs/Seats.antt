-- The seats of a service.
use Rattle.std.specs.Prelude.{◌≡◌, ℕ, ◌<◌, List, [], length}
use Rattle.nv_alloc.specs.Numbers.{times}
use Rattle.nv_sessions.specs.Sessions.{SessionValue, nothing_held}

-- the session of a seat that was just given out
abbrev pub new_session : ℕ → SessionValue
new_session number = record { number = number; commits = 0; snapped = 0; seen = []; held = nothing_held }

-- THE SEATS OF SESSIONS, of which so many were given out
pub record AreSeats (seats : ℕ) (numbers : List ℕ) : Type 0 where
  -- there are as many sessions
  pub count : length numbers ≡ seats
  -- each seat's number stands there once
  pub each : (n : ℕ) → n < seats → times n numbers ≡ 1
