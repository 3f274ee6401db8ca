-- Which lists the takings of a seat have asked.
use Rattle.std.specs.Prelude.{◌≡◌, ℕ, ◌+◌, ◌%◌, Bool, not, Result, Ok, Err}
use Rattle.nv_base.specs.declared.fault.Fault.{Fault}
use Rattle.nv_base.specs.declared.fault.Fault.TheVariants.{NoSpace}
use Rattle.nv_sessions.specs.declared.asking.Asking.{Asking}
use Rattle.nv_sessions.specs.declared.change.ChangeEnd.{ChangeEnd}
use Rattle.nv_sessions.specs.declared.change.ChangeEnd.TheVariants as ends
use Rattle.nv_sessions.specs.declared.rounds.RoundEnd.{RoundEnd}
use Rattle.nv_sessions.specs.declared.rounds.RoundEnd.TheVariants as round

-- the CPU whose list is asked next: that of the seat first, and then round
abbrev pub next_list : ℕ → Asking → ℕ
next_list cpus asking = (asking.first + asking.asked) % cpus

-- THE TURN of a seat after a fault: another one exactly where a taking fell short, which it does
-- only once each list was asked
abbrev pub turned_by : Fault → Bool → Bool
turned_by NoSpace turn = not turn
turned_by other turn = turn

-- the turn of a seat behind a result. A taking asks the lists one after another, that of the
-- seat's CPU first, and can fall short only once it has asked as many as there are CPUs. Example:
-- of 4 CPUs seat 5 asks the lists 1, 2, 3 and 0. Where all had too few together, the turn is
-- another one, and the call ends by `NoSpace`.
abbrev pub turned_in : {A : Type 0} → Result A Fault → Bool → Bool
turned_in (Ok done) turn = turn
turned_in (Err why) turn = turned_by why turn

-- the turn of a seat behind the end of a change
abbrev pub turned_end : {A : Type 0} → Result A ChangeEnd → Bool → Bool
turned_end (Ok done) turn = turn
turned_end (Err (ends.Refuses why)) turn = turned_by why turn
turned_end (Err other) turn = turn

-- the turn of a seat behind the end of a round
abbrev pub turned_round : RoundEnd → Bool → Bool
turned_round (round.Ends result) turn = turned_in result turn
turned_round (round.BoundAnew back) turn = turn

-- the fault tells of no taking that fell short
abbrev pub IsNoShortage : Fault → Type 0
IsNoShortage why = (turn : Bool) → turn ≡ turned_by why turn
