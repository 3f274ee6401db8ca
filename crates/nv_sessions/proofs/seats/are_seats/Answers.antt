use Rattle.std.proofs.Common.{arith, below_more, refl, rules, sym, ◌∙◌}
use Rattle.std.proofs.lemmas.List.{length-map}
use Rattle.nv_sessions.specs.Sessions.{SessionValue}
use Rattle.nv_sessions.proofs.seats.are_seats.Goals as goal

pub loop-number-preserved : goal.loop-number-preserved
loop-number-preserved g c =
    below_more _ _ c.loop-number.invariant (sym c.count_of.ensures ∙ (let one = c.if-count_of-ne1.false in search rules))

pub returns : goal.returns
returns g c = (
  λ _. record {
    count = omega (arith, length-map c.args.sessions.now (λ (s : SessionValue). s.number), c.if-sessions-seats.false);
    each = λ n lt. c.loop-number.invariant n (omega (arith, lt));
  },
  λ _. refl,
)
