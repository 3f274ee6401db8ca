use Rattle.std.proofs.Common.{◌∙◌, refl, sym, true}
use Rattle.std.proofs.lemmas.Bool.{false≢true}
use Rattle.nv_sessions.proofs.ShowTurns.{finds_pin}
use Rattle.nv_sessions.proofs.snapshots.pin.Goals as goal

pub returns-clause-turn : goal.returns-clause-turn
returns-clause-turn g c =
    finds_pin c.args.service.now.geometry.numbers c.args.snapshot c.pin.result
    (record {
      found = c.deref_mut.result.now.state;
      left = c.pin.new.self.state;
      turn = λ actor r before. c.pin.ensures.turn c.args.service.now.geometry.numbers actor true r refl before;
    }) c.pin.ensures.err

pub returns-then-not-may_pin-clause-turn : goal.returns-then-not-may_pin-clause-turn
returns-then-not-may_pin-clause-turn g c =
    (refl, c.deref.result.now.state, λ may. false≢true (sym c.if-not-may_pin.true ∙ c.may_pin.ensures.1 may))
