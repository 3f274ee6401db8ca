use Rattle.std.proofs.Common.{◌∙◌, inl, inr, refl, sym, true, subst}
use Rattle.std.proofs.lemmas.Bool.{false≢true}
use Rattle.std.specs.Prelude.{Result}
use Rattle.nv_base.specs.declared.fault.Fault.{Fault}
use Rattle.nv_calls.specs.declared.answer.Answer.{Answer}
use Rattle.nv_machine.specs.World.{empty_hand}
use Rattle.nv_steps.specs.OnBook.{on_book}
use Rattle.nv_steps.specs.Turns.{IsEnd}
use Rattle.nv_sessions.proofs.snapshots.unpin.Goals as goal

pub returns : goal.returns
returns g c =
    let numbers = c.args.service.now.geometry.numbers in
    let found = c.deref_mut.result.now.state in
    let left = c.unpin.new.self.state in
    record {
      turn = inr (
        c.unpin.ensures.told,
        record {
          found = found;
          left = left;
          turn = λ actor r seen next told. subst (λ (x : Result Answer Fault). IsEnd numbers actor (on_book r empty_hand true found left) x empty_hand)
              c.unpin.ensures.told (c.unpin.ensures.turn numbers actor true empty_hand r seen next told);
        },
      );
    }

pub returns-then-not-is_pinned : goal.returns-then-not-is_pinned
returns-then-not-is_pinned g c =
    record { turn = inl (refl, c.deref.result.now.state, λ has. false≢true (sym c.if-not-is_pinned.true ∙ c.is_pinned.ensures.1 has)) }
