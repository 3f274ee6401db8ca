use Rattle.std.proofs.Common.{◌∙◌, ◌+◌, ◌-◌, suc, arith, inr, subst, sym}
use Rattle.std.specs.Prelude.{Result}
use Rattle.nv_base.specs.declared.fault.Fault.{Fault}
use Rattle.nv_calls.specs.declared.answer.Answer.{Answer}
use Rattle.nv_machine.specs.World.{empty_hand}
use Rattle.nv_sessions.specs.Draining.{EndsPick, HasDrained}
use Rattle.nv_sessions.specs.SessionRuns.{IsGivingRun}
use Rattle.nv_sessions.specs.Sessions.{held_by}
use Rattle.nv_steps.specs.LastSteps.{once_drained}
use Rattle.nv_sessions.proofs.Draining.{ends_so, few_told, want_told}
use Rattle.nv_sessions.proofs.OtherRefusals.{exit_is}
use Rattle.nv_sessions.proofs.drain.drain_deferred.Goals as goal

-- behind a record the turns lead to the next pick
pub loop-round-preserved : goal.loop-round-preserved
loop-round-preserved g c =
    let numbers = c.args.service.now.geometry.numbers in
    let i = c.loop-round.invariant in
    let e = c.in_ok-drain_next.ensures in
    record {
      few = omega (arith, i.few, c.if-released-most.false);
      parts = e.parts ∙ i.parts;
      amount = e.amount;
      empty = e.empty;
      run = λ actor left r is.
          let start = once_drained 0 (c.args.most - 1) r in
          subst (HasDrained numbers actor empty_hand start c.loop-round.released (suc left) r) c.in-Some-First.field-0-is
          (e.run actor (suc left) empty_hand start r (i.run actor (suc left) r (omega (arith, is))) c.in-Some-First.field-0 c.in-Some-First.is);
    }

-- or to the end
pub returns-then-released-most-clause-run : goal.returns-then-released-most-clause-run
returns-then-released-most-clause-run g c actor r =
    let numbers = c.args.service.now.geometry.numbers in
    let i = c.loop-round.invariant in
    let start = once_drained 0 (c.args.most - 1) r in
    inr (subst (HasDrained numbers actor empty_hand start c.loop-round.released 0 r) c.in-Some-First.field-0-is
    (c.in_ok-drain_next.ensures.run actor 0 empty_hand start r (i.run actor 0 r (omega (arith, c.if-released-most.true))) c.in-Some-First.field-0
    c.in-Some-First.is))

pub returns-in-Some-Ends-clause-run : goal.returns-in-Some-Ends-clause-run
returns-in-Some-Ends-clause-run g c actor r =
    let numbers = c.args.service.now.geometry.numbers in
    let i = c.loop-round.invariant in
    let released = c.loop-round.released in
    let left = c.args.most - (released + 1) in
    let start = once_drained 0 (c.args.most - 1) r in
    let ends = subst (EndsPick released) c.in-Some-Ends.field-0-is (c.in_ok-drain_next.ensures.ends c.in-Some-Ends.field-0 c.in-Some-Ends.is) in
    inr (ends_so numbers actor empty_hand start c.in-Some-Ends.told empty_hand released ends
    (subst (HasDrained numbers actor empty_hand start released left r) c.in-Some-Ends.field-0-is
    (c.in_ok-drain_next.ensures.run actor left empty_hand start r (i.run actor left r (omega (arith, i.few))) c.in-Some-Ends.field-0
    c.in-Some-Ends.is)))

-- or a test breaks it off, or its hand keeps some
pub returns-in_err-drain_next-clause-run : goal.returns-in_err-drain_next-clause-run
returns-in_err-drain_next-clause-run g c actor r =
    let numbers = c.args.service.now.geometry.numbers in
    let i = c.loop-round.invariant in
    let left = c.args.most - (c.loop-round.released + 1) in
    let start = once_drained 0 (c.args.most - 1) r in
    let held = held_by c.drain_next.new.hand c.drain_next.new.giving in
    subst (λ (end : Result Answer Fault). IsGivingRun numbers actor start held end)
    (sym (exit_is c.from_residual.result _ c.from_residual.ensures.1))
    (c.in_err-drain_next.ensures.refused actor left start r (i.run actor left r (omega (arith, i.few))))

pub returns-in-Some-Ends-clause-few : goal.returns-in-Some-Ends-clause-few
returns-in-Some-Ends-clause-few g c =
    let released = c.loop-round.released in
    let ends = subst (EndsPick released) c.in-Some-Ends.field-0-is (c.in_ok-drain_next.ensures.ends c.in-Some-Ends.field-0 c.in-Some-Ends.is) in
    few_told c.in-Some-Ends.told released c.args.most ends (omega (arith, c.loop-round.invariant.few))

pub returns-in-Some-Ends-clause-err : goal.returns-in-Some-Ends-clause-err
returns-in-Some-Ends-clause-err g c =
    let released = c.loop-round.released in
    want_told c.in-Some-Ends.told released
    (subst (EndsPick released) c.in-Some-Ends.field-0-is (c.in_ok-drain_next.ensures.ends c.in-Some-Ends.field-0 c.in-Some-Ends.is))
