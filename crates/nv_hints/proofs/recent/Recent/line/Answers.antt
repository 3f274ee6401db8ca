use Rattle.std.proofs.Common.{◌≡◌, ◌<◌, ◌∙◌, ap, arith, length}
use Rattle.nv_hints.specs.Recent.{Window}
use Rattle.nv_hints.proofs.Windows.{IsAtLine-first, IsAtLine-next, IsAtLine-line}
use Rattle.nv_hints.proofs.recent.Recent.line.Goals as goal

pub loop-passed-init : goal.loop-passed-init
loop-passed-init c =
    let kept : c.as_slice-rest.result.now ≡ c.args.self.now.kept = c.as_slice-rest.ensures.value ∙ ap (λ (w : Window). w.kept) c.self.view_is in
    let before = ap (λ (w : Window). w.before) c.self.view_is in
    record {
      within = rw kept (omega arith);
      place = λ all keeps. rw (kept, before) (IsAtLine-first all c.args.self.now keeps);
    }

pub loop-passed-preserved : goal.loop-passed-preserved
loop-passed-preserved c =
    let found = c.before_end-end.ensures in
    let inside : c.before_end-end.result < length c.loop-passed.rest.now = grind (arith, found.within, c.if-end-rest.false) in
    record {
      within = omega (arith, c.split_at.ensures.back_len, c.loop-passed.invariant.within);
      place = λ all keeps. rw c.split_at.ensures.back
          (IsAtLine-next all c.loop-passed.rest.now c.loop-passed._passed c.before_end-end.result (c.loop-passed.invariant.place all keeps)
          inside (found.end inside) found.clean);
    }

pub returns-clause-line : goal.returns-clause-line
returns-clause-line c = λ all keeps.
    let last : c.loop-passed._passed ≡ c.args.number = omega arith in
    let found = c.before_end.ensures in
    rw (← last)
    (IsAtLine-line all c.loop-passed.rest.now c.loop-passed._passed c.before_end.result (c.loop-passed.invariant.place all keeps)
    found.within found.end found.clean)
