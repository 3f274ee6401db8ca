use Rattle.std.proofs.Common.{◌∙◌, None, Option, arith, refl, subst, sym}
use Rattle.nv_core.specs.Worlds.{WorldState}
use Rattle.nv_core.specs.Worlds.{ShowsAny}
use Rattle.std.proofs.lemmas.Result.{err_from_is_err_and}
use Rattle.nv_script.specs.Trace.{head_by}
use Rattle.nv_script.proofs.Endings.{at_first, none_ahead}
use Rattle.nv_script.proofs.player.Player.play_lines.Goals as goal

pub loop-number-init : goal.loop-number-init
loop-number-init g c = record {
  number = omega arith;
  line = (
    None,
    at_first g.T.LineTeller.form (head_by g.T.LineTeller.form c.args.echo) _ _ _ _ _ (none_ahead _ _ c.requires.ahead) c.requires.gathered refl,
    subst (λ (w : Option WorldState). ShowsAny w None) (sym c.requires.world) tt,
  );
  reads = refl;
  writes = refl;
  same_reader = refl;
  same_writer = refl;
}

pub returns-in_err-turn-clause-script : goal.returns-in_err-turn-clause-script
returns-in_err-turn-clause-script g c =
    let at = c.loop-number.invariant.line in
    let p = err_from_is_err_and c.from_residual.result c.from_residual.ensures.1 in
    rw (p.1, p.2) (c.in_err-turn.ensures.turn _ _ at.0 at.2 at.1).0

pub returns-in_err-turn-clause-unheld : goal.returns-in_err-turn-clause-unheld
returns-in_err-turn-clause-unheld g c =
    let at = c.loop-number.invariant.line in
    let p = err_from_is_err_and c.from_residual.result c.from_residual.ensures.1 in
    rw (p.1, p.2) (c.in_err-turn.ensures.turn _ _ at.0 at.2 at.1).1

pub returns-then-not-branch-clause-script : goal.returns-then-not-branch-clause-script
returns-then-not-branch-clause-script g c =
    let at = c.loop-number.invariant.line in
    rw c.if-not-branch.true at (c.in_ok-turn.ensures.turn _ _ at.0 at.2 at.1)

pub loop-number-preserved : goal.loop-number-preserved
loop-number-preserved g c =
    let at = c.loop-number.invariant.line in
    let turned = rw c.if-not-branch.false at (c.in_ok-turn.ensures.turn _ _ at.0 at.2 at.1) in
    record {
      number = omega (arith, turned.0);
      line = (turned.1, turned.2, turned.3);
      reads = omega (arith, c.in_ok-turn.ensures.reads, c.loop-number.invariant.reads);
      writes = omega (arith, c.in_ok-turn.ensures.writes, c.loop-number.invariant.writes);
      same_reader = c.in_ok-turn.ensures.same_reader ∙ c.loop-number.invariant.same_reader;
      same_writer = c.in_ok-turn.ensures.same_writer ∙ c.loop-number.invariant.same_writer;
    }
