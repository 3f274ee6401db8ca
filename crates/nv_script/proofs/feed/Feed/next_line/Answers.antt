use Rattle.std.proofs.Common.{◌∙◌, List, ℕ, arith, subst, sym}
use Rattle.std.proofs.lemmas.Grind.{common_steps}
use Rattle.std.specs.List.{Contains}
use Rattle.nv_script.specs.Lines.{HasNoEnd}
use Rattle.nv_script.proofs.Lines.{HasNoEnd-none}
use Rattle.nv_script.proofs.feed.Feed.next_line.Goals as goal

pub loop-self-preserved : goal.loop-self-preserved
loop-self-preserved g c =
    let took = c.in_default.ensures in
    let clean = subst HasNoEnd took.taken.0 took.line.0 in
    record {
      room = took.room;
      line = took.line;
      taken = grind (arith, common_steps);
      there = λ has.
          let ahead = c.loop-self.invariant.there has in
          let same = (c.in_ok-fill.ensures.there (omega (arith, ahead.1))).1 in
          absurd (HasNoEnd-none _ _ clean (subst (λ (bytes : List ℕ). Contains bytes 10) (sym same) ahead));
      failed = c.in_ok-fill.ensures.ok ∙ c.loop-self.invariant.failed;
      same = c.in_ok-fill.ensures.same ∙ c.loop-self.invariant.same;
    }
