use Rattle.std.proofs.Common.{sym, ◌∙◌}
use Rattle.std.proofs.lemmas.Bool.{false≢true}
use Rattle.nv_audit.proofs.Ordered.{rises_there, rising_more}
use Rattle.nv_audit.proofs.faults.snaps.are_rising.Goals as goal

pub returns-then-not-is_before : goal.returns-then-not-is_before
returns-then-not-is_before c = (
  λ no. absurd (false≢true no),
  λ rising. absurd (false≢true (sym c.if-not-is_before.true ∙ c.is_before.ensures.1
      (rises_there c.args.snapshots.now c.loop-place.place c.index-snapshots-place.result
      c.index-snapshots-place-in-loop-place.result c.loop-place.auto.place c.loop-place-test.true c.index-snapshots-place.is
      c.index-snapshots-place-in-loop-place.is rising))),
)

pub loop-place-preserved : goal.loop-place-preserved
loop-place-preserved c =
    rising_more c.args.snapshots.now c.loop-place.place c.index-snapshots-place.result c.index-snapshots-place-in-loop-place.result
    c.loop-place.auto.place c.loop-place-test.true c.index-snapshots-place.is c.index-snapshots-place-in-loop-place.is
    (c.is_before.ensures.0 c.if-not-is_before.false) c.loop-place.invariant
