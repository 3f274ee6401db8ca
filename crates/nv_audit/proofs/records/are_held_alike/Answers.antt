use Rattle.std.proofs.Common.{ℕ, arith, refl, sym}
use Rattle.std.proofs.lemmas.Bool.{false≢true}
use Rattle.nv_audit.specs.PartLists.{HaveSameParts}
use Rattle.nv_audit.specs.Records.{recorded_in}
use Rattle.nv_audit.proofs.Loops.{one_fails, one_more}
use Rattle.nv_audit.proofs.Owing.{same_lists}
use Rattle.nv_audit.proofs.records.are_held_alike.Goals as goal

pub returns-then-not-same : goal.returns-then-not-same
returns-then-not-same c = (
  λ fails. absurd (false≢true fails),
  λ all. absurd (one_fails (λ (s : ℕ). HaveSameParts (recorded_in s c.args.recorded.now) (recorded_in s c.args.owed.now))
      c.args.snapshots.now c.loop-snapshot.snapshot-index c.snapshot-item.result c.have_same_parts-same.result
      c.loop-snapshot-test.true c.snapshot-item.is
      (λ same. c.have_same_parts-same.ensures.1 (same_lists _ _ _ _ (sym c.in_ok-one.ensures) (sym c.in_ok-other.ensures) same))
      c.if-not-same.true all),
)

pub loop-snapshot-preserved : goal.loop-snapshot-preserved
loop-snapshot-preserved c =
    one_more (λ (s : ℕ). HaveSameParts (recorded_in s c.args.recorded.now) (recorded_in s c.args.owed.now))
    c.args.snapshots.now c.loop-snapshot.snapshot-index c.snapshot-item.result c.have_same_parts-same.result
    c.loop-snapshot-test.true c.snapshot-item.is
    (λ t. same_lists _ _ _ _ c.in_ok-one.ensures c.in_ok-other.ensures (c.have_same_parts-same.ensures.0 t))
    c.if-not-same.false c.loop-snapshot.invariant

pub returns : goal.returns
returns c = (λ t k d lt. c.loop-snapshot.invariant k d (omega (arith, lt, c.loop-snapshot-test.false)), λ all. refl)
