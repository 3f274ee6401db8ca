use Rattle.std.proofs.Common.{◌≡◌, ℕ, List, subst, ◌∙◌}
use Rattle.std.specs.Prelude.{IfOk, MatchOption}
use Rattle.nv_base.specs.declared.fault.MismatchPart.TheVariants.{Counts}
use Rattle.nv_book.specs.declared.record.Record.{Record}
use Rattle.nv_epoch.specs.SnapList.{ids}
use Rattle.nv_audit.specs.Records.{states_of}
use Rattle.nv_audit.specs.Whole.{CountsAgreeBy}
use Rattle.nv_audit.specs.declared.part_list.InodePart.{InodePart}
use Rattle.nv_audit.proofs.whole.cells_differ.Goals as goal

pub returns-clause-ok : goal.returns-clause-ok
returns-clause-ok c =
    let states = states_of c.args.cells.now in
    let book = c.args.book.now.state in
    let Told : List ℕ → List Record → List InodePart → Type 0 =
    λ ss rs ps. IfOk c.first_different.result (λ part. MatchOption part (CountsAgreeBy ss rs ps states)
    (λ p. (p ≡ Counts) × (¬ CountsAgreeBy ss rs ps states))) in
    let living = c.deref.ensures.value ∙ c.in_ok-snapshots.ensures in
    let deferred = c.deref-2.ensures.value ∙ c.in_ok-deferred.ensures ∙ c.deferred.ensures.deferred in
    subst (λ (ps : List InodePart). Told (ids book.snaps) book.deferred ps) c.deref-3.ensures.value
    (subst (λ (rs : List Record). Told (ids book.snaps) rs c.deref-3.result.now) deferred
    (subst (λ (ss : List ℕ). Told ss c.deref-2.result.now c.deref-3.result.now) living c.first_different.ensures.ok))
