use Rattle.std.proofs.Common.{◌≡◌, ℕ, List, subst, sym, ◌∙◌}
use Rattle.std.specs.Prelude.{MatchOption}
use Rattle.std.proofs.lemmas.Bool.{false≢true}
use Rattle.nv_base.specs.declared.fault.MismatchPart.TheVariants.{Counts}
use Rattle.nv_entry.specs.declared.part.PartId.{PartId}
use Rattle.nv_epoch.specs.SnapList.{ids}
use Rattle.nv_audit.specs.Resting.{HasShape}
use Rattle.nv_audit.specs.Whole.{IsCountedWith}
use Rattle.nv_audit.proofs.FirstAtRest.{counts_told}
use Rattle.nv_audit.proofs.resting.at_rest_differs.Goals as goal

pub returns-then-not-indexed-clause-ok : goal.returns-then-not-indexed-clause-ok
returns-then-not-indexed-clause-ok c =
    λ book ino living own has. false≢true (sym c.if-not-indexed.true ∙ c.in_ok-indexed.ensures.ok.1 has)

pub returns-then-not-shaped-clause-ok : goal.returns-then-not-shaped-clause-ok
returns-then-not-shaped-clause-ok c =
    λ book ino living own. (
      c.in_ok-indexed.ensures.ok.0 c.if-not-indexed.false,
      λ shape.
          let own_shape = subst (λ (ss : List ℕ). HasShape ss c.args.cell.now.state) (sym living) shape in
          false≢true (sym c.if-not-shaped.true ∙ c.in_ok-shaped.ensures.ok.1 own_shape),
    )

pub returns-clause-ok : goal.returns-clause-ok
returns-clause-ok c = λ book ino living own.
    let state = c.args.cell.now.state in
    let Told : List ℕ → List PartId → Type 0 =
    λ ss ps. MatchOption c.in_ok-counts.counts (IsCountedWith ss ps state) (λ p. (p ≡ Counts) × (¬ IsCountedWith ss ps state)) in
    counts_told book ino state c.in_ok-counts.counts (c.in_ok-indexed.ensures.ok.0 c.if-not-indexed.false)
    (subst (λ (ss : List ℕ). HasShape ss state) living (c.in_ok-shaped.ensures.ok.0 c.if-not-shaped.false))
    (subst (λ (ps : List PartId). Told (ids book.snaps) ps) own
    (subst (λ (ss : List ℕ). Told ss c.args.pending.now) living c.in_ok-counts.ensures.ok))
