use Rattle.std.proofs.Common.{ℕ, refl, subst, sym, ◌∙◌}
use Rattle.std.proofs.lemmas.Bool.{false≢true}
use Rattle.nv_entry.specs.Held.{Retention}
use Rattle.nv_audit.specs.Counts.{AreCounted}
use Rattle.nv_audit.proofs.whole.counts_differ.Goals as goal

pub returns-then-not-counted-clause-ok : goal.returns-then-not-counted-clause-ok
returns-then-not-counted-clause-ok c =
    let counted : ℕ → Type 0 = λ b. let r : Retention = record { block = b; snapshots = c.args.snapshots.now; pending = c.args.pending.now }
    in AreCounted r c.args.cell.now.state in (
      refl,
      λ are. false≢true (sym c.if-not-counted.true ∙ c.in_ok-counted.ensures.ok.1 (subst counted (sym c.block_bytes.ensures.value) are)),
    )

pub returns-clause-ok : goal.returns-clause-ok
returns-clause-ok c =
    let counted : ℕ → Type 0 = λ b. let r : Retention = record { block = b; snapshots = c.args.snapshots.now; pending = c.args.pending.now }
    in AreCounted r c.args.cell.now.state in
    subst counted c.block_bytes.ensures.value (c.in_ok-counted.ensures.ok.0 c.if-not-counted.false)
