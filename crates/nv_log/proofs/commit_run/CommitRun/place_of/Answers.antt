use Rattle.std.proofs.Common.{arith, nat_lt, refl}
use Rattle.nv_log.proofs.Runs.{told_by_run}
use Rattle.nv_log.proofs.commit_run.CommitRun.place_of.Goals as goal

pub returns : goal.returns
returns c =
    let run = c.args.self in
    let place = c.saturating_add-place.result in
    rw c.then_some.ensures
    (told_by_run c.args.entries.now run c.args.id place (nat_lt place run.to) c.requires.log c.requires.run
    (omega (arith, c.saturating_add-place.ensures, c.if-commit-self.false, c.well_formed))
    (λ less. omega (arith, less, c.saturating_add-place.ensures, c.number-commit.ensures, c.if-commit-self.false, c.well_formed))
    c.if-id-ne0.false refl)
