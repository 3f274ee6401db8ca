use Rattle.std.proofs.Common.{◌≡◌, List, ℕ, sym, subst, ◌∙◌}
use Rattle.std.specs.Prelude.{◌↔◌, IsTrue}
use Rattle.std.proofs.lemmas.Bool.{false≢true}
use Rattle.nv_audit.specs.MountedLogs.{AreAmong}
use Rattle.nv_audit.specs.Tree.{IsOnce}
use Rattle.nv_audit.proofs.Runs.{needed_of, not_among, told_apart}
use Rattle.nv_audit.proofs.faults.runs.has_its_blocks.Goals as goal

pub returns-then-not-among-clause-ok : goal.returns-then-not-among-clause-ok
returns-then-not-among-clause-ok c cell made same =
    let living = c.args.snapshots.now in
    let blocks = c.args.blocks.now in
    let l = c.args.own.now in
    let numbers : c.deref.result.now ≡ needed_of living l = c.deref.ensures.value ∙ c.in_ok-needed.ensures.ok in (
      λ t. absurd (false≢true t),
      λ has. absurd (not_among living blocks l cell made same
          (λ all. false≢true (sym c.if-not-among.true ∙ c.in_ok-among.ensures.1 (subst (AreAmong blocks) (sym numbers) all))) has),
    )

pub returns-clause-ok : goal.returns-clause-ok
returns-clause-ok c cell made same =
    let living = c.args.snapshots.now in
    let blocks = c.args.blocks.now in
    let l = c.args.own.now in
    let numbers : c.deref.result.now ≡ needed_of living l = c.deref.ensures.value ∙ c.in_ok-needed.ensures.ok in
    told_apart living blocks l cell made same c.are_all_apart.result
    (subst (AreAmong blocks) numbers (c.in_ok-among.ensures.0 c.if-not-among.false))
    (subst (λ (ns : List ℕ). IsTrue c.are_all_apart.result ↔ IsOnce ns) c.in_ok-needed.ensures.ok c.are_all_apart.ensures)
