use Rattle.std.proofs.Common.{◌∙◌, refl, subst, sym}
use Rattle.std.proofs.lemmas.Bool.{false≢true}
use Rattle.nv_base.specs.declared.fault.MismatchPart.TheVariants as part
use Rattle.nv_steps.specs.OnBook.{drain_of}
use Rattle.nv_sessions.specs.Draining.{HasPicked}
use Rattle.nv_sessions.specs.Misfits.{Unreleasable}
use Rattle.nv_sessions.proofs.Draining.{breaks_pick, picks, same_some}
use Rattle.nv_sessions.proofs.drain.pick_first.Goals as goal

pub returns-clause-run : goal.returns-clause-run
returns-clause-run g c numbers actor left h0 r0 r w before p is =
    let d = drain_of c.args.released left in
    subst (HasPicked numbers actor h0 r0 d r) (same_some is)
    (picks numbers actor h0 r0 d r _ _ _ c.pick.result w (c.pick.ensures.turn numbers actor left r before))

-- the test of the record and the cell fails
pub returns-then-not-releases-clause-refused : goal.returns-then-not-releases-clause-refused
returns-then-not-releases-clause-refused g c numbers actor left h0 r0 r w before =
    breaks_pick numbers actor h0 r0 c.args.hand.now r part.Records _ c.requires.empty w
    (Unreleasable (drain_of c.args.released left) c.args.first.now c.args.cell.now.state before.next
    (λ both. false≢true (sym c.if-not-releases.true ∙ c.releases.ensures.1 both)) refl) refl
