use Rattle.std.proofs.Common.{◌≡◌, ℕ, List, ap, subst, ◌∙◌}
use Rattle.nv_audit.specs.Image.{ImageValue, all_notes}
use Rattle.nv_audit.specs.MountedLogs.{AreNoted}
use Rattle.nv_audit.proofs.MountedLogs.{inside_tails, own_tails as image_tails, tails_noted}
use Rattle.nv_base.specs.declared.fault.ImageFault.TheVariants as fault
use Rattle.nv_journal.specs.declared.old_tail.OldTail.{OldTail}
use Rattle.nv_mount.specs.View.{IsSeen, ViewValue}
use Rattle.nv_mount.proofs.Seen.{own_tails, seen_tails}
use Rattle.nv_mount.proofs.logs.settled_tails.Goals as goal
use Rattle.nv_mount.proofs.logs.settled_tails.Goals.{After-deref}

-- the tails of the chains are those of the image
its_tails : (c : After-deref) (image : ImageValue) → IsSeen image c.args.view.now → c.in_ok-tails.tails.items ≡ image_tails image.slots
its_tails c image seen =
    c.in_ok-tails.ensures ∙ ap own_tails (ap (λ (v : ViewValue). v.slots) c.view.view_is) ∙ seen_tails image c.args.view.now seen

-- and the notes are those of its journals
its_notes : (c : After-deref) (image : ImageValue) → IsSeen image c.args.view.now → c.deref.result.now ≡ all_notes image.journals
its_notes c image seen =
    c.deref.ensures.value ∙ c.in_ok-notes.ensures
    ∙ ap all_notes (ap (λ (v : ViewValue). v.journals) c.view.view_is ∙ seen.journals)

pub put_notes-requires : goal.put_notes-requires
put_notes-requires c =
    let here = (goal.at.put_notes-requires c).After-deref in
    let image = c.requires.0 in
    inside_tails image c.in_ok-tails.tails.items c.deref.result.now (c.requires.1 fault.Journal) (its_tails here image c.requires.2)
    (its_notes here image c.requires.2)

pub returns : goal.returns
returns c image faultless seen =
    let here = (goal.at.returns c).After-deref in
    let new = c.put_notes.new.tails.items in
    let noted : AreNoted (all_notes image.journals) (image_tails image.slots) new =
    subst (λ (ts : List ℕ). AreNoted (all_notes image.journals) ts new) (its_tails here image seen)
    (subst (λ (ns : List OldTail). AreNoted ns c.in_ok-tails.tails.items new) (its_notes here image seen) c.put_notes.ensures) in
    tails_noted image new (faultless fault.Journal) noted
