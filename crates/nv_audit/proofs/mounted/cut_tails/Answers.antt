use Rattle.std.proofs.Common.{◌≡◌, ℕ, true, false, List, ap, subst, sym, ◌∙◌}
use Rattle.nv_journal.specs.declared.old_tail.OldTail.{OldTail}
use Rattle.nv_audit.specs.Image.{ImageValue, all_notes}
use Rattle.nv_audit.specs.Mounted.{are_journals_good}
use Rattle.nv_audit.specs.MountedLogs.{AreNoted, cut_tails}
use Rattle.nv_audit.proofs.MountedLogs.{inside_tails, own_tails, tails_noted, tails_own}
use Rattle.nv_audit.proofs.mounted.cut_tails.Goals as goal

pub returns-then-not-good-clause-ok : goal.returns-then-not-good-clause-ok
returns-then-not-good-clause-ok c =
    let image : ImageValue = record {
      numbers = c.image.inside.geometry.numbers;
      slots = c.image.inside.slots.items;
      journals = c.image.inside.journals.items;
      snapshots = c.image.inside.snapshots.items;
      epoch = c.image.inside.epoch;
      commit = c.image.inside.commit;
    } in
    let bad : are_journals_good image ≡ false =
    subst (λ (i : ImageValue). are_journals_good i ≡ false) (sym c.image.view_is) (sym c.in_ok-good.ensures.ok ∙ c.if-not-good.true) in
    subst (λ (i : ImageValue). c.in_ok-tails.tails.items ≡ cut_tails i) c.image.view_is
    (tails_own image c.in_ok-tails.tails.items bad (c.in_ok-tails.ensures ∙ ap own_tails c.deref.ensures.value))

pub put_notes-requires : goal.put_notes-requires
put_notes-requires c =
    let image : ImageValue = record {
      numbers = c.image.inside.geometry.numbers;
      slots = c.image.inside.slots.items;
      journals = c.image.inside.journals.items;
      snapshots = c.image.inside.snapshots.items;
      epoch = c.image.inside.epoch;
      commit = c.image.inside.commit;
    } in
    let good : are_journals_good image ≡ true =
    subst (λ (i : ImageValue). are_journals_good i ≡ true) (sym c.image.view_is) (sym c.in_ok-good.ensures.ok ∙ c.if-not-good.false) in
    inside_tails image c.in_ok-tails.tails.items c.deref-3.result.now good
    (c.in_ok-tails.ensures ∙ ap own_tails c.deref.ensures.value)
    (c.deref-3.ensures.value ∙ c.in_ok-notes.ensures ∙ ap all_notes c.deref-2.ensures.value)

pub returns-clause-ok : goal.returns-clause-ok
returns-clause-ok c =
    let image : ImageValue = record {
      numbers = c.image.inside.geometry.numbers;
      slots = c.image.inside.slots.items;
      journals = c.image.inside.journals.items;
      snapshots = c.image.inside.snapshots.items;
      epoch = c.image.inside.epoch;
      commit = c.image.inside.commit;
    } in
    let good : are_journals_good image ≡ true =
    subst (λ (i : ImageValue). are_journals_good i ≡ true) (sym c.image.view_is) (sym c.in_ok-good.ensures.ok ∙ c.if-not-good.false) in
    let tails = c.put_notes.new.tails.items in
    let noted : AreNoted (all_notes image.journals) (own_tails image.slots) tails =
    subst (λ (ts : List ℕ). AreNoted (all_notes image.journals) ts tails) (c.in_ok-tails.ensures ∙ ap own_tails c.deref.ensures.value)
    (subst (λ (ns : List OldTail). AreNoted ns c.in_ok-tails.tails.items tails)
    (c.deref-3.ensures.value ∙ c.in_ok-notes.ensures ∙ ap all_notes c.deref-2.ensures.value) c.put_notes.ensures) in
    subst (λ (i : ImageValue). tails ≡ cut_tails i) c.image.view_is (tails_noted image tails good noted)
