use Rattle.std.proofs.Common.{◌≡◌, ℕ, ◌<◌, ◌&&◌, Bool, true, false, List, length, arith, ap, ap₂, subst, sym, ◌∙◌}
use Rattle.std.specs.Prelude.{All}
use Rattle.std.specs.List.{list_all}
use Rattle.nv_journal.specs.declared.old_tail.OldTail.{OldTail}
use Rattle.nv_audit.specs.Image.{ImageValue, all_notes}
use Rattle.nv_audit.specs.Mounted.{are_apart, is_note_good}
use Rattle.nv_audit.proofs.Notes.{notes_inside}
use Rattle.nv_audit.proofs.faults.journals.are_journals_good.Goals as goal

pub returns-then-not-are_notes_good-clause-ok : goal.returns-then-not-are_notes_good-clause-ok
returns-then-not-are_notes_good-clause-ok c =
    let image = c.args.image.now in
    let notes : c.deref-2.result.now ≡ all_notes image.journals =
    c.deref-2.ensures.value ∙ c.in_ok-notes.ensures
    ∙ ap all_notes (c.deref.ensures.value ∙ ap (λ (i : ImageValue). i.journals) c.image.view_is) in
    let bad : list_all (is_note_good image) (all_notes image.journals) ≡ false =
    ap (λ (ns : List OldTail). list_all (is_note_good image) ns) (sym notes) ∙ sym c.are_notes_good.ensures
    ∙ c.if-not-are_notes_good.true in
    sym (ap (λ (b : Bool). b && are_apart (all_notes image.journals)) bad)

pub are_apart-requires : goal.are_apart-requires
are_apart-requires c =
    let image = c.args.image.now in
    let notes = c.deref-3.result.now in
    let good : list_all (is_note_good image) notes ≡ true =
    ap (λ (ns : List OldTail). list_all (is_note_good image) ns) (c.deref-3.ensures.value ∙ sym c.deref-2.ensures.value)
    ∙ sym c.are_notes_good.ensures ∙ c.if-not-are_notes_good.false in
    let many : length image.slots ≡ c.len.result =
    omega (arith, c.len.ensures, c.image.inside.slots.ok.0, ap (λ (i : ImageValue). length i.slots) c.image.view_is) in
    subst (λ (n : ℕ). All (λ (note : OldTail). note.ino < n) notes) many (notes_inside image notes good)

pub returns-clause-ok : goal.returns-clause-ok
returns-clause-ok c =
    let image = c.args.image.now in
    let items : c.in_ok-notes.notes.items ≡ all_notes image.journals =
    c.in_ok-notes.ensures ∙ ap all_notes (c.deref.ensures.value ∙ ap (λ (i : ImageValue). i.journals) c.image.view_is) in
    let good : list_all (is_note_good image) (all_notes image.journals) ≡ true =
    ap (λ (ns : List OldTail). list_all (is_note_good image) ns) (sym (c.deref-2.ensures.value ∙ items)) ∙ sym c.are_notes_good.ensures
    ∙ c.if-not-are_notes_good.false in
    let apart : c.in_ok-apart.apart ≡ are_apart (all_notes image.journals) =
    c.in_ok-apart.ensures ∙ ap are_apart (c.deref-3.ensures.value ∙ items) in
    sym (ap₂ (λ (a b : Bool). a && b) good (sym apart))
