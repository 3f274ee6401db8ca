use Rattle.std.proofs.Common.{◌≡◌, ◌∙◌, ◌⊎◌, ◌<◌, ◌≤◌, arith, inl, inr, refl, subst, sym}
use Rattle.nv_base.specs.declared.fault.MismatchPart.TheVariants as part
use Rattle.nv_base.specs.declared.numbers.Handle.{Handle}
use Rattle.nv_sessions.specs.Misfits.{IsMisplaced}
use Rattle.nv_sessions.specs.ShowRuns.{Displaced, IsMarked, NoSlot}
use Rattle.nv_sessions.proofs.Keeping.{always_ok}
use Rattle.nv_sessions.proofs.OtherRefusals.{exit_is}
use Rattle.nv_sessions.proofs.ShowTurns.{breaks_visit, found, marks}
use Rattle.nv_sessions.proofs.snapshots.visit.Goals as goal

-- the handle is of no slot
pub returns-in_err-lock-clause-cell : goal.returns-in_err-lock-clause-cell
returns-in_err-lock-clause-cell g c =
    let numbers = c.args.service.now.geometry.numbers in
    breaks_visit numbers c.args.snapshot (IsMarked c.args.met.now.items) c.args.showing c.from_residual.result _ part.Names
    (exit_is c.from_residual.result _ c.from_residual.ensures.1) c.in_err-lock.ensures.err
    (NoSlot (subst (λ (h : Handle). numbers.inodes ≤ h.ino) c.visited-handle.ensures c.in_err-lock.ensures.none) refl)

-- the place is another's, or empty
pub returns-in_err-place-clause-cell : goal.returns-in_err-place-clause-cell
returns-in_err-place-clause-cell g c =
    let numbers = c.args.service.now.geometry.numbers in
    let exit = c.from_residual-in_err-place in
    let place = c.in_err-place.ensures.misplaced in
    breaks_visit numbers c.args.snapshot (IsMarked c.args.met.now.items) c.args.showing exit.result _ part.Lists
    (exit_is exit.result _ exit.ensures.1) c.in_err-place.ensures.err
    (Displaced place.0 (subst (λ (h : Handle). IsMisplaced h.ino place.0) c.visited-handle.ensures place.1) refl)

-- it was visited before
pub returns-in_err-note_once-clause-cell : goal.returns-in_err-note_once-clause-cell
returns-in_err-note_once-clause-cell g c =
    let numbers = c.args.service.now.geometry.numbers in
    let inside = subst (λ (h : Handle). h.ino < numbers.inodes) c.visited-handle.ensures c.in_ok-lock.ensures.slot in
    let exit = c.from_residual-in_err-note_once in
    marks numbers c.args.snapshot c.args.showing c.part-cell.result.now c.requires.more inside (IsMarked c.args.met.now.items) exit.result _
    (exit_is exit.result _ exit.ensures.1)
    (elim c.in_err-note_once.ensures.err [
      | inl again ↦ inl (again.0, subst (λ (h : Handle). IsMarked c.args.met.now.items h.ino) c.visited-handle.ensures again.1)
      | inr none ↦ inr none
    ])

pub returns-clause-cell : goal.returns-clause-cell
returns-clause-cell g c =
    let numbers = c.args.service.now.geometry.numbers in
    let inside = subst (λ (h : Handle). h.ino < numbers.inodes) c.visited-handle.ensures c.in_ok-lock.ensures.slot in
    found numbers c.args.snapshot c.args.showing c.part-cell.result.now c.requires.more inside (IsMarked c.args.met.now.items) c.see.result
    (c.see.ensures.cell numbers inside)

-- the marks that it makes
pub note_once-requires-clause-inside : goal.note_once-requires-clause-inside
note_once-requires-clause-inside g c = omega (arith, c.in_ok-lock.ensures.slot, c.len.ensures, c.args.service.now.slots)

pub note_once-requires-clause-room : goal.note_once-requires-clause-room
note_once-requires-clause-room g c = elim c.requires.room [
  | inl none ↦ inl none
  | inr all ↦ inr (all ∙ sym c.args.service.now.slots ∙ sym c.len.ensures)
]

pub returns-clause-room : goal.returns-clause-room
returns-clause-room g c = always_ok c.see.result _ (c.in_ok-note_once.ensures.room ∙ c.len.ensures ∙ c.args.service.now.slots)

pub returns-clause-marks : goal.returns-clause-marks
returns-clause-marks g c =
    always_ok c.see.result _ (λ ino is.
    subst (λ (h : Handle). (ino ≡ h.ino) ⊎ IsMarked c.args.met.now.items ino) c.visited-handle.ensures
    (c.in_ok-note_once.ensures.marks ino is))
