use Rattle.std.proofs.Common.{◌≡◌, ℕ, ◌+◌, ◌<◌, Bool, true, false, List, length, set, arith, subst, sym, ◌∙◌, refl}
use Rattle.std.proofs.lemmas.Bool.{false≢true}
use Rattle.nv_audit.specs.Blocks.{IsUnmarked}
use Rattle.nv_audit.specs.Mounted.{are_apart}
use Rattle.nv_audit.proofs.EachOnce.{AreMarkedOnce, all_marked, mark_next, next_unmarked}
use Rattle.nv_audit.proofs.Notes.{apart_if_once, as_many, ino_at, inos, once_below}
use Rattle.nv_audit.proofs.faults.journals.are_apart.Goals as goal

pub returns-then-not-is_unmarked : goal.returns-then-not-is_unmarked
returns-then-not-is_unmarked c =
    let slots = c.args.slots in
    let notes = c.args.notes.now in
    let i = c.loop-note.note-index in
    let marks = c.loop-note.noted.items in
    let note = c.note-item.result in
    let lt : i < length (inos notes) = omega (arith, c.loop-note-test.true, as_many notes) in
    go (are_apart notes) refl (λ apart. sym c.if-not-is_unmarked.true ∙ c.is_unmarked.ensures.1
    (subst (IsUnmarked c.deref.result.now) (sym c.number-slot.ensures)
    (subst (λ (ms : List Bool). IsUnmarked ms note.ino) (sym c.deref.ensures.value)
    (next_unmarked slots (inos notes) i marks note.ino lt (ino_at notes i note c.loop-note-test.true c.note-item.is)
    c.loop-note.invariant (once_below slots notes c.requires apart))))) where
      go : (b : Bool) → are_apart c.args.notes.now ≡ b → (are_apart c.args.notes.now ≡ true → false ≡ true)
          → false ≡ are_apart c.args.notes.now
      go true e never = absurd (false≢true (never e))
      go false e never = sym e

pub loop-note-preserved : goal.loop-note-preserved
loop-note-preserved c =
    let slots = c.args.slots in
    let notes = c.args.notes.now in
    let i = c.loop-note.note-index in
    let marks = c.loop-note.noted.items in
    let note = c.note-item.result in
    let lt : i < length (inos notes) = omega (arith, c.loop-note-test.true, as_many notes) in
    let new = subst (λ (ms : List Bool). IsUnmarked ms note.ino) c.deref.ensures.value
    (subst (IsUnmarked c.deref.result.now) c.number-slot.ensures (c.is_unmarked.ensures.0 c.if-not-is_unmarked.false)) in
    subst (λ (k : ℕ). AreMarkedOnce slots (inos notes) (i + 1) (set marks k true)) (sym c.number-slot.ensures)
    (mark_next slots (inos notes) i marks note.ino lt (ino_at notes i note c.loop-note-test.true c.note-item.is)
    c.loop-note.invariant new)

pub returns : goal.returns
returns c =
    let notes = c.args.notes.now in
    let i = c.loop-note.note-index in
    let end : i ≡ length (inos notes) = omega (arith, c.loop-note-test.false, c.loop-note.auto.note-index-end, as_many notes) in
    sym (apart_if_once notes (all_marked c.args.slots (inos notes) i c.loop-note.noted.items end c.loop-note.invariant).below.once)
