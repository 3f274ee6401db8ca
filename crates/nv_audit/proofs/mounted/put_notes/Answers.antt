use Rattle.std.proofs.Common.{◌≡◌, ℕ, ◌+◌, ◌-◌, ◌<◌, ◌≤◌, length, arith, drop, List, subst, sym}
use Rattle.nv_journal.specs.declared.old_tail.OldTail.{OldTail}
use Rattle.nv_audit.specs.MountedLogs.{AreNoted}
use Rattle.nv_audit.proofs.Notes.{noted_all, noted_none, noted_step}
use Rattle.nv_audit.proofs.mounted.put_notes.Goals as goal

pub loop-place-init : goal.loop-place-init
loop-place-init c =
    let most : length c.args.notes.now ≤ length c.args.notes.now = omega arith in
    noted_none c.args.tails.now.items c.args.notes.now _ most

pub put_note-requires : goal.put_note-requires
put_note-requires c =
    let notes = c.args.notes.now in
    let old = c.args.tails.now.items in
    let n = c.loop-place.place in
    let i : ℕ = n - 1 in
    let note = c.index-notes-place.result in
    let lt : i < length notes = omega (arith, c.loop-place-test.true, c.loop-place.auto.place) in
    let inside : note.ino < length old =
    subst (λ (x : OldTail). x.ino < length old) (sym c.index-notes-place.is) (c.requires i note lt) in
    omega (arith, inside, c.loop-place.invariant.len)

pub loop-place-preserved : goal.loop-place-preserved
loop-place-preserved c =
    let notes = c.args.notes.now in
    let old = c.args.tails.now.items in
    let n = c.loop-place.place in
    let i : ℕ = n - 1 in
    let note = c.index-notes-place.result in
    let next : i + 1 ≡ n = omega (arith, c.loop-place-test.true) in
    let lt : i < length notes = omega (arith, c.loop-place-test.true, c.loop-place.auto.place) in
    let inside : note.ino < length old =
    subst (λ (x : OldTail). x.ino < length old) (sym c.index-notes-place.is) (c.requires i note lt) in
    subst (λ (ts : List ℕ). AreNoted (drop i notes) old ts) (sym c.put_note.ensures)
    (noted_step notes old c.loop-place.tails.items i n note next lt c.index-notes-place.is inside c.loop-place.invariant)

pub returns : goal.returns
returns c =
    noted_all c.args.notes.now c.args.tails.now.items c.loop-place.tails.items c.loop-place.place
    (omega (arith, c.loop-place-test.false)) c.loop-place.invariant
