use Rattle.std.proofs.Common.{◌≡◌, ◌∙◌, ◌+◌, ◌-◌, ◌<◌, ◌∷◌, [], ◌++◌, ℕ, not, arith, length, refl, replicate, subst}
use Rattle.std.proofs.lemmas.List.{length-append}
use Rattle.nv_cell.specs.Cell.{log_of}
use Rattle.nv_cell.specs.Readers.{there_flags}
use Rattle.nv_clean.specs.Cover.{Covers}
use Rattle.nv_clean.proofs.Walking.{after_walk, entry_step, entry_there, log_len, more_covered, there_count}
use Rattle.nv_entry.specs.Clean.{select}
use Rattle.nv_clean.proofs.walk.entries_walked.Goals as goal

pub loop-place-init : goal.loop-place-init
loop-place-init c = record {
  flags = rw c.in_ok-stays.ensures.items refl;
  covers = rw c.in_ok-stays.ensures.items (c.new-cover.ensures c.args.cell.now.state.block);
  walk = rw c.in_ok-stays.ensures.items refl;
}

pub loop-place-preserved : goal.loop-place-preserved
loop-place-preserved c =
    let cell = c.args.cell.now.state in
    let log = log_of cell in
    let i = c.loop-place.place in
    let tail = c.tail-place-end.ensures in
    let short : i < length log = omega (arith, c.loop-place-test.true, tail, log_len cell c.holds_together.ensures) in
    let found = entry_there log i short in
    let goes = c.may_go-goes.result in
    let stays = c.loop-place.stays.items in
    let pushed = c.in_ok-push.ensures.items in
    let one : i + 1 - i ≡ 1 = omega arith in
    record {
      flags = rw pushed (omega (arith, c.loop-place.invariant.flags, length-append stays (not goes ∷ [])));
      covers = rw pushed (subst (λ (n : ℕ). Covers cell.block (select (stays ++ replicate n (not goes)) log) c.note.new.cover) one
          (more_covered cell.block log stays i (i + 1) goes c.note.new.cover c.loop-place.invariant.flags
          (c.in_ok-note.ensures (select stays log) c.loop-place.invariant.covers)));
      walk = rw pushed (
          entry_step cell.block (there_flags cell) stays log i found.0 goes c.loop-place.invariant.flags short
          (omega (arith, short, there_count cell)) found.1
          (c.may_go-goes.ensures (select stays log) found.0 c.loop-place.invariant.covers found.1)
          ∙ c.loop-place.invariant.walk);
    }

pub returns : goal.returns
returns c =
    let cell = c.args.cell.now.state in
    after_walk cell.block (there_flags cell) c.loop-place.stays.items (log_of cell) c.loop-place.place
    (omega (arith, c.loop-place-test.false, c.tail-place-end.ensures, log_len cell c.holds_together.ensures)) c.loop-place.invariant.walk
