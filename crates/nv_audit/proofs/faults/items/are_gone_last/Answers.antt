use Rattle.std.proofs.Common.{ℕ, ◌<◌, length, get_or, arith, sym, slice_index_or, ◌∙◌}
use Rattle.std.proofs.lemmas.Bool.{false≢true}
use Rattle.std.proofs.lemmas.List.{get_or_default}
use Rattle.nv_audit.specs.Image.{no_slot}
use Rattle.nv_audit.specs.MountedLogs.{IsFrontGoneLast}
use Rattle.nv_audit.proofs.Items.{front_gone, one_ino_more}
use Rattle.nv_audit.proofs.faults.items.are_gone_last.Goals as goal

pub returns-then-not-is_gone_last : goal.returns-then-not-is_gone_last
returns-then-not-is_gone_last c =
    let slots = c.args.slots.now in
    let tails = c.args.tails.now in
    let i = c.loop-ino.ino in
    let lt : i < length slots = c.loop-ino-test.true in
    let low : i < length tails = omega (arith, lt, c.requires) in
    let tail = get_or tails i 0 in
    let same = front_gone slots tails i c.index-slots-ino.result tail c.front.result.now lt low c.index-slots-ino.is
    (get_or_default tails i 0 tail low) c.front.ensures in (
      λ no. absurd (false≢true no),
      λ all. absurd (false≢true (sym c.if-not-is_gone_last.true ∙ c.is_gone_last.ensures.1 (same.1 (all i lt)))),
    )

pub loop-ino-preserved : goal.loop-ino-preserved
loop-ino-preserved c =
    let slots = c.args.slots.now in
    let tails = c.args.tails.now in
    let i = c.loop-ino.ino in
    let lt : i < length slots = c.loop-ino-test.true in
    let low : i < length tails = omega (arith, lt, c.requires) in
    let tail = get_or tails i 0 in
    let same = front_gone slots tails i c.index-slots-ino.result tail c.front.result.now lt low c.index-slots-ino.is
    (get_or_default tails i 0 tail low) c.front.ensures in
    one_ino_more (λ (k : ℕ). IsFrontGoneLast (slice_index_or tails k 0) (slice_index_or slots k no_slot)) i c.loop-ino.invariant
    (same.0 (c.is_gone_last.ensures.0 c.if-not-is_gone_last.false))
