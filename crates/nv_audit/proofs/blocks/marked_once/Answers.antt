use Rattle.std.proofs.Common.{◌≡◌, ℕ, ◌+◌, Bool, true, List, length, set, arith, subst, sym, ◌∙◌}
use Rattle.std.proofs.lemmas.Bool.{false≢true}
use Rattle.nv_audit.specs.Blocks.{IsUnmarked}
use Rattle.nv_audit.proofs.EachOnce.{AreMarkedOnce, all_marked, mark_next, next_unmarked}
use Rattle.nv_audit.proofs.blocks.marked_once.Goals as goal

pub returns-then-not-is_unmarked : goal.returns-then-not-is_unmarked
returns-then-not-is_unmarked c all =
    let marks = c.loop-number.marks.items in
    let n = c.number-item.result in
    false≢true (sym c.if-not-is_unmarked.true ∙ c.is_unmarked.ensures.1
    (subst (IsUnmarked c.deref.result.now) (sym c.number-place.ensures)
    (subst (λ (ms : List Bool). IsUnmarked ms n) (sym c.deref.ensures.value)
    (next_unmarked c.args.blocks c.args.numbers.now c.loop-number.number-index marks n c.loop-number-test.true c.number-item.is
    c.loop-number.invariant all))))

pub loop-number-preserved : goal.loop-number-preserved
loop-number-preserved c =
    let blocks = c.args.blocks in
    let numbers = c.args.numbers.now in
    let i = c.loop-number.number-index in
    let marks = c.loop-number.marks.items in
    let n = c.number-item.result in
    let new = subst (λ (ms : List Bool). IsUnmarked ms n) c.deref.ensures.value
    (subst (IsUnmarked c.deref.result.now) c.number-place.ensures (c.is_unmarked.ensures.0 c.if-not-is_unmarked.false)) in
    subst (λ (k : ℕ). AreMarkedOnce blocks numbers (i + 1) (set marks k true)) (sym c.number-place.ensures)
    (mark_next blocks numbers i marks n c.loop-number-test.true c.number-item.is c.loop-number.invariant new)

pub returns : goal.returns
returns c =
    let numbers = c.args.numbers.now in
    let i = c.loop-number.number-index in
    let end : i ≡ length numbers = omega (arith, c.loop-number-test.false, c.loop-number.auto.number-index-end) in
    all_marked c.args.blocks numbers i c.loop-number.marks.items end c.loop-number.invariant
