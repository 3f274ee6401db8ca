use Rattle.std.proofs.Common.{◌<◌, ◌∷◌, [], ◌++◌, List, ℕ, ap, arith, length, sym, ◌∙◌}
use Rattle.nv_log.proofs.Cuts.{cut_none}
use Rattle.nv_log.proofs.pages.cut.Goals as goal

pub returns-then-tail-eq0-clause-ends : goal.returns-then-tail-eq0-clause-ends
returns-then-tail-eq0-clause-ends c = c.clear.ensures.items ∙ sym (cut_none c.args.tail c.args.ends.now.items c.if-tail-eq0.true)

pub ended_before-full-requires : goal.ended_before-full-requires
ended_before-full-requires c = rw c.as_slice.ensures.value c.requires

pub returns-then-pages-full-clause-ends : goal.returns-then-pages-full-clause-ends
returns-then-pages-full-clause-ends c =
    let whole = rw c.as_slice.ensures.value at c.ended_before-full.ensures.all in
    sym (whole (omega (arith, c.if-pages-full.true, c.args.ends.now.ok)))

pub push_reserved-requires : goal.push_reserved-requires
push_reserved-requires c =
    omega (
      arith,
      c.if-pages-full.false,
      c.truncate.ensures.len,
      c.truncate.ensures.capacity,
      c.args.ends.now.ok,
    )

pub returns-clause-ends : goal.returns-clause-ends
returns-clause-ends c =
    let some = rw c.as_slice.ensures.value at c.ended_before-full.ensures.some in
    let within : c.ended_before-full.result < length c.args.ends.now.items = omega (arith, c.if-pages-full.false, c.args.ends.now.ok) in
    c.push_reserved.ensures.items ∙ ap (λ (es : List ℕ). es ++ c.args.tail ∷ []) c.truncate.ensures.items
    ∙ sym (some (omega (arith, c.if-tail-eq0.false)) within)
