use Rattle.std.proofs.Common.{◌≡◌, ◌∷◌, [], arith, ap, length, length-append, sym, take}
use Rattle.std.proofs.lemmas.List.{length-take-le}
use Rattle.nv_log.specs.Image.{cut_ends}
use Rattle.nv_log.proofs.Cuts.{cut_none}
use Rattle.nv_log.proofs.pages.count_for.Goals as goal

pub returns-then-tail-eq0 : goal.returns-then-tail-eq0
returns-then-tail-eq0 c = sym (ap length (cut_none c.args.tail c.args.ends.now c.if-tail-eq0.true))

pub returns-then-pages-full : goal.returns-then-pages-full
returns-then-pages-full c =
    let ends = c.args.ends.now in
    let whole : cut_ends c.args.tail ends ≡ ends = c.ended_before-full.ensures.all (omega arith) in
    omega (arith, ap length whole)

pub returns : goal.returns
returns c =
    let ends = c.args.ends.now in
    let full = c.ended_before-full.result in
    let some = c.ended_before-full.ensures.some (omega (arith, c.if-tail-eq0.false)) (omega (arith, c.if-pages-full.false)) in
    omega (arith, ap length some, length-append (take full ends) (c.args.tail ∷ []), length-take-le full ends (omega (arith, c.if-pages-full.false)))
