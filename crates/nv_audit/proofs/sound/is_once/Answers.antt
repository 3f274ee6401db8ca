use Rattle.std.proofs.Common.{◌≡◌, ◌-◌, ◌<◌, length, get_or, List, ℕ, refl, sym, ◌∙◌, arith, subst}
use Rattle.std.proofs.lemmas.Bool.{eqb-false, eqb-true, false≢true}
use Rattle.std.proofs.lemmas.List.{get_or_default, take_all}
use Rattle.nv_audit.specs.Tree.{IsOnce}
use Rattle.nv_audit.proofs.Apart.{once_first, once_more, twice}
use Rattle.nv_audit.proofs.sound.is_once.Goals as goal

-- what is read at a place
read : (xs : List ℕ) (i x : ℕ) → i < length xs → x ≡ get_or xs i x → get_or xs i 0 ≡ x
read xs i x lt is = get_or_default xs i 0 x lt ∙ sym is

before_last : (xs : List ℕ) (i : ℕ) → i < length xs → i - 1 < length xs
before_last xs i lt = omega (arith, lt)

pub returns-then-eq : goal.returns-then-eq
returns-then-eq c =
    let xs = c.args.numbers.now in
    let i = c.loop-place.place in
    let one = c.index-numbers-place.result in
    let other = c.index-numbers-place-in-loop-place.result in
    let same : get_or xs (i - 1) 0 ≡ get_or xs i 0 =
    read xs (i - 1) one (before_last xs i c.loop-place-test.true) c.index-numbers-place.is
    ∙ eqb-true one other (sym c.eq.ensures ∙ c.if-eq.true)
    ∙ sym (read xs i other c.loop-place-test.true c.index-numbers-place-in-loop-place.is) in (
      λ no. absurd (false≢true no),
      λ once. absurd (twice xs i c.loop-place.auto.place c.loop-place-test.true same once),
    )

pub loop-place-init : goal.loop-place-init
loop-place-init c = once_first c.args.numbers.now

pub loop-place-preserved : goal.loop-place-preserved
loop-place-preserved c =
    let xs = c.args.numbers.now in
    let i = c.loop-place.place in
    let one = c.index-numbers-place.result in
    let other = c.index-numbers-place-in-loop-place.result in
    once_more xs i c.loop-place.auto.place c.loop-place-test.true c.requires
    (λ same. eqb-false one other (sym c.eq.ensures ∙ c.if-eq.false)
    (sym (read xs (i - 1) one (before_last xs i c.loop-place-test.true) c.index-numbers-place.is) ∙ same
    ∙ read xs i other c.loop-place-test.true c.index-numbers-place-in-loop-place.is)) c.loop-place.invariant

pub returns : goal.returns
returns c = (
  λ yes. subst IsOnce (take_all c.loop-place.place c.args.numbers.now c.loop-place-test.false) c.loop-place.invariant,
  λ once. refl,
)
