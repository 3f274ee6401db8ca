use Rattle.std.proofs.Common.{◌≡◌, ◌+◌, ◌-◌, ◌*◌, ◌/◌, ◌%◌, arith, inl, inr}
use Rattle.std.proofs.lemmas.Bool.{cases_lt}
use Rattle.nv_alloc.proofs.places.end_of_bits.Goals as goal

pub loop-at-preserved : goal.loop-at-preserved
loop-at-preserved c = (
  omega (arith, c.loop-at.invariant.0),
  λ k from less. elim (cases_lt k (c.loop-at.at * 64)) [
    | inl before ↦ c.loop-at.invariant.1 k from before
    | inr here ↦
        let word : k / 64 ≡ c.loop-at.at = omega (arith, here, less) in
        let place : k % 64 ≡ k - c.loop-at.at * 64 = omega (arith, here, less) in
        rw (word, place) (c.unlike-ends.ensures.like (k - c.loop-at.at * 64) (omega (arith, here, less))
        (c.in_default.ensures.none (k - c.loop-at.at * 64) (omega (arith, here, from)) (omega (arith, here, less))))
  ],
)

pub returns-in-Some-clause-from : goal.returns-in-Some-clause-from
returns-in-Some-clause-from c = omega (arith, c.in-Some.ensures.some.0)

pub returns-in-Some-clause-before : goal.returns-in-Some-clause-before
returns-in-Some-clause-before c k from less inside = elim (cases_lt k (c.loop-at.at * 64)) [
  | inl before ↦ c.loop-at.invariant.1 k from before
  | inr here ↦
      let some = c.in-Some.ensures.some in
      let word : k / 64 ≡ c.loop-at.at = omega (arith, here, less, some.1) in
      let place : k % 64 ≡ k - c.loop-at.at * 64 = omega (arith, here, less, some.1) in
      rw (word, place) (c.unlike-ends.ensures.like (k - c.loop-at.at * 64) (omega (arith, here, less, some.1))
      (some.3 (k - c.loop-at.at * 64) (omega (arith, here, from)) (omega (arith, here, less))))
]

pub returns-in-Some-clause-at : goal.returns-in-Some-clause-at
returns-in-Some-clause-at c inside =
    let some = c.in-Some.ensures.some in
    let word : (c.loop-at.at * 64 + c.in-Some.end) / 64 ≡ c.loop-at.at = omega (arith, some.1) in
    let place : (c.loop-at.at * 64 + c.in-Some.end) % 64 ≡ c.in-Some.end = omega (arith, some.1) in
    rw (word, place) (c.unlike-ends.ensures.unlike c.in-Some.end some.1 some.2)

pub returns-clause-before : goal.returns-clause-before
returns-clause-before c k from less inside = c.loop-at.invariant.1 k from (omega (arith, inside, c.loop-at-test.false))
