use Rattle.std.proofs.Common.{inl, inr, arith, length}
use Rattle.std.proofs.lemmas.Bool.{cases_eq, cases_lt}
use Rattle.std.proofs.lemmas.List.{get_or_past}
use Rattle.nv_alloc.proofs.places.first_word.Goals as goal

pub returns-then-word-ne0-clause-some : goal.returns-then-word-ne0-clause-some
returns-then-word-ne0-clause-some c = record { some = omega arith; none = c.loop-at.invariant }

pub loop-at-preserved : goal.loop-at-preserved
loop-at-preserved c i h = elim (cases_eq i c.loop-at.at) [
  | inl e ↦ rw e (omega arith)
  | inr apart ↦ c.loop-at.invariant i (omega (arith, h, apart))
]

pub returns-clause-none : goal.returns-clause-none
returns-clause-none c i = elim (cases_lt i (length c.args.words.now)) [
  | inl less ↦ c.loop-at.invariant i (omega (arith, less, c.loop-at-test.false))
  | inr past ↦ get_or_past c.args.words.now i 0 past
]
