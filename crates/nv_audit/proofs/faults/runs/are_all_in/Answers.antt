use Rattle.std.proofs.Common.{◌≡◌, ℕ, true, sym, ◌∙◌}
use Rattle.std.proofs.lemmas.Bool.{false≢true}
use Rattle.nv_alloc.specs.Numbers.{has}
use Rattle.nv_audit.proofs.Loops.{one_fails, one_more}
use Rattle.nv_audit.proofs.faults.runs.are_all_in.Goals as goal

pub returns-then-not-is_in : goal.returns-then-not-is_in
returns-then-not-is_in c = (
  λ t. absurd (false≢true t),
  λ all. absurd (one_fails (λ (n : ℕ). has c.args.present.now n ≡ true) c.args.numbers.now c.loop-number.number-index
      c.number-item.result c.is_in.result c.loop-number-test.true c.number-item.is (λ is. c.is_in.ensures ∙ is) c.if-not-is_in.true all),
)

pub loop-number-preserved : goal.loop-number-preserved
loop-number-preserved c =
    one_more (λ (n : ℕ). has c.args.present.now n ≡ true) c.args.numbers.now c.loop-number.number-index c.number-item.result
    c.is_in.result c.loop-number-test.true c.number-item.is (λ is. sym c.is_in.ensures ∙ is) c.if-not-is_in.false
    c.loop-number.invariant
