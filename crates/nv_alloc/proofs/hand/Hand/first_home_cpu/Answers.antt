use Rattle.std.proofs.Common.{ℕ, ◌≤◌, arith, subst, sym}
use Rattle.std.specs.List.{AllByRecursion}
use Rattle.nv_alloc.specs.Block.{numbers_of}
use Rattle.nv_alloc.specs.Hand.{blocks_of}
use Rattle.nv_alloc.proofs.Lowest.{all_from, none_lowest, some_lowest}
use Rattle.nv_alloc.proofs.hand.Hand.first_home_cpu.Goals as goal

pub returns-in_err-lowest : goal.returns-in_err-lowest
returns-in_err-lowest c =
    let none = none_lowest (numbers_of (blocks_of c.args.self.now)) (sym c.in_err-lowest.ensures) in
    rw c.from_residual.ensures (subst (AllByRecursion (λ (n : ℕ). c.args.geometry.now.numbers.blocks ≤ n)) (sym none) tt)

pub returns-then-number-geometry : goal.returns-then-number-geometry
returns-then-number-geometry c =
    let low = some_lowest (numbers_of (blocks_of c.args.self.now)) c.in_ok-lowest.lowest (sym c.in_ok-lowest.ensures) in (
      c.home_of.ensures.cpu,
      (c.in_ok-lowest.lowest, low.0, c.home_of.ensures.home),
      all_from _ c.in_ok-lowest.lowest _ c.home_of.ensures.home.from low.1,
    )

pub returns : goal.returns
returns c =
    let low = some_lowest (numbers_of (blocks_of c.args.self.now)) c.in_ok-lowest.lowest (sym c.in_ok-lowest.ensures) in
    all_from _ c.in_ok-lowest.lowest _ (omega arith) low.1
