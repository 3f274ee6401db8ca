use Rattle.std.proofs.Common.{ℕ, ◌-◌, false, cond, get_or, arith, ap, ◌∙◌}
use Rattle.nv_alloc.specs.Block.{put_block, zero_block}
use Rattle.nv_alloc.specs.FreeList.{FreeBlocks}
use Rattle.nv_alloc.proofs.ZeroBlocks.{zeros_all, zeros_next, zeros_none, zeros_taken}
use Rattle.nv_alloc.proofs.free_list.FreeList.add_unmarked.Goals as goal

pub loop-number-init : goal.loop-number-init
loop-number-init c =
    let start = ap (λ (l : FreeBlocks). l.start) c.self.view_is in
    record {
      is = zeros_none c.args.self.now (λ n. get_or c.args.marks.now n false) _ _ c.requires.none (omega arith);
      low = omega (arith, start);
    }

pub add_unless-requires : goal.add_unless-requires
add_unless-requires c =
    let n : ℕ = c.loop-number.number in
    let init = c.args.self.now in
    let start = ap (λ (l : FreeBlocks). l.start) c.self.view_is in
    let end = ap (λ (l : FreeBlocks). l.end) c.self.view_is in
    rw (c.new.ensures, c.loop-number.invariant.is)
    (zeros_taken init.start init.end init.size (λ k. get_or c.args.marks.now k false) (n - 1) n _
    (omega (arith, c.loop-number-test.true)) (omega (arith, start, c.loop-number-test.true))
    (omega (arith, start, end, c.loop-number.auto.number, c.loop-number-test.true)))

pub loop-number-preserved : goal.loop-number-preserved
loop-number-preserved c =
    let n : ℕ = c.loop-number.number in
    let m : ℕ = n - 1 in
    let now = c.loop-number.self in
    let start = ap (λ (l : FreeBlocks). l.start) c.self.view_is in
    record {
      is =
          zeros_next c.args.self.now now c.add_unless.new.self (λ k. get_or c.args.marks.now k false) m n _ _
          (omega (arith, c.loop-number-test.true)) (omega (arith, c.loop-number.auto.number, c.loop-number-test.true))
          c.loop-number.invariant.is
          (c.in_ok-add_unless.ensures
          ∙ ap (λ (k : ℕ). let r : FreeBlocks = record now {
            blocks = cond (get_or c.args.marks.now m false) now.blocks (put_block (zero_block now.size k) now.blocks);
          } in r) c.new.ensures);
      low = omega (arith, start, c.loop-number-test.true);
    }

pub returns : goal.returns
returns c =
    let start = ap (λ (l : FreeBlocks). l.start) c.self.view_is in
    let end = ap (λ (l : FreeBlocks). l.end) c.self.view_is in
    let low = c.loop-number.invariant.low in
    zeros_all c.args.self.now c.loop-number.self (λ k. get_or c.args.marks.now k false) c.loop-number.number _
    (omega (arith, start, low, c.loop-number-test.false))
    (omega (arith, start, end, low, c.loop-number-test.false)) c.loop-number.invariant.is
