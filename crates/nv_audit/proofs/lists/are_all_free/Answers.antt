use Rattle.std.proofs.Common.{arith, ap, sym, ◌∙◌}
use Rattle.std.proofs.lemmas.Bool.{false≢true}
use Rattle.nv_alloc.specs.Block.{numbers_of}
use Rattle.nv_alloc.specs.FreeList.{FreeBlocks}
use Rattle.nv_alloc.specs.Numbers.{has}
use Rattle.nv_audit.specs.Lists.{no_list}
use Rattle.nv_audit.proofs.lists.are_all_free.Goals as goal

pub returns-then-not-is_range_free : goal.returns-then-not-is_range_free
returns-then-not-is_range_free c =
    let cpu = c.loop-cpu.cpu in
    let list = c.get.ensures.lookup.4 (omega arith) no_list in (
      λ fails. absurd (false≢true fails),
      λ all. absurd (false≢true (sym c.if-not-is_range_free.true ∙ c.is_range_free.ensures.1 (λ n from below.
          ap (λ (l : FreeBlocks). has (numbers_of l.blocks) n) list
          ∙ all cpu c.loop-cpu-test.true n (omega (arith, from, c.home_start-start.ensures.value))
          (omega (arith, below, c.home_start-end.ensures.value))))),
    )
