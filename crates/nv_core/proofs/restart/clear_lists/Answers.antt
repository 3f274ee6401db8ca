use Rattle.std.proofs.Common.{◌≡◌, ◌∙◌, ◌<◌, List, ap, ap₂, arith, slice_set}
use Rattle.std.specs.Prelude.{slice_index_or}
use Rattle.std.proofs.lemmas.List.{length-set}
use Rattle.nv_alloc.proofs.ZeroBlocks.{changed-all, changed-at, changed-more}
use Rattle.nv_alloc.specs.FreeList.{FreeBlocks}
use Rattle.nv_core.specs.Restarts.{cleared}
use Rattle.nv_core.proofs.restart.clear_lists.Goals as goal

pub loop-cpu-preserved : goal.loop-cpu-preserved
loop-cpu-preserved c =
    let all = c.args.lists.now.items in
    let k = c.loop-cpu.cpu in
    let x = c.index_mut.result.now in
    let inv = c.loop-cpu.invariant in
    let at : x ≡ slice_index_or all k x =
    c.index_mut.ensures.value ∙ ap (λ (ls : List FreeBlocks). slice_index_or ls k x) inv.items ∙ changed-at cleared all k x in
    record {
      items =
          ap₂ (λ (ls : List FreeBlocks) (l : FreeBlocks). slice_set ls k l) inv.items (c.clear.ensures ∙ ap cleared at)
          ∙ changed-more cleared all k x (omega (arith, inv.len, c.loop-cpu-test.true));
      len = length-set c.loop-cpu.lists.items k c.clear.new.self ∙ inv.len;
    }

pub returns : goal.returns
returns c =
    c.loop-cpu.invariant.items
    ∙ changed-all cleared c.args.lists.now.items c.loop-cpu.cpu (omega arith)
