use Rattle.std.proofs.Common.{◌≡◌, ◌∙◌, ap, arith, map, ◌++◌, ◌∷◌, [], List, sym}
use Rattle.std.proofs.lemmas.List.{map-append}
use Rattle.std.proofs.lemmas.List.FromFn.{map-range_with_len_more}
use Rattle.std.specs.List.{range_with_len}
use Rattle.nv_work.specs.declared.forked.ForkedCall.{ForkedCall}
use Rattle.nv_work.specs.Threads.{share_of}
use Rattle.nv_work.proofs.forked.ForkedLines.new.Goals as goal

pub loop-thread-preserved : goal.loop-thread-preserved
loop-thread-preserved c =
    let i = c.loop-thread.invariant in record {
      count = omega (arith, i.count, c.in_ok-push.ensures.len);
      lists = rw c.in_ok-push.ensures.items
          (map-append _ c.loop-thread.lists.items _ ∙ ap (λ lists. lists ++ c.new.result.items ∷ []) i.lists
          ∙ ap (λ (own : List ForkedCall). map (share_of c.args.threads []) (range_with_len 0 c.loop-thread._thread) ++ own ∷ []) c.new.ensures.items
          ∙ sym (map-range_with_len_more (share_of c.args.threads []) 0 c.loop-thread._thread c.loop-thread._thread (omega arith)));
    }
