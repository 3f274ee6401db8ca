use Rattle.std.proofs.Common.{◌≡◌, ap, map, sym, ◌∙◌}
use Rattle.std.specs.VecDeque.Iter.{deque_iter_rest}
use Rattle.std.proofs.lemmas.Iterator.Consumers.{YieldsList-end, YieldsList-from_deque}
use Rattle.nv_alloc.specs.Block.{number_of}
use Rattle.nv_calls.proofs.CellCommits.{map_twice}
use Rattle.nv_trace.proofs.json_world.numbers.Goals as goal

pub returns : goal.returns
returns c =
    let from : deque_iter_rest c.into_iter-block-iterator.result ≡ deque_iter_rest c.args.blocks = cc in
    let end = YieldsList-end (YieldsList-from_deque (deque_iter_rest c.args.blocks) from) c.loop-block.yielded _
    c.loop-block.yielded_by _ _ c.in-None.is c.next.ensures.steps in
    c.loop-block.invariant ∙ sym (map_twice number_of (λ b. b.now) c.loop-block.yielded) ∙ ap (map number_of) end.0
