use Rattle.std.proofs.Common.{◌≡◌, length, map, sym, ap, ◌∙◌, arith}
use Rattle.std.specs.VecDeque.Iter.{deque_iter_rest}
use Rattle.std.proofs.lemmas.Grind.{common_steps}
use Rattle.std.proofs.lemmas.Iterator.Consumers.{YieldsList-end, YieldsList-from_deque, YieldsList-turn}
use Rattle.std.proofs.lemmas.List.{length-map}
use Rattle.nv_alloc.specs.Block.{number_of, numbers_of}
use Rattle.nv_calls.proofs.CellCommits.{map_twice}
use Rattle.nv_calls.proofs.LogPages.{block_small}
use Rattle.nv_calls.proofs.Stretches.{maximal_are}
use Rattle.nv_calls.proofs.runs.runs_in.Goals as goal

pub add_block-requires-clause-small : goal.add_block-requires-clause-small
add_block-requires-clause-small c =
    let blocks = c.args.queue.now.blocks in
    let from : deque_iter_rest c.into_iter-block-iterator.result ≡ blocks = cc in
    let turn = YieldsList-turn (YieldsList-from_deque blocks from) c.loop-block.yielded _ c.loop-block.yielded_by _ _ c.in-Some.block
    c.in-Some.is c.next.ensures.steps in
    grind (arith, common_steps, block_small blocks (length c.loop-block.yielded) c.in-Some.block.now turn.0 turn.1 c.requires.small)

pub add_block-requires-clause-few : goal.add_block-requires-clause-few
add_block-requires-clause-few c =
    let blocks = c.args.queue.now.blocks in
    let from : deque_iter_rest c.into_iter-block-iterator.result ≡ blocks = cc in
    let turn = YieldsList-turn (YieldsList-from_deque blocks from) c.loop-block.yielded _ c.loop-block.yielded_by _ _ c.in-Some.block
    c.in-Some.is c.next.ensures.steps in
    omega (
      arith,
      ap length c.loop-block.invariant.0,
      length-map c.loop-block.yielded (λ b. b.now.number),
      turn.0,
      c.requires.few,
    )

pub returns-clause-blocks : goal.returns-clause-blocks
returns-clause-blocks c =
    let from : deque_iter_rest c.into_iter-block-iterator.result ≡ c.args.queue.now.blocks = cc in
    let end = YieldsList-end (YieldsList-from_deque c.args.queue.now.blocks from) c.loop-block.yielded _ c.loop-block.yielded_by _ _
    c.in-None.is c.next.ensures.steps in
    c.loop-block.invariant.0 ∙ sym (map_twice number_of (λ b. b.now) c.loop-block.yielded) ∙ ap (map number_of) end.0

pub returns-clause-runs : goal.returns-clause-runs
returns-clause-runs c =
    maximal_are c.loop-block.runs (numbers_of c.args.queue.now.blocks) c.loop-block.invariant.1 (returns-clause-blocks c)
