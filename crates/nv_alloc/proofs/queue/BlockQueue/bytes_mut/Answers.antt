use Rattle.std.proofs.Common.{◌<◌, ◌-◌, length, refl, ap, ◌∙◌}
use Rattle.std.proofs.lemmas.List.{get_or_default}
use Rattle.std.specs.VecDeque.{deque_capacity, deque_len}
use Rattle.nv_alloc.specs.Block.{BlockValue}
use Rattle.nv_alloc.proofs.Written.{set-with_bytes, sized_at}
use Rattle.nv_alloc.proofs.queue.BlockQueue.bytes_mut.Goals as goal

pub returns : goal.returns
returns c =
    let blocks = c.self.inside.blocks.items in
    let lent = c.index_mut-block.result.now in
    let within : c.args.place < length blocks = rw (← c.self.view_is) at c.requires in
    let bytes = c.bytes_mut.ensures.value ∙ ap (λ (b : BlockValue). b.bytes) c.index_mut-block.ensures.value in (
      (
        refl,
        λ w. rw (← c.self.view_is)
            (λ i. record {
              blocks = set-with_bytes blocks c.args.place lent w within c.index_mut-block.ensures.value i;
              size = c.self.inside.size;
              room = deque_capacity c.self.inside.blocks - deque_len c.self.inside.blocks;
            }),
      ),
      record {
        writes_back = tt;
        value = λ block. rw (← c.self.view_is) (bytes
            ∙ ap (λ (b : BlockValue). b.bytes) (get_or_default blocks c.args.place lent block within));
        length = rw (← c.self.view_is) (ap length bytes ∙ sized_at c.self.inside.size blocks c.args.place lent c.self.invariant within);
      },
    )
