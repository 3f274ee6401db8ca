-- What a queue is once the bytes of one of its blocks were lent to be written.
use Rattle.std.specs.Prelude.{ℕ, zero, suc, List, [], ◌∷◌}
use Rattle.std.specs.Borrow.{Array, Fml, Lends, MutBor, u8}
use Rattle.nv_alloc.specs.Block.{BlockValue}
use Rattle.nv_alloc.specs.Lends.{with_bytes}
use Rattle.nv_alloc.specs.Queue.{QueueValue}
use Rattle.nv_alloc.specs.contracts.queue.BlockQueue.{the_row}

-- the blocks, the one at the place with other bytes
abbrev pub with_bytes_at : List BlockValue → ℕ → List ℕ → List BlockValue
with_bytes_at [] place bytes = []
with_bytes_at (block ∷ blocks) zero bytes = with_bytes block bytes ∷ blocks
with_bytes_at (block ∷ blocks) (suc place) bytes = block ∷ with_bytes_at blocks place bytes

-- the queue ends with the last bytes that were written through `bytes` in the block at the place
abbrev pub LendsBytesAt : MutBor QueueValue → ℕ → MutBor (List ℕ) → Fml
LendsBytesAt queue place bytes =
    Lends the_row (Array u8 0) queue bytes (λ w. record queue.now { blocks = with_bytes_at queue.now.blocks place w })
