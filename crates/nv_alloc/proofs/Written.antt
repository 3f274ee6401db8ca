-- A block of a queue whose bytes are written.
use Rattle.std.proofs.Common.{◌≡◌, ℕ, zero, suc, ◌<◌, List, [], ◌∷◌, length, set, get_or, arith, ap}
use Rattle.nv_alloc.specs.Block.{AreSized, BlockValue}
use Rattle.nv_alloc.specs.Lends.{with_bytes}
use Rattle.nv_alloc.specs.QueueLends.{with_bytes_at}

pub set-with_bytes : (blocks : List BlockValue) (place : ℕ) (block : BlockValue) (w : List ℕ) → place < length blocks
    → block ≡ get_or blocks place block → set blocks place (with_bytes block w) ≡ with_bytes_at blocks place w
set-with_bytes [] place block w lt e = absurd (omega arith)
set-with_bytes (x ∷ xs) zero block w lt e = ap (λ b. with_bytes b w ∷ xs) e
set-with_bytes (x ∷ xs) (suc place) block w lt e = ap (λ bs. x ∷ bs) (set-with_bytes xs place block w (omega arith) e)

pub sized_at : (size : ℕ) (blocks : List BlockValue) (place : ℕ) (block : BlockValue) → AreSized size blocks → place < length blocks
    → length (get_or blocks place block).bytes ≡ size
sized_at size [] place block sized lt = absurd (omega arith)
sized_at size (x ∷ xs) zero block sized lt = sized.0
sized_at size (x ∷ xs) (suc place) block sized lt = sized_at size xs place block sized.1 (omega arith)
