-- Blocks that begin to be held, and blocks that are held no more, at the places of snapshots.
-- The snapshots stand oldest first.
use Rattle.std.specs.Prelude.{◌≡◌, ℕ, ◌+◌, ◌<◌, ◌≤◌, List, length, slice_index, take}
use Rattle.std.specs.List.{sum}
use Rattle.nv_base.specs.declared.limits.TheConstants.{NUMBER}
use Rattle.nv_book.specs.declared.held_spans.HeldSpans.{HeldSpans}

-- spans have so many places, and room for so many more blocks
pub record HasRoom (spans : HeldSpans) (places blocks : ℕ) : Type 0 where
  -- `begun` has a number of blocks for each place
  pub begun_places : length spans.begun.items ≡ places
  -- `over` has a number of blocks for each place
  pub over_places : length spans.over.items ≡ places
  -- the blocks that have begun to be held, with so many more, are at most 2^62
  pub begun_fits : sum spans.begun.items + blocks ≤ NUMBER
  -- the blocks that are held no more, with so many more, are at most 2^62
  pub over_fits : sum spans.over.items + blocks ≤ NUMBER

-- the sum of the numbers at the places up to this one
abbrev pub up_to : ℕ → List ℕ → ℕ
up_to place numbers = sum (take (place + 1) numbers)

-- up to each snapshot as many blocks have begun as are over by then and as the snapshot holds
abbrev pub Tells : List ℕ → HeldSpans → (ℕ → ℕ) → Type 0
Tells snapshots spans held = (place : ℕ) → place < length snapshots →
    up_to place spans.begun.items ≡ up_to place spans.over.items + held (slice_index snapshots place)

-- up to each snapshot, the blocks that have begun and are not over grow by those that it holds
abbrev pub AddsSpan : List ℕ → (ℕ → ℕ) → HeldSpans → HeldSpans → Type 0
AddsSpan snapshots held old new = (place : ℕ) → place < length snapshots →
    up_to place new.begun.items + up_to place old.over.items ≡
    up_to place old.begun.items + up_to place new.over.items + held (slice_index snapshots place)
