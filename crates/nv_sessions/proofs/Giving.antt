-- A hand that gives blocks has no more of them after it.
use Rattle.std.proofs.Common.{◌≡◌, ◌+◌, ◌≤◌, ◌++◌, Bool, true, false, cond, List, [], ◌∷◌, length, length-append, arith}
use Rattle.nv_alloc.specs.Block.{BlockValue}
use Rattle.nv_alloc.specs.FreeList.{FreeBlocks}
use Rattle.nv_alloc.specs.Giving.{after_giving, after_offer, not_taken, takes}
use Rattle.nv_alloc.specs.Hand.{blocks_of}
use Rattle.nv_alloc.specs.Queue.{after_home}
use Rattle.nv_alloc.specs.declared.hand.Hand.{Hand}
use Rattle.nv_alloc.proofs.Counts.{given_count, hand_count}

at_most_one : (b : BlockValue) (t : Bool) → length (cond t [] (b ∷ [])) ≤ 1
at_most_one b true = omega arith
at_most_one b false = omega arith

keeps_no_more : (list : FreeBlocks) (bs : List BlockValue) → length (not_taken list bs) ≤ length bs
keeps_no_more list [] = omega arith
keeps_no_more list (b ∷ bs) =
    let later = not_taken (after_offer list b) bs in
    omega (
      arith,
      keeps_no_more (after_offer list b) bs,
      at_most_one b (takes list b),
      length-append (cond (takes list b) [] (b ∷ [])) later,
    )

-- what the hand lost is what the list gained
pub record Moves (list : FreeBlocks) (old new : Hand) : Type 0 where
  pub together : length (blocks_of new) + length (after_giving list (blocks_of old)).blocks
      ≡ length (blocks_of old) + length list.blocks
  pub fewer : length (blocks_of new) ≤ length (blocks_of old)

pub given_moves : (list : FreeBlocks) (old new : Hand) → new.«data» ≡ after_home list old.«data»
    → new.pages ≡ after_home (after_giving list old.«data».blocks) old.pages
    → new.chain ≡ not_taken (after_giving list (old.«data».blocks ++ old.pages.blocks)) old.chain
    → Moves list old new
given_moves list old new d p c =
    let all = hand_count list old new d p c in
    let kept = keeps_no_more list (blocks_of old) in
    record { together = all; fewer = omega (arith, all, kept, given_count list (blocks_of old)) }
