-- A list and what gives it blocks have together as many blocks as before.
use Rattle.std.proofs.Common.{◌≡◌, ◌+◌, ◌++◌, Bool, true, false, cond, List, [], ◌∷◌, length, length-append, arith, refl, ap}
use Rattle.nv_alloc.specs.Block.{BlockValue, number_of, put_block}
use Rattle.nv_alloc.specs.FreeList.{FreeBlocks}
use Rattle.nv_alloc.specs.Giving.{after_giving, after_offer, not_taken, takes}
use Rattle.nv_alloc.specs.Hand.{blocks_of}
use Rattle.nv_alloc.specs.Queue.{after_home}
use Rattle.nv_alloc.specs.declared.hand.Hand.{Hand}
use Rattle.nv_alloc.proofs.GivingLemmas.{kept_of-append}
use Rattle.nv_alloc.proofs.Lists.{length-put_by}

offered_count : (list : FreeBlocks) (b : BlockValue) (t : Bool)
    → length (cond t [] (b ∷ [])) + length (cond t (record list { blocks = put_block b list.blocks }) list).blocks
    ≡ length list.blocks + 1
offered_count list b true = omega (arith, length-put_by number_of b list.blocks)
offered_count list b false = omega arith

pub given_count : (list : FreeBlocks) (bs : List BlockValue)
    → length (not_taken list bs) + length (after_giving list bs).blocks ≡ length bs + length list.blocks
given_count list [] = refl
given_count list (b ∷ bs) =
    omega (
      arith,
      given_count (after_offer list b) bs,
      offered_count list b (takes list b),
      length-append (cond (takes list b) [] (b ∷ [])) (not_taken (after_offer list b) bs),
    )

-- a hand keeps what the list did not take of all its blocks
kept_in_hand : (list : FreeBlocks) (old new : Hand) → new.«data» ≡ after_home list old.«data»
    → new.pages ≡ after_home (after_giving list old.«data».blocks) old.pages
    → new.chain ≡ not_taken (after_giving list (old.«data».blocks ++ old.pages.blocks)) old.chain
    → blocks_of new ≡ not_taken list (blocks_of old)
kept_in_hand list old new d p c =
    let all = kept_of-append list (old.«data».blocks ++ old.pages.blocks) old.chain in
    let queues = kept_of-append list old.«data».blocks old.pages.blocks in
    rw (d, p, c, all, queues) refl

pub hand_count : (list : FreeBlocks) (old new : Hand) → new.«data» ≡ after_home list old.«data»
    → new.pages ≡ after_home (after_giving list old.«data».blocks) old.pages
    → new.chain ≡ not_taken (after_giving list (old.«data».blocks ++ old.pages.blocks)) old.chain
    → length (blocks_of new) + length (after_giving list (blocks_of old)).blocks
    ≡ length (blocks_of old) + length list.blocks
hand_count list old new d p c =
    omega (arith, ap length (kept_in_hand list old new d p c), given_count list (blocks_of old))
