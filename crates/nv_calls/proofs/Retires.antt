-- One killed part after another is kept or goes out.
use Rattle.std.proofs.Common.{◌≡◌, ℕ, ◌+◌, ◌-◌, ◌<◌, ◌≤◌, List, [], ◌∷◌, ◌++◌, length, map, drop, get_or, Bool, true, false, cond, Option, Some, None, add-one, append_assoc, arith, refl, ap, ap₂, subst, sym, ◌∙◌}
use Rattle.std.specs.Prelude.{option_to_list, slice_index_or}
use Rattle.std.proofs.lemmas.List.{append-nil, length-append}
use Rattle.std.proofs.Math.Seq.{drop-cons}
use Rattle.nv_alloc.specs.Block.{BlockValue}
use Rattle.nv_alloc.specs.Queue.{QueueValue}
use Rattle.nv_alloc.specs.declared.hand.Hand.{Hand}
use Rattle.nv_base.specs.declared.limits.TheConstants.{NUMBER}
use Rattle.nv_log.specs.Chain.{ChainState, log}
use Rattle.nv_cell.specs.Cell.{CellState, log_of, number_in}
use Rattle.nv_cell.specs.Readers.{is_erased, is_gone}
use Rattle.nv_cell.specs.Killed.{AreKilled}
use Rattle.nv_cell.specs.declared.killed.KilledPart.{KilledPart}
use Rattle.nv_cell.specs.declared.mark.Mark.TheVariants.{Killed, Kept, Out}
use Rattle.nv_cell.proofs.KilledParts.{gone_out, marked_anew, others_killed}
use Rattle.nv_calls.specs.Retired.{CanTakeGone}
use Rattle.nv_calls.specs.Retiring.{freed, freed_by, freed_one, hand_with, keeper_of, number_back, part_in, retired, retired_one, settled, with_back}

-- the parts from a place on
pub rest_is : (all : List KilledPart) (i : ℕ) (d : KilledPart) → i < length all → drop i all ≡ get_or all i d ∷ drop (i + 1) all
rest_is all i d lt = rw add-one (drop-cons all i d lt)

pub block_stays : (living : List ℕ) (ino epoch : ℕ) (killed : KilledPart) (cell : CellState)
    → (retired_one living ino epoch killed cell).block ≡ cell.block
block_stays living ino epoch killed cell = go (keeper_of living ino epoch killed) where
  go : (keeper : Option ℕ) → (settled keeper (number_in cell killed.part) cell).block ≡ cell.block
  go (Some s) = refl
  go None = refl

-- the later ones are killed still
pub others_wait : (living : List ℕ) (ino epoch : ℕ) (killed : KilledPart) (later : List KilledPart) (cell : CellState)
    → AreKilled (map part_in (killed ∷ later)) cell → AreKilled (map part_in later) (retired_one living ino epoch killed cell)
others_wait living ino epoch killed later cell are = go (keeper_of living ino epoch killed) where
  go : (keeper : Option ℕ) → AreKilled (map part_in later) (settled keeper (number_in cell killed.part) cell)
  go (Some s) = others_killed killed.part Kept (map part_in later) cell _ (marked_anew cell killed.part Killed Kept are.0) are
  go None = others_killed killed.part Out (map part_in later) cell _ (gone_out cell killed.part Killed are.0) are

-- erasing leaves the data blocks of a hand
pub data_stays : (ino : ℕ) (cell : CellState) (hand : Hand) → (hand_with ino cell hand).data ≡ hand.data
data_stays ino cell hand = go (is_erased cell) where
  go : (b : Bool) → (cond b (let h : Hand = record hand { chain = cell.chain.blocks; ino = number_back ino cell hand.ino } in h)
      hand).data ≡ hand.data
  go true = refl
  go false = refl

-- retiring leaves the chain and the generation
one_chain : (keeper : Option ℕ) (n : ℕ) (cell : CellState) → (settled keeper n cell).chain ≡ cell.chain
one_chain (Some s) n cell = refl
one_chain None n cell = refl

one_generation : (keeper : Option ℕ) (n : ℕ) (cell : CellState) → (settled keeper n cell).generation ≡ cell.generation
one_generation (Some s) n cell = refl
one_generation None n cell = refl

pub chain_stays : (living : List ℕ) (ino epoch : ℕ) (all : List KilledPart) (cell : CellState)
    → (retired living ino epoch all cell).chain ≡ cell.chain
chain_stays living ino epoch [] cell = refl
chain_stays living ino epoch (killed ∷ later) cell =
    chain_stays living ino epoch later (retired_one living ino epoch killed cell)
    ∙ one_chain (keeper_of living ino epoch killed) (number_in cell killed.part) cell

pub generation_stays : (living : List ℕ) (ino epoch : ℕ) (all : List KilledPart) (cell : CellState)
    → (retired living ino epoch all cell).generation ≡ cell.generation
generation_stays living ino epoch [] cell = refl
generation_stays living ino epoch (killed ∷ later) cell =
    generation_stays living ino epoch later (retired_one living ino epoch killed cell)
    ∙ one_generation (keeper_of living ino epoch killed) (number_in cell killed.part) cell

-- ---- blocks behind the others of a queue

pub back_none : (queue : QueueValue) → queue ≡ with_back [] queue
back_none queue =
    let room : queue.room ≡ queue.room - 0 = omega arith in
    ap₂ (λ (bs : List BlockValue) (r : ℕ). let q : QueueValue = record { blocks = bs; size = queue.size; room = r } in q)
    (sym (append-nil queue.blocks)) room

pub back_more : (xs ys : List BlockValue) (queue : QueueValue) → with_back ys (with_back xs queue) ≡ with_back (xs ++ ys) queue
back_more xs ys queue =
    let room : queue.room - length xs - length ys ≡ queue.room - length (xs ++ ys) = omega (arith, length-append xs ys) in
    ap₂ (λ (bs : List BlockValue) (r : ℕ). let q : QueueValue = record { blocks = bs; size = queue.size; room = r } in q)
    (append_assoc queue.blocks xs ys) room

-- a part sets at most one block free
pub freed_few : (living : List ℕ) (ino epoch : ℕ) (killed : KilledPart) (cell : CellState)
    → length (freed_one living ino epoch killed cell) ≤ 1
freed_few living ino epoch killed cell = go (keeper_of living ino epoch killed) where
  one : (b : Option BlockValue) → length (option_to_list b) ≤ 1
  one (Some b) = omega arith
  one None = omega arith

  go : (keeper : Option ℕ) → length (freed keeper (number_in cell killed.part) cell) ≤ 1
  go (Some s) = omega arith
  go None = one (slice_index_or cell.blocks (number_in cell killed.part) None)

pub freed_within : (living : List ℕ) (ino epoch : ℕ) (all : List KilledPart) (cell : CellState)
    → length (freed_by living ino epoch all cell) ≤ length all
freed_within living ino epoch [] cell = omega arith
freed_within living ino epoch (killed ∷ later) cell =
    let after : CellState = retired_one living ino epoch killed cell in
    omega (
      arith,
      length-append (freed_one living ino epoch killed cell) (freed_by living ino epoch later after),
      freed_few living ino epoch killed cell,
      freed_within living ino epoch later after,
    )

-- ---- an inode that is gone stays so, and can go to the hand still

pub gone_fits : (hand later : Hand) (cell mid : CellState) → mid.chain ≡ cell.chain → mid.generation ≡ cell.generation
    → later.chain ≡ hand.chain → later.ino ≡ hand.ino → (is_gone (log_of cell) ≡ true → CanTakeGone hand cell)
    → is_gone (log_of mid) ≡ true → CanTakeGone later mid
gone_fits hand later cell mid chain generation pages number may gone =
    let can : CanTakeGone hand cell = may (sym (ap (λ (c : ChainState). is_gone (log c)) chain) ∙ gone) in
    record {
      generation = subst (λ (n : ℕ). n < NUMBER) (sym generation) can.generation;
      chain = ap length pages ∙ can.chain;
      number = number ∙ can.number;
    }
