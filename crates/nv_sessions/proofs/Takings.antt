-- What a change takes that passed its check: then it can be made ready.
use Rattle.std.proofs.Common.{◌≡◌, ℕ, zero, suc, ◌+◌, ◌-◌, ◌<◌, ◌≤◌, ◌^◌, ◌++◌, ◌==◌, ◌∙◌, cond, Bool, true, false, List, [], ◌∷◌, Option, length, length-append, take, refl, ap, ap₂, sym, subst, arith}
use Rattle.std.specs.List.{AllByRecursion}
use Rattle.std.specs.Option.{unwrap_or}
use Rattle.std.proofs.lemmas.Bool.{eqb-true}
use Rattle.nv_alloc.specs.Block.{BlockValue, numbers_of}
use Rattle.nv_alloc.specs.FreeList.{FreeBlocks}
use Rattle.nv_alloc.specs.Queue.{QueueValue}
use Rattle.nv_alloc.specs.declared.hand.Hand.{Hand}
use Rattle.nv_calls.specs.AllCalls.{ends_in_page, plan}
use Rattle.nv_calls.specs.Cells.{AreCells, no_cell}
use Rattle.nv_calls.specs.HandRoom.{pages_at_most}
use Rattle.nv_calls.specs.Nodes.{block_in, has_page_in, nodes_in}
use Rattle.nv_calls.specs.PagesWanted.{pages_wanted}
use Rattle.nv_calls.specs.Plan.{block_runs_of}
use Rattle.nv_calls.specs.Prepared.{CanReady, HasNumberFor, IsStill, handle_made_by, makes, no_handle, planned_by}
use Rattle.nv_calls.specs.Refusals.{passes}
use Rattle.nv_calls.specs.AllCalls.{refusal}
use Rattle.nv_calls.specs.Updates.{blank_call, blocks_taken}
use Rattle.nv_calls.specs.declared.allocation.Allocation.{Allocation}
use Rattle.nv_calls.specs.declared.update.Update.{Update}
use Rattle.nv_calls.proofs.BlockCounts.{hand_len}
use Rattle.nv_calls.proofs.CellCommits.{all_at}
use Rattle.nv_calls.proofs.Fitting.{few_wanted}
use Rattle.nv_cell.specs.Cell.{CellValue}
use Rattle.nv_cell.proofs.RunFlags.{all_append}
use Rattle.nv_sessions.specs.Changing.{AreSmall, HasPassed, HasTaken}

-- ---- from one list

small_front : (n end : ℕ) (bs : List BlockValue) → end ≤ 2 ^ 32 → AllByRecursion (λ m. m < end) (numbers_of bs) → AreSmall (take n bs)
small_front zero end bs le below = tt
small_front (suc n) end [] le below = tt
small_front (suc n) end (b ∷ bs) le below = (omega (arith, le, below.0), small_front n end bs le below.1)

pub taken_from : (n many end : ℕ) (list : FreeBlocks) (old new : QueueValue) → end ≤ 2 ^ 32
    → AllByRecursion (λ m. m < end) (numbers_of list.blocks) → length (take many list.blocks) ≡ n
    → new ≡ record old { blocks = old.blocks ++ take many list.blocks; room = old.room - n } → HasTaken n old new
taken_from n many end list old new le below count is = record {
  count = ap (λ (q : QueueValue). length q.blocks) is ∙ omega (arith, count, length-append old.blocks (take many list.blocks));
  size = ap (λ (q : QueueValue). q.size) is;
  room = ap (λ (q : QueueValue). q.room) is;
  small = λ small.
      subst (λ (q : QueueValue). AreSmall q.blocks) (sym is)
      (all_append (λ (b : BlockValue). b.number < 2 ^ 32) old.blocks (take many list.blocks) small
      (small_front many end list.blocks le below));
}

-- ---- then it can be made ready

none_small : (blocks : List BlockValue) → length blocks ≡ 0 → AreSmall blocks
none_small [] none = tt
none_small (b ∷ blocks) none = absurd (omega (arith, none))

no_blocks : (blocks : List BlockValue) → length blocks ≡ 0 → blocks ≡ []
no_blocks [] none = refl
no_blocks (b ∷ blocks) none = absurd (omega (arith, none))

-- a plan reads of a hand its number and its data blocks
pub planned_alike : (cells : List (ℕ × CellValue)) (one other : Hand) (u : Update) → one.ino ≡ other.ino
    → one.«data».blocks ≡ other.«data».blocks → planned_by cells one u ≡ planned_by cells other u
planned_alike cells one other u ino blocks =
    ap₂ (λ (i : Option ℕ) (bs : List BlockValue).
    let taken : Allocation = record { made = unwrap_or (handle_made_by cells i u) no_handle; runs = block_runs_of (numbers_of bs) } in
    plan (block_in cells) (nodes_in cells) taken (blank_call u)) ino blocks

module _ (block : ℕ) (cells : List (ℕ × CellValue)) (hand : Hand) (u : Update) (wanted : ℕ) (lent : AreCells cells)
    (some : 0 < length cells) (few : block ≤ 4096) (p : HasPassed block cells hand u wanted) where
  pub same_block : block ≡ block_in cells
  same_block = sym (all_at (λ (c : ℕ × CellValue). IsStill block c.1.state) cells no_cell 0 p.still some).size

  no_data : length hand.«data».blocks ≡ 0
  no_data = omega (arith, hand_len hand, p.hand_is.none)

  pub no_pages : length hand.pages.blocks ≡ 0
  no_pages = omega (arith, hand_len hand, p.hand_is.none)

  pub no_chain : length hand.chain ≡ 0
  no_chain = omega (arith, hand_len hand, p.hand_is.none)

  pub wants_few : wanted < 2 ^ 32
  wants_few =
      omega (
        arith,
        few_wanted block (nodes_in cells) (ends_in_page (has_page_in cells) block (blank_call u)) (blank_call u) p.passed,
        p.wants,
      )

  pub can_ready : (before : QueueValue) (after : Hand) → before.blocks ≡ hand.«data».blocks → before.size ≡ hand.«data».size
      → HasTaken wanted before after.«data» → after.ino ≡ hand.ino → CanReady cells after u
  can_ready before after blocks size taken ino = record {
    lent = lent;
    some = some;
    still = subst (λ (b : ℕ). AllByRecursion (λ (c : ℕ × CellValue). IsStill b c.1.state) cells) same_block p.still;
    few_bytes = omega (arith, same_block, few);
    passed = subst (λ (b : ℕ). refusal b (nodes_in cells) (blank_call u) ≡ passes) same_block p.passed;
    something = p.something;
    number = subst (HasNumberFor cells (makes u)) (sym ino) p.number;
    count = taken.count
        ∙ omega (arith, ap (λ (bs : List BlockValue). length bs) blocks, no_data)
        ∙ subst (λ (b : ℕ). wanted ≡ blocks_taken b (nodes_in cells) (has_page_in cells) u) same_block p.wants;
    size = taken.size ∙ size ∙ p.hand_is.«data» ∙ same_block;
    small = taken.small (subst AreSmall (sym blocks) (none_small hand.«data».blocks no_data));
  }

  -- where it wants no data block, it can be made ready at once
  pub can_at_once : wanted ≡ 0 → CanReady cells hand u
  can_at_once nil =
      can_ready hand.«data» hand refl refl
      (record { count = omega (arith, nil); size = refl; room = omega (arith, nil); small = λ small. small }) refl

  pub pages_fit : (after : Hand) (pages : ℕ) → pages ≡ pages_wanted cells (planned_by cells after u)
      → pages ≤ length after.«data».blocks + 24 → length after.«data».blocks ≡ wanted → after.ino ≡ hand.ino
      → pages ≤ pages_at_most wanted cells hand u
  pages_fit after pages is most count ino = go (wanted == 0) refl where
    go : (nil : Bool) → (wanted == 0) ≡ nil → pages ≤ cond nil (pages_wanted cells (planned_by cells hand u)) (wanted + 24)
    go true q =
        let none : after.«data».blocks ≡ hand.«data».blocks =
        no_blocks after.«data».blocks (omega (arith, count, eqb-true wanted 0 q)) ∙ sym (no_blocks hand.«data».blocks no_data) in
        omega (arith, is, ap (pages_wanted cells) (planned_alike cells after hand u ino none))
    go false q = omega (arith, most, count)
