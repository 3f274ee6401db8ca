-- What is ready can be filled, and stays ready then.
use Rattle.std.proofs.Common.{◌≡◌, ℕ, suc, ◌==◌, Bool, true, false, cond, List, [], ◌∷◌, Option, Some, None, length, take, arith, refl, ap, ap₂, subst, sym, ◌∙◌}
use Rattle.std.specs.Prelude.{option_and_then, option_map, unwrap_or}
use Rattle.std.specs.List.{AllByRecursion}
use Rattle.std.proofs.Math.Path.{fun_ext}
use Rattle.std.proofs.lemmas.List.{length-map, take-map}
use Rattle.nv_alloc.specs.Block.{BlockValue, number_of, numbers_of}
use Rattle.nv_alloc.specs.Queue.{QueueValue}
use Rattle.nv_alloc.specs.declared.hand.Hand.{Hand}
use Rattle.nv_base.specs.declared.numbers.Handle.{Handle}
use Rattle.nv_entry.specs.declared.item.Item.{Item}
use Rattle.nv_entry.specs.declared.node.NodeCopy.{NodeCopy}
use Rattle.nv_cell.specs.Cell.{CellState, CellValue}
use Rattle.nv_cell.specs.Pages.{block_at_page, slot_bytes}
use Rattle.nv_calls.specs.AllCalls.{refusal}
use Rattle.nv_calls.specs.Cells.{no_cell}
use Rattle.nv_calls.specs.FillPages.{CanFill, HasOtherBytes, filled, filled_by, page_in, pages_over, sourced, with_blocks}
use Rattle.nv_calls.specs.Nodes.{block_in, cell_has_page, cell_of, has_page_in, nodes_in, own_node, plain_nodes}
use Rattle.nv_calls.specs.Plain.{PlainNode, node_in}
use Rattle.nv_calls.specs.Prepared.{CanReady, HasNoLessRoom, HaveNoLessRoom, IsReadyBy, IsStill}
use Rattle.nv_calls.specs.Ready.{CellCommitValue, ReadyValue}
use Rattle.nv_calls.specs.Steps.{HaveBlocks, numbers_in}
use Rattle.nv_calls.specs.Updates.{blank_call, blocks_taken}
use Rattle.nv_calls.specs.declared.update.Update.{Update}
use Rattle.nv_calls.proofs.CellCommits.{all_at, all_by}
use Rattle.nv_calls.proofs.PlannedAlike.{all_map}

-- ---- cells with more room hold the same nodes

abbrev pub state_found : Option CellValue → Option CellState
state_found found = option_map (λ (c : CellValue). c.state) found

pub found_same : (old new : List (ℕ × CellValue)) (ino : ℕ) → HaveNoLessRoom old new
    → state_found (cell_of new ino) ≡ state_found (cell_of old ino)
found_same [] [] ino more = refl
found_same [] (y ∷ new) ino more = absurd (omega (arith, more.count))
found_same (x ∷ old) [] ino more = absurd (omega (arith, more.count))
found_same (x ∷ old) (y ∷ new) ino more =
    ap (λ (n : ℕ). state_found (cond (n == ino) (Some y.1) (cell_of new ino))) (more.inos 0)
    ∙ both (x.0 == ino) (found_same old new ino rest)
  where
    rest : HaveNoLessRoom old new
    rest = record {
      count = omega (arith, more.count);
      inos = λ k. more.inos (suc k);
      states = λ k. more.states (suc k);
      rooms = λ k. more.rooms (suc k);
    }

    both : (b : Bool) → state_found (cell_of new ino) ≡ state_found (cell_of old ino)
        → state_found (cond b (Some y.1) (cell_of new ino)) ≡ state_found (cond b (Some x.1) (cell_of old ino))
    both true h = ap (λ (s : CellState). Some s) (more.states 0)
    both false h = h

by_state : {X : Type 0} (f : CellState → Option X) (found : Option CellValue)
    → option_and_then (λ (c : CellValue). f c.state) found ≡ option_and_then f (state_found found)
by_state f None = refl
by_state f (Some c) = refl

page_by_state : (page : ℕ) (found : Option CellValue)
    → unwrap_or (option_map (λ (c : CellValue). cell_has_page page c.state) found) false
    ≡ unwrap_or (option_map (cell_has_page page) (state_found found)) false
page_by_state page None = refl
page_by_state page (Some c) = refl

module _ (old new : List (ℕ × CellValue)) (more : HaveNoLessRoom old new) where
  plain_same : (handle : Handle) → plain_nodes new handle ≡ plain_nodes old handle
  plain_same handle =
      by_state (λ (s : CellState). own_node s handle) (cell_of new handle.ino)
      ∙ ap (option_and_then (λ (s : CellState). own_node s handle)) (found_same old new handle.ino more)
      ∙ sym (by_state (λ (s : CellState). own_node s handle) (cell_of old handle.ino))

  plain_are : plain_nodes new ≡ plain_nodes old
  plain_are = fun_ext plain_same

  pub same_nodes : nodes_in new ≡ nodes_in old
  same_nodes = ap (λ (nodes : Handle → Option PlainNode). node_in nodes) plain_are

  page_same : (handle : Handle) (page : ℕ) → has_page_in new handle page ≡ has_page_in old handle page
  page_same handle page =
      page_by_state page (cell_of new handle.ino)
      ∙ ap (λ (found : Option CellState). unwrap_or (option_map (cell_has_page page) found) false) (found_same old new handle.ino more)
      ∙ sym (page_by_state page (cell_of old handle.ino))

  pages_of_one : (handle : Handle) → has_page_in new handle ≡ has_page_in old handle
  pages_of_one handle = fun_ext (page_same handle)

  pub same_pages : has_page_in new ≡ has_page_in old
  same_pages = fun_ext pages_of_one

  bytes_of_page : (block : ℕ) (file : Handle) (page : ℕ) → page_in new block file page ≡ page_in old block file page
  bytes_of_page block file page =
      ap (slot_bytes block) (by_state (λ (s : CellState). block_at_page s page) (cell_of new file.ino)
      ∙ ap (option_and_then (λ (s : CellState). block_at_page s page)) (found_same old new file.ino more)
      ∙ sym (by_state (λ (s : CellState). block_at_page s page) (cell_of old file.ino)))

  -- and the same bytes in the pages of their files
  pub same_bytes : (block : ℕ) → page_in new block ≡ page_in old block
  same_bytes block = fun_ext (λ (file : Handle). fun_ext (λ (page : ℕ). bytes_of_page block file page))

-- ---- blocks with other bytes

-- the front blocks have the numbers that they had
same_front : (n : ℕ) (old new : List BlockValue) → numbers_of new ≡ numbers_of old → numbers_of (take n new) ≡ numbers_of (take n old)
same_front n old new same = sym (take-map number_of n new) ∙ ap (take n) same ∙ take-map number_of n old

pub as_many_blocks : (old new : List BlockValue) → numbers_of new ≡ numbers_of old → length new ≡ length old
as_many_blocks old new same =
    omega (arith, ap (λ (numbers : List ℕ). length numbers) same, length-map new number_of, length-map old number_of)

module _ (cells now : List (ℕ × CellValue)) (hand : Hand) (u : Update) (ready : ReadyValue) (is : IsReadyBy cells hand u now ready) where
  -- what is ready stays so with other bytes in its blocks
  pub stays_ready : (blocks : QueueValue) → HasOtherBytes ready.hand.«data» blocks → IsReadyBy cells hand u now (with_blocks blocks ready)
  stays_ready blocks other = record {
    update = is.update;
    made = is.made;
    maximal = is.maximal;
    whole = is.whole;
    plans = is.plans;
    some_bytes = is.some_bytes;
    hand_same = record {
      same = ap (λ (h : Hand). record h { «data» = blocks }) is.hand_same.same;
      numbers = other.numbers ∙ is.hand_same.numbers;
      size = other.size ∙ is.hand_same.size;
      room = omega (arith, is.hand_same.room, other.room);
    };
    cells_ready = is.cells_ready;
    need = is.need;
    room = omega (arith, is.room, other.room);
    blocks = all_map (λ (p : CellCommitValue). HaveBlocks p.items (block_in cells) ready.hand.«data»)
        (λ (p : CellCommitValue). HaveBlocks p.items (block_in cells) blocks) (λ p have. still_have p.items have) ready.plans is.blocks;
    few = is.few;
    page_size = is.page_size;
    pages = is.pages;
    chain = is.chain;
  } where
    still_have : (items : List Item) → HaveBlocks items (block_in cells) ready.hand.«data» → HaveBlocks items (block_in cells) blocks
    still_have items have = record {
      size = other.size ∙ have.size;
      numbers = same_front (length (numbers_in items)) ready.hand.«data».blocks blocks.blocks other.numbers ∙ have.numbers;
      within = have.within;
    }

  -- and can be filled over its cells
  module _ (can : CanReady cells hand u) (more : HaveNoLessRoom cells now) where
    sized : ready.hand.«data».size ≡ block_in cells
    sized = is.hand_same.size ∙ can.size

    still : AllByRecursion (λ (c : ℕ × CellValue). c.1.state.block ≡ ready.hand.«data».size) now
    still = all_by (λ (c : ℕ × CellValue). c.1.state.block ≡ ready.hand.«data».size) now no_cell
        (λ k lt. ap (λ (s : CellState). s.block) (more.states k)
        ∙ (all_at (λ (c : ℕ × CellValue). IsStill (block_in cells) c.1.state) cells no_cell k can.still
        (omega (arith, lt, more.count))).size
        ∙ sym sized)

    pub can_fill : CanFill now ready.update ready.hand.«data»
    can_fill = subst (λ (v : Update). CanFill now v ready.hand.«data») (sym is.update) (record {
      few = omega (arith, can.lent.few, more.count);
      some_bytes = omega (arith, is.some_bytes, sized);
      few_bytes = omega (arith, can.few_bytes, sized);
      sizes = still;
      passed = ap₂ (λ (block : ℕ) (nodes : Handle → Option NodeCopy). refusal block nodes (blank_call u)) sized
          (same_nodes cells now more) ∙ can.passed;
      count = as_many_blocks hand.«data».blocks ready.hand.«data».blocks is.hand_same.numbers ∙ can.count
          ∙ sym (ap (λ (has_page : Handle → ℕ → Bool). blocks_taken ready.hand.«data».size (nodes_in now) has_page u)
          (same_pages cells now more)
          ∙ ap₂ (λ (block : ℕ) (nodes : Handle → Option NodeCopy). blocks_taken block nodes (has_page_in cells) u) sized
          (same_nodes cells now more));
    })

-- ---- filled

-- by the hand that a call was made ready with, it is filled with the same pages
pub pages_filled : (hand : Hand) (u : Update) (ready : ReadyValue) → ready.update ≡ u → HasNoLessRoom hand ready.hand
    → (cells now : List (ℕ × CellValue)) (byte_at : ℕ → ℕ) (blocks : List BlockValue) → HaveNoLessRoom cells now
    → blocks ≡ filled_by now byte_at ready.update ready.hand.«data» → blocks ≡ filled_by cells byte_at u hand.«data»
pages_filled hand u ready same more cells now byte_at blocks rooms pages =
    pages
    ∙ ap (λ (v : Update). filled_by now byte_at v ready.hand.«data») same
    ∙ ap (λ (h : Hand). filled_by now byte_at u h.«data») more.same
    ∙ ap (λ (old : Handle → ℕ → List ℕ). filled (pages_over hand.«data».size old (sourced byte_at u)) hand.«data».blocks)
    (same_bytes cells now rooms hand.«data».size)
