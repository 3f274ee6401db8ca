-- What a call is made ready with, where it passed its check and holds the blocks that it takes.
use Rattle.std.proofs.Common.{◌≡◌, ℕ, ◌^◌, ◌<◌, ◌≤◌, List, length, Option, arith, ap, subst, sym, ◌∙◌}
use Rattle.std.specs.List.{AllByRecursion, sum_by}
use Rattle.std.proofs.lemmas.List.{length-map}
use Rattle.nv_alloc.specs.Block.{BlockValue, numbers_of}
use Rattle.nv_alloc.specs.Queue.{QueueValue}
use Rattle.nv_alloc.specs.declared.hand.Hand.{Hand}
use Rattle.nv_base.specs.declared.numbers.Handle.{Handle}
use Rattle.nv_entry.specs.declared.item.Item.{Item}
use Rattle.nv_entry.specs.Sound.{blocks_of}
use Rattle.nv_cell.specs.Cell.{CellValue}
use Rattle.nv_cell.specs.Effects.{BindOne}
use Rattle.nv_calls.specs.Cells.{ino_at, no_cell, state_at}
use Rattle.nv_calls.specs.Nodes.{block_in, has_page_in, nodes_in}
use Rattle.nv_calls.specs.Plan.{AreMaximal, block_runs_of}
use Rattle.nv_calls.specs.Prepared.{AreReady, CanReady, HasLogPages, HasNoLessRoom, HaveNoLessRoom, HoldsTheSame, IsReadyBy, IsStill, handle_made_by, planned_by, plans_by, taken_by}
use Rattle.nv_calls.specs.Ready.{CellCommitValue, ReadyValue, need_of}
use Rattle.nv_calls.specs.Slots.{items_for}
use Rattle.nv_calls.specs.Steps.{HaveBlocks}
use Rattle.nv_calls.specs.Updates.{blank_call, blocks_taken}
use Rattle.nv_calls.specs.declared.update.Update.{Update}
use Rattle.nv_calls.proofs.CellCommits.{all_at}
use Rattle.nv_calls.proofs.LogPages.{pages_by_plans}
use Rattle.nv_calls.proofs.Fitting.{AreFit, none_fit, plan_fits}
use Rattle.nv_calls.proofs.PlansByCell.{fit_have, few_entries, items_all, plans_all}

pub still_at : (cells : List (ℕ × CellValue)) (k : ℕ) → AllByRecursion (λ (c : ℕ × CellValue). IsStill (block_in cells) c.1.state) cells
    → k < length cells → (state_at cells k).chain.tail ≡ length (state_at cells k).chain.entries
still_at cells k still lt = (all_at (λ (c : ℕ × CellValue). IsStill (block_in cells) c.1.state) cells no_cell k still lt).settled

module _ (cells : List (ℕ × CellValue)) (hand : Hand) (u : Update) (can : CanReady cells hand u) (some_bytes : 0 < block_in cells)
    (maximal : AreMaximal (block_runs_of (numbers_of hand.«data».blocks)))
    (are : blocks_of (block_runs_of (numbers_of hand.«data».blocks)) ≡ numbers_of hand.«data».blocks) where
  wanted : length (blocks_of (taken_by cells hand u).runs)
      ≡ blocks_taken (block_in cells) (nodes_in cells) (has_page_in cells) u
  wanted = ap (λ (xs : List ℕ). length xs) are ∙ length-map hand.«data».blocks _ ∙ can.count

  items_fit : (ino : ℕ) → AreFit (numbers_of hand.«data».blocks) (items_for (planned_by cells hand u) ino)
  items_fit ino =
      subst (λ (xs : List ℕ). AreFit xs (items_for (planned_by cells hand u) ino)) are
      (items_all (AreFit (blocks_of (taken_by cells hand u).runs)) (planned_by cells hand u) ino
      (none_fit (blocks_of (taken_by cells hand u).runs))
      (plan_fits (block_in cells) (nodes_in cells) (taken_by cells hand u) some_bytes maximal _ (blank_call u) can.passed wanted))

  pub planned_one : AllByRecursion (λ (p : CellCommitValue). BindOne p.items) (plans_by cells hand u)
  planned_one = plans_all (λ (n : ℕ) (items : List Item). BindOne items) (planned_by cells hand u) cells
      (λ k lt. (items_fit (ino_at cells k)).one)

  pub planned_few : sum_by (λ (p : CellCommitValue). length p.items) (plans_by cells hand u) < 2 ^ 32
  planned_few = few_entries (planned_by cells hand u) cells can.lent.few (λ ino. (items_fit ino).few)

  pub planned_blocks : (now : QueueValue) → now.size ≡ hand.«data».size → now.blocks ≡ hand.«data».blocks
      → AllByRecursion (λ (p : CellCommitValue). HaveBlocks p.items (block_in cells) now) (plans_by cells hand u)
  planned_blocks now size blocks =
      plans_all (λ (n : ℕ) (items : List Item). HaveBlocks items (block_in cells) now) (planned_by cells hand u) cells
      (λ k lt. fit_have (items_for (planned_by cells hand u) (ino_at cells k)) (block_in cells) now (size ∙ can.size)
      (subst (λ (bs : List BlockValue). AreFit (numbers_of bs) (items_for (planned_by cells hand u) (ino_at cells k))) (sym blocks)
      (items_fit (ino_at cells k))))

-- a hand with more room holds the same
holds_the_same : (old new : Hand) → HasNoLessRoom old new → HoldsTheSame old new
holds_the_same old new more = record {
  same = more.same ∙ ap (λ (q : QueueValue). record old { «data» = q }) (sym (ap (λ (h : Hand). h.«data») more.same));
  numbers = ap (λ (h : Hand). numbers_of h.«data».blocks) more.same;
  size = ap (λ (h : Hand). h.«data».size) more.same;
  room = more.room;
}

-- what is put together is ready, where its parts are
pub ready_is : (cells now : List (ℕ × CellValue)) (hand : Hand) (u : Update) (made : Option Handle) (plans : List CellCommitValue)
    (left : Hand)
    (need : ℕ) (ready : ReadyValue) → ready.update ≡ u → ready.made ≡ made → ready.plans ≡ plans → ready.hand ≡ left → ready.need ≡ need
    → made ≡ handle_made_by cells hand.ino u
    → AreMaximal (taken_by cells hand u).runs × (blocks_of (taken_by cells hand u).runs ≡ numbers_of hand.«data».blocks)
    → plans ≡ plans_by cells hand u
    → 0 < block_in cells
    → HasNoLessRoom hand left
    → AreReady now plans
    → need ≡ need_of now plans
    → need ≤ left.«data».room
    → AllByRecursion (λ (p : CellCommitValue). HaveBlocks p.items (block_in cells) left.«data») plans
    → sum_by (λ (p : CellCommitValue). length p.items) plans < 2 ^ 32
    → HasLogPages cells hand u
    → HaveNoLessRoom cells now
    → IsReadyBy cells hand u now ready
ready_is cells now hand u made plans left need ready eu em ep eh en made_is runs plans_are some_bytes more are need_is room blocks few has
    same =
    let h : left ≡ ready.hand = sym eh in
    let p : plans ≡ ready.plans = sym ep in
    record {
      update = eu;
      made = em ∙ made_is;
      maximal = runs.0;
      whole = runs.1;
      plans = ep ∙ plans_are;
      some_bytes = some_bytes;
      hand_same = subst (HoldsTheSame hand) h (holds_the_same hand left more);
      cells_ready = subst (AreReady now) p are;
      need = en ∙ need_is ∙ ap (need_of now) p;
      room = subst (λ (x : Hand). ready.need ≤ x.«data».room) h (omega (arith, en, room));
      blocks = subst (λ (x : Hand). AllByRecursion (λ (q : CellCommitValue). HaveBlocks q.items (block_in cells) x.«data») ready.plans) h
          (subst (AllByRecursion (λ (q : CellCommitValue). HaveBlocks q.items (block_in cells) left.«data»)) p blocks);
      few = subst (λ (ps : List CellCommitValue). sum_by (λ (q : CellCommitValue). length q.items) ps < 2 ^ 32) p few;
      page_size = ap (λ (x : Hand). x.pages.size) (eh ∙ more.same) ∙ has.size;
      pages = omega (
        arith,
        pages_by_plans cells now hand u ready.plans same (ep ∙ plans_are),
        ap (λ (x : Hand). length x.pages.blocks) (eh ∙ more.same),
        has.enough,
      );
      chain = ap (λ (x : Hand). length x.chain) (eh ∙ more.same) ∙ has.chain;
    }
