-- What a commit over lent cells does to their versions and to the number of their blocks.
use Rattle.std.proofs.Common.{◌≡◌, ℕ, zero, suc, ◌+◌, ◌<◌, ◌⊎◌, inl, inr, ◌==◌, ◌∙◌, Bool, true, false, List, [], ◌∷◌, length, refl, ap, sym, subst, arith}
use Rattle.std.specs.Prelude.{IfErr, IfOk, OnErr, Option, Some, None, Result, Ok, Err, is_some}
use Rattle.std.proofs.lemmas.Bool.{cases_lt, eqb-false, eqb-true}
use Rattle.std.proofs.Math.ListN.{length-map}
use Rattle.nv_alloc.specs.Block.{number_of}
use Rattle.nv_alloc.specs.Hand.{blocks_of}
use Rattle.nv_alloc.specs.declared.hand.Hand.{Hand}
use Rattle.nv_base.specs.declared.numbers.Handle.{Handle}
use Rattle.nv_book.specs.Book.{BookState, after_enter}
use Rattle.nv_calls.specs.CanCommit.{IsClosed}
use Rattle.nv_calls.specs.Cells.{ino_at, no_cell, state_at}
use Rattle.nv_calls.specs.Committed.{hand_left, cell_place_of, receipt_by}
use Rattle.nv_calls.specs.Prepared.{HasNoLessRoom, HaveNoLessRoom, HoldsTheSame, handle_made_by, makes, planned_by, plans_by}
use Rattle.nv_calls.specs.Ready.{CellCommitValue, ReadyValue}
use Rattle.nv_calls.specs.Slots.{items_for}
use Rattle.nv_calls.specs.declared.update.Update.{Update}
use Rattle.nv_calls.proofs.BlockCounts.{commit_count, hand_len}
use Rattle.nv_calls.proofs.CellCommits.{all_at, all_by}
use Rattle.nv_calls.proofs.PlaceSums.{same_sum, sum_to, whole_sum}
use Rattle.nv_calls.proofs.PlannedAlike.{all_map, found_for}
use Rattle.nv_calls.proofs.Versions.{committed_version}
use Rattle.nv_cell.specs.Cell.{CellState, CellValue, IsCell, block_total}
use Rattle.nv_epoch.specs.SnapList.{ids}
use Rattle.nv_sessions.specs.Changing.{AreRaised, AreWhole, IsRaised, IsReceiptOf, KeepVersions, MayBeRaised, blocks_in, handles_of, published_by}
use Rattle.nv_sessions.specs.Committing.{CommitsCells, IsReadyOver, TakeNext, next_commit}
use Rattle.nv_cell.proofs.RunFlags.{all_append}
use Rattle.nv_sessions.proofs.NamedItems.{made_named, made_where, named}
use Rattle.nv_sessions.proofs.ReadyOver.{can, placed}

-- ---- which cells are planned

is_planned : (plans : List CellCommitValue) (k n : ℕ)
    → ((j : ℕ) × (j < n) × (cell_place_of plans j ≡ k)) ⊎ ((j : ℕ) → j < n → cell_place_of plans j ≡ k → ⊥)
is_planned plans k zero = inr (λ j lt same. absurd (omega (arith, lt)))
is_planned plans k (suc n) = go (cell_place_of plans n == k) refl (is_planned plans k n) where
  go : (here : Bool) → (cell_place_of plans n == k) ≡ here
      → ((j : ℕ) × (j < n) × (cell_place_of plans j ≡ k)) ⊎ ((j : ℕ) → j < n → cell_place_of plans j ≡ k → ⊥)
      → ((j : ℕ) × (j < suc n) × (cell_place_of plans j ≡ k)) ⊎ ((j : ℕ) → j < suc n → cell_place_of plans j ≡ k → ⊥)
  go true q before = inl (n, omega arith, eqb-true (cell_place_of plans n) k q)
  go false q (inl found) = inl (found.0, omega (arith, found.1), found.2)
  go false q (inr none) =
      inr (λ j lt same. elim (cases_lt j n) [
        | inl less ↦ none j less same
        | inr ge ↦
            let last : j ≡ n = omega (arith, ge, lt) in
            eqb-false (cell_place_of plans n) k q (sym (ap (cell_place_of plans) last) ∙ same)
      ])

module _ (cells now : List (ℕ × CellValue)) (ready : ReadyValue) (r : IsReadyOver cells ready) (book : BookState)
    (changes : CommitsCells book ready cells now) where
  raised_at : (j : ℕ) → j < length ready.plans
      → (state_at now (cell_place_of ready.plans j)).version ≡ (state_at cells (cell_place_of ready.plans j)).version + 1
  raised_at j lt =
      ap (λ (s : CellState). s.version) (changes.planned j lt) ∙ committed_version (ids book.snaps) cells (next_commit book ready) j

  raised_or_not : (k : ℕ) → ((state_at now k).version ≡ (state_at cells k).version)
      ⊎ ((state_at now k).version ≡ (state_at cells k).version + 1)
  raised_or_not k = elim (is_planned ready.plans k (length ready.plans)) [
    | inl found ↦ inr (subst (λ (i : ℕ). (state_at now i).version ≡ (state_at cells i).version + 1) found.2 (raised_at found.0 found.1))
    | inr none ↦ inl (ap (λ (v : CellValue). v.state.version) (changes.others k none))
  ]

  pub may_be_raised : MayBeRaised cells now
  may_be_raised = record {
    count = changes.count;
    numbers = changes.numbers;
    least = λ k. elim (raised_or_not k) [
      | inl same ↦ omega (arith, same)
      | inr up ↦ omega (arith, up)
    ];
    most = λ k. elim (raised_or_not k) [
      | inl same ↦ omega (arith, same)
      | inr up ↦ omega (arith, up)
    ];
  }

  raised_for : (ino : ℕ) → 0 < length (items_for (planned_by r.before r.hand r.update) ino) → IsRaised cells now ino
  raised_for ino some =
      let at = found_for r.before r.hand r.update r.can ino some in
      let lt : at.0 < length ready.plans = omega (arith, at.1, ap (λ (ps : List CellCommitValue). length ps) r.is.plans) in
      let here : cell_place_of ready.plans at.0 ≡ cell_place_of (plans_by r.before r.hand r.update) at.0 =
      ap (λ (ps : List CellCommitValue). cell_place_of ps at.0) r.is.plans in
      record {
        at = cell_place_of ready.plans at.0;
        within = (placed cells ready r).within at.0 lt;
        ino_is = r.room.inos (cell_place_of ready.plans at.0) ∙ ap (ino_at r.before) here ∙ at.2;
        version = raised_at at.0 lt;
      }

  all_raised : AreRaised cells now (handles_of ready.update)
  all_raised =
      subst (λ (u : Update). AreRaised cells now (handles_of u)) (sym r.is.update)
      (all_map (λ (h : Handle). 0 < length (items_for (planned_by r.before r.hand r.update) h.ino)) (λ (h : Handle). IsRaised cells now h.ino)
      (λ h some. raised_for h.ino some) (handles_of r.update)
      (named r.before r.hand r.update r.can r.is.some_bytes r.is.whole))

  -- with the inode that it makes
  with_made : (made : Option Handle) → handle_made_by r.before r.hand.ino r.update ≡ made → AreRaised cells now (published_by ready.update made)
  with_made None is = all_raised
  with_made (Some made) is =
      all_append (λ (h : Handle). IsRaised cells now h.ino) (handles_of ready.update) (made ∷ []) all_raised
      (raised_for made.ino (made_named r.before r.hand r.update made is), tt)

  pub all_published : AreRaised cells now (published_by ready.update ready.made)
  all_published = with_made ready.made (sym r.is.made)

  pub receipt_is : IsReceiptOf ready.update (receipt_by cells (next_commit book ready))
  receipt_is = record {
    call = refl;
    made = ap (λ (o : Option Handle). is_some o) r.is.made
        ∙ made_where r.before r.hand r.update r.can
        ∙ ap makes (sym r.is.update);
  }

  pub kept_blocks : (seat cpu : ℕ) → TakeNext book cells ready → IsClosed book cpu → AreWhole cells
      → length (blocks_of (hand_left (ids book.snaps) cells (next_commit book ready))) + blocks_in now
      ≡ length (blocks_of ready.hand) + blocks_in cells
  kept_blocks seat cpu take closed whole =
      let count = commit_count cells (record { state = after_enter seat book; room = ready.need }) cpu ready
      (can cells ready r book seat cpu take closed) (ids book.snaps)
      (λ k lt. all_at (λ (c : ℕ × CellValue). IsCell c.1.state) cells no_cell k whole lt) now changes in
      omega (arith, count)

-- ---- cells that got room before

module _ (old mid : List (ℕ × CellValue)) (more : HaveNoLessRoom old mid) where
  pub same_blocks : blocks_in mid ≡ blocks_in old
  same_blocks =
      let of_cell : ℕ × CellValue → ℕ = λ c. block_total c.1.state in
      let before : ℕ → ℕ = λ k. block_total (state_at old k) in
      let after : ℕ → ℕ = λ k. block_total (state_at mid k) in
      whole_sum of_cell mid no_cell
      ∙ ap (sum_to after) more.count
      ∙ same_sum after before (length old) (λ k lt. ap block_total (more.states k))
      ∙ sym (whole_sum of_cell old no_cell)

  pub still_whole : AreWhole old → AreWhole mid
  still_whole whole =
      all_by (λ (c : ℕ × CellValue). IsCell c.1.state) mid no_cell (λ k lt.
      subst IsCell (sym (more.states k))
      (all_at (λ (c : ℕ × CellValue). IsCell c.1.state) old no_cell k whole (omega (arith, lt, more.count))))

  pub same_versions : KeepVersions old mid
  same_versions k = ap (λ (s : CellState). s.version) (more.states k)

  pub not_raised : MayBeRaised old mid
  not_raised = record {
    count = more.count;
    numbers = more.inos;
    least = λ k. omega (arith, same_versions k);
    most = λ k. omega (arith, same_versions k);
  }

  pub raised_behind : (new : List (ℕ × CellValue)) → MayBeRaised mid new → MayBeRaised old new
  raised_behind new may = record {
    count = may.count ∙ more.count;
    numbers = λ k. may.numbers k ∙ more.inos k;
    least = λ k. omega (arith, same_versions k, may.least k);
    most = λ k. omega (arith, same_versions k, may.most k);
  }

  pub all_raised_behind : (new : List (ℕ × CellValue)) (handles : List Handle) → AreRaised mid new handles → AreRaised old new handles
  all_raised_behind new handles all =
      all_map (λ (h : Handle). IsRaised mid new h.ino) (λ (h : Handle). IsRaised old new h.ino)
      (λ h is. record {
        at = is.at;
        within = omega (arith, is.within, more.count);
        ino_is = sym (more.inos is.at) ∙ is.ino_is;
        version = subst (λ (s : CellState). (state_at new is.at).version ≡ s.version + 1) (more.states is.at) is.version;
      }) handles all

-- ---- a hand that got room, or other bytes

pub room_alone : (old new : Hand) → HasNoLessRoom old new → length (blocks_of new) ≡ length (blocks_of old)
room_alone old new more = ap (λ (h : Hand). length (blocks_of h)) more.same

pub bytes_alone : (old new : Hand) → HoldsTheSame old new → length (blocks_of new) ≡ length (blocks_of old)
bytes_alone old new same =
    omega (
      arith,
      hand_len old,
      hand_len new,
      ap (λ (h : Hand). length h.pages.blocks) same.same,
      ap (λ (h : Hand). length h.chain) same.same,
      ap (λ (ns : List ℕ). length ns) same.numbers,
      length-map old.«data».blocks number_of,
      length-map new.«data».blocks number_of,
    )

-- ---- the share of a seat

pub still_counted : {A E : Type 0} (result : Result (A × Hand) E) (amount hand cells now : ℕ) → amount ≡ hand + cells
    → IfOk result (λ done. length (blocks_of done.1) + now ≡ hand + cells)
    → IfOk result (λ done. amount ≡ length (blocks_of done.1) + now)
still_counted (Ok done) amount hand cells now before is = omega (arith, before, is)
still_counted (Err refused) amount hand cells now before is = tt

pub still_returned : {A E : Type 0} (result : Result A (E × Hand)) (amount : ℕ) (hand : Hand) (mid new : List (ℕ × CellValue))
    (rest : Type 0) → amount ≡ length (blocks_of hand) + blocks_in mid → IfErr result (λ refused. refused.1 ≡ hand)
    → OnErr result ((new ≡ mid) × rest) → IfErr result (λ refused. amount ≡ length (blocks_of refused.1) + blocks_in new)
still_returned (Ok done) amount hand mid new rest before back same = tt
still_returned (Err refused) amount hand mid new rest before back same =
    omega (arith, before, ap (λ (h : Hand). length (blocks_of h)) back, ap (λ (cells : List (ℕ × CellValue)). blocks_in cells) same.0)
