-- The plan of a call whose blocks are filled fits its effect.
use Rattle.std.proofs.Common.{◌≡◌, ℕ, ◌/◌, ◌<◌, ◌≤◌, ◌^◌, ◌&&◌, ◌==◌, nat_lt, Bool, true, false, cond, List, [], ◌∷◌, Option, Some, None, length, arith, refl, ap, ap₂, subst, sym, ◌∙◌}
use Rattle.std.specs.Prelude.{is_some, option_map, unwrap_or}
use Rattle.std.specs.List.{AllByRecursion}
use Rattle.std.proofs.Math.Path.{fun_ext}
use Rattle.std.proofs.lemmas.Bool.{ltb-false}
use Rattle.std.proofs.lemmas.List.FromFn.{length-map-range_with_len}
use Rattle.nv_alloc.specs.Block.{BlockValue, numbers_of}
use Rattle.nv_alloc.specs.declared.hand.Hand.{Hand}
use Rattle.nv_base.specs.declared.numbers.Handle.{Handle}
use Rattle.nv_cell.specs.Cell.{CellState, CellValue}
use Rattle.nv_entry.specs.Node.{block_now, node_now}
use Rattle.nv_entry.specs.Sound.{IsSound, MakesAll}
use Rattle.nv_entry.specs.declared.node.NodeCopy.{NodeCopy}
use Rattle.nv_entry.proofs.PageBytes.{pages_for-most}
use Rattle.nv_calls.specs.AllCalls.{IsReady, blocks_wanted, effect, ends_in_page, plan, present_in, refusal}
use Rattle.nv_calls.specs.FillPages.{filled, fresh_pages, sourced}
use Rattle.nv_calls.specs.Filled.{AreFilled, HavePages}
use Rattle.nv_calls.specs.Filling.{text_part}
use Rattle.nv_calls.specs.Locked.{handles_made_by as made_handles}
use Rattle.nv_calls.specs.Nodes.{HaveBytes, block_in, cell_of, has_page_in, nodes_in, plain_nodes, slot_by, slots_by}
use Rattle.nv_calls.specs.Plain.{Change, PlainNode, node_in, stamped}
use Rattle.nv_calls.specs.Plan.{AllFit}
use Rattle.nv_calls.specs.Prepared.{CanReady, HasNumberFor, HaveNoLessRoom, IsReadyBy, handle_in, makes, no_handle, planned_by, taken_by}
use Rattle.nv_calls.specs.PublishedSlots.{AreOfSlots}
use Rattle.nv_calls.specs.Ready.{ReadyValue}
use Rattle.nv_calls.specs.Refusals.{passes}
use Rattle.nv_calls.specs.Slots.{IsFree, IsPlan, IsPlanned, InodeSlot, last_commit, node_under}
use Rattle.nv_calls.specs.Updates.{blank_call, text_len}
use Rattle.nv_calls.specs.Views.{slot_of}
use Rattle.nv_calls.specs.declared.call.Call.{Call}
use Rattle.nv_calls.specs.declared.plan.InodePlan.{InodePlan}
use Rattle.nv_calls.specs.declared.allocation.Allocation.{Allocation}
use Rattle.nv_calls.specs.declared.update.Update.{Update}
use Rattle.nv_calls.specs.declared.update.Update.TheVariants as update
use Rattle.nv_calls.proofs.FillPages.{filled_numbers}
use Rattle.nv_calls.proofs.Filled.{HasSlot, is_ready}
use Rattle.nv_calls.proofs.NodesHeld.{nodes_are, pages_are}
use Rattle.nv_calls.proofs.Passed.{IsThere, file_passed}
use Rattle.nv_calls.proofs.PlannedAlike.{IsNew, all_map, made_new}
use Rattle.nv_calls.proofs.PlannedHeld.{all_held, cell_place, has_cell}
use Rattle.nv_calls.proofs.Refilled.{as_many_blocks, found_same, same_nodes, same_pages, state_found}
use Rattle.nv_calls.proofs.Standing.{stands}
use Rattle.nv_calls.proofs.TextLengths.{same_plan}
use Rattle.nv_calls.proofs.fits.All.{call_fits}

-- ---- other slots that are the same for what is planned

abbrev IsSame : (ℕ → InodeSlot) → (ℕ → InodeSlot) → ℕ → Type 0
IsSame one other ino = other ino ≡ one ino

module _ (bytes : ℕ → List ℕ) (block : ℕ) (one other : ℕ → InodeSlot) where
  node_same : (handle : Handle) → IsSame one other handle.ino
      → node_in (node_under bytes block one) handle ≡ node_in (node_under bytes block other) handle
  node_same handle same =
      ap (λ (s : InodeSlot). option_map (λ (p : PlainNode). p.node)
      (cond (handle.generation == s.generation) (stamped (last_commit s.log) (node_now bytes block s.log)) None)) (sym same)

  planned_same : (plan : List InodePlan) → AllByRecursion (λ (p : InodePlan). IsSame one other p.handle.ino) plan
      → AllByRecursion (IsPlanned one) plan → AllByRecursion (IsPlanned other) plan
  planned_same [] same all = tt
  planned_same (p ∷ plan) same all = (
    record { some = all.0.some; own = all.0.own ∙ ap (λ (s : InodeSlot). s.generation) (sym same.0) },
    planned_same plan same.1 all.1,
  )

  fit_same : (plan : List InodePlan) (effect : List Change) → AllByRecursion (λ (p : InodePlan). IsSame one other p.handle.ino) plan
      → AllFit bytes block (node_in (node_under bytes block one)) plan effect
      → AllFit bytes block (node_in (node_under bytes block other)) plan effect
  fit_same [] [] same fit = tt
  fit_same [] (c ∷ effect) same fit = fit
  fit_same (p ∷ plan) [] same fit = fit
  fit_same (p ∷ plan) (c ∷ effect) same fit = (
    record {
      same = fit.0.same;
      makes = subst (λ (node : Option NodeCopy). MakesAll bytes block p.items node (c.becomes node)) (node_same p.handle same.0)
          fit.0.makes;
    },
    fit_same plan effect same.1 fit.1,
  )

  plan_same : (plan : List InodePlan) (effect : List Change) → AllByRecursion (λ (p : InodePlan). IsSame one other p.handle.ino) plan
      → IsPlan bytes block one plan effect → IsPlan bytes block other plan effect
  plan_same plan effect same is = record { all = planned_same plan same is.all; fit = fit_same plan effect same is.fit }

-- ---- blocks with the same numbers

small_same : (old new : List BlockValue) → numbers_of new ≡ numbers_of old → AllByRecursion (λ (b : BlockValue). b.number < 2 ^ 32) old
    → AllByRecursion (λ (b : BlockValue). b.number < 2 ^ 32) new
small_same [] [] same all = tt
small_same [] (y ∷ new) same all = cc
small_same (x ∷ old) [] same all = tt
small_same (x ∷ old) (y ∷ new) same all =
    let first : y.number ≡ x.number = cc in
    let rest : numbers_of new ≡ numbers_of old = cc in
    (omega (arith, all.0, first), small_same old new rest all.1)

-- ---- slots of cells with more room

pub slots_as : (old new : List (ℕ × CellValue)) → HaveNoLessRoom old new → slots_by new ≡ slots_by old
slots_as old new more =
    fun_ext (λ (ino : ℕ). by_state (cell_of new ino) ∙ ap slot_in (found_same old new ino more) ∙ sym (by_state (cell_of old ino)))
  where
    slot_in : Option CellState → InodeSlot
    slot_in None = record { generation = 0; log = [] }
    slot_in (Some s) = slot_of s

    by_state : (found : Option CellValue) → slot_by found ≡ slot_in (state_found found)
    by_state None = refl
    by_state (Some c) = refl

module _ (bytes : ℕ → List ℕ) (cells now : List (ℕ × CellValue)) (hand : Hand) (u : Update) (ready : ReadyValue) (byte_at : ℕ → ℕ)
    (blocks : List BlockValue) (can : CanReady cells hand u) (more : HaveNoLessRoom cells now) (is : IsReadyBy cells hand u now ready)
    (have : HaveBytes bytes (block_in cells) now) (sounds : (ino : ℕ) → IsSound bytes (block_in cells) (slots_by now ino).log)
    (pages : HavePages bytes now byte_at ready blocks) where
  abbrev block : ℕ
  block = block_in cells

  abbrev slots : ℕ → InodeSlot
  slots = slots_by cells

  abbrev nodes : Handle → Option NodeCopy
  nodes = nodes_in cells

  abbrev taken : Allocation
  taken = taken_by cells hand u

  abbrev c : Call
  c = sourced byte_at u

  sound : (ino : ℕ) → IsSound bytes block (slots ino).log
  sound = subst (λ (s : ℕ → InodeSlot). (ino : ℕ) → IsSound bytes block (s ino).log) (slots_as cells now more) sounds

  under_is : plain_nodes now ≡ node_under bytes block (slots_by now)
  under_is = fun_ext (λ (handle : Handle). nodes_are bytes block now handle have)

  nodes_is : node_in (node_under bytes block slots) ≡ nodes
  nodes_is =
      ap (λ (s : ℕ → InodeSlot). node_in (node_under bytes block s)) (sym (slots_as cells now more))
      ∙ ap (λ (n : Handle → Option PlainNode). node_in n) (sym under_is)
      ∙ same_nodes cells now more

  text_is : length (text_part byte_at 0 (text_len u)) ≡ text_len u
  text_is = length-map-range_with_len byte_at 0 (text_len u)

  passed : refusal block nodes c ≡ passes
  passed = (same_plan block nodes (has_page_in cells) taken u (text_part byte_at 0 (text_len u)) text_is).refusal ∙ can.passed

  planned_is : plan block nodes taken c ≡ planned_by cells hand u
  planned_is = (same_plan block nodes (has_page_in cells) taken u (text_part byte_at 0 (text_len u)) text_is).plan

  -- ---- what was taken

  free_by : (number : Option ℕ) → HasNumberFor cells true number → IsFree slots (unwrap_or (option_map (handle_in cells) number) no_handle)
  free_by None has = absurd has
  free_by (Some ino) has = record { empty = has.empty; own = refl }

  -- a page past the last that a file can have is not present
  present_is : (file : Handle) (page : ℕ) → IsThere (nodes file)
      → (nat_lt page 65536 && has_page_in cells file page) ≡ is_some (block_now block (slots file.ino).log page)
  present_is file page there = go (nat_lt page 65536) refl where
    held : has_page_in cells file page ≡ is_some (block_now block (slots file.ino).log page)
    held =
        ap (λ (has_page : Handle → ℕ → Bool). has_page file page) (sym (same_pages cells now more))
        ∙ pages_are bytes block now file page have
        ∙ ap (λ (s : ℕ → InodeSlot). is_some (block_now block (s file.ino).log page)) (slots_as cells now more)

    past : 65536 ≤ page → (found : Option ℕ) → block_now block (slots file.ino).log page ≡ found → false ≡ is_some found
    past far None q = refl
    past far (Some number) q =
        let st = stands bytes block slots file
        (record { node = there.node; is = ap (λ (n : Handle → Option NodeCopy). n file) nodes_is ∙ there.is }) (sound file.ino) in
        let few = pages_for-most block there.node.size 65536 is.some_bytes st.fits in
        absurd (omega (arith, far, few, st.within page number q))

    go : (b : Bool) → nat_lt page 65536 ≡ b → (b && has_page_in cells file page) ≡ is_some (block_now block (slots file.ino).log page)
    go true q = held
    go false q = past (ltb-false page 65536 q) (block_now block (slots file.ino).log page) refl

  free : (v : Update) → v ≡ u → HasSlot slots (taken_by cells hand v) (sourced byte_at v)
  free (update.Create dir name mode) e = free_by hand.ino (subst (λ (w : Update). HasNumberFor cells (makes w) hand.ino) (sym e) can.number)
  free (update.Mkdir dir name mode) e = free_by hand.ino (subst (λ (w : Update). HasNumberFor cells (makes w) hand.ino) (sym e) can.number)
  free (update.Size file size) e = tt
  free (update.Write file offset count) e = tt
  free (update.Mode handle mode) e = tt
  free (update.Unlink dir name) e = tt
  free (update.Rmdir dir name) e = tt
  free (update.Rename dir name to other) e = tt

  present : (v : Update) → v ≡ u → ends_in_page (has_page_in cells) block (blank_call v) ≡ present_in block slots (sourced byte_at v)
  present (update.Size file size) e =
      let f = (file_passed (nodes file) _ (subst (λ (w : Update). refusal block nodes (blank_call w) ≡ passes) (sym e) can.passed)).0 in
      present_is file (size / block) (record { node = f.node; is = f.is })
  present (update.Create dir name mode) e = refl
  present (update.Mkdir dir name mode) e = refl
  present (update.Write file offset count) e = refl
  present (update.Mode handle mode) e = refl
  present (update.Unlink dir name) e = refl
  present (update.Rmdir dir name) e = refl
  present (update.Rename dir name to other) e = refl

  -- ---- what was filled

  numbers_same : numbers_of blocks ≡ numbers_of hand.«data».blocks
  numbers_same =
      ap numbers_of pages.filled
      ∙ filled_numbers (fresh_pages ready.hand.«data».size (nodes_in now) (sourced byte_at ready.update)) ready.hand.«data».blocks
      ∙ is.hand_same.numbers

  are_filled : AreFilled block nodes (present_in block slots c) c blocks
  are_filled = record {
    before = ready.hand.«data».blocks;
    is = pages.filled
        ∙ ap (λ (size : ℕ). filled (fresh_pages size (nodes_in now) (sourced byte_at ready.update)) ready.hand.«data».blocks)
        (is.hand_same.size ∙ can.size)
        ∙ ap₂ (λ (n : Handle → Option NodeCopy) (v : Update). filled (fresh_pages block n (sourced byte_at v)) ready.hand.«data».blocks)
        (same_nodes cells now more) is.update;
    count = as_many_blocks hand.«data».blocks blocks numbers_same ∙ can.count
        ∙ sym ((same_plan block nodes (has_page_in cells) taken u (text_part byte_at 0 (text_len u)) text_is).wanted
        (ends_in_page (has_page_in cells) block (blank_call u)))
        ∙ ap (λ (b : Bool). blocks_wanted block nodes b c) (present u refl);
    small = small_same hand.«data».blocks blocks numbers_same can.small;
  }

  made_ready : IsReady bytes block slots nodes taken c
  made_ready =
      is_ready bytes block slots nodes taken blocks pages.read is.maximal (is.whole ∙ sym numbers_same) c (free u refl) are_filled

  -- in the slots of the cells
  fits_own : IsPlan bytes block slots (planned_by cells hand u) (effect nodes taken.made c)
  fits_own =
      subst (λ (p : List InodePlan). IsPlan bytes block slots p (effect nodes taken.made c)) planned_is
      (subst (λ (n : Handle → Option NodeCopy). IsPlan bytes block slots (plan block n taken c) (effect n taken.made c)) nodes_is
      (call_fits bytes block slots taken is.some_bytes sound c
      (subst (λ (n : Handle → Option NodeCopy). refusal block n c ≡ passes) (sym nodes_is) passed)
      (subst (λ (n : Handle → Option NodeCopy). IsReady bytes block slots n taken c) (sym nodes_is) made_ready)))

  -- and in any that these are of
  module _ (all_slots : ℕ → InodeSlot) (are : AreOfSlots now all_slots) where
    lent_same : (ino : ℕ) (cell : CellValue) → cell_of cells ino ≡ Some cell → IsSame slots all_slots ino
    lent_same ino cell found =
        let p = cell_place cells ino cell found in
        ap all_slots (sym (more.inos p.0 ∙ p.2))
        ∙ are p.0 (omega (arith, p.1, more.count))
        ∙ ap slot_of (more.states p.0 ∙ ap (λ (v : CellValue). v.state) p.3)
        ∙ sym (ap slot_by found)

    all_same : AllByRecursion (λ (p : InodePlan). IsSame slots all_slots p.handle.ino) (planned_by cells hand u)
    all_same =
        all_held block nodes taken (λ (handle : Handle). IsSame slots all_slots handle.ino)
        (λ handle there. let h = has_cell cells handle there in lent_same handle.ino h.cell h.is) (blank_call u) can.passed
        (all_map (IsNew cells) (λ (handle : Handle). IsSame slots all_slots handle.ino) (λ made new. lent_same made.ino new.cell new.is)
        (made_handles taken.made (blank_call u)) (made_new cells hand.ino u can.number))

    pub fits_all : IsPlan bytes block all_slots (planned_by cells hand u) (effect nodes taken.made c)
    fits_all = plan_same bytes block slots all_slots (planned_by cells hand u) (effect nodes taken.made c) all_same fits_own
