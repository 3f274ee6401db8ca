-- An image whose slots are opened, as a plan sees it.
use Rattle.std.proofs.Common.{◌≡◌, ℕ, ◌-◌, ◌<◌, ◌≤◌, List, [], ◌∷◌, length, map, get_or, reverse, arith, ap, sym, subst, ◌∙◌}
use Rattle.std.proofs.lemmas.List.{get_or-map, get_or-reverse, get_or_default, length-map, length-reverse}
use Rattle.nv_audit.specs.Faults.{IsFaultless}
use Rattle.nv_audit.specs.Image.{ImageValue, SlotImageValue, no_slot, slot_of}
use Rattle.nv_base.specs.declared.fault.ImageFault.TheVariants as fault
use Rattle.nv_base.specs.declared.limits.TheConstants.{LEAST_PAGE_ENTRIES, PAGE_ENTRIES}
use Rattle.nv_cell.specs.declared.bare.BareCell.{BareCell}
use Rattle.nv_log.specs.Chain.{ChainState}
use Rattle.nv_log.specs.Image.{chain_of, image_of}
use Rattle.nv_mount.specs.Mount.{AreOpened, CanBuild, seen_cell}
use Rattle.nv_mount.specs.Plan.{IsPlanOf}
use Rattle.nv_mount.specs.Slots.{CanOpen, CanOpenAll, closed}
use Rattle.nv_mount.specs.View.{IsSeen, IsSlotSeen, SlotViewValue, ViewValue, nothing, slot_in}
use Rattle.nv_mount.specs.declared.plan.Plan.{Plan}

-- the slots of an image without a fault may be opened
pub may_open : (image : ImageValue) → IsFaultless image → LEAST_PAGE_ENTRIES ≤ image.numbers.page → image.numbers.page ≤ PAGE_ENTRIES
    → CanOpenAll image.numbers.page image.slots
may_open image faultless least most k d lt =
    subst (CanOpen image.numbers.page) (get_or_default image.slots k no_slot d lt) (record {
      least = least;
      most = most;
      paged = faultless fault.Chain k lt;
      rising = (faultless fault.Entry k lt).rising;
    })

same_chain : (page : ℕ) (state : ChainState) → state.page ≡ page → state ≡ chain_of page (image_of state)
same_chain page state e =
    λ i. record { page = e i; blocks = state.blocks; ends = state.ends; entries = state.entries; tail = state.tail }

some_cell : (cells : List BareCell) (ino : ℕ) → ino < length cells → BareCell
some_cell [] ino lt = absurd (omega (arith, lt))
some_cell (cell ∷ cells) ino lt = cell

module _ (whole now : ImageValue) (bare : List BareCell) (opened : AreOpened whole now bare) where
  many : length (reverse bare) ≡ length whole.slots
  many = sym (length-map (reverse bare) closed) ∙ ap (λ (ss : List SlotImageValue). length ss) opened.slots.same

  slot_is : (ino : ℕ) (d : BareCell) → ino < length (reverse bare) → slot_of whole ino ≡ closed (get_or (reverse bare) ino d)
  slot_is ino d lt =
      ap (λ (ss : List SlotImageValue). get_or ss ino no_slot) (sym opened.slots.same)
      ∙ get_or-map closed (reverse bare) ino d no_slot lt

  its_page : (ino : ℕ) (d : BareCell) → ino < length (reverse bare) → (get_or (reverse bare) ino d).chain.state.page ≡ whole.numbers.page
  its_page ino d lt =
      let low : ino < length bare = omega (arith, lt, length-reverse bare) in
      ap (λ (c : BareCell). c.chain.state.page) (get_or-reverse bare ino d low)
      ∙ opened.slots.pages (length bare - 1 - ino) d (omega (arith, low))

  module _ (view : ViewValue) (slots : view.slots ≡ map seen_cell (reverse bare)) where
    seen_is : (ino : ℕ) (d : BareCell) → ino < length (reverse bare) → slot_in view ino ≡ seen_cell (get_or (reverse bare) ino d)
    seen_is ino d lt =
        ap (λ (ss : List SlotViewValue). get_or ss ino nothing) slots ∙ get_or-map seen_cell (reverse bare) ino d nothing lt

    slot_seen : (ino : ℕ) → ino < length whole.slots → IsSlotSeen whole ino (slot_in view ino)
    slot_seen ino lt =
        let low : ino < length (reverse bare) = omega (arith, lt, many) in
        let d = some_cell (reverse bare) ino low in
        let cell = get_or (reverse bare) ino d in
        let seen = seen_is ino d low in
        let slot = slot_is ino d low in
        record {
          generation = ap (λ (s : SlotViewValue). s.generation) seen ∙ sym (ap (λ (s : SlotImageValue). s.generation) slot);
          chain =
              ap (λ (s : SlotViewValue). s.chain.state) seen
              ∙ same_chain whole.numbers.page cell.chain.state (its_page ino d low)
              ∙ sym (ap (λ (s : SlotImageValue). chain_of whole.numbers.page s.chain) slot);
        }

    -- the image is seen, by its other parts
    pub seen_opened : view.numbers ≡ now.numbers → view.journals ≡ now.journals → view.snapshots ≡ now.snapshots → view.epoch ≡ now.epoch
        → view.commit ≡ now.commit → IsSeen whole view
    seen_opened numbers journals snapshots epoch commit = record {
      numbers = numbers ∙ ap (λ (i : ImageValue). i.numbers) opened.same;
      count =
          ap (λ (ss : List SlotViewValue). length ss) slots ∙ length-map (reverse bare) seen_cell ∙ many;
      slots = slot_seen;
      journals = journals ∙ ap (λ (i : ImageValue). i.journals) opened.same;
      snapshots = snapshots ∙ ap (λ (i : ImageValue). i.snapshots) opened.same;
      epoch = epoch ∙ ap (λ (i : ImageValue). i.epoch) opened.same;
      commit = commit ∙ ap (λ (i : ImageValue). i.commit) opened.same;
    }

    -- and once it is planned, all may be built
    pub can_build : (plan : Plan) → IsFaultless whole → IsSeen whole view → IsPlanOf whole view 0 plan → CanBuild whole plan bare
    can_build plan faultless seen planned = record {
      faultless = faultless;
      view = view;
      seen = seen;
      planned = planned;
      count = sym (length-reverse bare) ∙ many;
      left = λ ino d lt.
          let low : ino < length (reverse bare) = omega (arith, lt, length-reverse bare) in
          let slot = slot_is ino d low in
          let seen' = seen_is ino d low in
          record {
            generation = sym (ap (λ (s : SlotViewValue). s.generation) seen');
            chain = sym (ap (λ (s : SlotViewValue). s.chain) seen');
            blocks = sym (ap (λ (s : SlotImageValue). s.blocks) slot);
          };
    }
