-- A slot that stays, step by step: its log is cut, pages go home, its parts get their blocks, and its cell is made.
use Rattle.std.proofs.Common.{◌≡◌, ℕ, ◌+◌, ◌-◌, ◌≤◌, ◌++◌, List, length, length-append, take, drop, map, reverse, Option, arith, ap, ap₂, subst, sym, ◌∙◌}
use Rattle.std.proofs.lemmas.List.{length-take-le, take-append-drop}
use Rattle.nv_alloc.specs.Block.{AreSized, BlockValue, numbers_of}
use Rattle.nv_alloc.specs.FreeList.{FreeBlocks}
use Rattle.nv_alloc.specs.Queue.{QueueValue}
use Rattle.nv_audit.specs.Image.{ImageValue, SlotImageValue, slot_of}
use Rattle.nv_audit.specs.Mounted.{cell_of, cut_log, tail_of}
use Rattle.nv_base.specs.declared.fault.ImageFault.TheVariants as fault
use Rattle.nv_base.specs.declared.geometry.GeometryNumbers.{GeometryNumbers}
use Rattle.nv_cell.specs.Anew.{cell_by, marks_anew}
use Rattle.nv_cell.specs.Cell.{CellState}
use Rattle.nv_cell.specs.Filling.{AreOnce, AreTaken, log_wants, taken_from}
use Rattle.nv_cell.specs.Plan.{IsFilled, IsPlan, page_room}
use Rattle.nv_cell.specs.declared.mark.Mark.{Mark}
use Rattle.nv_cell.specs.declared.plan.CellPlan.{CellPlan}
use Rattle.nv_cell.proofs.FilledSlots.{plan_filled}
use Rattle.nv_entry.specs.declared.item.Entry.{Entry}
use Rattle.nv_log.specs.Chain.{ChainState, ChainValue}
use Rattle.nv_log.specs.Image.{chain_of, cut_chain, cut_ends, image_of, pages_past}
use Rattle.nv_mount.specs.Build.{AreFree, AreGivenHome, CanAllGoHome}
use Rattle.nv_mount.specs.Filling.{IsStaying}
use Rattle.nv_mount.specs.View.{ViewValue, slot_in}
use Rattle.nv_mount.proofs.Cutting.{all_behind, all_front, past_can, past_given}
use Rattle.nv_mount.proofs.NextCell.{cell_is, each_once, filled_free, same_plan, taken_are, their_blocks}
use Rattle.nv_mount.proofs.Seen.{tail_within}

module _ (image : ImageValue) (view : ViewValue) (ino : ℕ) (owed : List ℕ) (pages : QueueValue) (generation tail : ℕ) (chain : ChainValue)
    (plan : CellPlan) (lists : List FreeBlocks) (st : IsStaying image view ino owed pages generation tail chain plan lists) where
  abbrev slot : SlotImageValue
  slot = slot_of image ino

  -- on how many pages the cut log stands
  abbrev many : ℕ
  many = length (cut_ends (tail_of image ino) slot.chain.ends)

  pub chain_is : chain.state ≡ chain_of image.numbers.page slot.chain
  chain_is = ap (λ (c : ChainValue). c.state) st.chain_is ∙ (st.seen.slots ino st.within).chain

  pub few : tail ≤ length chain.state.entries
  few =
      omega (
        arith,
        st.planned.tail_is,
        ap (λ (c : ChainState). length c.entries) chain_is,
        tail_within image ino st.faultless st.within,
      )

  pub past_is : pages_past tail chain.state ≡ drop many slot.chain.pages
  past_is = ap₂ (λ (n : ℕ) (c : ChainState). pages_past n c) st.planned.tail_is chain_is

  pub sized_past : AreSized pages.size (pages_past tail chain.state)
  sized_past =
      subst (λ (n : ℕ). AreSized n (pages_past tail chain.state)) (sym st.size)
      (subst (AreSized image.numbers.block) (sym past_is)
      (all_behind (λ (b : BlockValue). length b.bytes ≡ image.numbers.block) many slot.chain.pages
      ((st.faultless fault.Geometry).each ino st.within).pages))

  pub fits : length (pages_past tail chain.state) ≤ pages.room
  fits =
      subst (λ (n : ℕ). length (pages_past n chain.state) ≤ pages.room) (sym st.planned.tail_is)
      (subst (λ (c : ChainValue). length (pages_past (tail_of image ino) c.state) ≤ pages.room) (sym st.chain_is) (st.room ino st.within))

  pub free_before : AreFree image ino (numbers_of slot.chain.pages ++ owed) lists
  free_before =
      subst (λ (bs : List BlockValue). AreFree image ino (numbers_of bs ++ owed) lists) (ap (λ (c : ChainState). c.blocks) chain_is) st.free

  -- the pages that the cut gives away
  pub queued : (q : QueueValue)
      → q ≡ record pages {
        blocks = pages.blocks ++ reverse (pages_past tail chain.state);
        room = pages.room - length (pages_past tail chain.state);
      } → q.blocks ≡ reverse (drop many slot.chain.pages)
  queued q is =
      ap (λ (x : QueueValue). x.blocks) is ∙ ap (λ (bs : List BlockValue). bs ++ reverse (pages_past tail chain.state)) st.none
      ∙ ap (λ (bs : List BlockValue). reverse bs) past_is

  pub can_go : (g : GeometryNumbers) → g ≡ image.numbers → (bs : List BlockValue) → bs ≡ reverse (drop many slot.chain.pages)
      → CanAllGoHome g bs lists
  can_go g same bs is =
      subst (λ (h : GeometryNumbers). CanAllGoHome h bs lists) (sym same)
      (subst (λ (xs : List BlockValue). CanAllGoHome image.numbers xs lists) (sym is)
      (past_can image st.faultless ino st.within owed st.apart many lists free_before))

  pub free_between : (g : GeometryNumbers) → g ≡ image.numbers → (bs : List BlockValue) → bs ≡ reverse (drop many slot.chain.pages)
      → (mid : List FreeBlocks) → AreGivenHome g bs lists mid → AreFree image ino (numbers_of (take many slot.chain.pages) ++ owed) mid
  free_between g same bs is mid given =
      past_given image st.faultless ino st.within owed st.apart many lists mid free_before
      (subst (λ (xs : List BlockValue). AreGivenHome image.numbers xs lists mid) is
      (subst (λ (h : GeometryNumbers). AreGivenHome h bs lists mid) same given))

  -- the chain that is cut
  module _ (left : ChainValue) (cut : left.state ≡ cut_chain chain.state.page tail (image_of chain.state)) (g : GeometryNumbers)
      (same : g ≡ image.numbers) where
    pub cut_is : left.state ≡ cut_chain image.numbers.page (tail_of image ino) slot.chain
    cut_is =
        cut ∙ ap (λ (c : ChainState). cut_chain c.page tail (image_of c)) chain_is
        ∙ ap (λ (n : ℕ). cut_chain image.numbers.page n slot.chain) st.planned.tail_is

    pub entries_are : left.state.entries ≡ cut_log image ino
    entries_are = ap (λ (c : ChainState). c.entries) cut_is

    pub wants_are : log_wants g.block plan.marks.marks.items 0 left.state.entries
        ≡ log_wants image.numbers.block (marks_anew image.snapshots image.numbers.block (cut_log image ino)) 0 (cut_log image ino)
    wants_are =
        ap (λ (h : GeometryNumbers). log_wants h.block plan.marks.marks.items 0 left.state.entries) same
        ∙ ap (λ (ms : List Mark). log_wants image.numbers.block ms 0 left.state.entries) st.planned.planned.marks
        ∙ ap (λ (es : List Entry). log_wants image.numbers.block (marks_anew image.snapshots image.numbers.block (cut_log image ino)) 0 es)
        entries_are

    pub wanted_once : AreOnce (log_wants g.block plan.marks.marks.items 0 left.state.entries)
    wanted_once =
        subst AreOnce (sym wants_are) (each_once image st.faultless ino st.within owed st.apart st.planned.stays)

    pub all_count : left.state.tail ≡ length left.state.entries
    all_count =
        ap (λ (c : ChainState). c.tail) cut_is
        ∙ sym (ap (λ (es : List Entry). length es) entries_are
        ∙ length-take-le (tail_of image ino) slot.chain.entries (tail_within image ino st.faultless st.within))

    pub sized_kept : AreSized g.block left.state.blocks
    sized_kept =
        subst (λ (h : GeometryNumbers). AreSized h.block left.state.blocks) (sym same)
        (subst (AreSized image.numbers.block) (sym (ap (λ (c : ChainState). c.blocks) cut_is))
        (all_front (λ (b : BlockValue). length b.bytes ≡ image.numbers.block) many slot.chain.pages
        ((st.faultless fault.Geometry).each ino st.within).pages))

    module _ (spare : left.spare ≡ chain.spare + length (pages_past tail chain.state)) (filled : CellPlan)
        (index : filled.index ≡ plan.index) (marks : filled.marks ≡ plan.marks) where
      room_is : page_room left ≡ page_room (slot_in view ino).chain
      room_is =
          let kept = ap (λ (c : ChainState). length c.blocks) cut_is in
          let past = ap (λ (bs : List BlockValue). length bs) past_is in
          let all = ap (λ (bs : List BlockValue). length bs) (take-append-drop many slot.chain.pages) in
          let both = length-append (take many slot.chain.pages) (drop many slot.chain.pages) in
          let before = ap (λ (c : ChainState). length c.blocks) chain_is in
          let same_room = ap page_room st.chain_is in
          omega (arith, kept, past, all, both, before, spare, same_room)

      pub is_plan : IsPlan g.block image.snapshots left.state.entries (page_room left) filled
      is_plan =
          subst (λ (h : GeometryNumbers). IsPlan h.block image.snapshots left.state.entries (page_room left) filled) (sym same)
          (subst (λ (es : List Entry). IsPlan image.numbers.block image.snapshots es (page_room left) filled) (sym entries_are)
          (subst (λ (n : ℕ). IsPlan image.numbers.block image.snapshots (cut_log image ino) n filled) (sym room_is)
          (same_plan image.numbers.block image.snapshots (cut_log image ino) (page_room (slot_in view ino).chain) plan filled index marks
          st.planned.planned)))

      pub is_filled : (mid : List FreeBlocks) → AreFree image ino (numbers_of (take many slot.chain.pages) ++ owed) mid
          → filled.blocks.items ≡ map (taken_from mid) (log_wants g.block plan.marks.marks.items 0 left.state.entries)
          → IsFilled g.block image.snapshots slot.blocks left.state.entries filled
      is_filled mid free are =
          subst (λ (h : GeometryNumbers). IsFilled h.block image.snapshots slot.blocks left.state.entries filled) (sym same)
          (subst (λ (es : List Entry). IsFilled image.numbers.block image.snapshots slot.blocks es filled) (sym entries_are)
          (plan_filled image.numbers.block image.snapshots slot.blocks (cut_log image ino) filled
          (their_blocks image st.faultless ino st.within owed st.apart st.planned.stays)
          ((st.faultless fault.Geometry).each ino st.within).blocks
          (are ∙ ap (λ (ws : List (Option ℕ)). map (taken_from mid) ws) wants_are
          ∙ taken_are image st.faultless ino st.within owed st.apart st.planned.stays mid free)))

    pub cell_made : (cell : CellState) → cell ≡ cell_by g.block generation image.snapshots left.state slot.blocks → cell ≡ cell_of image ino
    cell_made cell is =
        is ∙ ap (λ (h : GeometryNumbers). cell_by h.block generation image.snapshots left.state slot.blocks) same
        ∙ ap (λ (n : ℕ). cell_by image.numbers.block n image.snapshots left.state slot.blocks)
        (st.generation_is ∙ (st.seen.slots ino st.within).generation)
        ∙ ap (λ (c : ChainState). cell_by image.numbers.block slot.generation image.snapshots c slot.blocks) cut_is
        ∙ sym (cell_is image st.faultless ino st.within owed st.apart st.planned.stays)

    pub free_after : (mid new : List FreeBlocks) → AreFree image ino (numbers_of (take many slot.chain.pages) ++ owed) mid
        → AreTaken g (log_wants g.block plan.marks.marks.items 0 left.state.entries) mid new → AreFree image (ino + 1) owed new
    free_after mid new free taken =
        filled_free image st.faultless ino st.within owed st.apart st.planned.stays mid new free
        (subst (λ (ws : List (Option ℕ)). AreTaken image.numbers ws mid new) wants_are
        (subst (λ (h : GeometryNumbers). AreTaken h (log_wants g.block plan.marks.marks.items 0 left.state.entries) mid new) same taken))
