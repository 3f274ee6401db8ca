-- A call that is made ready: its hand, its plan, and the bytes of its pages.
use Rattle.std.proofs.Common.{◌≡◌, ℕ, suc, ◌+◌, ◌<◌, ◌==◌, ◌∙◌, Bool, true, false, List, [], ◌∷◌, filter, length, map, nat_lt, ap, ap₂, arith, refl, slice_index_or, subst, sym, ext_get_or, inl, inr}
use Rattle.std.proofs.lemmas.Bool.{eqb-true, eq-eqb, lt-ltb, ltb-true}
use Rattle.std.proofs.lemmas.Grind.{get_or_default_zero}
use Rattle.std.proofs.lemmas.List.{get_or-map, length-map, with_items_is}
use Rattle.std.proofs.lemmas.List.Folds.{Any-from_list_any, list_any_at}
use Rattle.nv_alloc.specs.Numbers.{has}
use Rattle.nv_calls.proofs.Places.{placed}
use Rattle.nv_calls.proofs.PlannedAlike.{few_apart_by, found_for, items_are, placed_by}
use Rattle.nv_calls.specs.Cells.{ino_at, no_cell}
use Rattle.nv_calls.specs.Committed.{cell_place_of}
use Rattle.nv_calls.specs.Slots.{items_for}
use Rattle.nv_calls.specs.SlotCells.{cell_in, lent_cells, other_cells}
use Rattle.nv_calls.specs.declared.plan.InodePlan.{InodePlan}
use Rattle.nv_entry.specs.declared.item.Item.{Item}
use Rattle.nv_calls.specs.AllCalls.{plan}
use Rattle.nv_calls.specs.Plan.{block_runs_of}
use Rattle.nv_calls.specs.declared.call.Call.{Call}
use Rattle.nv_machine.specs.Reads.{copies, is_written, plan_by, slot_at}
use Rattle.nv_machine.specs.World as machine
use Rattle.nv_calls.proofs.LentSlots.{lent_at}
use Rattle.nv_core.proofs.Others.{others_stay}
use Rattle.nv_core.proofs.Takes.{plan_same}
use Rattle.nv_core.proofs.Takings.{takes_at}
use Rattle.nv_core.specs.Appends.{IsPlanOf}
use Rattle.nv_core.specs.Rooms.{HasMade, HasRooms, HasTaken, IsChecked, IsHandOf}
use Rattle.nv_core.specs.GhostCalls.{ArePlansOf, IsChangeWith, IsRequestOf, IsShownCallOf}
use Rattle.nv_core.specs.declared.reservation.Reservation.TheVariants as reserved
use Rattle.nv_core.specs.declared.request.Request.{Request}
use Rattle.nv_core.specs.declared.request.Request.TheVariants as request
use Rattle.nv_core.specs.declared.next.Ending.TheVariants as ending
use Rattle.nv_core.specs.declared.next.Next.TheVariants as next
use Rattle.nv_core.specs.declared.running.Running.{Running}
use Rattle.nv_core.specs.declared.shared.Shared.{Shared}
use Rattle.nv_alloc.specs.Block.{BlockValue, numbers_of}
use Rattle.nv_alloc.specs.declared.hand.Hand.{Hand}
use Rattle.nv_calls.specs.FillPages.{filled, filled_by, fresh_pages, page_in, pages_over, sourced}
use Rattle.nv_calls.specs.Prepared.{CanReady, HasNoLessRoom, HaveNoLessRoom, HoldsTheSame, IsReadyBy, cell_plans, if_items, planned_by, plans_by}
use Rattle.nv_calls.specs.Ready.{CellCommitValue, ReadyValue}
use Rattle.nv_calls.specs.declared.update.Update.{Update}
use Rattle.nv_cell.specs.Cell.{CellState, CellValue, log_of}
use Rattle.nv_machine.specs.Effects.{IsSoundIn}
use Rattle.nv_calls.specs.Updates.{call_of, text_len}
use Rattle.nv_calls.specs.declared.looked.LookupResult.{LookupResult}
use Rattle.std.specs.List.{AllByRecursion}
use Rattle.nv_core.proofs.FreshPages.{pages_are, text_whole}
use Rattle.nv_base.specs.Memory.{out_of_memory}
use Rattle.nv_base.specs.declared.fault.Fault.{Fault}
use Rattle.nv_base.specs.declared.fault.Fault.TheVariants.{Read}
use Rattle.std.specs.Prelude.{◌⊎◌, IfErr, IfOk, Result, Ok, Err}
use Rattle.std.specs.Vec.{with_items}
use Rattle.nv_core.specs.Readied.{filled_hand}
use Rattle.nv_core.specs.Shown.{ShownCall, hand_of, shared_of, shown, slots_in}

-- ---- the hand

-- what is made ready with a text has its pages
pub filled_text : (cells now : List (ℕ × CellValue)) (text : List ℕ) (u : Update) (hand : Hand) (result : Result ReadyValue (Fault × Hand))
    → IfOk result (λ ready. IsReadyBy cells hand u now ready)
    → IfOk result (λ ready. ready.hand.«data».blocks ≡ filled_by cells (λ i. slice_index_or text i 0) u hand.«data»)
    → IfOk result (λ ready. hand_of ready.hand ≡ filled_hand cells text u hand)
filled_text cells now text u hand (Ok ready) is pages =
    ap hand_of is.hand_same.same ∙ ap (λ (bs : List BlockValue). record (hand_of hand) { blocks = bs }) pages
filled_text cells now text u hand (Err refused) is pages = is

-- a source that never fails leaves want of memory alone
pub only_memory : {S : Type 0} (old new : S) (hand : Hand) (result : Result ReadyValue (Fault × Hand))
    → IfErr result (λ refused. ((refused.0 ≡ out_of_memory) × HasNoLessRoom hand refused.1 × (new ≡ old))
    ⊎ ((refused.0 ≡ Read) × HoldsTheSame hand refused.1 × (0 ≡ 0 + 1)))
    → IfErr result (λ refused. (refused.0 ≡ out_of_memory) × HasNoLessRoom hand refused.1)
only_memory old new hand (Ok ready) is = is
only_memory old new hand (Err refused) (inl want) = (want.0, want.1)
only_memory old new hand (Err refused) (inr failed) = absurd (omega (arith, failed.2))

-- ---- what is shared

-- cells with no less room have the states that they had
pub states_same : (slots : List ℕ) (old new : List CellValue) → length new ≡ length old
    → HaveNoLessRoom (lent_cells slots old) (lent_cells slots new) → other_cells slots new ≡ other_cells slots old
    → map (λ (c : CellValue). c.state) new ≡ map (λ (c : CellValue). c.state) old
states_same slots old new many more rest =
    ext_get_or machine.no_cell (map (λ (c : CellValue). c.state) new) (map (λ (c : CellValue). c.state) old)
    (omega (
      arith,
      many,
      length-map {B = CellState} new (λ (c : CellValue). c.state),
      length-map {B = CellState} old (λ
          (c : CellValue). c.state),
    ))
    (λ i small.
    let lt : i < length new = omega (arith, small, length-map {B = CellState} new (λ (c : CellValue). c.state)) in
    get_or-map (λ (c : CellValue). c.state) new i (no_cell.1) machine.no_cell lt
    ∙ each i (has slots i) refl
    ∙ sym (get_or-map (λ (c : CellValue). c.state) old i (no_cell.1) machine.no_cell (omega (arith, lt, many)))) where
      each : (i : ℕ) (b : Bool) → has slots i ≡ b → (cell_in new i).state ≡ (cell_in old i).state
      each i false q = ap (λ (c : CellValue). c.state) (others_stay slots old new many rest i q)
      each i true q = found (Any-from_list_any (λ m. m == i) slots q) where
        found : ((j : ℕ) × (x : ℕ) × (j < length slots) × (slice_index_or slots j x ≡ x) × ((x == i) ≡ true))
            → (cell_in new i).state ≡ (cell_in old i).state
        found at =
            let here : slice_index_or slots at.0 0 ≡ i = sym (get_or_default_zero slots at.0 at.1 at.2) ∙ at.3 ∙ eqb-true at.1 i at.4 in
            ap (λ (n : ℕ). (cell_in new n).state) (sym here)
            ∙ ap (λ (c : ℕ × CellValue). c.1.state) (sym (lent_at slots new at.0 at.2))
            ∙ more.states at.0
            ∙ ap (λ (c : ℕ × CellValue). c.1.state) (lent_at slots old at.0 at.2)
            ∙ ap (λ (n : ℕ). (cell_in old n).state) here

-- and what is shared then shows the same
pub shared_same : (shared : Shared) (slots : List ℕ) (new : List CellValue) → length new ≡ length shared.cells.items
    → HaveNoLessRoom (lent_cells slots shared.cells.items) (lent_cells slots new)
    → other_cells slots new ≡ other_cells slots shared.cells.items
    → shared_of (record shared { cells = with_items shared.cells new }) ≡ shared_of shared
shared_same shared slots new many more rest =
    ap (λ (xs : List CellState). record (shared_of shared) { cells = xs })
    (ap (λ (xs : List CellValue). map (λ (c : CellValue). c.state) xs) (with_items_is shared.cells new
    (omega (arith, many, shared.cells.ok.0)))
    ∙ states_same slots shared.cells.items new many more rest)

-- ---- the call

-- a call that takes nothing more, by its request
pub at_ready : (shared : Shared) (hand : Hand) (running : Running) (plan : Update) (text : List ℕ) → running.next ≡ next.Ready
    → running.request ≡ request.Change plan text → HasRooms shared (reserved.Hand hand) running → let slots = slots_in running.slots in
    HasMade shared slots hand running.made plan
    × (IsChecked shared slots hand running.looked plan × HasTaken shared slots hand plan)
at_ready shared hand running plan text at is has =
    let slots = slots_in running.slots in
    subst (λ (j : Request). IsChangeWith (λ (u : Update). HasMade shared slots hand running.made u
    × (IsChecked shared slots hand running.looked u × HasTaken shared slots hand u)) j) is
    (takes_at shared hand running next.Ready at refl has)

-- what holds of it once it is ready
pub rooms_ready : (old new : Shared) (hand : Hand) (running : Running) (u : Update) (ready : ReadyValue)
    → let slots = slots_in running.slots in let lent = lent_cells slots old.cells.items in let now = lent_cells slots new.cells.items in
    CanReady lent hand u → HaveNoLessRoom lent now → IsReadyBy lent hand u now ready → IsHandOf old.geometry.numbers hand
    → new.geometry ≡ old.geometry → running.ending ≡ ending.Answers
    → HasRooms new (reserved.Ready ready) (record running { request = request.Taken })
rooms_ready old new hand running u ready can more is sizes same answers = (
  refl,
  answers,
  record {
    blocks = is.hand_same.size ∙ sizes.blocks ∙ ap (λ g. g.numbers.block) (sym same);
    pages = is.page_size ∙ sym can.size ∙ sizes.blocks ∙ ap (λ g. g.numbers.block) (sym same);
  },
  record { cells = lent_cells (slots_in running.slots) old.cells.items; hand = hand; update = u; can = can; more = more; is = is },
)

-- ---- the plans

number_lent : (slots : List ℕ) (all : List CellValue) (k : ℕ) → k < length slots → ino_at (lent_cells slots all) k ≡ slot_at slots k
number_lent slots all k lt = ap (λ (c : ℕ × CellValue). c.0) (lent_at slots all k lt)

-- the cells that get entries, from one of the slots on
written_from : (plan : List InodePlan) (all : List ℕ) (cells : List CellValue) (at : ℕ) (slots : List ℕ)
    → ((k : ℕ) → k < length slots → slot_at all (at + k) ≡ slot_at slots k)
    → filter (is_written plan) slots ≡ map (λ (p : CellCommitValue). slot_at all p.at) (cell_plans plan at (lent_cells slots cells))
written_from plan all cells at [] same = refl
written_from plan all cells at (n ∷ slots) same =
    go (items_for plan n) refl (written_from plan all cells (at + 1) slots (λ k lt.
    let place : at + 1 + k ≡ at + suc k = omega arith in
    ap (slot_at all) place ∙ same (suc k) (omega (arith, lt)))) where
      go : (items : List Item) → items_for plan n ≡ items
          → filter (is_written plan) slots ≡ map (λ (p : CellCommitValue). slot_at all p.at) (cell_plans plan (at + 1)
          (lent_cells slots cells))
          → filter (is_written plan) (n ∷ slots)
          ≡ map (λ (p : CellCommitValue). slot_at all p.at) (if_items at (items_for plan n) (cell_plans plan (at + 1)
          (lent_cells slots cells)))
      go [] q rest = rw q rest
      go (item ∷ items) q rest =
          let first : at ≡ at + 0 = omega arith in
          let here : n ≡ slot_at all at = sym (ap (slot_at all) first ∙ same 0 (omega arith)) in
          let some : nat_lt 0 (length (item ∷ items)) ≡ true = lt-ltb 0 (length (item ∷ items)) (omega arith) in
          rw (q, some) (ap₂ (λ (m : ℕ) (ms : List ℕ). m ∷ ms) here rest)

-- what is ready is what the plan says
pub plans_ready : (slots : List ℕ) (all : List CellValue) (now : List (ℕ × CellValue)) (hand : Hand) (u : Update) (ready : ReadyValue)
    (plan : List InodePlan) → let lent = lent_cells slots all in CanReady lent hand u → IsReadyBy lent hand u now ready
    → plan ≡ planned_by lent hand u → ArePlansOf slots plan 0 ready.plans
plans_ready slots all now hand u ready plan can is same =
    let lent = lent_cells slots all in
    let by = planned_by lent hand u in
    subst (λ (ps : List InodePlan). ArePlansOf slots ps 0 ready.plans) (sym same)
    (subst (λ (ps : List CellCommitValue). ArePlansOf slots by 0 ps) (sym is.plans) (record {
      written = written_from by slots all 0 slots (λ k lt. let place : 0 + k ≡ k = omega arith in ap (slot_at slots) place);
      items = λ j le lt.
          items_are by lent j lt
          ∙ ap (items_for by) (number_lent slots all (cell_place_of (plans_by lent hand u) j)
          (omega (arith, (placed_by lent hand u can).within j lt, length-map {B = ℕ × CellValue} slots (λ (n : ℕ). (n, cell_in all n)))));
    }))

-- and is for the call's slots alone
pub placed_ready : (slots : List ℕ) (all : List CellValue) (hand : Hand) (u : Update) (plan : List InodePlan)
    → let lent = lent_cells slots all in CanReady lent hand u → plan ≡ planned_by lent hand u → IsPlanOf slots plan
placed_ready slots all hand u plan can same =
    let lent = lent_cells slots all in
    subst (IsPlanOf slots) (sym same) (record {
      placed = placed (planned_by lent hand u) (few_apart_by lent hand u can).apart;
      within = λ ino is.
          let f = found_for lent hand u can ino (ltb-true 0 (length (items_for (planned_by lent hand u) ino)) is) in
          let k = cell_place_of (plans_by lent hand u) f.0 in
          let lt : k < length slots =
          omega (arith, (placed_by lent hand u can).within f.0 f.1, length-map {B = ℕ × CellValue} slots (λ (n : ℕ). (n, cell_in all n))) in
          list_any_at (λ m. m == ino) slots k 0 lt (eq-eqb (slot_at slots k) ino (sym (number_lent slots all k lt) ∙ f.2));
    })

-- ---- the machine's plan

pub plan_ready : (shared : Shared) (hand : Hand) (running : Running) (told : ShownCall) (by : Update) (text : List ℕ)
    → running.request ≡ request.Change by text → IsShownCallOf running told → let slots = slots_in running.slots in
    HasMade shared slots hand running.made by → IsChecked shared slots hand running.looked by
    → plan_by shared.geometry.numbers.block (shared_of shared) (hand_of hand) (shown told running)
    ≡ planned_by (lent_cells slots shared.cells.items) hand by
plan_ready shared hand running told by text at is made checked =
    let block = shared.geometry.numbers.block in
    let s = shared_of shared in
    let of = subst (λ (j : Request). IsRequestOf j running.owed told.call) at is in
    ap (λ (c : Call). plan block (copies s) (record { made = running.made; runs = block_runs_of (numbers_of hand.«data».blocks) }) c) of.0
    ∙ plan_same shared (slots_in running.slots) hand running.looked by text running.made checked made of.1

-- ---- the bytes of its pages

pub filled_same : (shared : Shared) (slots : List ℕ) (hand : Hand) (looked : LookupResult) (u : Update) (text : List ℕ)
    → 0 < shared.geometry.numbers.block
    → AllByRecursion (λ (c : ℕ × CellValue). IsSoundIn c.1.state (log_of c.1.state)) (lent_cells slots shared.cells.items)
    → IsHandOf shared.geometry.numbers hand → IsChecked shared slots hand looked u → text_len u ≡ length text
    → filled_hand (lent_cells slots shared.cells.items) text u hand ≡ record (hand_of hand) {
      blocks = filled (fresh_pages shared.geometry.numbers.block (copies (shared_of shared)) (call_of u text)) hand.«data».blocks;
    }
filled_same shared slots hand looked u text some sound sizes is len =
    let lent = lent_cells slots shared.cells.items in
    let byte_at = λ (i : ℕ). slice_index_or text i 0 in
    ap (λ (n : ℕ). record (hand_of hand) {
      blocks = filled (pages_over n (page_in lent n)
          (sourced byte_at u)) hand.«data».blocks;
    }) sizes.blocks
    ∙ ap (λ (pages : List (List ℕ)). record (hand_of hand) { blocks = filled pages hand.«data».blocks })
    (pages_are shared slots hand looked byte_at some sound u is
    ∙ ap (λ (t : List ℕ). fresh_pages shared.geometry.numbers.block (copies (shared_of shared)) (call_of u t)) (text_whole text
    (text_len u) len))
