-- Turns that read one cell while nobody has its lock.
use Rattle.std.proofs.Common.{◌≡◌, ◌∙◌, ℕ, ◌||◌, Bool, not, true, false, List, [], ◌≤◌, Option, Some, None, ap, arith, refl, subst, sym, inl, inr}
use Rattle.std.specs.Prelude.{IfOk, MatchResult, Result, Ok, Err, is_ok, option_map}
use Rattle.std.specs.Option.{ForSome}
use Rattle.std.proofs.lemmas.List.{get_or_past}
use Rattle.nv_base.specs.Memory.{out_of_memory}
use Rattle.nv_base.specs.Refusals.{FailsOnly}
use Rattle.nv_base.specs.declared.fault.Fault.{Fault}
use Rattle.nv_base.specs.declared.fault.Fault.TheVariants.{Stale}
use Rattle.nv_base.specs.declared.geometry.GeometryNumbers.{GeometryNumbers}
use Rattle.nv_base.specs.declared.numbers.Handle.{Handle}
use Rattle.nv_calls.specs.AllCalls.{answer, look_refusal, looked, refusal}
use Rattle.nv_calls.specs.Locked.{handles, slots_among}
use Rattle.nv_calls.specs.Looks.{directories, handle_at, in_slot, look_tests, nothing_looked, seen_at}
use Rattle.nv_calls.proofs.RefusedLooks.{HasPlace, IsLookOf}
use Rattle.nv_calls.specs.Nodes.{IsView, alone, copies_by, nodes_by, view_refusal}
use Rattle.nv_calls.specs.Refusals.{Check, passes}
use Rattle.nv_calls.specs.SlotList.{slots_in}
use Rattle.nv_calls.specs.Updates.{call_of}
use Rattle.nv_calls.specs.Views.{IsVisitRefusal, is_visit, visit_grows}
use Rattle.nv_calls.specs.declared.answer.Answer.{Answer}
use Rattle.nv_calls.specs.declared.call.Call.{Call}
use Rattle.nv_calls.specs.declared.looked.LookupResult.{LookupResult}
use Rattle.nv_calls.specs.declared.slots.LockedSlots.{LockedSlots}
use Rattle.nv_calls.specs.declared.update.Update.{Update}
use Rattle.nv_calls.specs.declared.view.View.{View}
use Rattle.nv_cell.specs.Cell.{CellState, CellValue}
use Rattle.nv_cell.specs.Pages.{AreBytesOf}
use Rattle.nv_entry.specs.declared.node.NodeCopy.{NodeCopy}
use Rattle.nv_machine.specs.Kinds.{look_turn, rest_turn, visit_turn}
use Rattle.nv_machine.specs.Reads.{bytes_among, copies, nodes}
use Rattle.nv_machine.specs.SnapshotOrCleaner.{copies_at, show_turn}
use Rattle.nv_machine.specs.Step.{turn}
use Rattle.nv_machine.specs.World.{Ends, HandState, Look, Moves, Refuses, Running, Shared, Show, Showing, SnapshotOrCleaner, Visit, cell_at, empty_hand, no_cell, owner_at}
use Rattle.nv_machine.proofs.FiledTurns.{refused_at_once}
use Rattle.nv_machine.proofs.SnapshotOrCleanerAlone.{none_home}
use Rattle.nv_reader.specs.Nodes.{IsWhole, copy_in}
use Rattle.nv_reader.specs.Showing.{seen_on, visited}
use Rattle.nv_steps.specs.Parts.{Has, IsOf}
use Rattle.nv_steps.specs.Reading.{IsInRangeIf, answer_of_view, once_looked, once_shown, reading, unlocked}
use Rattle.nv_steps.specs.Turns.{IsEnd, IsMove}
use Rattle.nv_steps.proofs.BookTurns.{by_next}
use Rattle.nv_steps.proofs.Copies.{copy_lent}
use Rattle.nv_steps.proofs.Looks.{IsCellOf, bytes_in, look_alone}
use Rattle.nv_steps.proofs.Visits.{visit_answer, visit_check, visit_none}

-- ---- what is lent

-- the states of lent cells
abbrev pub states : {A : Type 0} → (A → CellValue) → Option A → Option CellState
states value cell = option_map (λ c. (value c).state) cell

module _ {A : Type 0} (numbers : GeometryNumbers) (s : Shared) (ino : ℕ) (value : A → CellValue) (is : IsOf numbers s) where
  pub cell_of : (cell : Option A) → IsInRangeIf numbers ino (states value cell) → Has s (unlocked ino (states value cell))
      → IsCellOf s ino value cell
  cell_of None out has = get_or_past s.cells ino no_cell (omega (arith, out, is.cells))
  cell_of (Some c) out has = has.0.1

  pub nobody_has : (cell : Option A) → IsInRangeIf numbers ino (states value cell) → Has s (unlocked ino (states value cell))
      → owner_at s ino ≡ None
  nobody_has None out has = get_or_past s.owners ino None (omega (arith, out, is.owners))
  nobody_has (Some c) out has = has.1.0.1

-- ---- a show

-- what a lent cell has, by its own bytes
pub whole_in : {A : Type 0} (snapshot : ℕ) (value : A → CellValue) (cell : Option A)
    → ForSome (states value cell) (λ c. IsWhole (bytes_among c.blocks) snapshot c)
    → ForSome cell (λ c. IsWhole (bytes_in (option_map value cell)) snapshot (value c).state)
whole_in snapshot value None whole = λ c is. cc
whole_in {A} snapshot value (Some a) whole = λ c is.
    let same : a ≡ c = cc in
    subst (λ (x : A). IsWhole (bytes_among (value a).state.blocks) snapshot (value x).state) same (whole (value a).state refl)

module _ {A : Type 0} (numbers : GeometryNumbers) (actor : ℕ) (h : HandState) (r : Running) (snapshot : ℕ) (showing : Showing)
    (value : A → CellValue) (cell : Option A) (next : r.next ≡ SnapshotOrCleaner (Show snapshot showing)) where
  abbrev shown_cell : ℕ
  shown_cell = (visited showing.visits).ino

  abbrev lent_copy : Option NodeCopy
  lent_copy = copy_in (bytes_in (option_map value cell)) (states value cell) snapshot (visited showing.visits)

  -- the copy by the lent cell is that of the world
  copy_is : (s : Shared) (cell : Option A) → IsCellOf s shown_cell value cell
      → copy_in (bytes_in (option_map value cell)) (states value cell) snapshot (visited showing.visits)
      ≡ copies_at s snapshot (visited showing.visits)
  copy_is s None is = copy_lent s snapshot (visited showing.visits) value None is
  copy_is s (Some c) is =
      ap (λ (v : CellState). copy_in (bytes_among v.blocks) (Some (value c).state) snapshot (visited showing.visits)) (sym is)
      ∙ copy_lent s snapshot (visited showing.visits) value (Some c) is

  pub shows : (result : Result Showing Fault) → IsInRangeIf numbers shown_cell (states value cell)
      → IfOk result (λ after. after ≡ seen_on lent_copy showing) → FailsOnly out_of_memory result
      → IsMove numbers actor (reading shown_cell r h (is_ok result) (states value cell)) h (once_shown snapshot result r)
  shows (Ok after) range ok err = λ s is_of has.
      by_next (SnapshotOrCleaner (Show snapshot showing)) numbers.block actor true s h r next
      ∙ ap (λ (o : Option ℕ). show_turn o true (copies_at s snapshot (visited showing.visits)) snapshot showing s h r)
      (nobody_has numbers s shown_cell value is_of cell range has)
      ∙ ap (λ (n : Option NodeCopy). show_turn None true n snapshot showing s h r)
      (sym (copy_is s cell (cell_of numbers s shown_cell value is_of cell range has)))
      ∙ ap (λ (x : Showing). Moves s h (once_shown snapshot (Ok x) r)) (sym ok)
  shows (Err fault) range ok err = λ s is_of has.
      by_next (SnapshotOrCleaner (Show snapshot showing)) numbers.block actor false s h r next
      ∙ ap (λ (o : Option ℕ). show_turn o false (copies_at s snapshot (visited showing.visits)) snapshot showing s h r)
      (nobody_has numbers s shown_cell value is_of cell range has)
      ∙ ap (λ (x : Fault). Moves s h (once_shown snapshot (Err x) r)) (sym err)

-- ---- a visit

-- the turn of one that finds this, where nobody has the lock
visited_turn : (check : Check) (grows : Bool) (found : Answer) (s : Shared) (r : Running) (result : Result View Fault) → r.slots ≡ []
    → MatchResult result (λ view. (check ≡ passes) × (view.found ≡ found)) (IsVisitRefusal check grows)
    → visit_turn None check (is_ok result || not grows) found s empty_hand r ≡ Ends (answer_of_view result) s empty_hand
visited_turn check grows found s r (Ok view) none is = rw is.0 (ap (λ (a : Answer). Ends (Ok a) s empty_hand) (sym is.1))
visited_turn check grows found s r (Err fault) none (inl is) =
    ap (λ (c : Check). visit_turn None c (not grows) found s empty_hand r) is ∙ refused_at_once fault s empty_hand r refl none
visited_turn check grows found s r (Err fault) none (inr is) =
    ap (λ (c : Check). visit_turn None c (not grows) found s empty_hand r) is.0
    ∙ (rw is.2 (rw is.1 (refused_at_once out_of_memory s empty_hand r refl none)))

module _ (numbers : GeometryNumbers) (actor : ℕ) (r : Running) (c : Call) (ino : ℕ)
    (next : r.next ≡ Visit) (call : r.call ≡ c) (none : r.slots ≡ []) (reads : is_visit c ≡ true)
    (at : ino ≡ (handle_at (handles nothing_looked c) 0).ino) where
  visit_in : (s : Shared) (granted : Bool) → owner_at s ino ≡ None
      → turn numbers.block actor granted s empty_hand r
      ≡ visit_turn None (refusal numbers.block (copies s) c) (granted || not (visit_grows c)) (answer (nodes s) r.made c) s empty_hand r
  visit_in s granted free =
      by_next Visit numbers.block actor granted s empty_hand r next
      ∙ ap (λ (x : Call). visit_turn (owner_at s (handle_at (handles nothing_looked x) 0).ino) (refusal numbers.block (copies s) x)
      (granted || not (visit_grows x)) (answer (nodes s) r.made x) s empty_hand r) call
      ∙ ap (λ (o : Option ℕ). visit_turn o (refusal numbers.block (copies s) c) (granted || not (visit_grows c))
      (answer (nodes s) r.made c) s empty_hand r) (ap (owner_at s) (sym at) ∙ free)

  module _ (s : Shared) (cell : CellValue) (here : cell_at s ino ≡ cell.state) where
    abbrev bytes : ℕ → List ℕ
    bytes = bytes_among cell.state.blocks

    check_is : view_refusal bytes ino cell c ≡ refusal numbers.block (copies s) c
    check_is =
        ap (λ (k : ℕ). view_refusal bytes k cell c) at ∙ visit_check s numbers.block c cell reads (ap (cell_at s) (sym at) ∙ here)

    answer_is : answer (nodes_by bytes (alone ino cell)) r.made c ≡ answer (nodes s) r.made c
    answer_is =
        ap (λ (k : ℕ). answer (nodes_by bytes (alone k cell)) r.made c) at
        ∙ visit_answer s r.made c cell reads (ap (cell_at s) (sym at) ∙ here)

    -- what is found in the cell is what the world has
    seen_here : (result : Result View Fault)
        → MatchResult result (IsView bytes ino cell c) (IsVisitRefusal (view_refusal bytes ino cell c) (visit_grows c))
        → MatchResult result (λ view. (refusal numbers.block (copies s) c ≡ passes) × (view.found ≡ answer (nodes s) r.made c))
        (IsVisitRefusal (refusal numbers.block (copies s) c) (visit_grows c))
    seen_here (Ok view) told = (sym check_is ∙ told.passes, told.found r.made ∙ answer_is)
    seen_here (Err fault) told = subst (λ (k : Check). IsVisitRefusal k (visit_grows c) fault) check_is told

  pub visits : (cell : CellValue) (result : Result View Fault) → MatchResult result (IsView (bytes_among cell.state.blocks) ino cell c)
      (IsVisitRefusal (view_refusal (bytes_among cell.state.blocks) ino cell c) (visit_grows c))
      → IsEnd numbers actor (reading ino r empty_hand (is_ok result) (Some cell.state)) (answer_of_view result) empty_hand
  visits cell result told = λ s is_of has.
      visit_in s (is_ok result) has.1.0.1
      ∙ visited_turn (refusal numbers.block (copies s) c) (visit_grows c) (answer (nodes s) r.made c) s r result none
      (seen_here s cell has.0.1 result told)

  -- the same, by a cell that may be lent
  pub visits_lent : {A : Type 0} (value : A → CellValue) (lent : Option A) (cell : A) (result : Result View Fault) → lent ≡ Some cell
      → ForSome (states value lent) (λ c. AreBytesOf c (bytes_among c.blocks))
      → ((bytes : ℕ → List ℕ) → AreBytesOf (value cell).state bytes → MatchResult result (IsView bytes ino (value cell) c)
      (IsVisitRefusal (view_refusal bytes ino (value cell) c) (visit_grows c)))
      → IsEnd numbers actor (reading ino r empty_hand (is_ok result) (states value lent)) (answer_of_view result) empty_hand
  visits_lent {A} value lent cell result is own told =
      subst (λ (o : Option A). IsEnd numbers actor (reading ino r empty_hand (is_ok result) (states value o)) (answer_of_view result) empty_hand)
      (sym is) (visits (value cell) result (told (bytes_among (value cell).state.blocks)
      (own (value cell).state (ap (λ (o : Option A). states value o) is))))

  -- one without a slot is stale
  visits_none : numbers.inodes ≤ ino → IsEnd numbers actor (reading ino r empty_hand false None) (Err Stale) empty_hand
  visits_none out = λ s is_of has.
      let none_there : cell_at s ino ≡ no_cell = get_or_past s.cells ino no_cell (omega (arith, out, is_of.cells)) in
      visit_in s false (get_or_past s.owners ino None (omega (arith, out, is_of.owners)))
      ∙ visited_turn (refusal numbers.block (copies s) c) (visit_grows c) (answer (nodes s) r.made c) s r (Err Stale) none
      (inl (visit_none s numbers.block c reads (ap (cell_at s) (sym at) ∙ none_there)))

  pub none_lent : {A : Type 0} (value : A → CellValue) (lent : Option A) → lent ≡ None → IsInRangeIf numbers ino (states value lent)
      → IsEnd numbers actor (reading ino r empty_hand false (states value lent)) (Err Stale) empty_hand
  none_lent {A} value lent is =
      subst (λ (o : Option A). IsInRangeIf numbers ino (states value o)
      → IsEnd numbers actor (reading ino r empty_hand false (states value o)) (Err Stale) empty_hand) (sym is) visits_none

-- ---- a look

module _ {A : Type 0} (numbers : GeometryNumbers) (actor : ℕ) (granted : Bool) (r : Running) (u : Update) (text : List ℕ) (place : ℕ)
    (before : LookupResult) (value : A → CellValue) (cell : Option A) (next : r.next ≡ Look place) (call : r.call ≡ call_of u text)
    (was : r.looked ≡ before) (few : HasPlace place u) where
  abbrev c : Call
  c = call_of u text

  abbrev dir : Handle
  dir = handle_at (directories c) place

  -- what a look by the lent cell comes to, whatever its bytes are
  abbrev IsTold : Handle → Result LookupResult Fault → Type 0
  IsTold from result =
      (bytes : ℕ → List ℕ) → IsLookOf (copies_by bytes (in_slot from.ino (option_map value cell))) u text place before result

  module _ (range : IsInRangeIf numbers dir.ino (states value cell)) (from : Handle) (is : from ≡ dir) where
    looked_turn : (s : Shared) → IsOf numbers s → Has s (unlocked dir.ino (states value cell))
        → turn numbers.block actor granted s empty_hand r
        ≡ look_turn None (look_tests place (look_refusal (copies s) c)) (seen_at (directories c) place (looked (copies s) c) before) place s
        empty_hand r
    looked_turn s is_of has =
        by_next (Look place) numbers.block actor granted s empty_hand r next
        ∙ ap (λ (x : Call). look_turn (owner_at s (handle_at (directories x) place).ino) (look_tests place (look_refusal (copies s) x))
        (seen_at (directories x) place (looked (copies s) x) r.looked) place s empty_hand r) call
        ∙ ap (λ (l : LookupResult). look_turn (owner_at s dir.ino) (look_tests place (look_refusal (copies s) c))
        (seen_at (directories c) place (looked (copies s) c) l) place s empty_hand r) was
        ∙ ap (λ (o : Option ℕ). look_turn o (look_tests place (look_refusal (copies s) c))
        (seen_at (directories c) place (looked (copies s) c) before) place s empty_hand r)
        (nobody_has numbers s dir.ino value is_of cell range has)

    alone_is : (s : Shared) → IsOf numbers s → Has s (unlocked dir.ino (states value cell)) → (result : Result LookupResult Fault)
        → IsTold from result → IsLookOf (copies s) u text place before result
    alone_is s is_of has result told =
        look_alone s u text place before dir value cell result few refl (cell_of numbers s dir.ino value is_of cell range has)
        (subst (λ (d : Handle). IsTold d result) is told)

    pub looks_on : (inodes : ℕ) (found : LookupResult) (slots : LockedSlots) → numbers.inodes ≡ inodes → IsTold from (Ok found)
        → slots_in slots ≡ slots_among inodes None found c
        → IsMove numbers actor (reading dir.ino r empty_hand granted (states value cell)) empty_hand
        (once_looked place found (slots_in slots) r)
    looks_on inodes found slots many told locks = λ s is_of has.
        let look = alone_is s is_of has (Ok found) told in
        looked_turn s is_of has
        ∙ ap (λ (t : Check). look_turn None t (seen_at (directories c) place (looked (copies s) c) before) place s empty_hand r) look.0
        ∙ ap (λ (l : LookupResult). look_turn None passes l place s empty_hand r) (sym look.1)
        ∙ ap (λ (xs : List ℕ). Moves s empty_hand (once_looked place found xs r))
        (ap (λ (n : ℕ). slots_among n None found r.call) (is_of.cells ∙ many) ∙ ap (λ (x : Call). slots_among inodes None found x) call
        ∙ sym locks)

    pub looks_end : (fault : Fault) → IsTold from (Err fault)
        → IsEnd numbers actor (reading dir.ino r empty_hand granted (states value cell)) (Err fault) empty_hand
    looks_end fault told = λ s is_of has.
        looked_turn s is_of has
        ∙ ap (λ (t : Check). look_turn None t (seen_at (directories c) place (looked (copies s) c) before) place s empty_hand r)
        (alone_is s is_of has (Err fault) told)
        ∙ ap (λ (home : Option ℕ). rest_turn home None s empty_hand (record r { ending = Refuses fault })) (none_home 0 0 s.lists)
