-- The turns of a show that visits cells behind their locks.
use Rattle.std.proofs.Common.{◌≡◌, ◌∙◌, ◌<◌, ◌==◌, ◌||◌, ◌⊎◌, if◌then◌else◌, ℕ, zero, suc, Bool, true, false, List, [], ◌∷◌, Option, Some, None, ap, arith, inl, inr, refl, subst, sym, true≢false}
use Rattle.std.specs.Prelude.{Contains, IfErr, IfOk, Result, Ok, Err}
use Rattle.std.specs.List.{AllByRecursion}
use Rattle.std.proofs.lemmas.Bool.{eq-eqb, eqb-true, false≢true}
use Rattle.nv_base.specs.Memory.{out_of_memory}
use Rattle.nv_base.specs.Refusals.{FailsOnly}
use Rattle.nv_base.specs.declared.fault.Fault.{Fault}
use Rattle.nv_base.specs.declared.fault.Fault.TheVariants as fault
use Rattle.nv_base.specs.declared.fault.MismatchPart.{MismatchPart}
use Rattle.nv_base.specs.declared.fault.MismatchPart.TheVariants as part
use Rattle.nv_base.specs.declared.geometry.GeometryNumbers.{GeometryNumbers}
use Rattle.nv_book.specs.Book.{BookState}
use Rattle.nv_calls.specs.declared.answer.Answer.{Answer}
use Rattle.nv_calls.specs.declared.answer.Answer.TheVariants as answers
use Rattle.nv_cell.specs.Cell.{CellState, CellValue, log_of}
use Rattle.nv_cell.specs.Pages.{AreBytesOf}
use Rattle.nv_entry.specs.Log.{up_to}
use Rattle.nv_entry.specs.Node.{node_at}
use Rattle.nv_entry.specs.declared.node.NodeCopy.{NodeCopy}
use Rattle.nv_entry.specs.declared.tree.TreeNode.{TreeNode}
use Rattle.nv_machine.specs.Reads.{bytes_among}
use Rattle.nv_machine.specs.SnapshotOrCleaner.{show_or_unpin}
use Rattle.nv_machine.specs.World.{Running, Show, SnapshotOrCleaner, SnapshotOrCleanerStep, Unpin, empty_hand}
use Rattle.nv_reader.specs.Cells.{NoneOut, own_node}
use Rattle.nv_reader.specs.Nodes.{IsWhole}
use Rattle.nv_reader.specs.Showing.{Showing, is_over, seen_on, visited}
use Rattle.nv_reader.specs.Walk.{Visit}
use Rattle.nv_steps.specs.OnBook.{answer_of_show, on_book, once_pinned}
use Rattle.nv_steps.specs.Parts.{BookIs, HolderIs}
use Rattle.nv_steps.specs.Reading.{once_shown, reading, unlocked}
use Rattle.nv_steps.specs.Runs.{Fits, IsAsLeft, IsOwn, Known, Leads, Unheld, known_book, known_cell, locked, seen}
use Rattle.nv_steps.specs.Turns.{Made}
use Rattle.nv_steps.proofs.OneTurn.{book_there, one_turn}
use Rattle.nv_steps.proofs.VisitTurns.{shows}
use Rattle.nv_sessions.specs.Refusing.{IsMisfit, IsMisfitOrWant}
use Rattle.nv_sessions.specs.Misfits.{Unpinnable}
use Rattle.nv_sessions.specs.ShowRuns.{AreAllVisits, AreVisits, Displaced, FindsCell, FindsPin, FindsUnpin, FoundWhole, HasMet, IsMarked, IsMisfitVisit, IsPinTurn, IsShowRun, IsShownBy, IsUnpinTurn, IsVisit, Met, NoNode, NoSlot, SeesCell, Visited, showing}
use Rattle.nv_sessions.proofs.Holding.{broken}
use Rattle.nv_sessions.proofs.ViewRuns.{cell_there, no_hand}

-- ---- a visit

module _ (numbers : GeometryNumbers) (snapshot : ℕ) (before : Showing) (cell : CellValue) (more : is_over before ≡ false)
    (inside : (visited before.visits).ino < numbers.inodes) where
  abbrev v : Visited
  v = record { before = before; cell = cell }

  -- one that wanted memory
  pub wants_memory : IsVisit numbers snapshot v (Err out_of_memory)
  wants_memory = record {
    more = more;
    inside = inside;
    own = tt;
    turn = λ actor r next whole. shows numbers actor empty_hand r snapshot before (λ (c : CellValue). c) (Some cell) next (Err out_of_memory)
        tt tt refl;
  }

  -- one that saw a node
  pub sees_node : (node : NodeCopy) (after : Showing) → (visited before.visits).generation ≡ cell.state.generation
      → Some node ≡ own_node cell.state (up_to snapshot (log_of cell.state))
      → (IsWhole (bytes_among cell.state.blocks) snapshot cell.state
      → Some node ≡ node_at (bytes_among cell.state.blocks) cell.state.block snapshot (log_of cell.state))
      → after ≡ seen_on (Some node) before → IsVisit numbers snapshot v (Ok after)
  sees_node node after same own whole is =
      let alike = eq-eqb (visited before.visits).generation cell.state.generation same in
      record {
        more = more;
        inside = inside;
        own = is ∙ ap (λ (n : Option NodeCopy). seen_on n before)
            (own ∙ sym (ap (λ (b : Bool). if b then own_node cell.state (up_to snapshot (log_of cell.state)) else None) alike));
        turn = λ actor r next there. shows numbers actor empty_hand r snapshot before (λ (c : CellValue). c) (Some cell) next (Ok after) tt
            (is ∙ ap (λ (n : Option NodeCopy). seen_on n before) (whole there ∙ sym (ap (λ (b : Bool).
            if b then node_at (bytes_among cell.state.blocks) cell.state.block snapshot (log_of cell.state) else None) alike))) tt;
      }

  -- one that wanted memory, or saw the node
  pub wants : (result : Result Showing Fault) (why : Fault) → result ≡ Err why → why ≡ out_of_memory
      → SeesCell numbers snapshot before cell result
  wants result why is none =
      subst (SeesCell numbers snapshot before cell) (sym (is ∙ ap (λ (f : Fault). Err f) none)) wants_memory

  pub finds : (node : NodeCopy) (result : Result Showing Fault) → (visited before.visits).generation ≡ cell.state.generation
      → Some node ≡ own_node cell.state (up_to snapshot (log_of cell.state))
      → ((bytes : ℕ → List ℕ) → AreBytesOf cell.state bytes → NoneOut cell.state (up_to snapshot (log_of cell.state))
      → Some node ≡ node_at bytes cell.state.block snapshot (log_of cell.state))
      → IfOk result (λ after. after ≡ seen_on (Some node) before) → FailsOnly out_of_memory result
      → SeesCell numbers snapshot before cell result
  finds node (Ok after) same own whole is err =
      sees_node node after same own (λ there. whole (bytes_among cell.state.blocks) there.own there.pages) is
  finds node (Err why) same own whole is err = wants (Err why) why refl err

  -- it found the cell
  pub found : (met : ℕ → Type 0) (result : Result Showing Fault) → SeesCell numbers snapshot before cell result
      → FindsCell numbers snapshot met before result
  found met (Ok after) is = (cell, is)
  found met (Err (fault.Mismatch what)) is = NoNode cell.state is.0 is.1
  found met (Err other) is = (cell, is)

  -- or its slot was visited before
  pub marks : (met : ℕ → Type 0) (result : Result Showing Fault) (why : Fault) → result ≡ Err why
      → ((why ≡ fault.Mismatch part.Names) × met (visited before.visits).ino) ⊎ (why ≡ out_of_memory)
      → FindsCell numbers snapshot met before result
  marks met result why is (inl again) =
      subst (FindsCell numbers snapshot met before) (sym (is ∙ ap (λ (f : Fault). Err f) again.0)) (Met again.1 refl)
  marks met result why is (inr none) = found met result (wants result why is none)

-- a test breaks a visit off
pub breaks_visit : (numbers : GeometryNumbers) (snapshot : ℕ) (met : ℕ → Type 0) (before : Showing) (result : Result Showing Fault)
    (why : Fault) (what : MismatchPart) → result ≡ Err why → why ≡ fault.Mismatch what → IsMisfitVisit numbers snapshot met before what
    → FindsCell numbers snapshot met before result
breaks_visit numbers snapshot met before result why what is wrong misfit =
    subst (FindsCell numbers snapshot met before) (sym (is ∙ ap (λ (f : Fault). Err f) wrong)) misfit

-- what was visited before was so where more was
also_met : (numbers : GeometryNumbers) (snapshot : ℕ) (met more : ℕ → Type 0) (before : Showing) (what : MismatchPart)
    → ((ino : ℕ) → met ino → more ino) → IsMisfitVisit numbers snapshot met before what → IsMisfitVisit numbers snapshot more before what
also_met numbers snapshot met more before what all (NoSlot out is) = NoSlot out is
also_met numbers snapshot met more before what all (Displaced place away is) = Displaced place away is
also_met numbers snapshot met more before what all (Met again is) = Met (all (visited before.visits).ino again) is
also_met numbers snapshot met more before what all (NoNode cell none is) = NoNode cell none is

-- where there are no marks, none is set
pub unmarked : (marks : List Bool) (ino : ℕ) → marks ≡ [] → IsMarked marks ino → ⊥
unmarked marks ino none is =
    let no : IsMarked [] ino = subst (λ (ms : List Bool). IsMarked ms ino) none is in absurd (false≢true no)

-- ---- all visits

module _ (numbers : GeometryNumbers) (snapshot : ℕ) (first : Showing) where
  -- those of a show that goes on, where no other slots are marked
  abbrev pub HasCome : (ℕ → Type 0) → Showing → Type 0
  HasCome met last = (visits : List Visited) × AreVisits numbers snapshot first visits last × ((ino : ℕ) → met ino → HasMet visits ino)

  pub goes : (met more : ℕ → Type 0) (last after : Showing) → HasCome met last → FindsCell numbers snapshot met last (Ok after)
      → ((ino : ℕ) → more ino → (ino ≡ (visited last.visits).ino) ⊎ met ino) → HasCome more after
  goes met more last after come found marked = (
    record { before = last; cell = found.0 } ∷ come.0,
    (come.1, found.1),
    λ ino is. elim (marked ino is) [ inl here ↦ inl here | inr before ↦ inr (come.2 ino before) ],
  )

  pub sees_all : (met : ℕ → Type 0) (last : Showing) → HasCome met last → is_over last ≡ true
      → AreAllVisits numbers snapshot first (Ok last.seen)
  sees_all met last come over = record { visits = come.0; last = last; are = come.1; ends = (over, refl) }

  pub breaks : (met : ℕ → Type 0) (last : Showing) (result : Result (List TreeNode) Fault) (why : Fault) → HasCome met last
      → FindsCell numbers snapshot met last (Err why) → result ≡ Err why → IsMisfitOrWant why → AreAllVisits numbers snapshot first result
  breaks met last result why come found is (inl (what, wrong)) =
      let misfit : FindsCell numbers snapshot met last (Err (fault.Mismatch what)) =
      subst (λ (f : Fault). FindsCell numbers snapshot met last (Err f)) wrong found in
      subst (AreAllVisits numbers snapshot first) (sym (is ∙ ap (λ (f : Fault). Err f) wrong))
      (record {
        visits = come.0;
        last = last;
        are = come.1;
        ends = also_met numbers snapshot met (HasMet come.0) last what come.2 misfit;
      })
  breaks met last result why come found is (inr none) =
      let wanted : FindsCell numbers snapshot met last (Err out_of_memory) =
      subst (λ (f : Fault). FindsCell numbers snapshot met last (Err f)) none found in
      subst (AreAllVisits numbers snapshot first) (sym (is ∙ ap (λ (f : Fault). Err f) none))
      (record { visits = come.0; last = last; are = come.1; ends = (refl, wanted.0, wanted.1) })

-- ---- the step that comes next

never : (b : Bool) → (b || true) ≡ false → ⊥
never true is = true≢false is
never false is = true≢false is

first_true : (b : Bool) → (b || false) ≡ true → b ≡ true
first_true true is = refl
first_true false is = is

-- a show that is not over makes its next visit
goes_on : (left : ℕ) (visits : List Visit) (snapshot : ℕ) (s : Showing) → is_over (record s { left = left; visits = visits }) ≡ false
    → show_or_unpin left visits snapshot s ≡ Show snapshot s
goes_on zero visits snapshot s more = cc
goes_on (suc left) [] snapshot s more = absurd (never (suc left == 0) more)
goes_on (suc left) (visit ∷ visits) snapshot s more = refl

-- one that is over takes its pin off
is_done : (left : ℕ) (visits : List Visit) (snapshot : ℕ) (s : Showing) → is_over (record s { left = left; visits = visits }) ≡ true
    → show_or_unpin left visits snapshot s ≡ Unpin snapshot s.seen
is_done zero visits snapshot s over = refl
is_done (suc left) [] snapshot s over = refl
is_done (suc left) (visit ∷ visits) snapshot s over =
    let none = eqb-true (suc left) 0 (first_true (suc left == 0) over) in absurd (omega (arith, none))

-- ---- the run

module _ (numbers : GeometryNumbers) (actor snapshot : ℕ) (first : Showing) (pin : IsPinTurn numbers snapshot (Ok first)) where
  abbrev start : Running
  start = showing snapshot

  -- the call behind its pin, or behind a visit
  abbrev at : Showing → Running
  at s = once_pinned snapshot start s

  abbrev pinned : Made
  pinned = on_book start empty_hand true pin.found pin.left

  abbrev visit_of : Visited → Made
  visit_of v = reading (visited v.before.visits).ino (at v.before) empty_hand true (Some v.cell.state)

  abbrev turns_of : List Visited → List Made
  turns_of [] = pinned ∷ []
  turns_of (v ∷ earlier) = visit_of v ∷ turns_of earlier

  -- nothing is held between the turns
  holds_no_cell : (visits : List Visited) (ino : ℕ) → known_cell actor (turns_of visits) ino ≡ Unheld
  holds_no_cell [] ino = refl
  holds_no_cell (v ∷ earlier) ino =
      go ((visited v.before.visits).ino == ino) (known_cell actor (turns_of earlier) ino) (holds_no_cell earlier ino)
    where
      go : (b : Bool) (k : Known CellState) → k ≡ Unheld
          → seen (if b then Some v.cell.state else None) (locked actor (if b then Some None else None) k) ≡ Unheld
      go true k is = refl
      go false k is = is

  holds_no_book : (visits : List Visited) → known_book actor (turns_of visits) ≡ Unheld
  holds_no_book [] = refl
  holds_no_book (v ∷ earlier) = holds_no_book earlier

  fits_cell : (visits : List Visited) (ino : ℕ) (cell : CellState) → Fits actor (turns_of visits) (unlocked ino (Some cell))
  fits_cell visits ino cell =
      let free : known_cell actor (turns_of visits) ino ≡ Unheld = holds_no_cell visits ino in
      (subst (λ (k : Known CellState). IsAsLeft k cell) (sym free) tt, (subst (λ (k : Known CellState). IsOwn actor k None) (sym free) tt, tt))

  fits_book : (turns : List Made) (book : BookState) → known_book actor turns ≡ Unheld
      → Fits actor turns (BookIs book ∷ HolderIs None ∷ [])
  fits_book turns book free =
      (subst (λ (k : Known BookState). IsAsLeft k book) (sym free) tt, (subst (λ (k : Known BookState). IsOwn actor k None) (sym free) tt, tt))

  next_at : (s : Showing) → is_over s ≡ false → (at s).next ≡ SnapshotOrCleaner (Show snapshot s)
  next_at s more = ap (λ (step : SnapshotOrCleanerStep). SnapshotOrCleaner step) (goes_on s.left s.visits snapshot s more)

  -- the pin and the visits lead on, where each cell is whole
  leads : (visits : List Visited) (last : Showing) → AreVisits numbers snapshot first visits last
      → AllByRecursion (FoundWhole snapshot) visits → Leads numbers actor empty_hand start (turns_of visits) empty_hand (at last)
  leads [] last are whole =
      subst (λ (s : Showing). Leads numbers actor empty_hand start (pinned ∷ []) empty_hand (at s)) (sym are)
      ((refl, refl), (tt, (tt, tt)), book_there numbers pin.found, pin.turn actor start (record { next = refl; slots = refl }))
  leads (v ∷ earlier) last are whole = (
    leads earlier v.before are.0 whole.1,
    fits_cell earlier (visited v.before.visits).ino v.cell.state,
    cell_there numbers (visited v.before.visits).ino v.cell.state are.1.inside,
    are.1.turn actor (at v.before) (next_at v.before are.1.more) whole.0,
  )

  pub shown_runs : (shown : Result (List TreeNode) Fault) (all : AreAllVisits numbers snapshot first shown)
      → IsUnpinTurn numbers snapshot shown → AllByRecursion (FoundWhole snapshot) all.visits
      → IsShownBy numbers actor snapshot all.last shown
  shown_runs (Ok nodes) all unpin whole = record {
    turns = turns_of all.visits;
    last = on_book (at all.last) empty_hand true unpin.found unpin.left;
    leads = leads all.visits all.last all.are whole;
    fits = fits_book (turns_of all.visits) unpin.found (holds_no_book all.visits);
    there = book_there numbers unpin.found;
    ends = unpin.turn actor (at all.last) all.last.seen
        (ap (λ (step : SnapshotOrCleanerStep). SnapshotOrCleaner step)
        (is_done all.last.left all.last.visits snapshot all.last all.ends.0))
        (ap (λ (some : List TreeNode). answer_of_show (Ok some)) (sym all.ends.1));
  }
  shown_runs (Err (fault.Mismatch what)) all unpin whole = (turns_of all.visits, leads all.visits all.last all.are whole)
  shown_runs (Err why) all unpin whole =
      let cell = all.ends.1 in
      let visit = all.ends.2 in
      let ino = (visited all.last.visits).ino in
      let wanted : Made = reading ino (at all.last) empty_hand false (Some cell.state) in
      record {
        turns = wanted ∷ turns_of all.visits;
        last = on_book (once_shown snapshot (Err why) (at all.last)) empty_hand true unpin.found unpin.left;
        leads = (
          leads all.visits all.last all.are whole,
          fits_cell all.visits ino cell.state,
          cell_there numbers ino cell.state visit.inside,
          visit.turn actor (at all.last) (next_at all.last visit.more) tt,
        );
        fits = fits_book (wanted ∷ turns_of all.visits) unpin.found (holds_no_book all.visits);
        there = book_there numbers unpin.found;
        ends = unpin.turn actor (once_shown snapshot (Err why) (at all.last)) [] refl refl;
      }

-- ---- the call

-- a pin is refused by its turn where the snapshot does not live
pub finds_pin : (numbers : GeometryNumbers) (snapshot : ℕ) (result : Result Showing Fault) → IsPinTurn numbers snapshot result
    → FailsOnly fault.NoSnapshot result → FindsPin numbers snapshot result
finds_pin numbers snapshot (Ok first) pin err = pin
finds_pin numbers snapshot (Err why) pin err =
    subst (λ (f : Fault). FindsPin numbers snapshot (Err f)) (sym err) (subst (λ (f : Fault). IsPinTurn numbers snapshot (Err f)) err pin)

module _ (numbers : GeometryNumbers) (actor snapshot : ℕ) where
  -- one whose snapshot was not pinned
  pub not_pinned : (why : Fault) → FindsPin numbers snapshot (Err why) → (why ≡ fault.NoSnapshot) ⊎ (why ≡ fault.Mismatch part.Records)
      → IsShowRun numbers actor snapshot (Err why)
  not_pinned why found (inr wrong) =
      let misfit : FindsPin numbers snapshot (Err (fault.Mismatch part.Records)) =
      subst (λ (f : Fault). FindsPin numbers snapshot (Err f)) wrong found in
      subst (λ (f : Fault). IsShowRun numbers actor snapshot (Err f)) (sym wrong)
      (inl (broken numbers actor empty_hand (showing snapshot) [] no_hand (showing snapshot) part.Records (refl, refl)
      (Unpinnable snapshot misfit.1 refl misfit.2 refl)))
  not_pinned why found (inl none) =
      let refused : IsPinTurn numbers snapshot (Err fault.NoSnapshot) =
      subst (λ (f : Fault). FindsPin numbers snapshot (Err f)) none found in
      subst (λ (f : Fault). IsShowRun numbers actor snapshot (Err f)) (sym none)
      (one_turn numbers actor true (showing snapshot) empty_hand empty_hand refused.found refused.left (Err fault.NoSnapshot)
      (refused.turn actor (showing snapshot) (record { next = refl; slots = refl })))

  -- one that was pinned
  pinned_run : (first : Showing) → IsPinTurn numbers snapshot (Ok first) → (shown : Result (List TreeNode) Fault)
      → AreAllVisits numbers snapshot first shown → IsUnpinTurn numbers snapshot shown
      → IsShowRun numbers actor snapshot (answer_of_show shown)
  pinned_run first pin (Ok nodes) all unpin = (
    nodes,
    refl,
    record {
      first = first;
      pin = pin;
      all = all;
      unpin = unpin;
      run = shown_runs numbers actor snapshot first pin (Ok nodes) all unpin;
    },
  )
  pinned_run first pin (Err (fault.Mismatch what)) all unpin =
      inr (inl (record {
        first = first;
        pin = pin;
        all = all;
        unpin = unpin;
        run = shown_runs numbers actor snapshot first pin (Err (fault.Mismatch what)) all unpin;
      }))
  pinned_run first pin (Err (fault.OutOfMemory memory)) all unpin = record {
    first = first;
    pin = pin;
    all = all;
    unpin = unpin;
    run = shown_runs numbers actor snapshot first pin (Err (fault.OutOfMemory memory)) all unpin;
  }
  pinned_run first pin (Err other) all unpin = let no = all.ends.0 in cc

  pub show_run : (first : Showing) → IsPinTurn numbers snapshot (Ok first) → (shown : Result (List TreeNode) Fault)
      → AreAllVisits numbers snapshot first shown → (told : Result Answer Fault) → FindsUnpin numbers snapshot shown told
      → IsShowRun numbers actor snapshot told
  show_run first pin shown all told (inl gone) =
      subst (IsShowRun numbers actor snapshot) (sym gone.0)
      (inr (inr (record { first = first; pin = pin; shown = shown; all = all; book = gone.1; none = gone.2; records = refl })))
  show_run first pin shown all told (inr end) =
      subst (IsShowRun numbers actor snapshot) (sym end.0) (pinned_run first pin shown all end.1)

  -- ---- its answers and refusals

  pub told_tree : (shown : Result (List TreeNode) Fault) (told : Result Answer Fault) (answer : Answer) → told ≡ Ok answer
      → FindsUnpin numbers snapshot shown told → (tree : List TreeNode) × (answer ≡ answers.Tree tree)
  told_tree shown told answer is (inl gone) = let both = sym gone.0 ∙ is in cc
  told_tree (Ok nodes) told answer is (inr end) =
      let told_is : told ≡ Ok (answers.Tree nodes) = end.0 in let both : answers.Tree nodes ≡ answer = cc in (nodes, sym both)
  told_tree (Err why) told answer is (inr end) = let both = sym end.0 ∙ is in cc

  pub told_fault : (faults : List Fault) (shown : Result (List TreeNode) Fault) (told : Result Answer Fault) (why : Fault) → told ≡ Err why
      → FindsUnpin numbers snapshot shown told → IfErr shown IsMisfitOrWant → Contains faults out_of_memory → Contains faults why ⊎ IsMisfit why
  told_fault faults shown told why is (inl gone) err has =
      let wrong = gone.0 in let same : why ≡ fault.Mismatch part.Records = cc in inr (part.Records, same)
  told_fault faults (Ok nodes) told why is (inr end) err has = let both = sym end.0 ∙ is in cc
  told_fault faults (Err f) told why is (inr end) (inl misfit) has =
      let same : why ≡ f = cc in inr (misfit.0, same ∙ misfit.1)
  told_fault faults (Err f) told why is (inr end) (inr none) has =
      let same : f ≡ why = cc in inl (subst (Contains faults) (sym (sym same ∙ none)) has)
