-- A view is a run of one turn, on the cell that it found.
use Rattle.std.proofs.Common.{◌≡◌, ◌≢◌, ◌∙◌, ◌<◌, ◌≤◌, ◌⊎◌, ℕ, Bool, false, true, List, [], ◌∷◌, None, Some, ap, inl, inr, refl, subst, sym}
use Rattle.std.specs.Prelude.{IfErr, IfOk, MatchResult, Result, Ok, Err, is_ok}
use Rattle.nv_alloc.specs.Queue.{QueueValue}
use Rattle.nv_alloc.specs.declared.hand.Hand.{Hand}
use Rattle.nv_base.specs.Refusals.{FailsAsChecked}
use Rattle.nv_base.specs.declared.fault.Fault.{Fault}
use Rattle.nv_base.specs.declared.fault.Fault.TheVariants as fault
use Rattle.nv_base.specs.declared.fault.MismatchPart.TheVariants as part
use Rattle.nv_base.specs.declared.geometry.GeometryNumbers.{GeometryNumbers}
use Rattle.nv_calls.specs.Locked.{handles}
use Rattle.nv_calls.specs.Looks.{handle_at, nothing_looked}
use Rattle.nv_calls.specs.Nodes.{IsOwnView, IsView, view_refusal}
use Rattle.nv_calls.specs.Refusals.{Check}
use Rattle.nv_calls.specs.Views.{IsVisitRefusal, is_visit, visit_grows}
use Rattle.nv_calls.specs.declared.answer.Answer.{Answer}
use Rattle.nv_calls.specs.declared.call.Call.{Call}
use Rattle.nv_calls.specs.declared.view.View.{View}
use Rattle.nv_cell.specs.Cell.{CellState, CellValue}
use Rattle.nv_cell.specs.Pages.{AreBytesOf}
use Rattle.nv_machine.specs.Reads.{bytes_among}
use Rattle.nv_machine.specs.World.{HandState, Running, empty_hand}
use Rattle.nv_steps.specs.Parts.{CellAt, CellIs, IsThere, OwnerAt, OwnerIs}
use Rattle.nv_steps.specs.Reading.{answer_of_view, reading, unlocked}
use Rattle.nv_steps.specs.Runs.{IsRun}
use Rattle.nv_steps.proofs.States.{some_state}
use Rattle.nv_steps.proofs.VisitTurns.{none_lent, visits}
use Rattle.nv_sessions.specs.Locked.{LockedValue}
use Rattle.nv_sessions.specs.Misfits.{IsMisplaced, Misplaced}
use Rattle.nv_sessions.specs.RunCalls.{IsReadRun, told_as, viewing}
use Rattle.nv_sessions.specs.SessionRuns.{IsSessionRun}
use Rattle.nv_sessions.specs.declared.seen.Seen.{Seen}
use Rattle.nv_sessions.proofs.Holding.{broken}

-- ---- runs of a session

pub session_run : (numbers : GeometryNumbers) (actor : ℕ) (h0 h : HandState) (r0 : Running) (result : Result Answer Fault)
    → IsRun numbers actor h0 r0 result h → IsSessionRun numbers actor h0 r0 result h
session_run numbers actor h0 h r0 (Ok answer) run = run
session_run numbers actor h0 h r0 (Err (fault.Mismatch what)) run = inr run
session_run numbers actor h0 h r0 (Err other) run = run

-- ---- what a view is told

-- a list or a read is refused as its check says, or for want of memory
pub told_by : (P : View → Type 0) (check : Check) (grows : Bool) (found : Result View Fault) → IfOk found P → FailsAsChecked check found
    → grows ≡ true → MatchResult found P (IsVisitRefusal check grows)
told_by P check grows (Ok view) ok err is = ok
told_by P check grows (Err f) ok (inl refused) is = inl refused
told_by P check grows (Err f) ok (inr wanted) is = inr (wanted.0, wanted.1, is)

-- a stat or a lookup as its check says
pub told_plain : (P : View → Type 0) (check : Check) (grows : Bool) (found : Result View Fault)
    → MatchResult found P (λ f. check ≡ Err f) → MatchResult found P (IsVisitRefusal check grows)
told_plain P check grows (Ok view) told = told
told_plain P check grows (Err f) told = inl told

refused_by : (check : Check) (grows : Bool) (found : Result View Fault) → FailsAsChecked check found → grows ≡ true
    → IfErr found (IsVisitRefusal check grows)
refused_by check grows (Ok view) err is = tt
refused_by check grows (Err f) (inl refused) is = inl refused
refused_by check grows (Err f) (inr wanted) is = inr (wanted.0, wanted.1, is)

-- ---- the cell of a slot

slots_apart : (ino : ℕ) → OwnerAt ino ≢ CellAt ino
slots_apart ino is = cc

-- some state has this cell at a slot of the device, whose lock nobody has
pub cell_there : (numbers : GeometryNumbers) (ino : ℕ) (cell : CellState) → ino < numbers.inodes → IsThere numbers (unlocked ino (Some cell))
cell_there numbers ino cell inside =
    some_state numbers (CellIs ino cell ∷ OwnerIs ino None ∷ []) ((slots_apart ino, tt), (tt, tt)) (inside, (inside, tt))

-- ---- one turn

-- the hand of a call that only reads
abbrev pub no_hand : Hand
no_hand =
    let none : QueueValue = record { blocks = []; size = 0; room = 0 } in record { «data» = none; pages = none; chain = []; ino = None }

module _ (numbers : GeometryNumbers) (actor ino : ℕ) (c : Call) (reads : is_visit c ≡ true)
    (at : ino ≡ (handle_at (handles nothing_looked c) 0).ino) where
  -- the view of a slot that is not there is stale
  none_there : numbers.inodes ≤ ino → IsRun numbers actor empty_hand (viewing c) (Err fault.Stale) empty_hand
  none_there out = record {
    turns = [];
    last = reading ino (viewing c) empty_hand false None;
    leads = (refl, refl);
    fits = tt;
    there = some_state numbers [] tt tt;
    ends = none_lent numbers actor (viewing c) c ino refl refl refl reads at {A = CellValue} (λ cell. cell) None refl out;
  }

  -- a view whose slot was not held
  pub not_held : (result : Result Seen Fault) (why : Fault) → result ≡ Err why → (why ≡ fault.Stale) ⊎ (why ≡ fault.Mismatch part.Lists)
      → (why ≡ fault.Stale → numbers.inodes ≤ ino)
      → (why ≡ fault.Mismatch part.Lists → (place : LockedValue) × IsMisplaced ino place)
      → IsSessionRun numbers actor empty_hand (viewing c) (told_as result) empty_hand
  not_held result why is (inl stale) out placed =
      subst (λ (r : Result Seen Fault). IsSessionRun numbers actor empty_hand (viewing c) (told_as r) empty_hand)
      (sym (is ∙ ap (λ (f : Fault). Err f) stale)) (none_there (out stale))
  not_held result why is (inr wrong) out placed =
      let place = placed wrong in
      subst (λ (r : Result Seen Fault). IsSessionRun numbers actor empty_hand (viewing c) (told_as r) empty_hand)
      (sym (is ∙ ap (λ (f : Fault). Err f) wrong))
      (inl (broken numbers actor empty_hand (viewing c) [] no_hand (viewing c) part.Lists (refl, refl)
      (Misplaced ino place.0 at place.1 refl)))

  -- the same of a read
  pub not_read : (result : Result Seen Fault) (why : Fault) → result ≡ Err why → (why ≡ fault.Stale) ⊎ (why ≡ fault.Mismatch part.Lists)
      → (why ≡ fault.Stale → numbers.inodes ≤ ino)
      → (why ≡ fault.Mismatch part.Lists → (place : LockedValue) × IsMisplaced ino place) → IsReadRun numbers actor ino c (told_as result)
  not_read (Ok seen) why is how out placed = cc
  not_read (Err f) why is how out placed = not_held (Err f) why is how out placed

  module _ (cell : CellValue) (inside : ino < numbers.inodes) where
    abbrev IsTold : Result View Fault → Type 0
    IsTold found = MatchResult found (IsView (bytes_among cell.state.blocks) ino cell c)
        (IsVisitRefusal (view_refusal (bytes_among cell.state.blocks) ino cell c) (visit_grows c))

    -- a view of a cell that was found
    viewed : (found : Result View Fault) → IsTold found
        → IsRun numbers actor empty_hand (viewing c) (answer_of_view found) empty_hand
    viewed found told = record {
      turns = [];
      last = reading ino (viewing c) empty_hand (is_ok found) (Some cell.state);
      leads = (refl, refl);
      fits = (tt, (tt, tt));
      there = cell_there numbers ino cell.state inside;
      ends = visits numbers actor (viewing c) c ino refl refl refl reads at cell found told;
    }

    held_view : (result : Result Seen Fault) (found : Result View Fault) → told_as result ≡ answer_of_view found → IsTold found
        → IsSessionRun numbers actor empty_hand (viewing c) (told_as result) empty_hand
    held_view result found same told =
        session_run numbers actor empty_hand empty_hand (viewing c) (told_as result)
        (subst (λ (a : Result Answer Fault). IsRun numbers actor empty_hand (viewing c) a empty_hand) (sym same) (viewed found told))

    -- of a view that wants no memory
    pub held_plain : (result : Result Seen Fault) (found : Result View Fault) → told_as result ≡ answer_of_view found
        → ((bytes : ℕ → List ℕ) → MatchResult found (IsView bytes ino cell c) (λ f. view_refusal bytes ino cell c ≡ Err f))
        → IsSessionRun numbers actor empty_hand (viewing c) (told_as result) empty_hand
    held_plain result found same told =
        let bytes = bytes_among cell.state.blocks in
        held_view result found same
        (told_plain (IsView bytes ino cell c) (view_refusal bytes ino cell c) (visit_grows c) found (told bytes))

    -- of one that may want some
    pub held_grown : (result : Result Seen Fault) (found : Result View Fault) → told_as result ≡ answer_of_view found
        → ((bytes : ℕ → List ℕ) → IfOk found (IsView bytes ino cell c))
        → ((bytes : ℕ → List ℕ) → FailsAsChecked (view_refusal bytes ino cell c) found) → visit_grows c ≡ true
        → IsSessionRun numbers actor empty_hand (viewing c) (told_as result) empty_hand
    held_grown result found same view err grows =
        let bytes = bytes_among cell.state.blocks in
        held_view result found same
        (told_by (IsView bytes ino cell c) (view_refusal bytes ino cell c) (visit_grows c) found (view bytes) (err bytes) grows)

    -- the same of a read, whose bytes are those of the cell's own blocks
    read_run : (found : Result View Fault) → IfOk found (IsOwnView ino cell c)
        → (AreBytesOf cell.state (bytes_among cell.state.blocks) → IsTold found) → IfErr found (IsVisitRefusal
        (view_refusal (bytes_among cell.state.blocks) ino cell c) (visit_grows c))
        → IsReadRun numbers actor ino c (answer_of_view found)
    read_run (Ok view) own told err = record {
      cell = cell;
      there = cell_there numbers ino cell.state inside;
      own = own.found;
      turn = λ are. visits numbers actor (viewing c) c ino refl refl refl reads at cell (Ok view) (told are);
    }
    read_run (Err fault) own told err =
        session_run numbers actor empty_hand empty_hand (viewing c) (Err fault) (viewed (Err fault) err)

    pub held_read : (result : Result Seen Fault) (found : Result View Fault) → told_as result ≡ answer_of_view found
        → IfOk found (IsOwnView ino cell c)
        → ((bytes : ℕ → List ℕ) → AreBytesOf cell.state bytes → IfOk found (IsView bytes ino cell c))
        → ((bytes : ℕ → List ℕ) → FailsAsChecked (view_refusal bytes ino cell c) found) → visit_grows c ≡ true
        → IsReadRun numbers actor ino c (told_as result)
    held_read result found same own view err grows =
        let bytes = bytes_among cell.state.blocks in
        let check = view_refusal bytes ino cell c in
        subst (IsReadRun numbers actor ino c) (sym same)
        (read_run found own (λ are. told_by (IsView bytes ino cell c) check (visit_grows c) found (view bytes are) (err bytes) grows)
        (refused_by check (visit_grows c) found (err bytes) grows))
