-- Why a call that is made alone is refused: for what the nodes of its start refuse, or for want of a number, of blocks, of a
-- commit number or of memory, each where the row, the pool and the plain world of its start say so.
use Rattle.std.proofs.Common.{◌≡◌, ◌⊎◌, ◌∙◌, ℕ, zero, suc, ◌+◌, ◌-◌, ◌<◌, ◌≤◌, Bool, true, false, List, [], ◌∷◌, Option, Some, ap, arith, inl, inr, length, nat_lt, refl, subst, sym}
use Rattle.std.specs.Prelude.{◌||◌, not, Err, Ok, nat_le}
use Rattle.std.proofs.lemmas.Bool.{false≢true, true≢false}
use Rattle.nv_alloc.specs.Block.{BlockValue}
use Rattle.nv_base.specs.Memory.{out_of_memory}
use Rattle.nv_base.specs.declared.fault.Fault.{Fault}
use Rattle.nv_base.specs.declared.fault.Fault.TheVariants.{CommitLimit, Contended, NoInode, NoSpace}
use Rattle.nv_base.specs.declared.limits.TheConstants.{NUMBER}
use Rattle.nv_base.specs.declared.numbers.Handle.{Handle}
use Rattle.nv_calls.specs.AllCalls.{early, is_nothing, late, look_refusal, looked, refusal}
use Rattle.nv_calls.specs.Plain.{Change}
use Rattle.nv_calls.specs.Refusals.{Check as Tests, and_then, kind_of, passes, want_directory, want_lawful}
use Rattle.nv_calls.specs.declared.call.Call.{Call}
use Rattle.nv_calls.specs.declared.call.Call.TheVariants as call
use Rattle.nv_calls.specs.declared.plan.InodePlan.{InodePlan}
use Rattle.nv_cell.specs.Cell.{CellState}
use Rattle.nv_entry.specs.declared.node.NodeCopy.{NodeCopy}
use Rattle.nv_machine.specs.Hands.{is_going}
use Rattle.nv_machine.specs.Kinds.{asked_list, check_ending, look_tests, result_by}
use Rattle.nv_machine.specs.Locks.{AreSlots}
use Rattle.nv_machine.specs.Pages.{HasLogPages}
use Rattle.nv_machine.specs.Reads.{copies, pages_wanted, plan_by, written_slots}
use Rattle.nv_machine.specs.Sequence.{appending, beginning, locking, looking, publishing, retiring}
use Rattle.nv_machine.specs.Sequence as sequence
use Rattle.nv_machine.specs.Step.{ending_at, is_numbered, kind_turn, visit_grows}
use Rattle.nv_machine.specs.World.{Answers, Append, Check, Cleans, Close, Drains, Ending, Enter, Give, HandState, Leave, Lock, Look, SnapshotOrCleaner, Next, Number, Open, BoundAnew, Publish, Ready, Refuses, Retire, ReturnNumber, Running, Shared, TakeBlocks, TakeLogPages, Turn, Unlock, Visit, go_to, list_at}
use Rattle.nv_machine.proofs.DecidedNext as told
use Rattle.nv_machine.proofs.LoopSteps.{Commits, appending_any, is_on_files, locking_any, looking_any, publishing_any, retiring_any}
use Rattle.nv_machine.proofs.NextSteps.{Known, KnowsNext}
use Rattle.nv_machine.proofs.StepWalk.{WaysOf, any_takes, walk_of}
use Rattle.nv_machine.proofs.StepWays.{After, Closes, Telling, any_ends, any_lasts, any_overs, any_rests, by_last, by_taking, is_taking, noted}
use Rattle.nv_machine.proofs.StepWork.{number_work, work}
use Rattle.nv_serial.specs.Law.{grows_nothing}
use Rattle.nv_serial.specs.Row.{data_for, plan_by_row, row_at}
use Rattle.nv_serial.proofs.AloneStages.{PlainState}
use Rattle.nv_serial.proofs.CommitStages.{ArePlanned}
use Rattle.nv_serial.proofs.MadeTaken.{IsMade, MadeStage, number_for}
use Rattle.nv_serial.proofs.Takes.{Stage, free_short, planned}

-- ---- the tests

look_refuses : (block : ℕ) (nodes : Handle → Option NodeCopy) (c : Call) (fault : Fault) → look_refusal nodes c ≡ Err fault
    → refusal block nodes c ≡ Err fault
look_refuses block nodes (call.Unlink dir name) fault e =
    ap (λ tests. and_then tests (late block nodes (looked nodes (call.Unlink dir name)) (call.Unlink dir name))) e
look_refuses block nodes (call.Rmdir dir name) fault e =
    ap (λ tests. and_then tests (late block nodes (looked nodes (call.Rmdir dir name)) (call.Rmdir dir name))) e
look_refuses block nodes (call.Rename from old to new) fault e =
    ap (λ tests. and_then (and_then tests (want_directory (kind_of (nodes to)) (want_lawful new passes)))
    (late block nodes (looked nodes (call.Rename from old to new)) (call.Rename from old to new))) e
look_refuses block nodes other fault e = cc

look_fails : (place : ℕ) (tests : Tests) (fault : Fault) → look_tests place tests ≡ Err fault → tests ≡ Err fault
look_fails zero tests fault e = e
look_fails (suc place) tests fault e = cc

-- a call that grows something: one that is no visit, or a visit that grows
grows_some : (c : Call) → told.IsNoVisit c → grows_nothing c ≡ false
grows_some (call.Stat handle) none = absurd (none.0 refl)
grows_some (call.Lookup dir name) none = absurd (none.0 refl)
grows_some (call.SnapshotOrCleaner what) none = absurd (true≢false none.1)
grows_some other none = refl

visit_some : (c : Call) (granted : Bool) → beginning c ≡ sequence.Visits → (granted || not (visit_grows c)) ≡ false → grows_nothing c ≡ false
visit_some (call.Read file offset count) granted visits lacks = refl
visit_some (call.List dir) granted visits lacks = refl
visit_some (call.Stat handle) true visits lacks = absurd (true≢false lacks)
visit_some (call.Stat handle) false visits lacks = absurd (true≢false lacks)
visit_some (call.Lookup dir name) true visits lacks = absurd (true≢false lacks)
visit_some (call.Lookup dir name) false visits lacks = absurd (true≢false lacks)
visit_some other granted visits lacks = cc

check_fails : (first : Tests) (same : Bool) (tests : Tests) (numbered : Bool) (changes : List Change) (fault : Fault)
    → check_ending first same tests numbered changes ≡ Some (Refuses fault)
    → (first ≡ Err fault) ⊎ ((tests ≡ Err fault) ⊎ ((fault ≡ NoInode) × (numbered ≡ false)))
check_fails (Err other) same tests numbered changes fault e = inl cc
check_fails (Ok passed) false tests numbered changes fault e = cc
check_fails (Ok passed) true (Err other) numbered changes fault e = inr (inl cc)
check_fails (Ok passed) true (Ok all) false changes fault e = inr (inr (cc, refl))
check_fails (Ok passed) true (Ok all) true [] fault e = cc
check_fails (Ok passed) true (Ok all) true (change ∷ changes) fault e = cc

module _ (block actor : ℕ) (s0 : Shared) (c : Call) (b0 : PlainState) (some : 0 < length s0.lists) where
  -- ---- the causes

  -- the row has fewer blocks than the data and the log pages of the plan
  pub record IsShort : Type 0 where
    pub something : is_nothing c ≡ false
    pub made : Handle
    pub new : IsMade block actor s0 c made
    pub slots : List ℕ
    pub are : AreSlots (length s0.cells) slots
    pub short : length (row_at s0 actor) < data_for block s0 c + pages_wanted s0 slots (plan_by_row block s0 actor c made)

  -- there are enough, and no further commit number
  pub record IsAtLimit : Type 0 where
    pub something : is_nothing c ≡ false
    pub made : Handle
    pub new : IsMade block actor s0 c made
    pub slots : List ℕ
    pub planned : ArePlanned block actor s0 c b0 (plan_by_row block s0 actor c made) slots
    pub enough : data_for block s0 c + pages_wanted s0 slots (plan_by_row block s0 actor c made) ≤ length (row_at s0 actor)
    pub limit : nat_le NUMBER s0.book.commit ≡ true

  pub data Why (fault : Fault) : Type 0 where
    Plainly : refusal block (copies s0) c ≡ Err fault → Why fault
    Late : fault ≡ Contended → Why fault
    Memory : (fault ≡ out_of_memory) × (grows_nothing c ≡ false) → Why fault
    Numberless : (fault ≡ NoInode) × (is_numbered (beginning c) (number_for block actor s0 c) ≡ false) → Why fault
    Blockless : (fault ≡ NoSpace) × IsShort → Why fault
    Limited : (fault ≡ CommitLimit) × IsAtLimit → Why fault

  abbrev pub WhyEnds : Ending → Type 0
  WhyEnds (Refuses fault) = Why fault
  WhyEnds other = Unit {0}

  abbrev pub WhyStage : Known
  WhyStage (Unlock place) s h r = WhyEnds r.ending
  WhyStage (Give cpu) s h r = WhyEnds r.ending
  WhyStage ReturnNumber s h r = WhyEnds r.ending
  WhyStage other s h r = Unit {0}

  abbrev pub WhyTold : Telling
  WhyTold (Ok found) s h = Unit {0}
  WhyTold (Err fault) s h = Why fault

  abbrev pub OnWhy : Turn → Type 0
  OnWhy t = After (KnowsNext WhyStage) WhyTold t

  why_told : (s : Shared) (h : HandState) (r : Running) (e : Ending) → WhyEnds e → WhyTold (result_by e r) s h
  why_told s h r Answers why = tt
  why_told s h r (Refuses fault) why = why
  why_told s h r BoundAnew why = Late refl
  why_told s h r (Drains draining) why = tt
  why_told s h r (Cleans cleaned) why = tt

  why_closes : {s : Shared} {h : HandState} {r : Running} (e : Ending) → WhyEnds e → Closes (KnowsNext WhyStage) WhyTold s h r e
  why_closes {s = s} {h = h} {r = r} e why = record {
    last = by_last (λ (n : Next). WhyStage n s h (record r { ending = e; next = n })) (λ place. why) (λ cpu. why) why;
    told = why_told s h r e why;
    again = λ n over some. tt;
    picks = λ d left drains some. tt;
  }

  -- what is known of a step
  pub record Knows (k : Next) (s : Shared) (h : HandState) (r : Running) : Type 0 where
    pub call_is : r.call ≡ c
    pub stage : told.Stage k r.ending r.call
    pub answers : is_going k ≡ true → r.ending ≡ Answers
    pub paged : HasLogPages k block s h r
    pub slots : AreSlots (length s.cells) r.slots
    pub row : Stage block actor s0 c some k s h r
    pub made : MadeStage block actor s0 c k s h r
    pub visit : k ≡ Visit → s.cells ≡ s0.cells
    pub limited : k ≡ Enter → nat_le NUMBER s.book.commit ≡ true → IsAtLimit

  -- ---- the kinds

  module _ (granted : Bool) (s : Shared) (h : HandState) (r : Running) where
    abbrev all : List ℕ
    all = row_at s0 actor

    walks : (k : Next) → WaysOf (KnowsNext WhyStage) WhyTold k block actor granted s h r → is_on_files k ≡ true
        → OnWhy (kind_turn k block actor granted s h r)
    walks k ways is = walk_of (KnowsNext WhyStage) WhyTold block actor s h r k granted ways is

    by_call : r.call ≡ c → grows_nothing r.call ≡ false → grows_nothing c ≡ false
    by_call call_is grows = ap grows_nothing (sym call_is) ∙ grows

    -- by the nodes of the start
    plainly : {fault : Fault} → s.cells ≡ s0.cells → r.call ≡ c → refusal block (copies s) r.call ≡ Err fault → Why fault
    plainly cells call_is e = Plainly (
        ap (λ (cs : List CellState). let x : Shared = record s0 { cells = cs } in refusal block (copies x) c) (sym cells)
        ∙ ap (λ (d : Call). refusal block (copies s) d) (sym call_is) ∙ e)

    checked : Knows Check s h r → (e : Ending) → ending_at block s h r ≡ Some e → WhyEnds e
    checked knows (Refuses fault) by = go (check_fails _ _ _ _ _ fault by) where
      go : (early (copies s) r.call ≡ Err fault)
          ⊎ ((refusal block (copies s) r.call ≡ Err fault) ⊎ ((fault ≡ NoInode) × (is_numbered (beginning r.call) h.ino ≡ false)))
          → Why fault
      go (inl e) =
          plainly knows.row.same.cells_are knows.call_is
          (ap (λ (tests : Tests). and_then tests (late block (copies s) (looked (copies s) r.call) r.call)) e)
      go (inr (inl e)) = plainly knows.row.same.cells_are knows.call_is e
      go (inr (inr none)) = Numberless (
        none.0,
        ap (λ (o : Option ℕ). is_numbered (beginning c) o) (sym knows.made.ino_is)
            ∙ ap (λ (d : Call). is_numbered (beginning d) h.ino) (sym knows.call_is) ∙ none.1,
      )
    checked knows other by = tt

    -- a taking goes on to a taking
    module _ (t : Shared) (i : HandState) (q : Running) (next : Next) (on : is_taking next ≡ true) where
      taking_on : WhyStage next t i q
      taking_on = by_taking (λ (x : Next). WhyStage x t i q) (λ asked. tt) (λ asked. tt) tt next on

    -- ---- short

    module _ (asked : ℕ) where
      slots_there : (k : Next) → Knows k s h r → s.cells ≡ s0.cells → AreSlots (length s0.cells) r.slots
      slots_there k knows cells = subst (λ (cs : List CellState). AreSlots (length cs) r.slots) cells knows.slots

      short_blocks : Knows (TakeBlocks asked) s h r → (n : ℕ)
          → r.wanted - length (list_at s (asked_list (length s.lists) actor asked)).blocks ≡ suc n
          → nat_lt (asked + 1) (length s.lists) ≡ false → Why NoSpace
      short_blocks knows n is last =
          let taking = knows.row.0 in
          let sum = free_short block actor s0 c some asked s h r taking knows.row.1 n is last in
          let none = ap (λ (bs : List BlockValue). length bs) knows.row.2 in
          Blockless (
            refl,
            record {
              something = ap is_nothing (sym knows.call_is) ∙ knows.stage;
              made = r.made;
              new = knows.made;
              slots = r.slots;
              are = slots_there (TakeBlocks asked) knows taking.same.cells_are;
              short = omega (arith, sum, none, knows.row.3);
            },
          )

      short_pages : Knows (TakeLogPages asked) s h r → (n : ℕ)
          → r.wanted - length (list_at s (asked_list (length s.lists) actor asked)).blocks ≡ suc n
          → nat_lt (asked + 1) (length s.lists) ≡ false → Why NoSpace
      short_pages knows n is last =
          let taking = knows.row.0 in
          let sum = free_short block actor s0 c some asked s h r taking knows.row.1 n is last in
          let plan_same = planned block actor s0 c some asked s h r taking knows.row.2 in
          let wanted_same : pages_wanted s r.slots (plan_by block s h r) ≡ pages_wanted s0 r.slots (plan_by_row block s0 actor c r.made) =
          ap (λ (p : List InodePlan). pages_wanted s r.slots p) plan_same
          ∙ ap (λ (cs : List CellState). let x : Shared = record s0 { cells = cs } in
          pages_wanted x r.slots (plan_by_row block s0 actor c r.made)) taking.same.cells_are in
          Blockless (
            refl,
            record {
              something = ap is_nothing (sym knows.call_is) ∙ knows.stage;
              made = r.made;
              new = knows.made;
              slots = r.slots;
              are = slots_there (TakeLogPages asked) knows taking.same.cells_are;
              short = omega (arith, sum, wanted_same, knows.row.2, knows.paged);
            },
          )

    quietly : (t : Shared) (i : HandState) (q : Running) → Commits (λ (k : Next). WhyStage k t i q)
    quietly t i q = record { append = λ place. tt; opens = tt; publish = λ place. tt; close = tt; retire = λ place. tt; leave = tt }

    abbrev W : List ℕ
    W = written_slots r

    pub kind_why : (k : Next) → is_on_files k ≡ true → Knows k s h r → WhyStage k s h r → OnWhy (kind_turn k block actor granted s h r)
    kind_why Number files knows on =
        let q = noted Number block s h r in
        let d = number_work s.pool.numbers s h in
        walks Number (locking_any (λ (k : Next). WhyStage k d.shared d.hand (go_to (locking 0 q.slots) q)) (λ place. tt) tt 0 q.slots) refl
    kind_why (Look place) files knows on =
        let q = noted (Look place) block s h r in
        walks (Look place) (
          λ fault free by. any_ends (why_closes (Refuses fault) (plainly knows.row.same.cells_are knows.call_is
              (look_refuses block (copies s) r.call fault (look_fails place (look_refusal (copies s) r.call) fault by)))),
          λ clear. looking_any (λ (k : Next). WhyStage k s h (go_to (looking (place + 1) q) q)) (λ place. tt) (λ place. tt) tt (place + 1) q,
        ) refl
    kind_why (Lock place) files knows on =
        let d = work (Lock place) block actor s h r in
        walks (Lock place) (λ clear. locking_any (λ (k : Next). WhyStage k d.shared d.hand (go_to (locking (place + 1) r.slots) r))
        (λ place. tt) tt (place + 1) r.slots) refl
    kind_why Check files knows on = walks Check (
      λ e by. any_ends (why_closes e (checked knows e by)),
      λ none lacks. any_ends (why_closes (Refuses out_of_memory) (Memory (refl, by_call knows.call_is (grows_some r.call knows.stage)))),
      λ none. any_takes (KnowsNext WhyStage) WhyTold block actor s h r Check (λ n next taking. taking_on _ _ _ next taking) refl,
    ) refl
    kind_why (TakeBlocks asked) files knows on = walks (TakeBlocks asked) (
      any_takes (KnowsNext WhyStage) WhyTold block actor s h r (TakeBlocks asked) (λ n next taking. taking_on _ _ _ next taking) refl,
      λ n is last. any_ends (why_closes (Refuses NoSpace) (short_blocks asked knows n is last)),
    ) refl
    kind_why (TakeLogPages asked) files knows on = walks (TakeLogPages asked) (
      any_takes (KnowsNext WhyStage) WhyTold block actor s h r (TakeLogPages asked) (λ n next taking. taking_on _ _ _ next taking) refl,
      λ n is last. any_ends (why_closes (Refuses NoSpace) (short_pages asked knows n is last)),
    ) refl
    kind_why Ready files knows on = walks Ready (
      λ lacks. any_ends (why_closes (Refuses out_of_memory) (Memory (refl, by_call knows.call_is (grows_some r.call (told.no_visit r.call knows.stage))))),
      tt,
    ) refl
    kind_why Enter files knows on =
        let d = work Enter block actor s h r in
        let t : Running = go_to (appending 0 W) (noted Enter block s h r) in
        walks Enter (
          λ free last. any_ends (why_closes (Refuses CommitLimit) (Limited (refl, knows.limited refl last))),
          λ clear lacks. any_ends (why_closes (Refuses out_of_memory) (Memory (refl, by_call knows.call_is (grows_some r.call (told.no_visit r.call knows.stage))))),
          λ clear. appending_any (λ (n : Next). WhyStage n d.shared d.hand t) (quietly d.shared d.hand t) 0 W,
        ) refl
    kind_why (Append place) files knows on =
        let d = work (Append place) block actor s h r in let t : Running = go_to (appending (place + 1) W) r in
        walks (Append place) (appending_any (λ (n : Next). WhyStage n d.shared d.hand t) (quietly d.shared d.hand t) (place + 1) W) refl
    kind_why Open files knows on =
        let d = work Open block actor s h r in let t : Running = go_to (publishing 0 W) r in
        walks Open (publishing_any (λ (n : Next). WhyStage n d.shared d.hand t) (quietly d.shared d.hand t) 0 W) refl
    kind_why (Publish place) files knows on =
        let d = work (Publish place) block actor s h r in let t : Running = go_to (publishing (place + 1) W) r in
        walks (Publish place) (publishing_any (λ (n : Next). WhyStage n d.shared d.hand t) (quietly d.shared d.hand t) (place + 1) W) refl
    kind_why Close files knows on =
        let d = work Close block actor s h r in let t : Running = go_to (retiring 0 W) r in
        walks Close (retiring_any (λ (n : Next). WhyStage n d.shared d.hand t) (quietly d.shared d.hand t) 0 W) refl
    kind_why (Retire place) files knows on =
        let d = work (Retire place) block actor s h r in let t : Running = go_to (retiring (place + 1) W) r in
        walks (Retire place) (retiring_any (λ (n : Next). WhyStage n d.shared d.hand t) (quietly d.shared d.hand t) (place + 1) W) refl
    kind_why Leave files knows on =
        walks Leave (any_ends (why_closes r.ending (subst WhyEnds (sym (knows.answers refl)) tt))) refl
    kind_why (Unlock place) files knows on = walks (Unlock place) (λ more. on, λ past. any_overs (why_closes r.ending on)) refl
    kind_why (Give cpu) files knows on = walks (Give cpu) (any_rests (why_closes r.ending on)) refl
    kind_why ReturnNumber files knows on = walks ReturnNumber (any_lasts (why_closes r.ending on)) refl
    kind_why Visit files knows on = walks Visit (
      λ fault free by. any_ends (why_closes (Refuses fault) (plainly (knows.visit refl) knows.call_is by)),
      λ free passed lacks. any_ends (why_closes (Refuses out_of_memory) (Memory (refl, by_call knows.call_is (visit_some r.call granted knows.stage lacks)))),
      λ free passed. tt,
    ) refl
    kind_why (SnapshotOrCleaner step) files knows on = absurd (false≢true files)
