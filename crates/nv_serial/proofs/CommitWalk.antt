-- Every step of a call that is made alone, by what it has made of logs, records and plain world so far.
use Rattle.std.proofs.Common.{◌≡◌, ◌∙◌, ℕ, ◌+◌, ◌<◌, ◌≤◌, Bool, true, false, List, [], ◌∷◌, Option, Some, None, ap, arith, if◌then◌else◌, inl, inr, length, nat_lt, refl, slice_index_or, subst, sym}
use Rattle.std.specs.Prelude.{Err, Ok, nat_le}
use Rattle.std.proofs.lemmas.Bool.{ltb-false}
use Rattle.nv_alloc.specs.Numbers.{IsRising}
use Rattle.nv_base.specs.declared.fault.Fault.{Fault}
use Rattle.nv_base.specs.declared.limits.TheConstants.{NUMBER}
use Rattle.nv_base.specs.declared.numbers.Handle.{Handle}
use Rattle.nv_book.specs.Book.{BookState}
use Rattle.nv_calls.proofs.Nothing.{told_nothing}
use Rattle.nv_calls.specs.AllCalls.{answer, effect, is_nothing, refusal}
use Rattle.nv_calls.specs.Plain.{Change}
use Rattle.nv_calls.specs.Refusals.{Check as Tests, passes}
use Rattle.nv_calls.specs.declared.call.Call.{Call}
use Rattle.nv_calls.specs.declared.call.Call.TheVariants as call
use Rattle.nv_calls.specs.declared.plan.InodePlan.{InodePlan}
use Rattle.nv_cell.specs.Cell.{CellState}
use Rattle.nv_entry.specs.declared.node.NodeCopy.{NodeCopy}
use Rattle.nv_epoch.specs.SnapList.{ids}
use Rattle.nv_machine.specs.Hands.{is_going}
use Rattle.nv_machine.specs.Kinds.{check_ending, result_by}
use Rattle.nv_machine.specs.Locks.{IsInside, commits_at}
use Rattle.nv_machine.specs.Pages.{HasLogPages}
use Rattle.nv_machine.specs.PlainRun.{Nothing, Numbers, Plain, done}
use Rattle.nv_machine.specs.Reads.{copies, pages_wanted, slot_at, written_slots}
use Rattle.nv_machine.specs.Sequence as sequence
use Rattle.nv_machine.specs.Sequence.{appending, beginning, locking, looking, opening}
use Rattle.nv_machine.specs.Step.{ending_at, kind_turn, made_in}
use Rattle.nv_machine.specs.World.{Answers, Append, Check, Cleans, Close, Drains, Ending, Ends, Enter, Give, HandState, Leave, Lock, Look, SnapshotOrCleaner, Moves, Next, Number, Open, BoundAnew, Publish, Ready, Refuses, Retire, ReturnNumber, Running, Shared, TakeBlocks, TakeLogPages, Turn, Unlock, Visit, Waits, go_to, no_cell}
use Rattle.nv_machine.proofs.DecidedNext as told
use Rattle.nv_machine.proofs.LoopSteps.{by_test, is_on_files, locking_any, looking_any}
use Rattle.nv_machine.proofs.NextSteps.{KnowsNext}
use Rattle.nv_machine.proofs.StepWalk.{WaysOf, any_takes, walk_by}
use Rattle.nv_machine.proofs.StepWays.{AfterBy, Closes, Going, IsBlocked, Telling, any_ends, any_lasts, any_overs, any_rests, by_last, by_taking, is_taking, noted}
use Rattle.nv_machine.proofs.StepWork.{by_back, by_number, number_work, work}
use Rattle.nv_serial.specs.Row.{IsPlannedByRow, data_for, plan_by_row, row_at}
use Rattle.nv_serial.proofs.AloneStages.{PlainState, beside_by, beside_then}
use Rattle.nv_serial.proofs.CommitStages.{ArePlanned, CommitStage, EndsSo, IsCommitted, IsEnded, LogsOf, ToldSo, UnchangedIn, UnderWayIn, committed, records_on}
use Rattle.nv_serial.proofs.MadeTaken.{IsMade}
use Rattle.nv_serial.proofs.CommitTurns.{IsErasedOver, append_stands, close_stands, open_stands, publish_stands, retire_stands}

-- ---- how a check may end a call

abbrev ChecksSo : Ending → Tests → List Change → Type 0
ChecksSo Answers tests changes = (tests ≡ passes) × (changes ≡ [])
ChecksSo (Refuses fault) tests changes = Unit {0}
ChecksSo BoundAnew tests changes = Unit {0}
ChecksSo (Drains draining) tests changes = ⊥
ChecksSo (Cleans cleaned) tests changes = ⊥

checks_so : (first : Tests) (same : Bool) (tests : Tests) (numbered : Bool) (changes : List Change) (e : Ending)
    → check_ending first same tests numbered changes ≡ Some e → ChecksSo e tests changes
checks_so first same tests numbered changes (Refuses fault) is = tt
checks_so first same tests numbered changes BoundAnew is = tt
checks_so (Err fault) same tests numbered changes e is = cc
checks_so (Ok passed) false tests numbered changes e is = cc
checks_so (Ok passed) true (Err fault) numbered changes e is = cc
checks_so (Ok passed) true (Ok all) false changes e is = cc
checks_so (Ok passed) true (Ok all) true [] Answers is = (refl, refl)
checks_so (Ok passed) true (Ok all) true [] e is = cc
checks_so (Ok passed) true (Ok all) true (change ∷ changes) e is = cc

-- a call that passes and has no effect has nothing to commit
nothing_done : (block : ℕ) (nodes : Handle → Option NodeCopy) (made : Handle) (c : Call) → refusal block nodes c ≡ passes
    → effect nodes made c ≡ [] → is_nothing c ≡ true
nothing_done block nodes made c pass none = go (is_nothing c) refl where
  go : (b : Bool) → is_nothing c ≡ b → b ≡ true
  go true e = refl
  go false e =
      let some = (told_nothing block nodes (record { made = made; runs = [] }) c pass).some_effect e in
      absurd (omega (arith, some, ap (λ (l : List Change). length l) none))

visits_nothing : (c : Call) → beginning c ≡ sequence.Visits → is_nothing c ≡ true
visits_nothing (call.Read file offset count) e = refl
visits_nothing (call.Stat handle) e = refl
visits_nothing (call.List dir) e = refl
visits_nothing (call.Lookup dir name) e = refl
visits_nothing (call.SnapshotOrCleaner what) e = refl
visits_nothing other e = cc

module _ (block actor : ℕ) (s0 : Shared) (c : Call) (b0 : PlainState) where
  abbrev pub Stands : PlainState → Next → Shared → HandState → Running → Type 0
  Stands now = CommitStage block actor s0 c b0 now

  abbrev pub Told : PlainState → Telling
  Told now = ToldSo block actor s0 c b0 now

  abbrev Same : PlainState → Shared → Type 0
  Same now s = UnchangedIn block actor s0 c b0 now s

  -- ---- the last steps

  ended : (now : PlainState) (s : Shared) (h : HandState) (r : Running) (e : Ending)
      → EndsSo block actor s0 c b0 e now s.cells s.book r.made r.call → Told now (result_by e r) s h
  ended now s h r Answers so = go so.1 where
    go : IsEnded block actor s0 c b0 now s.cells s.book r.made → Told now (result_by Answers r) s h
    go (inl nothing) = inl nothing
    go (inr whole) = inr (record {
      made = r.made;
      some = whole.0;
      commits = whole.1;
      told = ap (answer (λ handle. None) r.made) so.0;
    })
  ended now s h r (Refuses fault) so = so
  ended now s h r BoundAnew so = so
  ended now s h r (Drains draining) so = absurd so
  ended now s h r (Cleans cleaned) so = absurd so

  closes_so : (now : PlainState) {s : Shared} {h : HandState} {r : Running} (e : Ending)
      → EndsSo block actor s0 c b0 e now s.cells s.book r.made r.call → Closes (KnowsNext (Stands now)) (Told now) s h r e
  closes_so now {s = s} {h = h} {r = r} e so = record {
    last = by_last (λ (n : Next). Stands now n s h (record r { ending = e; next = n })) (λ place. so) (λ cpu. so) so;
    told = ended now s h r e so;
    again = λ n over some. subst (λ (x : Ending). EndsSo block actor s0 c b0 x now s.cells s.book r.made r.call) over so;
    picks = λ d left drains some. subst (λ (x : Ending). EndsSo block actor s0 c b0 x now s.cells s.book r.made r.call) drains so;
  }

  -- what is known of the step besides
  pub record IsFit (k : Next) (s : Shared) (h : HandState) (r : Running) : Type 0 where
    pub call_is : r.call ≡ c
    pub stage : told.Stage k r.ending r.call
    pub answers : is_going k ≡ true → r.ending ≡ Answers
    pub rising : IsRising (written_slots r)
    pub low : (place : ℕ) → place < length (written_slots r) → slot_at (written_slots r) place < length s.cells
    pub inside : IsInside k r
    pub paged : HasLogPages k block s h r
    pub erases : IsErasedOver k s h r

  module _ (now : PlainState) (granted : Bool) (s : Shared) (h : HandState) (r : Running) where
    abbrev P : Going
    P = KnowsNext (Stands now)

    abbrev E : Telling
    E = Told now

    refused : {q : Running} {fault : Fault} → Same now s → Closes P E s h q (Refuses fault)
    refused {fault = fault} same = closes_so now (Refuses fault) same

    -- ---- up to what makes a call ready

    module _ (same : Same now s) where
      number_ways : WaysOf P E Number block actor granted s h r
      number_ways =
          let q = noted Number block s h r in
          let d = number_work s.pool.numbers s h in
          let then_same : Same now d.shared =
          by_number (λ (t : Shared) (i : HandState). Same now t) s h (λ numbers ino. same) in
          locking_any (λ (k : Next). Stands now k d.shared d.hand (go_to (locking 0 q.slots) q)) (λ place. then_same) then_same 0 q.slots

      look_ways : (place : ℕ) → WaysOf P E (Look place) block actor granted s h r
      look_ways place = (
        λ fault free by. any_ends (refused same),
        λ clear. (let q = noted (Look place) block s h r in
            looking_any (λ (k : Next). Stands now k s h (go_to (looking (place + 1) q) q)) (λ place. same) (λ place. same) same (place + 1) q),
      )

      lock_ways : (place : ℕ) → WaysOf P E (Lock place) block actor granted s h r
      lock_ways place = λ clear. (
          let d = work (Lock place) block actor s h r in
          locking_any (λ (k : Next). Stands now k d.shared d.hand (go_to (locking (place + 1) r.slots) r)) (λ place. same) same (place + 1)
          r.slots)

      checked : (e : Ending) (made : Handle) → r.call ≡ c → ending_at block s h r ≡ Some e
          → EndsSo block actor s0 c b0 e now s.cells s.book made r.call
      checked e made call_is by = go e (checks_so _ _ _ _ _ e by) where
        go : (e : Ending) → ChecksSo e (refusal block (copies s) r.call) (effect (copies s) (made_in s h.ino r.made) r.call)
            → EndsSo block actor s0 c b0 e now s.cells s.book made r.call
        go Answers so =
            (call_is, inl (ap is_nothing (sym call_is) ∙ nothing_done block (copies s) (made_in s h.ino r.made) r.call so.0 so.1, same))
        go (Refuses fault) so = same
        go BoundAnew so = same
        go (Drains draining) so = so
        go (Cleans cleaned) so = so

      -- whatever is taken
      module _ (k : Next) (t : Shared) (i : HandState) (then_same : Same now t) (n : ℕ) (next : Next) (on : is_taking next ≡ true) where
        taking_same : (q : Running) → Stands now next t i q
        taking_same q = by_taking (λ (x : Next). Stands now x t i q) (λ asked. then_same) (λ asked. then_same) then_same next on

      check_ways : r.call ≡ c → WaysOf P E Check block actor granted s h r
      check_ways call_is = (
        λ e by. any_ends (closes_so now e (checked e (made_in s h.ino r.made) call_is by)),
        λ none lacks. any_ends (refused same),
        λ none. any_takes P E block actor s h r Check (λ n next on. taking_same Check s h same n next on _) refl,
      )

      blocks_ways : (asked : ℕ) → WaysOf P E (TakeBlocks asked) block actor granted s h r
      blocks_ways asked = (
        any_takes P E block actor s h r (TakeBlocks asked)
            (λ n next on. taking_same (TakeBlocks asked) (work (TakeBlocks asked) block actor s h r).shared
            (work (TakeBlocks asked) block actor s h r).hand same n next on _) refl,
        λ n is last. any_ends (closes_so now (Refuses _) same),
      )

      pages_ways : (asked : ℕ) → WaysOf P E (TakeLogPages asked) block actor granted s h r
      pages_ways asked = (
        any_takes P E block actor s h r (TakeLogPages asked)
            (λ n next on. taking_same (TakeLogPages asked) (work (TakeLogPages asked) block actor s h r).shared
            (work (TakeLogPages asked) block actor s h r).hand same n next on _) refl,
        λ n is last. any_ends (closes_so now (Refuses _) same),
      )

      ready_ways : WaysOf P E Ready block actor granted s h r
      ready_ways = (λ lacks. any_ends (refused same), same)

      visit_ways : is_nothing c ≡ true → WaysOf P E Visit block actor granted s h r
      visit_ways nothing = (
        λ fault free by. any_ends (refused same),
        λ free passed lacks. any_ends (refused same),
        λ free passed. inl (nothing, same),
      )

    -- ---- enter

    abbrev entering : Next → PlainState
    entering k = beside_by (if commits_at k then Numbers else Nothing) (ids s.book.snaps) now.records (Some r) now.plain

    abbrev EnterGoes : Going
    EnterGoes t i q = Stands (entering q.next) q.next t i q

    enter_turns : (t : Turn) → AfterBy (Stands now Enter s h r) EnterGoes (Told now) t
        → AfterBy (Stands (beside_then Enter s h r t now) Enter s h r) (KnowsNext (Stands (beside_then Enter s h r t now)))
        (Told (beside_then Enter s h r t now)) t
    enter_turns (Moves t i q) on = on
    enter_turns Waits on = on
    enter_turns (Ends (Ok found) t i) on = on
    enter_turns (Ends (Err fault) t i) on = on

    enter_refused : {fault : Fault} → Same now s → Closes EnterGoes (Told now) s h r (Refuses fault)
    enter_refused {fault = fault} same = record {
      last = by_last (λ (n : Next). EnterGoes s h (record r { ending = Refuses fault; next = n })) (λ place. same) (λ cpu. same) same;
      told = same;
      again = λ n over some. cc;
      picks = λ d left drains some. cc;
    }

    -- with its plan, and nothing killed
    pub record IsEntering : Type 0 where
      pub planned : IsPlannedByRow block s0 actor c s.lists h.pages r.made r.plan
      pub written : 0 < length (written_slots r)
      pub slots : ArePlanned block actor s0 c b0 r.plan (written_slots r)
      pub killed : h.killed ≡ []
      pub made_is : IsMade block actor s0 c r.made
      pub enough : data_for block s0 c + pages_wanted s0 (written_slots r) r.plan ≤ length (row_at s0 actor)

    module _ (same : Same now s) (call_is : r.call ≡ c) (is : IsEntering) where
      abbrev entered_in : Shared
      entered_in = (work Enter block actor s h r).shared

      abbrev noting : Running
      noting = go_to (appending 0 (written_slots r)) (noted Enter block s h r)

      first_append : nat_le NUMBER s.book.commit ≡ false → Stands (entering (Append 0)) (Append 0) entered_in h noting
      first_append few = (
        record {
          some = is.written;
          slots = is.slots;
          enough = is.enough;
          limit = sym (ap (λ (b : BookState). nat_le NUMBER b.commit) same.book_is) ∙ few;
          call_is = call_is;
          made_is = is.made_is;
          plan_is = is.planned.plan_is;
          commit_is = ap (λ (b : BookState). b.commit + 1) same.book_is;
          epoch_is = ap (λ (b : BookState). b.snaps.epoch) same.book_is;
        },
        record {
          count = ap (λ (cs : List CellState). length cs) same.cells_are;
          snaps = ap (λ (b : BookState). b.snaps) same.book_is;
          deferred = ap (λ (b : BookState). b.deferred) same.book_is;
          commit_is = ap (λ (b : BookState). b.commit + 1) same.book_is;
          plain_is = ap (λ (p : Plain). done Numbers (Some r) p) same.plain_is;
          records_are = same.records_are;
        },
        λ ino. ap (λ (cs : List CellState). slice_index_or cs ino no_cell) same.cells_are,
        λ ino none. ap (λ (cs : List CellState). (slice_index_or cs ino no_cell).chain.tail) same.cells_are,
        is.planned.pages_are,
        is.killed,
      )

      enter_ways : WaysOf EnterGoes (Told now) Enter block actor granted s h r
      enter_ways = (
        λ free last. any_ends (enter_refused same),
        λ clear lacks. any_ends (enter_refused same),
        λ clear. by_test (λ (k : Next). Stands (entering k) k entered_in h noting) (nat_lt 0 (length (written_slots r))) (Append 0)
            (opening (written_slots r)) (λ some. first_append clear.1)
            (λ past. absurd (let le = ltb-false 0 (length (written_slots r)) past in let lt = is.written in omega (arith, le, lt))),
      )

    -- ---- leave

    committed_of : Stands now Leave s h r → IsCommitted block actor s0 c b0 s.cells s.book now.plain now.records r.made
    committed_of on =
        let W = written_slots r in
        let k = on.0 in
        let made = plan_by_row block s0 actor c r.made in
        record {
          slots = W;
          made_is = k.made_is;
          planned = subst (λ (p : List InodePlan). ArePlanned block actor s0 c b0 p W) k.plan_is k.slots;
          enough = subst (λ (p : List InodePlan). data_for block s0 c + pages_wanted s0 W p ≤ length (row_at s0 actor)) k.plan_is k.enough;
          limit = k.limit;
          under_way =
              subst (λ (n : ℕ). UnderWayIn block actor s0 c b0 now s (committed block actor s0 c b0 r.made)
              (records_on block actor s0 c b0 made (s0.book.commit + 1) n W b0.records)) k.epoch_is
              (subst (λ (n : ℕ). UnderWayIn block actor s0 c b0 now s (committed block actor s0 c b0 r.made)
              (records_on block actor s0 c b0 made n r.epoch W b0.records)) k.commit_is
              (subst (λ (p : List InodePlan). UnderWayIn block actor s0 c b0 now s (committed block actor s0 c b0 r.made)
              (records_on block actor s0 c b0 p r.commit r.epoch W b0.records)) k.plan_is on.1));
          logs =
              subst (λ (n : ℕ). LogsOf block actor s0 c b0 made (s0.book.commit + 1) n W s.cells) k.epoch_is
              (subst (λ (n : ℕ). LogsOf block actor s0 c b0 made n r.epoch W s.cells) k.commit_is
              (subst (λ (p : List InodePlan). LogsOf block actor s0 c b0 p r.commit r.epoch W s.cells) k.plan_is on.2));
        }

    left_so : IsFit Leave s h r → Stands now Leave s h r → EndsSo block actor s0 c b0 r.ending now s.cells s.book r.made r.call
    left_so fit on =
        subst (λ (e : Ending). EndsSo block actor s0 c b0 e now s.cells s.book r.made r.call) (sym (fit.answers refl))
        (fit.call_is, inr (ap is_nothing (sym fit.call_is) ∙ fit.stage, committed_of on))

    -- ---- EVERY KIND

    abbrev OnTurn : Next → Type 0
    OnTurn k =
        let t = kind_turn k block actor granted s h r in
        let later = beside_then k s h r t now in
        AfterBy (Stands later k s h r) (KnowsNext (Stands later)) (Told later) t

    walks : (k : Next) → (IsBlocked k s r → Stands now k s h r) → WaysOf P E k block actor granted s h r → is_on_files k ≡ true
        → AfterBy (Stands now k s h r) P E (kind_turn k block actor granted s h r)
    walks k wait ways files = walk_by (Stands now k s h r) P E block actor s h r k granted wait ways files

    pub kind_stands : (k : Next) → is_on_files k ≡ true → IsFit k s h r → (k ≡ Enter → IsEntering) → Stands now k s h r → OnTurn k
    kind_stands Number files fit enters on = walks Number (λ blocked. on) (number_ways on) refl
    kind_stands (Look place) files fit enters on = walks (Look place) (λ blocked. on) (look_ways on place) refl
    kind_stands (Lock place) files fit enters on = walks (Lock place) (λ blocked. on) (lock_ways on place) refl
    kind_stands Check files fit enters on = walks Check (λ blocked. on) (check_ways on fit.call_is) refl
    kind_stands (TakeBlocks asked) files fit enters on = walks (TakeBlocks asked) (λ blocked. on) (blocks_ways on asked) refl
    kind_stands (TakeLogPages asked) files fit enters on = walks (TakeLogPages asked) (λ blocked. on) (pages_ways on asked) refl
    kind_stands Ready files fit enters on = walks Ready (λ blocked. on) (ready_ways on) refl
    kind_stands Enter files fit enters on =
        enter_turns (kind_turn Enter block actor granted s h r)
        (walk_by (Stands now Enter s h r) EnterGoes (Told now) block actor s h r Enter granted (λ blocked. on)
        (enter_ways on fit.call_is (enters refl)) refl)
    kind_stands (Append place) files fit enters on =
        walks (Append place) (λ blocked. on)
        (append_stands block actor s0 c b0 s h r now on.0 fit.rising fit.low place fit.inside fit.paged on) refl
    kind_stands Open files fit enters on =
        walks Open (λ blocked. on) (open_stands block actor s0 c b0 s h r now on.0 fit.rising fit.low on) refl
    kind_stands (Publish place) files fit enters on =
        let later = beside_then (Publish place) s h r Waits now in
        walk_by (Stands later (Publish place) s h r) (KnowsNext (Stands later)) (Told later) block actor s h r (Publish place) granted
        (λ blocked. absurd blocked) (publish_stands block actor s0 c b0 s h r now on.0 fit.rising fit.low place fit.inside on) refl
    kind_stands Close files fit enters on =
        let later = beside_then Close s h r Waits now in
        walk_by (Stands later Close s h r) (KnowsNext (Stands later)) (Told later) block actor s h r Close granted
        (λ blocked. absurd blocked) (close_stands block actor s0 c b0 s h r now on.0 fit.rising fit.low on) refl
    kind_stands (Retire place) files fit enters on =
        let later = beside_then (Retire place) s h r Waits now in
        walk_by (Stands later (Retire place) s h r) (KnowsNext (Stands later)) (Told later) block actor s h r (Retire place) granted
        (λ blocked. absurd blocked) (retire_stands block actor s0 c b0 s h r now on.0 fit.rising fit.low place fit.inside on fit.erases) refl
    kind_stands Leave files fit enters on =
        walks Leave (λ blocked. on) (any_ends (closes_so now r.ending (left_so fit on))) refl
    kind_stands (Unlock place) files fit enters on =
        walks (Unlock place) (λ blocked. on) (λ more. on, λ past. any_overs (closes_so now r.ending on)) refl
    kind_stands (Give cpu) files fit enters on =
        walks (Give cpu) (λ blocked. on) (any_rests (closes_so now r.ending on)) refl
    kind_stands ReturnNumber files fit enters on =
        walks ReturnNumber (λ blocked. on) (any_lasts (closes_so now r.ending
        (by_back (λ (t : Shared) (i : HandState). EndsSo block actor s0 c b0 r.ending now t.cells t.book r.made r.call) s h (λ numbers ino. on)))) refl
    kind_stands Visit files fit enters on =
        walks Visit (λ blocked. on) (visit_ways on (ap is_nothing (sym fit.call_is) ∙ visits_nothing r.call fit.stage)) refl
    kind_stands (SnapshotOrCleaner step) files fit enters on = absurd on
