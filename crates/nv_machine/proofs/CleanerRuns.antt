-- What a cleaner is answered or refused for, how many steps it makes and what it leaves, whatever events come.
use Rattle.std.proofs.Common.{◌≡◌, ◌≢◌, ◌∙◌, ℕ, ◌+◌, ◌*◌, ◌<◌, ◌≤◌, ◌++◌, Bool, true, false, if◌then◌else◌, List, [], ◌∷◌, None, Option, Some, ap, arith, inl, inr, length, lt-ltb, nat_lt, refl, subst, sym}
use Rattle.std.specs.Prelude.{Err, Ok}
use Rattle.std.proofs.lemmas.Bool.{false≢true, ltb-false, ltb-true}
use Rattle.std.proofs.lemmas.Option.{none-some, same_Some}
use Rattle.nv_base.specs.declared.fault.Fault.{Fault}
use Rattle.nv_base.specs.declared.geometry.GeometryNumbers.{GeometryNumbers}
use Rattle.nv_book.specs.declared.record.Record.{Record}
use Rattle.nv_calls.specs.declared.answer.Answer.{Answer}
use Rattle.nv_calls.specs.declared.call.Call.{Call}
use Rattle.nv_epoch.specs.SnapList.{ids}
use Rattle.nv_machine.specs.CleanerAnswers.{IsCleanedBy, IsRefusedInOrder, CleanerWork, cleaner, no_work, with_turn, work_done}
use Rattle.nv_machine.specs.Frame.{Frame, lent, IsOneStep, Stays, lent_on}
use Rattle.nv_machine.specs.Numbers.{IdleHaveNothing}
use Rattle.nv_machine.specs.OwnSteps.{OwnStep, own_steps, turn_of}
use Rattle.nv_machine.specs.PlainRun.{PlainChange, Maintains, Plain, after_step, plain_change, plain_change_of, done, done_on, keeps_nodes, plain_step, Nothing}
use Rattle.nv_machine.specs.Reads.{written_slots}
use Rattle.nv_machine.specs.Recorded.{after_deed, after_retire, records_in, retired_in}
use Rattle.nv_machine.specs.Sequence.{Beginning, Numbers, beginning, begun, first_clean, slots_on, started}
use Rattle.nv_machine.specs.Starts.{IsStart}
use Rattle.nv_machine.specs.Step.{after, step, turned}
use Rattle.nv_machine.specs.World.{Auto, Done, Ending, Ends, Event, Fast, Fresh, Give, Go, HandState, PlanCleaning, LockCleaned, SnapshotOrCleaner, SnapshotOrCleanerStep, Manner, Moves, Next, Refused, Reply, Running, Shared, Thorough, Turn, Unlink, Unlock, Compact, Waits, World, actor_at, cell_at}
use Rattle.nv_machine.proofs.CallsStay.{kind_stays}
use Rattle.nv_machine.proofs.CleanerSteps.{IsBare, OnTurn, Stands, StandsBy, StandsOn, step_on}
use Rattle.nv_machine.proofs.SnapshotOrCleanerTurns.{done_is}
use Rattle.nv_machine.proofs.OverEvents.{runs_inside, turn_at}
use Rattle.nv_machine.proofs.SingleEvents.{goes}
use Rattle.nv_machine.proofs.StepWays.{After}
use Rattle.nv_machine.proofs.WorldFacts.{idle_nothing, sorted}
use Rattle.nv_machine.proofs.CopiesAll.{events_cells}
use Rattle.nv_machine.proofs.OverOwnSteps.{HasAfter, KeepsSteps, one_more, running_has, step_at}
use Rattle.nv_machine.proofs.OwnSteps.{fault_replied, is_refusal}

-- ---- over events

module _ (manner : Manner) (ino cells lists : ℕ) (some : 0 < lists) (actor : ℕ) where
  -- what is known of each world: how many slots and lists there are, and that an idle actor's hand is empty
  record IsOfSizes (w : World) : Type 0 where
    slots : length w.shared.cells ≡ cells
    cpus : length w.shared.lists ≡ lists
    idle : IdleHaveNothing w

  -- a cleaner stands as its steps have left it
  abbrev Stood : Running → HandState → List OwnStep → Type 0
  Stood r h steps = r.call ≡ cleaner manner ino → Stands manner ino cells lists h r (work_done ino steps)

  -- ---- where it begins

  first_stands : (m : Manner) → m ≡ manner → (h : HandState) → h.ino ≡ None → (c : Call)
      → let k = first_clean cells m ino in Stands manner ino cells lists h (started c (SnapshotOrCleaner k) (slots_on k)) no_work
  first_stands m same h number c = go (nat_lt ino cells) refl where
    bare : IsBare 0 no_work
    bare = record { made = refl; plannings = refl; asked = refl; cleans = refl; entries = refl; pages = refl }

    go : (b : Bool) → nat_lt ino cells ≡ b → let k = if b then LockCleaned m ino else PlanCleaning m None in
        Stands manner ino cells lists h (started c (SnapshotOrCleaner k) (slots_on k)) no_work
    go true inside = record { by = (same, refl, ltb-true ino cells inside, bare); slots = omega arith; number = number }
    go false past = record { by = (same, ltb-false ino cells past, bare); slots = omega arith; number = number }

  begun_stands : (m : Manner) → m ≡ manner → (s : Shared) → length s.cells ≡ cells → (h : HandState) → h.ino ≡ None
      → Stands manner ino cells lists h (begun (beginning (cleaner m ino)) s (cleaner m ino)) no_work
  begun_stands Fast same s many h number = rw many (first_stands Fast same h number (cleaner Fast ino))
  begun_stands Thorough same s many h number = rw many (first_stands Thorough same h number (cleaner Thorough ino))
  begun_stands Auto same s many h number = rw many (first_stands Auto same h number (cleaner Auto ino))

  begun_call : (b : Beginning) (s : Shared) (c : Call) → (begun b s c).call ≡ c
  begun_call Numbers s c = refl
  begun_call other s c = refl

  begun_stood : (s : Shared) → length s.cells ≡ cells → (h : HandState) → h.ino ≡ None → (c : Call)
      → Stood (begun (beginning c) s c) h []
  begun_stood s many h number c same =
      subst (λ (c : Call). Stands manner ino cells lists h (begun (beginning c) s c) no_work)
      (sym same ∙ begun_call (beginning c) s c) (begun_stands manner refl s many h number)

  -- ---- one event

  module _ (w : World) (known : IsOfSizes w) where
    after_stood : (granted : Bool) (r : Running) (before : List OwnStep) (t : Turn) → let x = step_at w actor granted r in
        turn_of x ≡ t → Stood r (actor_at w actor).hand before → After (λ s h q. q.call ≡ r.call) (λ result s h. Unit {0}) t
        → (r.call ≡ cleaner manner ino
        → OnTurn manner ino cells lists x (work_done ino before) some known.slots known.cpus r.next t)
        → HasAfter Stood r (actor_at w actor).hand (x ∷ before) t
    after_stood granted r before (Moves s h q) is had same on = λ call. subst (λ (t : Turn).
        Stands manner ino cells lists h q (with_turn ino (step_at w actor granted r) t (work_done ino before))) (sym is)
        (on (sym same ∙ call))
    after_stood granted r before Waits is had same on = λ call. subst (λ (t : Turn).
        Stands manner ino cells lists (actor_at w actor).hand r
        (with_turn ino (step_at w actor granted r) t (work_done ino before))) (sym is) (had call)
    after_stood granted r before (Ends x s h) is had same on = tt

    keeps_stood : KeepsSteps Stood actor w
    keeps_stood = record {
      begins = λ c none. begun_stood w.shared known.slots (actor_at w actor).hand
          (ap (λ (h : HandState). h.ino) (known.idle actor none).hand) c;
      turns = λ granted r before is had.
          after_stood granted r before (turn_at w actor granted r) refl had
          (kind_stays r.call r.next w.numbers.block actor granted w.shared (actor_at w actor).hand r refl)
          (λ call. step_on manner ino cells lists (step_at w actor granted r) (work_done ino before) some known.slots known.cpus
          (had call));
    }

-- ---- from a start

-- a deed is no commit, and leaves the plain world as it is, and the list of records
record LeavesPlain (d : PlainChange) : Type 0 where
  keeps : keeps_nodes d ≡ true
  plain : (running : Option Running) (p : Plain) → done d running p ≡ p
  records : (living : List ℕ) (rs : List Record) → after_deed d living rs ≡ rs

module _ (g : GeometryNumbers) (start : World) (records : List Record) (events : List Event) (actor : ℕ) (granted : Bool)
    (r : Running) (manner : Manner) (ino : ℕ) (is_start : IsStart g start records)
    (runs : (actor_at (after start events) actor).running ≡ Some r) (call : r.call ≡ cleaner manner ino) where
  abbrev w : World
  w = after start events

  abbrev before : List OwnStep
  before = own_steps actor start events []

  abbrev last : OwnStep
  last = step_at w actor granted r

  abbrev t : Turn
  t = turn_at w actor granted r

  of_sizes : (past : List Event) → IsOfSizes manner ino g.inodes g.cpus is_start.limits.some_cpus actor (after start past)
  of_sizes past = record {
    slots = events_cells past start ∙ is_start.slots;
    cpus = (sorted g start records past is_start).cpus;
    idle = idle_nothing g start records past is_start;
  }

  stands : Stands manner ino g.inodes g.cpus (actor_at w actor).hand r (work_done ino before)
  stands =
      running_has (Stood manner ino g.inodes g.cpus is_start.limits.some_cpus actor) actor events start r
      (λ past. keeps_stood manner ino g.inodes g.cpus is_start.limits.some_cpus actor (after start past) (of_sizes past))
      (is_start.idle_all actor) runs call

  its_turn : OnTurn manner ino g.inodes g.cpus last (work_done ino before) is_start.limits.some_cpus (of_sizes events).slots
      (of_sizes events).cpus r.next t
  its_turn =
      step_on manner ino g.inodes g.cpus last (work_done ino before) is_start.limits.some_cpus (of_sizes events).slots
      (of_sizes events).cpus stands

  all_steps : own_steps actor start (events ++ Go actor granted ∷ []) [] ≡ last ∷ before
  all_steps = one_more events start actor granted r runs

  one_step : IsOneStep w actor granted r (step w (Go actor granted))
  one_step = goes w actor granted r (runs_inside w actor r runs) runs

  abbrev OnLast : Turn → Type 0
  OnLast x = OnTurn manner ino g.inodes g.cpus last (work_done ino before) is_start.limits.some_cpus (of_sizes events).slots
      (of_sizes events).cpus r.next x

  abbrev work : CleanerWork
  work = work_done ino (own_steps actor start (events ++ Go actor granted ∷ []) [])

  -- ---- its answer

  abbrev is_answer : Reply → Bool
  is_answer (Done told) = true
  is_answer other = false

  abbrev told_in : Answer → Reply → Answer
  told_in other (Done told) = told
  told_in other reply = other

  answered_by : (x : Turn) (told : Answer) → OnLast x → (turned x actor w).reply ≡ Done told
      → IsCleanedBy manner ino (with_turn ino last x (work_done ino before)) told
  answered_by (Ends (Ok found) s h) told made is = subst (IsCleanedBy manner ino _) (ap (told_in found) is) made.0
  answered_by (Ends (Err fault) s h) told made is = absurd (false≢true (ap is_answer is))
  answered_by (Moves s h q) told made is = absurd (false≢true (ap is_answer is))
  answered_by Waits told made is = absurd (false≢true (ap is_answer is))

  pub cleaner_answered : (told : Answer) → (step w (Go actor granted)).reply ≡ Done told → IsCleanedBy manner ino work told
  cleaner_answered told is =
      subst (λ (steps : List OwnStep). IsCleanedBy manner ino (work_done ino steps) told) (sym all_steps)
      (answered_by t told its_turn (ap (λ s. s.reply) (sym one_step.is_turn) ∙ is))

  -- ---- its refusal

  refused_by : (x : Turn) (fault : Fault) → OnLast x → (turned x actor w).reply ≡ Refused fault
      → IsRefusedInOrder ino g.cpus (with_turn ino last x (work_done ino before)) fault
  refused_by (Ends (Err found) s h) fault made is = subst (IsRefusedInOrder ino g.cpus _) (ap (fault_replied found) is) made.0
  refused_by (Ends (Ok found) s h) fault made is = absurd (false≢true (ap is_refusal is))
  refused_by (Moves s h q) fault made is = absurd (false≢true (ap is_refusal is))
  refused_by Waits fault made is = absurd (false≢true (ap is_refusal is))

  pub cleaner_refused : (fault : Fault) → (step w (Go actor granted)).reply ≡ Refused fault
      → IsRefusedInOrder ino g.cpus work fault
  cleaner_refused fault is =
      subst (λ (steps : List OwnStep). IsRefusedInOrder ino g.cpus (work_done ino steps) fault) (sym all_steps)
      (refused_by t fault its_turn (ap (λ s. s.reply) (sym one_step.is_turn) ∙ is))

  -- ---- what each of its steps is

  -- few were made before it; it is lent no book and no cell of another slot, and leaves the plain world and the records
  record IsOneOf (k : Next) (now : CleanerWork) : Type 0 where
    few : now.made ≤ 4 + 2 * g.cpus
    book : (lent k (length w.shared.lists) actor r).book ≡ false
    cells : (other : ℕ) → other ≢ ino → (lent k (length w.shared.lists) actor r).cell ≢ Some other
    deeds : (x : Turn) → LeavesPlain (plain_change k (written_slots r) x)
    retires : (rs : List Record) → after_retire k w.shared (actor_at w actor).hand r rs ≡ rs

  nothing_done : LeavesPlain Nothing
  nothing_done = record { keeps = refl; plain = λ running p. refl; records = λ living rs. refl }

  as_it_was : (k : SnapshotOrCleanerStep) → ((p : Plain) → after_step k p ≡ p)
      → ((living : List ℕ) (rs : List Record) → after_deed (Maintains k) living rs ≡ rs) → (x : Turn) → LeavesPlain (done_on k x)
  as_it_was k plain records x = elim (done_is k x) [
    | inl none ↦ subst LeavesPlain (sym none) nothing_done
    | inr its ↦ subst LeavesPlain (sym its) (record { keeps = refl; plain = λ running p. plain p; records = records })
  ]

  one_by : (k : SnapshotOrCleanerStep) (now : CleanerWork) → (lent_on k (length w.shared.lists) actor).book ≡ false
      → ((p : Plain) → after_step k p ≡ p) → ((living : List ℕ) (rs : List Record) → after_deed (Maintains k) living rs ≡ rs)
      → now.made ≤ 4 + 2 * g.cpus
      → ((other : ℕ) → other ≢ ino → (lent_on k (length w.shared.lists) actor).cell ≢ Some other) → IsOneOf (SnapshotOrCleaner k) now
  one_by k now book plain records few cells =
      record { few = few; book = book; cells = cells; deeds = as_it_was k plain records; retires = λ rs. refl }

  none_lent : (other : ℕ) → other ≢ ino → None ≢ Some other
  none_lent other ne = none-some other

  own_lent : (slot : ℕ) → slot ≡ ino → (other : ℕ) → other ≢ ino → Some slot ≢ Some other
  own_lent slot is other ne same = ne (sym (same_Some slot other same) ∙ is)

  one_on : (k : SnapshotOrCleanerStep) (now : CleanerWork) → StandsOn manner ino g.inodes g.cpus k now → IsOneOf (SnapshotOrCleaner k) now
  one_on (LockCleaned m slot) now is = one_by _ now refl (λ p. refl) (λ living rs. refl) (omega (arith, is.3.made)) none_lent
  one_on (PlanCleaning m None) now is = one_by _ now refl (λ p. refl) (λ living rs. refl) (omega (arith, is.2.made)) none_lent
  one_on (PlanCleaning m (Some slot)) now is = one_by _ now refl (λ p. refl) (λ living rs. refl) (omega (arith, is.3.made)) none_lent
  one_on (Fresh slot asked wanted) now is =
      one_by _ now refl (λ p. refl) (λ living rs. refl) (omega (arith, is.2, is.3, is.4.made)) none_lent
  one_on (Unlink slot) now is = one_by _ now refl (λ p. refl) (λ living rs. refl) (omega (arith, is.2, is.3.made)) (own_lent slot is.0)
  one_on (Compact slot) now is = one_by _ now refl (λ p. refl) (λ living rs. refl) (omega (arith, is.2, is.3.made)) (own_lent slot is.0)
  one_on other now is = absurd is

  one_of : (k : Next) (e : Ending) (now : CleanerWork) → StandsBy manner ino g.inodes g.cpus k e now → IsOneOf k now
  one_of (SnapshotOrCleaner k) e now is = one_on k now is
  one_of (Unlock place) e now is =
      record { few = omega (arith, is.1); book = refl; cells = none_lent; deeds = λ x. nothing_done; retires = λ rs. refl }
  one_of (Give cpu) e now is =
      record { few = omega (arith, is.1, is.2); book = refl; cells = none_lent; deeds = λ x. nothing_done; retires = λ rs. refl }
  one_of other e now is = absurd is

  is_one : IsOneOf r.next (work_done ino before)
  is_one = one_of r.next r.ending (work_done ino before) stands.by

  -- ---- how many steps it makes

  few_made : (x : Turn) → OnLast x → (with_turn ino last x (work_done ino before)).made ≤ 4 + 2 * g.cpus
  few_made (Moves s h q) made = (one_of q.next q.ending _ made.by).few
  few_made Waits made = is_one.few
  few_made (Ends (Ok found) s h) made = made.1
  few_made (Ends (Err fault) s h) made = made.1

  pub cleaner_ends : work.made ≤ 4 + 2 * g.cpus
  cleaner_ends =
      subst (λ (steps : List OwnStep). (work_done ino steps).made ≤ 4 + 2 * g.cpus) (sym all_steps) (few_made t its_turn)

  -- ---- what it leaves

  its_leaves : LeavesPlain (plain_change_of w (Go actor granted))
  its_leaves =
      subst LeavesPlain (rw (lt-ltb actor (length w.actors) (runs_inside w actor r runs)) (rw runs refl)) (is_one.deeds t)

  pub cleaner_commits : keeps_nodes (plain_change_of w (Go actor granted)) ≡ true
  cleaner_commits = its_leaves.keeps

  pub cleaner_plain : (p : Plain) → plain_step w (Go actor granted) p ≡ p
  cleaner_plain p = its_leaves.plain (actor_at w actor).running p

  pub cleaner_records : (rs : List Record) → records_in w (Go actor granted) rs ≡ rs
  cleaner_records rs =
      its_leaves.records (ids w.shared.book.snaps) (retired_in w (Go actor granted) (actor_at w actor).running rs)
      ∙ ap (λ (o : Option Running). retired_in w (Go actor granted) o rs) runs ∙ is_one.retires rs

  its_frame : Frame (lent r.next (length w.shared.lists) actor r) w.shared (step w (Go actor granted)).world.shared
  its_frame = one_step.frame

  pub cleaner_book : (step w (Go actor granted)).world.shared.book ≡ w.shared.book
  cleaner_book =
      subst (λ (b : Bool). Stays b ((step w (Go actor granted)).world.shared.book ≡ w.shared.book)) is_one.book its_frame.book

  pub cleaner_others : (other : ℕ) → other ≢ ino → cell_at (step w (Go actor granted)).world.shared other ≡ cell_at w.shared other
  cleaner_others other ne = its_frame.cells other (is_one.cells other ne)
