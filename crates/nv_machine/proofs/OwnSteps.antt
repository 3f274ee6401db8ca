-- A call that is refused was refused by one of its steps, whatever events come.
use Rattle.std.proofs.Common.{◌≡◌, ◌∙◌, ℕ, ◌<◌, ◌++◌, Bool, true, false, List, [], ◌∷◌, Some, ap, length, nat_lt, refl, subst, sym}
use Rattle.std.specs.Prelude.{Err, Ok, Result}
use Rattle.std.specs.List.{AllByRecursion}
use Rattle.std.proofs.lemmas.Bool.{false≢true, lt-ltb}
use Rattle.nv_base.specs.declared.fault.Fault.{Fault}
use Rattle.nv_base.specs.declared.geometry.GeometryNumbers.{GeometryNumbers}
use Rattle.nv_book.specs.declared.record.Record.{Record}
use Rattle.nv_calls.specs.Plain.{node_in}
use Rattle.nv_calls.specs.declared.answer.Answer.{Answer}
use Rattle.nv_calls.specs.declared.call.Call.{Call}
use Rattle.nv_machine.specs.Causes.{EndsFor, IsCause, IsRoundless, MayBeOvertaken, RefusesFor}
use Rattle.nv_machine.specs.OwnSteps.{HasCauseBy, IsCaused, IsLeft, LeavesButPins, MetItsCause, OwnStep, SameButPins, fault_in, fault_of, fault_told, own_steps, refused_by, refused_for, with_step}
use Rattle.nv_machine.specs.Sequence.{Beginning, Numbers, beginning, begun}
use Rattle.nv_machine.specs.Settled.{settled_nodes}
use Rattle.nv_machine.specs.Starts.{IsStart}
use Rattle.nv_machine.specs.Step.{Step, after, kind_turn, step, turned}
use Rattle.nv_machine.specs.World.{Answers, Draining, Drains, Ending, Ends, Event, Go, Moves, Next, BoundAnew, Refused, Refuses, Reply, Running, Shared, Turn, Unlock, Waits, World, actor_at, Cleans, HandState}
use Rattle.nv_machine.proofs.DecidedRefusals.{plainly_caused}
use Rattle.nv_machine.proofs.OverEvents.{runs_inside, turn_at}
use Rattle.nv_machine.proofs.RefusalCauses.{contended}
use Rattle.nv_machine.proofs.RefusedTurns.{ClosingGoes, ClosingTold, DrainGoes, DrainTells, DrainingGoes, Goes, OpenGoes, OvertakenGoes, OverGoes, OverTold, Tells, closing_kind, drain_kind, is_closing, is_open, is_unlock, open_kind, over_kind, CleanGoes, CleanedGoes, clean_kind}
use Rattle.nv_machine.proofs.SingleEvents.{go_is_turn}
use Rattle.nv_machine.proofs.StepWays.{After, is_last}
use Rattle.nv_clean.specs.declared.cleaned.Cleaned.{Cleaned}
use Rattle.nv_machine.proofs.OverOwnSteps.{HasAfter, KeepsSteps, one_more, running_has, step_at}

-- ---- what holds before each step, of what its call was refused for and of what its steps have left

-- by how it is to end and what comes next: the faults so far, and that all steps so far left what they should
abbrev StandsBy : List Fault → Type 0 → Ending → Next → Type 0
StandsBy faults left Answers k = (faults ≡ []) × (is_open k ≡ true → left)
StandsBy faults left (Refuses fault) k = (faults ≡ fault ∷ []) × left × (is_closing k ≡ true)
StandsBy faults left BoundAnew k = (faults ≡ []) × left × (is_unlock k ≡ true)
StandsBy faults left (Drains draining) k = (faults ≡ []) × (0 < draining.released) × (is_last k ≡ true)
StandsBy faults left (Cleans cleaned) k = (faults ≡ []) × (is_last k ≡ true)

pub record IsMet (r : Running) (steps : List OwnStep) : Type 0 where
  pub stands : StandsBy (refused_for steps) (AllByRecursion IsLeft steps) r.ending r.next
  pub caused : AllByRecursion IsCaused steps

-- after a turn: with what it refuses the call for, and what it leaves
abbrev AfterStep : Ending → Next → List Fault → Type 0 → Turn → Type 0
AfterStep e k faults left (Moves s h q) = StandsBy faults left q.ending q.next
AfterStep e k faults left Waits = StandsBy faults left e k
AfterStep e k faults left (Ends (Ok found) s h) = Unit {0}
AfterStep e k faults left (Ends (Err fault) s h) = (faults ≡ fault ∷ []) × left

module _ (k : Next) (s : Shared) (faults : List Fault) (left : Type 0) where
  -- of a call that is to be answered
  from_answers : (t : Turn) → After (Goes k s) (Tells k s) t → faults ≡ [] → (is_open k ≡ true → left)
      → AfterStep Answers k (fault_in t ++ faults) (LeavesButPins s t × left) t
  from_answers (Moves t h q) on none may = go q.ending on where
    go : (e : Ending) → OpenGoes k s t e q.next → StandsBy (fault_of e ++ faults) (SameButPins s t × left) e q.next
    go Answers on = (none, λ o. let both = on o in (both.1, may both.0))
    go (Refuses fault) on = (ap (λ (l : List Fault). fault ∷ l) none, (on.1.1, may on.1.0), on.0)
    go BoundAnew on = (none, (on.1.1, may on.1.0), on.0)
    go (Drains d) on = (none, on.1, on.0)
    go (Cleans c) on = (none, on)
  from_answers Waits on none may = (none, λ o. (tt, may o))
  from_answers (Ends (Ok found) t h) on none may = tt
  from_answers (Ends (Err fault) t h) on none may = (ap (λ (l : List Fault). fault ∷ l) none, (on.1, may on.0))

  from_refused : (fault : Fault) (t : Turn) → After (ClosingGoes fault s) (ClosingTold fault s) t → faults ≡ fault ∷ [] → left
      → is_closing k ≡ true → AfterStep (Refuses fault) k faults (LeavesButPins s t × left) t
  from_refused fault (Moves t h q) on one had closing =
      subst (λ (e : Ending). StandsBy faults (SameButPins s t × left) e q.next) (sym on.0) (one, (on.2, had), on.1)
  from_refused fault Waits on one had closing = (one, (tt, had), closing)
  from_refused fault (Ends (Ok found) t h) on one had closing = tt
  from_refused fault (Ends (Err other) t h) on one had closing =
      (one ∙ ap (λ (x : Result Answer Fault). fault_told x) (sym on.0), (on.1, had))

  from_overtaken : (t : Turn) → After (OverGoes s) (OverTold s) t → faults ≡ [] → left
      → is_unlock k ≡ true → AfterStep BoundAnew k (fault_in t ++ faults) (LeavesButPins s t × left) t
  from_overtaken (Moves t h q) on none had unlock = go q.ending on where
    go : (e : Ending) → OvertakenGoes s t e q.next → StandsBy (fault_of e ++ faults) (SameButPins s t × left) e q.next
    go Answers on = (none, λ o. (on, had))
    go BoundAnew on = (none, (on.1, had), on.0)
    go other on = absurd on
  from_overtaken Waits on none had unlock = (none, (tt, had), unlock)
  from_overtaken (Ends (Ok found) t h) on none had unlock = tt
  from_overtaken (Ends (Err fault) t h) on none had unlock = (ap (λ (l : List Fault). fault ∷ l) none, (on, had))

  from_drain : (d : Draining) (t : Turn) → After DrainGoes DrainTells t → faults ≡ [] → 0 < d.released → is_last k ≡ true
      → AfterStep (Drains d) k (fault_in t ++ faults) (LeavesButPins s t × left) t
  from_drain d (Moves t h q) on none some last = go q.ending on where
    go : (e : Ending) → DrainingGoes e q.next → StandsBy (fault_of e ++ faults) (SameButPins s t × left) e q.next
    go Answers on = (none, λ o. absurd (false≢true (sym on ∙ o)))
    go (Drains d) on = (none, on.0, on.1)
    go other on = absurd on
  from_drain d Waits on none some last = (none, some, last)
  from_drain d (Ends (Ok found) t h) on none some last = tt
  from_drain d (Ends (Err fault) t h) on none some last = absurd on

  from_clean : (c : Cleaned) (t : Turn) → After CleanGoes DrainTells t → faults ≡ [] → is_last k ≡ true
      → AfterStep (Cleans c) k (fault_in t ++ faults) (LeavesButPins s t × left) t
  from_clean c (Moves t h q) on none last = go q.ending on where
    go : (e : Ending) → CleanedGoes e q.next → StandsBy (fault_of e ++ faults) (SameButPins s t × left) e q.next
    go (Cleans d) on = (none, on)
    go other on = absurd on
  from_clean c Waits on none last = (none, last)
  from_clean c (Ends (Ok found) t h) on none last = tt
  from_clean c (Ends (Err fault) t h) on none last = absurd on

-- a cleaner's last steps refuse nothing
clean_refuses : (t : Turn) → After CleanGoes DrainTells t → fault_in t ≡ []
clean_refuses (Moves t h q) on = go q.ending on where
  go : (e : Ending) → CleanedGoes e q.next → fault_of e ≡ []
  go (Cleans c) on = refl
  go other on = absurd on
clean_refuses Waits on = refl
clean_refuses (Ends (Ok found) t h) on = refl
clean_refuses (Ends (Err fault) t h) on = absurd on

-- a drain's last steps refuse nothing
drain_refuses : (t : Turn) → After DrainGoes DrainTells t → fault_in t ≡ []
drain_refuses (Moves t h q) on = go q.ending on where
  go : (e : Ending) → DrainingGoes e q.next → fault_of e ≡ []
  go Answers on = refl
  go (Drains d) on = refl
  go other on = absurd on
drain_refuses Waits on = refl
drain_refuses (Ends (Ok found) t h) on = refl
drain_refuses (Ends (Err fault) t h) on = absurd on

-- ---- causes

module _ (P : Fault → Type 0) (Q : Type 0) where
  -- each fault of a turn meets what it refuses for
  all_met : (t : Turn) → RefusesFor P Q t → AllByRecursion P (fault_in t)
  all_met (Moves s h q) on = go q.ending on where
    go : (e : Ending) → EndsFor P Q q.next e → AllByRecursion P (fault_of e)
    go (Refuses fault) on = (on.0, tt)
    go other on = tt
  all_met Waits on = tt
  all_met (Ends (Ok found) s h) on = tt
  all_met (Ends (Err fault) s h) on = (on, tt)

-- what is known of each world: a call that is to be answered is refused for what has its cause over the settled nodes
abbrev HasCauses : World → Type 0
HasCauses w =
    (actor : ℕ) (granted : Bool) (r : Running) → (actor_at w actor).running ≡ Some r → r.ending ≡ Answers
    → RefusesFor
    (IsCause r.next w.numbers.block actor granted (node_in (settled_nodes w.shared)) w.shared (actor_at w actor).hand r)
    (MayBeOvertaken r.next (node_in (settled_nodes w.shared)) r) (turn_at w actor granted r)

-- ---- one step

module _ (w : World) (known : HasCauses w) (actor : ℕ) (granted : Bool) (r : Running) (runs : (actor_at w actor).running ≡ Some r)
    (before : List OwnStep) (met : IsMet r before) where
  abbrev its : OwnStep
  its = record { world = w; actor = actor; running = r; granted = granted }

  abbrev its_turn : Turn
  its_turn = turn_at w actor granted r

  abbrev left_before : Type 0
  left_before = AllByRecursion IsLeft before

  -- its cause was there
  caused_by : (e : Ending) → r.ending ≡ e → StandsBy (refused_for before) left_before e r.next
      → AllByRecursion (HasCauseBy e its) (refused_by e its_turn)
  caused_by Answers is stands = all_met _ _ its_turn (known actor granted r runs is)
  caused_by (Refuses fault) is stands = tt
  caused_by BoundAnew is stands = go r.next refl stands.2 where
    go : (k : Next) → r.next ≡ k → is_unlock k ≡ true → AllByRecursion (IsRoundless r) (fault_in its_turn)
    go (Unlock place) next on =
        all_met (IsRoundless r) (Unit {0}) its_turn
        (subst (λ (k : Next). RefusesFor (IsRoundless r) (Unit {0})
        (kind_turn k w.numbers.block actor granted w.shared (actor_at w actor).hand r)) (sym next)
        (contended place w.numbers.block actor granted w.shared (actor_at w actor).hand r is))
    go other next on = absurd (false≢true on)
  caused_by (Drains d) is stands =
      subst (AllByRecursion (HasCauseBy (Drains d) its))
      (sym (drain_refuses its_turn
      (drain_kind d w.numbers.block actor granted w.shared (actor_at w actor).hand r is stands.1 r.next stands.2))) tt
  caused_by (Cleans c) is stands =
      subst (AllByRecursion (HasCauseBy (Cleans c) its))
      (sym (clean_refuses its_turn
      (clean_kind c w.numbers.block actor granted w.shared (actor_at w actor).hand r is r.next stands.1))) tt

  stands_after : (e : Ending) → r.ending ≡ e → StandsBy (refused_for before) left_before e r.next
      → AfterStep e r.next (refused_by e its_turn ++ refused_for before) (LeavesButPins w.shared its_turn × left_before) its_turn
  stands_after Answers is stands =
      from_answers r.next w.shared (refused_for before) left_before its_turn
      (open_kind w.numbers.block actor granted w.shared (actor_at w actor).hand r is r.next) stands.0 stands.1
  stands_after (Refuses fault) is stands =
      from_refused r.next w.shared (refused_for before) left_before fault its_turn
      (closing_kind fault w.numbers.block actor granted w.shared (actor_at w actor).hand r is r.next stands.2)
      stands.0 stands.1 stands.2
  stands_after BoundAnew is stands =
      from_overtaken r.next w.shared (refused_for before) left_before its_turn
      (over_kind w.numbers.block actor granted w.shared (actor_at w actor).hand r is r.next stands.2) stands.0 stands.1 stands.2
  stands_after (Drains d) is stands =
      from_drain r.next w.shared (refused_for before) left_before d its_turn
      (drain_kind d w.numbers.block actor granted w.shared (actor_at w actor).hand r is stands.1 r.next stands.2)
      stands.0 stands.1 stands.2
  stands_after (Cleans c) is stands =
      from_clean r.next w.shared (refused_for before) left_before c its_turn
      (clean_kind c w.numbers.block actor granted w.shared (actor_at w actor).hand r is r.next stands.1)
      stands.0 stands.1

  pub all_caused : AllByRecursion IsCaused (its ∷ before)
  all_caused = (caused_by r.ending refl met.stands, met.caused)

  pub all_stands : AfterStep r.ending r.next (refused_for (its ∷ before)) (AllByRecursion IsLeft (its ∷ before)) its_turn
  all_stands = stands_after r.ending refl met.stands

-- ---- one event

abbrev Met : Running → HandState → List OwnStep → Type 0
Met r h steps = IsMet r steps

begun_met : (b : Beginning) (s : Shared) (c : Call) → IsMet (begun b s c) []
begun_met Numbers s c = record { stands = (refl, λ o. tt); caused = tt }
begun_met other s c = record { stands = (refl, λ o. tt); caused = tt }

module _ (w : World) (known : HasCauses w) (actor : ℕ) where
  after_met : (r : Running) (h : HandState) (steps : List OwnStep) (t : Turn)
      → AfterStep r.ending r.next (refused_for steps) (AllByRecursion IsLeft steps) t → AllByRecursion IsCaused steps
      → HasAfter Met r h steps t
  after_met r h steps (Moves s g q) on caused = record { stands = on; caused = caused }
  after_met r h steps Waits on caused = record { stands = on; caused = caused }
  after_met r h steps (Ends x s g) on caused = tt

  keeps_met : KeepsSteps Met actor w
  keeps_met = record {
    begins = λ c none. begun_met (beginning c) w.shared c;
    turns = λ granted r before is met.
        after_met r (actor_at w actor).hand (step_at w actor granted r ∷ before) (turn_at w actor granted r)
        (all_stands w known actor granted r is before met) (all_caused w known actor granted r is before met);
  }

-- ---- all events

-- the fault that a reply tells
abbrev pub fault_replied : Fault → Reply → Fault
fault_replied other (Refused fault) = fault
fault_replied other reply = other

abbrev pub is_refusal : Reply → Bool
is_refusal (Refused fault) = true
is_refusal other = false

module _ (g : GeometryNumbers) (start : World) (records : List Record) (events : List Event) (actor : ℕ)
    (is_start : IsStart g start records) where
  abbrev w : World
  w = after start events

  abbrev before : List OwnStep
  before = own_steps actor start events []

  has_causes : (some : List Event) → HasCauses (after start some)
  has_causes some = λ other granted r is going. plainly_caused g start records some other granted r is_start is going

  met_before : (r : Running) → (actor_at w actor).running ≡ Some r → IsMet r before
  met_before r = running_has Met actor events start r (λ past. keeps_met (after start past) (has_causes past) actor)
      (is_start.idle_all actor)

  refused_turn : (t : Turn) (e : Ending) (k : Next) (steps : List OwnStep) (fault : Fault)
      → AfterStep e k (refused_for steps) (AllByRecursion IsLeft steps) t → AllByRecursion IsCaused steps
      → (turned t actor w).reply ≡ Refused fault → MetItsCause fault steps
  refused_turn (Moves s h q) e k steps fault on caused told = absurd (false≢true (ap is_refusal told))
  refused_turn Waits e k steps fault on caused told = absurd (false≢true (ap is_refusal told))
  refused_turn (Ends (Ok found) s h) e k steps fault on caused told = absurd (false≢true (ap is_refusal told))
  refused_turn (Ends (Err other) s h) e k steps fault on caused told = record {
    once = on.0 ∙ ap (λ (x : Reply). fault_replied other x ∷ []) told;
    caused = caused;
    left = on.1;
  }

  pub met_cause : (granted : Bool) (r : Running) (fault : Fault) → (actor_at w actor).running ≡ Some r
      → (step w (Go actor granted)).reply ≡ Refused fault
      → MetItsCause fault (own_steps actor start (events ++ Go actor granted ∷ []) [])
  met_cause granted r fault is told =
      let met = met_before r is in
      let turn_is = go_is_turn (nat_lt actor (length w.actors)) (actor_at w actor).running w actor granted r
      (lt-ltb actor (length w.actors) (runs_inside w actor r is)) is in
      subst (MetItsCause fault)
      (sym (one_more events start actor granted r is))
      (refused_turn (turn_at w actor granted r) r.ending r.next (with_step (Some r) w actor granted before) fault
      (all_stands w (has_causes events) actor granted r is before met)
      (all_caused w (has_causes events) actor granted r is before met)
      (sym (ap (λ (x : Step). x.reply) turn_is) ∙ told))
