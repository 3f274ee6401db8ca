-- A run that ends refused was refused by exactly one of its turns.
use Rattle.std.proofs.Common.{◌≡◌, ◌∙◌, ℕ, ◌<◌, ◌++◌, true, List, [], ◌∷◌, ap, refl, subst, sym}
use Rattle.std.specs.Prelude.{Err, Ok, Result}
use Rattle.std.specs.List.{AllByRecursion}
use Rattle.std.proofs.lemmas.Bool.{false≢true}
use Rattle.nv_base.specs.declared.fault.Fault.{Fault}
use Rattle.nv_base.specs.declared.geometry.GeometryNumbers.{GeometryNumbers}
use Rattle.nv_calls.specs.declared.answer.Answer.{Answer}
use Rattle.nv_clean.specs.declared.cleaned.Cleaned.{Cleaned}
use Rattle.nv_machine.specs.Causes.{EndsFor, IsCause, IsRoundless, MayBeOvertaken, RefusesFor}
use Rattle.nv_machine.specs.OwnSteps.{fault_in, fault_of, fault_told}
use Rattle.nv_machine.specs.Reads.{copies}
use Rattle.nv_machine.specs.Step.{kind_turn, turn}
use Rattle.nv_machine.specs.World.{Answers, BoundAnew, Cleans, Draining, Drains, Ending, Ends, HandState, Moves, Next, Refuses, Running, Shared, Turn, Unlock, Waits}
use Rattle.nv_machine.proofs.RefusalCauses.{caused, contended}
use Rattle.nv_machine.proofs.RefusedTurns.{CleanGoes, CleanedGoes, ClosingGoes, ClosingTold, DrainGoes, DrainTells, DrainingGoes, Goes, OpenGoes, OvertakenGoes, OverGoes, OverTold, Tells, clean_kind, closing_kind, drain_kind, is_closing, is_unlock, open_kind, over_kind}
use Rattle.nv_machine.proofs.StepWays.{After, is_last}
use Rattle.nv_steps.specs.Parts.{Has, IsOf}
use Rattle.nv_steps.specs.Refused.{HadCause, HadCauses, IsCauseIn, IsRefusedOnce, refused_by, refused_for}
use Rattle.nv_steps.specs.Runs.{IsRun, Leads}
use Rattle.nv_steps.specs.Turns.{Made}

-- ---- what holds before each turn, and behind it

-- by how the call is to end and what comes next: the faults so far
abbrev StandsBy : List Fault → Ending → Next → Type 0
StandsBy faults Answers k = faults ≡ []
StandsBy faults (Refuses fault) k = (faults ≡ fault ∷ []) × (is_closing k ≡ true)
StandsBy faults BoundAnew k = (faults ≡ []) × (is_unlock k ≡ true)
StandsBy faults (Drains draining) k = (faults ≡ []) × (0 < draining.released) × (is_last k ≡ true)
StandsBy faults (Cleans cleaned) k = (faults ≡ []) × (is_last k ≡ true)

abbrev ToldBy : List Fault → Result Answer Fault → Type 0
ToldBy faults (Ok found) = Unit {0}
ToldBy faults (Err fault) = faults ≡ fault ∷ []

-- behind a turn of a call that was to end so: the faults with its own
abbrev StandsBehind : Ending → List Fault → Turn → Type 0
StandsBehind e faults (Moves s h q) = StandsBy (refused_by e (fault_of q.ending) ++ faults) q.ending q.next
StandsBehind e faults Waits = Unit {0}
StandsBehind e faults (Ends result s h) = ToldBy (refused_by e (fault_told result) ++ faults) result

module _ (k : Next) (s : Shared) (faults : List Fault) where
  from_answers : (t : Turn) → After (Goes k s) (Tells k s) t → faults ≡ [] → StandsBehind Answers faults t
  from_answers (Moves t h q) on none = go q.ending on where
    go : (e : Ending) → OpenGoes k s t e q.next → StandsBy (fault_of e ++ faults) e q.next
    go Answers on = none
    go (Refuses fault) on = (ap (λ (l : List Fault). fault ∷ l) none, on.0)
    go BoundAnew on = (none, on.0)
    go (Drains d) on = (none, on.1, on.0)
    go (Cleans c) on = (none, on)
  from_answers Waits on none = tt
  from_answers (Ends (Ok found) t h) on none = tt
  from_answers (Ends (Err fault) t h) on none = ap (λ (l : List Fault). fault ∷ l) none

  from_refused : (fault : Fault) (t : Turn) → After (ClosingGoes fault s) (ClosingTold fault s) t → faults ≡ fault ∷ []
      → StandsBehind (Refuses fault) faults t
  from_refused fault (Moves t h q) on one = subst (λ (e : Ending). StandsBy faults e q.next) (sym on.0) (one, on.1)
  from_refused fault Waits on one = tt
  from_refused fault (Ends (Ok found) t h) on one = tt
  from_refused fault (Ends (Err other) t h) on one = one ∙ ap (λ (x : Result Answer Fault). fault_told x) (sym on.0)

  from_overtaken : (t : Turn) → After (OverGoes s) (OverTold s) t → faults ≡ [] → StandsBehind BoundAnew faults t
  from_overtaken (Moves t h q) on none = go q.ending on where
    go : (e : Ending) → OvertakenGoes s t e q.next → StandsBy (fault_of e ++ faults) e q.next
    go Answers on = none
    go BoundAnew on = (none, on.0)
    go other on = absurd on
  from_overtaken Waits on none = tt
  from_overtaken (Ends (Ok found) t h) on none = tt
  from_overtaken (Ends (Err fault) t h) on none = ap (λ (l : List Fault). fault ∷ l) none

module _ (faults : List Fault) where
  from_drain : (d : Draining) (t : Turn) → After DrainGoes DrainTells t → faults ≡ [] → StandsBehind (Drains d) faults t
  from_drain d (Moves t h q) on none = go q.ending on where
    go : (e : Ending) → DrainingGoes e q.next → StandsBy (fault_of e ++ faults) e q.next
    go Answers on = none
    go (Drains d) on = (none, on.0, on.1)
    go other on = absurd on
  from_drain d Waits on none = tt
  from_drain d (Ends (Ok found) t h) on none = tt
  from_drain d (Ends (Err fault) t h) on none = absurd on

  from_clean : (c : Cleaned) (t : Turn) → After CleanGoes DrainTells t → faults ≡ [] → StandsBehind (Cleans c) faults t
  from_clean c (Moves t h q) on none = go q.ending on where
    go : (e : Ending) → CleanedGoes e q.next → StandsBy (fault_of e ++ faults) e q.next
    go (Cleans d) on = (none, on)
    go other on = absurd on
  from_clean c Waits on none = tt
  from_clean c (Ends (Ok found) t h) on none = tt
  from_clean c (Ends (Err fault) t h) on none = absurd on

-- ---- causes

-- each fault of a turn meets what it refuses for
all_met : (P : Fault → Type 0) (Q : Type 0) (t : Turn) → RefusesFor P Q t → AllByRecursion P (fault_in t)
all_met P Q (Moves s h q) on = go q.ending on where
  go : (e : Ending) → EndsFor P Q q.next e → AllByRecursion P (fault_of e)
  go (Refuses fault) on = (on.0, tt)
  go other on = tt
all_met P Q Waits on = tt
all_met P Q (Ends (Ok found) s h) on = tt
all_met P Q (Ends (Err fault) s h) on = (on, tt)

-- the last steps of a cleaner, and of a drain's record, refuse nothing
clean_refuses : (t : Turn) → After CleanGoes DrainTells t → fault_in t ≡ []
clean_refuses (Moves t h q) on = go q.ending on where
  go : (e : Ending) → CleanedGoes e q.next → fault_of e ≡ []
  go (Cleans c) on = refl
  go other on = absurd on
clean_refuses Waits on = refl
clean_refuses (Ends (Ok found) t h) on = refl
clean_refuses (Ends (Err fault) t h) on = absurd on

drain_refuses : (t : Turn) → After DrainGoes DrainTells t → fault_in t ≡ []
drain_refuses (Moves t h q) on = go q.ending on where
  go : (e : Ending) → DrainingGoes e q.next → fault_of e ≡ []
  go Answers on = refl
  go (Drains d) on = refl
  go other on = absurd on
drain_refuses Waits on = refl
drain_refuses (Ends (Ok found) t h) on = refl
drain_refuses (Ends (Err fault) t h) on = absurd on

-- ---- one turn

module _ (numbers : GeometryNumbers) (actor : ℕ) (t : Made) (faults : List Fault) where
  abbrev its_turn : Shared → Turn
  its_turn s = turn numbers.block actor t.granted s t.hand t.running

  stands_behind : (s : Shared) (e : Ending) → t.running.ending ≡ e → StandsBy faults e t.running.next
      → StandsBehind e faults (its_turn s)
  stands_behind s Answers is stands =
      from_answers t.running.next s faults (its_turn s) (open_kind numbers.block actor t.granted s t.hand t.running is t.running.next) stands
  stands_behind s (Refuses fault) is stands =
      from_refused t.running.next s faults fault (its_turn s)
      (closing_kind fault numbers.block actor t.granted s t.hand t.running is t.running.next stands.1) stands.0
  stands_behind s BoundAnew is stands =
      from_overtaken t.running.next s faults (its_turn s)
      (over_kind numbers.block actor t.granted s t.hand t.running is t.running.next stands.1) stands.0
  stands_behind s (Drains d) is stands =
      from_drain faults d (its_turn s)
      (drain_kind d numbers.block actor t.granted s t.hand t.running is stands.1 t.running.next stands.2) stands.0
  stands_behind s (Cleans c) is stands =
      from_clean faults c (its_turn s)
      (clean_kind c numbers.block actor t.granted s t.hand t.running is t.running.next stands.1) stands.0

  caused_in : (s : Shared) (e : Ending) → t.running.ending ≡ e → StandsBy faults e t.running.next
      → AllByRecursion (IsCauseIn e numbers actor t s) (refused_by e (fault_in (its_turn s)))
  caused_in s Answers is stands =
      all_met (IsCause t.running.next numbers.block actor t.granted (copies s) s t.hand t.running)
      (MayBeOvertaken t.running.next (copies s) t.running) (its_turn s)
      (caused t.running.next numbers.block actor t.granted s t.hand t.running is)
  caused_in s (Refuses fault) is stands = tt
  caused_in s BoundAnew is stands = go t.running.next refl stands.1 where
    go : (k : Next) → t.running.next ≡ k → is_unlock k ≡ true → AllByRecursion (IsRoundless t.running) (fault_in (its_turn s))
    go (Unlock place) next on =
        all_met (IsRoundless t.running) (Unit {0}) (its_turn s)
        (subst (λ (k : Next). RefusesFor (IsRoundless t.running) (Unit {0}) (kind_turn k numbers.block actor t.granted s t.hand t.running))
        (sym next) (contended place numbers.block actor t.granted s t.hand t.running is))
    go other next on = absurd (false≢true on)
  caused_in s (Drains d) is stands =
      subst (AllByRecursion (IsCauseIn (Drains d) numbers actor t s))
      (sym (drain_refuses (its_turn s)
      (drain_kind d numbers.block actor t.granted s t.hand t.running is stands.1 t.running.next stands.2))) tt
  caused_in s (Cleans c) is stands =
      subst (AllByRecursion (IsCauseIn (Cleans c) numbers actor t s))
      (sym (clean_refuses (its_turn s)
      (clean_kind c numbers.block actor t.granted s t.hand t.running is t.running.next stands.1))) tt

-- what holds of each of some faults in each state holds in each state of each of them
each_fault : (numbers : GeometryNumbers) (t : Made) (P : Shared → Fault → Type 0) (faults : List Fault)
    → ((s : Shared) → IsOf numbers s → Has s t.found → AllByRecursion (P s) faults)
    → AllByRecursion (λ (fault : Fault). (s : Shared) → IsOf numbers s → Has s t.found → P s fault) faults
each_fault numbers t P [] all = tt
each_fault numbers t P (fault ∷ faults) all =
    (λ s is has. (all s is has).0, each_fault numbers t P faults (λ s is has. (all s is has).1))

-- a turn that comes to this in each state that has what it found
had_cause : (numbers : GeometryNumbers) (actor : ℕ) (t : Made) (faults told : List Fault) → StandsBy faults t.running.ending t.running.next
    → ((s : Shared) → IsOf numbers s → Has s t.found → fault_in (turn numbers.block actor t.granted s t.hand t.running) ≡ told)
    → AllByRecursion (HadCause numbers actor t) (refused_by t.running.ending told)
had_cause numbers actor t faults told stands tells =
    each_fault numbers t (IsCauseIn t.running.ending numbers actor t) (refused_by t.running.ending told) (λ s is has.
    subst (λ (l : List Fault). AllByRecursion (IsCauseIn t.running.ending numbers actor t s) (refused_by t.running.ending l)) (tells s is has)
    (caused_in numbers actor t faults s t.running.ending refl stands))

-- ---- a run

module _ (numbers : GeometryNumbers) (actor : ℕ) (h0 : HandState) (r0 : Running) (going : r0.ending ≡ Answers) where
  stands_along : (turns : List Made) (h : HandState) (r : Running) → Leads numbers actor h0 r0 turns h r
      → StandsBy (refused_for turns r.ending) r.ending r.next × HadCauses numbers actor turns r.ending
  stands_along [] h r leads =
      (subst (λ (e : Ending). StandsBy [] e r.next) (sym (ap (λ (q : Running). q.ending) leads.1 ∙ going)) refl, tt)
  stands_along (t ∷ before) h r leads =
      let had = stands_along before t.hand t.running leads.0 in
      let faults = refused_for before t.running.ending in
      let there = leads.2 in (
        subst (StandsBehind t.running.ending faults) (leads.3 there.shared there.is_of there.has)
            (stands_behind numbers actor t faults there.shared t.running.ending refl had.0),
        (
          had_cause numbers actor t faults (fault_of r.ending) had.0 (λ s is has. ap (λ (x : Turn). fault_in x) (leads.3 s is has)),
          had.1,
        ),
      )

  pub refused_once : (fault : Fault) (h : HandState) (run : IsRun numbers actor h0 r0 (Err fault) h)
      → IsRefusedOnce numbers actor run.turns run.last fault
  refused_once fault h run =
      let t = run.last in
      let had = stands_along run.turns t.hand t.running run.leads in
      let faults = refused_for run.turns t.running.ending in
      let there = run.there in
      record {
        once = subst (StandsBehind t.running.ending faults) (run.ends there.shared there.is_of there.has)
            (stands_behind numbers actor t faults there.shared t.running.ending refl had.0);
        last_caused =
            had_cause numbers actor t faults (fault ∷ []) had.0 (λ s is has. ap (λ (x : Turn). fault_in x) (run.ends s is has));
        caused = had.1;
      }
