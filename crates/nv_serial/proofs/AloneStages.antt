-- What holds before each step of a call that is made alone: of its beginning on, and again behind each of its steps.
use Rattle.std.proofs.Common.{◌≡◌, ◌≢◌, ◌∙◌, ℕ, ◌<◌, ◌++◌, Bool, true, false, List, [], ◌∷◌, Option, Some, None, ap, append-nil, append_assoc, get_or-set_same, if◌then◌else◌, length, nat_lt, refl, subst, sym}
use Rattle.std.specs.Prelude.{Result}
use Rattle.std.proofs.lemmas.Bool.{lt-ltb, ltb-true}
use Rattle.std.proofs.lemmas.Option.{none-some}
use Rattle.nv_base.specs.declared.fault.Fault.{Fault}
use Rattle.nv_base.specs.declared.geometry.GeometryNumbers.{GeometryNumbers}
use Rattle.nv_book.specs.declared.record.Record.{Record}
use Rattle.nv_calls.specs.declared.answer.Answer.{Answer}
use Rattle.nv_calls.specs.declared.call.Call.{Call}
use Rattle.nv_epoch.specs.SnapList.{ids}
use Rattle.nv_machine.specs.Alone.{goes}
use Rattle.nv_machine.specs.EndsDecided.{decided, is_snapshot_or_cleaner}
use Rattle.nv_machine.specs.Hands.{HandOf, is_going}
use Rattle.nv_machine.specs.PlainRun.{PlainChange, Nothing, Plain, plain_change, plain_change_by, plain_change_of, done, plain_after, plain_step}
use Rattle.nv_machine.specs.Reads.{written_slots}
use Rattle.nv_machine.specs.Recorded.{after_deed, after_retire, records_after, records_in, retired_in}
use Rattle.nv_machine.specs.Sequence as sequence
use Rattle.nv_machine.specs.Sequence.{Beginning, beginning, begun}
use Rattle.nv_machine.specs.Starts.{IsStart}
use Rattle.nv_machine.specs.Step.{Step, after, start_step, step, turned}
use Rattle.nv_machine.specs.World.{Actor, Answers, Ending, Ends, Event, Go, HandState, SnapshotOrCleaner, Moves, Next, Running, Shared, Start, Started, Turn, Waits, World, actor_at, empty_hand, idle}
use Rattle.nv_machine.proofs.CallsStay.{IsCallOf, call_stays}
use Rattle.nv_machine.proofs.AloneRuns.{starts}
use Rattle.nv_machine.proofs.CopiesAll.{after_one}
use Rattle.nv_machine.proofs.DecidedNext as told
use Rattle.nv_machine.proofs.DecidedRuns.{plainly_told}
use Rattle.nv_machine.proofs.EveryWorld.{all_numbers}
use Rattle.nv_machine.proofs.LoopSteps.{is_on_files}
use Rattle.nv_machine.proofs.NextSteps.{Known, KnowsNext}
use Rattle.nv_machine.proofs.OverEvents.{go_deed, others_stay, own_goes, runs_inside, turn_at, with_call}
use Rattle.nv_machine.proofs.PlainOfRuns.{plain_more}
use Rattle.nv_machine.proofs.SingleEvents.{goes as goes_by_turn}
use Rattle.nv_machine.proofs.StepWays.{After, AfterBy, Going, Telling}

-- ---- what stands beside a run: the list of records, and the plain world

pub record PlainState : Type 0 where
  pub records : List Record
  pub plain : Plain

abbrev pub beside_after : World → List Event → PlainState → PlainState
beside_after w events b = record { records = records_after w events b.records; plain = plain_after w events b.plain }

-- what a deed and a retire step make of it
abbrev pub beside_by : PlainChange → List ℕ → List Record → Option Running → Plain → PlainState
beside_by d living rs running p = record { records = after_deed d living rs; plain = done d running p }

-- and a turn of a call
abbrev pub beside_then : Next → Shared → HandState → Running → Turn → PlainState → PlainState
beside_then k s h r t b =
    beside_by (plain_change k (written_slots r) t) (ids s.book.snaps) (after_retire k s h r b.records) (Some r) b.plain

abbrev pub beside_step : World → Event → PlainState → PlainState
beside_step w e b = record { records = records_in w e b.records; plain = plain_step w e b.plain }

records_more : (events : List Event) (w : World) (e : Event) (rs : List Record)
    → records_after w (events ++ e ∷ []) rs ≡ records_in (after w events) e (records_after w events rs)
records_more [] w e rs = refl
records_more (x ∷ events) w e rs = records_more events (step w x).world e (records_in w x rs)

pub beside_more : (events : List Event) (w : World) (e : Event) (b : PlainState)
    → beside_after w (events ++ e ∷ []) b ≡ beside_step (after w events) e (beside_after w events b)
beside_more events w e b =
    ap (λ (rs : List Record). let x : PlainState = record { records = rs; plain = plain_after w (events ++ e ∷ []) b.plain } in x)
    (records_more events w e b.records)
    ∙ ap (λ (p : Plain). let x : PlainState = record { records = records_in (after w events) e (records_after w events b.records); plain = p } in x)
    (plain_more events w e b.plain)

module _ (w : World) (actor : ℕ) (granted : Bool) (r : Running) (there : actor < length w.actors) (is : (actor_at w actor).running ≡ Some r)
    (b : PlainState) where
  deed_at : plain_change_of w (Go actor granted) ≡ plain_change r.next (written_slots r) (turn_at w actor granted r)
  deed_at =
      ap (λ (o : Option Running). if nat_lt actor (length w.actors) then plain_change_by o w actor granted else Nothing) is
      ∙ ap (λ (x : Bool). if x then plain_change r.next (written_slots r) (turn_at w actor granted r) else Nothing)
      (lt-ltb actor (length w.actors) there)

  pub beside_turned : beside_step w (Go actor granted) b ≡ beside_then r.next w.shared (actor_at w actor).hand r (turn_at w actor granted r) b
  beside_turned =
      ap (λ (o : Option Running). beside_by (plain_change_of w (Go actor granted)) (ids w.shared.book.snaps) (retired_in w (Go actor granted) o b.records) o b.plain) is
      ∙ ap (λ (d : PlainChange). beside_by d (ids w.shared.book.snaps)
      (after_retire r.next w.shared (actor_at w actor).hand r b.records) (Some r) b.plain) deed_at

-- ---- turns

pub after_by : (W : Type 0) (P : Going) (E : Telling) (t : Turn) → W → After P E t → AfterBy W P E t
after_by W P E (Moves s h q) had on = on
after_by W P E Waits had on = had
after_by W P E (Ends x s h) had on = on

pub both_by : (V W : Type 0) (P Q : Going) (E F : Telling) (t : Turn) → AfterBy V P E t → AfterBy W Q F t
    → AfterBy (V × W) (λ (s : Shared) (h : HandState) (r : Running). P s h r × Q s h r)
    (λ (x : Result Answer Fault) (s : Shared) (h : HandState). E x s h × F x s h) t
both_by V W P Q E F (Moves s h q) one other = (one, other)
both_by V W P Q E F Waits one other = (one, other)
both_by V W P Q E F (Ends x s h) one other = (one, other)

-- ---- one event

module _ (X : PlainState → Known) (E : PlainState → Telling) (actor : ℕ) where
  abbrev pub StageOf : PlainState → Option Running → Shared → HandState → Type 0
  StageOf b None s h = Unit {0}
  StageOf b (Some r) s h = X b r.next s h r

  abbrev pub StageIn : PlainState → World → Type 0
  StageIn b w = StageOf b (actor_at w actor).running w.shared (actor_at w actor).hand

  -- what is to be shown of a turn
  abbrev pub Turns : PlainState → Shared → HandState → Running → Turn → Type 0
  Turns b s h r t =
      let now = beside_then r.next s h r t b in AfterBy (X now r.next s h r) (KnowsNext (X now)) (E now) t

  turned_stage : (b : PlainState) (t : Turn) (w : World) (r : Running) → actor < length w.actors → (actor_at w actor).running ≡ Some r
      → AfterBy (X b r.next w.shared (actor_at w actor).hand r) (KnowsNext (X b)) (E b) t
      → StageIn b (turned t actor w).world
  turned_stage b (Moves s h q) w r there is on =
      subst (λ (x : Actor). StageOf b x.running s x.hand) (sym (get_or-set_same w.actors actor (with_call h (Some q)) idle there)) on
  turned_stage b Waits w r there is on =
      subst (λ (o : Option Running). StageOf b o w.shared (actor_at w actor).hand) (sym is) on
  turned_stage b (Ends result s h) w r there is on =
      subst (λ (x : Actor). StageOf b x.running s x.hand) (sym (get_or-set_same w.actors actor (with_call h None) idle there)) tt

  stage_goes : (w : World) (granted : Bool) (b : PlainState) → StageIn b w
      → ((r : Running) → (actor_at w actor).running ≡ Some r → X b r.next w.shared (actor_at w actor).hand r
      → Turns b w.shared (actor_at w actor).hand r (turn_at w actor granted r))
      → StageIn (beside_step w (Go actor granted) b) (step w (Go actor granted)).world
  stage_goes w granted b had turns = go (actor_at w actor).running refl where
    go : (o : Option Running) → (actor_at w actor).running ≡ o
        → StageIn (beside_step w (Go actor granted) b) (step w (Go actor granted)).world
    go None is =
        let none : (actor_at (step w (Go actor granted)).world actor).running ≡ None =
        own_goes (λ (x : Actor). x.running ≡ None) w actor granted (λ none. none) (λ r there some. absurd (none-some r (sym is ∙ some))) in
        subst (λ (o : Option Running). StageOf (beside_step w (Go actor granted) b) o (step w (Go actor granted)).world.shared
        (actor_at (step w (Go actor granted)).world actor).hand) (sym none) tt
    go (Some r) is =
        let there = runs_inside w actor r is in
        let t = turn_at w actor granted r in
        let now = beside_then r.next w.shared (actor_at w actor).hand r t b in
        subst (λ (x : PlainState). StageIn x (step w (Go actor granted)).world) (sym (beside_turned w actor granted r there is b))
        (subst (λ (made : Step). StageIn now made.world) (sym (goes_by_turn w actor granted r there is).is_turn)
        (turned_stage now t w r there is
        (turns r is (subst (λ (o : Option Running). StageOf b o w.shared (actor_at w actor).hand) is had))))

  begins_stage : (b : PlainState) (w : World) (c : Call) (there : Bool) (running : Option Running) → nat_lt actor (length w.actors) ≡ there
      → (start_step there running actor c w).reply ≡ Started
      → X b (begun (beginning c) w.shared c).next w.shared (actor_at w actor).hand (begun (beginning c) w.shared c)
      → StageIn b (start_step there running actor c w).world
  begins_stage b w c false running there e first = cc
  begins_stage b w c true (Some r) there e first = cc
  begins_stage b w c true None there e first =
      subst (λ (x : Actor). StageOf b x.running w.shared x.hand)
      (sym (get_or-set_same w.actors actor (with_call (actor_at w actor).hand (Some (begun (beginning c) w.shared c))) idle
      (ltb-true actor (length w.actors) there))) first

-- ---- from the start on

pub begun_call : (b : Beginning) (s : Shared) (c : Call) → (begun b s c).call ≡ c
begun_call sequence.Numbers s c = refl
begun_call other s c = refl

module _ (g : GeometryNumbers) (start : World) (records : List Record) (is_start : IsStart g start records) (actor : ℕ) (c : Call)
    (plain : is_snapshot_or_cleaner c ≡ false) (others : ℕ → Actor) where
  -- no other actor has moved
  abbrev pub OthersStay : List Event → Type 0
  OthersStay events = (b : ℕ) → b ≢ actor → actor_at (after start events) b ≡ others b

  -- what is known of it whatever the stage
  pub record IsOn (events : List Event) (r : Running) : Type 0 where
    pub runs : (actor_at (after start events) actor).running ≡ Some r
    pub call_is : r.call ≡ c
    pub files : is_on_files r.next ≡ true
    pub going : is_going r.next ≡ true → r.ending ≡ Answers
    pub told : told.IsTold r.next r (decided actor start events [])
    pub stay : OthersStay events

  files_of : (k : Next) (e : Ending) (c : Call) → told.Stage k e c → is_on_files k ≡ true
  files_of (SnapshotOrCleaner step) e c stage = absurd stage
  files_of other e c stage = refl

  is_on : (events : List Event) → IsCallOf c (actor_at (after start events) actor).running → OthersStay events → (r : Running)
      → (actor_at (after start events) actor).running ≡ Some r → IsOn events r
  is_on events call stay r is =
      let w = after start events in
      let same : r.call ≡ c = subst (IsCallOf c) is call in
      let known = plainly_told g start records events actor is_start r is (ap is_snapshot_or_cleaner same ∙ plain) in
      record {
        runs = is;
        call_is = same;
        files = files_of r.next r.ending r.call known.stage;
        going = (subst (λ (o : Option Running). HandOf g (actor_at w actor).hand o) is
            ((all_numbers g start records events is_start).hands actor)).1;
        told = known;
        stay = stay;
      }

  module _ (X : PlainState → Known) (E : PlainState → Telling) (at_first : PlainState)
      (keeps : (events : List Event) (granted : Bool) (r : Running) (b : PlainState) → IsOn events r
      → X b r.next (after start events).shared (actor_at (after start events) actor).hand r
      → Turns X E actor b (after start events).shared (actor_at (after start events) actor).hand r
      (turn_at (after start events) actor granted r)) where
    abbrev Now : List Event → PlainState
    Now events = beside_after start events at_first

    record IsStaged (events : List Event) : Type 0 where
      pub call : IsCallOf c (actor_at (after start events) actor).running
      pub stay : OthersStay events
      pub stage : StageIn X E actor (Now events) (after start events)

    call_more : (events : List Event) (granted : Bool) → IsCallOf c (actor_at (after start events) actor).running
        → IsCallOf c (actor_at (step (after start events) (Go actor granted)).world actor).running
    call_more events granted call =
        let w = after start events in
        go_deed (λ (d : PlainChange) (v : World). IsCallOf c (actor_at v actor).running) w call (nat_lt actor (length w.actors))
        (actor_at w actor).running actor granted refl refl
        (λ r there is. moved r there is) where
          moved : (r : Running) → actor < length (after start events).actors
              → (actor_at (after start events) actor).running ≡ Some r
              → IsCallOf c (actor_at (turned (turn_at (after start events) actor granted r) actor (after start events)).world actor).running
          moved r there is =
              subst (λ (v : World). IsCallOf c (actor_at v actor).running)
              (ap (λ made. made.world) (goes_by_turn (after start events) actor granted r there is).is_turn)
              (call_stays (after start events) actor granted r c is (subst (IsCallOf c) is call))

    staged_more : (events : List Event) (granted : Bool) → IsStaged events → IsStaged (events ++ Go actor granted ∷ [])
    staged_more events granted was =
        let w = after start events in
        let next = after_one events start (Go actor granted) in
        record {
          call = subst (λ (v : World). IsCallOf c (actor_at v actor).running) next (call_more events granted was.call);
          stay = λ b ne. ap (λ (v : World). actor_at v b) (sym next) ∙ others_stay w b (Go actor granted) ne ∙ was.stay b ne;
          stage = subst (StageIn X E actor (Now (events ++ Go actor granted ∷ []))) next
              (subst (λ (b : PlainState). StageIn X E actor b (step w (Go actor granted)).world)
              (sym (beside_more events start (Go actor granted) at_first))
              (stage_goes X E actor w granted (Now events) was.stage
              (λ r is on. keeps events granted r (Now events) (is_on events was.call was.stay r is) on)));
        }

    staged_all : (grants : List Bool) (events : List Event) → IsStaged events → IsStaged (events ++ goes actor grants)
    staged_all [] events was = subst IsStaged (sym (append-nil events)) was
    staged_all (b ∷ grants) events was =
        subst IsStaged (append_assoc events (Go actor b ∷ []) (goes actor grants))
        (staged_all grants (events ++ Go actor b ∷ []) (staged_more events b was))

    module _ (before : List Event) (stay : OthersStay before) (started : (step (after start before) (Start actor c)).reply ≡ Started) where
      abbrev s0 : Shared
      s0 = (after start before).shared

      idle_hand : (b : Bool) (running : Option Running) → (actor_at (after start before) actor).running ≡ running
          → (start_step b running actor c (after start before)).reply ≡ Started → (actor_at (after start before) actor).hand ≡ empty_hand
      idle_hand false running is e = cc
      idle_hand true (Some r) is e = cc
      idle_hand true None is e =
          subst (HandOf g (actor_at (after start before) actor).hand) is ((all_numbers g start records before is_start).hands actor)

      abbrev ran : List Bool → List Event
      ran grants = before ++ Start actor c ∷ goes actor grants

      -- BEFORE EACH STEP, where it holds at first
      module _ (first : X (Now before) (begun (beginning c) s0 c).next s0 empty_hand (begun (beginning c) s0 c)) where
        staged_first : IsStaged (before ++ Start actor c ∷ [])
        staged_first =
            let w = after start before in
            let next = after_one before start (Start actor c) in
            let empty = idle_hand (nat_lt actor (length w.actors)) (actor_at w actor).running refl started in
            record {
              call = subst (IsCallOf c) (sym (starts g start records is_start actor c before started)) (begun_call (beginning c) s0 c);
              stay = λ b ne. ap (λ (v : World). actor_at v b) (sym next) ∙ others_stay w b (Start actor c) ne ∙ stay b ne;
              stage = subst (StageIn X E actor (Now (before ++ Start actor c ∷ []))) next
                  (subst (λ (b : PlainState). StageIn X E actor b (step w (Start actor c)).world)
                  (sym (beside_more before start (Start actor c) at_first))
                  (begins_stage X E actor (Now before) w c (nat_lt actor (length w.actors)) (actor_at w actor).running refl started
                  (subst (λ (h : HandState). X (Now before) (begun (beginning c) s0 c).next s0 h (begun (beginning c) s0 c)) (sym empty) first)));
            }

        staged : (grants : List Bool) → IsStaged (ran grants)
        staged grants =
            subst IsStaged (append_assoc before (Start actor c ∷ []) (goes actor grants))
            (staged_all grants (before ++ Start actor c ∷ []) staged_first)

        pub stands : (grants : List Bool) (r : Running) → (actor_at (after start (ran grants)) actor).running ≡ Some r
            → X (Now (ran grants)) r.next (after start (ran grants)).shared (actor_at (after start (ran grants)) actor).hand r
        stands grants r is =
            subst (λ (o : Option Running). StageOf X E actor (Now (ran grants)) o (after start (ran grants)).shared (actor_at (after start (ran grants)) actor).hand)
            is (staged grants).stage

        pub stands_on : (grants : List Bool) (r : Running) → (actor_at (after start (ran grants)) actor).running ≡ Some r
            → IsOn (ran grants) r
        stands_on grants r is = is_on (ran grants) (staged grants).call (staged grants).stay r is

        -- and of its last step what is asked of a reply
        pub stands_then : (grants : List Bool) (granted : Bool) (r : Running)
            → (actor_at (after start (ran grants)) actor).running ≡ Some r
            → Turns X E actor (Now (ran grants)) (after start (ran grants)).shared (actor_at (after start (ran grants)) actor).hand r
            (turn_at (after start (ran grants)) actor granted r)
        stands_then grants granted r is = keeps (ran grants) granted r (Now (ran grants)) (stands_on grants r is) (stands grants r is)
