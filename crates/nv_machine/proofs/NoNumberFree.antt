-- A call that makes an inode, and has no number at its check, has found none free.
use Rattle.std.proofs.lemmas.Option.{none-some}
use Rattle.nv_book.specs.declared.record.Record.{Record}
use Rattle.std.proofs.Common.{Bool, List, None, Option, Some, [], ap, append-nil, append_assoc, arith, false, length, refl, subst, sym, true, ℕ, ◌++◌, ◌+◌, ◌<◌, ◌==◌, ◌||◌, ◌∙◌, ◌∷◌, ◌≡◌}
use Rattle.std.proofs.Math.Bool.{or_assoc}
use Rattle.std.proofs.lemmas.Bool.{false≢true}
use Rattle.nv_base.specs.declared.geometry.GeometryNumbers.{GeometryNumbers}
use Rattle.nv_calls.specs.AllCalls.{looked}
use Rattle.nv_calls.specs.declared.call.Call.{Call}
use Rattle.nv_machine.specs.Bound.{AreNoStarts, IsNoStart}
use Rattle.nv_machine.specs.EndsDecided.{is_snapshot_or_cleaner}
use Rattle.nv_machine.specs.Hands.{makes_inode}
use Rattle.nv_machine.specs.Numberless.{denied_of, finds_none, is_denied, met_none}
use Rattle.nv_machine.specs.PlainRun.{actor_of}
use Rattle.nv_machine.specs.Reads.{copies, nodes}
use Rattle.nv_machine.specs.Sequence.{Beginning, beginning, begun, directories, locking, nothing_looked}
use Rattle.nv_machine.specs.Starts.{IsStart}
use Rattle.nv_machine.specs.Step.{after, is_numbered, kind_turn, same_looked, step}
use Rattle.nv_machine.specs.World.{Actor, Check, Ends, Event, Go, HandState, Lock, Look, Moves, Next, Number, BoundAnew, Running, Shared, SnapshotOrCleanerStep, SnapshotOrCleaner, Start, Started, Turn, Waits, World, actor_at}
use Rattle.nv_machine.proofs.AloneRefusals.{nothing_to_look}
use Rattle.nv_calls.proofs.CheckEnds.{looked_self}
use Rattle.nv_machine.proofs.AloneLooks.{IsLate, OnLate, check_same, late_turn}
use Rattle.nv_machine.proofs.StepWork.{number_work}
use Rattle.nv_machine.proofs.NextSteps.{Known, KnowsNext, OnKnown, Untold}
use Rattle.nv_machine.proofs.LoopSteps.{locking_any}
use Rattle.nv_machine.proofs.StepWays.{numbered_slots}
use Rattle.nv_machine.proofs.StepWalk.{walk_of}
use Rattle.nv_machine.proofs.AloneRuns.{starts as begun_at}
use Rattle.nv_machine.proofs.CallsStay.{IsCallOf, call_stays}
use Rattle.nv_machine.proofs.CopiesAll.{after_one}
use Rattle.nv_machine.proofs.DecidedRuns.{plainly_told}
use Rattle.nv_machine.proofs.DecidedNext.{Stage}
use Rattle.nv_machine.proofs.SingleEvents.{goes as goes_by_turn}
use Rattle.nv_machine.proofs.LooksToCome.{HasLooks, HasLooksOf, all_looks}
use Rattle.nv_machine.proofs.OverEvents.{OwnAfter, event_of, own_goes, runs_inside, turn_at, turned_own}
use Rattle.nv_machine.proofs.Lists.{self}
use Rattle.nv_calls.specs.declared.call.Call.TheVariants as call
use Rattle.nv_machine.specs.Sequence as sequence

-- ---- what is known of a call that makes an inode, before a step

abbrev HasMet : Bool → HandState → Next → Type 0
HasMet met h (Look place) = ⊥
HasMet met h (Lock place) = h.ino ≡ None → met ≡ true
HasMet met h Check = h.ino ≡ None → met ≡ true
HasMet met h other = Unit {0}

abbrev HasMetOf : Bool → Actor → Type 0
HasMetOf met actor = (r : Running) → actor.running ≡ Some r → makes_inode (beginning r.call) ≡ true → HasMet met actor.hand r.next

abbrev MetBy : Bool → Known
MetBy met k s h q = HasMet met h k

abbrev OnMet : Bool → Turn → Type 0
OnMet met t = OnKnown (MetBy met) t

late_met : (met : Bool) (h : HandState) (k : Next) → IsLate k → HasMet met h k
late_met met h Number late = absurd late
late_met met h (Look place) late = absurd late
late_met met h (Lock place) late = absurd late
late_met met h Check late = absurd late
late_met met h other late = tt

on_met : (met : Bool) (t : Turn) → OnLate t → OnMet met t
on_met met (Moves s h q) on = late_met met h q.next on.0
on_met met Waits on = tt
on_met met (Ends result s h) on = tt

locking_met : (met : Bool) (h : HandState) (place : ℕ) (slots : List ℕ) → (h.ino ≡ None → met ≡ true) → HasMet met h (locking place slots)
locking_met met h place slots is = locking_any (HasMet met h) (λ place. is) is place slots

-- once met, always
stays_met : (met b : Bool) → met ≡ true → (met || b) ≡ true
stays_met true b e = refl
stays_met false b e = absurd (false≢true e)

meets : (met b : Bool) → b ≡ true → (met || b) ≡ true
meets true b e = refl
meets false b e = e

more_met : (met b : Bool) (h : HandState) (k : Next) → HasMet met h k → HasMet (met || b) h k
more_met met b h (Look place) is = is
more_met met b h (Lock place) is = λ none. stays_met met b (is none)
more_met met b h Check is = λ none. stays_met met b (is none)
more_met met b h other is = tt

number_met : (met b : Bool) (numbers : List ℕ) (s : Shared) (h : HandState) (slots : List ℕ) → (numbers ≡ [] → b ≡ true)
    → HasMet (met || b) (number_work numbers s h).hand (locking 0 slots)
number_met met b [] s h slots denied = locking_met (met || b) h 0 slots (λ none. meets met b (denied refl))
number_met met b (ino ∷ numbers) s h slots denied = locking_met (met || b) (record h { ino = Some ino }) 0 slots (λ none. cc)

-- a call that makes an inode looks nothing up
no_names : (c : Call) → makes_inode (beginning c) ≡ true → directories c ≡ []
no_names (call.Unlink dir name) makes = absurd (false≢true makes)
no_names (call.Rmdir dir name) makes = absurd (false≢true makes)
no_names (call.Rename from old to new) makes = absurd (false≢true makes)
no_names other makes = refl

module _ (block actor : ℕ) (granted : Bool) (s : Shared) (h : HandState) (r : Running) (met b : Bool) where
  record Given (k : Next) : Type 0 where
    makes : makes_inode (beginning r.call) ≡ true
    denied : k ≡ Number → s.pool.numbers ≡ [] → b ≡ true
    nothing : r.looked ≡ nothing_looked
    over : r.ending ≡ BoundAnew → ⊥
    files : (kind : SnapshotOrCleanerStep) → k ≡ SnapshotOrCleaner kind → ⊥

  no_looks : makes_inode (beginning r.call) ≡ true → beginning r.call ≡ sequence.Looks → ⊥
  no_looks makes looks = false≢true (sym (ap makes_inode looks) ∙ makes)

  kind_met : (k : Next) → Given k → HasMet met h k → OnMet (met || b) (kind_turn k block actor granted s h r)
  kind_met Number given had = walk_of (KnowsNext (MetBy (met || b))) Untold block actor s h r Number granted
      (number_met met b s.pool.numbers s h (numbered_slots s.pool.numbers s r) (given.denied refl)) refl
  kind_met (Look place) given had = absurd had
  kind_met (Lock place) given had = walk_of (KnowsNext (MetBy (met || b))) Untold block actor s h r (Lock place) granted
      (λ free. locking_met (met || b) h (place + 1) r.slots (λ none. stays_met met b (had none))) refl
  kind_met Check given had =
      let same = ap (same_looked (looked (copies s) r.call)) (given.nothing ∙ nothing_to_look r.call (nodes s) (no_looks given.makes))
      ∙ looked_self (looked (copies s) r.call) in
      on_met (met || b) _ (late_turn Check block actor granted s h r refl (λ at e. check_same _ _ _ _ _ same e) given.over)
  kind_met (SnapshotOrCleaner kind) given had = absurd (given.files kind refl)
  kind_met other given had = on_met (met || b) (kind_turn other block actor granted s h r) (late_turn other block actor granted s h r refl (λ at e. cc) given.over)

-- ---- from event to event

more_met_of : (met b : Bool) (x : Actor) → HasMetOf met x → HasMetOf (met || b) x
more_met_of met b x had r is makes = more_met met b x.hand r.next (had r is makes)

after_met : (met b : Bool) (x : Actor) (t : Turn) → HasMetOf met x → OnMet (met || b) t → OwnAfter x (HasMetOf (met || b)) t
after_met met b x (Moves s h q) had on =
    λ r is makes. let same : q ≡ r = cc in subst (λ (y : Running). HasMet (met || b) h y.next) same on
after_met met b x Waits had on = more_met_of met b x had
after_met met b x (Ends result s h) had on = λ r is makes. cc

module _ (g : GeometryNumbers) (start : World) (records : List Record) (is_start : IsStart g start records) (actor : ℕ)
    (events : List Event) (met : Bool) where
  abbrev w : World
  w = after start events

  abbrev h : HandState
  h = (actor_at w actor).hand

  plainly : (c : Call) → makes_inode (beginning c) ≡ true → is_snapshot_or_cleaner c ≡ false
  plainly (call.SnapshotOrCleaner what) makes = absurd (false≢true makes)
  plainly other makes = refl

  given_now : (r : Running) (granted b : Bool) → (actor_at w actor).running ≡ Some r → makes_inode (beginning r.call) ≡ true
      → (r.next ≡ Number → w.shared.pool.numbers ≡ [] → b ≡ true)
      → Given w.numbers.block actor granted w.shared h r met b r.next
  given_now r granted b is makes denied =
      let looks : HasLooks r = subst HasLooksOf is (all_looks start events is_start.idle_all actor) in
      let names = no_names r.call makes in
      let stage = (plainly_told g start records events actor is_start r is (plainly r.call makes)).stage in
      record {
        makes = makes;
        denied = denied;
        nothing = looks.nothing names;
        over = λ over. let some = looks.names over in let none = ap (λ (l : List _). length l) names in omega (arith, some, none);
        files = λ kind next. subst (λ (k : Next). Stage k r.ending r.call) next stage;
      }

  own_met : (granted : Bool) → HasMetOf met (actor_at w actor)
      → HasMetOf (met || denied_of (actor_at w actor).running w.shared.pool.numbers) (actor_at (step w (Go actor granted)).world actor)
  own_met granted had = go (actor_at w actor).running refl where
    b : Bool
    b = denied_of (actor_at w actor).running w.shared.pool.numbers

    go : (running : Option Running) → (actor_at w actor).running ≡ running
        → HasMetOf (met || b) (actor_at (step w (Go actor granted)).world actor)
    go None is = own_goes (HasMetOf (met || b)) w actor granted (λ none. more_met_of met b (actor_at w actor) had)
        (λ r there some. absurd (none-some r (sym is ∙ some)))
    go (Some r) is = by_call (makes_inode (beginning r.call)) refl where
      there : actor < length w.actors
      there = runs_inside w actor r is

      by_call : (makes : Bool) → makes_inode (beginning r.call) ≡ makes
          → HasMetOf (met || b) (actor_at (step w (Go actor granted)).world actor)
      by_call false none = λ q at makes.
          let same : q.call ≡ r.call = subst (IsCallOf r.call) at (call_stays w actor granted r r.call is refl) in
          absurd (false≢true (sym none ∙ ap (λ (c : Call). makes_inode (beginning c)) (sym same) ∙ makes))
      by_call true makes =
          subst (λ made. HasMetOf (met || b) (actor_at made.world actor)) (sym (goes_by_turn w actor granted r there is).is_turn)
          (turned_own (HasMetOf (met || b)) w actor (turn_at w actor granted r) there
          (after_met met b (actor_at w actor) (turn_at w actor granted r) had
          (kind_met w.numbers.block actor granted w.shared h r met b r.next
          (given_now r granted b is makes (λ next none.
          ap (λ (o : Option Running). denied_of o w.shared.pool.numbers) is
          ∙ ap (λ (k : Next). is_denied k w.shared.pool.numbers) next ∙ ap (is_denied Number) none))
          (had r is makes))))

  apart_met : HasMetOf met (actor_at w actor) → (e : Event) → (actor_of e == actor) ≡ false
      → HasMetOf (met || finds_none actor w e) (actor_at w actor)
  apart_met had (Start other c) apart = more_met_of met false (actor_at w actor) had
  apart_met had (Go other granted) apart = rw apart (more_met_of met false (actor_at w actor) had)

  event_met : (e : Event) → IsNoStart actor e → HasMetOf met (actor_at w actor)
      → HasMetOf (met || finds_none actor w e) (actor_at (step w e).world actor)
  event_met e apart had =
      event_of w actor (λ (e : Event) (x : Actor). IsNoStart actor e → HasMetOf (met || finds_none actor w e) x)
      (λ e other no. apart_met had e other) (λ granted no. rw (self actor) (own_met granted had)) (λ c no. absurd (no refl)) e apart

-- over several events
events_met : (g : GeometryNumbers) (start : World) (records : List Record) (is_start : IsStart g start records) (actor : ℕ)
    (events before : List Event) (met : Bool)
    → AreNoStarts actor events
    → HasMetOf met (actor_at (after start before) actor)
    → HasMetOf (met || met_none actor (after start before) events) (actor_at (after start (before ++ events)) actor)
events_met g start records is_start actor [] before met none had =
    subst (λ (l : List Event). HasMetOf (met || false) (actor_at (after start l) actor)) (sym (append-nil before))
    (more_met_of met false (actor_at (after start before) actor) had)
events_met g start records is_start actor (e ∷ events) before met none had =
    let w = after start before in
    let next : (step w e).world ≡ after start (before ++ e ∷ []) = after_one before start e in
    let rest = events_met g start records is_start actor events (before ++ e ∷ []) (met || finds_none actor w e) none.1
    (subst (λ (v : World). HasMetOf (met || finds_none actor w e) (actor_at v actor)) next
    (event_met g start records is_start actor before met e none.0 had)) in
    subst (λ (l : List Event). HasMetOf (met || met_none actor w (e ∷ events)) (actor_at (after start l) actor))
    (append_assoc before (e ∷ []) events)
    (subst (λ (b : Bool). HasMetOf b (actor_at (after start ((before ++ e ∷ []) ++ events)) actor))
    (or_assoc met (finds_none actor w e) (met_none actor (after start (before ++ e ∷ [])) events)
    ∙ ap (λ (v : World). met || (finds_none actor w e || met_none actor v events)) (sym next)) rest)

started_met : (g : GeometryNumbers) (start : World) (records : List Record) → IsStart g start records
    → (actor : ℕ) (c : Call) (before : List Event)
    → (step (after start before) (Start actor c)).reply ≡ Started
    → HasMetOf false (actor_at (after start (before ++ Start actor c ∷ [])) actor)
started_met g start records is_start actor c before started r is makes =
    let same : begun (beginning c) (after start before).shared c ≡ r = cc (starts_as, is) in
    subst (λ (q : Running). makes_inode (beginning q.call) ≡ true
    → HasMet false (actor_at (after start (before ++ Start actor c ∷ [])) actor).hand q.next)
    same (begun_met (beginning c) (after start before).shared refl) makes where
      starts_as : (actor_at (after start (before ++ Start actor c ∷ [])) actor).running
          ≡ Some (begun (beginning c) (after start before).shared c)
      starts_as = begun_at g start records is_start actor c before started

      begun_met : (b : Beginning) (s : Shared) → beginning c ≡ b → makes_inode (beginning (begun b s c).call) ≡ true
          → HasMet false (actor_at (after start (before ++ Start actor c ∷ [])) actor).hand (begun b s c).next
      begun_met sequence.Looks s e makes = absurd (false≢true (sym (ap makes_inode e) ∙ makes))
      begun_met sequence.Locks s e makes = absurd (false≢true (sym (ap makes_inode e) ∙ makes))
      begun_met other s e makes = tt

-- so at its check
pub found_none : (g : GeometryNumbers) (start : World) (records : List Record) (before events : List Event) (actor : ℕ) (c : Call)
    (r : Running) → IsStart g start records
    → (step (after start before) (Start actor c)).reply ≡ Started → AreNoStarts actor events
    → (actor_at (after start (before ++ Start actor c ∷ events)) actor).running ≡ Some r → r.next ≡ Check
    → is_numbered (beginning r.call) (actor_at (after start (before ++ Start actor c ∷ events)) actor).hand.ino ≡ false
    → met_none actor (step (after start before) (Start actor c)).world events ≡ true
found_none g start records before events actor c r is_start started none is next without =
    let first = after start (before ++ Start actor c ∷ []) in
    let had =
    events_met g start records is_start actor events (before ++ Start actor c ∷ []) false none
    (started_met g start records is_start actor c before started) in
    let all : HasMetOf (met_none actor first events) (actor_at (after start (before ++ Start actor c ∷ events)) actor) =
    subst (λ (l : List Event). HasMetOf (met_none actor first events) (actor_at (after start l) actor))
    (append_assoc before (Start actor c ∷ []) events) had in
    let at_check =
    subst (HasMet (met_none actor first events) (actor_at (after start (before ++ Start actor c ∷ events)) actor).hand) next
    (all r is (wants (beginning r.call) _ without)) in
    ap (λ (v : World). met_none actor v events) (after_one before start (Start actor c))
    ∙ at_check (lacks (beginning r.call) _ without) where
      wants : (b : Beginning) (number : Option ℕ) → is_numbered b number ≡ false → makes_inode b ≡ true
      wants sequence.Numbers number e = refl
      wants other number e = absurd (false≢true (sym e))

      lacks : (b : Beginning) (number : Option ℕ) → is_numbered b number ≡ false → number ≡ None
      lacks sequence.Numbers None e = refl
      lacks sequence.Numbers (Some ino) e = absurd (false≢true (sym e))
      lacks other number e = absurd (false≢true (sym e))
