-- A call that is answered was decided once, whatever events come.
use Rattle.nv_book.specs.declared.record.Record.{Record}
use Rattle.std.proofs.Common.{Bool, List, None, Option, Some, [], ap, cond, false, get_or-set_same, length, nat_lt, refl, subst, sym, true, ℕ, ◌%◌, ◌++◌, ◌<◌, ◌==◌, ◌∙◌, ◌∷◌, ◌≡◌}
use Rattle.std.specs.Prelude.{Err, Ok}
use Rattle.std.proofs.lemmas.Bool.{false≢true, lt-ltb, ltb-true}
use Rattle.nv_base.specs.declared.fault.Fault.{Fault}
use Rattle.nv_base.specs.declared.geometry.GeometryNumbers.{GeometryNumbers}
use Rattle.nv_calls.specs.AllCalls.{answer, effect, is_nothing}
use Rattle.nv_calls.specs.Plain.{node_in}
use Rattle.nv_calls.specs.declared.answer.Answer.{Answer}
use Rattle.nv_calls.specs.declared.call.Call.{Call}
use Rattle.nv_machine.specs.EndsDecided.{decided, decided_in, decision_of, is_snapshot_or_cleaner, unless_started}
use Rattle.nv_machine.specs.Hands.{HandOf}
use Rattle.nv_machine.specs.Kept.{Knows, KnowsOf}
use Rattle.nv_machine.specs.Locks.{commits_at}
use Rattle.nv_machine.specs.PlainRun.{Commits, actor_of, plain_change_of}
use Rattle.nv_machine.specs.Reads.{slots_of, written_slots}
use Rattle.nv_machine.specs.Sequence.{Beginning, Locks, Maintains, Visits, beginning, begun, nothing_looked}
use Rattle.nv_machine.specs.Settled.{settled_nodes}
use Rattle.nv_machine.specs.Starts.{IsStart}
use Rattle.nv_machine.specs.Step.{Step, after, start_step, step, turn, turned}
use Rattle.nv_machine.specs.World.{Actor, Append, ReturnNumber, Check, Close, Done, Ending, Ends, Event, Give, Go, HandState, Leave, Lock, Look, Moves, Next, Number, Open, Publish, Refused, Reply, Retire, Running, Shared, SnapshotOrCleaner, Start, Turn, Unlock, Visit, Waits, World, actor_at, idle}
use Rattle.nv_calls.specs.declared.allocation.Allocation.{Allocation}
use Rattle.nv_calls.proofs.Nothing.{told_nothing}
use Rattle.nv_machine.proofs.EveryWorld.{all_fit, all_known}
use Rattle.nv_machine.proofs.EndingsStay.{deed_is}
use Rattle.nv_machine.proofs.OverEvents.{OwnAfter, event_of, own_goes, runs_inside, turn_at}
use Rattle.nv_machine.proofs.DecidedReads.{logs_held}
use Rattle.nv_machine.proofs.DecidedWrites.{enter_writes}
use Rattle.nv_machine.proofs.SingleEvents.{go_is_turn}
use Rattle.nv_machine.proofs.FitsBytes.{point_fits}
use Rattle.nv_machine.proofs.FitsEvents.{IsKnown}
use Rattle.nv_machine.proofs.FitsLaws.{has_passed}
use Rattle.nv_machine.proofs.FitsStages.{FitsAt, FitsOf}
use Rattle.nv_machine.proofs.Lists.{self}
use Rattle.nv_machine.proofs.LocksOverEvents.{before}
use Rattle.nv_machine.proofs.VisitsRead.{visit_same}
use Rattle.nv_machine.proofs.DecidedNext.{IsTold, OnTold, Stage, locking_told, no_visit, plain_visit}
use Rattle.nv_machine.proofs.DecidedTurns.{Relied, kind_told}
use Rattle.nv_machine.proofs.SnapshotOrCleanerTurns.{is_quiet}
use Rattle.nv_calls.specs.declared.snapshot_or_cleaner_call.SnapshotOrCleanerCall.{SnapshotOrCleanerCall}
use Rattle.nv_machine.proofs.DecidedSnapshotOrCleaner.{IsSilent, OnSilent, decides_none, quiet_kind, quiet_out, silent_turn}
use Rattle.nv_calls.specs.declared.call.Call.TheVariants as call

-- ---- a call that runs

abbrev ToldBy : Bool → Running → List Answer → Type 0
ToldBy true r d = IsSilent r d
ToldBy false r d = IsTold r.next r d

abbrev pub HasTold : Option Running → List Answer → Type 0
HasTold None d = Unit {0}
HasTold (Some r) d = ToldBy (is_snapshot_or_cleaner r.call) r d

open_knows : (k : Next) (block : ℕ) (s : Shared) (cpu : ℕ) (h : HandState) (r : Running) → k ≡ Open → Knows k block s cpu h r
    → nat_lt 1 (length (written_slots r)) ≡ true
open_knows k block s cpu h r e knows =
    let known : Knows Open block s cpu h r = subst (λ (x : Next). Knows x block s cpu h r) e knows in known.3

-- what its next step may rely on
pub relied : (g : GeometryNumbers) (w : World) → IsKnown g w → (actor : ℕ) (r : Running) → (actor_at w actor).running ≡ Some r
    → Relied r.next w.numbers.block actor (actor % length w.shared.lists) w.shared (actor_at w actor).hand r
relied g w known actor r is =
    let s = w.shared in
    let h = (actor_at w actor).hand in
    let block = w.numbers.block in
    let k = known.reached in
    let b = before w actor r k.locks is in
    let own : HandOf g h (Some r) = subst (λ (o : Option Running). HandOf g h o) is (known.numbers.hands actor) in
    let fits : FitsAt r.next block s h r = subst (λ (o : Option Running). FitsOf o block s h) is (known.fit.each actor) in
    let knows : Knows r.next block s (actor % length s.lists) h r =
    subst (λ (o : Option Running). KnowsOf o block s (actor % length s.lists) h) is (k.kept.each actor) in
    record {
      ending = own.1;
      fits = fits;
      logs = logs_held w actor r k.locks k.grown is;
      inside = b.inside;
      several = λ e. (open_knows r.next block s (actor % length s.lists) h r e knows);
      written = λ e some. enter_writes g w known r h (subst (λ (x : Next). FitsAt x block s h r) e fits) some;
      visit = λ begins free taken. visit_same w k.grown taken r.call begins free;
    }

-- a call in its commit has something to commit
committing : (k : Next) (e : Ending) (c : Call) → commits_at k ≡ true → Stage k e c → is_nothing c ≡ false
committing (Append place) e c at stage = stage
committing Open e c at stage = stage
committing (Publish place) e c at stage = stage
committing Close e c at stage = stage
committing (Retire place) e c at stage = stage
committing Leave e c at stage = stage
committing other e c at stage = absurd (false≢true at)

-- a stage is that of a call on files and directories
staged : (k : Next) (e : Ending) (c : Call) → Stage k e c → is_snapshot_or_cleaner c ≡ false
staged Number e c stage = stage.1
staged (Look place) e c stage = stage.1
staged (Lock place) e c stage = stage.1
staged Check e c stage = stage.1
staged Visit e c stage = plain_visit c stage
staged (Unlock place) e c stage = stage.0.1
staged (Give cpu) e c stage = stage.1
staged ReturnNumber e c stage = stage.1
staged (SnapshotOrCleaner step) e c stage = absurd stage
staged other e c stage = (no_visit c stage).1

told_running : (q : Running) (d : List Answer) → IsTold q.next q d → HasTold (Some q) d
told_running q d is = subst (λ (b : Bool). ToldBy b q d) (sym (staged q.next q.ending q.call is.stage)) is

-- ---- one event

begun_plain : (c : Call) → ((what : SnapshotOrCleanerCall) → beginning c ≡ Maintains what → ⊥) → is_snapshot_or_cleaner c ≡ false
begun_plain (call.SnapshotOrCleaner what) other = absurd (other what refl)
begun_plain rest other = refl

begun_on : (c : Call) (what : SnapshotOrCleanerCall) → beginning c ≡ Maintains what → is_snapshot_or_cleaner c ≡ true
begun_on (call.SnapshotOrCleaner what) here e = refl
begun_on other here e = cc

begun_told : (b : Beginning) (s : Shared) (c : Call) → beginning c ≡ b → HasTold (Some (begun b s c)) []
begun_told Visits s c e = told_running (begun Visits s c) [] (record { told = refl; stage = e })
begun_told Locks s c e =
    told_running (begun Locks s c) []
    (locking_told refl 0 (slots_of s None nothing_looked c) (begun Locks s c) (λ v. cc, begun_plain c (λ what v. cc)))
begun_told (Maintains what) s c e =
    subst (λ (b : Bool). ToldBy b (begun (Maintains what) s c) []) (sym (begun_on c what e))
    (record { none = refl; quiet = refl; fair = refl })
begun_told other s c e =
    told_running (begun other s c) [] (record { told = refl; stage = (λ v. cc, begun_plain c (λ what v. cc)) })

module _ (g : GeometryNumbers) (w : World) (known : IsKnown g w) (actor : ℕ) where
  abbrev Then : List Answer → Actor → Type 0
  Then d x = HasTold x.running d

  after_told : (t : Turn) (d before : List Answer) → OnTold before d t → HasTold (actor_at w actor).running before
      → OwnAfter (actor_at w actor) (Then d) t
  after_told (Moves s h q) d before on had = told_running q d on
  after_told Waits d before on had = subst (HasTold (actor_at w actor).running) (sym on) had
  after_told (Ends result s h) d before on had = tt

  after_silent : (t : Turn) (d before : List Answer) (r : Running) → (actor_at w actor).running ≡ Some r → is_snapshot_or_cleaner r.call ≡ true
      → d ≡ before → IsSilent r before → OnSilent r.call d t → OwnAfter (actor_at w actor) (Then d) t
  after_silent (Moves s h q) d before r is snapshot same had on =
      subst (λ (b : Bool). ToldBy b q d) (sym (ap is_snapshot_or_cleaner on.1 ∙ snapshot)) on.0
  after_silent Waits d before r is snapshot same had on =
      subst (λ (o : Option Running). HasTold o d) (sym is) (subst (λ (b : Bool). ToldBy b r d) (sym snapshot)
      (subst (IsSilent r) (sym same) had))
  after_silent (Ends result s h) d before r is snapshot same had on = tt

  own_silent : (granted : Bool) (r : Running) (before : List Answer) → is_quiet r.next ≡ true
      → decision_of (Some r) w actor granted ++ before ≡ before
  own_silent granted r before quiet =
      let t = turn w.numbers.block actor granted w.shared (actor_at w actor).hand r in
      ap (λ (b : Bool). cond b (answer (settled_nodes w.shared) r.made r.call ∷ []) [] ++ before)
      (decides_none r.next w.numbers.block w.shared r t quiet)

  own_turn_told : (granted : Bool) (r : Running) (before : List Answer) → (actor_at w actor).running ≡ Some r → IsTold r.next r before
      → OnTold before (decision_of (Some r) w actor granted ++ before)
      (turn w.numbers.block actor granted w.shared (actor_at w actor).hand r)
  own_turn_told granted r before is had =
      kind_told w.numbers.block actor (actor % length w.shared.lists) w.shared (actor_at w actor).hand r r.next granted before
      (relied g w known actor r is) had

  own_told : (granted : Bool) (before : List Answer) → HasTold (actor_at w actor).running before
      → HasTold (actor_at (step w (Go actor granted)).world actor).running
      (decision_of (actor_at w actor).running w actor granted ++ before)
  own_told granted before had =
      own_goes (Then (decision_of (actor_at w actor).running w actor granted ++ before)) w actor granted (λ none. rw none tt)
      (λ r there is. subst (λ (o : Option Running). OwnAfter (actor_at w actor) (Then (decision_of o w actor granted ++ before))
      (turn_at w actor granted r)) (sym is) (go r is (is_snapshot_or_cleaner r.call) refl
      (subst (λ (o : Option Running). HasTold o before) is had)))
    where
      go : (r : Running) → (actor_at w actor).running ≡ Some r → (b : Bool) → is_snapshot_or_cleaner r.call ≡ b → ToldBy b r before
          → OwnAfter (actor_at w actor) (Then (decision_of (Some r) w actor granted ++ before)) (turn_at w actor granted r)
      go r is false plain told = after_told (turn_at w actor granted r) _ before (own_turn_told granted r before is told) had
      go r is true snapshot told =
          let same = own_silent granted r before told.quiet in
          let quiet = quiet_kind r.next w.numbers.block actor granted w.shared (actor_at w actor).hand r told.quiet told.fair in
          after_silent (turn_at w actor granted r) _ before r is snapshot same told
          (silent_turn r _ (turn_at w actor granted r) (same ∙ told.none) quiet.0 quiet.1)

  started_told : (b : Bool) (running : Option Running) (c : Call) (before : List Answer) → nat_lt actor (length w.actors) ≡ b
      → (actor_at w actor).running ≡ running → HasTold running before
      → HasTold (actor_at (start_step b running actor c w).world actor).running
      (unless_started (start_step b running actor c w).reply before)
  started_told false running c before there is had = rw is had
  started_told true (Some r) c before there is had = rw is had
  started_told true None c before there is had =
      subst (λ (x : Actor). HasTold x.running [])
      (sym (get_or-set_same w.actors actor (record { hand = (actor_at w actor).hand; running = Some (begun (beginning c) w.shared c) })
      idle (ltb-true actor (length w.actors) there))) (begun_told (beginning c) w.shared c refl)

  apart_told : (before : List Answer) → HasTold (actor_at w actor).running before → (e : Event) → (actor_of e == actor) ≡ false
      → HasTold (actor_at w actor).running (decided_in actor w e before)
  apart_told before had (Start other c) apart = rw apart had
  apart_told before had (Go other granted) apart = rw apart had

  event_told : (e : Event) (before : List Answer) → HasTold (actor_at w actor).running before
      → HasTold (actor_at (step w e).world actor).running (decided_in actor w e before)
  event_told e before had = event_of w actor (λ (e : Event) (x : Actor). HasTold x.running (decided_in actor w e before))
      (apart_told before had)
      (λ granted. rw (self actor) (own_told granted before had))
      (λ c. rw (self actor) (started_told (nat_lt actor (length w.actors)) (actor_at w actor).running c before refl refl had)) e

-- ---- all events

events_told : (g : GeometryNumbers) (events : List Event) (w : World) (actor : ℕ) (before : List Answer)
    → ((some : List Event) → IsKnown g (after w some)) → HasTold (actor_at w actor).running before → HasTold (actor_at (after w events) actor).running (decided actor w events before)
events_told g [] w actor before known had = had
events_told g (e ∷ events) w actor before known had =
    events_told g events (step w e).world actor (decided_in actor w e before) (λ some. known (e ∷ some))
    (event_told g w (known []) actor e before had)

-- one more event
pub decided_more : (events : List Event) (w : World) (actor : ℕ) (e : Event) (before : List Answer)
    → decided actor w (events ++ e ∷ []) before ≡ decided_in actor (after w events) e (decided actor w events before)
decided_more [] w actor e before = refl
decided_more (f ∷ events) w actor e before = decided_more events (step w f).world actor e (decided_in actor w f before)

module _ (g : GeometryNumbers) (start : World) (records : List Record) (events : List Event) (actor : ℕ)
    (is_start : IsStart g start records) where
  abbrev w : World
  w = after start events

  abbrev before_all : List Answer
  before_all = decided actor start events []

  all_told : HasTold (actor_at w actor).running before_all
  all_told = events_told g events start actor [] (all_known g start records is_start)
      (subst (λ (x : Actor). HasTold x.running []) (sym (is_start.idle_all actor)) tt)

  -- an event of the actor's own
  own_event : (granted : Bool) → decided actor start (events ++ Go actor granted ∷ []) []
      ≡ decision_of (actor_at w actor).running w actor granted ++ before_all
  own_event granted = decided_more events start actor (Go actor granted) []
      ∙ ap (λ (b : Bool). cond b (decision_of (actor_at w actor).running w actor granted ++ before_all) before_all) (self actor)

  -- what a turn replies was decided
  abbrev ReplyTold : Reply → List Answer → Type 0
  ReplyTold (Done told) d = d ≡ told ∷ []
  ReplyTold (Refused fault) d = d ≡ []
  ReplyTold other d = Unit {0}

  turn_replies : (t : Turn) (before d : List Answer) → OnTold before d t → ReplyTold (turned t actor w).reply d
  turn_replies (Moves s h q) before d on = tt
  turn_replies Waits before d on = tt
  turn_replies (Ends (Ok found) s h) before d on = on
  turn_replies (Ends (Err fault) s h) before d on = on

  replied : (granted : Bool) (r : Running) → (actor_at w actor).running ≡ Some r → IsTold r.next r before_all
      → ReplyTold (step w (Go actor granted)).reply (decision_of (Some r) w actor granted ++ before_all)
  replied granted r is had =
      subst (λ (x : Step). ReplyTold x.reply (decision_of (Some r) w actor granted ++ before_all))
      (sym (go_is_turn (nat_lt actor (length w.actors)) (actor_at w actor).running w actor granted r
      (lt-ltb actor (length w.actors) (runs_inside w actor r is)) is))
      (turn_replies (turn w.numbers.block actor granted w.shared (actor_at w actor).hand r) before_all _
      (own_turn_told g w (all_known g start records is_start events) actor granted r before_all is had))

  told_of : (r : Running) → (actor_at w actor).running ≡ Some r → ToldBy (is_snapshot_or_cleaner r.call) r before_all
  told_of r is = subst (λ (o : Option Running). HasTold o before_all) is all_told

  -- a call at its visit begins with it
  pub visits_of : (r : Running) → (actor_at w actor).running ≡ Some r → r.next ≡ Visit → beginning r.call ≡ Visits
  visits_of r is next = go (is_snapshot_or_cleaner r.call) (told_of r is) where
    go : (b : Bool) → ToldBy b r before_all → beginning r.call ≡ Visits
    go true told = absurd (false≢true (ap is_quiet (sym next) ∙ told.quiet))
    go false told = subst (λ (k : Next). Stage k r.ending r.call) next told.stage

  pub plainly_told : (r : Running) → (actor_at w actor).running ≡ Some r → is_snapshot_or_cleaner r.call ≡ false → IsTold r.next r before_all
  plainly_told r is plain = subst (λ (b : Bool). ToldBy b r before_all) plain (told_of r is)

  all_replied : (granted : Bool) (r : Running) → (actor_at w actor).running ≡ Some r → is_snapshot_or_cleaner r.call ≡ false
      → ReplyTold (step w (Go actor granted)).reply (decided actor start (events ++ Go actor granted ∷ []) [])
  all_replied granted r is plain =
      subst (ReplyTold (step w (Go actor granted)).reply)
      (sym (own_event granted ∙ ap (λ (o : Option Running). decision_of o w actor granted ++ before_all) is))
      (replied granted r is (plainly_told r is plain))

  abbrev decided_then : Bool → List Answer
  decided_then granted = decided actor start (events ++ Go actor granted ∷ []) []

  -- a call that is refused was not decided
  pub is_undecided : (granted : Bool) (r : Running) (fault : Fault) → (actor_at w actor).running ≡ Some r
      → (step w (Go actor granted)).reply ≡ Refused fault → decided_then granted ≡ []
  is_undecided granted r fault is e = go (is_snapshot_or_cleaner r.call) refl where
    go : (b : Bool) → is_snapshot_or_cleaner r.call ≡ b → decided_then granted ≡ []
    go false plain = subst (λ (x : Reply). ReplyTold x (decided_then granted)) e (all_replied granted r is plain)
    go true snapshot =
        let silent : IsSilent r before_all = subst (λ (b : Bool). ToldBy b r before_all) snapshot (told_of r is) in
        own_event granted ∙ ap (λ (o : Option Running). decision_of o w actor granted ++ before_all) is
        ∙ own_silent g w (all_known g start records is_start events) actor granted r
        before_all silent.quiet ∙ silent.none

  -- and one on files and directories that is answered was, once
  pub is_decided : (granted : Bool) (r : Running) (told : Answer) → (actor_at w actor).running ≡ Some r → is_snapshot_or_cleaner r.call ≡ false
      → (step w (Go actor granted)).reply ≡ Done told → decided_then granted ≡ told ∷ []
  is_decided granted r told is plain e = subst (λ (x : Reply). ReplyTold x (decided_then granted)) e (all_replied granted r is plain)

  -- a call that commits is on files and directories
  commits_plainly : (r : Running) (b : Bool) → ToldBy b r before_all → commits_at r.next ≡ true → is_nothing r.call ≡ false
  commits_plainly r false told at = committing r.next r.ending r.call at told.stage
  commits_plainly r true silent at = absurd (false≢true (sym (quiet_out r.next silent.quiet) ∙ at))

  -- what commits has something to change
  pub commits_something : (granted : Bool) (r : Running) → actor < length w.actors → (actor_at w actor).running ≡ Some r
      → plain_change_of w (Go actor granted) ≡ Commits → 0 < length (effect (node_in (settled_nodes w.shared)) r.made r.call)
  commits_something granted r there is e =
      let block = w.numbers.block in
      let taken : Allocation = record { made = r.made; runs = [] } in
      let fits : FitsAt r.next block w.shared (actor_at w actor).hand r =
      subst (λ (o : Option Running). FitsOf o block w.shared (actor_at w actor).hand) is
      ((all_fit g start records is_start events).each actor) in
      let point = point_fits r.next block actor granted w.shared (actor_at w actor).hand r
      (sym (deed_is (nat_lt actor (length w.actors)) (actor_at w actor).running w actor granted r
      (lt-ltb actor (length w.actors) there) is) ∙ e) fits in
      (told_nothing block (node_in (settled_nodes w.shared)) taken r.call
      (has_passed g start records events actor granted r is_start there is e)).some_effect
      (commits_plainly r (is_snapshot_or_cleaner r.call) (told_of r is) point.0)
