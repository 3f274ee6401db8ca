-- From step to step a call that is made alone has found what the plain world tells, and is never overtaken.
use Rattle.nv_book.specs.declared.record.Record.{Record}
use Rattle.std.proofs.Common.{◌≡◌, ◌∙◌, ℕ, ◌%◌, ◌+◌, ◌<◌, ◌++◌, Bool, true, false, List, [], ◌∷◌, Option, Some, None, ap, length, refl, subst, sym}
use Rattle.std.proofs.Math.Path.{fun_ext}
use Rattle.nv_base.specs.declared.geometry.GeometryNumbers.{GeometryNumbers}
use Rattle.nv_base.specs.declared.numbers.Handle.{Handle}
use Rattle.nv_calls.specs.AllCalls.{early, effect, looked, refusal}
use Rattle.nv_calls.specs.Plain.{PlainNode, node_in}
use Rattle.nv_calls.specs.declared.answer.Answer.{Answer}
use Rattle.nv_calls.specs.declared.call.Call.{Call}
use Rattle.nv_calls.specs.declared.looked.LookupResult.{LookupResult}
use Rattle.nv_entry.specs.declared.node.NodeCopy.{NodeCopy}
use Rattle.nv_machine.specs.Answered.{answer_of}
use Rattle.nv_machine.specs.EndsDecided.{decided, is_snapshot_or_cleaner}
use Rattle.nv_machine.specs.Hands.{is_going}
use Rattle.nv_machine.specs.Kinds.{check_ending}
use Rattle.nv_machine.specs.Reads.{copies, nodes}
use Rattle.nv_machine.specs.Sequence.{beginning, directories, locking, looking}
use Rattle.nv_machine.specs.Settled.{settled_nodes}
use Rattle.nv_machine.specs.Starts.{IsStart}
use Rattle.nv_machine.specs.Step.{after, ending_at, handle_at, is_numbered, kind_turn, made_in, same_looked, turn}
use Rattle.nv_machine.specs.World.{Actor, Answers, Check, Ending, Ends, Event, Go, HandState, Lock, Look, Moves, Next, Number, BoundAnew, Running, Shared, SnapshotOrCleanerStep, SnapshotOrCleaner, Turn, Waits, World, actor_at, go_to, owner_at}
use Rattle.nv_machine.proofs.EveryWorld.{all_known}
use Rattle.nv_calls.proofs.CheckEnds.{looked_self}
use Rattle.nv_machine.proofs.AloneLooks.{FoundBy, HasFound, IsLate, OnFound, call_sees, check_same, late_turn, locking_found, on_found, refused_found}
use Rattle.nv_machine.proofs.NextSteps.{KnowsNext, Untold}
use Rattle.nv_machine.proofs.LoopSteps.{is_on_files}
use Rattle.nv_machine.proofs.StepWays.{noted}
use Rattle.nv_machine.proofs.StepWalk.{WaysOf, walk_of}
use Rattle.nv_machine.proofs.AloneRuns.{IsAlone}
use Rattle.nv_machine.proofs.CallsStay.{IsCallOf}
use Rattle.nv_machine.proofs.CopiesAll.{after_one}
use Rattle.nv_machine.proofs.DecidedReads.{ending_settled}
use Rattle.nv_machine.proofs.DecidedRuns.{plainly_told, relied}
use Rattle.nv_machine.proofs.DecidedNext.{Stage, told_at}
use Rattle.nv_machine.proofs.DecidedTurns.{Relied}
use Rattle.nv_machine.proofs.LooksToCome.{look_inside}
use Rattle.nv_machine.proofs.OverEvents.{OwnAfter, own_goes, turn_at}
use Rattle.nv_machine.proofs.VisitsRead.{free_node}

-- ---- one step

module _ (block actor : ℕ) (granted : Bool) (s : Shared) (h : HandState) (r : Running) where
  abbrev plain : Handle → Option NodeCopy
  plain = node_in (settled_nodes s)

  -- what is known before it
  record Given (k : Next) : Type 0 where
    free : (handle : Handle) → owner_at s handle.ino ≡ None → nodes s handle ≡ settled_nodes s handle
    inside : (place : ℕ) → k ≡ Look place → place < length (directories r.call)
    going : is_going k ≡ true → r.ending ≡ Answers
    ends : k ≡ Check → ending_at block s h r
        ≡ check_ending (early plain r.call) (same_looked (looked plain r.call) r.looked) (refusal block plain r.call)
        (is_numbered (beginning r.call) h.ino) (effect plain (made_in s h.ino r.made) r.call)
    files : (kind : SnapshotOrCleanerStep) → k ≡ SnapshotOrCleaner kind → ⊥

  found_by : (all : LookupResult) (k : Next) → WaysOf (KnowsNext (FoundBy (directories r.call) all)) Untold k block actor granted s h r
      → is_on_files k ≡ true → OnFound (directories r.call) all (kind_turn k block actor granted s h r)
  found_by all k ways is = walk_of (KnowsNext (FoundBy (directories r.call) all)) Untold block actor s h r k granted ways is

  kind_found : (all : LookupResult) (k : Next) → Given k → ((IsLate k → ⊥) → all ≡ looked plain r.call) → HasFound (directories r.call) all k r
      → OnFound (directories r.call) all (kind_turn k block actor granted s h r)
  kind_found all Number given is had =
      let q = noted Number block s h r in
      found_by all Number (locking_found (directories r.call) all 0 q.slots (go_to (locking 0 q.slots) q) had) refl
  kind_found all (Look place) given is had = found_by all (Look place) (
    λ fault free by. refused_found (directories r.call) all,
    λ clear. (let q = noted (Look place) block s h r in
        subst (λ (a : LookupResult). HasFound (directories r.call) a (looking (place + 1) q) (go_to (looking (place + 1) q) q))
        (sym (is (λ late. late)))
        (call_sees (copies s) plain r.looked r.call place q.slots (go_to (looking (place + 1) q) q) refl (given.inside place refl)
        (subst (λ (a : LookupResult). HasFound (directories r.call) a (Look place) r) (is (λ late. late)) had)
        (ap (λ (x : Option PlainNode). node_in (λ handle. x) (handle_at (directories r.call) place))
        (given.free (handle_at (directories r.call) place) clear.0)))),
  ) refl
  kind_found all (Lock place) given is had =
      found_by all (Lock place)
      (λ free. locking_found (directories r.call) all (place + 1) r.slots (go_to (locking (place + 1) r.slots) r) had) refl
  kind_found all Check given is had =
      let same = ap (same_looked (looked plain r.call)) (had ∙ is (λ late. late)) ∙ looked_self (looked plain r.call) in
      on_found (directories r.call) all _
      (late_turn Check block actor granted s h r refl (λ at e. check_same _ _ _ _ _ same (sym (given.ends refl) ∙ e))
      (λ e. not_over (sym (given.going refl) ∙ e))) where
        not_over : Answers ≡ BoundAnew → ⊥
        not_over e = cc
  kind_found all (SnapshotOrCleaner kind) given is had = absurd (given.files kind refl)
  kind_found all other given is had =
      on_found (directories r.call) all (kind_turn other block actor granted s h r) (late_turn other block actor granted s h r refl (λ at e. cc) had)

-- before a step up to the check nothing was decided
front_told : (k : Next) (e : Ending) (a : Answer) → (IsLate k → ⊥) → told_at k e a ≡ []
front_told Number e a front = refl
front_told (Look place) e a front = refl
front_told (Lock place) e a front = refl
front_told Check e a front = refl
front_told other e a front = absurd (front tt)

-- ---- from event to event

abbrev pub FoundOf : Call → (Handle → Option PlainNode) → Option Running → Type 0
FoundOf c nodes None = Unit {0}
FoundOf c nodes (Some r) = HasFound (directories c) (looked (node_in nodes) c) r.next r

module _ (c : Call) (nodes : Handle → Option PlainNode) where
  after_found : (x : Actor) (t : Turn) → FoundOf c nodes x.running → OnFound (directories c) (looked (node_in nodes) c) t
      → OwnAfter x (λ (y : Actor). FoundOf c nodes y.running) t
  after_found x (Moves s h q) had on = on
  after_found x Waits had on = had
  after_found x (Ends result s h) had on = tt

module _ (g : GeometryNumbers) (start : World) (records : List Record) (is_start : IsStart g start records) (actor : ℕ) (c : Call)
    (nodes : Handle → Option PlainNode)
    (plainly : is_snapshot_or_cleaner c ≡ false) (events : List Event) (granted : Bool)
    (was : IsAlone g start records actor c nodes events) where
  abbrev w : World
  w = after start events

  abbrev h : HandState
  h = (actor_at w actor).hand

  module _ (r : Running) (is : (actor_at w actor).running ≡ Some r) where
    same_call : r.call ≡ c
    same_call = subst (IsCallOf c) is was.call

    staged_at : (k : Next) → r.next ≡ k → Stage k r.ending r.call
    staged_at k next =
        subst (λ (k : Next). Stage k r.ending r.call) next
        (plainly_told g start records events actor is_start r is (ap is_snapshot_or_cleaner same_call ∙ plainly)).stage

    -- up to its check the nodes are those of the nodes
    pub unchanged : (IsLate r.next → ⊥) → settled_nodes w.shared ≡ nodes
    unchanged front =
        let none : decided actor start events [] ≡ [] =
        (plainly_told g start records events actor is_start r is (ap is_snapshot_or_cleaner same_call ∙ plainly)).told
        ∙ front_told r.next r.ending (answer_of r) front in
        fun_ext (λ (handle : Handle). was.nodes_are none handle)

    given_now : Given w.numbers.block actor granted w.shared h r r.next
    given_now =
        let known = all_known g start records is_start events in
        let rely = relied g w known actor r is in
        record {
          free = free_node w known.reached.grown;
          inside = λ place next. look_inside start events actor place r is_start.idle_all is next;
          going = rely.ending;
          ends = λ next. check_ends next;
          files = λ kind next. staged_at (SnapshotOrCleaner kind) next;
        } where
          check_ends : r.next ≡ Check → ending_at w.numbers.block w.shared h r
              ≡ check_ending (early (node_in (settled_nodes w.shared)) r.call)
              (same_looked (looked (node_in (settled_nodes w.shared)) r.call) r.looked)
              (refusal w.numbers.block (node_in (settled_nodes w.shared)) r.call) (is_numbered (beginning r.call) h.ino)
              (effect (node_in (settled_nodes w.shared)) (made_in w.shared h.ino r.made) r.call)
          check_ends next =
              let st = subst (λ (k : Next). Relied k w.numbers.block actor (actor % length w.shared.lists) w.shared h r) next
              (relied g w (all_known g start records is_start events) actor r is) in
              ending_settled w.numbers.block w.shared h r (st.logs refl) st.fits

    found_turn : HasFound (directories c) (looked (node_in nodes) c) r.next r
        → OnFound (directories c) (looked (node_in nodes) c) (turn w.numbers.block actor granted w.shared h r)
    found_turn had =
        subst (λ (d : Call). OnFound (directories d) (looked (node_in nodes) c) (turn w.numbers.block actor granted w.shared h r)) same_call
        (kind_found w.numbers.block actor granted w.shared h r (looked (node_in nodes) c) r.next given_now
        (λ front. ap (λ (d : Call). looked (node_in nodes) d) (sym same_call)
        ∙ ap (λ (n : Handle → Option PlainNode). looked (node_in n) r.call) (sym (unchanged front)))
        (subst (λ (d : Call). HasFound (directories d) (looked (node_in nodes) c) r.next r) (sym same_call) had))

  pub found_more : FoundOf c nodes (actor_at w actor).running
      → FoundOf c nodes (actor_at (after start (events ++ Go actor granted ∷ [])) actor).running
  found_more had =
      subst (λ (v : World). FoundOf c nodes (actor_at v actor).running) (after_one events start (Go actor granted))
      (own_goes (λ (x : Actor). FoundOf c nodes x.running) w actor granted (λ none. had) (λ r there is.
      after_found c nodes (actor_at w actor) (turn_at w actor granted r) had (found_turn r is (subst (FoundOf c nodes) is had))))
