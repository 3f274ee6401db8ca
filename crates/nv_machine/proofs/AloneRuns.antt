-- A call that is made alone is told what the plain world answers on the nodes that stood when it was started.
use Rattle.nv_book.specs.declared.record.Record.{Record}
use Rattle.std.proofs.Common.{◌≡◌, ◌⊎◌, ◌∙◌, ℕ, ◌&&◌, ◌++◌, if◌then◌else◌, inl, inr, Bool, true, false, cond, List, [], ◌∷◌, Option, Some, None, ap, append-nil, append_assoc, length, nat_lt, refl, subst, sym}
use Rattle.std.specs.Prelude.{Ok, Err, not}
use Rattle.std.proofs.Math.Path.{fun_ext}
use Rattle.std.proofs.lemmas.Bool.{false≢true, lt-ltb}
use Rattle.std.proofs.lemmas.Option.{none-some}
use Rattle.nv_base.specs.declared.fault.Fault.{Fault}
use Rattle.nv_base.specs.declared.geometry.GeometryNumbers.{GeometryNumbers}
use Rattle.nv_base.specs.declared.numbers.Handle.{Handle}
use Rattle.nv_calls.specs.AllCalls.{answer, effect, refusal}
use Rattle.nv_calls.specs.Plain.{Change, PlainNode, node_in, nodes_after}
use Rattle.nv_calls.specs.Refusals.{Check as Tests, passes}
use Rattle.nv_calls.specs.declared.answer.Answer.{Answer}
use Rattle.nv_calls.specs.declared.call.Call.{Call}
use Rattle.nv_calls.specs.declared.call.Call.TheVariants as call
use Rattle.nv_entry.specs.declared.node.NodeCopy.{NodeCopy}
use Rattle.nv_machine.proofs.EveryWorld.{all_numbers, reached}
use Rattle.nv_machine.proofs.DecidedTurns.{nothing_is as no_change}
use Rattle.nv_machine.specs.Alone.{IsAnsweredOn, goes}
use Rattle.nv_machine.specs.EndsDecided.{decided, decides, decision_of, is_snapshot_or_cleaner, is_pass, unless_started}
use Rattle.nv_machine.specs.PlainRun.{Commits, PlainChange, Nothing, plain_change, plain_change_by, plain_change_of, keeps_nodes}
use Rattle.nv_machine.specs.Reads.{written_slots}
use Rattle.nv_machine.specs.Sequence as sequence
use Rattle.nv_machine.specs.Sequence.{Beginning, beginning, begun}
use Rattle.nv_machine.specs.Settled.{settled_nodes}
use Rattle.nv_machine.specs.Starts.{IsStart}
use Rattle.nv_machine.specs.Step.{after, step, turn}
use Rattle.nv_machine.specs.World.{Actor, Check, Done, Event, Go, Next, Refused, Reply, Running, Shared, Start, Started, Turn, Visit, World, actor_at}
use Rattle.nv_machine.proofs.CallsStay.{IsCallOf, call_stays}
use Rattle.nv_machine.proofs.CopiesAll.{after_one}
use Rattle.nv_machine.proofs.DecidedRuns.{decided_more, is_decided, is_undecided, visits_of}
use Rattle.nv_machine.proofs.FitsLaws.{has_effect, has_passed}
use Rattle.nv_machine.proofs.Lists.{self}
use Rattle.nv_machine.proofs.Reached.{reached_nodes}
use Rattle.nv_machine.proofs.OverEvents.{own_goes, runs_inside, started as begins_at, commits_if as commits}

-- ---- what a step decides

no_not : (b : Bool) → not b ≡ false → b ≡ true
no_not true e = refl
no_not false e = absurd (false≢true (sym e))

a_not : (b : Bool) → not b ≡ true → b ≡ false
a_not true e = absurd (false≢true e)
a_not false e = refl

-- where nothing is decided the nodes stay
undecided : (k : Next) (block : ℕ) (s : Shared) (r : Running) (t : Turn) → decides k block s r t ≡ false
    → keeps_nodes (plain_change k (written_slots r) t) ≡ true
undecided Check block s r t e = refl
undecided Visit block s r t e = refl
undecided other block s r t e = no_not _ e

all_pass : (tests : Tests) → is_pass tests ≡ true → tests ≡ passes
all_pass (Ok done) e = refl
all_pass (Err fault) e = absurd (false≢true e)

front_true : (a b : Bool) → (a && b) ≡ true → a ≡ true
front_true true b e = refl
front_true false b e = absurd (false≢true e)

back_true : (a b : Bool) → (a && b) ≡ true → b ≡ true
back_true true b e = e
back_true false b e = absurd (false≢true e)

-- where it is, that is a commit point; or the call passes, and changes nothing
record ChangesNothing (k : Next) (block : ℕ) (s : Shared) (r : Running) (t : Turn) : Type 0 where
  passes_is : refusal block (node_in (settled_nodes s)) r.call ≡ passes
  keeps : keeps_nodes (plain_change k (written_slots r) t) ≡ true
  no_effect : effect (node_in (settled_nodes s)) r.made r.call ≡ []

visit_effect : (nodes : Handle → Option NodeCopy) (made : Handle) (c : Call) → beginning c ≡ sequence.Visits → effect nodes made c ≡ []
visit_effect nodes made (call.Read file offset count) e = refl
visit_effect nodes made (call.Stat handle) e = refl
visit_effect nodes made (call.List dir) e = refl
visit_effect nodes made (call.Lookup dir name) e = refl
visit_effect nodes made (call.SnapshotOrCleaner what) e = refl
visit_effect nodes made other e = cc

decided_how : (k : Next) (block : ℕ) (s : Shared) (r : Running) (t : Turn) → (k ≡ Visit → beginning r.call ≡ sequence.Visits)
    → decides k block s r t ≡ true → ChangesNothing k block s r t ⊎ (plain_change k (written_slots r) t ≡ Commits)
decided_how Check block s r t visits e = inl (record {
  passes_is = all_pass _ (front_true _ _ (front_true _ _ e));
  keeps = refl;
  no_effect = no_change _ (back_true _ _ e);
})
decided_how Visit block s r t visits e = inl (record {
  passes_is = all_pass _ (front_true _ _ e);
  keeps = refl;
  no_effect = visit_effect _ r.made r.call (visits refl);
})
decided_how other block s r t visits e = inr (commits _ (a_not _ e))

kept_if : (b : Bool) (d : PlainChange) → keeps_nodes d ≡ true → keeps_nodes (if b then d else Nothing) ≡ true
kept_if true d e = e
kept_if false d e = refl

-- ---- from event to event

-- up to its decision these are the nodes, and what is decided is told on them
pub record IsAlone (g : GeometryNumbers) (start : World) (records : List Record) (actor : ℕ) (c : Call)
    (nodes : Handle → Option PlainNode) (events : List Event) : Type 0 where
  pub call : IsCallOf c (actor_at (after start events) actor).running
  pub nodes_are : decided actor start events [] ≡ [] → (handle : Handle)
      → settled_nodes (after start events).shared handle ≡ nodes handle
  pub told : (a : Answer) → decided actor start events [] ≡ a ∷ []
      → IsAnsweredOn g.block nodes (settled_nodes (after start events).shared) c a

module _ (g : GeometryNumbers) (start : World) (records : List Record) (is_start : IsStart g start records) (actor : ℕ) (c : Call)
    (nodes : Handle → Option PlainNode)
    (events : List Event) (granted : Bool) (was : IsAlone g start records actor c nodes events) where
  abbrev w : World
  w = after start events

  abbrev e : Event
  e = Go actor granted

  abbrev before : List Answer
  before = decided actor start events []

  next : (step w e).world ≡ after start (events ++ e ∷ [])
  next = after_one events start e

  list : decided actor start (events ++ e ∷ []) [] ≡ decision_of (actor_at w actor).running w actor granted ++ before
  list = decided_more events start actor e []
      ∙ ap (λ (b : Bool). cond b (decision_of (actor_at w actor).running w actor granted ++ before) before) (self actor)

  call_then : IsCallOf c (actor_at (step w e).world actor).running
      → IsCallOf c (actor_at (after start (events ++ e ∷ [])) actor).running
  call_then = subst (λ (v : World). IsCallOf c (actor_at v actor).running) next

  quiet : IsCallOf c (actor_at (step w e).world actor).running → decision_of (actor_at w actor).running w actor granted ≡ []
      → keeps_nodes (plain_change_of w e) ≡ true → IsAlone g start records actor c nodes (events ++ e ∷ [])
  quiet call none keeps =
      let same : decided actor start (events ++ e ∷ []) [] ≡ before = list ∙ ap (λ (l : List Answer). l ++ before) none in
      record {
        call = call_then call;
        nodes_are = λ d handle. subst (λ (v : World). settled_nodes v.shared handle ≡ nodes handle) next
            (reached_nodes w e (reached g start records events is_start) keeps handle ∙ was.nodes_are (sym same ∙ d) handle);
        told = λ a d.
            let on = was.told a (sym same ∙ d) in
            record {
              made = on.made;
              commit = on.commit;
              passes_is = on.passes_is;
              told_is = on.told_is;
              becomes = λ handle. ap (λ (v : World). settled_nodes v.shared handle) (sym next)
                  ∙ reached_nodes w e (reached g start records events is_start) keeps handle ∙ on.becomes handle;
            };
      }

  module _ (r : Running) (is : (actor_at w actor).running ≡ Some r) where
    abbrev t : Turn
    t = turn w.numbers.block actor granted w.shared (actor_at w actor).hand r

    same_call : r.call ≡ c
    same_call = subst (IsCallOf c) is was.call

    deed_is : plain_change_of w e ≡ (if nat_lt actor (length w.actors) then plain_change r.next (written_slots r) t else Nothing)
    deed_is = ap (λ (o : Option Running). if nat_lt actor (length w.actors) then plain_change_by o w actor granted else Nothing) is

    abbrev left : Handle → Option PlainNode
    left = settled_nodes (after start (events ++ e ∷ [])).shared

    abbrev now : Answer
    now = answer (settled_nodes w.shared) r.made r.call

    stands : (handle : Handle) → left handle ≡ settled_nodes (step w e).world.shared handle
    stands handle = ap (λ (v : World). settled_nodes v.shared handle) (sym next)

    -- what is decided, on the nodes of now
    answered_now : decides r.next w.numbers.block w.shared r t ≡ true
        → IsAnsweredOn w.numbers.block (settled_nodes w.shared) left r.call now
    answered_now here =
        go (decided_how r.next w.numbers.block w.shared r t (λ visit. visits_of g start records events actor is_start r is visit)
        here) where
          go : ChangesNothing r.next w.numbers.block w.shared r t ⊎ (plain_change r.next (written_slots r) t ≡ Commits)
              → IsAnsweredOn w.numbers.block (settled_nodes w.shared) left r.call now
          go (inl quiet_it) = record {
            made = r.made;
            commit = r.commit;
            passes_is = quiet_it.passes_is;
            told_is = refl;
            becomes = λ handle. stands handle
                ∙ reached_nodes w e (reached g start records events is_start)
                (ap keeps_nodes deed_is ∙ kept_if (nat_lt actor (length w.actors)) (plain_change r.next (written_slots r) t) quiet_it.keeps) handle
                ∙ ap (λ (l : List Change). nodes_after r.commit l (settled_nodes w.shared) handle) (sym quiet_it.no_effect);
          }
          go (inr commits_it) =
              let there = runs_inside w actor r is in
              let point = deed_is ∙ ap (λ (b : Bool). if b then plain_change r.next (written_slots r) t else Nothing)
              (lt-ltb actor (length w.actors) there) ∙ commits_it in
              record {
                made = r.made;
                commit = r.commit;
                passes_is = has_passed g start records events actor granted r is_start there is point;
                told_is = refl;
                becomes = λ handle. stands handle ∙ has_effect g start records events actor granted r is_start there is point handle;
              }

    loud : decides r.next w.numbers.block w.shared r t ≡ true → IsAlone g start records actor c nodes (events ++ e ∷ [])
    loud here =
        let said : decided actor start (events ++ e ∷ []) [] ≡ now ∷ before =
        list ∙ ap (λ (o : Option Running). decision_of o w actor granted ++ before) is
        ∙ ap (λ (b : Bool). cond b (now ∷ []) [] ++ before) here in
        record {
          call = call_then (call_stays w actor granted r c is same_call);
          nodes_are = λ d. absurd (cons_nil now before (sym said ∙ d));
          told = λ a d. answered a (sym said ∙ d);
        } where
          cons_nil : (a : Answer) (l : List Answer) → a ∷ l ≡ [] → ⊥
          cons_nil a l e = cc

          answered : (a : Answer) → now ∷ before ≡ a ∷ [] → IsAnsweredOn g.block nodes left c a
          answered a both =
              let none : before ≡ [] = cc in
              let first : now ≡ a = cc in
              let same : settled_nodes w.shared ≡ nodes = fun_ext (λ (handle : Handle). was.nodes_are none handle) in
              let numbers : w.numbers ≡ g = (all_numbers g start records events is_start).numbers in
              subst (λ (told : Answer). IsAnsweredOn g.block nodes left c told) first
              (subst (λ (d : Call). IsAnsweredOn g.block nodes left d now) same_call
              (subst (λ (n : Handle → Option PlainNode). IsAnsweredOn g.block n left r.call now) same
              (subst (λ (x : GeometryNumbers). IsAnsweredOn x.block (settled_nodes w.shared) left r.call now) numbers
              (answered_now here))))

    running_goes : (b : Bool) → decides r.next w.numbers.block w.shared r t ≡ b → IsAlone g start records actor c nodes (events ++ e ∷ [])
    running_goes true here = loud here
    running_goes false other =
        quiet (call_stays w actor granted r c is same_call)
        (ap (λ (o : Option Running). decision_of o w actor granted) is
        ∙ ap (λ (b : Bool). cond b (answer (settled_nodes w.shared) r.made r.call ∷ []) []) other)
        (ap keeps_nodes deed_is ∙ kept_if (nat_lt actor (length w.actors)) (plain_change r.next (written_slots r) t)
        (undecided r.next w.numbers.block w.shared r t other))

  pub more : IsAlone g start records actor c nodes (events ++ e ∷ [])
  more = go (actor_at w actor).running refl where
    go : (running : Option Running) → (actor_at w actor).running ≡ running → IsAlone g start records actor c nodes (events ++ e ∷ [])
    go (Some r) is = running_goes r is (decides r.next w.numbers.block w.shared r (t r is)) refl
    go None is =
        quiet (own_goes (λ (x : Actor). IsCallOf c x.running) w actor granted (λ none. was.call) (λ r there some. absurd (none-some r (sym is ∙ some))))
        (ap (λ (o : Option Running). decision_of o w actor granted) is)
        (ap (λ (o : Option Running). keeps_nodes (if nat_lt actor (length w.actors) then plain_change_by o w actor granted else Nothing)) is
        ∙ kept_if (nat_lt actor (length w.actors)) Nothing refl)

-- ---- from the start on

begun_call : (b : Beginning) (s : Shared) (c : Call) → (begun b s c).call ≡ c
begun_call sequence.Numbers s c = refl
begun_call other s c = refl

module _ (g : GeometryNumbers) (start : World) (records : List Record) (is_start : IsStart g start records) (actor : ℕ) (c : Call)
    (before : List Event)
    (started : (step (after start before) (Start actor c)).reply ≡ Started) where
  abbrev first : World
  first = after start before

  abbrev nodes : Handle → Option PlainNode
  nodes = settled_nodes first.shared

  pub starts : (actor_at (after start (before ++ Start actor c ∷ [])) actor).running ≡ Some (begun (beginning c) first.shared c)
  starts =
      ap (λ (v : World). (actor_at v actor).running) (sym (after_one before start (Start actor c)))
      ∙ ap (λ (x : Actor). x.running) (begins_at first actor c started)

  none_yet : decided actor start (before ++ Start actor c ∷ []) [] ≡ []
  none_yet =
      decided_more before start actor (Start actor c) []
      ∙ ap (λ (b : Bool). cond b (unless_started (step first (Start actor c)).reply (decided actor start before []))
      (decided actor start before [])) (self actor)
      ∙ ap (λ (x : Reply). unless_started x (decided actor start before [])) started

  pub begins : IsAlone g start records actor c nodes (before ++ Start actor c ∷ [])
  begins =
      let next : (step first (Start actor c)).world ≡ after start (before ++ Start actor c ∷ []) =
      after_one before start (Start actor c) in
      record {
        call = subst (IsCallOf c) (sym starts) (begun_call (beginning c) first.shared c);
        nodes_are = λ d handle. subst (λ (v : World). settled_nodes v.shared handle ≡ nodes handle) next
            (reached_nodes first (Start actor c) (reached g start records before is_start) refl handle);
        told = λ a d. absurd (nil_cons a (sym none_yet ∙ d));
      } where
        nil_cons : (a : Answer) → [] ≡ a ∷ [] → ⊥
        nil_cons a e = cc

  all_goes : (grants : List Bool) (events : List Event) → IsAlone g start records actor c nodes events
      → IsAlone g start records actor c nodes (events ++ goes actor grants)
  all_goes [] events was = subst (IsAlone g start records actor c nodes) (sym (append-nil events)) was
  all_goes (b ∷ grants) events was =
      subst (IsAlone g start records actor c nodes) (append_assoc events (Go actor b ∷ []) (goes actor grants))
      (all_goes grants (events ++ Go actor b ∷ []) (more g start records is_start actor c nodes events b was))

  abbrev pub ran : List Bool → List Event
  ran grants = before ++ Start actor c ∷ goes actor grants

  pub alone : (grants : List Bool) → IsAlone g start records actor c nodes (ran grants)
  alone grants =
      subst (IsAlone g start records actor c nodes) (append_assoc before (Start actor c ∷ []) (goes actor grants))
      (all_goes grants (before ++ Start actor c ∷ []) begins)

  pub told_alone : (grants : List Bool) (granted : Bool) (r : Running) (told : Answer) → is_snapshot_or_cleaner c ≡ false
      → (actor_at (after start (ran grants)) actor).running ≡ Some r
      → (step (after start (ran grants)) (Go actor granted)).reply ≡ Done told
      → IsAnsweredOn g.block nodes (settled_nodes (step (after start (ran grants)) (Go actor granted)).world.shared) c told
  told_alone grants granted r told plain is reply =
      let same : r.call ≡ c = subst (IsCallOf c) is (alone grants).call in
      subst (λ (v : World). IsAnsweredOn g.block nodes (settled_nodes v.shared) c told)
      (sym (after_one (ran grants) start (Go actor granted)))
      ((more g start records is_start actor c nodes (ran grants) granted (alone grants)).told told
      (is_decided g start records (ran grants) actor is_start granted r told is (ap is_snapshot_or_cleaner same ∙ plain) reply))

  pub refused_alone : (grants : List Bool) (granted : Bool) (r : Running) (fault : Fault)
      → (actor_at (after start (ran grants)) actor).running ≡ Some r
      → (step (after start (ran grants)) (Go actor granted)).reply ≡ Refused fault → (handle : Handle)
      → settled_nodes (step (after start (ran grants)) (Go actor granted)).world.shared handle ≡ nodes handle
  refused_alone grants granted r fault is reply handle =
      ap (λ (v : World). settled_nodes v.shared handle) (after_one (ran grants) start (Go actor granted))
      ∙ (more g start records is_start actor c nodes (ran grants) granted (alone grants)).nodes_are
      (is_undecided g start records (ran grants) actor is_start granted r fault is reply) handle
