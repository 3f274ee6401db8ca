-- For what a call that is made alone is refused: for what the nodes refuse that stood when it was started, or for want.
use Rattle.nv_book.specs.declared.record.Record.{Record}
use Rattle.std.proofs.Common.{Bool, List, None, Option, Some, [], ap, append-nil, append_assoc, false, inl, inr, refl, subst, sym, true, ℕ, ◌++◌, ◌∙◌, ◌∷◌, ◌≡◌}
use Rattle.std.specs.Prelude.{Err}
use Rattle.std.proofs.Math.Path.{fun_ext}
use Rattle.std.proofs.lemmas.Bool.{true≢false}
use Rattle.nv_base.specs.declared.fault.Fault.{Fault}
use Rattle.nv_base.specs.declared.geometry.GeometryNumbers.{GeometryNumbers}
use Rattle.nv_base.specs.declared.numbers.Handle.{Handle}
use Rattle.nv_calls.specs.AllCalls.{late, look_refusal, looked, refusal}
use Rattle.nv_calls.specs.Plain.{PlainNode, node_in}
use Rattle.nv_calls.specs.Refusals.{and_then, kind_of, passes, want_directory, want_lawful}
use Rattle.nv_calls.specs.declared.answer.Answer.{Answer}
use Rattle.nv_calls.specs.declared.call.Call.{Call}
use Rattle.nv_entry.specs.declared.node.NodeCopy.{NodeCopy}
use Rattle.nv_machine.specs.Alone.{IsRefusedOn, goes, is_want}
use Rattle.nv_machine.specs.Answered.{answer_of}
use Rattle.nv_machine.specs.Causes.{IsCause}
use Rattle.nv_machine.specs.EndsDecided.{decided, is_snapshot_or_cleaner}
use Rattle.nv_machine.specs.FitsNow.{is_checked}
use Rattle.nv_machine.specs.Hands.{HandOf, is_going}
use Rattle.nv_machine.specs.Reads.{slots_of}
use Rattle.nv_machine.specs.Sequence.{Beginning, beginning, begun, directories, nothing_looked}
use Rattle.nv_machine.specs.Settled.{settled_nodes}
use Rattle.nv_machine.specs.Starts.{IsStart}
use Rattle.nv_machine.specs.Step.{after, same_looked, step, turn}
use Rattle.nv_machine.specs.World.{Actor, Answers, ReturnNumber, Check, Ending, Enter, Event, Give, Go, HandState, Leave, Lock, Look, Next, Number, BoundAnew, Ready, Refused, Retire, Running, Shared, SnapshotOrCleaner, Start, Started, TakeBlocks, TakeLogPages, Turn, Unlock, Visit, World, actor_at}
use Rattle.nv_machine.proofs.EveryWorld.{all_numbers}
use Rattle.nv_machine.proofs.AloneEndings.{Fine, FineOf, OnFine, after_fine, caused_fine, ends_fine, reply_fine}
use Rattle.nv_machine.proofs.AloneFinds.{FoundOf, found_more, unchanged}
use Rattle.nv_calls.proofs.CheckEnds.{looked_self}
use Rattle.nv_machine.proofs.AloneLooks.{HasFound, IsLate, locking_found, upto_none}
use Rattle.nv_machine.proofs.AloneRuns.{IsAlone, begins, more, starts}
use Rattle.nv_machine.proofs.CallsStay.{IsCallOf}
use Rattle.nv_machine.proofs.CopiesAll.{after_one}
use Rattle.nv_machine.proofs.DecidedRefusals.{plainly_caused}
use Rattle.nv_machine.proofs.DecidedRuns.{plainly_told}
use Rattle.nv_machine.proofs.DecidedNext.{Stage, told_at}
use Rattle.nv_machine.proofs.SingleEvents.{goes as goes_by_turn}
use Rattle.nv_machine.proofs.FitsLaws.{still_passes}
use Rattle.nv_machine.proofs.OverEvents.{own_goes, runs_inside, turn_at}
use Rattle.nv_calls.specs.declared.call.Call.TheVariants as call
use Rattle.nv_machine.specs.Sequence as sequence

-- ---- the causes

look_refuses : (block : ℕ) (nodes : Handle → Option NodeCopy) (c : Call) (fault : Fault) → look_refusal nodes c ≡ Err fault
    → refusal block nodes c ≡ Err fault
look_refuses block nodes (call.Unlink dir name) fault e =
    ap (λ tests. and_then tests (late block nodes (looked nodes (call.Unlink dir name)) (call.Unlink dir name))) e
look_refuses block nodes (call.Rmdir dir name) fault e =
    ap (λ tests. and_then tests (late block nodes (looked nodes (call.Rmdir dir name)) (call.Rmdir dir name))) e
look_refuses block nodes (call.Rename from old to new) fault e =
    ap (λ tests. and_then (and_then tests (want_directory (kind_of (nodes to)) (want_lawful new passes)))
    (late block nodes (looked nodes (call.Rename from old to new)) (call.Rename from old to new))) e
look_refuses block nodes other fault e = cc

module _ (block actor : ℕ) (granted : Bool) (nodes : Handle → Option PlainNode) (s : Shared) (h : HandState) (r : Running)
    (fault : Fault) where
  abbrev Cause : Next → Type 0
  Cause k = IsCause k block actor granted (node_in nodes) s h r fault

  abbrev Passes : Next → Type 0
  Passes k = is_checked k ≡ true → refusal block (node_in nodes) r.call ≡ passes

  cause_told : (k : Next) → Stage k r.ending r.call → Passes k → (k ≡ Check → same_looked (looked (node_in nodes) r.call) r.looked ≡ true)
      → Cause k → IsRefusedOn block nodes r.call fault
  cause_told (Look place) stage still same cause = inl (look_refuses block (node_in nodes) r.call fault cause)
  cause_told Check stage still same (inl cause) = inl cause
  cause_told Check stage still same (inr (inl cause)) = inr (cause.1, ap is_want cause.0.0)
  cause_told Check stage still same (inr (inr (inl cause))) = inr (cause.2, ap is_want cause.0.0)
  cause_told Check stage still same (inr (inr (inr cause))) =
      absurd (true≢false (sym (same refl) ∙ cause.1.1))
  cause_told (TakeBlocks asked) stage still same cause = inr (still refl, ap is_want cause.is)
  cause_told (TakeLogPages asked) stage still same cause = inr (still refl, ap is_want cause.is)
  cause_told Ready stage still same cause = inr (still refl, ap is_want cause.0)
  cause_told Enter stage still same (inl cause) = inr (still refl, ap is_want cause.0)
  cause_told Enter stage still same (inr cause) = inr (still refl, ap is_want cause.0)
  cause_told Visit stage still same (inl cause) = inl cause
  cause_told Visit stage still same (inr cause) = inr (cause.2, ap is_want cause.0.0)
  cause_told (SnapshotOrCleaner kind) stage still same cause = absurd stage
  cause_told other stage still same cause = absurd cause

  -- so far nothing was decided
  cause_early : (k : Next) (a : Answer) → Cause k → told_at k Answers a ≡ []
  cause_early (Retire place) a cause = absurd cause
  cause_early Leave a cause = absurd cause
  cause_early (Unlock place) a cause = absurd cause
  cause_early (Give cpu) a cause = absurd cause
  cause_early ReturnNumber a cause = absurd cause
  cause_early other a cause = refl

-- a call that looks nothing up finds nothing
pub nothing_to_look : (c : Call) (nodes : Handle → Option PlainNode) → (beginning c ≡ sequence.Looks → ⊥)
    → nothing_looked ≡ looked (node_in nodes) c
nothing_to_look (call.Unlink dir name) nodes other = absurd (other refl)
nothing_to_look (call.Rmdir dir name) nodes other = absurd (other refl)
nothing_to_look (call.Rename from old to new) nodes other = absurd (other refl)
nothing_to_look rest nodes other = refl

-- ---- from event to event

module _ (g : GeometryNumbers) (start : World) (records : List Record) (is_start : IsStart g start records) (actor : ℕ) (c : Call)
    (nodes : Handle → Option PlainNode)
    (plain : is_snapshot_or_cleaner c ≡ false) where
  abbrev pub Told : Fault → Type 0
  Told = IsRefusedOn g.block nodes c

  module _ (events : List Event) (granted : Bool) (was : IsAlone g start records actor c nodes events)
      (seen : FoundOf c nodes (actor_at (after start events) actor).running) where
    abbrev w : World
    w = after start events

    abbrev h : HandState
    h = (actor_at w actor).hand

    module _ (r : Running) (is : (actor_at w actor).running ≡ Some r) where
      abbrev t : Turn
      t = turn w.numbers.block actor granted w.shared h r

      same_call : r.call ≡ c
      same_call = subst (IsCallOf c) is was.call

      -- a fault that has a cause now is told on the nodes of the start, since nothing was decided
      told_now : r.ending ≡ Answers → (fault : Fault)
          → IsCause r.next w.numbers.block actor granted (node_in (settled_nodes w.shared)) w.shared h r fault → Told fault
      told_now going fault cause =
          let had = plainly_told g start records events actor is_start r is (ap is_snapshot_or_cleaner same_call ∙ plain) in
          let none : decided actor start events [] ≡ [] =
          had.told ∙ ap (λ (e : Ending). told_at r.next e (answer_of r)) going
          ∙ cause_early w.numbers.block actor granted (settled_nodes w.shared) w.shared h r fault r.next (answer_of r) cause in
          let same : settled_nodes w.shared ≡ nodes = fun_ext (λ (handle : Handle). was.nodes_are none handle) in
          let numbers : w.numbers ≡ g = (all_numbers g start records events is_start).numbers in
          subst (λ (d : Call). IsRefusedOn g.block nodes d fault) same_call
          (subst (λ (n : Handle → Option PlainNode). IsRefusedOn g.block n r.call fault) same
          (subst (λ (x : GeometryNumbers). IsRefusedOn x.block (settled_nodes w.shared) r.call fault) numbers
          (cause_told w.numbers.block actor granted (settled_nodes w.shared) w.shared h r fault r.next had.stage
          (λ checked. (still_passes g start records events actor r is_start is checked).passes) same_then cause))) where
            had : HasFound (directories c) (looked (node_in nodes) c) r.next r
            had = subst (FoundOf c nodes) is seen

            -- a check finds what the looks found
            same_then : r.next ≡ Check → same_looked (looked (node_in (settled_nodes w.shared)) r.call) r.looked ≡ true
            same_then next =
                let found : r.looked ≡ looked (node_in nodes) c =
                subst (λ (k : Next). HasFound (directories c) (looked (node_in nodes) c) k r) next had in
                let same = unchanged g start records is_start actor c nodes plain events granted was r is
                (λ late. subst IsLate next late) in
                ap (λ (n : Handle → Option PlainNode). same_looked (looked (node_in n) r.call) r.looked) same
                ∙ ap (λ (d : Call). same_looked (looked (node_in nodes) d) r.looked) same_call
                ∙ ap (same_looked (looked (node_in nodes) c)) found ∙ looked_self (looked (node_in nodes) c)

      not_over : (k : Next) → HasFound (directories c) (looked (node_in nodes) c) k r → IsLate k → r.ending ≡ BoundAnew → ⊥
      not_over Number had late = absurd late
      not_over (Look place) had late = absurd late
      not_over (Lock place) had late = absurd late
      not_over Check had late = absurd late
      not_over other had late = had

      on_turn : Fine Told r.ending → OnFine Told t
      on_turn fine = go (is_going r.next) refl where
        had : HasFound (directories c) (looked (node_in nodes) c) r.next r
        had = subst (FoundOf c nodes) is seen

        go : (b : Bool) → is_going r.next ≡ b → OnFine Told t
        go false last = ends_fine Told r.next w.numbers.block actor granted w.shared h r last (not_over r.next had) fine
        go true going =
            let own : HandOf g h (Some r) =
            subst (λ (o : Option Running). HandOf g h o) is ((all_numbers g start records events is_start).hands actor) in
            let ending = own.1 going in
            caused_fine Told _ _ (told_now ending) t (plainly_caused g start records events actor granted r is_start is ending)

    fine_more : FineOf Told (actor_at w actor).running
        → FineOf Told (actor_at (after start (events ++ Go actor granted ∷ [])) actor).running
    fine_more fine =
        subst (λ (v : World). FineOf Told (actor_at v actor).running) (after_one events start (Go actor granted))
        (own_goes (λ (x : Actor). FineOf Told x.running) w actor granted (λ none. fine) (λ r there is.
        after_fine Told (actor_at w actor) (turn_at w actor granted r) fine (on_turn r is (subst (FineOf Told) is fine))))

  -- of all that is known of a call that is made alone
  pub record IsFine (events : List Event) : Type 0 where
    pub alone : IsAlone g start records actor c nodes events
    pub seen : FoundOf c nodes (actor_at (after start events) actor).running
    pub fine : FineOf Told (actor_at (after start events) actor).running

  fine_all : (grants : List Bool) (events : List Event) → IsFine events → IsFine (events ++ goes actor grants)
  fine_all [] events is = subst IsFine (sym (append-nil events)) is
  fine_all (b ∷ grants) events is =
      subst IsFine (append_assoc events (Go actor b ∷ []) (goes actor grants)) (fine_all grants (events ++ Go actor b ∷ []) (record {
        alone = more g start records is_start actor c nodes events b is.alone;
        seen = found_more g start records is_start actor c nodes plain events b is.alone is.seen;
        fine = fine_more events b is.alone is.seen is.fine;
      }))

begun_ending : (b : Beginning) (s : Shared) (c : Call) → (begun b s c).ending ≡ Answers
begun_ending sequence.Numbers s c = refl
begun_ending other s c = refl

begun_found : (b : Beginning) (s : Shared) (c : Call) (nodes : Handle → Option PlainNode) → beginning c ≡ b → is_snapshot_or_cleaner c ≡ false
    → HasFound (directories c) (looked (node_in nodes) c) (begun b s c).next (begun b s c)
begun_found sequence.Numbers s c nodes e plain = nothing_to_look c nodes (λ looks. numbers_look looks) where
  numbers_look : beginning c ≡ sequence.Looks → ⊥
  numbers_look looks = clash (sym e ∙ looks) where
    clash : sequence.Numbers ≡ sequence.Looks → ⊥
    clash x = cc
begun_found sequence.Looks s c nodes e plain = upto_none (directories c) (looked (node_in nodes) c) nothing_looked
begun_found sequence.Locks s c nodes e plain =
    locking_found (directories c) (looked (node_in nodes) c) 0 (slots_of s None nothing_looked c) (begun sequence.Locks s c)
    (nothing_to_look c nodes (λ looks. locks_look looks)) where
      locks_look : beginning c ≡ sequence.Looks → ⊥
      locks_look looks = clash (sym e ∙ looks) where
        clash : sequence.Locks ≡ sequence.Looks → ⊥
        clash x = cc
begun_found other s c nodes e plain = λ over. cc

pub refused_for : (g : GeometryNumbers) (start : World) (records : List Record) (before : List Event) (actor : ℕ) (c : Call)
    (grants : List Bool) (granted : Bool) (r : Running)
    (fault : Fault) → IsStart g start records → is_snapshot_or_cleaner c ≡ false
    → (step (after start before) (Start actor c)).reply ≡ Started
    → (actor_at (after start (before ++ Start actor c ∷ goes actor grants)) actor).running ≡ Some r
    → (step (after start (before ++ Start actor c ∷ goes actor grants)) (Go actor granted)).reply ≡ Refused fault
    → IsRefusedOn g.block (settled_nodes (after start before).shared) c fault
refused_for g start records before actor c grants granted r fault is_start plain started is reply =
    let nodes = settled_nodes (after start before).shared in
    let P : Fault → Type 0 = Told g start records is_start actor c nodes plain in
    let ran : List Event = before ++ Start actor c ∷ goes actor grants in
    let w = after start ran in
    let at = starts g start records is_start actor c before started in
    let first : IsFine g start records is_start actor c nodes plain (before ++ Start actor c ∷ []) = record {
      alone = begins g start records is_start actor c before started;
      seen = subst (FoundOf c nodes) (sym at) (begun_found (beginning c) (after start before).shared c nodes refl plain);
      fine = subst (FineOf P) (sym at) (subst (Fine P) (sym (begun_ending (beginning c) (after start before).shared c)) tt);
    } in
    let all : IsFine g start records is_start actor c nodes plain ran =
    subst (IsFine g start records is_start actor c nodes plain) (append_assoc before (Start actor c ∷ []) (goes actor grants))
    (fine_all g start records is_start actor c nodes plain grants (before ++ Start actor c ∷ []) first) in
    let there = runs_inside w actor r is in
    reply_fine P (turn w.numbers.block actor granted w.shared (actor_at w actor).hand r) actor w fault
    (on_turn g start records is_start actor c nodes plain ran granted all.alone all.seen r is (subst (FineOf P) is all.fine))
    (ap (λ made. made.reply) (sym (goes_by_turn w actor granted r there is).is_turn) ∙ reply)
