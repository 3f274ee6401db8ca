-- A call on snapshots that is made alone where nothing runs: what holds before each of its steps, up to its last reply.
use Rattle.std.proofs.Common.{◌≡◌, ◌≢◌, ◌∙◌, ℕ, zero, suc, ◌==◌, ◌++◌, Bool, true, false, List, [], ◌∷◌, Some, None, ap, append-nil, append_assoc, get_or-set_same, map, refl, subst, sym}
use Rattle.std.specs.Prelude.{Err, Ok, Result, replicate}
use Rattle.std.proofs.lemmas.Bool.{eqb-false, eqb-true}
use Rattle.nv_base.specs.declared.fault.Fault.{Fault}
use Rattle.nv_base.specs.declared.geometry.GeometryNumbers.{GeometryNumbers}
use Rattle.nv_book.specs.declared.record.Record.{Record}
use Rattle.nv_calls.specs.declared.answer.Answer.{Answer}
use Rattle.nv_calls.specs.declared.call.Call.{Call}
use Rattle.nv_machine.specs.Alone.{goes}
use Rattle.nv_machine.specs.Needed.{IsAtRest}
use Rattle.nv_machine.specs.PlainRun.{plain_of}
use Rattle.nv_machine.specs.Step.{Step, after, replies, reply_of, step, turned}
use Rattle.nv_machine.specs.World.{Actor, Ends, Event, Go, HandState, Moved, Moves, Reply, Running, Shared, Turn, Waits, World, actor_at, idle}
use Rattle.nv_machine.proofs.CopiesAll.{after_one}
use Rattle.nv_machine.proofs.NextSteps.{Known, KnowsNext}
use Rattle.nv_machine.proofs.OverEvents.{others_stay, runs_inside, turn_at, with_call}
use Rattle.nv_machine.proofs.SingleEvents.{goes as goes_by_turn}
use Rattle.nv_machine.proofs.StepWays.{AfterBy, Telling}
use Rattle.nv_serial.specs.Law.{IsOutcome}
use Rattle.nv_serial.specs.Serial.{Outcome, Serial}
use Rattle.nv_serial.specs.Shown.{slot_told}
use Rattle.nv_serial.proofs.AloneStages.{PlainState, beside_after, beside_more, beside_then, beside_turned}
use Rattle.nv_serial.proofs.AtRestLogs.{told_by}

-- ---- lists of replies

pub heads : {x y : Reply} {xs ys : List Reply} → x ∷ xs ≡ y ∷ ys → x ≡ y
heads e = cc

pub tails : {x y : Reply} {xs ys : List Reply} → x ∷ xs ≡ y ∷ ys → xs ≡ ys
tails e = cc

pub no_replies : (count : ℕ) (last : Reply) → [] ≡ replicate count Moved ++ last ∷ [] → ⊥
no_replies zero last e = cc
no_replies (suc count) last e = cc

pub no_grants : (w : World) (actor : ℕ) (grants : List Bool) → replies w (goes actor grants) ≡ [] → grants ≡ []
no_grants w actor [] e = refl
no_grants w actor (b ∷ grants) e = cc

last_no_move : (result : Result Answer Fault) → reply_of result ≡ Moved → ⊥
last_no_move (Ok found) e = cc
last_no_move (Err fault) e = cc

-- ---- a run of one actor

module _ (g : GeometryNumbers) (w : World) (rs : List Record) (actor : ℕ) (c : Call) where
  -- what stands beside the run at first, and the world with numbers that this and what is shared tell
  abbrev pub at_first : PlainState
  at_first = record { records = rs; plain = plain_of w }

  abbrev pub numbered : PlainState → Shared → Serial
  numbered b s = record { numbers = g; plain = b.plain; slots = map slot_told s.cells; records = b.records }

  -- the last step replies and leaves what an outcome has
  abbrev pub Tells : Outcome → PlainState → Telling
  Tells made b result s h = IsOutcome c (told_by g w rs) made (reply_of result) (numbered b s)

  abbrev pub Now : List Event → PlainState
  Now events = beside_after w events at_first

  abbrev pub OthersRest : List Event → Type 0
  OthersRest events = (b : ℕ) → b ≢ actor → actor_at (after w events) b ≡ idle

  -- it holds before a step
  abbrev pub Holds : (PlainState → Known) → List Event → Running → Type 0
  Holds X events r = X (Now events) r.next (after w events).shared (actor_at (after w events) actor).hand r

  -- what is to be shown of the turn: it does not wait
  abbrev pub HoldsThen : (PlainState → Known) → Outcome → PlainState → World → Running → Turn → Type 0
  HoldsThen X made b v r t =
      let now = beside_then r.next v.shared (actor_at v actor).hand r t b in AfterBy ⊥ (KnowsNext (X now)) (Tells made now) t

  -- THE END: the outcome, and nothing runs
  pub record HasEnded (made : Outcome) (events : List Event) (last : Reply) : Type 0 where
    pub outcome : IsOutcome c (told_by g w rs) made last (numbered (Now events) (after w events).shared)
    pub rest : IsAtRest (after w events)

  module _ (X : PlainState → Known) (made : Outcome)
      (keeps : (events : List Event) (granted : Bool) (r : Running) → OthersRest events
      → (actor_at (after w events) actor).running ≡ Some r → Holds X events r
      → HoldsThen X made (Now events) (after w events) r (turn_at (after w events) actor granted r))
      (last : Reply) (over : last ≢ Moved) where
    module _ (events : List Event) (granted : Bool) (r : Running) (others : OthersRest events)
        (runs : (actor_at (after w events) actor).running ≡ Some r) where
      abbrev v : World
      v = after w events

      abbrev e : Event
      e = Go actor granted

      turn_is : (t : Turn) → turn_at v actor granted r ≡ t → step v e ≡ turned t actor v
      turn_is t is =
          (goes_by_turn v actor granted r (runs_inside v actor r runs) runs).is_turn ∙ ap (λ (x : Turn). turned x actor v) is

      world_is : (t : Turn) → turn_at v actor granted r ≡ t → after w (events ++ e ∷ []) ≡ (turned t actor v).world
      world_is t is = sym (after_one events w e) ∙ ap (λ (x : Step). x.world) (turn_is t is)

      beside_is : (t : Turn) → turn_at v actor granted r ≡ t
          → Now (events ++ e ∷ []) ≡ beside_then r.next v.shared (actor_at v actor).hand r t (Now events)
      beside_is t is =
          beside_more events w e at_first
          ∙ beside_turned v actor granted r (runs_inside v actor r runs) runs (Now events)
          ∙ ap (λ (x : Turn). beside_then r.next v.shared (actor_at v actor).hand r x (Now events)) is

      others_more : OthersRest (events ++ e ∷ [])
      others_more b ne = ap (λ (x : World). actor_at x b) (sym (after_one events w e)) ∙ others_stay v b e ne ∙ others b ne

      ends : (result : Result Answer Fault) (s : Shared) (h : HandState) → turn_at v actor granted r ≡ Ends result s h
          → reply_of result ≡ last → HoldsThen X made (Now events) v r (Ends result s h) → HasEnded made (events ++ e ∷ []) last
      ends result s h is told on =
          let t = Ends result s h in
          let then = beside_is t is in
          let world = world_is t is in
          let own : Actor = with_call h None in
          let set : actor_at (turned t actor v).world actor ≡ own =
          get_or-set_same v.actors actor own idle (runs_inside v actor r runs) in
          record {
            outcome =
                subst (λ (x : World). IsOutcome c (told_by g w rs) made last (numbered (Now (events ++ e ∷ [])) x.shared)) (sym world)
                (subst (λ (b : PlainState). IsOutcome c (told_by g w rs) made last (numbered b s)) (sym then)
                (subst (λ (l : Reply). IsOutcome c (told_by g w rs) made l
                (numbered (beside_then r.next v.shared (actor_at v actor).hand r t (Now events)) s)) told on));
            rest = λ b. rests b (b == actor) refl;
          } where
            rests : (b : ℕ) (same : Bool) → (b == actor) ≡ same → (actor_at (after w (events ++ e ∷ [])) b).running ≡ None
            rests b true same =
                ap (λ (x : World). (actor_at x b).running) (world_is (Ends result s h) is)
                ∙ ap (λ (n : ℕ). (actor_at (turned (Ends result s h) actor v).world n).running) (eqb-true b actor same)
                ∙ ap (λ (x : Actor). x.running)
                (get_or-set_same v.actors actor (with_call h None) idle (runs_inside v actor r runs))
            rests b false same = ap (λ (x : Actor). x.running) (others_more b (eqb-false b actor same))

    abbrev Runs : List Bool → Type 0
    Runs grants = (count : ℕ) (events : List Event) (r : Running) → OthersRest events
        → (actor_at (after w events) actor).running ≡ Some r → Holds X events r
        → replies (after w events) (goes actor grants) ≡ replicate count Moved ++ last ∷ []
        → HasEnded made (events ++ goes actor grants) last

    pub run : (grants : List Bool) → Runs grants
    run [] count events r others runs holds told = absurd (no_replies count last told)
    run (b ∷ grants) count events r others runs holds told =
        subst (λ (es : List Event). HasEnded made es last) (append_assoc events (Go actor b ∷ []) (goes actor grants))
        (by (run grants) (turn_at (after w events) actor b r) refl count (keeps events b r others runs holds) told) where
          more : List Event
          more = events ++ Go actor b ∷ []

          reply_is : (t : Turn) → turn_at (after w events) actor b r ≡ t
              → (step (after w events) (Go actor b)).reply ≡ (turned t actor (after w events)).reply
          reply_is t is = ap (λ (x : Step). x.reply) (turn_is events b r others runs t is)

          by : Runs grants → (t : Turn) → turn_at (after w events) actor b r ≡ t → (count : ℕ)
              → HoldsThen X made (Now events) (after w events) r t
              → replies (after w events) (goes actor (b ∷ grants)) ≡ replicate count Moved ++ last ∷ []
              → HasEnded made (more ++ goes actor grants) last
          by next Waits is count on told = absurd on
          by next (Moves s h q) is zero on told = absurd (over (sym (heads told) ∙ reply_is (Moves s h q) is))
          by next (Moves s h q) is (suc count) on told =
              let t = Moves s h q in
              let world = world_is events b r others runs t is in
              let own = get_or-set_same (after w events).actors actor (with_call h (Some q)) idle
              (runs_inside (after w events) actor r runs) in
              next count more q (others_more events b r others runs)
              (ap (λ (x : World). (actor_at x actor).running) world ∙ ap (λ (x : Actor). x.running) own)
              (subst (λ (x : World). X (Now more) q.next x.shared (actor_at x actor).hand q) (sym world)
              (subst (λ (x : Actor). X (Now more) q.next s x.hand q) (sym own)
              (subst (λ (x : PlainState). X x q.next s h q) (sym (beside_is events b r others runs t is)) on)))
              (ap (λ (x : World). replies x (goes actor grants)) (sym (after_one events w (Go actor b))) ∙ tails told)
          by next (Ends result s h) is zero on told =
              let none : grants ≡ [] = no_grants (step (after w events) (Go actor b)).world actor grants (tails told) in
              subst (λ (gs : List Bool). HasEnded made (more ++ goes actor gs) last) (sym none)
              (subst (λ (es : List Event). HasEnded made es last) (sym (append-nil more))
              (ends events b r others runs result s h is (sym (reply_is (Ends result s h) is) ∙ heads told) on))
          by next (Ends result s h) is (suc count) on told =
              absurd (last_no_move result (sym (reply_is (Ends result s h) is) ∙ heads told))
