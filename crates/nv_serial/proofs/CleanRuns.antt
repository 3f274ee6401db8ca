-- A cleaner that is made alone, from its start to its last reply: what it is told, and what it leaves, is what the world with
-- numbers says.
use Rattle.std.proofs.Common.{◌≡◌, ◌≢◌, ◌⊎◌, ◌∙◌, ◌==◌, ℕ, zero, suc, ◌<◌, ◌++◌, Bool, true, false, List, [], ◌∷◌, Some, None, ap, append_assoc, get_or-set_same, inl, inr, length, refl, replicate, subst, sym}
use Rattle.std.specs.Prelude.{Err, Ok, Result}
use Rattle.std.proofs.lemmas.Bool.{eqb-false, eqb-true}
use Rattle.nv_base.specs.declared.fault.Fault.{Fault}
use Rattle.nv_base.specs.declared.geometry.GeometryNumbers.{GeometryNumbers}
use Rattle.nv_book.specs.declared.record.Record.{Record}
use Rattle.nv_calls.specs.declared.answer.Answer.{Answer}
use Rattle.nv_calls.specs.declared.call.Call.{Call}
use Rattle.nv_machine.specs.Alone.{goes}
use Rattle.nv_machine.specs.CleanerAnswers.{cleaner}
use Rattle.nv_machine.specs.Needed.{IsAtRest}
use Rattle.nv_machine.specs.PlainRun.{plain_of}
use Rattle.nv_machine.specs.Recorded.{records_after}
use Rattle.nv_machine.specs.Starts.{IsStart}
use Rattle.nv_machine.specs.Step.{Step, after, replies, step, turned}
use Rattle.nv_machine.specs.World.{Actor, Ends, Event, Go, HandState, Manner, Moved, Moves, Reply, Running, Shared, Turn, Waits, World, actor_at, idle}
use Rattle.nv_machine.proofs.CallsStay.{IsCallOf, call_stays}
use Rattle.nv_machine.proofs.CleanerRuns.{cleaner_plain, cleaner_records}
use Rattle.nv_machine.proofs.CopiesAll.{after_one}
use Rattle.nv_machine.proofs.OverEvents.{others_stay, runs_inside, turn_at, with_call}
use Rattle.nv_machine.proofs.SingleEvents.{goes as goes_by_turn}
use Rattle.nv_machine.proofs.WorldsAtRest.{start_again}
use Rattle.nv_serial.specs.Law.{IsOutcome}
use Rattle.nv_serial.proofs.AloneStages.{PlainState, beside_after, beside_more, beside_step}
use Rattle.nv_serial.proofs.CleanStages.{IsTold, OnTurn, Stands, behind, made, old, step_on}

module _ (g : GeometryNumbers) (start : World) (records : List Record) (is_start : IsStart g start records) (before : List Event)
    (at_rest : IsAtRest (after start before)) (actor : ℕ) (there : actor < g.actors) (manner : Manner) (ino : ℕ) where
  abbrev pub w : World
  w = after start before

  abbrev pub rs : List Record
  rs = records_after start before records

  abbrev pub is : IsStart g w rs
  is = start_again g start records before is_start at_rest

  abbrev c : Call
  c = cleaner manner ino

  abbrev pub first_beside : PlainState
  first_beside = record { records = records; plain = plain_of start }

  abbrev pub Stays : List Event → Type 0
  Stays events = beside_after start events first_beside ≡ beside_after start before first_beside

  abbrev pub OthersRest : World → Type 0
  OthersRest v = (b : ℕ) → b ≢ actor → (actor_at v b).running ≡ None

  -- it runs, and its stage holds
  pub record IsUnder (v : World) : Type 0 where
    pub running : Running
    pub runs : (actor_at v actor).running ≡ Some running
    pub stands : Stands g w rs is actor there manner ino v.shared (actor_at v actor).hand running
    pub its : IsCallOf c (actor_at v actor).running
    pub others : OthersRest v

  -- it has been told
  pub record IsOver (v : World) (last : Reply) : Type 0 where
    pub outcome : IsOutcome c (old g w rs is actor there manner ino) (made g w rs is actor there manner ino) last
        (behind g w rs is actor there manner ino v.shared)
    pub rest : IsAtRest v

  -- ---- one step

  all_rest : (v : World) → (actor_at v actor).running ≡ None → OthersRest v → IsAtRest v
  all_rest v own others b = go (b == actor) refl where
    go : (same : Bool) → (b == actor) ≡ same → (actor_at v b).running ≡ None
    go true same = ap (λ (n : ℕ). (actor_at v n).running) (eqb-true b actor same) ∙ own
    go false apart = others b (eqb-false b actor apart)

  -- a step moves on, or is the last
  abbrev OneStep : Reply → World → Type 0
  OneStep reply v = ((reply ≡ Moved) × IsUnder v) ⊎ ((reply ≢ Moved) × IsOver v reply)

  last_told : (x : Result Answer Fault) (s : Shared) (h : HandState) (v : World) → actor < length v.actors
      → IsTold g w rs is actor there manner ino x s → OthersRest (turned (Ends x s h) actor v).world
      → OneStep (turned (Ends x s h) actor v).reply (turned (Ends x s h) actor v).world
  last_told (Ok found) s h v inside told others =
      inr (
        (λ e. cc),
        record {
          outcome = told;
          rest = all_rest (turned (Ends (Ok found) s h) actor v).world
              (ap (λ (x : Actor). x.running) (get_or-set_same v.actors actor (with_call h None) idle inside)) others;
        },
      )
  last_told (Err fault) s h v inside told others =
      inr (
        (λ e. cc),
        record {
          outcome = told;
          rest = all_rest (turned (Ends (Err fault) s h) actor v).world
              (ap (λ (x : Actor). x.running) (get_or-set_same v.actors actor (with_call h None) idle inside)) others;
        },
      )

  by_turn : (t : Turn) (v : World) → actor < length v.actors → OnTurn g w rs is actor there manner ino t
      → OthersRest (turned t actor v).world → IsCallOf c (actor_at (turned t actor v).world actor).running
      → OneStep (turned t actor v).reply (turned t actor v).world
  by_turn (Moves s h q) v inside on others its =
      let own : actor_at (turned (Moves s h q) actor v).world actor ≡ with_call h (Some q) =
      get_or-set_same v.actors actor (with_call h (Some q)) idle inside in
      inl (
        refl,
        record {
          running = q;
          runs = ap (λ (x : Actor). x.running) own;
          stands = subst (λ (x : Actor). Stands g w rs is actor there manner ino s x.hand q) (sym own) on;
          its = its;
          others = others;
        },
      )
  by_turn Waits v inside on others its = absurd on
  by_turn (Ends x s h) v inside on others its = last_told x s h v inside on others

  one_step : (v : World) (granted : Bool) → IsUnder v
      → OneStep (step v (Go actor granted)).reply (step v (Go actor granted)).world
  one_step v granted u =
      let r = u.running in
      let inside = runs_inside v actor r u.runs in
      let is_turn = (goes_by_turn v actor granted r inside u.runs).is_turn in
      let made_world : (step v (Go actor granted)).world ≡ (turned (turn_at v actor granted r) actor v).world =
      ap (λ (x : Step). x.world) is_turn in
      subst (λ (x : Step). OneStep x.reply x.world) (sym is_turn)
      (by_turn (turn_at v actor granted r) v inside
      (step_on g w rs is actor there manner ino v.numbers.block v.shared (actor_at v actor).hand r u.stands.number granted u.stands)
      (subst OthersRest made_world
      (λ b ne. ap (λ (x : Actor). x.running) (others_stay v b (Go actor granted) ne) ∙ u.others b ne))
      (subst (λ (x : World). IsCallOf c (actor_at x actor).running) made_world
      (call_stays v actor granted r c u.runs (subst (IsCallOf c) u.runs u.its))))

  -- ---- what stands beside it stays

  stays_more : (events : List Event) (granted : Bool) → IsUnder (after start events) → Stays events
      → Stays (events ++ Go actor granted ∷ [])
  stays_more events granted u same =
      let v = after start events in
      let b = beside_after start events first_beside in
      let r = u.running in
      let its : r.call ≡ c = subst (IsCallOf c) u.runs u.its in
      let rs_same = cleaner_records g start records events actor granted r manner ino is_start u.runs its b.records in
      let plain_same = cleaner_plain g start records events actor granted r manner ino is_start u.runs its b.plain in
      let stays : beside_step v (Go actor granted) b ≡ b = λ i. record { records = rs_same i; plain = plain_same i } in
      beside_more events start (Go actor granted) first_beside ∙ stays ∙ same

  -- ---- all steps

  pub record IsRunOut (events : List Event) (last : Reply) : Type 0 where
    pub over : IsOver (after start events) last
    pub stays : Stays events

  no_more : (v : World) (grants : List Bool) → replies v (goes actor grants) ≡ [] → grants ≡ []
  no_more v [] e = refl
  no_more v (b ∷ grants) e = cc

  first_of : Reply → List Reply → Reply
  first_of d [] = d
  first_of d (x ∷ told) = x

  rest_of : List Reply → List Reply
  rest_of [] = []
  rest_of (x ∷ told) = told

  pub run : (grants : List Bool) (events : List Event) (count : ℕ) (last : Reply) → IsUnder (after start events) → Stays events
      → replies (after start events) (goes actor grants) ≡ replicate count Moved ++ last ∷ [] → last ≢ Moved
      → IsRunOut (events ++ goes actor grants) last
  unfolding first_of rest_of
  run [] events zero last u same told ne = cc
  run [] events (suc count) last u same told ne = cc
  run (b ∷ grants) events count last u same told ne =
      go count told (one_step (after start events) b u) (stays_more events b u same)
      (λ all n under stays more. run grants all n last under stays more ne) where
        v : World
        v = after start events

        e : Event
        e = Go actor b

        on : (step v e).world ≡ after start (events ++ e ∷ [])
        on = after_one events start e

        go : (count : ℕ) → (step v e).reply ∷ replies (step v e).world (goes actor grants) ≡ replicate count Moved ++ last ∷ []
            → OneStep (step v e).reply (step v e).world → Stays (events ++ e ∷ [])
            → ((all : List Event) (n : ℕ) → IsUnder (after start all) → Stays all
            → replies (after start all) (goes actor grants) ≡ replicate n Moved ++ last ∷ [] → IsRunOut (all ++ goes actor grants) last)
            → IsRunOut (events ++ e ∷ goes actor grants) last
        go zero told (inl (moved, under)) stays more = absurd (ne (sym (ap (first_of last) told) ∙ moved))
        go (suc count) told (inl (moved, under)) stays more =
            subst (λ (all : List Event). IsRunOut all last) (append_assoc events (e ∷ []) (goes actor grants))
            (more (events ++ e ∷ []) count (subst IsUnder on under) stays
            (subst (λ (x : World). replies x (goes actor grants) ≡ replicate count Moved ++ last ∷ []) on (ap rest_of told)))
        go zero told (inr (ended, over)) stays more =
            let none : grants ≡ [] = no_more (step v e).world grants (ap rest_of told) in
            subst (λ (gs : List Bool). IsRunOut (events ++ e ∷ goes actor gs) last) (sym none) (record {
              over = subst (λ (x : World). IsOver x last) on (subst (IsOver (step v e).world) (ap (first_of last) told) over);
              stays = stays;
            })
        go (suc count) told (inr (ended, over)) stays more = absurd (ended (ap (first_of last) told))
