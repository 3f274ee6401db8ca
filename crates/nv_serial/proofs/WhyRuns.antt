-- From its start to its last reply: why a call that is made alone is refused.
use Rattle.std.proofs.Common.{◌≡◌, ◌≢◌, ◌∙◌, ℕ, ◌+◌, ◌<◌, ◌≤◌, ◌++◌, Bool, true, false, List, ◌∷◌, Some, None, ap, if◌then◌else◌, length, nat_lt, refl, subst, sym}
use Rattle.std.specs.Prelude.{Err, Ok, nat_le}
use Rattle.nv_base.specs.declared.fault.Fault.{Fault}
use Rattle.nv_base.specs.declared.geometry.GeometryNumbers.{GeometryNumbers}
use Rattle.nv_base.specs.declared.limits.TheConstants.{NUMBER}
use Rattle.nv_book.specs.Book.{BookState}
use Rattle.nv_book.specs.declared.record.Record.{Record}
use Rattle.nv_calls.specs.AllCalls.{is_nothing}
use Rattle.nv_calls.specs.declared.call.Call.{Call}
use Rattle.nv_calls.specs.declared.plan.InodePlan.{InodePlan}
use Rattle.nv_machine.specs.Alone.{goes}
use Rattle.nv_machine.specs.EndsDecided.{is_snapshot_or_cleaner}
use Rattle.nv_machine.specs.Locks.{AreSlots}
use Rattle.nv_machine.specs.Reads.{pages_wanted, slots_of, written_slots}
use Rattle.nv_machine.specs.Sequence as sequence
use Rattle.nv_machine.specs.Sequence.{Beginning, beginning, begun, nothing_looked}
use Rattle.nv_machine.specs.Starts.{IsStart}
use Rattle.nv_machine.specs.Step.{Step, after, step, turn, turned}
use Rattle.nv_machine.specs.World.{Check, Ends, Enter, Event, Go, HandState, Lock, Moves, Next, Refused, Running, Shared, Start, Started, Turn, Waits, World, actor_at, empty_hand}
use Rattle.nv_machine.proofs.DecidedNext as told
use Rattle.nv_machine.proofs.EveryWorld.{all_numbers}
use Rattle.nv_machine.proofs.NextSteps.{Known, KnowsNext}
use Rattle.nv_machine.proofs.OverEvents.{runs_inside, turn_at}
use Rattle.nv_machine.proofs.SingleEvents.{goes as goes_by_turn}
use Rattle.nv_machine.proofs.StepWays.{AfterBy, Going, Telling}
use Rattle.nv_machine.proofs.WorldFacts.{hands_paged}
use Rattle.nv_serial.specs.Row.{data_for, row_at}
use Rattle.nv_serial.proofs.AloneStages.{PlainState, IsOn, Turns, after_by, beside_then, both_by, stands_then}
use Rattle.nv_serial.proofs.CommitRuns.{E, X, b0, begun_made, begun_stands, first, held, is_entering, keeps, others}
use Rattle.nv_serial.proofs.CommitStages.{ArePlanned}
use Rattle.nv_serial.proofs.CommitWalk.{Stands}
use Rattle.nv_serial.proofs.TakesRuns.{begun_early, some_lists}
use Rattle.nv_serial.proofs.WhyRefused.{IsAtLimit, Knows, OnWhy, Why, WhyStage, WhyTold, kind_why}

module _ (g : GeometryNumbers) (start : World) (records : List Record) (is_start : IsStart g start records) (before : List Event)
    (actor : ℕ) (c : Call) (plain : is_snapshot_or_cleaner c ≡ false)
    (started : (step (after start before) (Start actor c)).reply ≡ Started)
    (rest : (b : ℕ) → b ≢ actor → (actor_at (after start before) b).running ≡ None) where
  abbrev s0 : Shared
  s0 = (after start before).shared

  abbrev beside0 : PlainState
  beside0 = b0 g start records is_start before actor c plain started rest

  abbrev some : 0 < length s0.lists
  some = some_lists g start records is_start before

  abbrev Stage : Known
  Stage = WhyStage g.block actor s0 c beside0 some

  abbrev TellsWhy : Telling
  TellsWhy = WhyTold g.block actor s0 c beside0 some

  abbrev XWhy : PlainState → Known
  XWhy b k s h r = X g start records is_start before actor c plain started rest b k s h r × Stage k s h r

  abbrev EWhy : PlainState → Telling
  EWhy b x s h = E g start records is_start before actor c plain started rest b x s h × TellsWhy x s h

  begun_why : (b : Beginning) → Stage (begun b s0 c).next s0 empty_hand (begun b s0 c)
  begun_why sequence.Locks = go (nat_lt 0 (length (slots_of s0 None nothing_looked c))) where
    go : (b : Bool) → Stage (if b then Lock 0 else Check) s0 empty_hand (begun sequence.Locks s0 c)
    go true = tt
    go false = tt
  begun_why other = tt

  module _ (events : List Event) (r : Running)
      (on : IsOn g start records is_start actor c plain (others g start records is_start before actor c plain started rest) events r)
      (granted : Bool) (b : PlainState)
      (had : X g start records is_start before actor c plain started rest b r.next (after start events).shared
      (actor_at (after start events) actor).hand r) where
    abbrev w : World
    w = after start events

    abbrev h : HandState
    h = (actor_at w actor).hand

    limited : r.next ≡ Enter → nat_le NUMBER w.shared.book.commit ≡ true → IsAtLimit g.block actor s0 c beside0 some
    limited next last =
        let enters = is_entering g start records is_start before actor c plain started rest events r on granted b had.0 next in
        let unchanged = subst (λ (k : Next). Stands g.block actor s0 c beside0 b k w.shared h r) next had.1 in
        let plan_is = enters.planned.plan_is in
        record {
          something = ap is_nothing (sym on.call_is) ∙ subst (λ (k : Next). told.Stage k r.ending r.call) next on.told.stage;
          made = r.made;
          new = enters.made_is;
          slots = written_slots r;
          planned = subst (λ (p : List InodePlan). ArePlanned g.block actor s0 c beside0 p (written_slots r)) plan_is enters.slots;
          enough = subst (λ (p : List InodePlan). data_for g.block s0 c + pages_wanted s0 (written_slots r) p ≤ length (row_at s0 actor))
              plan_is enters.enough;
          limit = sym (ap (λ (x : BookState). nat_le NUMBER x.commit) unchanged.book_is) ∙ last;
        }

    knows : Knows g.block actor s0 c beside0 some r.next w.shared h r
    knows =
        let locks = held g start records is_start before actor c plain started rest events r on in
        record {
          call_is = on.call_is;
          stage = on.told.stage;
          answers = on.going;
          paged = hands_paged g start records events actor r is_start on.runs;
          slots = subst (λ (n : ℕ). AreSlots n r.slots) locks.wide locks.are;
          row = had.0.0;
          made = had.0.1;
          visit = λ next. (subst (λ (k : Next). Stands g.block actor s0 c beside0 b k w.shared h r) next had.1).cells_are;
          limited = limited;
        }

    keeps_why : Stage r.next w.shared h r → Turns XWhy EWhy actor b w.shared h r (turn_at w actor granted r)
    keeps_why why =
        let t = turn_at w actor granted r in
        let later = beside_then r.next w.shared h r t b in
        both_by (X g start records is_start before actor c plain started rest later r.next w.shared h r) (Stage r.next w.shared h r)
        (KnowsNext (X g start records is_start before actor c plain started rest later)) (KnowsNext Stage)
        (E g start records is_start before actor c plain started rest later) TellsWhy t
        (keeps g start records is_start before actor c plain started rest events r on granted b had)
        (after_by (Stage r.next w.shared h r) (KnowsNext Stage) TellsWhy t why
        (subst (λ (x : GeometryNumbers). OnWhy g.block actor s0 c beside0 some (turn x.block actor granted w.shared h r))
        (sym (all_numbers g start records events is_start).numbers)
        (kind_why g.block actor s0 c beside0 some granted w.shared h r r.next on.files knows why)))

  ended_why : (b : PlainState) (W : Type 0) (P : Going) (t : Turn) (w : World) (fault : Fault) → AfterBy W P (EWhy b) t
      → (turned t actor w).reply ≡ Refused fault → Why g.block actor s0 c beside0 some fault
  ended_why b W P (Moves s h q) w fault on e = cc
  ended_why b W P Waits w fault on e = cc
  ended_why b W P (Ends (Ok found) s h) w fault on e = cc
  ended_why b W P (Ends (Err other) s h) w fault on e =
      let same : other ≡ fault = cc in subst (λ (x : Fault). Why g.block actor s0 c beside0 some x) same on.1

  -- WHY IT IS REFUSED
  pub alone_why : (grants : List Bool) (granted : Bool) (r : Running) (fault : Fault)
      → (actor_at (after start (before ++ Start actor c ∷ goes actor grants)) actor).running ≡ Some r
      → (step (after start (before ++ Start actor c ∷ goes actor grants)) (Go actor granted)).reply ≡ Refused fault
      → Why g.block actor s0 c beside0 some fault
  alone_why grants granted r fault is e =
      let events : List Event = before ++ Start actor c ∷ goes actor grants in
      let w = after start events in
      let there = runs_inside w actor r is in
      ended_why _ _ _ (turn_at w actor granted r) w fault
      (stands_then g start records is_start actor c plain (others g start records is_start before actor c plain started rest) XWhy EWhy
      (first g start records is_start before actor c plain started rest)
      (λ events granted r b on had. keeps_why events r on granted b had.0 had.1) before (λ b ne. refl) started (
        (
          (
            begun_early s0 g.block actor c some (beginning c),
            begun_made g start records is_start before actor c plain started rest (beginning c) refl,
          ),
          begun_stands g start records is_start before actor c plain started rest (beginning c) refl,
        ),
        begun_why (beginning c),
      )
      grants granted r is)
      (ap (λ (x : Step). x.reply) (sym (goes_by_turn w actor granted r there is).is_turn) ∙ e)
