-- From its start to its enter a call that is made alone takes the row.
use Rattle.std.proofs.Common.{◌≡◌, ℕ, ◌<◌, ◌++◌, Bool, true, false, List, ◌∷◌, Some, None, arith, if◌then◌else◌, length, nat_lt, refl, subst, sym}
use Rattle.nv_base.specs.declared.geometry.GeometryNumbers.{GeometryNumbers}
use Rattle.nv_book.specs.declared.record.Record.{Record}
use Rattle.nv_calls.specs.declared.call.Call.{Call}
use Rattle.nv_machine.specs.Alone.{goes}
use Rattle.nv_machine.specs.EndsDecided.{is_snapshot_or_cleaner}
use Rattle.nv_machine.specs.PlainRun.{plain_of}
use Rattle.nv_machine.specs.Reads.{slots_of}
use Rattle.nv_machine.specs.Sequence as sequence
use Rattle.nv_machine.specs.Sequence.{Beginning, beginning, begun, nothing_looked}
use Rattle.nv_machine.specs.Starts.{IsStart}
use Rattle.nv_machine.specs.Step.{after, step, turn}
use Rattle.nv_machine.specs.World.{Actor, Check, Enter, Event, HandState, Lock, Next, Running, Shared, Start, Started, World, actor_at, empty_hand}
use Rattle.nv_machine.proofs.EveryWorld.{all_numbers}
use Rattle.nv_machine.proofs.NextSteps.{Known, KnowsNext, Untold}
use Rattle.nv_machine.proofs.OverEvents.{turn_at}
use Rattle.nv_machine.proofs.StepWays.{Telling}
use Rattle.nv_serial.specs.Row.{IsPlannedByRow}
use Rattle.nv_serial.proofs.AloneStages.{PlainState, IsOn, Turns, after_by, stands}
use Rattle.nv_serial.proofs.Takes.{EarlyIn, OnStage, Stage, is_before_commit, stage_on}
use Rattle.nv_serial.proofs.TakesBehind.{past_on}

-- ---- at first

early : (s : Shared) (block actor : ℕ) (c : Call) (some : 0 < length s.lists) → EarlyIn block actor s c some s empty_hand c
early s block actor c some = record {
  same = record { cells_are = refl; book_is = refl; call_is = refl };
  lists_are = refl;
  blocks_are = refl;
  pages_are = refl;
}

pub begun_early : (s : Shared) (block actor : ℕ) (c : Call) (some : 0 < length s.lists) (b : Beginning)
    → Stage block actor s c some (begun b s c).next s empty_hand (begun b s c)
begun_early s block actor c some sequence.Numbers = early s block actor c some
begun_early s block actor c some sequence.Looks = early s block actor c some
begun_early s block actor c some sequence.Locks = go (nat_lt 0 (length (slots_of s None nothing_looked c))) where
  go : (b : Bool) → Stage block actor s c some (if b then Lock 0 else Check) s empty_hand (begun sequence.Locks s c)
  go true = early s block actor c some
  go false = early s block actor c some
begun_early s block actor c some other = tt

-- ---- step by step

module _ (g : GeometryNumbers) (start : World) (records : List Record) (is_start : IsStart g start records) where
  pub some_lists : (before : List Event) → 0 < length (after start before).shared.lists
  some_lists before =
      let cpus = (all_numbers g start records before is_start).lists.cpus in
      let least = is_start.limits.some_cpus in omega (arith, cpus, least)

  module _ (before : List Event) (actor : ℕ) (c : Call) (plain : is_snapshot_or_cleaner c ≡ false)
      (started : (step (after start before) (Start actor c)).reply ≡ Started) where
    abbrev s0 : Shared
    s0 = (after start before).shared

    abbrev pub now_others : ℕ → Actor
    now_others b = actor_at (after start before) b

    abbrev pub OnRow : Next → Shared → HandState → Running → Type 0
    OnRow k s h r = Stage g.block actor s0 c (some_lists before) k s h r

    -- the row speaks of nothing that stands beside
    abbrev RowBeside : PlainState → Known
    RowBeside b = OnRow

    abbrev UntoldBeside : PlainState → Telling
    UntoldBeside b = Untold

    pub row_keeps : (events : List Event) (granted : Bool) (r : Running) → IsOn g start records is_start actor c plain now_others events r
        → OnRow r.next (after start events).shared (actor_at (after start events) actor).hand r
        → OnStage g.block actor s0 c (some_lists before) (turn_at (after start events) actor granted r)
    row_keeps events granted r on stage =
        let w = after start events in
        let h = (actor_at w actor).hand in
        subst (λ (x : GeometryNumbers). OnStage g.block actor s0 c (some_lists before) (turn x.block actor granted w.shared h r))
        (sym (all_numbers g start records events is_start).numbers) (go (is_before_commit r.next) refl) where
          go : (b : Bool) → is_before_commit r.next ≡ b
              → OnStage g.block actor s0 c (some_lists before)
              (turn g.block actor granted (after start events).shared (actor_at (after start events) actor).hand r)
          go true e =
              stage_on g.block actor s0 c (some_lists before) r.next granted (after start events).shared
              (actor_at (after start events) actor).hand r e stage
          go false e =
              past_on g.block actor s0 c (some_lists before) r.next granted (after start events).shared
              (actor_at (after start events) actor).hand r e on.files on.going stage

    row_turns : (events : List Event) (granted : Bool) (r : Running) (b : PlainState) → IsOn g start records is_start actor c plain now_others events r
        → OnRow r.next (after start events).shared (actor_at (after start events) actor).hand r
        → Turns RowBeside UntoldBeside actor b (after start events).shared (actor_at (after start events) actor).hand r
        (turn_at (after start events) actor granted r)
    row_turns events granted r b on stage =
        after_by (OnRow r.next (after start events).shared (actor_at (after start events) actor).hand r) (KnowsNext OnRow) Untold
        (turn_at (after start events) actor granted r) stage (row_keeps events granted r on stage)

    pub on_row : (grants : List Bool) (r : Running)
        → (actor_at (after start (before ++ Start actor c ∷ goes actor grants)) actor).running ≡ Some r
        → let w = after start (before ++ Start actor c ∷ goes actor grants) in OnRow r.next w.shared (actor_at w actor).hand r
    on_row grants r is =
        stands g start records is_start actor c plain now_others RowBeside UntoldBeside (record { records = records; plain = plain_of start }) row_turns
        before (λ b ne. refl) started
        (begun_early s0 g.block actor c (some_lists before) (beginning c)) grants r is

pub row_taken : (g : GeometryNumbers) (start : World) (records : List Record) (before : List Event) (actor : ℕ) (c : Call)
    (grants : List Bool) (r : Running) → IsStart g start records
    → is_snapshot_or_cleaner c ≡ false → (step (after start before) (Start actor c)).reply ≡ Started
    → let w = after start (before ++ Start actor c ∷ goes actor grants) in
    (actor_at w actor).running ≡ Some r → r.next ≡ Enter
    → IsPlannedByRow g.block (after start before).shared actor c w.shared.lists (actor_at w actor).hand.pages r.made r.plan
row_taken g start records before actor c grants r is_start plain started is next =
    let w = after start (before ++ Start actor c ∷ goes actor grants) in
    (subst (λ (k : Next). OnRow g start records is_start before actor c plain started k w.shared (actor_at w actor).hand r) next
    (on_row g start records is_start before actor c plain started grants r is)).planned
