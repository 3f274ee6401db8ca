-- A call on snapshots of one step: a making or a drop that is made alone is that of the world with numbers.
use Rattle.std.proofs.Common.{◌≡◌, ℕ, Bool, true, false, List, Option, None, ap, if◌then◌else◌, length, nat_le, refl, subst, sym, inl}
use Rattle.std.specs.Prelude.{Err, filter, not}
use Rattle.std.specs.List.{list_any}
use Rattle.nv_base.specs.declared.fault.Fault.TheVariants.{EpochLimit, NoSnapshot, TooManySnapshots}
use Rattle.nv_base.specs.declared.fault.Fault.{Fault}
use Rattle.nv_base.specs.declared.geometry.GeometryNumbers.{GeometryNumbers}
use Rattle.nv_base.specs.declared.limits.TheConstants.{NUMBER}
use Rattle.nv_book.specs.declared.record.Record.{Record}
use Rattle.nv_calls.specs.Refusals.{Check as Tests, passes}
use Rattle.nv_calls.specs.declared.call.Call.{Call}
use Rattle.nv_calls.specs.declared.call.Call.TheVariants as call
use Rattle.nv_calls.specs.declared.snapshot_or_cleaner_call.SnapshotOrCleanerCall.{SnapshotOrCleanerCall}
use Rattle.nv_calls.specs.declared.snapshot_or_cleaner_call.SnapshotOrCleanerCall.TheVariants as on
use Rattle.nv_book.specs.Listed.{with_moved}
use Rattle.nv_epoch.specs.SnapList.{pins_of}
use Rattle.nv_machine.specs.SnapshotOrCleaner.{drop_turn, if_free, make_turn, snapshot_or_cleaner_turn, drop_tests, make_tests}
use Rattle.nv_machine.specs.PlainRun.{is_of}
use Rattle.nv_machine.specs.Sequence.{first_step, begun, beginning}
use Rattle.nv_machine.specs.Kinds.{rest_turn}
use Rattle.nv_machine.specs.Starts.{IsStart}
use Rattle.nv_machine.specs.Step.{after, kind_turn}
use Rattle.nv_machine.specs.World.{Event, HandState, Next, Refuses, Reply, Running, Shared, Turn, World, actor_at, empty_hand}
use Rattle.nv_machine.proofs.SnapshotOrCleanerAlone.{none_home}
use Rattle.nv_machine.proofs.NextSteps.{Known, KnowsNext}
use Rattle.nv_machine.proofs.OverEvents.{turn_at}
use Rattle.nv_machine.proofs.StepWays.{AfterBy}
use Rattle.nv_serial.specs.Law.{IsMadeAlone, IsSerialCall}
use Rattle.nv_serial.specs.Serial.{Outcome, Serial, refused}
use Rattle.nv_serial.specs.Snapshots.{drop_if, snap_if}
use Rattle.nv_serial.proofs.AloneStages.{PlainState, beside_then}
use Rattle.nv_serial.proofs.AtRestLogs.{living_is, told_by}
use Rattle.nv_serial.proofs.AtRestTests.{drop_tests_are, make_tests_are}
use Rattle.nv_serial.proofs.SnapAlone.{Holds, HoldsThen, Now, Tells, at_first}
use Rattle.nv_serial.proofs.SnapCalls.{is_serial, records_then, start_then, world_then}

module _ (g : GeometryNumbers) (w : World) (rs : List Record) (is : IsStart g w rs) (actor : ℕ) (what : SnapshotOrCleanerCall) where
  abbrev pub c : Call
  c = call.SnapshotOrCleaner what

  abbrev pub b0 : PlainState
  b0 = at_first g w rs actor c

  abbrev pub first_run : Running
  first_run = begun (beginning c) w.shared c

  -- before the first step nothing has changed
  pub record IsFirst (b : PlainState) (k : Next) (sh : Shared) (h : HandState) (r : Running) : Type 0 where
    pub beside_is : b ≡ b0
    pub shared_is : sh ≡ w.shared
    pub hand_is : h ≡ empty_hand
    pub run_is : r ≡ first_run

  pub first : IsFirst b0 first_run.next w.shared empty_hand first_run
  first = record { beside_is = refl; shared_is = refl; hand_is = refl; run_is = refl }

  -- what is to be shown of a turn behind it
  abbrev pub ThenBy : (PlainState → Known) → Outcome → PlainState → Shared → HandState → Running → Turn → Type 0
  ThenBy X made b sh h r t =
      let now = beside_then r.next sh h r t b in AfterBy ⊥ (KnowsNext (X now)) (Tells g w rs actor c made now) t

  abbrev pub FirstTurn : (PlainState → Known) → Outcome → Turn → Type 0
  FirstTurn X made t = ThenBy X made b0 w.shared empty_hand first_run t

  pub first_keeps : (X : PlainState → Known) (made : Outcome) (events : List Event) (granted : Bool) (r : Running)
      → Holds g w rs actor c IsFirst events r
      → FirstTurn X made (snapshot_or_cleaner_turn (first_step (length w.shared.cells) what) actor granted w.shared empty_hand first_run)
      → HoldsThen g w rs actor c X made (Now g w rs actor c events) (after w events) r (turn_at (after w events) actor granted r)
  first_keeps X made events granted r at turned =
      let v = after w events in
      let h = (actor_at v actor).hand in
      let T : Shared → HandState → Running → Turn = λ sh h r. kind_turn r.next v.numbers.block actor granted sh h r in
      subst (λ (q : Running). ThenBy X made (Now g w rs actor c events) v.shared h q (T v.shared h q)) (sym at.run_is)
      (subst (λ (b : PlainState). ThenBy X made b v.shared h first_run (T v.shared h first_run)) (sym at.beside_is)
      (subst (λ (sh : Shared). ThenBy X made b0 sh h first_run (T sh h first_run)) (sym at.shared_is)
      (subst (λ (x : HandState). ThenBy X made b0 w.shared x first_run (T w.shared x first_run)) (sym at.hand_is) turned)))

-- ---- a making

module _ (g : GeometryNumbers) (w : World) (rs : List Record) (is : IsStart g w rs) (actor : ℕ) where
  abbrev Made : Outcome → Turn → Type 0
  Made made t = FirstTurn g w rs is actor on.Snap (IsFirst g w rs is actor on.Snap) made t

  abbrev run_made : Running
  run_made = first_run g w rs is actor on.Snap

  make_refused : (fault : Fault) → Made (refused fault (told_by g w rs)) (make_turn (Err fault) w.shared empty_hand run_made)
  make_refused fault =
      subst (λ (o : Option ℕ). Made (refused fault (told_by g w rs)) (rest_turn o None w.shared empty_hand (record run_made { ending = Refuses fault })))
      (sym (none_home 0 0 w.shared.lists)) (inl (refl, refl))

  make_by : (last full : Bool) → Made (snap_if last full (told_by g w rs))
      (make_turn (if last then Err EpochLimit else if full then Err TooManySnapshots else passes) w.shared empty_hand run_made)
  make_by true full = make_refused EpochLimit
  make_by false true = make_refused TooManySnapshots
  make_by false false = inl (refl, refl)

  pub make_turned : (granted : Bool) → let s = told_by g w rs in
      Made (snap_if (nat_le NUMBER s.plain.epoch) (nat_le s.numbers.snaps (length s.plain.copies)) s)
      (snapshot_or_cleaner_turn (first_step (length w.shared.cells) on.Snap) actor granted w.shared empty_hand run_made)
  make_turned granted =
      let s = told_by g w rs in
      let last = nat_le NUMBER s.plain.epoch in
      let full = nat_le s.numbers.snaps (length s.plain.copies) in
      subst (λ (o : Option ℕ). Made (snap_if last full s) (if_free o (make_turn (make_tests w.shared.book.snaps) w.shared empty_hand run_made)))
      (sym is.uncommitted)
      (subst (λ (tests : Tests). Made (snap_if last full s) (make_turn tests w.shared empty_hand run_made))
      (sym (make_tests_are g w rs is)) (make_by last full))

-- ---- a drop

module _ (g : GeometryNumbers) (w : World) (rs : List Record) (is : IsStart g w rs) (actor snapshot : ℕ) where
  abbrev what : SnapshotOrCleanerCall
  what = on.Drop snapshot

  abbrev Dropped : Outcome → Turn → Type 0
  Dropped made t = FirstTurn g w rs is actor what (IsFirst g w rs is actor what) made t

  abbrev run_dropped : Running
  run_dropped = first_run g w rs is actor what

  drop_by : (lives : Bool) → Dropped (drop_if lives snapshot (told_by g w rs))
      (drop_turn snapshot (if lives then passes else Err NoSnapshot) w.shared empty_hand run_dropped)
  drop_by false =
      subst (λ (o : Option ℕ). Dropped (refused NoSnapshot (told_by g w rs))
      (rest_turn o None w.shared empty_hand (record run_dropped { ending = Refuses NoSnapshot })))
      (sym (none_home 0 0 w.shared.lists)) (inl (refl, refl))
  drop_by true =
      let s = told_by g w rs in
      inl (
        refl,
        ap (λ (alive : List ℕ). let t : Serial = record s {
          plain = record s.plain { copies = filter (λ copy. not (is_of snapshot copy)) s.plain.copies };
          records = with_moved snapshot alive rs;
        } in t) (sym (living_is g w rs is)),
      )

  pub drop_turned : (granted : Bool) → let s = told_by g w rs in
      Dropped (drop_if (list_any (is_of snapshot) s.plain.copies) snapshot s)
      (snapshot_or_cleaner_turn (first_step (length w.shared.cells) what) actor granted w.shared empty_hand run_dropped)
  drop_turned granted =
      let s = told_by g w rs in
      let lives = list_any (is_of snapshot) s.plain.copies in
      subst (λ (o : Option ℕ). Dropped (drop_if lives snapshot s)
      (if_free o (drop_turn snapshot (drop_tests (pins_of w.shared.book.snaps snapshot)) w.shared empty_hand run_dropped)))
      (sym is.uncommitted)
      (subst (λ (tests : Tests). Dropped (drop_if lives snapshot s) (drop_turn snapshot tests w.shared empty_hand run_dropped))
      (sym (drop_tests_are g w rs is snapshot)) (drop_by lives))

-- ---- THE LAWS

module _ (g : GeometryNumbers) (start : World) (records : List Record) (before : List Event) (actor : ℕ) (grants : List Bool)
    (last : Reply) where
  pub made_alone : IsMadeAlone g start records before actor (call.SnapshotOrCleaner on.Snap) grants last
      → IsSerialCall g start records before actor (call.SnapshotOrCleaner on.Snap) grants last
  made_alone alone =
      let c = call.SnapshotOrCleaner on.Snap in
      let w = world_then g start records before actor c grants last alone in
      let rs = records_then g start records before actor c grants last alone in
      let is = start_then g start records before actor c grants last alone in
      let X = IsFirst g w rs is actor on.Snap in
      is_serial g start records before actor c grants last alone X
      (λ events granted r others runs at. first_keeps g w rs is actor on.Snap X _ events granted r at
      (make_turned g w rs is actor granted))
      (first g w rs is actor on.Snap)

  pub dropped_alone : (snapshot : ℕ) → IsMadeAlone g start records before actor (call.SnapshotOrCleaner (on.Drop snapshot)) grants last
      → IsSerialCall g start records before actor (call.SnapshotOrCleaner (on.Drop snapshot)) grants last
  dropped_alone snapshot alone =
      let c = call.SnapshotOrCleaner (on.Drop snapshot) in
      let w = world_then g start records before actor c grants last alone in
      let rs = records_then g start records before actor c grants last alone in
      let is = start_then g start records before actor c grants last alone in
      let X = IsFirst g w rs is actor (on.Drop snapshot) in
      is_serial g start records before actor c grants last alone X
      (λ events granted r others runs at. first_keeps g w rs is actor (on.Drop snapshot) X _ events granted r at
      (drop_turned g w rs is actor snapshot granted))
      (first g w rs is actor (on.Drop snapshot))
