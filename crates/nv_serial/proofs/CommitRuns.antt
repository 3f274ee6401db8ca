-- A call that is made alone, from its start to its last reply: what it leaves of logs, of the plain world and of the records.
use Rattle.std.proofs.Common.{◌≡◌, ◌≢◌, ◌∙◌, ◌==◌, ℕ, ◌<◌, ◌++◌, append-nil, filter, get_or-set_same, Bool, true, false, List, [], ◌∷◌, Option, Some, None, ap, arith, if◌then◌else◌, length, length-append, length-drop, nat_lt, refl, subst, sym}
use Rattle.std.specs.Prelude.{Err, Ok}
use Rattle.std.specs.List.{AllByRecursion}
use Rattle.std.proofs.lemmas.Bool.{eqb-false, eqb-true, false≢true}
use Rattle.std.proofs.lemmas.List.{length-map}
use Rattle.nv_alloc.specs.Block.{BlockValue, numbers_of}
use Rattle.nv_machine.specs.Needed.{IsAtRest}
use Rattle.nv_machine.specs.Pages.{HasLogPages}
use Rattle.nv_base.specs.declared.fault.Fault.{Fault}
use Rattle.nv_base.specs.declared.geometry.GeometryNumbers.{GeometryNumbers}
use Rattle.nv_book.specs.declared.record.Record.{Record}
use Rattle.nv_calls.specs.declared.answer.Answer.{Answer}
use Rattle.nv_calls.specs.declared.call.Call.{Call}
use Rattle.nv_calls.specs.declared.call.Call.TheVariants as call
use Rattle.nv_cell.specs.Cell.{CellState}
use Rattle.nv_calls.specs.declared.snapshot_or_cleaner_call.SnapshotOrCleanerCall.{SnapshotOrCleanerCall}
use Rattle.nv_machine.specs.Alone.{goes}
use Rattle.nv_machine.specs.EndsDecided.{is_snapshot_or_cleaner}
use Rattle.nv_machine.specs.Erasing.{IsOver}
use Rattle.nv_machine.specs.FitsNow.{bytes_in}
use Rattle.nv_machine.specs.Held.{pending_in, picked_at, picked_by_actor, picked_by_call}
use Rattle.nv_machine.specs.Hands.{HandAt, HandOf}
use Rattle.nv_machine.specs.Locks.{AreSlots}
use Rattle.nv_machine.specs.PlainRun.{plain_of}
use Rattle.nv_machine.specs.Reads.{is_written, pages_needed, pages_wanted, slot_at, slots_of, written_slots}
use Rattle.nv_machine.specs.Sequence as sequence
use Rattle.nv_machine.specs.Sequence.{Beginning, beginning, begun, nothing_looked}
use Rattle.nv_machine.specs.Starts.{IsStart}
use Rattle.nv_machine.specs.Step.{Step, after, step, turn, turned}
use Rattle.nv_machine.specs.World.{Actor, Check, Done, Ends, Enter, Event, Go, HandState, Lock, Moves, Next, Refused, Reply, Retire, Running, Shared, Start, Started, Turn, Waits, World, actor_at, empty_hand, idle}
use Rattle.nv_machine.proofs.DecidedNext as decided
use Rattle.nv_machine.proofs.DecidedRuns.{relied}
use Rattle.nv_machine.proofs.EachElement.{all_filter}
use Rattle.nv_machine.proofs.EveryWorld.{all_known, all_numbers}
use Rattle.nv_machine.proofs.FitsBytes.{written as are_written}
use Rattle.nv_machine.proofs.FitsEvents.{is_read}
use Rattle.nv_machine.proofs.FitsStages.{FitsAt}
use Rattle.nv_machine.proofs.Lists.{written_inside}
use Rattle.nv_machine.proofs.LocksHeld.{Before}
use Rattle.nv_machine.proofs.LocksOverEvents.{before as held_before}
use Rattle.nv_machine.proofs.NextSteps.{Known, KnowsNext, Untold}
use Rattle.nv_machine.proofs.OverEvents.{others_stay, runs_inside, turn_at, with_call}
use Rattle.nv_machine.proofs.PageOrder.{written_rise}
use Rattle.nv_machine.proofs.PartsFor.{none_of}
use Rattle.nv_machine.proofs.SingleEvents.{goes as goes_by_turn}
use Rattle.nv_machine.proofs.StepWays.{AfterBy, Going, Telling}
use Rattle.nv_machine.proofs.WorldFacts.{hands_paged}
use Rattle.nv_serial.proofs.AloneStages.{PlainState, IsOn, Turns, after_by, beside_after, beside_more, beside_then, beside_turned, both_by, stands_on, stands_then}
use Rattle.nv_serial.specs.Row.{data_for, row, row_at}
use Rattle.nv_serial.proofs.SlotLists.{none_needed, sum_filter}
use Rattle.nv_serial.proofs.CommitStages.{IsDone, UnchangedIn}
use Rattle.nv_serial.proofs.CommitTurns.{IsErasedOver}
use Rattle.nv_serial.proofs.CommitWalk.{IsEntering, IsFit, Stands, Told, kind_stands}
use Rattle.nv_serial.proofs.ErasedOver.{erased_over, settled_all}
use Rattle.nv_serial.proofs.MadeTaken.{MadeStage, NumberedIn, OnMade, first_number, kind_made}
use Rattle.nv_serial.proofs.TakesRuns.{OnRow, begun_early, row_keeps, some_lists}

filter_passes : (f : ℕ → Bool) (xs : List ℕ) → AllByRecursion (λ x. f x ≡ true) (filter f xs)
filter_passes f [] = tt
filter_passes f (x ∷ xs) = go (f x) refl (filter_passes f xs) where
  go : (b : Bool) → f x ≡ b → AllByRecursion (λ x. f x ≡ true) (filter f xs)
      → AllByRecursion (λ x. f x ≡ true) (if b then x ∷ filter f xs else filter f xs)
  go true e more = (e, more)
  go false e more = more

-- a reply with which a call ends
abbrev pub is_final : Reply → Bool
is_final (Done told) = true
is_final (Refused fault) = true
is_final other = false

maintains_is : (c : Call) (what : SnapshotOrCleanerCall) → beginning c ≡ sequence.Maintains what → is_snapshot_or_cleaner c ≡ true
maintains_is (call.SnapshotOrCleaner what) other e = refl
maintains_is rest other e = cc

module _ (g : GeometryNumbers) (start : World) (records : List Record) (is_start : IsStart g start records) (before : List Event)
    (actor : ℕ) (c : Call) (plain : is_snapshot_or_cleaner c ≡ false)
    (started : (step (after start before) (Start actor c)).reply ≡ Started)
    (rest : (b : ℕ) → b ≢ actor → (actor_at (after start before) b).running ≡ None) where
  abbrev s0 : Shared
  s0 = (after start before).shared

  -- what stands beside the run, at first and when the call starts
  abbrev pub first : PlainState
  first = record { records = records; plain = plain_of start }

  abbrev pub b0 : PlainState
  b0 = beside_after start before first

  abbrev pub on_row : Known
  on_row = OnRow g start records is_start before actor c plain started

  abbrev pub Made : Known
  Made = MadeStage g.block actor s0 c

  -- what the row and the new handle are, whatever stands beside
  abbrev pub Taken : Known
  Taken k s h r = on_row k s h r × Made k s h r

  abbrev pub X : PlainState → Known
  X b k s h r = Taken k s h r × Stands g.block actor s0 c b0 b k s h r

  abbrev pub E : PlainState → Telling
  E b x s h = (Unit {0} × Unit {0}) × Told g.block actor s0 c b0 b x s h

  abbrev UntoldTwice : Telling
  UntoldTwice x s h = Unit {0} × Unit {0}

  -- ---- at first

  pub begun_stands : (b : Beginning) → beginning c ≡ b → Stands g.block actor s0 c b0 b0 (begun b s0 c).next s0 empty_hand (begun b s0 c)
  begun_stands sequence.Numbers is = record { cells_are = refl; book_is = refl; plain_is = refl; records_are = refl }
  begun_stands sequence.Looks is = record { cells_are = refl; book_is = refl; plain_is = refl; records_are = refl }
  begun_stands sequence.Locks is = go (nat_lt 0 (length (slots_of s0 None nothing_looked c))) where
    go : (b : Bool) → Stands g.block actor s0 c b0 b0 (if b then Lock 0 else Check) s0 empty_hand (begun sequence.Locks s0 c)
    go true = record { cells_are = refl; book_is = refl; plain_is = refl; records_are = refl }
    go false = record { cells_are = refl; book_is = refl; plain_is = refl; records_are = refl }
  begun_stands sequence.Visits is = record { cells_are = refl; book_is = refl; plain_is = refl; records_are = refl }
  begun_stands (sequence.Maintains what) is = let clash : true ≡ false = sym (maintains_is c what is) ∙ plain in cc

  pub begun_made : (b : Beginning) → beginning c ≡ b → Made (begun b s0 c).next s0 empty_hand (begun b s0 c)
  begun_made sequence.Numbers is = (refl, refl, refl, refl, is)
  begun_made sequence.Looks is =
      record { call_is = refl; ino_is = ap (λ (b : Beginning). first_number b s0.pool.numbers) (sym is); made_is = λ none. refl }
  begun_made sequence.Locks is = go (nat_lt 0 (length (slots_of s0 None nothing_looked c))) where
    numbered : NumberedIn g.block actor s0 c empty_hand (begun sequence.Locks s0 c)
    numbered =
        record { call_is = refl; ino_is = ap (λ (b : Beginning). first_number b s0.pool.numbers) (sym is); made_is = λ none. refl }

    go : (b : Bool) → Made (if b then Lock 0 else Check) s0 empty_hand (begun sequence.Locks s0 c)
    go true = numbered
    go false = numbered
  begun_made other is = tt

  -- ---- step by step

  abbrev pub others : ℕ → Actor
  others b = actor_at (after start before) b

  module _ (events : List Event) (r : Running) (on : IsOn g start records is_start actor c plain others events r) where
    abbrev w : World
    w = after start events

    abbrev h : HandState
    h = (actor_at w actor).hand

    pub held : Before actor w.shared r.next r
    held = held_before w actor r (all_known g start records is_start events).reached.locks on.runs

    -- no drain goes on, so that all that is pending is deferred
    picks : (place : ℕ) → r.next ≡ Retire place → (b : ℕ) → picked_by_actor (actor_at w b) ≡ []
    picks place next b = go (b == actor) refl where
      go : (same : Bool) → (b == actor) ≡ same → picked_by_actor (actor_at w b) ≡ []
      go true e =
          ap (λ (n : ℕ). picked_by_actor (actor_at w n)) (eqb-true b actor e) ∙ ap picked_by_call on.runs
          ∙ ap (λ (k : Next). picked_at k) next
      go false e = ap picked_by_actor (on.stay b (eqb-false b actor e)) ∙ ap picked_by_call (rest b (eqb-false b actor e))

    pending_is : (place : ℕ) → r.next ≡ Retire place → pending_in w ≡ w.shared.book.deferred
    pending_is place next =
        ap (λ (ds : List Record). w.shared.book.deferred ++ ds) (none_of picked_by_actor w.actors (picks place next))
        ∙ append-nil w.shared.book.deferred

    erases : IsErasedOver r.next w.shared h r
    erases place next = (
      settled_all g w (all_known g start records is_start events) actor place r on.runs next,
      λ is. subst (λ (pending : List Record). IsOver pending w.shared (slot_at (written_slots r) place)) (pending_is place next)
          (erased_over g w (all_known g start records is_start events) actor place r on.runs next is),
    )

    is_fit : IsFit g.block actor s0 c b0 r.next w.shared h r
    is_fit = record {
      call_is = on.call_is;
      stage = on.told.stage;
      answers = on.going;
      rising = written_rise w actor r (all_known g start records is_start events).reached.locks on.runs;
      low = λ place lt. written_inside (length w.shared.cells) r place
          (subst (λ (n : ℕ). AreSlots n r.slots) held.wide held.are) lt;
      inside = held.inside;
      paged = hands_paged g start records events actor r is_start on.runs;
      erases = erases;
    }

    pub is_entering : (granted : Bool) (b : PlainState) → Taken r.next w.shared h r → r.next ≡ Enter
        → IsEntering g.block actor s0 c b0 b granted w.shared h r
    is_entering granted b stage next =
        let rely = relied g w (all_known g start records is_start events) actor r on.runs in
        let own : HandAt g r.next h r =
        (subst (λ (o : Option Running). HandOf g h o) on.runs ((all_numbers g start records events is_start).hands actor)).0 in
        let known = all_known g start records is_start events in
        let ready = subst (λ (k : Next). on_row k w.shared h r) next stage.0 in
        let many : length w.shared.owners ≡ length s0.cells = held.wide ∙ ap (λ (cs : List CellState). length cs) ready.same.cells_are in
        let fits : FitsAt Enter w.numbers.block w.shared h r =
        subst (λ (k : Next). FitsAt k w.numbers.block w.shared h r) next rely.fits in
        let slots_same : pages_wanted s0 (written_slots r) r.plan ≡ pages_wanted s0 r.slots r.plan =
        sum_filter (is_written r.plan) (pages_needed s0 r.plan) (none_needed s0 r.plan) r.slots in
        let wanted_same : pages_wanted w.shared r.slots r.plan ≡ pages_wanted s0 r.slots r.plan =
        ap (λ (cs : List CellState). let x : Shared = record s0 { cells = cs } in pages_wanted x r.slots r.plan) ready.same.cells_are in
        let paged : length h.pages ≡ pages_wanted w.shared r.slots r.plan =
        subst (λ (k : Next). HasLogPages k g.block w.shared h r) next (hands_paged g start records events actor r is_start on.runs) in
        let wants : ℕ = data_for g.block s0 c in
        let rest : List ℕ = row (length s0.lists) actor 0 (length s0.lists) w.shared.lists in
        record {
          planned = ready.planned;
          enough = omega (
            arith,
            slots_same,
            wanted_same,
            paged,
            ready.has,
            ap (λ (l : List ℕ). length l) ready.planned.pages_are,
            length-append (numbers_of h.pages) rest,
            length-map h.pages (λ (b : BlockValue). b.number),
            length-drop wants (row_at s0 actor),
          );
          made_is = subst (λ (k : Next). Made k w.shared h r) next stage.1;
          written = rely.written next (subst (λ (k : Next). decided.Stage k r.ending r.call) next on.told.stage);
          slots = record {
            rising = written_rise w actor r known.reached.locks on.runs;
            inside = subst (λ (n : ℕ). AllByRecursion (λ ino. ino < n) (written_slots r)) many
                (all_filter (λ ino. ino < length w.shared.owners) (is_written r.plan) r.slots held.are.inside);
            written = filter_passes (is_written r.plan) r.slots;
            others = are_written (bytes_in w.shared) w.numbers.block w.shared (is_read g w known) known.fit.sound r known.reached.kept.some fits.0
                (λ (fresh : List BlockValue). h.blocks ≡ fresh) fits.1;
          };
          killed = (subst (λ (k : Next). HandAt g k h r) next own).killed;
        }

    abbrev TurnsBy : GeometryNumbers → Bool → PlainState → Type 0
    TurnsBy x granted b =
        let t = turn x.block actor granted w.shared h r in
        let later = beside_then r.next w.shared h r t b in
        AfterBy (Stands g.block actor s0 c b0 later r.next w.shared h r) (KnowsNext (Stands g.block actor s0 c b0 later))
        (Told g.block actor s0 c b0 later) t

    pub keeps : (granted : Bool) (b : PlainState) → X b r.next w.shared h r → Turns X E actor b w.shared h r (turn_at w actor granted r)
    keeps granted b had =
        let t = turn_at w actor granted r in
        let later = beside_then r.next w.shared h r t b in
        let W = on_row r.next w.shared h r in
        let V = Made r.next w.shared h r in
        let numbers = (all_numbers g start records events is_start).numbers in
        both_by (W × V) (Stands g.block actor s0 c b0 later r.next w.shared h r) (KnowsNext Taken)
        (KnowsNext (Stands g.block actor s0 c b0 later)) UntoldTwice (Told g.block actor s0 c b0 later) t
        (both_by W V (KnowsNext on_row) (KnowsNext Made) Untold Untold t
        (after_by W (KnowsNext on_row) Untold t had.0.0
        (row_keeps g start records is_start before actor c plain started events granted r on had.0.0))
        (after_by V (KnowsNext Made) Untold t had.0.1
        (subst (λ (x : GeometryNumbers). OnMade g.block actor s0 c (turn x.block actor granted w.shared h r)) (sym numbers)
        (kind_made g.block actor s0 c granted w.shared h r r.next on.files cells_are on.going had.0.1))))
        (subst (λ (x : GeometryNumbers). TurnsBy x granted b) (sym numbers)
        (kind_stands g.block actor s0 c b0 b granted w.shared h r r.next on.files is_fit (is_entering granted b had.0) had.1)) where
          cells_are : r.next ≡ Check → w.shared.cells ≡ s0.cells
          cells_are next = (subst (λ (k : Next). on_row k w.shared h r) next had.0.0).same.cells_are

  -- ---- its last reply

  ended_told : (b : PlainState) (W : Type 0) (P : Going) (t : Turn) (w : World) (told : Answer) → AfterBy W P (E b) t
      → (turned t actor w).reply ≡ Done told
      → IsDone g.block actor s0 c b0 told b (turned t actor w).world.shared.cells (turned t actor w).world.shared.book
  ended_told b W P (Moves s h q) w told on e = cc
  ended_told b W P Waits w told on e = cc
  ended_told b W P (Ends (Ok found) s h) w told on e =
      let same : found ≡ told = cc in subst (λ (x : Answer). IsDone g.block actor s0 c b0 x b s.cells s.book) same on.1
  ended_told b W P (Ends (Err fault) s h) w told on e = cc

  ended_refused : (b : PlainState) (W : Type 0) (P : Going) (t : Turn) (w : World) (fault : Fault) → AfterBy W P (E b) t
      → (turned t actor w).reply ≡ Refused fault → UnchangedIn g.block actor s0 c b0 b (turned t actor w).world.shared
  ended_refused b W P (Moves s h q) w fault on e = cc
  ended_refused b W P Waits w fault on e = cc
  ended_refused b W P (Ends (Ok found) s h) w fault on e = cc
  ended_refused b W P (Ends (Err other) s h) w fault on e = on.1

  abbrev pub ran : List Bool → List Event
  ran grants = before ++ Start actor c ∷ goes actor grants

  module _ (grants : List Bool) (granted : Bool) (r : Running) (is : (actor_at (after start (ran grants)) actor).running ≡ Some r) where
    abbrev at_last : World
    at_last = after start (ran grants)

    abbrev before_last : PlainState
    before_last = beside_after start (ran grants) first

    abbrev pub at_end : World
    at_end = (step at_last (Go actor granted)).world

    abbrev pub end_beside : PlainState
    end_beside = beside_after start (ran grants ++ Go actor granted ∷ []) first

    there : actor < length at_last.actors
    there = runs_inside at_last actor r is

    abbrev t : Turn
    t = turn_at at_last actor granted r

    turned_is : step at_last (Go actor granted) ≡ turned t actor at_last
    turned_is = (goes_by_turn at_last actor granted r there is).is_turn

    abbrev turned_beside : PlainState
    turned_beside = beside_then r.next at_last.shared (actor_at at_last actor).hand r t before_last

    beside_is : end_beside ≡ turned_beside
    beside_is = beside_more (ran grants) start (Go actor granted) first ∙ beside_turned at_last actor granted r there is before_last

    all_turns : Turns X E actor before_last at_last.shared (actor_at at_last actor).hand r t
    all_turns =
        stands_then g start records is_start actor c plain others X E first (λ events granted r b on had. keeps events r on granted b had) before
        (λ b ne. refl) started (
          (begun_early s0 g.block actor c (some_lists g start records is_start before) (beginning c), begun_made (beginning c) refl),
          begun_stands (beginning c) refl,
        )
        grants granted r is

    -- ENDED WITH AN ANSWER it has made its whole commit, or had nothing to commit and has changed nothing
    pub alone_done : (told : Answer) → (step at_last (Go actor granted)).reply ≡ Done told
        → IsDone g.block actor s0 c b0 told end_beside at_end.shared.cells at_end.shared.book
    alone_done told e =
        subst (λ (b : PlainState). IsDone g.block actor s0 c b0 told b at_end.shared.cells at_end.shared.book) (sym beside_is)
        (subst (λ (x : Step). IsDone g.block actor s0 c b0 told turned_beside x.world.shared.cells x.world.shared.book) (sym turned_is)
        (ended_told turned_beside _ _ t at_last told all_turns (ap (λ (x : Step). x.reply) (sym turned_is) ∙ e)))

    -- REFUSED it has changed nothing
    pub alone_refused : (fault : Fault) → (step at_last (Go actor granted)).reply ≡ Refused fault
        → UnchangedIn g.block actor s0 c b0 end_beside at_end.shared
    alone_refused fault e =
        subst (λ (b : PlainState). UnchangedIn g.block actor s0 c b0 b at_end.shared) (sym beside_is)
        (subst (λ (x : Step). UnchangedIn g.block actor s0 c b0 turned_beside x.world.shared) (sym turned_is)
        (ended_refused turned_beside _ _ t at_last fault all_turns (ap (λ (x : Step). x.reply) (sym turned_is) ∙ e)))

    -- ---- nothing runs then

    idle_then : (x : Turn) (w : World) → actor < length w.actors → is_final (turned x actor w).reply ≡ true
        → (actor_at (turned x actor w).world actor).running ≡ None
    idle_then (Moves s h q) w lt final = absurd (false≢true final)
    idle_then Waits w lt final = absurd (false≢true final)
    idle_then (Ends (Ok found) s h) w lt final =
        ap (λ (x : Actor). x.running) (get_or-set_same w.actors actor (with_call h None) idle lt)
    idle_then (Ends (Err fault) s h) w lt final =
        ap (λ (x : Actor). x.running) (get_or-set_same w.actors actor (with_call h None) idle lt)

    pub rest_then : is_final (step at_last (Go actor granted)).reply ≡ true → IsAtRest at_end
    rest_then final b = go (b == actor) refl where
      on : IsOn g start records is_start actor c plain others (ran grants) r
      on =
          stands_on g start records is_start actor c plain others X E first (λ events granted r b on had. keeps events r on granted b had) before
          (λ b ne. refl) started (
            (begun_early s0 g.block actor c (some_lists g start records is_start before) (beginning c), begun_made (beginning c) refl),
            begun_stands (beginning c) refl,
          ) grants r is

      own : (actor_at at_end actor).running ≡ None
      own =
          subst (λ (x : Step). (actor_at x.world actor).running ≡ None) (sym turned_is)
          (idle_then t at_last there (ap (λ (x : Step). is_final x.reply) (sym turned_is) ∙ final))

      go : (same : Bool) → (b == actor) ≡ same → (actor_at at_end b).running ≡ None
      go true e = ap (λ (n : ℕ). (actor_at at_end n).running) (eqb-true b actor e) ∙ own
      go false e =
          let ne = eqb-false b actor e in
          ap (λ (x : Actor). x.running) (others_stay at_last b (Go actor granted) ne ∙ on.stay b ne) ∙ rest b ne
