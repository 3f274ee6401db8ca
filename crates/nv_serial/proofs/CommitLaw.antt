-- A call on files and directories that is made alone and answered: its answer and what it leaves are those of the world with
-- numbers; and refused it leaves that as it was.
use Rattle.std.proofs.Common.{◌≡◌, ◌∙◌, ℕ, nat_lt, ◌+◌, ◌++◌, Bool, true, false, List, [], ◌∷◌, None, Option, Some, ap, arith, inl, inr, length, map, refl, subst, sym}
use Rattle.std.specs.Prelude.{nat_le}
use Rattle.std.proofs.lemmas.Bool.{false≢true, le-leb, true≢false}
use Rattle.nv_base.specs.declared.fault.Fault.{Fault}
use Rattle.nv_base.specs.declared.geometry.GeometryNumbers.{GeometryNumbers}
use Rattle.nv_base.specs.declared.limits.TheConstants.{NUMBER}
use Rattle.nv_base.specs.declared.numbers.Handle.{Handle}
use Rattle.nv_book.specs.declared.record.Record.{Record}
use Rattle.nv_calls.specs.AllCalls.{answer, is_nothing}
use Rattle.nv_calls.specs.Plain.{PlainNode}
use Rattle.nv_calls.specs.Refusals.{Check as Tests}
use Rattle.nv_calls.specs.declared.answer.Answer.{Answer}
use Rattle.nv_calls.specs.declared.call.Call.{Call}
use Rattle.nv_calls.specs.declared.call.Call.TheVariants as call
use Rattle.nv_calls.specs.declared.plan.InodePlan.{InodePlan}
use Rattle.nv_entry.specs.Tree.{root}
use Rattle.nv_machine.specs.Alone.{IsAnsweredOn, goes}
use Rattle.nv_machine.specs.EndsDecided.{is_snapshot_or_cleaner}
use Rattle.nv_machine.specs.Needed.{IsAtRest}
use Rattle.nv_machine.specs.PlainRun.{plain_of}
use Rattle.nv_machine.specs.Recorded.{records_after}
use Rattle.nv_machine.specs.Sequence as sequence
use Rattle.nv_machine.specs.Sequence.{beginning}
use Rattle.nv_machine.specs.Settled.{settled_nodes}
use Rattle.nv_machine.specs.Starts.{IsStart}
use Rattle.nv_machine.specs.Step.{after, is_numbered, made_in, start_step, step}
use Rattle.nv_machine.specs.World.{Done, Event, Go, Refused, Running, Start, Started, World, actor_at}
use Rattle.nv_machine.proofs.AloneRuns.{told_alone}
use Rattle.nv_machine.proofs.CopiesAll.{after_one}
use Rattle.nv_machine.proofs.DecidedNext.{no_visit}
use Rattle.nv_machine.proofs.EndingsStay.{no_node_tells}
use Rattle.nv_machine.proofs.PlainOfRuns.{plain_is}
use Rattle.nv_machine.proofs.WorldSizes.{of_numbers}
use Rattle.nv_machine.proofs.WorldsAtRest.{start_again}
use Rattle.nv_serial.specs.Committed.{committed, needs}
use Rattle.nv_serial.specs.FileCalls.{commit_if, commit_with, fits, if_passes, log_pages_for, handle_for, makes_inode, on_files, pass, plan_for, wanted}
use Rattle.nv_serial.specs.Free.{pool_of, row_of}
use Rattle.nv_serial.specs.Law.{serial_after}
use Rattle.nv_serial.specs.OneCall.{of_call, serial_call}
use Rattle.nv_serial.specs.Row.{plan_by_row}
use Rattle.nv_serial.specs.Serial.{NumberedSlot, Outcome, Serial, told as told_outcome}
use Rattle.nv_serial.specs.Shown.{slot_told}
use Rattle.nv_serial.proofs.AloneStages.{PlainState, beside_after}
use Rattle.nv_serial.proofs.AtRestLists.{pool_is, row_is}
use Rattle.nv_serial.proofs.AtRestLogs.{slot_is, told_by}
use Rattle.nv_serial.proofs.AtRestNodes.{plan_is, wanted_is}
use Rattle.nv_serial.proofs.AtRestPlain.{serial_is}
use Rattle.nv_serial.proofs.CommitRuns.{alone_done, alone_refused, is_final, rest_then}
use Rattle.nv_serial.proofs.CommitSlots.{needs_are}
use Rattle.nv_serial.proofs.CommitStages.{IsAnswered, IsCommitted, IsDone, IsUnchanged}
use Rattle.nv_serial.proofs.CommitTold.{committed_told}
use Rattle.nv_serial.proofs.MadeTaken.{IsMade, first_number}

-- where nothing is committed no handle tells the answer
no_handle_tells : (nodes : Handle → Option PlainNode) (made other : Handle) (c : Call) → is_nothing c ≡ true
    → answer nodes made c ≡ answer nodes other c
no_handle_tells nodes made other (call.Create dir name mode) e = absurd (false≢true e)
no_handle_tells nodes made other (call.Mkdir dir name mode) e = absurd (false≢true e)
no_handle_tells nodes made other rest e = refl

-- ---- the new handle

module _ (g : GeometryNumbers) (w : World) (rs : List Record) (is : IsStart g w rs) (actor : ℕ) where
  abbrev at_first : Serial
  at_first = told_by g w rs

  -- the first of these numbers, with its slot's generation
  numbered : (numbers : List ℕ) (made : Handle) → made ≡ made_in w.shared (first_number sequence.Numbers numbers) root
      → is_numbered sequence.Numbers (first_number sequence.Numbers numbers) ≡ true → handle_for true numbers at_first ≡ Some made
  numbered [] made is_it there = absurd (false≢true there)
  numbered (ino ∷ numbers) made is_it there =
      ap (λ (slot : NumberedSlot). let x : Handle = record { ino = ino; generation = slot.generation } in Some x) (slot_is g w rs is ino)
      ∙ ap (λ (x : Handle). Some x) (sym is_it)

  pub made_is : (c : Call) (made : Handle) → IsMade g.block actor w.shared c made
      → handle_for (makes_inode c) (pool_of at_first) at_first ≡ Some made
  made_is c made new =
      ap (λ (ns : List ℕ). handle_for (makes_inode c) ns at_first) (sym (pool_is g w rs is)) ∙ go c new.made_is new.there where
        go : (c : Call) → made ≡ made_in w.shared (first_number (beginning c) w.shared.pool.numbers) root
            → is_numbered (beginning c) (first_number (beginning c) w.shared.pool.numbers) ≡ true
            → handle_for (makes_inode c) w.shared.pool.numbers at_first ≡ Some made
        go (call.Create dir name mode) is_it there = numbered w.shared.pool.numbers made is_it there
        go (call.Mkdir dir name mode) is_it there = numbered w.shared.pool.numbers made is_it there
        go other is_it there = ap (λ (x : Handle). Some x) (sym is_it)

-- ---- the law

module _ (g : GeometryNumbers) (start : World) (records : List Record) (is_start : IsStart g start records) (before : List Event)
    (at_rest : IsAtRest (after start before)) (actor : ℕ) (c : Call) (plain : is_snapshot_or_cleaner c ≡ false)
    (started : (step (after start before) (Start actor c)).reply ≡ Started) (grants : List Bool) (granted : Bool) (r : Running)
    (is : (actor_at (after start (before ++ Start actor c ∷ goes actor grants)) actor).running ≡ Some r) where
  abbrev ran : List Event
  ran = before ++ Start actor c ∷ goes actor grants

  abbrev pub events : List Event
  events = ran ++ Go actor granted ∷ []

  abbrev w0 : World
  w0 = after start before

  abbrev w1 : World
  w1 = after start events

  abbrev rs0 : List Record
  rs0 = records_after start before records

  is0 : IsStart g w0 rs0
  is0 = start_again g start records before is_start at_rest

  same_end : (step (after start ran) (Go actor granted)).world ≡ w1
  same_end = after_one ran start (Go actor granted)

  abbrev begin : PlainState
  begin = beside_after start before (record { records = records; plain = plain_of start })

  abbrev told_first : PlainState
  told_first = record { records = rs0; plain = plain_of w0 }

  same_begin : begin ≡ told_first
  same_begin = let plain_same = plain_is g start records before is_start in λ i. record { records = rs0; plain = plain_same i }

  abbrev end : PlainState
  end = beside_after start events (record { records = records; plain = plain_of start })

  abbrev s : Serial
  s = serial_after g start records before

  abbrev s_told : Serial
  s_told = told_by g w0 rs0

  abbrev t : Serial
  t = serial_after g start records events

  same_serial : s ≡ s_told
  same_serial = serial_is g start records before is_start

  -- ---- nothing has changed

  unchanged : IsUnchanged g.block actor w0.shared c begin (step (after start ran) (Go actor granted)).world.shared.cells
      (step (after start ran) (Go actor granted)).world.shared.book end.plain end.records → t ≡ s
  unchanged same =
      let cells : w1.shared.cells ≡ w0.shared.cells = ap (λ (w : World). w.shared.cells) (sym same_end) ∙ same.cells_are in
      let plain_same = same.plain_is in
      let records_same = same.records_are in
      λ i. record { numbers = g; plain = plain_same i; slots = map slot_told (cells i); records = records_same i }

  -- REFUSED: the world with numbers is as it was
  pub file_refused : (fault : Fault) → (step (after start ran) (Go actor granted)).reply ≡ Refused fault → t ≡ s
  file_refused fault e =
      unchanged (alone_refused g start records is_start before actor c plain started (λ b ne. at_rest b) grants granted r is fault e)

  -- ---- answered

  module _ (told : Answer) (e : (step (after start ran) (Go actor granted)).reply ≡ Done told) where
    abbrev told_it : Outcome
    told_it = record { reply = Done told; world = t }

    done : IsDone g.block actor w0.shared c begin told end w1.shared.cells w1.shared.book
    done =
        subst (λ (w : World). IsDone g.block actor w0.shared c begin told end w.shared.cells w.shared.book) same_end
        (alone_done g start records is_start before actor c plain started (λ b ne. at_rest b) grants granted r is told e)

    at_rest_then : IsAtRest w1
    at_rest_then =
        subst IsAtRest same_end
        (rest_then g start records is_start before actor c plain started (λ b ne. at_rest b) grants granted r is (ap is_final e))

    is1 : IsStart g w1 end.records
    is1 = start_again g start records events is_start at_rest_then

    abbrev nodes : Handle → Option PlainNode
    nodes = settled_nodes w0.shared

    on_nodes : IsAnsweredOn g.block nodes
        (settled_nodes (step (after start ran) (Go actor granted)).world.shared) c told
    on_nodes = told_alone g start records is_start actor c before started grants granted r told plain is e

    passed : on_files s_told actor c ≡ pass (is_nothing c) s_told actor c
    passed = ap (λ (tests : Tests). if_passes tests s_told actor c) on_nodes.passes_is

    -- with nothing to commit
    nothing_told : is_nothing c ≡ true → t ≡ s → pass (is_nothing c) s_told actor c ≡ told_it
    nothing_told nothing same =
        let a : answer nodes root c ≡ told = no_handle_tells nodes root on_nodes.made c nothing ∙ sym on_nodes.told_is in
        let w : s_told ≡ t = sym same_serial ∙ sym same in
        ap (λ (b : Bool). pass b s_told actor c) nothing
        ∙ (λ i. record { reply = Done (a i); world = w i })

    -- with a commit
    module _ (answered : IsAnswered g.block actor w0.shared c told_first told w1.shared.cells w1.shared.book end.plain end.records) where
      abbrev made : Handle
      made = answered.made

      abbrev commits : IsCommitted g.block actor w0.shared c told_first w1.shared.cells w1.shared.book end.plain end.records made
      commits = answered.commits

      abbrev plan : List InodePlan
      plan = plan_for s_told actor made c

      plan_same : plan_by_row g.block w0.shared actor c made ≡ plan
      plan_same = sym (plan_is g w0 rs0 is0 actor made c)

      fits_is : fits s_told actor made c ≡ true
      fits_is =
          let needs_same = needs_are g w0 rs0 is0 actor c told_first (plan_by_row g.block w0.shared actor c made) commits.slots commits.planned in
          le-leb (wanted s_told c + needs s_told plan) (length (row_of s_told actor))
          (omega (
            arith,
            commits.enough,
            needs_same,
            ap (λ (p : List InodePlan). needs s_told p) plan_same,
            wanted_is g w0 rs0 is0 c,
            ap (λ (l : List ℕ). length l) (row_is g w0 rs0 is0 actor),
          ))

      commit_told : pass (is_nothing c) s_told actor c ≡ told_it
      commit_told =
          let a : answer nodes made c ≡ told =
          no_node_tells nodes (λ handle. None) made c (no_visit c answered.some).0 ∙ sym answered.told in
          let w : committed s_told made c plan (log_pages_for s_told actor c) ≡ t =
          sym (committed_told g w0 rs0 is0 actor c w1 end is1 made commits) in
          ap (λ (b : Bool). pass b s_told actor c) answered.some
          ∙ ap (λ (o : Option Handle). commit_with o s_told actor c) (made_is g w0 rs0 is0 actor c made commits.made_is)
          ∙ ap (λ (b : Bool). commit_if b (nat_le NUMBER s_told.plain.commit) s_told actor made c) fits_is
          ∙ ap (λ (b : Bool). commit_if true b s_told actor made c) commits.limit
          ∙ (λ i. record { reply = Done (a i); world = w i })

    -- ANSWERED: the reply and the world after it are those of the world with numbers
    pub file_done : on_files s actor c ≡ told_it
    file_done =
        ap (λ (x : Serial). on_files x actor c) same_serial ∙ passed
        ∙ go (subst (λ (b : PlainState). IsDone g.block actor w0.shared c b told end w1.shared.cells w1.shared.book) same_begin done) where
          go : IsDone g.block actor w0.shared c told_first told end w1.shared.cells w1.shared.book
              → pass (is_nothing c) s_told actor c ≡ told_it
          go (inr answered) = commit_told answered
          go (inl nothing) =
              let same = nothing.1 in
              let cells = same.cells_are in
              let plain_same = same.plain_is in
              let records_same = same.records_are in
              let back : t ≡ s_told = λ i. record {
                numbers = g;
                plain = plain_same i;
                slots = map slot_told (cells i);
                records = records_same i;
              } in
              nothing_told nothing.0 (back ∙ sym same_serial)

-- ---- by the call of an actor that is there

of_files : (s : Serial) (actor : ℕ) (c : Call) → is_snapshot_or_cleaner c ≡ false → of_call s actor c ≡ on_files s actor c
of_files s actor (call.SnapshotOrCleaner what) e = absurd (true≢false e)
of_files s actor other e = refl

pub there_is : (s : Serial) (actor : ℕ) (c : Call) → nat_lt actor s.numbers.actors ≡ true → serial_call s actor c ≡ of_call s actor c
there_is s actor c e = rw e refl

has_started : (w : World) (actor : ℕ) (c : Call) (b : Bool) (running : Option Running) → (start_step b running actor c w).reply ≡ Started
    → b ≡ true
has_started w actor c false running e = cc
has_started w actor c true running e = refl

pub serial_files : (g : GeometryNumbers) (start : World) (records : List Record) (before : List Event) (actor : ℕ) (c : Call)
    → IsStart g start records → is_snapshot_or_cleaner c ≡ false → (step (after start before) (Start actor c)).reply ≡ Started
    → serial_call (serial_after g start records before) actor c ≡ on_files (serial_after g start records before) actor c
serial_files g start records before actor c is_start plain started =
    let w = after start before in
    let inside : nat_lt actor (length w.actors) ≡ true =
    has_started w actor c (nat_lt actor (length w.actors)) (actor_at w actor).running started in
    let many : length w.actors ≡ g.actors = (of_numbers g start records before is_start).actors in
    there_is (serial_after g start records before) actor c (ap (λ (n : ℕ). nat_lt actor n) (sym many) ∙ inside)
    ∙ of_files (serial_after g start records before) actor c plain

module _ (g : GeometryNumbers) (start : World) (records : List Record) (before : List Event) (actor : ℕ) (c : Call) (grants : List Bool)
    (granted : Bool) (r : Running) where
  abbrev run : List Event
  run = before ++ Start actor c ∷ goes actor grants

  rest_at : IsStart g start records → IsAtRest (after start before) → is_snapshot_or_cleaner c ≡ false
      → (step (after start before) (Start actor c)).reply ≡ Started → (actor_at (after start run) actor).running ≡ Some r
      → is_final (step (after start run) (Go actor granted)).reply ≡ true → IsAtRest (after start (run ++ Go actor granted ∷ []))
  rest_at is_start at_rest plain started is final =
      subst IsAtRest (after_one run start (Go actor granted))
      (rest_then g start records is_start before actor c plain started (λ b ne. at_rest b) grants granted r is final)

  pub file_calls_done : (found : Answer) → IsStart g start records → IsAtRest (after start before)
      → is_snapshot_or_cleaner c ≡ false → (step (after start before) (Start actor c)).reply ≡ Started
      → (actor_at (after start run) actor).running ≡ Some r → (step (after start run) (Go actor granted)).reply ≡ Done found
      → (serial_call (serial_after g start records before) actor c
      ≡ told_outcome found (serial_after g start records (run ++ Go actor granted ∷ [])))
      × IsAtRest (after start (run ++ Go actor granted ∷ []))
  file_calls_done found is_start at_rest plain started is e = (
    serial_files g start records before actor c is_start plain started
        ∙ file_done g start records is_start before at_rest actor c plain started grants granted r is found e,
    rest_at is_start at_rest plain started is (ap is_final e),
  )

  pub file_calls_refused : (fault : Fault) → IsStart g start records → IsAtRest (after start before)
      → is_snapshot_or_cleaner c ≡ false → (step (after start before) (Start actor c)).reply ≡ Started
      → (actor_at (after start run) actor).running ≡ Some r → (step (after start run) (Go actor granted)).reply ≡ Refused fault
      → (serial_after g start records (run ++ Go actor granted ∷ []) ≡ serial_after g start records before)
      × IsAtRest (after start (run ++ Go actor granted ∷ []))
  file_calls_refused fault is_start at_rest plain started is e = (
    file_refused g start records is_start before at_rest actor c plain started grants granted r is fault e,
    rest_at is_start at_rest plain started is (ap is_final e),
  )
