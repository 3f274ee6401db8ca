-- What holds before each step of a cleaner that is made alone, and what it is told at its last one: what the world with numbers
-- says.
use Rattle.std.proofs.Common.{◌≡◌, ◌∙◌, ℕ, suc, ◌+◌, ◌<◌, ◌≤◌, ◌++◌, Bool, true, false, List, [], None, Option, Some, ap, arith, if◌then◌else◌, inl, inr, length, map, nat_le, refl, slice_set, subst, sym, take}
use Rattle.std.specs.Prelude.{Err, Ok, Result, unwrap_or}
use Rattle.std.proofs.lemmas.Bool.{le-leb, lt-leb, ltb-true}
use Rattle.std.proofs.lemmas.Option.{none-some}
use Rattle.nv_alloc.specs.Block.{numbers_of}
use Rattle.nv_alloc.specs.FreeList.{FreeBlocks}
use Rattle.nv_base.specs.Memory.{out_of_memory}
use Rattle.nv_base.specs.declared.fault.Fault.{Fault}
use Rattle.nv_base.specs.declared.fault.Fault.TheVariants.{NoSpace, Stale}
use Rattle.nv_base.specs.declared.geometry.GeometryNumbers.{GeometryNumbers}
use Rattle.nv_book.specs.declared.record.Record.{Record}
use Rattle.nv_calls.specs.declared.answer.Answer.{Answer}
use Rattle.nv_calls.specs.declared.answer.Answer.TheVariants as answers
use Rattle.nv_calls.specs.declared.call.Call.{Call}
use Rattle.nv_cell.specs.Cell.{CellState}
use Rattle.nv_cell.specs.Readers.{has_inode}
use Rattle.nv_clean.specs.Cleaned.{answer_of}
use Rattle.nv_clean.specs.Plans.{wanted_of}
use Rattle.nv_machine.specs.CleanerAnswers.{cleaner}
use Rattle.nv_machine.specs.Cleaning.{compacted_cell, is_thorough, unlinked}
use Rattle.nv_machine.specs.Kinds.{blocks_in, result_by, with_given}
use Rattle.nv_machine.specs.Reads.{home_from, slot_at}
use Rattle.nv_machine.specs.Starts.{IsStart}
use Rattle.nv_machine.specs.Step.{kind_turn, reply_of}
use Rattle.nv_machine.specs.World.{Auto, Cleans, Compact, Done, Ending, Fast, Fresh, Give, HandState, PlanCleaning, LockCleaned, SnapshotOrCleaner, SnapshotOrCleanerStep, Manner, Next, Refuses, Running, Shared, Thorough, Turn, Unlink, Unlock, World, cell_at, owner_at, with_cell, with_owner}
use Rattle.nv_machine.proofs.CleanSteps.{compact_chain, unlink_chain}
use Rattle.nv_machine.proofs.SnapshotOrCleanerWalk.{Planned, step_walk_by}
use Rattle.nv_machine.proofs.StepWalk.{refused_goes, walk_by}
use Rattle.nv_machine.proofs.StepWays.{AfterBy, EndsBy, Going, Overs, Rests, Telling}
use Rattle.nv_machine.proofs.StepWork.{snapshot_or_cleaner_work}
use Rattle.nv_serial.specs.Cleaning.{cleaned, entries_staying, fast, pages_filled, pages_staying, thorough, thorough_if}
use Rattle.nv_serial.specs.Free.{row_of}
use Rattle.nv_serial.specs.Law.{IsOutcome, grows_nothing}
use Rattle.nv_serial.specs.LogPages.{Page, fresh, with_all}
use Rattle.nv_serial.specs.OneCall.{serial_call}
use Rattle.nv_serial.specs.Row.{row, row_at}
use Rattle.nv_serial.specs.Serial.{Outcome, Serial, refused}
use Rattle.nv_serial.specs.Shown.{slot_told}
use Rattle.nv_serial.proofs.AtRestLists.{row_is}
use Rattle.nv_serial.proofs.AtRestLogs.{told_by}
use Rattle.nv_serial.proofs.CleanAtRest.{by_drop, by_inode, chosen, chosen_is, compact_told, none_past, pages_is, reply_told, some_go, unlink_told, world_told}
use Rattle.nv_serial.proofs.CleanTakings.{IsTaking, all_taken, more_taken, row_short}

grows : (m : Manner) (ino : ℕ) → grows_nothing (cleaner m ino) ≡ false
grows Fast ino = refl
grows Thorough ino = refl
grows Auto ino = refl

module _ (g : GeometryNumbers) (w : World) (rs : List Record) (is : IsStart g w rs) (actor : ℕ) (there : actor < g.actors)
    (manner : Manner) (ino : ℕ) where
  abbrev pub old : Serial
  old = told_by g w rs

  abbrev pub call : Call
  call = cleaner manner ino

  abbrev pub made : Outcome
  made = serial_call old actor call

  -- the world with numbers of these cells
  abbrev pub behind : Shared → Serial
  behind s = record old { slots = map slot_told s.cells }

  -- ---- what it is told

  abbrev pub IsTold : Result Answer Fault → Shared → Type 0
  IsTold x s = IsOutcome call old made (reply_of x) (behind s)

  abbrev pub IsEnd : Ending → Shared → Type 0
  IsEnd (Refuses fault) s = IsTold (Err fault) s
  IsEnd (Cleans d) s = IsTold (Ok (answers.Cleaned d.thorough d.entries d.pages)) s
  IsEnd other s = ⊥

  as_before : (s : Shared) → s.cells ≡ w.shared.cells → behind s ≡ old
  as_before s same = ap (λ (cells : List CellState). let t : Serial = record old { slots = map slot_told cells } in t) same

  refused_told : (s : Shared) (fault : Fault) → s.cells ≡ w.shared.cells → made ≡ refused fault old → IsTold (Err fault) s
  refused_told s fault same e =
      inl (sym (ap (λ (o : Outcome). o.reply) e), as_before s same ∙ sym (ap (λ (o : Outcome). o.world) e))

  memory_told : (s : Shared) → s.cells ≡ w.shared.cells → IsTold (Err out_of_memory) s
  memory_told s same = inr (grows manner ino, refl, as_before s same)

  -- other locks and lists change nothing of it
  end_same : (e : Ending) (s t : Shared) → t.cells ≡ s.cells → IsEnd e s → IsEnd e t
  end_same (Refuses fault) s t same end =
      subst (λ (cells : List CellState). IsTold (Err fault) (record w.shared { cells = cells })) (sym same) end
  end_same (Cleans d) s t same end =
      subst (λ (cells : List CellState). IsTold (Ok (answers.Cleaned d.thorough d.entries d.pages)) (record w.shared { cells = cells }))
      (sym same) end
  end_same other s t same end = absurd end

  -- ---- what it has done before each step

  -- nothing yet
  pub record IsBare (s : Shared) (h : HandState) : Type 0 where
    pub cells_are : s.cells ≡ w.shared.cells
    pub lists_are : s.lists ≡ w.shared.lists
    pub pages_are : h.pages ≡ []

  abbrev cpus : ℕ
  cpus = length w.shared.lists

  abbrev all : List ℕ
  all = row_at w.shared actor

  abbrev filled : ℕ
  filled = pages_filled old ino

  -- it has fresh pages from so many lists
  pub record IsAsking (asked wanted : ℕ) (s : Shared) (h : HandState) : Type 0 where
    pub cells_are : s.cells ≡ w.shared.cells
    pub taking : IsTaking cpus actor filled all asked wanted s.lists h.pages
    pub says : made ≡ thorough_if true (nat_le filled (length (row_of old actor))) old actor ino

  -- it has all of them
  pub record IsFilled (s : Shared) (h : HandState) : Type 0 where
    pub cells_are : s.cells ≡ w.shared.cells
    pub numbers_are : numbers_of h.pages ≡ take filled (row_of old actor)
    pub many : length h.pages ≡ filled
    pub says : made ≡ thorough_if true true old actor ino

  abbrev pub StageOn : SnapshotOrCleanerStep → Shared → HandState → Type 0
  StageOn (LockCleaned m slot) s h = (m ≡ manner) × (slot ≡ ino) × (ino < g.inodes) × IsBare s h × (owner_at s ino ≡ None)
  StageOn (PlanCleaning m None) s h = (m ≡ manner) × (g.inodes ≤ ino) × IsBare s h
  StageOn (PlanCleaning m (Some slot)) s h = (m ≡ manner) × (slot ≡ ino) × (ino < g.inodes) × IsBare s h
  StageOn (Fresh slot asked wanted) s h = (slot ≡ ino) × (ino < g.inodes) × (asked < cpus) × IsAsking asked wanted s h
  StageOn (Unlink slot) s h = (slot ≡ ino) × (ino < g.inodes) × (s.cells ≡ w.shared.cells) × (made ≡ fast old ino)
  StageOn (Compact slot) s h = (slot ≡ ino) × (ino < g.inodes) × IsFilled s h
  StageOn other s h = ⊥

  abbrev pub StageBy : Next → Ending → Shared → HandState → Type 0
  StageBy (SnapshotOrCleaner step) e s h = StageOn step s h
  StageBy (Unlock place) e s h = IsEnd e s
  StageBy (Give cpu) e s h = IsEnd e s
  StageBy other e s h = ⊥

  pub record Stands (s : Shared) (h : HandState) (r : Running) : Type 0 where
    pub by : StageBy r.next r.ending s h
    pub number : h.ino ≡ None

  abbrev pub Goes : Going
  Goes s h r = Stands s h r

  abbrev pub Tells : Telling
  Tells x s h = IsTold x s

  -- a step does not wait
  abbrev pub OnTurn : Turn → Type 0
  OnTurn t = AfterBy ⊥ Goes Tells t

  -- ---- the last steps

  end_told : (e : Ending) (q : Running) (s : Shared) → IsEnd e s → IsTold (result_by e q) s
  end_told (Refuses fault) q s end = end
  end_told (Cleans d) q s end = end
  end_told other q s end = absurd end

  module _ {s : Shared} {h : HandState} {q : Running} {e : Ending} (number : h.ino ≡ None) (end : IsEnd e s) where
    rests : (home : Option ℕ) → Rests Goes Tells home s h q e
    rests home = record {
      give = λ cpu at. record { by = end; number = number };
      back = λ n none has_it. absurd (none-some n (sym number ∙ has_it));
      lasts = λ none no. record {
        told = λ full. end_told e q s end;
        picks = λ d left drains more. absurd (subst (λ (y : Ending). IsEnd y s) drains end);
      };
    }

    overs : Overs Goes Tells s h q e
    overs = record {
      again = λ n over more. absurd (subst (λ (y : Ending). IsEnd y s) over end);
      contended = λ over none. absurd (subst (λ (y : Ending). IsEnd y s) over end);
      rests = λ apart. rests (home_from 0 0 s.lists (blocks_in h));
    }

    ends : {locked : List ℕ} → EndsBy Goes Tells locked s h q e
    ends = record { unlock = λ locked. record { by = end; number = number }; overs = λ free. overs }

  -- ---- each step

  module _ (block : ℕ) (s : Shared) (h : HandState) (r : Running) (number : h.ino ≡ None) where
    abbrev pub OnStep : SnapshotOrCleanerStep → Bool → Type 0
    OnStep step granted = OnTurn (kind_turn (SnapshotOrCleaner step) block actor granted s h r)

    lock_on : (granted : Bool) → ino < g.inodes → IsBare s h → owner_at s ino ≡ None → OnStep (LockCleaned manner ino) granted
    lock_on granted inside bare free =
        step_walk_by ⊥ Goes Tells actor s h r (LockCleaned manner ino) granted
        (λ blocked. none-some blocked.0 (sym free ∙ blocked.1))
        (λ clear. record {
          by = (refl, refl, inside, record { cells_are = bare.cells_are; lists_are = bare.lists_are; pages_are = bare.pages_are });
          number = number;
        })

    -- ---- its planning

    plan_cleaning_none : (granted : Bool) → g.inodes ≤ ino → IsBare s h → OnStep (PlanCleaning manner None) granted
    plan_cleaning_none granted past bare =
        refused_goes ⊥ Goes Tells Stale s h r (ends number (refused_told s Stale bare.cells_are (none_past g w rs is actor ino manner there past)))

    module _ (inside : ino < g.inodes) (bare : IsBare s h) where
      cell_is : cell_at s ino ≡ cell_at w.shared ino
      cell_is = ap (λ (cells : List CellState). cell_at (record w.shared { cells = cells }) ino) bare.cells_are

      -- what the world with numbers says, by what is found here
      inode_here : (b : Bool) → has_inode (cell_at s ino) ≡ b
          → made ≡ (if b then chosen g w rs is actor ino manner else refused Stale old)
      inode_here b e = by_inode g w rs is actor ino inside manner b there (ap has_inode (sym cell_is) ∙ e)

      module _ (has : has_inode (cell_at s ino) ≡ true) where
        by_manner : (b : Bool) → is_thorough manner (cell_at s ino) ≡ b
            → made ≡ (if b then thorough old actor ino else fast old ino)
        by_manner b e =
            inode_here true has
            ∙ chosen_is g w rs is actor ino inside manner b (ap (is_thorough manner) (sym cell_is) ∙ e)

        drop_here : (n : ℕ) → (wanted_of (cell_at s ino)).dropped ≡ n
            → thorough old actor ino ≡ thorough_if (some_go n) (nat_le filled (length (row_of old actor))) old actor ino
        drop_here n e =
            by_drop g w rs is actor ino inside n (ap (λ (c : CellState). (wanted_of c).dropped) (sym cell_is) ∙ e)

        asking : (n : ℕ) → is_thorough manner (cell_at s ino) ≡ true → (wanted_of (cell_at s ino)).dropped ≡ suc n
            → IsAsking 0 (wanted_of (cell_at s ino)).pages s h
        asking n way some =
            let pages : (wanted_of (cell_at s ino)).pages ≡ filled =
            ap (λ (c : CellState). (wanted_of c).pages) cell_is ∙ pages_is g w rs is ino inside in
            let none : length h.pages ≡ 0 = ap (λ (bs : List _). length bs) bare.pages_are in
            record {
              cells_are = bare.cells_are;
              taking = record {
                many = ap (λ (ls : List FreeBlocks). length ls) bare.lists_are;
                taken = ap (λ (bs : List _). numbers_of bs ++ row cpus actor 0 cpus s.lists) bare.pages_are
                    ∙ ap (λ (ls : List FreeBlocks). row cpus actor 0 cpus ls) bare.lists_are;
                past = refl;
                count = omega (arith, none, pages);
              };
              says = by_manner true way ∙ drop_here (suc n) some;
            }

        nothing_goes : is_thorough manner (cell_at s ino) ≡ true → (wanted_of (cell_at s ino)).dropped ≡ 0
            → IsTold (Ok (answers.Cleaned true 0 0)) s
        nothing_goes way none =
            let e = by_manner true way ∙ drop_here 0 none in
            inl (sym (ap (λ (o : Outcome). o.reply) e), as_before s bare.cells_are ∙ sym (ap (λ (o : Outcome). o.world) e))

        planned : Planned Goes Tells manner ino s h r
        planned = record {
          fast = λ plain. record { by = (refl, inside, bare.cells_are, by_manner false plain); number = number };
          some = λ n way more. record {
            by = (refl, inside, omega (arith, is.limits.some_cpus, is.lists.cpus), asking n way more);
            number = number;
          };
          none = λ way less. ends number (nothing_goes way less);
        }

      plan_cleaning_slot : (granted : Bool) → OnStep (PlanCleaning manner (Some ino)) granted
      plan_cleaning_slot granted =
          step_walk_by ⊥ Goes Tells actor s h r (PlanCleaning manner (Some ino)) granted (λ blocked. blocked) (
            λ none. ends number (refused_told s Stale bare.cells_are (inode_here false none)),
            λ some lacks. ends number (memory_told s bare.cells_are),
            λ slot same has.
                let e : ino ≡ slot = ap (λ (o : Option ℕ). unwrap_or o 0) same in
                subst (λ (i : ℕ). Planned Goes Tells manner i s h r) e
                (planned (subst (λ (i : ℕ). has_inode (cell_at s i) ≡ true) (sym e) has)),
          )

    -- ---- fresh pages

    fresh_on : (granted : Bool) (asked wanted : ℕ) → ino < g.inodes → asked < cpus → IsAsking asked wanted s h
        → OnStep (Fresh ino asked wanted) granted
    fresh_on granted asked wanted inside few on =
        let length_row : length all ≡ length (row_of old actor) = ap (λ (ns : List ℕ). length ns) (row_is g w rs is actor) in
        step_walk_by ⊥ Goes Tells actor s h r (Fresh ino asked wanted) granted (λ blocked. blocked) (record {
          ready = λ enough.
              let took = all_taken cpus actor filled all asked wanted s.lists h.pages on.taking few enough in
              let fits = took.2 in
              record {
                by = (
                  refl,
                  inside,
                  record {
                    cells_are = on.cells_are;
                    numbers_are = took.0 ∙ ap (take filled) (row_is g w rs is actor);
                    many = took.1;
                    says = on.says ∙ ap (λ (b : Bool). thorough_if true b old actor ino)
                        (le-leb filled (length (row_of old actor)) (omega (arith, fits, length_row)));
                  },
                );
                number = number;
              };
          more = λ n yet another.
              let below = ltb-true (asked + 1) (length s.lists) another in
              let many = on.taking.many in
              record {
                by = (
                  refl,
                  inside,
                  omega (arith, below, many),
                  record {
                    cells_are = on.cells_are;
                    taking = more_taken cpus actor filled all asked wanted s.lists h.pages on.taking few n yet;
                    says = on.says;
                  },
                );
                number = number;
              };
          short = λ n yet last.
              let less = row_short cpus actor filled all asked wanted s.lists h.pages on.taking few n yet last in
              ends number (refused_told (snapshot_or_cleaner_work (Fresh ino asked wanted) actor s h).shared NoSpace on.cells_are
              (on.says ∙ ap (λ (b : Bool). thorough_if true b old actor ino)
              (lt-leb filled (length (row_of old actor)) (omega (arith, less, length_row)))));
        })

    -- ---- a clean step

    module _ (inside : ino < g.inodes) (same : s.cells ≡ w.shared.cells) where
      here : cell_at s ino ≡ cell_at w.shared ino
      here = ap (λ (cells : List CellState). cell_at (record w.shared { cells = cells }) ino) same

      cleaned_told : (way : Bool) (new : CellState) (pages : List Page) → made ≡ cleaned way old ino pages
          → (Done (let c = answer_of way (cell_at w.shared ino) new in answers.Cleaned c.thorough c.entries c.pages) ≡ (cleaned way old ino pages).reply)
          → (record old { slots = map slot_told (slice_set w.shared.cells ino new) } ≡ (cleaned way old ino pages).world)
          → IsEnd (Cleans (answer_of way (cell_at s ino) new)) (with_cell ino new s)
      cleaned_told way new pages e reply world =
          inl (
            ap (λ (c : CellState). Done (let d = answer_of way c new in answers.Cleaned d.thorough d.entries d.pages)) here
                ∙ reply ∙ sym (ap (λ (o : Outcome). o.reply) e),
            ap (λ (cells : List CellState). let t : Serial = record old { slots = map slot_told (slice_set cells ino new) } in t) same
                ∙ world ∙ sym (ap (λ (o : Outcome). o.world) e),
          )

      unlink_on : (granted : Bool) → made ≡ fast old ino → OnStep (Unlink ino) granted
      unlink_on granted e =
          let cell = cell_at w.shared ino in
          let new = unlinked cell in
          let chain = unlink_chain cell (is.cells ino inside) in
          let slot = unlink_told g w rs is ino inside in
          step_walk_by ⊥ Goes Tells actor s h r (Unlink ino) granted (λ blocked. blocked)
          (ends number (subst (λ (c : CellState). IsEnd (Cleans (answer_of false (cell_at s ino) c)) (with_cell ino c s))
          (ap unlinked (sym here))
          (cleaned_told false new (pages_staying old ino) e
          (reply_told g w rs is ino inside false new (pages_staying old ino) chain slot)
          (world_told g w rs is ino inside false new (pages_staying old ino) chain slot))))

      compact_on : (granted : Bool) → IsFilled s h → OnStep (Compact ino) granted
      compact_on granted on =
          let cell = cell_at w.shared ino in
          let new = compacted_cell h cell in
          let chain = compact_chain cell (is.cells ino inside) h (on.many ∙ sym (pages_is g w rs is ino inside)) in
          let pages : List Page = with_all g.page (entries_staying old ino) (fresh (numbers_of h.pages)) in
          let slot = compact_told g w rs is ino inside h on.many in
          step_walk_by ⊥ Goes Tells actor s h r (Compact ino) granted (λ blocked. blocked)
          (ends number (subst (λ (c : CellState). IsEnd (Cleans (answer_of true (cell_at s ino) c)) (with_cell ino c s))
          (ap (compacted_cell h) (sym here))
          (cleaned_told true new pages
          (on.says ∙ ap (λ (ns : List ℕ). cleaned true old ino (with_all g.page (entries_staying old ino) (fresh ns))) (sym on.numbers_are))
          (reply_told g w rs is ino inside true new pages chain slot)
          (world_told g w rs is ino inside true new pages chain slot))))

    -- ---- every step

    maintained : (step : SnapshotOrCleanerStep) (granted : Bool) → StageOn step s h → OnStep step granted
    maintained (LockCleaned m slot) granted on =
        subst (λ (n : Manner). OnStep (LockCleaned n slot) granted) (sym on.0)
        (subst (λ (i : ℕ). OnStep (LockCleaned manner i) granted) (sym on.1) (lock_on granted on.2 on.3 on.4))
    maintained (PlanCleaning m None) granted on =
        subst (λ (n : Manner). OnStep (PlanCleaning n None) granted) (sym on.0) (plan_cleaning_none granted on.1 on.2)
    maintained (PlanCleaning m (Some slot)) granted on =
        subst (λ (n : Manner). OnStep (PlanCleaning n (Some slot)) granted) (sym on.0)
        (subst (λ (i : ℕ). OnStep (PlanCleaning manner (Some i)) granted) (sym on.1) (plan_cleaning_slot on.2 on.3 granted))
    maintained (Fresh slot asked wanted) granted on =
        subst (λ (i : ℕ). OnStep (Fresh i asked wanted) granted) (sym on.0) (fresh_on granted asked wanted on.1 on.2 on.3)
    maintained (Unlink slot) granted on = subst (λ (i : ℕ). OnStep (Unlink i) granted) (sym on.0) (unlink_on on.1 on.2 granted on.3)
    maintained (Compact slot) granted on =
        subst (λ (i : ℕ). OnStep (Compact i) granted) (sym on.0) (compact_on on.1 on.2.cells_are granted on.2)
    maintained other granted on = absurd on

    kind_on : (k : Next) (granted : Bool) → StageBy k r.ending s h → OnTurn (kind_turn k block actor granted s h r)
    kind_on (SnapshotOrCleaner step) granted on = maintained step granted on
    kind_on (Unlock place) granted on =
        let end : IsEnd r.ending (with_owner (slot_at r.slots place) None s) =
        end_same r.ending s (with_owner (slot_at r.slots place) None s) refl on in
        walk_by ⊥ Goes Tells block actor s h r (Unlock place) granted (λ blocked. blocked) (
          λ more. record { by = end; number = number },
          λ past. overs number end,
        ) refl
    kind_on (Give cpu) granted on =
        walk_by ⊥ Goes Tells block actor s h r (Give cpu) granted (λ blocked. blocked)
        (rests number (end_same r.ending s (with_given cpu h s) refl on) _) refl
    kind_on other granted on = absurd on

    -- EVERY STEP
    pub step_on : (granted : Bool) → Stands s h r → OnTurn (kind_turn r.next block actor granted s h r)
    step_on granted on = kind_on r.next granted on.by
