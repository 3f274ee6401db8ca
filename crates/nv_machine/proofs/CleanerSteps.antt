-- What one step of a cleaner adds to its work, and so what the cleaner is answered or refused for.
use Rattle.std.proofs.Common.{◌≡◌, ◌∙◌, ℕ, ◌+◌, ◌*◌, ◌==◌, ◌<◌, ◌≤◌, ◌++◌, ◌&&◌, Bool, true, false, List, [], ◌∷◌, None, Option, Some, ap, arith, get_or-set_same, length, length-set, nat_lt, refl, subst, sym}
use Rattle.std.specs.Prelude.{Err, Ok, Result, unwrap_or}
use Rattle.std.proofs.Math.Dec.{eqb-suc-zero}
use Rattle.std.proofs.lemmas.Bool.{and_from, and_parts, false≢true, ltb-false, ltb-true}
use Rattle.std.proofs.lemmas.List.{get_or_past}
use Rattle.std.proofs.lemmas.Option.{none-some}
use Rattle.nv_alloc.specs.FreeList.{FreeBlocks}
use Rattle.nv_base.specs.Memory.{out_of_memory}
use Rattle.nv_base.specs.declared.fault.Fault.{Fault}
use Rattle.nv_base.specs.declared.fault.Fault.TheVariants.{Stale}
use Rattle.nv_calls.specs.declared.answer.Answer.{Answer}
use Rattle.nv_calls.specs.declared.answer.Answer.TheVariants as answers
use Rattle.nv_cell.specs.Cell.{CellState}
use Rattle.nv_clean.specs.Cleaned.{answer_of}
use Rattle.nv_clean.specs.Plans.{wanted_of}
use Rattle.nv_machine.specs.CleanerAnswers.{IsCleanedBy, IsRefusedInOrder, CleanerWork, asks_at, by_entries, cleans_at, fault_by, goes_none, is_passed, walked_cell, plannings_at, with_made}
use Rattle.nv_machine.specs.Cleaning.{compacted_cell, inode_turn, is_thorough, unlinked}
use Rattle.nv_machine.specs.Kinds.{blocks_in, result_by, with_given}
use Rattle.nv_machine.specs.OwnSteps.{OwnStep}
use Rattle.nv_cell.specs.Readers.{has_inode}
use Rattle.nv_machine.specs.Reads.{home_from, slot_at}
use Rattle.nv_machine.specs.Step.{kind_turn}
use Rattle.nv_machine.specs.World.{Cleans, Compact, Ending, Fresh, Give, HandState, PlanCleaning, LockCleaned, SnapshotOrCleaner, SnapshotOrCleanerStep, Manner, Next, Refuses, Running, Shared, Thorough, Fast, Auto, Turn, Unlink, Unlock, actor_at, cell_at, no_cell, with_cell, with_owner}
use Rattle.nv_machine.proofs.SnapshotOrCleanerWalk.{Planned, step_walk_by}
use Rattle.nv_machine.proofs.SlotBounds.{home_from-above}
use Rattle.nv_machine.proofs.StepWalk.{refused_goes, walk_of}
use Rattle.nv_machine.proofs.StepWays.{After, EndsBy, Going, Lasts, Overs, Rests, Telling}
use Rattle.nv_machine.proofs.StepWork.{snapshot_or_cleaner_work}

-- ---- what has been done before each step

-- nothing but so many steps
pub record IsBare (n : ℕ) (work : CleanerWork) : Type 0 where
  pub made : work.made ≡ n
  pub plannings : work.plannings ≡ []
  pub asked : work.asked ≡ 0
  pub cleans : work.cleans ≡ []
  pub entries : work.entries ≡ 0
  pub pages : work.pages ≡ 0

-- a planning has passed it and found something to do, entry by entry or not; each step since has asked one list
pub record IsOn (manner : Manner) (ino : ℕ) (thorough : Bool) (work : CleanerWork) : Type 0 where
  pub planning : OwnStep
  pub planned : work.plannings ≡ planning ∷ []
  pub passed : is_passed ino planning ≡ true
  pub goes_by : by_entries manner (walked_cell ino planning) ≡ thorough
  pub some : goes_none manner (walked_cell ino planning) ≡ false
  pub made : work.made ≡ 2 + work.asked
  pub cleans : work.cleans ≡ []
  pub entries : work.entries ≡ 0
  pub pages : work.pages ≡ 0

-- nothing but the number of steps is another
pub record IsSame (before after : CleanerWork) : Type 0 where
  pub plannings : after.plannings ≡ before.plannings
  pub asked : after.asked ≡ before.asked
  pub cleans : after.cleans ≡ before.cleans
  pub entries : after.entries ≡ before.entries
  pub pages : after.pages ≡ before.pages

told_as : {a b : Bool} {m n k l : ℕ} → a ≡ b → m ≡ n → k ≡ l → answers.Cleaned a m k ≡ answers.Cleaned b n l
told_as e f g = cc

-- where there are so many slots and lists
module _ (manner : Manner) (ino cells lists : ℕ) where
  abbrev pub StandsOn : SnapshotOrCleanerStep → CleanerWork → Type 0
  StandsOn (LockCleaned m slot) work = (m ≡ manner) × (slot ≡ ino) × (ino < cells) × IsBare 0 work
  StandsOn (PlanCleaning m None) work = (m ≡ manner) × (cells ≤ ino) × IsBare 0 work
  StandsOn (PlanCleaning m (Some slot)) work = (m ≡ manner) × (slot ≡ ino) × (ino < cells) × IsBare 1 work
  StandsOn (Fresh slot asked wanted) work =
      (slot ≡ ino) × (ino < cells) × (work.asked ≡ asked) × (asked < lists) × IsOn manner ino true work
  StandsOn (Unlink slot) work = (slot ≡ ino) × (ino < cells) × (work.asked ≡ 0) × IsOn manner ino false work
  StandsOn (Compact slot) work = (slot ≡ ino) × (ino < cells) × (work.asked ≤ lists) × IsOn manner ino true work
  StandsOn other work = ⊥

  -- how it is to end
  abbrev pub IsEnd : Ending → CleanerWork → Type 0
  IsEnd (Refuses fault) work = IsRefusedInOrder ino lists work fault
  IsEnd (Cleans c) work = IsCleanedBy manner ino work (answers.Cleaned c.thorough c.entries c.pages)
  IsEnd other work = ⊥

  abbrev pub StandsBy : Next → Ending → CleanerWork → Type 0
  StandsBy (SnapshotOrCleaner step) e work = StandsOn step work
  StandsBy (Unlock place) e work = IsEnd e work × (work.made ≤ 3 + lists)
  StandsBy (Give cpu) e work = IsEnd e work × (cpu < lists) × (work.made ≤ 4 + lists + cpu)
  StandsBy other e work = ⊥

  pub record Stands (h : HandState) (r : Running) (work : CleanerWork) : Type 0 where
    pub by : StandsBy r.next r.ending work
    pub slots : length r.slots ≤ 1
    pub number : h.ino ≡ None

  -- what it is told
  abbrev pub IsTold : Result Answer Fault → CleanerWork → Type 0
  IsTold (Ok told) work = IsCleanedBy manner ino work told × (work.made ≤ 4 + 2 * lists)
  IsTold (Err fault) work = IsRefusedInOrder ino lists work fault × (work.made ≤ 4 + 2 * lists)

  same_end : (e : Ending) (a b : CleanerWork) → IsSame a b → IsEnd e a → IsEnd e b
  same_end (Refuses fault) a b same was = record {
    planning = was.planning;
    planned = same.plannings ∙ was.planned;
    is = was.is;
    asked = same.asked ∙ was.asked;
    cleans = same.cleans ∙ was.cleans;
    lost = (same.entries ∙ was.lost.0, same.pages ∙ was.lost.1);
  }
  same_end (Cleans c) a b same was = record {
    planning = was.planning;
    planned = same.plannings ∙ was.planned;
    passed = was.passed;
    cleans = same.cleans ∙ was.cleans;
    is = was.is ∙ told_as refl (sym same.entries) (sym same.pages);
    nothing = λ none. let lost = was.nothing none in (same.entries ∙ lost.0, same.pages ∙ lost.1);
  }
  same_end other a b same was = absurd was

  -- ---- one step

  module _ (x : OwnStep) (work : CleanerWork) (some : 0 < lists) (many : length x.world.shared.cells ≡ cells)
      (cpus : length x.world.shared.lists ≡ lists) where
    abbrev s : Shared
    s = x.world.shared

    abbrev h : HandState
    h = (actor_at x.world x.actor).hand

    abbrev r : Running
    r = x.running

    abbrev Goes : Next → Going
    Goes k t g q = Stands g q (with_made k ino x t work)

    abbrev Tells : Next → Telling
    Tells k result t g = IsTold result (with_made k ino x t work)

    abbrev pub OnTurn : Next → Turn → Type 0
    OnTurn k t = After (Goes k) (Tells k) t

    -- a step of another kind, that leaves the log, is one more
    quiet : (k : Next) (t : Shared) → plannings_at k x ≡ [] → asks_at k ≡ 0 → cleans_at k ≡ [] → cell_at t ino ≡ cell_at s ino
        → IsSame work (with_made k ino x t work)
    quiet k t none asks cleans same =
        let entries = ap (λ (c : CellState). length c.chain.entries) same in
        let pages = ap (λ (c : CellState). length c.chain.blocks) same in
        record {
          plannings = ap (λ (l : List OwnStep). l ++ work.plannings) none;
          asked = omega (arith, asks);
          cleans = ap (λ (l : List Bool). l ++ work.cleans) cleans;
          entries = omega (arith, entries);
          pages = omega (arith, pages);
        }

    -- ---- the last steps

    end_told : (e : Ending) (q : Running) (now : CleanerWork) → IsEnd e now → now.made ≤ 4 + 2 * lists → IsTold (result_by e q) now
    end_told (Refuses fault) q now is few = (is, few)
    end_told (Cleans c) q now is few = (is, few)
    end_told other q now is few = absurd is

    module _ (k : Next) {t : Shared} {g : HandState} {q : Running} {e : Ending} (slots : length q.slots ≤ 1)
        (number : g.ino ≡ None) (end : IsEnd e (with_made k ino x t work)) where
      lasts : work.made + 1 ≤ 4 + 2 * lists → Lasts (Goes k) (Tells k) t g q e
      lasts few = record {
        told = λ full. end_told e q _ end few;
        picks = λ d left drains more. absurd (subst (λ (y : Ending). IsEnd y (with_made k ino x t work)) drains end);
      }

      rests : (from : ℕ) (all : List FreeBlocks) → length all ≡ lists → work.made + 1 ≤ 4 + lists + from
          → work.made + 1 ≤ 4 + 2 * lists → Rests (Goes k) (Tells k) (home_from from 0 all (blocks_in g)) t g q e
      rests from all same few told = record {
        give = λ cpu home. let above = home_from-above from 0 all (blocks_in g) cpu home in
            record { by = (end, omega (arith, above.1, same), omega (arith, few, above.0)); slots = slots; number = number };
        back = λ n none has_it. absurd (none-some n (sym number ∙ has_it));
        lasts = λ none no. lasts told;
      }

      overs : length t.lists ≡ lists → work.made + 1 ≤ 4 + lists → Overs (Goes k) (Tells k) t g q e
      overs same few = record {
        again = λ n over more. absurd (subst (λ (y : Ending). IsEnd y (with_made k ino x t work)) over end);
        contended = λ over none. absurd (subst (λ (y : Ending). IsEnd y (with_made k ino x t work)) over end);
        rests = λ apart. rests 0 t.lists same (omega (arith, few)) (omega (arith, few, some));
      }

      ends : {locked : List ℕ} → length t.lists ≡ lists → work.made + 1 ≤ 3 + lists → EndsBy (Goes k) (Tells k) locked t g q e
      ends same few = record {
        unlock = λ locked. record { by = (end, few); slots = slots; number = number };
        overs = λ free. overs same (omega (arith, few));
      }

    -- ---- a step on the slot

    module _ (is : Stands h r work) where
      abbrev on_step : SnapshotOrCleanerStep → Type 0
      on_step step = OnTurn (SnapshotOrCleaner step) (kind_turn (SnapshotOrCleaner step) x.world.numbers.block x.actor x.granted s h r)

      more_bare : (k : Next) (n : ℕ) → plannings_at k x ≡ [] → asks_at k ≡ 0 → cleans_at k ≡ [] → (t : Shared)
          → cell_at t ino ≡ cell_at s ino → IsBare n work → IsBare (n + 1) (with_made k ino x t work)
      more_bare k n none asks cleans t same bare = let still = quiet k t none asks cleans same in record {
        made = omega (arith, bare.made);
        plannings = still.plannings ∙ bare.plannings;
        asked = still.asked ∙ bare.asked;
        cleans = still.cleans ∙ bare.cleans;
        entries = still.entries ∙ bare.entries;
        pages = still.pages ∙ bare.pages;
      }

      abbrev locking : Next
      locking = SnapshotOrCleaner (LockCleaned manner ino)

      lock_on : ino < cells → IsBare 0 work → on_step (LockCleaned manner ino)
      lock_on inside bare =
          let t = (snapshot_or_cleaner_work (LockCleaned manner ino) x.actor s h).shared in
          step_walk_by (Unit {0}) (Goes locking) (Tells locking) x.actor s h r (LockCleaned manner ino) x.granted (λ blocked. tt)
          (λ free. record {
            by = (refl, refl, inside, more_bare locking 0 refl refl refl t refl bare);
            slots = is.slots;
            number = is.number;
          })

      -- ---- its planning

      module _ (slot : Option ℕ) (n : ℕ) (early : n ≤ 1) (bare : IsBare n work) where
        abbrev planned : CleanerWork
        planned = with_made (SnapshotOrCleaner (PlanCleaning manner slot)) ino x s work

        abbrev Denied : Fault → Type 0
        Denied fault =
            EndsBy (Goes (SnapshotOrCleaner (PlanCleaning manner slot))) (Tells (SnapshotOrCleaner (PlanCleaning manner slot))) r.slots s h r (Refuses fault)

        planned_once : planned.plannings ≡ x ∷ []
        planned_once = ap (λ (l : List OwnStep). x ∷ l) bare.plannings

        plan_cleaning_stops : (fault : Fault) → fault ≡ fault_by (has_inode (cell_at s ino)) x.granted → is_passed ino x ≡ false
            → Denied fault
        plan_cleaning_stops fault cause stopped =
            ends (SnapshotOrCleaner (PlanCleaning manner slot)) is.slots is.number (record {
              planning = x;
              planned = planned_once;
              is = cause;
              asked = let none = bare.asked in rw stopped (omega (arith, none));
              cleans = bare.cleans;
              lost = (omega (arith, bare.entries), omega (arith, bare.pages));
            }) cpus (let few = bare.made in omega (arith, few, early))

        stale : has_inode (cell_at s ino) ≡ false → Denied Stale
        stale none =
            plan_cleaning_stops Stale (sym (ap (λ (b : Bool). fault_by b x.granted) none)) (ap (λ (b : Bool). b && x.granted) none)

        denied : has_inode (cell_at s ino) ≡ true → x.granted ≡ false → Denied out_of_memory
        denied there lacks =
            plan_cleaning_stops out_of_memory (rw there (rw lacks refl)) (rw there (rw lacks refl))

        -- it has passed, and something goes
        found : (thorough : Bool) → has_inode (cell_at s ino) ≡ true → x.granted ≡ true → n ≡ 1
            → by_entries manner (cell_at s ino) ≡ thorough → goes_none manner (cell_at s ino) ≡ false
            → IsOn manner ino thorough planned
        found thorough there has one goes_by goes =
            let still : (planned.made ≡ 2 + planned.asked) = omega (arith, bare.asked, bare.made, one) in record {
              planning = x;
              planned = planned_once;
              passed = and_from _ _ there has;
              goes_by = goes_by;
              some = goes;
              made = still;
              cleans = bare.cleans;
              entries = omega (arith, bare.entries);
              pages = omega (arith, bare.pages);
            }

      -- it counts the entries as the planning does
      same_choice : (m : Manner) (cell : CellState) → by_entries m cell ≡ is_thorough m cell
      same_choice Fast cell = refl
      same_choice Thorough cell = refl
      same_choice Auto cell = ap (λ (n : ℕ). nat_lt n (length cell.chain.entries)) (double (wanted_of cell).entries) where
        double : (n : ℕ) → n + n ≡ 2 * n
        double n = omega arith

      plan_cleaning_none : cells ≤ ino → IsBare 0 work → on_step (PlanCleaning manner None)
      plan_cleaning_none past bare =
          refused_goes (Unit {0}) (Goes (SnapshotOrCleaner (PlanCleaning manner None))) (Tells (SnapshotOrCleaner (PlanCleaning manner None))) Stale s h r
          (stale None 0 (omega arith) bare
          (ap (λ (c : CellState). has_inode c) (get_or_past s.cells ino no_cell (omega (arith, past, many)))))

      module _ (inside : ino < cells) (bare : IsBare 1 work) where
        abbrev judging : Next
        judging = SnapshotOrCleaner (PlanCleaning manner (Some ino))

        plan_cleaning_slot : (granted : Bool) → x.granted ≡ granted
            → OnTurn judging (kind_turn judging x.world.numbers.block x.actor granted s h r)
        plan_cleaning_slot false lacks = go (has_inode (cell_at s ino)) refl where
          go : (there : Bool) → has_inode (cell_at s ino) ≡ there → OnTurn judging (inode_turn there manner ino false s h r)
          go false none =
              refused_goes (Unit {0}) (Goes judging) (Tells judging) Stale s h r (stale (Some ino) 1 (omega arith) bare none)
          go true there =
              refused_goes (Unit {0}) (Goes judging) (Tells judging) out_of_memory s h r
              (denied (Some ino) 1 (omega arith) bare there lacks)
        plan_cleaning_slot true has =
            step_walk_by (Unit {0}) (Goes judging) (Tells judging) x.actor s h r (PlanCleaning manner (Some ino)) true (λ blocked. tt) (
              λ none. stale (Some ino) 1 (omega arith) bare none,
              λ there lacks. absurd (false≢true (sym lacks)),
              λ slot same there.
                  let e : ino ≡ slot = ap (λ (o : Option ℕ). unwrap_or o 0) same in
                  subst (λ (i : ℕ). Planned (Goes judging) (Tells judging) manner i s h r) e
                  (chosen (subst (λ (i : ℕ). has_inode (cell_at s i) ≡ true) (sym e) there)),
            ) where
              chosen : has_inode (cell_at s ino) ≡ true → Planned (Goes judging) (Tells judging) manner ino s h r
              chosen there = record {
                fast = λ plain.
                    let by = same_choice manner (cell_at s ino) ∙ plain in
                    record {
                      by = (
                        refl,
                        inside,
                        omega (arith, bare.asked),
                        found (Some ino) 1 (omega arith) bare false there has refl by
                            (ap (λ (b : Bool). b && ((wanted_of (cell_at s ino)).dropped == 0)) by),
                      );
                      slots = is.slots;
                      number = is.number;
                    };
                some = λ n plain more.
                    let by = same_choice manner (cell_at s ino) ∙ plain in
                    record {
                      by = (
                        refl,
                        inside,
                        omega (arith, bare.asked),
                        some,
                        found (Some ino) 1 (omega arith) bare true there has refl by
                            (rw by (rw more (eqb-suc-zero n))),
                      );
                      slots = is.slots;
                      number = is.number;
                    };
                none = λ plain less.
                    let by = same_choice manner (cell_at s ino) ∙ plain in
                    let now = with_made judging ino x s work in
                    let gone : (now.entries ≡ 0) = omega (arith, bare.entries) in
                    let short : (now.pages ≡ 0) = omega (arith, bare.pages) in
                    ends judging is.slots is.number (record {
                      planning = x;
                      planned = planned_once (Some ino) 1 (omega arith) bare;
                      passed = and_from _ _ there has;
                      cleans = rw by (rw less bare.cleans);
                      is = told_as (sym by) (sym gone) (sym short);
                      nothing = λ none. (gone, short);
                    }) cpus (omega (arith, bare.made));
              }

      -- ---- a list asked

      module _ (asked wanted : ℕ) (inside : ino < cells) (so_many : work.asked ≡ asked) (more : asked < lists)
          (on : IsOn manner ino true work) where
        abbrev asking : Next
        asking = SnapshotOrCleaner (Fresh ino asked wanted)

        abbrev left : Shared
        left = (snapshot_or_cleaner_work (Fresh ino asked wanted) x.actor s h).shared

        left_lists : length left.lists ≡ lists
        left_lists = length-set s.lists _ _ ∙ cpus

        still_on : IsOn manner ino true (with_made asking ino x left work)
        still_on =
            let still : (work.made + 1 ≡ 2 + (work.asked + 1)) = omega (arith, on.made) in
            record {
              planning = on.planning;
              planned = on.planned;
              passed = on.passed;
              goes_by = on.goes_by;
              some = on.some;
              made = still;
              cleans = on.cleans;
              entries = omega (arith, on.entries);
              pages = omega (arith, on.pages);
            }

        fresh_on : on_step (Fresh ino asked wanted)
        fresh_on =
            step_walk_by (Unit {0}) (Goes asking) (Tells asking) x.actor s h r (Fresh ino asked wanted) x.granted (λ blocked. tt)
            (record {
              ready = λ enough. record {
                by = (refl, inside, omega (arith, so_many, more), still_on);
                slots = is.slots;
                number = is.number;
              };
              more = λ n yet another. let below = ltb-true (asked + 1) (length s.lists) another in record {
                by = (refl, inside, omega (arith, so_many), omega (arith, below, cpus), still_on);
                slots = is.slots;
                number = is.number;
              };
              short = λ n yet last.
                  let past = ltb-false (asked + 1) (length s.lists) last in
                  let both = and_parts (has_inode (walked_cell ino on.planning)) on.planning.granted on.passed in
                  ends asking is.slots is.number (record {
                    planning = on.planning;
                    planned = on.planned;
                    is = rw (both.0) (rw (both.1) refl);
                    asked = rw on.passed (omega (arith, so_many, past, more, cpus));
                    cleans = on.cleans;
                    lost = (omega (arith, on.entries), omega (arith, on.pages));
                  }) left_lists (omega (arith, on.made, so_many, more));
            })

      -- ---- a clean step

      module _ (k : Next) (thorough : Bool) (cell : CellState) (inside : ino < cells) (few : work.asked ≤ lists)
          (on : IsOn manner ino thorough work) (asks : asks_at k ≡ 0) (cleans : cleans_at k ≡ thorough ∷ []) (plannings : plannings_at k x ≡ []) where
        abbrev cleaned : Shared
        cleaned = with_cell ino cell s

        cleaned_told : IsEnd (Cleans (answer_of thorough (cell_at s ino) cell)) (with_made k ino x cleaned work)
        cleaned_told =
            let set : cell_at cleaned ino ≡ cell = get_or-set_same s.cells ino cell no_cell (omega (arith, inside, many)) in
            let entries = ap (λ (c : CellState). length c.chain.entries) set in
            let pages = ap (λ (c : CellState). length c.chain.blocks) set in
            let none = on.entries in
            let nothing = on.pages in
            record {
              planning = on.planning;
              planned = ap (λ (l : List OwnStep). l ++ work.plannings) plannings ∙ on.planned;
              passed = on.passed;
              cleans = rw on.some (ap (λ (l : List Bool). l ++ work.cleans) cleans ∙ ap (λ (l : List Bool). thorough ∷ l) on.cleans
                  ∙ ap (λ (b : Bool). b ∷ []) (sym on.goes_by));
              is = told_as (sym on.goes_by) (omega (arith, entries, none)) (omega (arith, pages, nothing));
              nothing = λ gone. absurd (false≢true (sym on.some ∙ gone));
            }

        clean_ends : {g : HandState} → g.ino ≡ None
            → EndsBy (Goes k) (Tells k) r.slots cleaned g r (Cleans (answer_of thorough (cell_at s ino) cell))
        clean_ends number = ends k is.slots number cleaned_told cpus (omega (arith, on.made, few))

      unlink_on : ino < cells → work.asked ≡ 0 → IsOn manner ino false work → on_step (Unlink ino)
      unlink_on inside none on =
          let k = SnapshotOrCleaner (Unlink ino) in
          step_walk_by (Unit {0}) (Goes k) (Tells k) x.actor s h r (Unlink ino) x.granted (λ blocked. tt)
          (clean_ends k false (unlinked (cell_at s ino)) inside (omega (arith, none)) on refl refl refl is.number)

      compact_on : ino < cells → work.asked ≤ lists → IsOn manner ino true work → on_step (Compact ino)
      compact_on inside few on =
          let k = SnapshotOrCleaner (Compact ino) in
          step_walk_by (Unit {0}) (Goes k) (Tells k) x.actor s h r (Compact ino) x.granted (λ blocked. tt)
          (clean_ends k true (compacted_cell h (cell_at s ino)) inside few on refl refl refl is.number)

      -- ---- every step

      module _ (m : Manner) (slot : ℕ) where
        at_slot : (P : Manner → ℕ → Type 0) → m ≡ manner → slot ≡ ino → P manner ino → P m slot
        at_slot P e f p = subst (λ (n : Manner). P n slot) (sym e) (subst (P manner) (sym f) p)

      maintained : (step : SnapshotOrCleanerStep) → StandsOn step work → on_step step
      maintained (LockCleaned m slot) on = at_slot m slot (λ n i. on_step (LockCleaned n i)) on.0 on.1 (lock_on on.2 on.3)
      maintained (PlanCleaning m None) on = subst (λ (n : Manner). on_step (PlanCleaning n None)) (sym on.0) (plan_cleaning_none on.1 on.2)
      maintained (PlanCleaning m (Some slot)) on =
          at_slot m slot (λ n i. on_step (PlanCleaning n (Some i))) on.0 on.1 (plan_cleaning_slot on.2 on.3 x.granted refl)
      maintained (Fresh slot asked wanted) on =
          subst (λ (i : ℕ). on_step (Fresh i asked wanted)) (sym on.0) (fresh_on asked wanted on.1 on.2 on.3 on.4)
      maintained (Unlink slot) on = subst (λ (i : ℕ). on_step (Unlink i)) (sym on.0) (unlink_on on.1 on.2 on.3)
      maintained (Compact slot) on = subst (λ (i : ℕ). on_step (Compact i)) (sym on.0) (compact_on on.1 on.2 on.3)
      maintained other on = absurd on

      unlock_on : (place : ℕ) → IsEnd r.ending work × (work.made ≤ 3 + lists)
          → OnTurn (Unlock place) (kind_turn (Unlock place) x.world.numbers.block x.actor x.granted s h r)
      unlock_on place on =
          let t = with_owner (slot_at r.slots place) None s in
          walk_of (Goes (Unlock place)) (Tells (Unlock place)) x.world.numbers.block x.actor s h r (Unlock place) x.granted (
            λ more. (let below = ltb-true (place + 1) (length r.slots) more in absurd (omega (arith, below, is.slots))),
            λ past. overs (Unlock place) is.slots is.number
                (same_end r.ending _ _ (quiet (Unlock place) t refl refl refl refl) on.0) cpus (omega (arith, on.1)),
          ) refl

      give_on : (cpu : ℕ) → IsEnd r.ending work × (cpu < lists) × (work.made ≤ 4 + lists + cpu)
          → OnTurn (Give cpu) (kind_turn (Give cpu) x.world.numbers.block x.actor x.granted s h r)
      give_on cpu on =
          walk_of (Goes (Give cpu)) (Tells (Give cpu)) x.world.numbers.block x.actor s h r (Give cpu) x.granted
          (rests (Give cpu) is.slots is.number
          (same_end r.ending _ _ (quiet (Give cpu) (with_given cpu h s) refl refl refl refl) on.0) (cpu + 1) s.lists cpus
          (omega (arith, on.2)) (omega (arith, on.1, on.2))) refl

      kind_on : (k : Next) → StandsBy k r.ending work
          → OnTurn k (kind_turn k x.world.numbers.block x.actor x.granted s h r)
      kind_on (SnapshotOrCleaner step) on = maintained step on
      kind_on (Unlock place) on = unlock_on place on
      kind_on (Give cpu) on = give_on cpu on
      kind_on other on = absurd on

      pub step_on : OnTurn r.next (kind_turn r.next x.world.numbers.block x.actor x.granted s h r)
      step_on = kind_on r.next is.by
