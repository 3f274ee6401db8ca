-- What the check of a request comes to, over its lent cells as in the machine.
use Rattle.std.proofs.Common.{◌≡◌, ℕ, ◌<◌, ◌≤◌, ◌⊎◌, inl, inr, ◌||◌, ◌∙◌, not, Bool, true, false, cond, List, [], length, Option, Some, None, arith, refl, ap, sym, subst}
use Rattle.std.specs.Prelude.{is_some, unwrap_or, Ok, Err}
use Rattle.std.specs.Option.{ForSome}
use Rattle.nv_alloc.specs.declared.hand.Hand.{Hand}
use Rattle.std.proofs.lemmas.List.{length-map}
use Rattle.nv_base.specs.declared.numbers.Handle.{Handle}
use Rattle.nv_calls.specs.AllCalls.{blocks_wanted, early, effect, looked, refusal}
use Rattle.nv_calls.specs.Locked.{handles}
use Rattle.nv_calls.specs.Cells.{AreCells}
use Rattle.nv_calls.specs.Nodes.{cell_of, nodes_in, slot_by, slots_by}
use Rattle.nv_calls.specs.Prepared.{HasNumberFor, IsEmptySlot, handle_made_by, makes, no_handle}
use Rattle.nv_calls.specs.SlotCells.{cell_in, lent_cells}
use Rattle.nv_calls.specs.Updates.{blank_call}
use Rattle.nv_calls.specs.declared.call.Call.{Call}
use Rattle.nv_calls.specs.declared.looked.LookupResult.{LookupResult}
use Rattle.nv_calls.specs.declared.update.Update.{Update}
use Rattle.nv_cell.specs.Cell.{CellState, CellValue}
use Rattle.nv_entry.specs.declared.node.NodeCopy.{NodeCopy}
use Rattle.nv_machine.specs.Kinds.{check_ending}
use Rattle.nv_machine.specs.Reads.{copies, has_last_page}
use Rattle.nv_machine.specs.Sequence.{beginning}
use Rattle.nv_machine.specs.Step.{is_numbered, made_in, same_looked}
use Rattle.nv_machine.specs.World.{BoundAnew}
use Rattle.nv_machine.specs.World as machine
use Rattle.nv_core.proofs.PassesSome.{some_cell}
use Rattle.nv_core.proofs.Checks.{ends_same, passes_over, wanted_same}
use Rattle.nv_core.proofs.Nodes.{cell_is, lent_has, lent_of}
use Rattle.nv_core.specs.Nodes.{CanRead, check_ends, ends_over}
use Rattle.nv_core.specs.Rooms.{CanDrain, HasMade, IsChecked, IsNoVisit, WantsBlocks, blocks_to_take}
use Rattle.nv_core.specs.Shown.{ending_of, shared_of, slots_in}
use Rattle.nv_core.specs.Steps.{CanBeChecked}
use Rattle.nv_core.specs.GhostCalls.{IsChangeWith, IsRequestOf, IsOwed, is_change}
use Rattle.nv_calls.specs.Refusals.{Check}
use Rattle.nv_core.specs.declared.next.Ending.{Ending as Ended}
use Rattle.nv_core.specs.declared.next.Ending.TheVariants as ending
use Rattle.nv_core.specs.declared.request.Request.{Request}
use Rattle.nv_core.specs.declared.request.Request.TheVariants as request
use Rattle.nv_core.specs.declared.request.PendingAnswer.{PendingAnswer}
use Rattle.nv_core.specs.declared.running.Running.{Running}
use Rattle.nv_core.specs.declared.shared.Shared.{Shared}

-- ---- by a request

-- how the check over the lent cells ends a call
abbrev pub Ends : Shared → List ℕ → LookupResult → Bool → Option machine.Ending → Update → Type 0
Ends shared slots before numbered found u =
    found ≡ ends_over shared.geometry.numbers.block (nodes_in (lent_cells slots shared.cells.items)) before numbered u

-- it reads these cells
abbrev pub Reads : Shared → List ℕ → LookupResult → Update → Type 0
Reads shared slots before u = CanRead shared slots (handles before (blank_call u))

-- the machine's check ends the call as that over the lent cells
pub ending_told : (shared : Shared) (slots : List ℕ) (before : LookupResult) (number : Option ℕ) (made : Handle) (j : Request) (owed : PendingAnswer)
    (c : Call) (found : Option machine.Ending) → is_change j ≡ true → IsRequestOf j owed c → IsChangeWith (Reads shared slots before) j
    → IsChangeWith (Ends shared slots before (is_some number) found) j
    → check_ending (early (copies (shared_of shared)) c) (same_looked (looked (copies (shared_of shared)) c) before)
    (refusal shared.geometry.numbers.block (copies (shared_of shared)) c) (is_numbered (beginning c) number)
    (effect (copies (shared_of shared)) made c) ≡ found
ending_told shared slots before number made (request.Change plan text) owed c found change is can ends =
    ap (λ (x : Call). check_ending (early n x) (same_looked (looked n x) before) (refusal shared.geometry.numbers.block n x)
    (is_numbered (beginning x) number) (effect n made x)) is.0
    ∙ ends_same shared slots plan text before (record { made = made; runs = [] }) number can is.1
    ∙ sym ends where
      n : Handle → Option NodeCopy
      n = copies (shared_of shared)
ending_told shared slots before number made (request.Visit visit) owed c found change is can ends = cc
ending_told shared slots before number made (request.SnapshotOrCleaner on) owed c found change is can ends = cc
ending_told shared slots before number made request.Taken owed c found change is can ends = cc

-- and so many blocks are wanted
pub wanted_by_job : (shared : Shared) (slots : List ℕ) (before : LookupResult) (number : Option ℕ) (wanted : ℕ) (j : Request) (owed : PendingAnswer) (c : Call)
    → is_change j ≡ true → IsRequestOf j owed c → IsChangeWith (Reads shared slots before) j
    → IsChangeWith (Ends shared slots before (is_some number) None) j
    → IsChangeWith (λ u. wanted ≡ blocks_to_take shared slots u) j
    → blocks_wanted shared.geometry.numbers.block (copies (shared_of shared))
    (has_last_page shared.geometry.numbers.block (shared_of shared) c) c ≡ wanted
wanted_by_job shared slots before number wanted (request.Change plan text) owed c change is can ends over =
    let block = shared.geometry.numbers.block in
    let passed = passes_over block (nodes_in (lent_cells slots shared.cells.items)) before (is_some number) plan (sym ends) in
    ap (λ (x : Call). blocks_wanted block (copies (shared_of shared)) (has_last_page block (shared_of shared) x) x) is.0
    ∙ wanted_same shared slots plan text before can is.1 passed.same passed.passed
    ∙ sym over
wanted_by_job shared slots before number wanted (request.Visit visit) owed c change is can ends over = cc
wanted_by_job shared slots before number wanted (request.SnapshotOrCleaner on) owed c change is can ends over = cc
wanted_by_job shared slots before number wanted request.Taken owed c change is can ends over = cc

-- whose answer is owed
pub owed_by : (j : Request) (owed : PendingAnswer) (c : Call) → is_change j ≡ true → IsRequestOf j owed c → IsOwed owed c
owed_by (request.Change plan text) owed c change is = is.3
owed_by (request.Visit visit) owed c change is = cc
owed_by (request.SnapshotOrCleaner on) owed c change is = cc
owed_by request.Taken owed c change is = cc

pub no_visit : (j : Request) → is_change j ≡ true → IsNoVisit j
no_visit (request.Change plan text) change = tt
no_visit (request.Visit visit) change = cc
no_visit (request.SnapshotOrCleaner on) change = cc
no_visit request.Taken change = tt

-- ---- a call that has passed

-- the number that it has is that of its new inode, if it makes one
has_number : (cells : List (ℕ × CellValue)) (number : Option ℕ) (u : Update) → (is_some number || not (makes u)) ≡ true
    → ((number ≡ None) × (makes u ≡ true) ⊎ HasNumberFor cells (makes u) number) → HasNumberFor cells (makes u) number
has_number cells number u passed (inr has) = has
has_number cells number u passed (inl none) = absurd (lacks number (makes u) none.0 none.1 passed) where
  lacks : (number : Option ℕ) (makes : Bool) → number ≡ None → makes ≡ true → (is_some number || not makes) ≡ true → ⊥
  lacks None true none makes passed = cc
  lacks None false none makes passed = cc
  lacks (Some ino) makes none is passed = cc

abbrev handle_of : ℕ → ℕ → Handle
handle_of ino generation = record { ino = ino; generation = generation }

-- and its handle that of the number
has_made : (shared : Shared) (slots : List ℕ) (hand : Hand) (before : Handle) (u : Update)
    → ForSome hand.ino (λ ino. ino < length shared.cells.items) → HasNumberFor (lent_cells slots shared.cells.items) (makes u) hand.ino
    → HasMade shared slots hand (made_in (shared_of shared) hand.ino before) u
has_made shared slots hand before u inside has = go hand.ino inside has where
  all : List CellValue
  all = shared.cells.items

  go : (number : Option ℕ) → ForSome number (λ ino. ino < length all) → HasNumberFor (lent_cells slots all) (makes u) number
      → makes u ≡ true → made_in (shared_of shared) number before ≡ unwrap_or (handle_made_by (lent_cells slots all) number u) no_handle
  go None inside has is = let none : ⊥ = subst (λ (b : Bool). HasNumberFor (lent_cells slots all) b None) is has in absurd none
  go (Some ino) inside has is =
      let slot : IsEmptySlot (lent_cells slots all) ino = subst (λ (b : Bool). HasNumberFor (lent_cells slots all) b (Some ino)) is has in
      let there : cell_of (lent_cells slots all) ino ≡ Some (cell_in all ino) = lent_of slots all ino (lent_has slots all ino slot.lent) in
      let own : (slots_by (lent_cells slots all) ino).generation ≡ (cell_in all ino).state.generation =
      ap (λ (c : Option CellValue). (slot_by c).generation) there in
      ap (handle_of ino) (ap (λ (c : CellState). c.generation) (cell_is shared ino (inside ino refl)) ∙ sym own)
      ∙ sym (ap (λ (b : Bool). unwrap_or (cond b (Some (handle_of ino (slots_by (lent_cells slots all) ino).generation)) None) no_handle)
      is)

-- a call that no check ends is checked, and its made handle told
pub wants_by_job : (shared : Shared) (hand new : Hand) (running : Running) (wanted : ℕ)
    → AreCells (lent_cells (slots_in running.slots) shared.cells.items) → CanBeChecked shared hand running → is_change running.request ≡ true
    → new.ino ≡ hand.ino → new.chain ≡ []
    → IsChangeWith (Ends shared (slots_in running.slots) running.looked (is_some hand.ino) None) running.request
    → IsChangeWith (λ u. wanted ≡ blocks_to_take shared (slots_in running.slots) u) running.request
    → WantsBlocks wanted shared new (record running { made = made_in (shared_of shared) hand.ino running.made })
wants_by_job shared hand new running wanted cells can change number chain ends over =
    go running.request can.read can.number change ends over where
      slots : List ℕ
      slots = slots_in running.slots

      lent : List (ℕ × CellValue)
      lent = lent_cells slots shared.cells.items

      made : Handle
      made = made_in (shared_of shared) hand.ino running.made

      go : (j : Request) → IsChangeWith (Reads shared slots running.looked) j
          → IsChangeWith (λ u. (hand.ino ≡ None) × (makes u ≡ true) ⊎ HasNumberFor lent (makes u) hand.ino) j → is_change j ≡ true
          → IsChangeWith (Ends shared slots running.looked (is_some hand.ino) None) j
          → IsChangeWith (λ u. wanted ≡ blocks_to_take shared slots u) j
          → IsChangeWith (λ u. HasMade shared slots new made u × IsChecked shared slots new running.looked u
          × (wanted ≡ blocks_to_take shared slots u)) j
      go (request.Change plan text) read has change ends over =
          let u = plan in
          let passed = passes_over shared.geometry.numbers.block (nodes_in lent) running.looked (is_some hand.ino) u (sym ends) in
          let own : HasNumberFor lent (makes u) hand.ino = has_number lent hand.ino u passed.number has in (
            subst (λ (n : Option ℕ). makes u ≡ true → made ≡ unwrap_or (handle_made_by lent n u) no_handle) (sym number)
                (has_made shared slots hand running.made u can.inside own),
            record {
              read = read;
              lent = cells;
              some = omega (
                arith,
                some_cell shared.geometry.numbers.block lent u passed.passed,
                length-map {B = ℕ × CellValue} slots (λ (ino : ℕ). (ino, cell_in shared.cells.items ino)),
              );
              still = can.still.still;
              passed = passed.passed;
              something = passed.something;
              same = passed.same;
              number = subst (HasNumberFor lent (makes u)) (sym number) own;
              chain = chain;
            },
            over,
          )
      go (request.Visit visit) read has change ends over = cc
      go (request.SnapshotOrCleaner on) read has change ends over = cc
      go request.Taken read has change ends over = cc

-- a check makes no drain go on
plain_end : (early : Check) (same : Bool) (tests : Check) (numbered nothing : Bool) (how : Ended) (j : Request) (hand : Hand)
    → check_ends early same tests numbered nothing ≡ Some (ending_of how) → CanDrain how j hand
plain_end early same tests numbered nothing ending.Answers j hand is = tt
plain_end early same tests numbered nothing (ending.Refuses fault) j hand is = tt
plain_end early same tests numbered nothing ending.BoundAnew j hand is = tt
plain_end early same tests numbered nothing (ending.Cleans cleaned) j hand is = tt
plain_end (Err fault) same tests numbered nothing (ending.Drains draining) j hand is = cc
plain_end (Ok passed) false tests numbered nothing (ending.Drains draining) j hand is = cc
plain_end (Ok passed) true (Err fault) numbered nothing (ending.Drains draining) j hand is = cc
plain_end (Ok passed) true (Ok all) false nothing (ending.Drains draining) j hand is = cc
plain_end (Ok passed) true (Ok all) true true (ending.Drains draining) j hand is = cc
plain_end (Ok passed) true (Ok all) true false (ending.Drains draining) j hand is = cc

pub drains_by_job : (shared : Shared) (slots : List ℕ) (before : LookupResult) (numbered : Bool) (j any : Request) (how : Ended) (hand : Hand)
    → is_change j ≡ true → IsChangeWith (Ends shared slots before numbered (Some (ending_of how))) j → CanDrain how any hand
drains_by_job shared slots before numbered (request.Change plan text) any how hand change ends =
    plain_end _ _ _ _ _ how any hand (sym ends)
drains_by_job shared slots before numbered (request.Visit visit) any how hand change ends = cc
drains_by_job shared slots before numbered (request.SnapshotOrCleaner on) any how hand change ends = cc
drains_by_job shared slots before numbered request.Taken any how hand change ends = cc
