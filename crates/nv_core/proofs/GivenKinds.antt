-- What the laws of the machine give the next step of a call that has its hand alone.
use Rattle.std.proofs.Common.{◌≡◌, ◌⊎◌, ℕ, ◌<◌, ◌∙◌, Bool, true, false, List, [], ◌∷◌, Option, Some, None, ap, arith, inl, inr, length, refl, subst, sym}
use Rattle.std.specs.List.{AllByRecursion}
use Rattle.nv_alloc.specs.declared.hand.Hand.{Hand}
use Rattle.nv_base.specs.declared.geometry.GeometryNumbers.{GeometryNumbers}
use Rattle.nv_base.specs.declared.numbers.Handle.{Handle}
use Rattle.nv_calls.specs.Locked.{handles}
use Rattle.nv_calls.specs.Prepared.{HasNumberFor, makes}
use Rattle.nv_calls.specs.SlotCells.{lent_cells}
use Rattle.nv_calls.specs.Updates.{blank_call, call_of}
use Rattle.nv_calls.specs.declared.call.Call.{Call}
use Rattle.nv_calls.specs.declared.update.Update.{Update}
use Rattle.nv_calls.specs.declared.update.Update.TheVariants as update
use Rattle.nv_cell.specs.Cell.{CellState, IsCell, log_of}
use Rattle.nv_machine.specs.Effects.{IsSoundIn}
use Rattle.nv_machine.specs.Hands.{HandAt, is_going, makes_inode}
use Rattle.nv_machine.specs.Kept.{AreApart}
use Rattle.nv_machine.specs.Locks.{IsInside}
use Rattle.nv_machine.specs.Sequence.{beginning}
use Rattle.nv_machine.specs.World as machine
use Rattle.nv_core.specs.Nodes.{CanRead, HoldHandles}
use Rattle.nv_core.specs.Rooms.{FitsNext}
use Rattle.nv_core.specs.Shown.{ShownCall, draining_of, ending_of, hand_of, next_of, shared_of, shown, slots_in}
use Rattle.nv_core.specs.Steps.{CanBeChecked, Given, GivenOn}
use Rattle.nv_core.specs.GhostCalls.{IsChangeWith, IsRequestOf, IsShownCallOf, is_change}
use Rattle.nv_core.specs.declared.request.Request.{Request}
use Rattle.nv_core.specs.declared.request.Request.TheVariants as request
use Rattle.nv_core.specs.declared.request.PendingAnswer.{PendingAnswer}
use Rattle.nv_core.specs.declared.next.Ending.{Ending}
use Rattle.nv_core.specs.declared.next.Ending.TheVariants as ending
use Rattle.nv_core.specs.declared.next.Next.{Next}
use Rattle.nv_core.specs.declared.next.Next.TheVariants as next
use Rattle.nv_core.specs.declared.next.SnapshotOrCleanerStep.{SnapshotOrCleanerStep}
use Rattle.nv_core.specs.declared.next.SnapshotOrCleanerStep.TheVariants as on
use Rattle.nv_core.specs.declared.running.Running.{Running}
use Rattle.nv_core.specs.declared.shared.Shared.{Shared}
use Rattle.nv_core.proofs.GivenCells.{all_lent, given_bytes, given_empty, given_own, given_still, many_cells}
use Rattle.nv_core.proofs.Checks.{handles_blank}
use Rattle.nv_core.proofs.GivenLaws.{IsGiven, slot_there}

-- an ending that is shown as an answer is one
answers_only : (how : Ending) → ending_of how ≡ machine.Answers → how ≡ ending.Answers
answers_only ending.Answers e = refl
answers_only (ending.Refuses fault) e = cc
answers_only ending.BoundAnew e = cc
answers_only (ending.Drains draining) e = cc
answers_only (ending.Cleans cleaned) e = cc

-- ---- the call of a request

-- what holds of the updates of a call holds of the update of its request
by_job : (P : Update → Type 0) (j : Request) (owed : PendingAnswer) (c : Call) → is_change j ≡ true → IsRequestOf j owed c
    → ((u : Update) (text : List ℕ) → c ≡ call_of u text → P u) → IsChangeWith P j
by_job P (request.Change plan text) owed c e is from = from plan text is.0
by_job P (request.Visit visit) owed c e is from = cc
by_job P (request.SnapshotOrCleaner on) owed c e is from = cc
by_job P request.Taken owed c e is from = cc

-- a call with any text makes an inode or not
makes_same : (u : Update) (text : List ℕ) → makes_inode (beginning (call_of u text)) ≡ makes u
makes_same (update.Create dir name mode) text = refl
makes_same (update.Mkdir dir name mode) text = refl
makes_same (update.Write file offset count) text = refl
makes_same (update.Size file size) text = refl
makes_same (update.Mode handle mode) text = refl
makes_same (update.Unlink dir name) text = refl
makes_same (update.Rmdir dir name) text = refl
makes_same (update.Rename from old to new) text = refl

module _ (shared : Shared) (actor : ℕ) (told : ShownCall) (hand : Hand) (running : Running)
    (given : IsGiven shared.geometry.numbers (shared_of shared) actor (hand_of hand) (shown told running))
    (is : IsShownCallOf running told) where
  abbrev g : GeometryNumbers
  g = shared.geometry.numbers

  abbrev slots : List ℕ
  slots = slots_in running.slots

  hand_at : (n : Next) → running.next ≡ n → HandAt g (next_of n) (hand_of hand) (shown told running)
  hand_at n e = subst (λ (m : Next). HandAt g (next_of m) (hand_of hand) (shown told running)) e given.hand

  inside : (n : Next) → running.next ≡ n → IsInside (next_of n) (shown told running)
  inside n e = subst (λ (m : Next). IsInside (next_of m) (shown told running)) e given.inside

  -- ---- the check

  module _ (e : running.next ≡ next.Check) where
    check_read : (u : Update) (text : List ℕ) → told.call ≡ call_of u text → CanRead shared slots (handles running.looked (blank_call u))
    check_read u text same =
        let checks = given.checks (ap next_of e) in
        let still = given_still shared slots given.slots (given.still (ap next_of e)) in
        record {
          there = still.there;
          own = given_own g.block (lent_cells slots shared.cells.items)
              (all_lent IsCell shared slots given.slots.inside
              (λ ino h. given.cells ino (slot_there (length (shared_of shared).cells) slots ino given.slots.inside h))) still.still
              (all_lent (λ (c : CellState). AreApart c.blocks) shared slots given.slots.inside (λ ino h. given.apart ino));
          held = subst (λ (l : List Handle). HoldHandles slots (length shared.cells.items) l)
              (ap (handles running.looked) same ∙ handles_blank running.looked u text)
              (subst (λ (n : ℕ). HoldHandles slots n (handles running.looked told.call)) (many_cells shared) checks.held);
        }

    number_inside : (ino : ℕ) → hand.ino ≡ Some ino → ino < length shared.cells.items
    number_inside ino has_it =
        let fewer = given.numbers ino has_it in
        omega (arith, fewer.0, given.inodes, many_cells shared)

    check_number : (u : Update) (text : List ℕ) → told.call ≡ call_of u text
        → (hand.ino ≡ None) × (makes u ≡ true) ⊎ HasNumberFor (lent_cells slots shared.cells.items) (makes u) hand.ino
    check_number u text same = go (makes u) refl hand.ino refl where
      go : (b : Bool) → makes u ≡ b → (number : Option ℕ) → hand.ino ≡ number
          → (number ≡ None) × (b ≡ true) ⊎ HasNumberFor (lent_cells slots shared.cells.items) b number
      go true q None has_it = inl (refl, refl)
      go true q (Some ino) has_it =
          let checks = (given.checks (ap next_of e)).number ino has_it in
          inr (given_empty shared slots ino (number_inside ino has_it) checks.0 checks.1)
      go false q number has_it =
          inr (sym has_it ∙ (hand_at next.Check e).number (ap (λ (c : Call). makes_inode (beginning c)) same ∙ makes_same u text ∙ q))

    given_check : is_change running.request ≡ true → CanBeChecked shared hand running
    given_check change = record {
      still = given_still shared slots given.slots (given.still (ap next_of e));
      empty = (hand_at next.Check e).blocks;
      inside = number_inside;
      read = by_job (λ u. CanRead shared slots (handles running.looked (blank_call u))) running.request running.owed told.call change is
          check_read;
      number = by_job (λ u. (hand.ino ≡ None) × (makes u ≡ true) ⊎ HasNumberFor (lent_cells slots shared.cells.items) (makes u) hand.ino)
          running.request running.owed told.call change is check_number;
    }

  -- ---- calls on snapshots

  -- a slot that is locked alone is one of the world
  own_slot : (ino : ℕ) → slots ≡ ino ∷ [] → ino < length shared.cells.items
  own_slot ino is =
      let inside = (subst (λ (xs : List ℕ). AllByRecursion (λ n. n < length (shared_of shared).cells) xs) is given.slots.inside).0 in
      omega (arith, inside, many_cells shared)

  maintain : (step : SnapshotOrCleanerStep) → running.next ≡ next.SnapshotOrCleaner step → GivenOn step shared
  maintain on.Make e = tt
  maintain (on.Drop snapshot) e = tt
  maintain (on.Pin snapshot) e = given.snapshots (machine.Pin snapshot) (ap next_of e)
  maintain (on.Show snapshot showing) e =
      record { own = given_bytes shared given.apart; pages = given.snapshots (machine.Show snapshot showing) (ap next_of e) }
  maintain (on.Unpin snapshot seen) e = given.snapshots (machine.Unpin snapshot seen) (ap next_of e)
  maintain (on.Pick draining) e = tt
  maintain (on.LockPicked draining picked) e =
      let slot = own_slot picked.ino (inside (next.SnapshotOrCleaner (on.LockPicked draining picked)) e) in
      omega (arith, slot, given.wide, many_cells shared)
  maintain (on.Release draining picked) e =
      let has_it = given.snapshots (machine.Release (draining_of draining) picked) (ap next_of e) in
      record {
        slot = own_slot picked.ino (inside (next.SnapshotOrCleaner (on.Release draining picked)) e);
        kept = has_it.kept;
        still = has_it.still;
        generation = has_it.generation;
      }
  maintain (on.LockCleaned log) e =
      let slot = own_slot log.ino (inside (next.SnapshotOrCleaner (on.LockCleaned log)) e) in
      omega (arith, slot, given.wide, many_cells shared)
  maintain (on.PlanCleaning manner None) e = λ ino is. cc
  maintain (on.PlanCleaning manner (Some n)) e = λ ino is.
      let slot = own_slot n (inside (next.SnapshotOrCleaner (on.PlanCleaning manner (Some n))) e) in
      let same : n ≡ ino = cc in omega (arith, slot, same)
  maintain (on.Fresh fresh) e = tt
  maintain (on.Unlink plan) e =
      let has_it = given.snapshots (machine.Unlink plan.ino) (ap next_of e) in
      record {
        slot = own_slot plan.ino (inside (next.SnapshotOrCleaner (on.Unlink plan)) e);
        still = has_it.still;
        retired = has_it.retired;
      }
  maintain (on.Compact plan) e =
      let has_it = given.snapshots (machine.Compact plan.ino) (ap next_of e) in
      record {
        slot = own_slot plan.ino (inside (next.SnapshotOrCleaner (on.Compact plan)) e);
        still = has_it.still;
        retired = has_it.retired;
      }

  -- ---- all kinds

  pub given_kind : (n : Next) → running.next ≡ n → FitsNext n running.request → Given n shared hand running
  given_kind next.Number e fits = ap (λ (h : machine.HandState). h.ino) (hand_at next.Number e).0
  given_kind (next.Look place) e fits = (hand_at (next.Look place) e).0
  given_kind (next.Lock place) e fits = inside (next.Lock place) e
  given_kind next.Check e fits = given_check e fits
  given_kind (next.TakeBlocks asked) e fits = tt
  given_kind (next.TakeLogPages asked) e fits = tt
  given_kind next.Ready e fits = record {
    answers = answers_only running.ending (given.going (ap (λ (n : Next). is_going (next_of n)) e));
    sound = all_lent (λ (c : CellState). IsSoundIn c (log_of c)) shared slots given.slots.inside (given.sound (ap next_of e));
  }
  given_kind (next.Unlock place) e fits = inside (next.Unlock place) e
  given_kind (next.Give cpu) e fits =
      let at = hand_at (next.Give cpu) e in record { cpu = at.1; given = at.2; sized = given.sized; once = given.once cpu }
  given_kind next.ReturnNumber e fits = record {
    inode = λ ino has_it. (let fewer = given.numbers ino has_it in omega (arith, fewer.0, given.pool));
    absent = λ ino has_it. (given.numbers ino has_it).1;
  }
  given_kind next.Visit e fits = (inside next.Visit e, given_bytes shared given.apart, hand_at next.Visit e)
  given_kind (next.SnapshotOrCleaner step) e fits = (inside (next.SnapshotOrCleaner step) e, hand_at (next.SnapshotOrCleaner step) e, maintain step e)
