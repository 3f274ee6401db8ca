-- The turns of a cleaner: its lock, what its planning refuses it for, and its end.
use Rattle.std.proofs.Common.{◌≡◌, ◌≢◌, ◌∙◌, ◌⊎◌, inl, inr, ℕ, ◌<◌, ◌≤◌, Bool, true, false, List, [], ◌∷◌, Option, None, ap, arith, cond, length, refl, subst, sym, nat_lt}
use Rattle.std.specs.Prelude.{Result, Ok, Err}
use Rattle.std.proofs.lemmas.Bool.{le-ltb, lt-ltb}
use Rattle.nv_alloc.specs.Block.{BlockValue}
use Rattle.nv_alloc.specs.declared.hand.Hand.{Hand}
use Rattle.nv_base.specs.Memory.{out_of_memory}
use Rattle.nv_base.specs.declared.fault.Fault.{Fault}
use Rattle.nv_base.specs.declared.fault.Fault.TheVariants as fault
use Rattle.nv_base.specs.declared.fault.MismatchPart.{MismatchPart}
use Rattle.nv_base.specs.declared.geometry.GeometryNumbers.{GeometryNumbers}
use Rattle.nv_calls.specs.declared.answer.Answer.{Answer}
use Rattle.nv_calls.specs.declared.answer.Answer.TheVariants as answers
use Rattle.nv_calls.specs.declared.call.Call.TheVariants as call
use Rattle.nv_calls.proofs.BlockCounts.{hand_len}
use Rattle.nv_cell.specs.Cell.{CellState}
use Rattle.nv_cell.specs.Readers.{has_inode}
use Rattle.nv_clean.specs.declared.cleaned.Cleaned.{Cleaned}
use Rattle.nv_machine.specs.Cleaning.{inode_turn, lock_cleaned_turn}
use Rattle.nv_machine.specs.OwnSteps.{fault_in}
use Rattle.nv_machine.specs.Sequence.{slots_on, started}
use Rattle.nv_machine.specs.World as machine
use Rattle.nv_machine.specs.World.{Cleans, Ending, HandState, LockCleaned, Moves, PlanCleaning, Refuses, Running, Shared, SnapshotOrCleaner, SnapshotOrCleanerStep, cell_at, empty_hand}
use Rattle.nv_machine.proofs.FiledTurns.{refused_at_once}
use Rattle.nv_sessions.specs.Ending.{IsEmptyHand, cleaner_of}
use Rattle.nv_sessions.specs.Holding.{Holds, IsCleaned}
use Rattle.nv_sessions.specs.RunCalls.{cleaning, planning}
use Rattle.nv_sessions.specs.SessionRuns.{IsBrokenOff, IsSessionRun}
use Rattle.nv_sessions.specs.Underway.{GivesBack, UnlocksNext, locking}
use Rattle.nv_steps.specs.Hands.{hand_of}
use Rattle.nv_steps.specs.LastSteps.{IsLast}
use Rattle.nv_steps.specs.OnCell.{on_cell, once_ending, over_cell}
use Rattle.nv_steps.specs.Parts.{CellIs}
use Rattle.nv_steps.specs.Planning.{manner_of, once_planned}
use Rattle.nv_steps.specs.Runs.{IsRun, Known, LeftAs, Unseen}
use Rattle.nv_steps.specs.Turns.{IsEnd, IsMove, Made}
use Rattle.nv_steps.specs.declared.lists.LeftInHand.TheVariants as left_in
use Rattle.nv_steps.specs.declared.planning.Manner.{Manner}
use Rattle.nv_steps.specs.declared.planning.Manner.TheVariants as manner
use Rattle.nv_steps.specs.declared.planning.Planned.{Planned}
use Rattle.nv_steps.specs.declared.planning.Planned.TheVariants as planned
use Rattle.nv_steps.proofs.States.{some_state}
use Rattle.nv_sessions.proofs.Holding.{begins, changes, locks, reads, unlocks}

-- ---- its start

-- the first step of a cleaner, by whether there is a slot of its number
abbrev first_of : Bool → machine.Manner → ℕ → SnapshotOrCleanerStep
first_of b m ino = cond b (LockCleaned m ino) (PlanCleaning m None)

abbrev starting : Bool → Manner → ℕ → Running
starting b m ino =
    started (call.SnapshotOrCleaner (cleaner_of m ino)) (SnapshotOrCleaner (first_of b (manner_of m) ino)) (slots_on (first_of b (manner_of m) ino))

starts : (numbers : GeometryNumbers) (m : Manner) (ino : ℕ) → cleaning numbers (cleaner_of m ino) ≡ starting (nat_lt ino numbers.inodes) m ino
starts numbers manner.Fast ino = refl
starts numbers manner.Thorough ino = refl
starts numbers manner.Auto ino = refl

pub starts_inside : (numbers : GeometryNumbers) (m : Manner) (ino : ℕ) → ino < numbers.inodes
    → cleaning numbers (cleaner_of m ino) ≡ starting true m ino
starts_inside numbers m ino inside = starts numbers m ino ∙ ap (λ (b : Bool). starting b m ino) (lt-ltb ino numbers.inodes inside)

-- a cleaner whose number has no slot is `Stale` at once
pub stale_at_once : (numbers : GeometryNumbers) (actor : ℕ) (m : Manner) (ino : ℕ) → numbers.inodes ≤ ino
    → IsRun numbers actor empty_hand (cleaning numbers (cleaner_of m ino)) (Err fault.Stale) empty_hand
stale_at_once numbers actor m ino outside =
    let r = starting false m ino in
    let same : cleaning numbers (cleaner_of m ino) ≡ r =
    starts numbers m ino ∙ ap (λ (b : Bool). starting b m ino) (le-ltb ino numbers.inodes outside) in
    let last : Made = record { running = r; hand = empty_hand; granted = true; found = []; left = [] } in
    let run : IsRun numbers actor empty_hand r (Err fault.Stale) empty_hand = record {
      turns = [];
      last = last;
      leads = (refl, refl);
      fits = tt;
      there = some_state numbers [] tt tt;
      ends = λ s is_of has. refused_at_once fault.Stale s empty_hand r refl refl;
    } in
    subst (λ (x : Running). IsRun numbers actor empty_hand x (Err fault.Stale) empty_hand) (sym same) run

-- ---- its lock

pub holds_slot : (numbers : GeometryNumbers) (actor : ℕ) (m : Manner) (ino : ℕ) (hand : HandState) → ino < numbers.inodes → hand ≡ empty_hand
    → Holds numbers actor empty_hand (cleaning numbers (cleaner_of m ino)) ino Unseen hand (planning m ino)
holds_slot numbers actor m ino hand inside empty =
    let start = starting true m ino in
    let moves : IsMove numbers actor (locking actor ino empty_hand start) empty_hand (planning m ino) = λ s is_of has.
    ap (λ (o : Option ℕ). lock_cleaned_turn o actor (manner_of m) ino s empty_hand start) has.0.1 in
    let holds : Holds numbers actor empty_hand start ino Unseen empty_hand (planning m ino) =
    locks numbers actor empty_hand start ino empty_hand start (planning m ino) inside (begins numbers actor empty_hand start) refl moves in
    subst (λ (r : Running). Holds numbers actor empty_hand r ino Unseen hand (planning m ino)) (sym (starts_inside numbers m ino inside))
    (subst (λ (h : HandState). Holds numbers actor empty_hand start ino Unseen h (planning m ino)) (sym empty) holds)

-- ---- its planning

-- a planning refuses its call for want of an inode, or of memory
pub plan_refuses : (numbers : GeometryNumbers) (actor : ℕ) (m : Manner) (ino : ℕ) (cell : CellState) (h after : HandState) (why : Fault)
    → ino < numbers.inodes
    → IsMove numbers actor (over_cell ino (planning m ino) h false cell) after (once_ending (Refuses why) (planning m ino))
    → (why ≡ fault.Stale) ⊎ (why ≡ out_of_memory)
plan_refuses numbers actor m ino cell h after why inside moves =
    let there = some_state numbers (CellIs ino cell ∷ []) (tt, tt) (inside, tt) in
    go there.shared (has_inode (cell_at there.shared ino)) (moves there.shared there.is_of there.has) where
      go : (s : Shared) (b : Bool) → inode_turn b (manner_of m) ino false s h (planning m ino)
          ≡ Moves s after (once_ending (Refuses why) (planning m ino)) → (why ≡ fault.Stale) ⊎ (why ≡ out_of_memory)
      go s false is = let same : fault.Stale ∷ [] ≡ why ∷ [] = ap fault_in is in let stale : why ≡ fault.Stale = cc in inl stale
      go s true is =
          let same : out_of_memory ∷ [] ≡ why ∷ [] = ap fault_in is in let wanted : why ≡ out_of_memory = cc in inr wanted

-- so no test does
pub not_misfit : (why : Fault) → (why ≡ fault.Stale) ⊎ (why ≡ out_of_memory) → (what : MismatchPart) → why ≢ fault.Mismatch what
not_misfit why (inl stale) what is = let no : fault.Stale ≡ fault.Mismatch what = sym stale ∙ is in cc
not_misfit why (inr wanted) what is = let no : out_of_memory ≡ fault.Mismatch what = sym wanted ∙ is in cc

module _ (numbers : GeometryNumbers) (actor : ℕ) (h0 : HandState) (r0 : Running) (m : Manner) (ino : ℕ) (seen old : CellState)
    (h after : HandState) (here : seen ≡ old) (holds : Holds numbers actor h0 r0 ino Unseen h (planning m ino)) where
  reading : (next : Running) (granted : Bool) → next.slots ≡ ino ∷ []
      → IsMove numbers actor (over_cell ino (planning m ino) h granted seen) after next → Holds numbers actor h0 r0 ino (LeftAs old) after next
  reading next granted slots moves =
      reads numbers actor h0 r0 ino Unseen old h after (planning m ino) next granted refl tt slots holds
      (subst (λ (x : CellState). IsMove numbers actor (over_cell ino (planning m ino) h granted x) after next) here moves)

  -- it goes on to what it has planned
  pub plans : (found p : Planned) → found ≡ p
      → IsMove numbers actor (over_cell ino (planning m ino) h true seen) after (once_planned ino (Ok found) (planning m ino))
      → Holds numbers actor h0 r0 ino (LeftAs old) after (once_planned ino (Ok p) (planning m ino))
  plans found p is moves =
      subst (λ (x : Planned). Holds numbers actor h0 r0 ino (LeftAs old) after (once_planned ino (Ok x) (planning m ino))) is (go found moves) where
        go : (x : Planned) → IsMove numbers actor (over_cell ino (planning m ino) h true seen) after (once_planned ino (Ok x) (planning m ino))
            → Holds numbers actor h0 r0 ino (LeftAs old) after (once_planned ino (Ok x) (planning m ino))
        go (planned.Unlinks walk) moves = reading (once_planned ino (Ok (planned.Unlinks walk)) (planning m ino)) true refl moves
        go (planned.Compacts walk) moves = reading (once_planned ino (Ok (planned.Compacts walk)) (planning m ino)) true refl moves
        go (planned.Ends cleaned) moves = reading (once_planned ino (Ok (planned.Ends cleaned)) (planning m ino)) true refl moves

  -- or it is refused
  pub plans_not : (why : Fault)
      → IsMove numbers actor (over_cell ino (planning m ino) h false seen) after (once_planned ino (Err why) (planning m ino))
      → Holds numbers actor h0 r0 ino (LeftAs old) after (once_ending (Refuses why) (planning m ino))
  plans_not why moves = reading (once_ending (Refuses why) (planning m ino)) false refl moves

-- ---- its end

module _ (numbers : GeometryNumbers) (actor : ℕ) (h0 : HandState) (r0 : Running) where
  -- it is to end by what it has cleaned, or by its refusal
  pub done : (ino : ℕ) (known : Known CellState) (h : HandState) (r : Running) (cleaned : Cleaned)
      → Holds numbers actor h0 r0 ino known h (once_ending (Cleans cleaned) r) → IsCleaned numbers actor h0 r0 (Ok cleaned) h
  done ino known h r cleaned holds = (r, unlocks numbers actor h0 r0 ino known h r (Cleans cleaned) (λ is. cc) holds)

  -- it has cleaned the cell that it holds
  pub cleans : (ino : ℕ) (old new : CellState) (h after : HandState) (r : Running) (cleaned : Cleaned)
      → Holds numbers actor h0 r0 ino (LeftAs old) h r
      → IsMove numbers actor (on_cell ino r h true old new) after (once_ending (Cleans cleaned) r)
      → IsCleaned numbers actor h0 r0 (Ok cleaned) after
  cleans ino old new h after r cleaned holds moves =
      done ino (LeftAs new) after r cleaned
      (changes numbers actor h0 r0 ino (LeftAs old) old h after r (once_ending (Cleans cleaned) r) true refl refl holds.slots holds new refl moves)

  pub refuses : (ino : ℕ) (known : Known CellState) (h : HandState) (r : Running) (why : Fault)
      → ((what : MismatchPart) → why ≢ fault.Mismatch what) → Holds numbers actor h0 r0 ino known h (once_ending (Refuses why) r)
      → IsCleaned numbers actor h0 r0 (Err why) h
  refuses ino known h r (fault.Mismatch what) fits holds = absurd (fits what refl)
  refuses ino known h r other fits holds = (r, unlocks numbers actor h0 r0 ino known h r (Refuses other) (λ is. cc) holds)

  pub breaks : (why : Fault) (what : MismatchPart) (h : HandState) → why ≡ fault.Mismatch what → IsBrokenOff numbers actor h0 r0 what
      → IsCleaned numbers actor h0 r0 (Err why) h
  breaks why what h is broken =
      subst (λ (f : Fault). IsCleaned numbers actor h0 r0 (let e : Result Cleaned Fault = Err f in e) h) (sym is) broken

  -- what is in its hand went back
  module _ (h : HandState) (r : Running) (back : GivesBack numbers actor h0 r0 left_in.Nothing h r) where
    ends_so : (ending : Ending) (result : Result Answer Fault) → r.ending ≡ ending
        → (IsLast numbers actor back.last ending h → IsEnd numbers actor back.last result h) → IsRun numbers actor h0 r0 result h
    ends_so ending result is told = record {
      turns = back.turns;
      last = back.last;
      leads = back.leads;
      fits = back.fits;
      there = back.there;
      ends =
          told (subst (λ (e : Ending). IsLast numbers actor back.last e h) (ap (λ (x : Running). x.ending) back.same ∙ is) back.gives);
    }

  pub cleaned_run : (h after : HandState) (cleaned : Cleaned) → IsCleaned numbers actor h0 r0 (Ok cleaned) h
      → ((r : Running) → UnlocksNext numbers actor h0 r0 h r → GivesBack numbers actor h0 r0 left_in.Nothing after r)
      → IsRun numbers actor h0 r0 (Ok (answers.Cleaned cleaned.thorough cleaned.entries cleaned.pages)) after
  cleaned_run h after cleaned is back =
      ends_so after (once_ending (Cleans cleaned) is.0) (back (once_ending (Cleans cleaned) is.0) is.1) (Cleans cleaned)
      (Ok (answers.Cleaned cleaned.thorough cleaned.entries cleaned.pages)) refl (λ last. last)

  pub refused_run : (h after : HandState) (why : Fault) → IsCleaned numbers actor h0 r0 (Err why) h
      → ((r : Running) → UnlocksNext numbers actor h0 r0 h r → GivesBack numbers actor h0 r0 left_in.Nothing after r)
      → IsSessionRun numbers actor h0 r0 (Err why) after
  refused_run h after (fault.Mismatch what) is back = inl is
  refused_run h after other is back =
      ends_so after (once_ending (Refuses other) is.0) (back (once_ending (Refuses other) is.0) is.1) (Refuses other) (Err other) refl
      (λ last. last)

  -- by the number of the seat, with nothing in the hand
  pub seated : (number : ℕ) (result told : Result Answer Fault) (after : HandState) → actor ≡ number → after ≡ empty_hand → told ≡ result
      → IsSessionRun numbers actor h0 r0 result after → IsSessionRun numbers number h0 r0 told empty_hand
  seated number result told after same none is run =
      subst (λ (n : ℕ). IsSessionRun numbers n h0 r0 told empty_hand) same
      (subst (λ (h : HandState). IsSessionRun numbers actor h0 r0 told h) none
      (subst (λ (e : Result Answer Fault). IsSessionRun numbers actor h0 r0 e after) (sym is) run))

-- ---- an empty hand

nil : (bs : List BlockValue) → length bs ≡ 0 → bs ≡ []
nil [] none = refl
nil (b ∷ bs) none = absurd (omega (arith, none))

pub nothing_in : (hand : Hand) → IsEmptyHand hand → hand_of hand ≡ empty_hand
nothing_in hand empty =
    let all = hand_len hand in
    let no_data : hand.«data».blocks ≡ [] = nil hand.«data».blocks (omega (arith, empty.blocks, all)) in
    let no_pages : hand.pages.blocks ≡ [] = nil hand.pages.blocks (omega (arith, empty.blocks, all)) in
    let no_chain : hand.chain ≡ [] = nil hand.chain (omega (arith, empty.blocks, all)) in
    let no_number : hand.ino ≡ None = empty.number in
    rw (no_data, no_pages, no_chain, no_number) refl
