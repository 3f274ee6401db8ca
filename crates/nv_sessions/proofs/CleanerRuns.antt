-- What a cleaner does behind its lock, as turns.
use Rattle.std.proofs.Common.{◌≡◌, ◌∙◌, ◌⊎◌, inl, inr, ℕ, ◌+◌, ◌-◌, ◌<◌, ◌≤◌, ◌++◌, true, List, ap, arith, length, length-append, min, refl, subst, sym, take}
use Rattle.std.specs.Prelude.{IfOk, IsErrAnd, OnErr, OnOk, Result, Ok, Err}
use Rattle.std.proofs.lemmas.Bool.{false≢true}
use Rattle.std.proofs.lemmas.List.{length-take}
use Rattle.nv_alloc.specs.Block.{BlockValue}
use Rattle.nv_alloc.specs.FreeList.{FreeBlocks, IsHomeList}
use Rattle.nv_alloc.specs.Queue.{QueueValue}
use Rattle.nv_alloc.specs.declared.hand.Hand.{Hand}
use Rattle.nv_base.specs.Memory.{out_of_memory}
use Rattle.nv_base.specs.declared.fault.Fault.{Fault}
use Rattle.nv_base.specs.declared.fault.Fault.TheVariants as fault
use Rattle.nv_base.specs.declared.fault.MismatchPart.{MismatchPart}
use Rattle.nv_base.specs.declared.geometry.GeometryNumbers.{GeometryNumbers}
use Rattle.nv_cell.specs.Cell.{CellState}
use Rattle.nv_clean.specs.declared.cleaned.Cleaned.{Cleaned}
use Rattle.nv_machine.specs.Cleaning.{is_thorough}
use Rattle.nv_machine.specs.World.{HandState, Running}
use Rattle.nv_sessions.specs.Ending.{cleaner_of}
use Rattle.nv_sessions.specs.Holding.{Holds, IsCleaned, IsToldFresh, once_asked, wanting}
use Rattle.nv_sessions.specs.Refusing.{MayRefuseSnapshotOrCleaner, snapshot_or_cleaner_faults}
use Rattle.nv_sessions.specs.SessionRuns.{IsBrokenOff}
use Rattle.nv_steps.specs.Hands.{hand_of}
use Rattle.nv_steps.specs.OnList.{FreshPages, IsTaking, IsTold, on_list, once_refused, with_taken}
use Rattle.nv_steps.specs.Planning.{manner_of}
use Rattle.nv_steps.specs.Runs.{Known}
use Rattle.nv_steps.specs.declared.lists.Taken.{Taken}
use Rattle.nv_steps.specs.declared.lists.Taken.TheVariants as taken
use Rattle.nv_steps.specs.declared.planning.Manner.{Manner}
use Rattle.nv_steps.specs.declared.planning.Manner.TheVariants as manner
use Rattle.nv_sessions.proofs.CleaningTurns.{breaks, refuses}
use Rattle.nv_sessions.proofs.Holding.{once_taken}
use Rattle.nv_sessions.proofs.OtherRefusals.{exit_is, one_of}

-- ---- an asking

-- the hand behind it
fresh_hand : (old new : Hand) (room : ℕ) (blocks : List BlockValue) → new ≡ record old { pages = new.pages }
    → new.pages ≡ record old.pages { blocks = old.pages.blocks ++ blocks; room = room }
    → hand_of new ≡ with_taken (FreshPages 0) blocks (hand_of old)
fresh_hand old new room blocks rest queue =
    ap hand_of rest ∙ ap (λ (q : QueueValue). hand_of (record old { pages = q })) queue

pub asked_here : (numbers : GeometryNumbers) (actor : ℕ) (h0 : HandState) (r0 : Running) (ino : ℕ) (known : Known CellState) (r : Running)
    (asked wanted cpu : ℕ) (old new : Hand) (list left : FreeBlocks) (result : Result Taken Fault) → cpu < numbers.cpus
    → OnOk result (IsHomeList numbers cpu list)
    → IfOk result (λ told. IsTaking (FreshPages ino) asked numbers actor (on_list (wanting ino asked wanted r) (hand_of old) cpu list left) told
    (with_taken (FreshPages ino) (take wanted list.blocks) (hand_of old)))
    → OnOk result (new.pages ≡ record old.pages {
      blocks = old.pages.blocks ++ take wanted list.blocks;
      room = old.pages.room - min wanted (length list.blocks);
    }) → new ≡ record old { pages = new.pages }
    → Holds numbers actor h0 r0 ino known (hand_of old) (wanting ino asked wanted r)
    → IfOk result (λ told. Holds numbers actor h0 r0 ino known (hand_of new) (once_asked ino asked told r))
asked_here numbers actor h0 r0 ino known r asked wanted cpu old new list left (Err why) within home taking queue rest holds = tt
asked_here numbers actor h0 r0 ino known r asked wanted cpu old new list left (Ok told) within home taking queue rest holds =
    let blocks = take wanted list.blocks in
    let after : hand_of new ≡ with_taken (FreshPages ino) blocks (hand_of old) =
    fresh_hand old new (old.pages.room - min wanted (length list.blocks)) blocks rest queue in
    subst (λ (h : HandState). Holds numbers actor h0 r0 ino known h (once_asked ino asked told r)) (sym after)
    (once_taken numbers actor h0 r0 ino known (hand_of old) (with_taken (FreshPages ino) blocks (hand_of old)) r asked wanted cpu list left told
    within home holds taking)

pub told_here : (wanted asked lists : ℕ) (old new : QueueValue) (list : FreeBlocks) (result : Result Taken Fault) → wanted ≤ old.room
    → IfOk result (IsTold wanted (length list.blocks) asked lists)
    → OnOk result (new ≡ record old { blocks = old.blocks ++ take wanted list.blocks; room = old.room - min wanted (length list.blocks) })
    → IfOk result (IsToldFresh wanted asked lists old new)
told_here wanted asked lists old new list (Err why) fits told queue = tt
told_here wanted asked lists old new list (Ok taken.All) fits told queue =
    let many = ap (λ (q : QueueValue). length q.blocks) queue in
    omega (arith, told, many, length-append old.blocks (take wanted list.blocks), length-take wanted list.blocks)
told_here wanted asked lists old new list (Ok (taken.Lacks left)) fits told queue =
    let many = ap (λ (q : QueueValue). length q.blocks) queue in
    let room = ap (λ (q : QueueValue). q.room) queue in (
      omega (
        arith,
        told.0,
        told.1,
        many,
        length-append old.blocks (take wanted list.blocks),
        length-take wanted list.blocks,
      ),
      omega (arith, told.0, told.1, room, fits),
      told.2,
    )
told_here wanted asked lists old new list (Ok taken.TooFew) fits told queue = told.1

-- ---- refusals

-- a planning refuses a cleaner by the faults of its list
pub planning_may : (m : Manner) (ino : ℕ) (why : Fault) → (why ≡ fault.Stale) ⊎ (why ≡ out_of_memory)
    → MayRefuseSnapshotOrCleaner (cleaner_of m ino) why
planning_may manner.Fast ino why is =
    one_of (snapshot_or_cleaner_faults (cleaner_of manner.Fast ino)) why fault.Stale out_of_memory (0, omega arith, refl) (1, omega arith, refl) is
planning_may manner.Thorough ino why is =
    one_of (snapshot_or_cleaner_faults (cleaner_of manner.Thorough ino)) why fault.Stale out_of_memory (0, omega arith, refl)
    (2, omega arith, refl) is
planning_may manner.Auto ino why is =
    one_of (snapshot_or_cleaner_faults (cleaner_of manner.Auto ino)) why fault.Stale out_of_memory (0, omega arith, refl) (2, omega arith, refl)
    is

-- so does a taking for one that moves entries
pub taking_may : (m : Manner) (ino : ℕ) (cell : CellState) (why : Fault) (p : MismatchPart) → is_thorough (manner_of m) cell ≡ true
    → (why ≡ fault.NoSpace) ⊎ (why ≡ fault.Mismatch p) → MayRefuseSnapshotOrCleaner (cleaner_of m ino) why
taking_may m ino cell why p moves (inr wrong) = inr (p, wrong)
taking_may manner.Fast ino cell why p moves (inl short) = absurd (false≢true moves)
taking_may manner.Thorough ino cell why p moves (inl short) =
    one_of (snapshot_or_cleaner_faults (cleaner_of manner.Thorough ino)) why fault.NoSpace fault.NoSpace (1, omega arith, refl)
    (1, omega arith, refl) (inl short)
taking_may manner.Auto ino cell why p moves (inl short) =
    one_of (snapshot_or_cleaner_faults (cleaner_of manner.Auto ino)) why fault.NoSpace fault.NoSpace (1, omega arith, refl)
    (1, omega arith, refl) (inl short)

-- a list that is not at home on its CPU is not that which is asked
pub mislaid_here : {A : Type 0} (result : Result A Fault) (numbers : GeometryNumbers) (cpu asked : ℕ) (list : FreeBlocks) → cpu ≡ asked
    → OnErr result (¬ IsHomeList numbers cpu list) → OnErr result ((other : FreeBlocks) × (¬ IsHomeList numbers asked other))
mislaid_here (Ok done) numbers cpu asked list is away = tt
mislaid_here (Err why) numbers cpu asked list is away = (list, subst (λ (n : ℕ). ¬ IsHomeList numbers n list) is away)

-- ---- exits

pub misfit_exit : (numbers : GeometryNumbers) (actor : ℕ) (h0 : HandState) (r0 : Running) (h : HandState) (result : Result Cleaned Fault)
    (why : Fault) (what : MismatchPart) → IsErrAnd result (λ f. f ≡ why) → why ≡ fault.Mismatch what
    → IsBrokenOff numbers actor h0 r0 what → IsCleaned numbers actor h0 r0 result h
misfit_exit numbers actor h0 r0 h result why what is wrong broken =
    subst (λ (x : Result Cleaned Fault). IsCleaned numbers actor h0 r0 x h) (sym (exit_is result why is))
    (breaks numbers actor h0 r0 why what h wrong broken)

pub refused_exit : (numbers : GeometryNumbers) (actor : ℕ) (h0 : HandState) (r0 : Running) (h : HandState) (result : Result Cleaned Fault)
    (why : Fault) → IsErrAnd result (λ f. f ≡ why) → IsCleaned numbers actor h0 r0 (Err why) h → IsCleaned numbers actor h0 r0 result h
refused_exit numbers actor h0 r0 h result why is cleaned =
    subst (λ (x : Result Cleaned Fault). IsCleaned numbers actor h0 r0 x h) (sym (exit_is result why is)) cleaned

pub short_exit : (numbers : GeometryNumbers) (actor : ℕ) (h0 : HandState) (r0 : Running) (ino : ℕ) (known : Known CellState) (h : HandState)
    (r : Running) (why : Fault) (p : MismatchPart) → (why ≡ fault.NoSpace) ⊎ (why ≡ fault.Mismatch p)
    → (why ≡ fault.NoSpace → Holds numbers actor h0 r0 ino known h (once_refused fault.NoSpace r))
    → (why ≡ fault.Mismatch p → IsBrokenOff numbers actor h0 r0 p) → IsCleaned numbers actor h0 r0 (Err why) h
short_exit numbers actor h0 r0 ino known h r why p (inr wrong) holds broken = breaks numbers actor h0 r0 why p h wrong (broken wrong)
short_exit numbers actor h0 r0 ino known h r why p (inl short) holds broken =
    subst (λ (f : Fault). IsCleaned numbers actor h0 r0 (let e : Result Cleaned Fault = Err f in e) h) (sym short)
    (refuses numbers actor h0 r0 ino known h r fault.NoSpace (λ what is. cc) (holds short))
