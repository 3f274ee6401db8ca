-- A call that enters.
use Rattle.std.proofs.Common.{◌≡◌, ℕ, ◌+◌, ◌≤◌, ◌%◌, ◌∙◌, ◌⊎◌, inl, inr, Bool, List, Option, Result, Ok, Err, Some, None, true, false, ap, arith, length, nat_le, refl, subst, sym}
use Rattle.std.proofs.lemmas.List.{length-map}
use Rattle.std.proofs.lemmas.Bool.{le-leb, leb-true}
use Rattle.nv_alloc.specs.declared.hand.Hand.{Hand}
use Rattle.nv_base.specs.declared.fault.Fault.{Fault}
use Rattle.nv_base.specs.declared.fault.Fault.TheVariants.{CommitLimit}
use Rattle.nv_base.specs.Memory.{out_of_memory}
use Rattle.nv_base.specs.declared.limits.TheConstants.{NUMBER}
use Rattle.nv_book.specs.Book.{BookValue, after_enter}
use Rattle.nv_calls.specs.Commit.{CommitValue, begun, stamp_of}
use Rattle.nv_calls.specs.Ready.{CellCommitValue, ReadyValue}
use Rattle.nv_machine.specs.Kinds.{enter_turn, refuse}
use Rattle.nv_machine.specs.Reads.{slot_at, written_slots}
use Rattle.nv_machine.specs.World.{Moves, Next, Refuses, Turn, go_to}
use Rattle.nv_machine.specs.World as machine
use Rattle.nv_core.specs.Shown.{ShownCall, hand_in, hand_of, shared_of, shown, shown_commit, shown_ready, slots_in}
use Rattle.nv_core.specs.GhostCalls.{IsCommitOf, IsEither, IsReadyOf, entered}
use Rattle.nv_core.specs.declared.running.Running.{Running}
use Rattle.nv_core.specs.declared.shared.Shared.{Shared}
use Rattle.nv_core.proofs.Ends.{end_anywhere}
use Rattle.nv_core.proofs.Sequence.{appends_next}
use Rattle.nv_calls.specs.CanCommit.{AllowsCommit, CanCommit}
use Rattle.nv_calls.specs.SlotCells.{lent_cells}
use Rattle.nv_calls.proofs.PlannedCommits.{can_commit}
use Rattle.nv_cell.specs.Cell.{CellValue}
use Rattle.nv_core.specs.Rooms.{CanEnd, HasRooms, IsNoVisit, LooksAsTold}
use Rattle.nv_core.specs.Steps.{CanEnter}
use Rattle.nv_core.specs.declared.reservation.Reservation.TheVariants as reserved
use Rattle.nv_core.specs.declared.request.Request.{Request}
use Rattle.nv_core.specs.declared.request.Request.TheVariants as request
use Rattle.nv_core.specs.declared.next.Ending.{Ending}
use Rattle.nv_core.specs.declared.next.Ending.TheVariants as ending
use Rattle.nv_core.proofs.Phases.{begins}

pub enters : (shared : Shared) (ready : ReadyValue) (running : Running) (actor need : ℕ) (book : BookValue) (commit : CommitValue)
    (told : ShownCall)
    → shared.holder ≡ None → nat_le NUMBER shared.book.state.commit ≡ false
    → book ≡ record { state = after_enter actor shared.book.state; room = need } → commit ≡ begun (stamp_of book.state) ready
    → IsReadyOf (slots_in running.slots) ready told
    → enter_turn shared.holder (nat_le NUMBER shared.book.state.commit) true actor (shared_of shared) (hand_of ready.hand)
    (shown_ready told running)
    ≡ Moves (shared_of (record shared { book = book; holder = Some actor })) (hand_in commit)
    (shown_commit commit (entered shared.book.state told) running)
enters shared ready running actor need book commit told free below after begins is =
    let s = shared_of shared in
    let h = hand_of ready.hand in
    let r = shown_ready told running in
    let last : BookValue = record { state = after_enter actor shared.book.state; room = need } in
    let first : CommitValue = begun (stamp_of last.state) ready in
    let many : length (written_slots r) ≡ length ready.plans = ap (λ (xs : List ℕ). length xs) is.written
    ∙ length-map ready.plans (λ (p : CellCommitValue). slot_at (slots_in running.slots) p.at) in
    let same : commit ≡ first = begins ∙ ap (λ (b : BookValue). begun (stamp_of b.state) ready) after in
    ap (λ (x : Option ℕ). enter_turn x (nat_le NUMBER shared.book.state.commit) true actor s h r) free
    ∙ ap (λ (b : Bool). enter_turn None b true actor s h r) below
    ∙ ap (λ (next : Next). Moves (record s { book = after_enter actor s.book; holder = Some actor }) h
    (go_to next (record r { commit = s.book.commit + 1; epoch = s.book.snaps.epoch })))
    (appends_next first (written_slots r) many refl refl refl)
    ∙ sym (ap (λ (b : BookValue). Moves (shared_of (record shared { book = b; holder = Some actor })) (hand_in commit)
    (shown_commit commit (entered shared.book.state told) running)) after
    ∙ ap (λ (c : CommitValue). Moves (shared_of (record shared { book = last; holder = Some actor })) (hand_in c)
    (shown_commit c (entered shared.book.state told) running)) same)

pub begun_commit : (shared : Shared) (ready : ReadyValue) (running : Running) (actor need : ℕ) (book : BookValue) (commit : CommitValue)
    (told : ShownCall) → book ≡ record { state = after_enter actor shared.book.state; room = need } → commit ≡ begun (stamp_of book.state) ready
    → IsReadyOf (slots_in running.slots) ready told → IsCommitOf (slots_in running.slots) commit (entered shared.book.state told)
begun_commit shared ready running actor need book commit told after begins is =
    let last : BookValue = record { state = after_enter actor shared.book.state; room = need } in
    let same : commit ≡ begun (stamp_of last.state) ready = begins ∙ ap (λ (b : BookValue). begun (stamp_of b.state) ready) after in
    let P : CommitValue → Type 0 = λ c. IsCommitOf (slots_in running.slots) c (entered shared.book.state told) in
    subst P (sym same) (record { number = refl; epoch = refl; plans = is })

pub last_below : {T : Type 0} (result : Result T Fault) (commit last : ℕ) (value : T) → result ≡ Ok value → last ≡ commit → last ≤ NUMBER
    → (commit ≡ NUMBER → result ≡ Err CommitLimit) → nat_le NUMBER commit ≡ false
last_below result commit last value ok same fits limit = go (nat_le NUMBER commit) refl where
  go : (b : Bool) → nat_le NUMBER commit ≡ b → b ≡ false
  go true q =
      let above = leb-true NUMBER commit q in
      let is : commit ≡ NUMBER = omega (arith, above, same, fits) in
      let both = sym ok ∙ limit is in cc
  go false q = refl

-- why it is refused: for the last number, or for want of memory where there is another
abbrev pub Why : Fault → ℕ → Type 0
Why fault commit =
    ((fault ≡ CommitLimit) × (nat_le NUMBER commit ≡ true)) ⊎ ((fault ≡ out_of_memory) × (nat_le NUMBER commit ≡ false))

pub told_why : {T : Type 0} (result : Result T Fault) (fault : Fault) (commit last : ℕ) → result ≡ Err fault
    → (result ≡ Err CommitLimit → commit ≡ NUMBER) → (commit ≡ NUMBER → result ≡ Err CommitLimit)
    → (fault ≡ CommitLimit) ⊎ (fault ≡ out_of_memory) → last ≡ commit → last ≤ NUMBER → Why fault commit
told_why result fault commit last is limit at (inl e) same fits =
    let full = limit (is ∙ ap Err e) in inl (e, le-leb NUMBER commit (omega (arith, full)))
told_why result fault commit last is limit at (inr e) same fits = go (nat_le NUMBER commit) refl where
  go : (b : Bool) → nat_le NUMBER commit ≡ b → Why fault commit
  go true q =
      let above = leb-true NUMBER commit q in
      let full : commit ≡ NUMBER = omega (arith, above, same, fits) in
      let both = sym is ∙ at full in absurd (cc (both, e))
  go false q = inr (e, q)

pub refuses : (shared : Shared) (hand : Hand) (running : Running) (actor : ℕ) (book : BookValue) (given : Hand) (told : ShownCall)
    (fault : Fault)
    (turn : Turn) → shared.holder ≡ None → book ≡ shared.book → given ≡ hand
    → refuse fault (shared_of (record shared { book = book })) (hand_of given) (shown told running) ≡ turn
    → Why fault shared.book.state.commit
    → IsEither (λ granted. enter_turn shared.holder (nat_le NUMBER shared.book.state.commit) granted actor (shared_of shared) (hand_of hand)
    (shown_ready told running)) turn
refuses shared hand running actor book given told fault turn free same held refused why = go why where
  settled : refuse fault (shared_of shared) (hand_of hand) (shown_ready told running) ≡ turn
  settled =
      end_anywhere (slots_in running.slots) (Refuses fault) (shared_of shared) (hand_of hand) (shown told running) machine.Enter
      ∙ sym (ap (λ (b : BookValue). refuse fault (shared_of (record shared { book = b })) (hand_of given) (shown told running)) same
      ∙ ap (λ (x : Hand). refuse fault (shared_of shared) (hand_of x) (shown told running)) held)
      ∙ refused

  step : (b granted : Bool) → nat_le NUMBER shared.book.state.commit ≡ b
      → enter_turn shared.holder (nat_le NUMBER shared.book.state.commit) granted actor (shared_of shared) (hand_of hand)
      (shown_ready told running)
      ≡ enter_turn None b granted actor (shared_of shared) (hand_of hand) (shown_ready told running)
  step b granted q =
      ap (λ (x : Option ℕ). enter_turn x (nat_le NUMBER shared.book.state.commit) granted actor (shared_of shared) (hand_of hand)
      (shown_ready told running)) free
      ∙ ap (λ (c : Bool). enter_turn None c granted actor (shared_of shared) (hand_of hand) (shown_ready told running)) q

  go : Why fault shared.book.state.commit
      → IsEither (λ granted. enter_turn shared.holder (nat_le NUMBER shared.book.state.commit) granted actor (shared_of shared)
      (hand_of hand)
      (shown_ready told running)) turn
  go (inl w) =
      inl (step true true w.1 ∙ ap (λ (f : Fault). refuse f (shared_of shared) (hand_of hand) (shown_ready told running)) (sym w.0)
      ∙ settled)
  go (inr w) =
      inr (step false false w.1 ∙ ap (λ (f : Fault). refuse f (shared_of shared) (hand_of hand) (shown_ready told running)) (sym w.0)
      ∙ settled)

-- ---- what holds of the call beside

-- a call whose request its commit has can end
pub given_ends : (running : Running) (how : Ending) → running.request ≡ request.Taken → (how ≡ ending.BoundAnew → ⊥) → CanEnd running how
given_ends running how given other = record {
  request = subst IsNoVisit (sym given) tt;
  looks = subst (λ (j : Request). LooksAsTold j running.looked) (sym given) tt;
  overtaken = λ is. absurd (other is);
}

-- what was ready is committed from its begin on
pub entered_rooms : (shared : Shared) (running : Running) (ready : ReadyValue) (actor need : ℕ) (book : BookValue) (commit : CommitValue)
    → HasRooms shared (reserved.Ready ready) running → need ≡ ready.need → CanEnter shared running ready actor
    → book ≡ record { state = after_enter actor shared.book.state; room = need } → commit ≡ begun (stamp_of book.state) ready
    → HasRooms (record shared { book = book; holder = Some actor }) (reserved.Commit commit) running
entered_rooms shared running ready actor need book commit rooms enough enter after begins_is =
    let last : BookValue = record { state = after_enter actor shared.book.state; room = need } in
    let cells : List (ℕ × CellValue) = lent_cells (slots_in running.slots) shared.cells.items in
    let cpu : ℕ = actor % length shared.lists.items in
    let over = rooms.3 in
    let allows : AllowsCommit cells last cpu ready = record {
      entered = (actor, (shared.book.state, refl));
      take = enter.take;
      records = omega (arith, enough);
      cpu_is = enter.cpu;
      closed = enter.closed;
    } in
    let can : CanCommit cells last cpu ready =
    can_commit over.cells cells over.hand over.update last cpu ready over.can over.more over.is allows in
    let first : CommitValue = begun (stamp_of last.state) ready in
    let same : commit ≡ first = begins_is ∙ ap (λ (b : BookValue). begun (stamp_of b.state) ready) after in
    subst (λ (b : BookValue). HasRooms (record shared { book = b; holder = Some actor }) (reserved.Commit commit) running) (sym after)
    (subst (λ (c : CommitValue). HasRooms (record shared { book = last; holder = Some actor }) (reserved.Commit c) running) (sym same)
    (rooms.0, rooms.1, rooms.2, begins cpu cells last ready can))
