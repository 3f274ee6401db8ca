-- In every world a noted tail is no further than the cell's own, and each cell has its blocks once.
use Rattle.std.proofs.Common.{◌≡◌, ℕ, ◌∙◌, Bool, true, false, Option, Some, None, ap, arith, length, nat_lt, refl, subst, sym}
use Rattle.std.proofs.lemmas.Bool.{eq-eqb, false≢true}
use Rattle.nv_machine.specs.Kept.{AreClosed, IsNotedIf, Knows, KnowsOf}
use Rattle.nv_machine.specs.Locks.{HoldsIts, commits_at, commits_by, is_owner}
use Rattle.nv_machine.specs.Reached.{IsReached}
use Rattle.nv_machine.specs.Reads.{written_slots}
use Rattle.nv_machine.specs.World as machine
use Rattle.nv_machine.specs.World.{Append, ReturnNumber, Check, Close, Enter, Give, HandState, Leave, Lock, Look, Next, Number, Open, Publish, Ready, Retire, Running, Shared, SnapshotOrCleaner, TakeBlocks, TakeLogPages, Unlock, Visit, actor_at, cell_at}
use Rattle.nv_machine.proofs.SlotsBeforeCheck.{own_bytes}
use Rattle.nv_machine.proofs.EveryWorld.{reached}
use Rattle.nv_machine.proofs.Journals.{closed_tail}
use Rattle.nv_core.proofs.SettledPages.{IsTailWithin, none_out}
use Rattle.nv_core.specs.Settled.{AreSettled}
use Rattle.nv_core.specs.Shown.{shared_of}
use Rattle.nv_core.specs.Visits.{HasOwnBytes}
use Rattle.nv_core.specs.Worlds.{IsWorld, WorldState}

-- ---- by what is known of journals

closed_within : (s : Shared) (ino : ℕ) → AreClosed s.book.journals → IsTailWithin s ino
closed_within s ino closed = omega (arith, closed_tail s.book.journals ino (cell_at s ino).chain.tail closed)

noted_within : (several : Bool) (s : Shared) (ino cpu : ℕ) (r : Running) → IsNotedIf several s cpu (written_slots r) → IsTailWithin s ino
noted_within true s ino cpu r noted = noted.older ino
noted_within false s ino cpu r closed = closed_within s ino closed

-- a commit under way knows it at each of its steps
commit_within : (k : Next) (block cpu ino : ℕ) (s : Shared) (h : HandState) (r : Running) → commits_at k ≡ true → Knows k block s cpu h r
    → IsTailWithin s ino
commit_within Number block cpu ino s h r commits knows = absurd (false≢true commits)
commit_within (Look place) block cpu ino s h r commits knows = absurd (false≢true commits)
commit_within (Lock place) block cpu ino s h r commits knows = absurd (false≢true commits)
commit_within Check block cpu ino s h r commits knows = absurd (false≢true commits)
commit_within (TakeBlocks asked) block cpu ino s h r commits knows = absurd (false≢true commits)
commit_within (TakeLogPages asked) block cpu ino s h r commits knows = absurd (false≢true commits)
commit_within Ready block cpu ino s h r commits knows = absurd (false≢true commits)
commit_within Enter block cpu ino s h r commits knows = absurd (false≢true commits)
commit_within (Append place) block cpu ino s h r commits knows = closed_within s ino knows.2
commit_within Open block cpu ino s h r commits knows = closed_within s ino knows.2
commit_within (Publish place) block cpu ino s h r commits knows =
    noted_within (nat_lt 1 (length (written_slots r))) s ino cpu r knows.2
commit_within Close block cpu ino s h r commits knows = knows.2.older ino
commit_within (Retire place) block cpu ino s h r commits knows = closed_within s ino knows.2
commit_within Leave block cpu ino s h r commits knows = closed_within s ino knows.1
commit_within (Unlock place) block cpu ino s h r commits knows = absurd (false≢true commits)
commit_within (Give home) block cpu ino s h r commits knows = absurd (false≢true commits)
commit_within ReturnNumber block cpu ino s h r commits knows = absurd (false≢true commits)
commit_within Visit block cpu ino s h r commits knows = absurd (false≢true commits)
commit_within (SnapshotOrCleaner step) block cpu ino s h r commits knows = absurd (false≢true commits)

call_within : (running : Option Running) (block cpu ino : ℕ) (s : Shared) (h : HandState) → commits_by running ≡ true
    → KnowsOf running block s cpu h → IsTailWithin s ino
call_within None block cpu ino s h commits knows = absurd (false≢true commits)
call_within (Some r) block cpu ino s h commits knows = commit_within r.next block cpu ino s h r commits knows

-- ---- in every world of the machine

-- no journal is open where nobody holds the commit lock; who holds it knows of its journal
holder_within : (w : machine.World) (holder : Option ℕ) → IsReached w → w.shared.holder ≡ holder → (ino : ℕ) → IsTailWithin w.shared ino
holder_within w None is e ino = closed_within w.shared ino (is.kept.logs.closed e)
holder_within w (Some actor) is e ino =
    let holds : HoldsIts w.shared actor (actor_at w actor).running = is.locks.each actor in
    let commits : commits_by (actor_at w actor).running ≡ true =
    sym holds.holder ∙ ap (is_owner actor) e ∙ eq-eqb actor actor refl in
    call_within (actor_at w actor).running w.numbers.block _ ino w.shared (actor_at w actor).hand commits (is.kept.each actor)

tail_within : (w : machine.World) → IsReached w → (ino : ℕ) → IsTailWithin w.shared ino
tail_within w is ino = holder_within w w.shared.holder is refl ino

-- ---- in every world

-- a world of the machine that is reached is shown
shows_reached : (P : Shared → Type 0) → ((w : machine.World) → IsReached w → P w.shared) → (w : WorldState) → IsWorld w
    → P (shared_of w.shared)
shows_reached P all w is =
    let g = w.shared.geometry.numbers in
    let m : IsReached is.0 = subst IsReached (sym is.2.reached) (reached g is.1.start is.1.records is.1.events is.2.is_start) in
    subst P (sym is.2.shows.shared) (all is.0 m)

pub noted_tail_within : (w : WorldState) → IsWorld w → (ino : ℕ) → IsTailWithin (shared_of w.shared) ino
noted_tail_within w is ino = shows_reached (λ s. IsTailWithin s ino) (λ m r. tail_within m r ino) w is

pub has_own_bytes : (w : WorldState) → IsWorld w → (ino : ℕ) → HasOwnBytes (shared_of w.shared) ino
has_own_bytes w is ino = shows_reached (λ s. HasOwnBytes s ino) (λ m r. own_bytes m r ino) w is

pub are_settled : (w : WorldState) → IsWorld w → AreSettled (shared_of w.shared)
are_settled w is ino lt =
    let tail = noted_tail_within w is ino in
    record { tail = tail; own = has_own_bytes w is ino; pages = none_out w is ino tail }
