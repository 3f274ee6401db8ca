-- What stands past the settled logs after a step of each kind, and that a commit point settles it.
use Rattle.std.proofs.Common.{Bool, List, None, Option, Some, ap, arith, false, length, mod-lt, nat_lt, refl, subst, sym, true, ℕ, ◌%◌, ◌++◌, ◌<◌, ◌∙◌, ◌≡◌}
use Rattle.std.proofs.lemmas.Bool.{lt-ltb}
use Rattle.nv_alloc.specs.Numbers.{has}
use Rattle.nv_cell.specs.Cell.{CellState, published}
use Rattle.nv_machine.specs.Grown.{AreGrown, HasGrown, HasGrownBy, IsAllSettled, fresh_entries}
use Rattle.nv_machine.specs.Kept.{AreClosed, AreLogsKept, HasNoted, IsKept, IsNotedIf, Knows, KnowsOf}
use Rattle.nv_machine.specs.Kinds.{enter_turn, first_killed}
use Rattle.nv_machine.specs.Locks.{AreLocks, AreSlots, commits_at, is_owner}
use Rattle.nv_machine.specs.PlainRun.{Commits, plain_change, plain_change_of}
use Rattle.nv_machine.specs.Reads.{is_written, slot_at, written_slots}
use Rattle.nv_machine.specs.Sequence.{appending}
use Rattle.nv_machine.specs.Settled.{settled}
use Rattle.nv_machine.specs.Step.{Step, kind_turn, step, turn, turned}
use Rattle.nv_machine.specs.World.{Append, Close, Ends, Enter, Go, HandState, Leave, Moves, Next, Open, Publish, Retire, Running, Shared, SnapshotOrCleaner, Turn, Waits, World, actor_at, cell_at, owner_at}
use Rattle.nv_machine.proofs.EndingsStay.{deed_is, entered_none, is_single, no_commit, no_commit_on}
use Rattle.nv_machine.proofs.SingleEvents.{go_is_turn}
use Rattle.nv_machine.proofs.UnsettledLogs.{AllQuiet, OnGrown, all_settled, is_settled, not_appended, not_behind, quiet_grown, quiet_kind, still_quiet}
use Rattle.nv_machine.proofs.LogsKeptTurns.{same_still}
use Rattle.nv_machine.proofs.Lists.{has_filter, written_inside}
use Rattle.nv_machine.proofs.LocksAlongCalls.{OnLocks}
use Rattle.nv_machine.proofs.LocksHeld.{Before, locks_kept, owner_is}
use Rattle.nv_machine.proofs.LocksOverEvents.{before}
use Rattle.nv_machine.proofs.LogsKept.{Still, cell_set}
use Rattle.nv_machine.proofs.AppendsToCome.{OnShared, end_shared}
use Rattle.nv_machine.proofs.CommitPoints.{SettlesAll, append_grown, close_grown, close_settles, open_grown, publish_grown, retire_grown, single_grown, single_settles}
use Rattle.nv_machine.proofs.UnsettledEntries.{tests_appending}

-- ---- every kind

-- what a step may rely on
pub record Standing (k : Next) (block a : ℕ) (s : Shared) (h : HandState) (r : Running) : Type 0 where
  pub before : Before a s k r
  pub kept : AreLogsKept s
  pub knows : Knows k block s (a % length s.lists) h r
  pub free : (ino : ℕ) → owner_at s ino ≡ None → IsAllSettled s ino
  pub grown : HasGrown k s a r

module _ (k : Next) (block a : ℕ) (s : Shared) (h : HandState) (r : Running) (st : Standing k block a s h r) where
  slots_are : AreSlots (length s.cells) r.slots
  slots_are = subst (λ (n : ℕ). AreSlots n r.slots) st.before.wide st.before.are

  inside_cpu : a % length s.lists < length s.book.journals
  inside_cpu = omega (arith, st.kept.wide, mod-lt a st.kept.some)

  -- a step outside of a commit finds all logs settled
  mine : commits_at k ≡ false → (ino : ℕ) → owner_at s ino ≡ Some a → IsAllSettled s ino
  mine e ino q = is_settled k s a r st.grown ino (not_appended k (written_slots r) ino e) (not_behind k (written_slots r) ino e) q

  -- what is written is locked
  own_slots : ((ino : ℕ) → has r.slots ino ≡ is_owner a (owner_at s ino)) → (ino : ℕ) → has (written_slots r) ino ≡ true
      → owner_at s ino ≡ Some a
  own_slots held ino there = owner_is a (owner_at s ino) (sym (held ino) ∙ has_filter (is_written r.plan) r.slots ino there)

shared_still : (a : ℕ) (s t : Shared) (turn : Turn) → Still s t → is_owner a t.holder ≡ false → OnShared t turn → AllQuiet a s turn
shared_still a s t (Moves u h q) still out e =
    (still_quiet a s u (subst (Still s) (sym e) still), subst (λ (x : Shared). is_owner a x.holder ≡ false) (sym e) out)
shared_still a s t Waits still out e = tt
shared_still a s t (Ends result u h) still out e =
    (still_quiet a s u (subst (Still s) (sym e) still), subst (λ (x : Shared). is_owner a x.holder ≡ false) (sym e) out)

enter_grown : (holder : Option ℕ) (last granted : Bool) (a : ℕ) (s : Shared) (h : HandState) (r : Running) (waits : Type 0)
    → s.holder ≡ holder
    → ((ino : ℕ) → owner_at s ino ≡ None → IsAllSettled s ino) → ((ino : ℕ) → owner_at s ino ≡ Some a → IsAllSettled s ino)
    → OnLocks a s waits (enter_turn holder last granted a s h r) → OnGrown a s (enter_turn holder last granted a s h r)
enter_grown (Some other) last granted a s h r waits e free own on = tt
enter_grown None true granted a s h r waits e free own on =
    quiet_grown a s waits _ free own (shared_still a s s _ (same_still s) (ap (is_owner a) e) (end_shared r.slots _ s h r)) on
enter_grown None false false a s h r waits e free own on =
    quiet_grown a s waits _ free own (shared_still a s s _ (same_still s) (ap (is_owner a) e) (end_shared r.slots _ s h r)) on
enter_grown None false true a s h r waits e free own on = (
  record { cells = λ ino out. refl; logs = λ ino out. refl },
  (λ ino q. record { entries = (free ino q).entries; tail = (free ino q).tail }),
  all_settled (appending 0 (written_slots r)) _ a _ (λ ino. (tests_appending 0 (written_slots r)).appended ino)
      (λ ino q. record { entries = (own ino q).entries; tail = (own ino q).tail }),
)

noted_if : (b : Bool) (s : Shared) (cpu : ℕ) (written : List ℕ) → IsNotedIf b s cpu written → b ≡ true → HasNoted s cpu written
noted_if true s cpu written n e = n
noted_if false s cpu written n e = cc

closed_if : (b : Bool) (s : Shared) (cpu : ℕ) (written : List ℕ) → IsNotedIf b s cpu written → b ≡ false → AreClosed s.book.journals
closed_if true s cpu written n e = cc
closed_if false s cpu written n e = n

-- a publish is under a journal or alone
publish_either : (b : Bool) (place block a : ℕ) (s : Shared) (h : HandState) (r : Running) (st : Standing (Publish place) block a s h r)
    → nat_lt 1 (length (written_slots r)) ≡ b → OnGrown a s (kind_turn (Publish place) block a true s h r)
publish_either true place block a s h r st e =
    publish_grown a s h r st.kept (slots_are (Publish place) block a s h r st)
    (own_slots (Publish place) block a s h r st (λ ino. sym (st.before.mine.owners ino))) st.free
    place st.before.inside (noted_if _ s _ _ st.knows.2 e) e st.grown
publish_either false place block a s h r st e =
    single_grown a s h r st.kept (slots_are (Publish place) block a s h r st)
    (own_slots (Publish place) block a s h r st (λ ino. sym (st.before.mine.owners ino))) st.free
    place st.before.inside (closed_if _ s _ _ st.knows.2 e) e st.grown

pub grown_turn : (k : Next) (block a : ℕ) (granted : Bool) (s : Shared) (h : HandState) (r : Running) → Standing k block a s h r
    → OnGrown a s (kind_turn k block a granted s h r)
grown_turn Enter block a granted s h r st = enter_grown s.holder _ granted a s h r _ refl st.free (mine Enter block a s h r st refl)
    (locks_kept Enter block a granted s h r st.before)
grown_turn (Append place) block a granted s h r st =
    append_grown a s h r st.kept (slots_are (Append place) block a s h r st)
    (own_slots (Append place) block a s h r st (λ ino. sym (st.before.mine.owners ino))) st.free
    place st.before.inside _ st.knows.2 st.grown
grown_turn Open block a granted s h r st =
    open_grown a s h r st.kept (slots_are Open block a s h r st)
    (own_slots Open block a s h r st (λ ino. sym (st.before.mine.owners ino))) st.free
    st.knows.2 st.knows.3 (inside_cpu Open block a s h r st) st.grown
grown_turn (Publish place) block a granted s h r st = publish_either (nat_lt 1 (length (written_slots r))) place block a s h r st refl
grown_turn Close block a granted s h r st =
    close_grown a s h r st.kept (slots_are Close block a s h r st)
    (own_slots Close block a s h r st (λ ino. sym (st.before.mine.owners ino))) st.free
    st.knows.2 st.grown
grown_turn (Retire place) block a granted s h r st =
    retire_grown a s h r st.kept (slots_are (Retire place) block a s h r st)
    (own_slots (Retire place) block a s h r st (λ ino. sym (st.before.mine.owners ino))) st.free
    place st.before.inside (first_killed h.killed) st.grown
grown_turn Leave block a granted s h r st = quiet_grown a s _ _ st.free
    (λ ino q. is_settled Leave s a r st.grown ino refl refl q)
    (shared_still a s (record s { holder = None }) _ (record { cells = λ ino. refl; journals = refl; cpus = refl }) refl
    (end_shared r.slots _ _ h r))
    (locks_kept Leave block a granted s h r st.before)
grown_turn other block a granted s h r st =
    quiet_kind other block a granted s h r st.before refl refl refl st.before.mine.holder st.free (mine other block a s h r st refl)

-- ---- a commit point

-- a cell with the same blocks
pub record IsSameCell (old new : CellState) : Type 0 where
  pub generation : new.generation ≡ old.generation
  pub block : new.block ≡ old.block
  pub blocks : new.blocks ≡ old.blocks

abbrev pub SameBlocks : Shared → Shared → Type 0
SameBlocks s t = (ino : ℕ) → IsSameCell (cell_at s ino) (cell_at t ino)

abbrev OnSettling : Shared → Running → Turn → Type 0
OnSettling s r (Moves t h q) = SettlesAll s t r × SameBlocks s t
OnSettling s r Waits = ⊥
OnSettling s r (Ends result t h) = ⊥

commit_settles : (k : Next) (block a : ℕ) (granted : Bool) (s : Shared) (h : HandState) (r : Running) → Standing k block a s h r
    → plain_change k (written_slots r) (kind_turn k block a granted s h r) ≡ Commits → OnSettling s r (kind_turn k block a granted s h r)
commit_settles Close block a granted s h r st e = (
  close_settles a s h r st.kept (slots_are Close block a s h r st)
      (own_slots Close block a s h r st (λ ino. sym (st.before.mine.owners ino))) st.free
      st.knows.2 st.grown,
  λ ino. record { generation = refl; block = refl; blocks = refl },
)
commit_settles (Publish place) block a granted s h r st e =
    let one = is_single (nat_lt 1 (length (written_slots r))) e in
    let slot = slot_at (written_slots r) place in (
      single_settles a s h r st.kept (slots_are (Publish place) block a s h r st)
          (own_slots (Publish place) block a s h r st (λ ino. sym (st.before.mine.owners ino))) st.free
          place st.before.inside (closed_if _ s _ _ st.knows.2 one) one st.grown,
      λ ino. cell_set s slot (published (cell_at s slot)) ino (IsSameCell (cell_at s ino))
          (written_inside (length s.cells) r place (slots_are (Publish place) block a s h r st) st.before.inside)
          (λ is. subst (λ (n : ℕ). IsSameCell (cell_at s n) (published (cell_at s slot))) is
          (record { generation = refl; block = refl; blocks = refl }))
          (λ ne. record { generation = refl; block = refl; blocks = refl }),
    )
commit_settles Enter block a granted s h r st e = absurd (entered_none _ e)
commit_settles (SnapshotOrCleaner step) block a granted s h r st e = absurd (no_commit_on step _ e)
commit_settles other block a granted s h r st e = absurd (no_commit e)

turned_settles : (t : Turn) (actor : ℕ) (w : World) (r : Running) → OnSettling w.shared r t
    → SettlesAll w.shared (turned t actor w).world.shared r × SameBlocks w.shared (turned t actor w).world.shared
turned_settles (Moves s h q) actor w r on = on
turned_settles Waits actor w r on = absurd on
turned_settles (Ends result s h) actor w r on = absurd on

pub standing : (w : World) (actor : ℕ) (r : Running) → AreLocks w → IsKept w → AreGrown w → (actor_at w actor).running ≡ Some r
    → Standing r.next w.numbers.block actor w.shared (actor_at w actor).hand r
standing w actor r locks kept grown is = record {
  before = before w actor r locks is;
  kept = kept.logs;
  knows = subst (λ (running : Option Running). KnowsOf running w.numbers.block w.shared (actor % length w.shared.lists)
      (actor_at w actor).hand) is
      (kept.each actor);
  free = grown.free;
  grown = subst (λ (running : Option Running). HasGrownBy running w.shared actor) is (grown.each actor);
}

pub point_shared : (w : World) (actor : ℕ) (granted : Bool) (r : Running) → AreLocks w → IsKept w → AreGrown w → actor < length w.actors
    → (actor_at w actor).running ≡ Some r → plain_change_of w (Go actor granted) ≡ Commits
    → SettlesAll w.shared (step w (Go actor granted)).world.shared r × SameBlocks w.shared (step w (Go actor granted)).world.shared
point_shared w actor granted r locks kept grown there is e =
    let inside = lt-ltb actor (length w.actors) there in
    let t = turn w.numbers.block actor granted w.shared (actor_at w actor).hand r in
    subst (λ (made : Step). SettlesAll w.shared made.world.shared r × SameBlocks w.shared made.world.shared)
    (sym (go_is_turn (nat_lt actor (length w.actors)) (actor_at w actor).running w actor granted r inside is))
    (turned_settles t actor w r (commit_settles r.next w.numbers.block actor granted w.shared (actor_at w actor).hand r
    (standing w actor r locks kept grown is)
    (sym (deed_is (nat_lt actor (length w.actors)) (actor_at w actor).running w actor granted r inside is) ∙ e)))

pub point_settles : (w : World) (actor : ℕ) (granted : Bool) (r : Running) → AreLocks w → IsKept w → AreGrown w → actor < length w.actors
    → (actor_at w actor).running ≡ Some r → plain_change_of w (Go actor granted) ≡ Commits
    → (ino : ℕ) → settled (step w (Go actor granted)).world.shared ino
    ≡ settled w.shared ino ++ fresh_entries (has (written_slots r) ino) r ino
point_settles w actor granted r locks kept grown there is e = (point_shared w actor granted r locks kept grown there is e).0
