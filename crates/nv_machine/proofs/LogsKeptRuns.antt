-- Settled logs are kept whatever events come, and nodes change at commit points alone.
use Rattle.std.proofs.Common.{Bool, List, None, Option, Some, ap, arith, false, length, nat_lt, refl, subst, sym, true, ℕ, ◌%◌, ◌<◌, ◌∙◌, ◌≡◌, ◌≢◌, ◌≤◌}
use Rattle.std.specs.Prelude.{unwrap_or}
use Rattle.std.proofs.lemmas.Bool.{eq-eqb, false≢true}
use Rattle.nv_base.specs.declared.numbers.Handle.{Handle}
use Rattle.nv_calls.specs.declared.call.Call.{Call}
use Rattle.nv_cell.specs.declared.killed.KilledPart.{KilledPart}
use Rattle.nv_journal.specs.Journal.{settled_tail}
use Rattle.nv_machine.specs.Effects.{AreSound}
use Rattle.nv_machine.specs.Kept.{AreBlocksApart, AreKilledIn, HasNoted, HasNothing, IsKept, IsNotedIf, IsReleaseCoveredBy, Knows, KnowsOf}
use Rattle.nv_machine.specs.Hands.{unpublished_by}
use Rattle.nv_machine.proofs.BlockNumbers.{lent_settled}
use Rattle.nv_machine.proofs.Cleanable.{cleanable}
use Rattle.nv_machine.specs.Locks.{AreLocks, HoldsIts, commits_at, commits_by, held_at, is_owner}
use Rattle.nv_machine.specs.Order.{IsInOrder}
use Rattle.nv_machine.specs.PlainRun.{PlainChange, plain_change_by, plain_change_of, keeps_nodes}
use Rattle.nv_machine.specs.Reads.{is_written, slots_of, written_slots}
use Rattle.nv_machine.specs.Sequence.{Beginning, Locks, Maintains, Visits, beginning, begun, nothing_looked}
use Rattle.nv_machine.specs.Settled.{settled_nodes}
use Rattle.nv_machine.specs.Shapes.{AreShaped}
use Rattle.nv_machine.specs.Step.{after, step, turned}
use Rattle.nv_machine.specs.World.{Actor, Append, Close, Ends, Event, HandState, Leave, Moves, Next, Open, Publish, Retire, Running, Shared, Turn, Waits, World, actor_at, cell_at, empty_hand, owner_at}
use Rattle.nv_machine.proofs.LogsKeptByCommits.{OnKept, same_killed}
use Rattle.nv_machine.proofs.OverEvents.{event_by, event_deed, events_by, set_begun, set_one, turn_at, with_call}
use Rattle.nv_machine.proofs.LogsInOrder.{events_order}
use Rattle.nv_machine.proofs.LogsKeptTurns.{Standing, kept_turn}
use Rattle.nv_machine.proofs.CallKnowledge.{locking_knows}
use Rattle.nv_machine.proofs.LocksOverEvents.{before, events_locks}
use Rattle.nv_machine.proofs.LogsKept.{KeptLeft, SameLogs, same_nodes}
use Rattle.nv_alloc.specs.Numbers.{has}
use Rattle.nv_machine.proofs.Lists.{has_filter, has_later}
use Rattle.nv_machine.proofs.LogTails.{has_front}
use Rattle.nv_machine.proofs.LocksHeld.{slot_owned}
use Rattle.nv_machine.proofs.Journals.{closed_tail}

-- ---- what another actor knows stays

-- journals, and the cells of these slots, that are as they were
abbrev SameParts : Shared → Shared → List ℕ → Type 0
SameParts s t slots = (t.book.journals ≡ s.book.journals) × ((ino : ℕ) → has slots ino ≡ true → cell_at t ino ≡ cell_at s ino)

their_killed : (s t : Shared) (all slots : List ℕ) (killed : List (List KilledPart)) → SameParts s t all
    → ((ino : ℕ) → has slots ino ≡ true → has all ino ≡ true) → AreKilledIn s slots killed → AreKilledIn t slots killed
their_killed s t all slots killed same among h = same_killed s t slots killed (λ ino there. same.1 ino (among ino there)) h

-- a slot that is not written has its own tail, whatever that is
their_older : (s t : Shared) (cpu : ℕ) (written : List ℕ) → SameParts s t written → HasNoted s cpu written → (ino : ℕ)
    → settled_tail s.book.journals ino (cell_at t ino).chain.tail ≤ (cell_at t ino).chain.tail
their_older s t cpu written same h ino = go (has written ino) refl where
  go : (b : Bool) → has written ino ≡ b
      → settled_tail s.book.journals ino (cell_at t ino).chain.tail ≤ (cell_at t ino).chain.tail
  go true there = rw (same.1 ino there) (h.older ino)
  go false out = let own = h.free ino (cell_at t ino).chain.tail out in omega (arith, own)

their_noted : (s t : Shared) (cpu : ℕ) (written : List ℕ) → SameParts s t written → HasNoted s cpu written → HasNoted t cpu written
their_noted s t cpu written same h = record {
  alone = rw (same.0) h.alone;
  noted = rw (same.0) h.noted;
  free = rw (same.0) h.free;
  older = λ ino. rw (same.0) (their_older s t cpu written same h ino);
}

their_if : (b : Bool) (s t : Shared) (cpu : ℕ) (written : List ℕ) → SameParts s t written → IsNotedIf b s cpu written
    → IsNotedIf b t cpu written
their_if true s t cpu written same h = their_noted s t cpu written same h
their_if false s t cpu written same h = rw (same.0) h

module _ (block : ℕ) (s t : Shared) (cpu : ℕ) (h : HandState) (r : Running) where
  their_knows : (k : Next) → (commits_at k ≡ true → SameParts s t (written_slots r)) → Knows k block s cpu h r → Knows k block t cpu h r
  their_knows (Append place) same k = (k.0, k.1, rw ((same refl).0) k.2, k.3)
  their_knows Open same k = (k.0, k.1, rw ((same refl).0) k.2, k.3)
  their_knows (Publish place) same k = (
    their_killed s t (written_slots r) _ h.killed (same refl) (has_front place (written_slots r)) k.0,
    k.1,
    their_if (nat_lt 1 (length (written_slots r))) s t cpu (written_slots r)
        (same refl) k.2,
  )
  their_knows Close same k = (
    their_killed s t (written_slots r) (written_slots r) h.killed (same refl) (λ ino there. there) k.0,
    k.1,
    their_noted s t cpu (written_slots r) (same refl) k.2,
  )
  their_knows (Retire place) same k = (
    their_killed s t (written_slots r) _ h.killed (same refl) (has_later place (written_slots r)) k.0,
    k.1,
    rw ((same refl).0) k.2,
  )
  their_knows Leave same k = (k.0, rw ((same refl).0) k.1)
  their_knows other same k = k

-- a commit holds the slots that it writes
commit_held : (k : Next) (r : Running) (ino : ℕ) → commits_at k ≡ true → has (written_slots r) ino ≡ true
    → has (held_at k r.slots) ino ≡ true
commit_held (Append place) r ino e there = has_filter (is_written r.plan) r.slots ino there
commit_held Open r ino e there = has_filter (is_written r.plan) r.slots ino there
commit_held (Publish place) r ino e there = has_filter (is_written r.plan) r.slots ino there
commit_held Close r ino e there = has_filter (is_written r.plan) r.slots ino there
commit_held (Retire place) r ino e there = has_filter (is_written r.plan) r.slots ino there
commit_held Leave r ino e there = has_filter (is_written r.plan) r.slots ino there
commit_held other r ino e there = cc

their_own : (a b block : ℕ) (s t : Shared) (h : HandState) (running : Option Running) → b ≢ a → KeptLeft a s t → HoldsIts s b running
    → KnowsOf running block s (b % length s.lists) h → KnowsOf running block t (b % length t.lists) h
their_own a b block s t h None ne left holds k = tt
their_own a b block s t h (Some r) ne left holds k =
    rw (left.cpus) (their_knows block s t (b % length s.lists) h r r.next (λ e.
    let all = left.others b ne (holds.holder ∙ e) in
    (all.0, λ ino there. all.1 ino (slot_owned b s r ino holds (commit_held r.next r ino e there)))) k)

-- ---- all actors

abbrev KnowsBy : ℕ → ℕ → Shared → Actor → Type 0
KnowsBy block b s x = KnowsOf x.running block s (b % length s.lists) x.hand

turned_kept : (same : Bool) (t : Turn) (actor : ℕ) (w : World) → actor < length w.actors → AreLocks w → IsKept w
    → OnKept same w.numbers.block actor w.shared t → IsKept (turned t actor w).world
turned_kept same (Moves s h r) actor w there locks kept on = record {
  logs = on.0.logs;
  each = set_one (KnowsBy w.numbers.block) w actor (with_call h (Some r)) s there (rw (on.0.cpus) (on.2))
      (λ b ne. their_own actor b w.numbers.block w.shared s (actor_at w b).hand (actor_at w b).running ne on.0 (locks.each b) (kept.each b));
  some = kept.some;
}
turned_kept same Waits actor w there locks kept on = kept
turned_kept same (Ends result s h) actor w there locks kept on = record {
  logs = on.0.logs;
  each = set_one (KnowsBy w.numbers.block) w actor (with_call h None) s there tt
      (λ b ne. their_own actor b w.numbers.block w.shared s (actor_at w b).hand (actor_at w b).running ne on.0 (locks.each b) (kept.each b));
  some = kept.some;
}

same_logs : (s : Shared) → SameLogs s s
same_logs s = record { nodes = λ ino generation. refl; shaped = λ block are. are; sound = λ sound. sound }

turned_nodes : (t : Turn) (block actor : ℕ) (w : World) → OnKept true block actor w.shared t
    → SameLogs w.shared (turned t actor w).world.shared
turned_nodes (Moves s h r) block actor w on = on.1 refl
turned_nodes Waits block actor w on = same_logs _
turned_nodes (Ends result s h) block actor w on = on.1 refl

-- ---- one event

-- no journal notes a slot that another actor than the committing one holds
module _ (w : World) (locks : AreLocks w) (kept : IsKept w) (actor ino : ℕ) (mine : owner_at w.shared ino ≡ Some actor)
    (out : is_owner actor w.shared.holder ≡ false) where
  abbrev OwnTail : Type 0
  OwnTail = (tail : ℕ) → settled_tail w.shared.book.journals ino tail ≡ tail

  not_written : (b : ℕ) (r : Running) → b ≢ actor → HoldsIts w.shared b (Some r) → commits_at r.next ≡ true
      → has (written_slots r) ino ≡ false
  not_written b r ne holds e = go (has (written_slots r) ino) refl where
    go : (c : Bool) → has (written_slots r) ino ≡ c → c ≡ false
    go false there = refl
    go true there =
        absurd (ne (ap (λ (o : Option ℕ). unwrap_or o 0)
        (sym (slot_owned b w.shared r ino holds (commit_held r.next r ino e there)) ∙ mine)))

  noted_tail : (b : Bool) (cpu : ℕ) (written : List ℕ) → has written ino ≡ false → IsNotedIf b w.shared cpu written → OwnTail
  noted_tail true cpu written none noted = λ tail. noted.free ino tail none
  noted_tail false cpu written none closed = λ tail. closed_tail w.shared.book.journals ino tail closed

  known_tail : (k : Next) (cpu : ℕ) (h : HandState) (r : Running) → commits_at k ≡ true → has (written_slots r) ino ≡ false
      → Knows k w.numbers.block w.shared cpu h r → OwnTail
  known_tail (Append place) cpu h r e none k = noted_tail false cpu (written_slots r) none k.2
  known_tail Open cpu h r e none k = noted_tail false cpu (written_slots r) none k.2
  known_tail (Publish place) cpu h r e none k = noted_tail _ cpu (written_slots r) none k.2
  known_tail Close cpu h r e none k = noted_tail true cpu (written_slots r) none k.2
  known_tail (Retire place) cpu h r e none k = noted_tail false cpu (written_slots r) none k.2
  known_tail Leave cpu h r e none k = noted_tail false cpu (written_slots r) none k.1
  known_tail other cpu h r e none k = cc

  by_holder : (holder : Option ℕ) → w.shared.holder ≡ holder → OwnTail
  by_holder None e = λ tail. closed_tail w.shared.book.journals ino tail (kept.logs.closed e)
  by_holder (Some b) e = by_call (actor_at w b).running refl where
    ne : b ≢ actor
    ne is = false≢true (sym out ∙ ap (is_owner actor) e ∙ eq-eqb b actor is)

    commits : commits_by (actor_at w b).running ≡ true
    commits = sym (locks.each b).holder ∙ ap (is_owner b) e ∙ eq-eqb b b refl

    by_call : (running : Option Running) → (actor_at w b).running ≡ running → OwnTail
    by_call None none = absurd (false≢true (sym (ap commits_by none) ∙ commits))
    by_call (Some r) some =
        let at : commits_at r.next ≡ true = sym (ap commits_by some) ∙ commits in
        let holds : HoldsIts w.shared b (Some r) = subst (λ (o : Option Running). HoldsIts w.shared b o) some (locks.each b) in
        known_tail r.next (b % length w.shared.lists) (actor_at w b).hand r at (not_written b r ne holds at)
        (subst (λ (o : Option Running). KnowsOf o w.numbers.block w.shared (b % length w.shared.lists) (actor_at w b).hand) some
        (kept.each b))

  pub own_tail : OwnTail
  own_tail = by_holder w.shared.holder refl

-- what the call of an actor knows
pub known_at : (w : World) (actor : ℕ) (r : Running) → IsKept w → (actor_at w actor).running ≡ Some r
    → Knows r.next w.numbers.block w.shared (actor % length w.shared.lists) (actor_at w actor).hand r
known_at w actor r kept is =
    subst (λ (running : Option Running).
    KnowsOf running w.numbers.block w.shared (actor % length w.shared.lists) (actor_at w actor).hand) is (kept.each actor)

pub standing : (w : World) (actor : ℕ) (r : Running) → AreLocks w → IsInOrder w → IsKept w → AreBlocksApart w
    → (actor_at w actor).running ≡ Some r
    → Standing r.next w.numbers.block actor w.shared (actor_at w actor).hand r
standing w actor r locks order kept apart is = record {
  before = before w actor r locks is;
  kept = kept.logs;
  logs = order.logs;
  apart = apart.cells;
  small = apart.small actor;
  some = kept.some;
  knows = known_at w actor r kept is;
  releases = subst (λ (running : Option Running). IsReleaseCoveredBy w.shared running) is (apart.releases actor);
  tails = λ ino mine out. own_tail w locks kept actor ino mine out;
  published = λ ino mine none. lent_settled w actor ino locks apart.tails mine
      (ap (λ (o : Option Running). has (unpublished_by o) ino) is ∙ none);
  ready = cleanable w actor r apart.cleanable is;
}

begun_knows : (b : Beginning) (block cpu : ℕ) (s : Shared) (c : Call) (h : HandState) → HasNothing h
    → Knows (begun b s c).next block s cpu h (begun b s c)
begun_knows Locks block cpu s c h none =
    locking_knows block cpu 0 (slots_of s None nothing_looked c) s h (begun Locks s c) none refl
begun_knows Visits block cpu s c h none = tt
begun_knows (Maintains what) block cpu s c h none = tt
begun_knows other block cpu s c h none = (none, refl)

empty_nothing : (h : HandState) → h ≡ empty_hand → HasNothing h
empty_nothing h e = record { blocks = ap (λ (x : HandState). x.blocks) e; killed = ap (λ (x : HandState). x.killed) e }

module _ (w : World) (locks : AreLocks w) (order : IsInOrder w) (kept : IsKept w) (apart : AreBlocksApart w) where
  stands : (actor : ℕ) (granted : Bool) (r : Running) → (actor_at w actor).running ≡ Some r
      → OnKept (keeps_nodes (plain_change_by (Some r) w actor granted)) w.numbers.block actor w.shared (turn_at w actor granted r)
  stands actor granted r is =
      kept_turn r.next w.numbers.block actor granted w.shared (actor_at w actor).hand r (standing w actor r locks order kept apart is)

  pub event_kept : (e : Event) → IsKept (step w e).world
  event_kept e = event_by IsKept w kept e
      (λ actor c there is. record {
        logs = kept.logs;
        each = set_begun (KnowsBy w.numbers.block) w actor c there
            (begun_knows (beginning c) w.numbers.block _ w.shared c (actor_at w actor).hand
            (empty_nothing (actor_at w actor).hand (apart.idle actor is))) kept.each;
        some = kept.some;
      })
      (λ actor granted r there is. turned_kept _ (turn_at w actor granted r) actor w there locks kept (stands actor granted r is))

  event_nodes : (e : Event) → keeps_nodes (plain_change_of w e) ≡ true → SameLogs w.shared (step w e).world.shared
  event_nodes e = event_deed (λ (d : PlainChange) (v : World). keeps_nodes d ≡ true → SameLogs w.shared v.shared) w
      (λ keeps. same_logs w.shared) e (λ actor c there is keeps. same_logs w.shared)
      (λ actor granted r there is keeps. turned_nodes (turn_at w actor granted r) w.numbers.block actor w
      (subst (λ (b : Bool). OnKept b w.numbers.block actor w.shared (turn_at w actor granted r)) keeps (stands actor granted r is)))

pub shapes_stay : (w : World) (e : Event) → AreLocks w → IsInOrder w → IsKept w → AreBlocksApart w → keeps_nodes (plain_change_of w e) ≡ true
    → (block : ℕ) → AreShaped block w.shared → AreShaped block (step w e).world.shared
shapes_stay w e locks order kept apart same = (event_nodes w locks order kept apart e same).shaped

pub nodes_stay : (w : World) (e : Event) → AreLocks w → IsInOrder w → IsKept w → AreBlocksApart w → keeps_nodes (plain_change_of w e) ≡ true
    → (handle : Handle) → settled_nodes (step w e).world.shared handle ≡ settled_nodes w.shared handle
nodes_stay w e locks order kept apart same = same_nodes w.shared (step w e).world.shared
    (event_nodes w locks order kept apart e same).nodes

pub sound_stays : (w : World) (e : Event) → AreLocks w → IsInOrder w → IsKept w → AreBlocksApart w → keeps_nodes (plain_change_of w e) ≡ true
    → AreSound w.shared → AreSound (step w e).world.shared
sound_stays w e locks order kept apart same = (event_nodes w locks order kept apart e same).sound

-- ---- all events

pub events_kept : (events : List Event) (w : World) → AreLocks w → IsInOrder w → IsKept w
    → ((before : List Event) → AreBlocksApart (after w before)) → IsKept (after w events)
events_kept events w locks order kept apart =
    events_by (λ (v : World). AreLocks v × IsInOrder v × AreBlocksApart v) IsKept
    (λ v e is k. event_kept v is.0 is.1 k is.2 e) events w
    (λ before. (events_locks before w locks, events_order before w locks order, apart before)) kept
