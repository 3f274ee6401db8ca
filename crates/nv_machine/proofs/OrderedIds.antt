-- Ids rise and epochs never fall.
use Rattle.std.proofs.Common.{Bool, List, None, Option, Some, [], ap, drop, false, get_or-set_other, length, nat_lt, refl, subst, sym, take, true, ℕ, ◌++◌, ◌+◌, ◌<◌, ◌==◌, ◌∙◌, ◌≡◌, ◌≢◌, ◌≤◌}
use Rattle.std.specs.Prelude.{◌||◌}
use Rattle.std.proofs.lemmas.Bool.{false≢true}
use Rattle.nv_alloc.specs.Block.{BlockValue}
use Rattle.nv_alloc.specs.Numbers.{IsRising, has}
use Rattle.nv_book.specs.Book.{BookState}
use Rattle.nv_calls.specs.Slots.{IsBefore, items_for, place_in}
use Rattle.nv_cell.specs.Cell.{CellState}
use Rattle.nv_entry.specs.declared.item.Entry.{Entry}
use Rattle.nv_log.specs.Chain.{ChainState, left_of}
use Rattle.nv_machine.specs.Kinds.{enter_turn, entries_for, with_entries, with_log_pages}
use Rattle.nv_machine.specs.Locks.{commits_at, is_owner}
use Rattle.nv_machine.specs.Order.{AreLogsOrdered, CommitsIn, entries_at, to_append}
use Rattle.nv_machine.specs.Reads.{is_written, pages_needed, slot_at, written_slots}
use Rattle.nv_machine.specs.Sequence.{publishing, retiring}
use Rattle.nv_machine.specs.Step.{kind_turn}
use Rattle.nv_machine.specs.World.{Append, Close, Ends, Enter, HandState, Leave, Make, Moves, Next, Open, Publish, Retire, Running, Shared, SnapshotOrCleanerStep, SnapshotOrCleaner, Turn, Waits, cell_at, go_to, no_cell, with_book, with_cell}
use Rattle.nv_machine.proofs.CellChanges.{cells_after, commit_stays, enters, epoch_stays, holder_stays, makes, removal, clean_cell, clean_slot, is_clean, is_cleaned}
use Rattle.nv_machine.proofs.StepWork.{work, snapshot_or_cleaner_work}
use Rattle.nv_machine.proofs.WorkKeeps.{AfterTurn, snapshot_works, turn_keeps}
use Rattle.nv_machine.proofs.Lists.{drop_apart, has_drop, rising_filter, self}
use Rattle.nv_machine.proofs.StepWays.{IsClearOn}
use Rattle.nv_machine.proofs.LocksAlongCalls.{OnLocks}
use Rattle.nv_machine.proofs.LocksHeld.{Before, locks_kept}
use Rattle.nv_machine.proofs.AppendsToCome.{KeepsNumber, OnOrder, OrderLeft, appended_log, end_shared, entries_more, erased_log, later_epoch, later_too, left_order, none_publishing, none_retiring, not_committing, nothing_left, pages_keep, same_order, still_left}
use Rattle.nv_log.proofs.Flags.{all_left}
use Rattle.nv_log.proofs.Logs.{IsLog-left_of}

-- ---- the kinds of a commit

-- what a commit knows before a step
pub record EnteredAt (s : Shared) (k : Next) (r : Running) : Type 0 where
  pub commit : r.commit ≡ s.book.commit
  pub epoch : r.epoch ≡ s.book.snaps.epoch
  pub earlier : (ino : ℕ) → has (to_append k (written_slots r)) ino ≡ true → IsBefore r.commit r.epoch (entries_at s ino)

-- a commit that has appended all
entered_on : (s t : Shared) (k next : Next) (r : Running) → EnteredAt s k r → KeepsNumber s t
    → to_append next (written_slots r) ≡ [] → CommitsIn t (Some (go_to next r))
entered_on s t k next r own kept none e = record {
  commit = own.commit ∙ sym kept.commit;
  epoch = own.epoch ∙ sym kept.epoch;
  earlier = λ ino there. absurd (nothing_left next (written_slots r) ino none there);
}

same_number : (s : Shared) → KeepsNumber s s
same_number s = record { commit = refl; epoch = refl }

or_first : (b c : Bool) → b ≡ true → (b || c) ≡ true
or_first b c e = rw e refl

or_second : (b c : Bool) → c ≡ true → (b || c) ≡ true
or_second true c e = refl
or_second false c e = e

-- one cell gets its entries
appended_cell : (s : Shared) (r : Running) (slot : ℕ) (blocks pages : List BlockValue) → r.commit ≡ s.book.commit
    → r.epoch ≡ s.book.snaps.epoch → IsBefore r.commit r.epoch (entries_at s slot)
    → IsBefore (s.book.commit + 1) s.book.snaps.epoch
    (with_entries (entries_for r slot) blocks (with_log_pages pages (cell_at s slot))).chain.entries
appended_cell s r slot blocks pages c e early =
    let same : (with_entries (entries_for r slot) blocks (with_log_pages pages (cell_at s slot))).chain.entries
    ≡ entries_at s slot ++ entries_for r slot =
    entries_more (entries_for r slot) blocks (with_log_pages pages (cell_at s slot))
    ∙ ap (λ (l : List Entry). l ++ entries_for r slot) (pages_keep pages (cell_at s slot)) in
    subst (λ (l : List Entry). IsBefore (s.book.commit + 1) s.book.snaps.epoch l) (sym same)
    (subst (λ (n : ℕ). IsBefore (n + 1) s.book.snaps.epoch (entries_at s slot ++ entries_for r slot)) c
    (subst (λ (n : ℕ). IsBefore (r.commit + 1) n (entries_at s slot ++ entries_for r slot)) e
    (appended_log r.commit r.epoch (place_in r.plan slot) (items_for r.plan slot) (entries_at s slot) early)))

-- and those that are yet to be appended to have none of its commit
others_early : (s : Shared) (k : Next) (r : Running) (place slot : ℕ) (cell : CellState)
    → slot_at (written_slots r) place ≡ slot → IsRising (written_slots r) → place < length (written_slots r)
    → ((ino : ℕ) → has (drop place (written_slots r)) ino ≡ true → IsBefore r.commit r.epoch (entries_at s ino))
    → (ino : ℕ) → has (drop (place + 1) (written_slots r)) ino ≡ true → IsBefore r.commit r.epoch (entries_at (with_cell slot cell s) ino)
others_early s k r place slot cell is rising inside early ino there =
    let other : ino ≢ slot = λ same. false≢true
    (sym (drop_apart place (written_slots r) rising inside)
    ∙ ap (λ (n : ℕ). has (drop (place + 1) (written_slots r)) n) (is ∙ sym same) ∙ there) in
    subst (λ (x : CellState). IsBefore r.commit r.epoch x.chain.entries) (sym (get_or-set_other s.cells slot ino cell no_cell other))
    (early ino (has_drop place (written_slots r) ino inside
    ∙ or_second (slot_at (written_slots r) place == ino) (has (drop (place + 1) (written_slots r)) ino) there))

-- what a cleaning leaves of a log in order is in order
left_in_order : (commit epoch : ℕ) (flags : List Bool) (es : List Entry) → IsBefore commit epoch es
    → IsBefore commit epoch (left_of flags es)
left_in_order commit epoch flags es is = record {
  ordered = IsLog-left_of flags es is.ordered;
  earlier = all_left (λ (e : Entry). (e.id.commit < commit) × (e.epoch ≤ epoch)) flags es is.earlier;
}

clean_order : (k : Next) (s : Shared) (h : HandState) → is_clean k ≡ true
    → IsBefore (s.book.commit + 1) s.book.snaps.epoch (cell_at s (clean_slot k)).chain.entries
    → IsBefore (s.book.commit + 1) s.book.snaps.epoch (clean_cell k s h).chain.entries
clean_order k s h is was =
    let c = is_cleaned k s h is in
    subst (IsBefore (s.book.commit + 1) s.book.snaps.epoch) (sym c.entries)
    (left_in_order (s.book.commit + 1) s.book.snaps.epoch c.flags (cell_at s (clean_slot k)).chain.entries was)

-- a kind that keeps number and epoch leaves logs in order
kept_order : (k : Next) (block a : ℕ) (s : Shared) (h : HandState) (r : Running) → enters k ≡ false → makes k ≡ false → Before a s k r
    → (commits_at k ≡ true → EnteredAt s k r) → AreLogsOrdered s → OrderLeft a s (work k block a s h r).shared
kept_order k block a s h r out same b own logs = record { logs = in_order; others = λ o ne held. number } where
  t : Shared
  t = (work k block a s h r).shared

  number : KeepsNumber s t
  number = record { commit = commit_stays k block a s h r out; epoch = epoch_stays k block a s h r same }

  each : (ino : ℕ) → IsBefore (s.book.commit + 1) s.book.snaps.epoch (entries_at t ino)
  each =
      cells_after (λ (ino : ℕ) (c : CellState). IsBefore (s.book.commit + 1) s.book.snaps.epoch c.chain.entries) block a s h r logs k b
      (record {
        appends = λ place is lt low.
            let slot = slot_at (written_slots r) place in
            let mine = own (ap commits_at is) in
            let here : has (drop place (written_slots r)) slot ≡ true =
            has_drop place (written_slots r) slot lt
            ∙ or_first (slot == slot) (has (drop (place + 1) (written_slots r)) slot) (self slot) in
            appended_cell s r slot h.blocks (take (pages_needed s r.plan slot) h.pages) mine.commit mine.epoch
            (mine.earlier slot (subst (λ (k : Next). has (to_append k (written_slots r)) slot ≡ true) (sym is) here));
        publishes = λ place is lt low. logs (slot_at (written_slots r) place);
        removes = λ is low left.
            let x = removal k s h r in
            erased_log (s.book.commit + 1) s.book.snaps.epoch x.cell
            (subst (λ (c : ChainState). IsBefore (s.book.commit + 1) s.book.snaps.epoch c.entries) (sym left.keeps.chain) (logs x.slot));
        cleans = λ is low. clean_order k s h is (logs (clean_slot k));
      })

  in_order : AreLogsOrdered t
  in_order ino = subst (λ (n : ℕ). IsBefore (n + 1) t.book.snaps.epoch (entries_at t ino)) (sym number.commit)
      (subst (λ (n : ℕ). IsBefore (s.book.commit + 1) n (entries_at t ino)) (sym number.epoch) (each ino))

-- the commit lock is nobody's before an enter that goes on
not_held : (a : ℕ) (s : Shared) → s.holder ≡ None → is_owner a s.holder ≡ false
not_held a s e = ap (is_owner a) e

pub stays_order : (a : ℕ) (s : Shared) → AreLogsOrdered s → OrderLeft a s s
stays_order a s logs = same_order a s s logs refl (λ ino. refl)

enter_order : (a : ℕ) (holder : Option ℕ) (last granted : Bool) (s : Shared) (h : HandState) (r : Running) (w : Type 0)
    → s.holder ≡ holder → AreLogsOrdered s
    → OnLocks a s w (enter_turn holder last granted a s h r) → OnOrder a s (enter_turn holder last granted a s h r)
enter_order a (Some other) last granted s h r w e logs on = tt
enter_order a None true granted s h r w e logs on = left_order a s s w _ (stays_order a s logs) (not_held a s e)
    (end_shared r.slots _ s h r) on
enter_order a None false false s h r w e logs on = left_order a s s w _ (stays_order a s logs) (not_held a s e)
    (end_shared r.slots _ s h r) on
enter_order a None false true s h r w e logs on = (
  record {
    logs = λ ino. later_too (s.book.commit + 1) s.book.snaps.epoch (entries_at s ino) (logs ino);
    others = λ b ne held. absurd (false≢true (sym (not_held b s e) ∙ held));
  },
  λ c. record { commit = refl; epoch = refl; earlier = λ ino there. logs ino },
)

-- ---- the kinds of calls on snapshots

-- an epoch begins while nobody has the commit lock
make_order : (a : ℕ) (s : Shared) (book : BookState) → s.holder ≡ None → AreLogsOrdered s → book.commit ≡ s.book.commit
    → book.snaps.epoch ≡ s.book.snaps.epoch + 1 → OrderLeft a s (with_book book s)
make_order a s book free logs commit next = record {
  logs = λ ino. subst (λ (n : ℕ). IsBefore (n + 1) book.snaps.epoch (entries_at s ino)) (sym commit)
      (subst (λ (n : ℕ). IsBefore (s.book.commit + 1) n (entries_at s ino)) (sym next)
      (later_epoch (s.book.commit + 1) s.book.snaps.epoch (entries_at s ino) (logs ino)));
  others = λ b ne held. absurd (false≢true (sym (not_held b s free) ∙ held));
}

-- what is left outside of a commit
from_left : (a : ℕ) (s : Shared) (w : Type 0) (turn : Turn) → is_owner a s.holder ≡ false
    → AfterTurn (λ t h. OrderLeft a s t × (is_owner a t.holder ≡ false)) turn → OnLocks a s w turn → OnOrder a s turn
from_left a s w (Moves t h q) out left on = (left.0, not_committing t a q on.1 left.1)
from_left a s w Waits out left on = tt
from_left a s w (Ends result t h) out left on = left.0

snapshot_order : (step : SnapshotOrCleanerStep) (block a : ℕ) (s : Shared) (h : HandState) (r : Running) → Before a s (SnapshotOrCleaner step) r
    → AreLogsOrdered s → IsClearOn step s
    → let t = (snapshot_or_cleaner_work step a s h).shared in OrderLeft a s t × (is_owner a t.holder ≡ false)
snapshot_order Make block a s h r b logs clear = (make_order a s _ clear.0 logs refl refl, b.mine.holder)
snapshot_order other block a s h r b logs clear =
    (kept_order (SnapshotOrCleaner other) block a s h r refl refl b (λ c. absurd (false≢true c)) logs, b.mine.holder)

-- ---- every kind

pub order_kept : (k : Next) (block a : ℕ) (granted : Bool) (s : Shared) (h : HandState) (r : Running) → Before a s k r
    → (commits_at k ≡ true → EnteredAt s k r) → AreLogsOrdered s
    → OnOrder a s (kind_turn k block a granted s h r)
order_kept Enter block a granted s h r b own logs = enter_order a s.holder _ granted s h r _ refl logs
    (locks_kept Enter block a granted s h r b)
order_kept (Append place) block a granted s h r b own logs = (
  kept_order (Append place) block a s h r refl refl b own logs,
  λ e.
      let mine = own refl in record {
        commit = mine.commit;
        epoch = mine.epoch;
        earlier = λ ino there. others_early s (Append place) r place (slot_at (written_slots r) place) _ refl
            (rising_filter (is_written r.plan) r.slots b.are.rising) b.inside mine.earlier ino
            (still_left (place + 1) (written_slots r) (nat_lt (place + 1) (length (written_slots r))) ino there);
      },
)
order_kept Open block a granted s h r b own logs = (
  kept_order Open block a s h r refl refl b own logs,
  entered_on s _ Open (publishing 0 (written_slots r)) r (own refl) (record { commit = refl; epoch = refl })
      (none_publishing 0 (written_slots r) (nat_lt 0 (length (written_slots r)))),
)
order_kept (Publish place) block a granted s h r b own logs = (
  kept_order (Publish place) block a s h r refl refl b own logs,
  entered_on s _ (Publish place) (publishing (place + 1) (written_slots r)) r (own refl) (record { commit = refl; epoch = refl })
      (none_publishing (place + 1) (written_slots r) (nat_lt (place + 1) (length (written_slots r)))),
)
order_kept Close block a granted s h r b own logs = (
  kept_order Close block a s h r refl refl b own logs,
  entered_on s _ Close (retiring 0 (written_slots r)) r (own refl) (record { commit = refl; epoch = refl })
      (none_retiring 0 (written_slots r) (nat_lt 0 (length (written_slots r)))),
)
order_kept (Retire place) block a granted s h r b own logs = (
  kept_order (Retire place) block a s h r refl refl b own logs,
  entered_on s _ (Retire place) (retiring (place + 1) (written_slots r)) r (own refl) (record { commit = refl; epoch = refl })
      (none_retiring (place + 1) (written_slots r) (nat_lt (place + 1) (length (written_slots r)))),
)
order_kept Leave block a granted s h r b own logs =
    left_order a s (record s { holder = None }) _ _ (kept_order Leave block a s h r refl refl b own logs) refl
    (end_shared r.slots _ _ h r) (locks_kept Leave block a granted s h r b)
order_kept (SnapshotOrCleaner step) block a granted s h r b own logs =
    from_left a s _ _ b.mine.holder
    (snapshot_works (λ t h. OrderLeft a s t × (is_owner a t.holder ≡ false)) step a granted s h r
    (stays_order a s logs, b.mine.holder) (snapshot_order step block a s h r b logs))
    (locks_kept (SnapshotOrCleaner step) block a granted s h r b)
order_kept other block a granted s h r b own logs =
    from_left a s _ _ b.mine.holder
    (turn_keeps (λ t h. OrderLeft a s t × (is_owner a t.holder ≡ false)) other block a granted s h r
    (stays_order a s logs, b.mine.holder) (
      kept_order other block a s h r refl refl b own logs,
      ap (is_owner a) (holder_stays other block a s h r refl) ∙ b.mine.holder,
    ))
    (locks_kept other block a granted s h r b)
