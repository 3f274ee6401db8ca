-- What a step leaves of versions: a publish counts one more, in a slot that has not seen its commit.
use Rattle.std.proofs.Common.{◌≡◌, ℕ, ◌+◌, ◌<◌, ◌≤◌, ◌==◌, ◌∙◌, Bool, true, false, List, [], ◌∷◌, Option, Some, None, ap, arith, drop, if◌then◌else◌, length, nat_lt, refl, subst, sym, take}
use Rattle.std.specs.Prelude.{nat_le}
use Rattle.std.proofs.lemmas.Bool.{false≢true, leb-false}
use Rattle.nv_alloc.specs.Block.{BlockValue}
use Rattle.nv_alloc.specs.Numbers.{has}
use Rattle.nv_base.specs.declared.limits.TheConstants.{NUMBER}
use Rattle.nv_calls.proofs.Next.{by_erased}
use Rattle.nv_cell.specs.Append.{appended, blocks_for}
use Rattle.nv_cell.specs.Cell.{CellState, published}
use Rattle.nv_entry.specs.Blocks.{item_blocks}
use Rattle.nv_entry.specs.declared.item.Entry.{Entry}
use Rattle.nv_machine.specs.Frame.{IsFramed, Lent, Stays, lent}
use Rattle.nv_machine.specs.Kinds.{enter_turn, entries_for, with_entries, with_log_pages}
use Rattle.nv_machine.specs.Locks.{AreSlots, HoldsIts, commits_at, held_at, is_owner}
use Rattle.nv_machine.specs.Reads.{is_written, pages_needed, slot_at, written_slots}
use Rattle.nv_machine.specs.Sequence.{closing, opening, publishing, retiring}
use Rattle.nv_machine.specs.Step.{kind_turn}
use Rattle.nv_machine.specs.Versions.{AreVersions, HasUnseen, to_publish}
use Rattle.nv_machine.specs.World.{Append, Close, Ends, Enter, HandState, Leave, Moves, Next, Open, Publish, Retire, Running, Shared, Turn, Waits, cell_at, Make, SnapshotOrCleaner}
use Rattle.nv_machine.proofs.AppendsToCome.{OnShared, end_shared}
use Rattle.nv_machine.proofs.StepFrames.{framed}
use Rattle.nv_machine.proofs.LocksAlongCalls.{OnLocks}
use Rattle.nv_machine.proofs.StepWork.{work}
use Rattle.nv_machine.proofs.WorkKeeps.{AfterTurn, end_keeps, turn_keeps}
use Rattle.nv_machine.proofs.Lists.{drop_apart, has_drop, has_filter, has_later, or_right, rising_filter, self, written_inside}
use Rattle.nv_machine.proofs.LocksHeld.{Before, locks_kept}
use Rattle.nv_machine.proofs.LogsKept.{cell_set}
use Rattle.nv_machine.proofs.WrittenSlots.{written_there}
use Rattle.nv_machine.proofs.CellChanges.{cells_after, commit_stays, enters, removal, clean_slot, is_cleaned}

-- ---- cells

paged_version : (pages : List BlockValue) (cell : CellState) → (with_log_pages pages cell).version ≡ cell.version
paged_version [] cell = refl
paged_version (b ∷ pages) cell = paged_version pages _

more_version : (entries : List Entry) (blocks : List BlockValue) (cell : CellState)
    → (with_entries entries blocks cell).version ≡ cell.version
more_version [] blocks cell = refl
more_version (e ∷ entries) blocks cell =
    more_version entries (drop (length (item_blocks e.item)) blocks) (appended e (blocks_for e.item blocks) cell)

appended_version : (entries : List Entry) (blocks pages : List BlockValue) (cell : CellState)
    → (with_entries entries blocks (with_log_pages pages cell)).version ≡ cell.version
appended_version entries blocks pages cell = more_version entries blocks (with_log_pages pages cell) ∙ paged_version pages cell

-- ---- what a commit has yet to publish

none_retiring : (place : ℕ) (written : List ℕ) (b : Bool) → to_publish (if b then Retire place else Leave) written ≡ []
none_retiring place written true = refl
none_retiring place written false = refl

none_closing : (written : List ℕ) (b : Bool) → to_publish (if b then Close else retiring 0 written) written ≡ []
none_closing written true = refl
none_closing written false = none_retiring 0 written (nat_lt 0 (length written))

none_has : (list : List ℕ) (ino : ℕ) → list ≡ [] → has list ino ≡ true → ⊥
none_has list ino e there = false≢true (sym (ap (λ (l : List ℕ). has l ino) e) ∙ there)

left_publishing : (place : ℕ) (written : List ℕ) (b : Bool) (ino : ℕ)
    → has (to_publish (if b then Publish place else closing written) written) ino ≡ true → has (drop place written) ino ≡ true
left_publishing place written true ino there = there
left_publishing place written false ino there =
    absurd (none_has (to_publish (closing written) written) ino (none_closing written (nat_lt 1 (length written))) there)

left_opening : (written : List ℕ) (b : Bool) (ino : ℕ)
    → has (to_publish (if b then Open else publishing 0 written) written) ino ≡ true → has written ino ≡ true
left_opening written true ino there = there
left_opening written false ino there = left_publishing 0 written (nat_lt 0 (length written)) ino there

left_appending : (place : ℕ) (written : List ℕ) (b : Bool) (ino : ℕ)
    → has (to_publish (if b then Append place else opening written) written) ino ≡ true → has written ino ≡ true
left_appending place written true ino there = there
left_appending place written false ino there = left_opening written (nat_lt 1 (length written)) ino there

-- these are slots that it holds
pub publish_held : (next : Next) (r : Running) (ino : ℕ) → has (to_publish next (written_slots r)) ino ≡ true
    → has (held_at next r.slots) ino ≡ true
publish_held (Append place) r ino there = has_filter (is_written r.plan) r.slots ino there
publish_held Open r ino there = has_filter (is_written r.plan) r.slots ino there
publish_held (Publish place) r ino there = has_filter (is_written r.plan) r.slots ino (has_later place (written_slots r) ino there)
publish_held other r ino there = absurd (false≢true there)

-- ---- the call that moves

abbrev pub OnUnseen : Turn → Type 0
OnUnseen (Moves t h q) = HasUnseen t q
OnUnseen Waits = Unit {0}
OnUnseen (Ends result t h) = Unit {0}

not_committing : (t : Shared) (a : ℕ) (q : Running) → HoldsIts t a (Some q) → is_owner a t.holder ≡ false → HasUnseen t q
not_committing t a q own out e = absurd (false≢true (sym out ∙ own.holder ∙ e))

-- one that isn't lent the commit lock, and doesn't hold it
quiet : (a : ℕ) (s : Shared) (w : Type 0) (l : Lent) (t : Turn) → is_owner a s.holder ≡ false → l.commit_lock ≡ false
    → IsFramed l s t → OnLocks a s w t → OnUnseen t
quiet a s w l (Moves t h q) out none f on =
    not_committing t a q on.1 (ap (is_owner a) (subst (λ (b : Bool). Stays b (t.holder ≡ s.holder)) none f.holder) ∙ out)
quiet a s w l Waits out none f on = tt
quiet a s w l (Ends result t h) out none f on = tt

-- the last steps of a call
ended : (a : ℕ) (s t : Shared) (w : Type 0) (turn : Turn) → is_owner a t.holder ≡ false → OnShared t turn → OnLocks a s w turn
    → OnUnseen turn
ended a s t w (Moves u h q) out same on =
    not_committing u a q on.1 (subst (λ (x : Shared). is_owner a x.holder ≡ false) (sym same) out)
ended a s t w Waits out same on = tt
ended a s t w (Ends result u h) out same on = tt

enter_unseen : (a : ℕ) (holder : Option ℕ) (last granted : Bool) (s : Shared) (h : HandState) (r : Running) (w : Type 0)
    → s.holder ≡ holder → AreVersions s → OnLocks a s w (enter_turn holder last granted a s h r)
    → OnUnseen (enter_turn holder last granted a s h r)
enter_unseen a (Some other) last granted s h r w is are on = tt
enter_unseen a None true granted s h r w is are on = ended a s s w _ (ap (is_owner a) is) (end_shared r.slots _ s h r) on
enter_unseen a None false false s h r w is are on = ended a s s w _ (ap (is_owner a) is) (end_shared r.slots _ s h r) on
enter_unseen a None false true s h r w is are on = λ e ino there. omega (arith, are.cells ino)

module _ (block a : ℕ) (s : Shared) (h : HandState) (r : Running) (are : AreVersions s) where
  abbrev written : List ℕ
  written = written_slots r

  inside : (k : Next) (place : ℕ) → Before a s k r → place < length written → slot_at written place < length s.cells
  inside k place b lt = written_inside (length s.cells) r place (subst (λ (n : ℕ). AreSlots n r.slots) b.wide b.are) lt

  append_unseen : (place : ℕ) → Before a s (Append place) r
      → ((ino : ℕ) → has written ino ≡ true → (cell_at s ino).version < r.commit)
      → (ino : ℕ) → has written ino ≡ true → (cell_at (work (Append place) block a s h r).shared ino).version < r.commit
  append_unseen place b yet ino there =
      let slot = slot_at written place in
      let pages = take (pages_needed s r.plan slot) h.pages in
      cell_set s slot _ ino (λ (c : CellState). c.version < r.commit) (inside (Append place) place b b.inside)
      (λ is. subst (λ (n : ℕ). n < r.commit) (sym (appended_version (entries_for r slot) h.blocks pages (cell_at s slot)))
      (yet slot (written_there r place b.inside)))
      (λ ne. yet ino there)

  publish_unseen : (place : ℕ) → Before a s (Publish place) r
      → ((ino : ℕ) → has (drop place written) ino ≡ true → (cell_at s ino).version < r.commit)
      → (ino : ℕ) → has (drop (place + 1) written) ino ≡ true → (cell_at (work (Publish place) block a s h r).shared ino).version < r.commit
  publish_unseen place b yet ino there =
      let slot = slot_at written place in
      cell_set s slot (published (cell_at s slot)) ino (λ (c : CellState). c.version < r.commit) (inside (Publish place) place b b.inside)
      (λ is. absurd (false≢true (sym (drop_apart place written (rising_filter (is_written r.plan) r.slots b.are.rising) b.inside)
      ∙ ap (has (drop (place + 1) written)) is ∙ there)))
      (λ ne. yet ino (has_drop place written ino b.inside ∙ or_right (slot == ino) (has (drop (place + 1) written) ino) there))

  silent : (k : Next) (granted : Bool) → commits_at k ≡ false → (lent k (length s.lists) a r).commit_lock ≡ false → Before a s k r
      → OnUnseen (kind_turn k block a granted s h r)
  silent k granted e none b = quiet a s _ (lent k (length s.lists) a r) (kind_turn k block a granted s h r) (b.mine.holder ∙ e) none
      (framed k block a granted s h r) (locks_kept k block a granted s h r b)

  pub turn_unseen : (k : Next) (granted : Bool) → Before a s k r
      → (commits_at k ≡ true → (ino : ℕ) → has (to_publish k written) ino ≡ true → (cell_at s ino).version < r.commit)
      → OnUnseen (kind_turn k block a granted s h r)
  turn_unseen Enter granted b yet =
      enter_unseen a s.holder _ granted s h r _ refl are (locks_kept Enter block a granted s h r b)
  turn_unseen (Append place) granted b yet = λ e ino there. append_unseen place b (yet refl) ino
      (left_appending (place + 1) written (nat_lt (place + 1) (length written)) ino there)
  turn_unseen Open granted b yet = λ e ino there. yet refl ino (left_publishing 0 written (nat_lt 0 (length written)) ino there)
  turn_unseen (Publish place) granted b yet = λ e ino there. publish_unseen place b (yet refl) ino
      (left_publishing (place + 1) written (nat_lt (place + 1) (length written)) ino there)
  turn_unseen Close granted b yet = λ e ino there.
      absurd (none_has (to_publish (retiring 0 written) written) ino (none_retiring 0 written (nat_lt 0 (length written))) there)
  turn_unseen (Retire place) granted b yet = λ e ino there.
      absurd (none_has (to_publish (retiring (place + 1) written) written) ino
      (none_retiring (place + 1) written (nat_lt (place + 1) (length written))) there)
  turn_unseen Leave granted b yet =
      ended a s (record s { holder = None }) _ _ refl (end_shared r.slots _ _ h r) (locks_kept Leave block a granted s h r b)
  turn_unseen (SnapshotOrCleaner Make) granted b yet = silent (SnapshotOrCleaner Make) granted refl refl b
  turn_unseen other granted b yet = silent other granted refl refl b

  -- ---- all cells

  work_versions : (k : Next) → enters k ≡ false → Before a s k r
      → (commits_at k ≡ true → (ino : ℕ) → has (to_publish k written) ino ≡ true → (cell_at s ino).version < s.book.commit)
      → AreVersions (work k block a s h r).shared
  work_versions k out b yet =
      let commit = commit_stays k block a s h r out in
      record { cells = λ ino. let low = each ino in omega (arith, low, commit); limit = omega (arith, commit, are.limit) } where
        each : (ino : ℕ) → (cell_at (work k block a s h r).shared ino).version ≤ s.book.commit
        each = cells_after (λ (ino : ℕ) (c : CellState). c.version ≤ s.book.commit) block a s h r are.cells k b (record {
          appends = λ place is lt low.
              let slot = slot_at written place in
              subst (λ (n : ℕ). n ≤ s.book.commit)
              (sym (appended_version (entries_for r slot) h.blocks (take (pages_needed s r.plan slot) h.pages) (cell_at s slot)))
              (are.cells slot);
          publishes = λ place is lt low.
              let slot = slot_at written place in
              let here : has (drop place written) slot ≡ true = has_drop place written slot lt ∙ (let e = self slot in rw e refl) in
              let yet_to = yet (ap commits_at is) slot (subst (λ (k : Next). has (to_publish k written) slot ≡ true) (sym is) here) in
              omega (arith, yet_to);
          removes = λ is low left.
              let x = removal k s h r in
              let same : x.cell.version ≤ s.book.commit =
              subst (λ (n : ℕ). n ≤ s.book.commit) (sym left.keeps.version) (are.cells x.slot) in
              by_erased (λ (c : CellState). c.version ≤ s.book.commit) x.cell same same;
          cleans = λ is low. subst (λ (n : ℕ). n ≤ s.book.commit) (sym (is_cleaned k s h is).version) (are.cells (clean_slot k));
        })

  abbrev After : Turn → Type 0
  After t = AfterTurn (λ (u : Shared) (x : HandState). AreVersions u) t

  enter_versions : (holder : Option ℕ) (last granted : Bool) → nat_le NUMBER s.book.commit ≡ last
      → After (enter_turn holder last granted a s h r)
  enter_versions (Some other) last granted e = tt
  enter_versions None true granted e = end_keeps (λ (u : Shared) (x : HandState). AreVersions u) r.slots _ s h r are
  enter_versions None false false e = end_keeps (λ (u : Shared) (x : HandState). AreVersions u) r.slots _ s h r are
  enter_versions None false true e = record {
    cells = λ ino. omega (arith, are.cells ino);
    limit = omega (arith, leb-false NUMBER s.book.commit e);
  }

  pub turn_versions : (k : Next) (granted : Bool) → Before a s k r
      → (commits_at k ≡ true → (ino : ℕ) → has (to_publish k written) ino ≡ true → (cell_at s ino).version < s.book.commit)
      → After (kind_turn k block a granted s h r)
  turn_versions Enter granted b yet = enter_versions s.holder (nat_le NUMBER s.book.commit) granted refl
  turn_versions other granted b yet =
      turn_keeps (λ (u : Shared) (x : HandState). AreVersions u) other block a granted s h r are (work_versions other refl b yet)
