-- Which logs end at their tails: all but those that a commit under way has appended to and not yet published.
use Rattle.std.proofs.Common.{Bool, List, None, Option, Some, [], ap, arith, drop, false, get_or-set_same, if◌then◌else◌, inl, inr, length, nat_lt, refl, set, subst, suc, sym, take, true, zero, ℕ, ◌+◌, ◌<◌, ◌==◌, ◌∙◌, ◌∷◌, ◌≡◌, ◌≢◌, ◌⊎◌}
use Rattle.std.specs.Prelude.{not, slice_index_or, unwrap_or, ◌||◌}
use Rattle.std.specs.List.{flat_map, list_any}
use Rattle.std.proofs.lemmas.Bool.{and_parts, eqb-true, false≢true, ltb-false, true≢false}
use Rattle.std.proofs.lemmas.Option.{none-some}
use Rattle.nv_alloc.specs.Block.{BlockValue}
use Rattle.nv_alloc.specs.Numbers.{has}
use Rattle.nv_calls.specs.Retiring.{erased}
use Rattle.nv_cell.specs.Cell.{CellState, empty_cell, log_of, mark_or_fresh, of_part, published}
use Rattle.nv_cell.specs.Marks.{is_there}
use Rattle.nv_cell.specs.Readers.{is_erased, is_gone, keeps_nothing}
use Rattle.nv_cell.specs.declared.mark.Mark.{Mark}
use Rattle.nv_cell.proofs.Publishing.{take_whole}
use Rattle.nv_entry.specs.Covered.{part_total}
use Rattle.nv_entry.specs.declared.item.Entry.{Entry}
use Rattle.nv_log.specs.Chain.{ChainState}
use Rattle.nv_machine.specs.Frame.{lent}
use Rattle.nv_machine.specs.Hands.{IsParted, unpublished_at, unpublished_by}
use Rattle.nv_machine.specs.Locks.{HoldsIts, held_at, is_owner}
use Rattle.nv_machine.specs.Reads.{is_written, slot_at, written_slots}
use Rattle.nv_machine.specs.Sequence.{appending, closing, opening, publishing}
use Rattle.nv_machine.specs.Step.{kind_turn}
use Rattle.nv_machine.specs.World.{Append, Ends, HandState, Moves, Next, Open, Publish, Retire, Running, Shared, SnapshotOrCleaner, Turn, Waits, cell_at, no_cell, owner_at}
use Rattle.nv_machine.proofs.Lists.{drop_all, has_drop, has_filter, has_later, has_take, self}
use Rattle.nv_machine.proofs.LocksHeld.{Before}
use Rattle.nv_machine.proofs.CellChanges.{cells_after, removal, clean_slot, adds, is_cleaned}
use Rattle.nv_machine.proofs.WorkKeeps.{AfterTurn, turn_keeps}

-- ---- what is unpublished is held

pub has_front : (p : ℕ) (xs : List ℕ) (n : ℕ) → has (take p xs) n ≡ true → has xs n ≡ true
has_front zero xs n h = absurd (false≢true h)
has_front (suc p) [] n h = absurd (false≢true h)
has_front (suc p) (x ∷ xs) n h = go (x == n) (has_front p xs n) h where
  go : (b : Bool) → (has (take p xs) n ≡ true → has xs n ≡ true) → (b || has (take p xs) n) ≡ true → (b || has xs n) ≡ true
  go true more h = refl
  go false more h = more h

written_held : (r : Running) (ino : ℕ) → has (written_slots r) ino ≡ true → has r.slots ino ≡ true
written_held r ino h = has_filter (is_written r.plan) r.slots ino h

unpublished_held : (k : Next) (r : Running) (ino : ℕ) → has (unpublished_at k (written_slots r)) ino ≡ true
    → has (held_at k r.slots) ino ≡ true
unpublished_held (Append place) r ino h = written_held r ino (has_front place (written_slots r) ino h)
unpublished_held Open r ino h = written_held r ino h
unpublished_held (Publish place) r ino h = written_held r ino (has_later place (written_slots r) ino h)
unpublished_held other r ino h = absurd (false≢true h)

none_true : (b : Bool) → (b ≡ true → ⊥) → b ≡ false
none_true true h = absurd (h refl)
none_true false h = refl

-- of a cell that one actor holds no other has appended to the log
pub others_published : (a b ino : ℕ) (s : Shared) (running : Option Running) → b ≢ a → owner_at s ino ≡ Some a → HoldsIts s b running
    → has (unpublished_by running) ino ≡ false
others_published a b ino s None ne own holds = refl
others_published a b ino s (Some r) ne own holds =
    none_true (has (unpublished_at r.next (written_slots r)) ino) (λ h.
    let held = unpublished_held r.next r ino h in
    let mine : (a == b) ≡ true = sym (ap (is_owner b) own) ∙ holds.owners ino ∙ held in
    ne (sym (eqb-true a b mine)))

-- ---- what a turn leaves unpublished

-- a turn's call has the slot unpublished
abbrev pub HasLeft : ℕ → Turn → Type 0
HasLeft ino (Moves t h q) = has (unpublished_at q.next (written_slots q)) ino ≡ true
HasLeft ino Waits = Unit {0}
HasLeft ino (Ends result t h) = ⊥

publishing_left : (place : ℕ) (written : List ℕ) (ino : ℕ) → has (drop place written) ino ≡ true
    → has (unpublished_at (publishing place written) written) ino ≡ true
publishing_left place written ino h = go (nat_lt place (length written)) refl where
  go : (b : Bool) → nat_lt place (length written) ≡ b
      → has (unpublished_at (if b then Publish place else closing written) written) ino ≡ true
  go true e = h
  go false e = absurd (false≢true (ap (λ (l : List ℕ). has l ino) (sym (drop_all place written (ltb-false place (length written) e))) ∙ h))

opening_left : (written : List ℕ) (ino : ℕ) → has written ino ≡ true → has (unpublished_at (opening written) written) ino ≡ true
opening_left written ino h = go (nat_lt 1 (length written)) where
  go : (b : Bool) → has (unpublished_at (if b then Open else publishing 0 written) written) ino ≡ true
  go true = h
  go false = publishing_left 0 written ino h

appending_left : (place : ℕ) (written : List ℕ) (ino : ℕ) → has (take place written) ino ≡ true
    → has (unpublished_at (appending place written) written) ino ≡ true
appending_left place written ino h = go (nat_lt place (length written)) where
  go : (b : Bool) → has (unpublished_at (if b then Append place else opening written) written) ino ≡ true
  go true = h
  go false = opening_left written ino (has_front place written ino h)

or_one : (b c : Bool) → b ≡ true → (b || c) ≡ true
or_one b c e = rw e refl

or_two : (b c : Bool) → c ≡ true → (b || c) ≡ true
or_two true c e = refl
or_two false c e = e

or_not : (b c : Bool) → b ≡ false → (b || c) ≡ true → c ≡ true
or_not b c e h = sym (ap (λ (x : Bool). (x || c)) e) ∙ h

not_same : (n m : ℕ) → n ≢ m → (n == m) ≡ false
not_same n m h = none_true (n == m) (λ e. h (eqb-true n m e))

-- but for the slot that is published, what was unpublished is so after the turn
pub left_unpublished : (k : Next) (block a : ℕ) (granted : Bool) (s : Shared) (h : HandState) (r : Running) → Before a s k r → (ino : ℕ)
    → (lent k (length s.lists) a r).cell ≢ Some ino → has (unpublished_at k (written_slots r)) ino ≡ true
    → HasLeft ino (kind_turn k block a granted s h r)
left_unpublished (Append place) block a granted s h r b ino apart there =
    appending_left (place + 1) (written_slots r) ino
    (has_take place (written_slots r) ino b.inside ∙ or_one (has (take place (written_slots r)) ino) _ there)
left_unpublished Open block a granted s h r b ino apart there = publishing_left 0 (written_slots r) ino there
left_unpublished (Publish place) block a granted s h r b ino apart there =
    publishing_left (place + 1) (written_slots r) ino
    (or_not (slot_at (written_slots r) place == ino) (has (drop (place + 1) (written_slots r)) ino)
    (not_same (slot_at (written_slots r) place) ino (λ e. apart (ap (λ (n : ℕ). Some n) e)))
    (sym (has_drop place (written_slots r) ino b.inside) ∙ there))
left_unpublished other block a granted s h r b ino apart there = absurd (false≢true there)

-- ---- the cell that is lent

abbrev pub IsTailLast : CellState → Type 0
IsTailLast cell = cell.chain.tail ≡ length cell.chain.entries

erased_tail : (cell : CellState) → IsTailLast cell → IsTailLast (erased cell)
erased_tail cell h = go (is_erased cell) where
  go : (b : Bool) → IsTailLast (if b then empty_cell cell.block cell.chain.page (cell.generation + 1) cell.version else cell)
  go true = refl
  go false = h

-- a turn leaves the slot unpublished, or its log ends at its tail
abbrev pub LeavesTail : ℕ → Turn → Type 0
LeavesTail ino (Moves t h q) = (has (unpublished_at q.next (written_slots q)) ino ≡ true) ⊎ IsTailLast (cell_at t ino)
LeavesTail ino Waits = Unit {0}
LeavesTail ino (Ends result t h) = IsTailLast (cell_at t ino)

set_tail : (ino : ℕ) (cell : CellState) (s : Shared) → ino < length s.cells → IsTailLast cell
    → IsTailLast (slice_index_or (set s.cells ino cell) ino no_cell)
set_tail ino cell s inside h = subst IsTailLast (sym (get_or-set_same s.cells ino cell no_cell inside)) h

none_lent : {claim : Type 0} (ino : ℕ) → None ≡ Some ino → claim
none_lent ino e = absurd (none-some ino e)

pub same_slot : (n ino : ℕ) → Some n ≡ Some ino → n ≡ ino
same_slot n ino e = ap (λ (o : Option ℕ). unwrap_or o 0) e

after_tail : (ino : ℕ) (t : Turn) → AfterTurn (λ u k. IsTailLast (cell_at u ino)) t → LeavesTail ino t
after_tail ino (Moves u k q) on = inr on
after_tail ino Waits on = tt
after_tail ino (Ends result u k) on = on

-- a kind that appends nothing leaves the log, erases it or cleans it
kept_tail : (k : Next) (block a : ℕ) (granted : Bool) (s : Shared) (h : HandState) (r : Running) → Before a s k r → (ino : ℕ)
    → adds k ≡ false → unpublished_at k (written_slots r) ≡ []
    → (has (unpublished_at k (written_slots r)) ino ≡ false → IsTailLast (cell_at s ino))
    → LeavesTail ino (kind_turn k block a granted s h r)
kept_tail k block a granted s h r b ino plain none was =
    after_tail ino (kind_turn k block a granted s h r)
    (turn_keeps (λ (t : Shared) (g : HandState). IsTailLast (cell_at t ino)) k block a granted s h r last
    (cells_after Last block a s h r each k b (record {
      appends = λ place is inside low. absurd (true≢false (sym (ap adds is) ∙ plain));
      publishes = λ place is inside low same. refl;
      removes = λ is low left same.
          let x = removal k s h r in
          erased_tail x.cell (subst (λ (c : ChainState). c.tail ≡ length c.entries) (sym left.keeps.chain) (each x.slot same));
      cleans = λ is low same. (is_cleaned k s h is).tail (each (clean_slot k) same);
    }) ino refl)) where
      Last : ℕ → CellState → Type 0
      Last n cell = n ≡ ino → IsTailLast cell

      last : IsTailLast (cell_at s ino)
      last = was (ap (λ (l : List ℕ). has l ino) none)

      each : (n : ℕ) → Last n (cell_at s n)
      each n same = subst (λ (m : ℕ). IsTailLast (cell_at s m)) (sym same) last

-- of the cell that is lent
pub lent_tail : (k : Next) (block a : ℕ) (granted : Bool) (s : Shared) (h : HandState) (r : Running) → Before a s k r → (ino : ℕ)
    → (lent k (length s.lists) a r).cell ≡ Some ino → ino < length s.cells
    → (has (unpublished_at k (written_slots r)) ino ≡ false → IsTailLast (cell_at s ino))
    → LeavesTail ino (kind_turn k block a granted s h r)
lent_tail (Append place) block a granted s h r b ino is inside was =
    let slot = slot_at (written_slots r) place in
    let same = same_slot slot ino is in
    inl (appending_left (place + 1) (written_slots r) ino
    (has_take place (written_slots r) ino b.inside ∙ or_two (has (take place (written_slots r)) ino) (slot == ino)
    (subst (λ (n : ℕ). (slot == n) ≡ true) same (self slot))))
lent_tail (Publish place) block a granted s h r b ino is inside was =
    let slot = slot_at (written_slots r) place in
    let same = same_slot slot ino is in
    inr (subst (λ (n : ℕ). IsTailLast (slice_index_or (set s.cells slot (published (cell_at s slot))) n no_cell)) same
    (set_tail slot (published (cell_at s slot)) s (omega (arith, same, inside)) refl))
lent_tail (Retire place) block a granted s h r b ino is inside was = kept_tail (Retire place) block a granted s h r b ino refl refl was
lent_tail (SnapshotOrCleaner step) block a granted s h r b ino is inside was =
    kept_tail (SnapshotOrCleaner step) block a granted s h r b ino refl refl was
lent_tail other block a granted s h r b ino is inside was = none_lent ino is

-- ---- an erased cell has no block in a part

none_there : (marks : List Mark) (n : ℕ) → not (list_any is_there marks) ≡ true → n < length marks
    → is_there (mark_or_fresh marks n) ≡ false
none_there [] n h lt = absurd (omega (arith, lt))
none_there (m ∷ marks) n h lt = go n (is_there m) refl h lt (none_there marks) where
  go : (n : ℕ) (b : Bool) → is_there m ≡ b → not (b || list_any is_there marks) ≡ true → n < length (m ∷ marks)
      → ((k : ℕ) → not (list_any is_there marks) ≡ true → k < length marks → is_there (mark_or_fresh marks k) ≡ false)
      → is_there (mark_or_fresh (m ∷ marks) n) ≡ false
  go n true q h lt more = cc
  go zero false q h lt more = q
  go (suc n) false q h lt more = more n h (omega (arith, lt))

all_none : (blocks : List (Option BlockValue)) → ((n : ℕ) → n < length blocks → slice_index_or blocks n None ≡ None)
    → flat_map of_part blocks ≡ []
all_none [] h = refl
all_none (x ∷ blocks) h = go x (h 0 (omega arith)) (all_none blocks (λ n lt. h (suc n) (omega (arith, lt)))) where
  go : (o : Option BlockValue) → o ≡ None → flat_map of_part blocks ≡ [] → flat_map of_part (o ∷ blocks) ≡ []
  go None e more = more
  go (Some b) e more = cc

pub erased_none : (block : ℕ) (cell : CellState) → IsParted block cell → IsTailLast cell → is_erased cell ≡ true
    → flat_map of_part cell.blocks ≡ []
erased_none block cell h last gone =
    all_none cell.blocks (λ n lt. h.out n (none_there cell.marks n (and_parts (is_gone (log_of cell)) (keeps_nothing cell) gone).1
    (omega (arith, lt, h.places, h.marks, ap part_total same)))) where
      whole : (es : List Entry) (tail : ℕ) → tail ≡ length es → take tail es ≡ es
      whole es tail e = ap (λ (n : ℕ). take n es) e ∙ take_whole es

      same : log_of cell ≡ cell.chain.entries
      same = whole cell.chain.entries cell.chain.tail last
