-- Appends, publishes and retires keep what marks say of every slot.
use Rattle.std.proofs.Common.{◌≡◌, ◌≢◌, ℕ, ◌+◌, ◌<◌, ◌≤◌, ◌++◌, ◌∙◌, List, [], ◌∷◌, Option, Some, None, ap, arith, drop, length, length-take, refl, subst, sym, take}
use Rattle.std.specs.List.{AllByRecursion}
use Rattle.nv_alloc.specs.Numbers.{IsRising}
use Rattle.nv_book.specs.Records.{holder_of}
use Rattle.nv_book.specs.declared.record.Record.{Record}
use Rattle.nv_calls.specs.Retiring.{erased}
use Rattle.nv_calls.specs.Slots.{entries_of, items_for, place_in}
use Rattle.nv_cell.specs.Cell.{CellState, killed_by, log_of, published}
use Rattle.nv_cell.specs.declared.killed.KilledPart.{KilledPart}
use Rattle.nv_cell.proofs.ValuesNow.{IsLog-take}
use Rattle.nv_entry.specs.Log.{IsLog}
use Rattle.nv_entry.specs.declared.item.Entry.{Entry}
use Rattle.nv_entry.specs.declared.item.Item.{Item}
use Rattle.nv_epoch.specs.SnapList.{ids}
use Rattle.nv_log.specs.Chain.{ChainState}
use Rattle.nv_machine.specs.Held.{killed_by_actor, killed_by_call, killed_in, killed_slots, parts_for, picked_at, picked_by_actor, picked_by_call}
use Rattle.nv_machine.specs.Kinds.{append_turn, entries_for, first_killed, publish_turn, retire_turn, retired_cell, with_entries, with_erased, with_freed, with_log_pages}
use Rattle.nv_machine.specs.Locks.{AreLocks}
use Rattle.nv_machine.specs.Reads.{slot_at, written_slots}
use Rattle.nv_machine.specs.Recorded.{with_parts}
use Rattle.nv_machine.specs.Sequence.{sequel}
use Rattle.nv_machine.specs.Step.{changed, turned}
use Rattle.nv_machine.specs.World.{Append, HandState, Next, Publish, Retire, Running, Shared, World, actor_at, cell_at, with_cell}
use Rattle.nv_machine.proofs.EachElement.{all_append, all_back, all_front, all_weaker}
use Rattle.nv_machine.proofs.FiledLists.{count_append}
use Rattle.nv_machine.proofs.FiledMarks.{IsTold, is_filed_on}
use Rattle.nv_machine.proofs.HandsInCommits.{erased_killed}
use Rattle.nv_machine.proofs.FiledSteps.{AreFresh, MarksOf, appended_fresh, appended_marks, erased_cell, erased_fresh, none_other, parts_are_of, parts_behind, published_cell, published_fresh, recounted, retired_chain, retired_log, retired_marks}
use Rattle.nv_machine.proofs.FiledWorlds.{AreMarked, marks_as, new_killed, own_killed, picked_in, same_killed, same_picked}
use Rattle.nv_machine.proofs.Lists.{drop_apart, take_apart}
use Rattle.nv_machine.proofs.LogsKept.{cell_set}
use Rattle.nv_machine.proofs.PartsFor.{first_for, later_for, more_here, more_there, none_for, none_there, publishing_slots, retiring_slots, slots_from, slots_to}

-- ---- records in another order, and of another slot

behind_first : (living : List ℕ) (ino epoch : ℕ) (killed : List KilledPart) (rs picked more : List Record) (cell : CellState)
    → MarksOf living ino epoch killed ((rs ++ picked) ++ more) cell → MarksOf living ino epoch killed ((rs ++ more) ++ picked) cell
behind_first living ino epoch killed rs picked more cell h =
    let T : Record → Type 0 = IsTold living ino cell.block (log_of cell) in
    recounted living ino epoch killed ((rs ++ picked) ++ more) ((rs ++ more) ++ picked) cell
    (λ n. omega (
      arith,
      count_append (is_filed_on ino (log_of cell) n) (rs ++ more) picked,
      count_append (is_filed_on ino (log_of cell) n) rs more,
      count_append (is_filed_on ino (log_of cell) n) (rs ++ picked) more,
      count_append (is_filed_on ino (log_of cell) n) rs picked,
    ))
    (let front = all_front T (rs ++ picked) more h.told in
    all_append T (rs ++ more) picked (all_append T rs more (all_front T rs picked front) (all_back T (rs ++ picked) more h.told))
    (all_back T rs picked front))
    h

more_elsewhere : (living : List ℕ) (slot ino epoch : ℕ) (killed : List KilledPart) (rs picked more : List Record) (cell : CellState)
    → slot ≢ ino → AllByRecursion (λ (d : Record). d.ino ≡ slot) more → MarksOf living ino epoch killed (rs ++ picked) cell
    → MarksOf living ino epoch killed ((rs ++ more) ++ picked) cell
more_elsewhere living slot ino epoch killed rs picked more cell ne of h =
    let T : Record → Type 0 = IsTold living ino cell.block (log_of cell) in
    let apart : AllByRecursion (λ (d : Record). d.ino ≢ ino) more =
    all_weaker (λ (d : Record). d.ino ≡ slot) (λ (d : Record). d.ino ≢ ino) (λ d e f. ne (sym e ∙ f)) more of in
    recounted living ino epoch killed (rs ++ picked) ((rs ++ more) ++ picked) cell
    (λ n. omega (
      arith,
      count_append (is_filed_on ino (log_of cell) n) (rs ++ more) picked,
      count_append (is_filed_on ino (log_of cell) n) rs more,
      count_append (is_filed_on ino (log_of cell) n) rs picked,
      none_other ino (log_of cell) n more apart,
    ))
    (all_append T (rs ++ more) picked
    (all_append T rs more (all_front T rs picked h.told) (all_weaker (λ (d : Record). d.ino ≢ ino) T (λ d no e. absurd (no e)) more apart))
    (all_back T rs picked h.told))
    h

-- ---- one cell has changed

pub one_cell : (w : World) (a slot : ℕ) (rs now : List Record) (s : Shared) (h : HandState) (running : Option Running) (new : CellState)
    → ((ino : ℕ) → cell_at s ino ≡ cell_at (with_cell slot new w.shared) ino) → s.book.snaps ≡ w.shared.book.snaps
    → slot < length w.shared.cells
    → MarksOf (ids w.shared.book.snaps) slot w.shared.book.snaps.epoch (killed_in (changed s h running a w) slot)
    (now ++ picked_in (changed s h running a w)) new
    → ((ino : ℕ) → slot ≢ ino → MarksOf (ids w.shared.book.snaps) ino w.shared.book.snaps.epoch (killed_in (changed s h running a w) ino)
    (now ++ picked_in (changed s h running a w)) (cell_at w.shared ino))
    → AreFresh w.shared.book.snaps.epoch new
    → AllByRecursion (λ d. holder_of (ids w.shared.book.snaps) d ≡ None) (picked_in (changed s h running a w))
    → AllByRecursion (λ (d : Record). d.death ≤ w.shared.book.snaps.epoch) (picked_in (changed s h running a w))
    → AreMarked w rs → AreMarked (changed s h running a w) now
one_cell w a slot rs now s h running new cells snaps low own others fresh unheld dead m =
    let living = ids w.shared.book.snaps in
    let epoch = w.shared.book.snaps.epoch in
    let v : World = changed s h running a w in
    record {
      cells = λ ino. rw (snaps, cells ino) (cell_set w.shared slot new ino
          (MarksOf living ino epoch (killed_in v ino) (now ++ picked_in v)) low
          (λ e. subst (λ (i : ℕ). MarksOf living i epoch (killed_in v i) (now ++ picked_in v) new) e own) (others ino));
      fresh = λ ino. rw (snaps, cells ino) (cell_set w.shared slot new ino (AreFresh epoch) low (λ e. fresh) (λ ne. m.fresh ino));
      unheld = rw snaps unheld;
      dead = rw snaps dead;
    }

-- ---- a commit

entries_epoch : (commit epoch place : ℕ) (items : List Item)
    → AllByRecursion (λ (e : Entry). e.epoch ≡ epoch) (entries_of commit epoch place items)
entries_epoch commit epoch place [] = tt
entries_epoch commit epoch place (item ∷ items) = (refl, entries_epoch commit epoch (place + 1) items)

module _ (w : World) (a : ℕ) (rs : List Record) (r : Running) (there : a < length w.actors) (locks : AreLocks w)
    (held : w.shared.holder ≡ Some a) (is : (actor_at w a).running ≡ Some r) (epoch_is : r.epoch ≡ w.shared.book.snaps.epoch)
    (m : AreMarked w rs) where
  abbrev s : Shared
  s = w.shared

  abbrev h : HandState
  h = (actor_at w a).hand

  abbrev living : List ℕ
  living = ids w.shared.book.snaps

  abbrev epoch : ℕ
  epoch = w.shared.book.snaps.epoch

  abbrev written : List ℕ
  written = written_slots r

  -- what its hand has
  own_share : (ino : ℕ) → killed_by_actor ino (actor_at w a) ≡ parts_for (killed_slots r.next written) h.killed ino
  own_share ino = ap (λ (o : Option Running). killed_by_call o h ino) is

  own_picks : picked_by_actor (actor_at w a) ≡ picked_at r.next
  own_picks = ap (λ (o : Option Running). picked_by_call o) is

  was : (ino : ℕ) → killed_in w ino ≡ parts_for (killed_slots r.next written) h.killed ino
  was ino = own_killed w a ino there locks held ∙ own_share ino

  pub append_marked : (slot pages place : ℕ) → r.next ≡ Append place → slot < length s.cells
      → (cell_at s slot).chain.tail ≤ length (cell_at s slot).chain.entries → h.killed ≡ [] → picked_at (sequel r (Append place)) ≡ []
      → AreMarked (turned (append_turn slot pages place s h r) a w).world rs
  append_marked slot pages place next low within none picks =
      let new = with_entries (entries_for r slot) h.blocks (with_log_pages (take pages h.pages) (cell_at s slot)) in
      let v : World = (turned (append_turn slot pages place s h r) a w).world in
      let same : (ino : ℕ) → killed_in v ino ≡ killed_in w ino = λ ino. same_killed w a ino v.shared _ _
      (none_for (killed_slots (sequel r (Append place)) written) h.killed ino none
      ∙ sym (own_share ino ∙ none_for (killed_slots r.next written) h.killed ino none)) in
      let picked : picked_in v ≡ picked_in w = same_picked w a v.shared _ _
      (picks ∙ sym (own_picks ∙ ap picked_at next)) in
      let all : (ino : ℕ) → MarksOf living ino epoch (killed_in v ino) (rs ++ picked_in v) (cell_at s ino) =
      λ ino. marks_as living ino epoch (killed_in w ino) (killed_in v ino) (rs ++ picked_in w) (rs ++ picked_in v) (cell_at s ino)
      (same ino)
      (ap (λ (l : List Record). rs ++ l) picked) (m.cells ino) in
      one_cell w a slot rs rs _ _ _ new (λ ino. refl) refl low
      (appended_marks living slot epoch (killed_in v slot) (rs ++ picked_in v) (entries_for r slot) h.blocks (take pages h.pages)
      (cell_at s slot) within (all slot))
      (λ ino ne. all ino)
      (appended_fresh epoch (entries_for r slot) h.blocks (take pages h.pages) (cell_at s slot) within
      (subst (λ (e : ℕ). AllByRecursion (λ (x : Entry). x.epoch ≡ e) (entries_for r slot)) epoch_is
      (entries_epoch r.commit r.epoch (place_in r.plan slot) (items_for r.plan slot)))
      (m.fresh slot))
      (subst (AllByRecursion (λ d. holder_of living d ≡ None)) (sym picked) m.unheld)
      (subst (AllByRecursion (λ (d : Record). d.death ≤ epoch)) (sym picked) m.dead) m

  pub publish_marked : (place : ℕ) → r.next ≡ Publish place → place < length written → IsRising written
      → slot_at written place < length s.cells → IsLog (cell_at s (slot_at written place)).chain.entries
      → (cell_at s (slot_at written place)).chain.tail ≤ length (cell_at s (slot_at written place)).chain.entries
      → length h.killed ≡ place → picked_at (sequel r (Publish place)) ≡ []
      → AreMarked (turned (publish_turn (slot_at written place) place s h r) a w).world rs
  publish_marked place next inside rising low log within many picks =
      let slot = slot_at written place in
      let cell = cell_at s slot in
      let v : World = (turned (publish_turn slot place s h r) a w).world in
      let len : length (take place written) ≡ length h.killed = omega (arith, length-take place written, inside, many) in
      let now : (ino : ℕ) → killed_in v ino ≡ parts_for (take place written ++ slot ∷ []) (h.killed ++ killed_by cell ∷ []) ino =
      λ ino. new_killed w a ino v.shared _ _ there locks held
      ∙ ap (λ (l : List ℕ). parts_for l (h.killed ++ killed_by cell ∷ []) ino)
      (publishing_slots (place + 1) written ∙ slots_to place written inside) in
      let before : (ino : ℕ) → killed_in w ino ≡ parts_for (take place written) h.killed ino =
      λ ino. was ino ∙ ap (λ (k : Next). parts_for (killed_slots k written) h.killed ino) next in
      let picked : picked_in v ≡ picked_in w = same_picked w a v.shared _ _ (picks ∙ sym (own_picks ∙ ap picked_at next)) in
      let records : rs ++ picked_in v ≡ rs ++ picked_in w = ap (λ (l : List Record). rs ++ l) picked in
      let none : killed_in w slot ≡ [] = before slot ∙ none_there (take place written) h.killed slot
      (take_apart place written rising inside) in
      one_cell w a slot rs rs _ _ _ (published cell) (λ ino. refl) refl low
      (marks_as living slot epoch (killed_by cell) (killed_in v slot) (rs ++ picked_in w) (rs ++ picked_in v) (published cell)
      (now slot ∙ more_here (take place written) h.killed slot (killed_by cell) len (take_apart place written rising inside)) records
      (published_cell living slot epoch (rs ++ picked_in w) cell log within (m.fresh slot)
      (marks_as living slot epoch (killed_in w slot) [] (rs ++ picked_in w) (rs ++ picked_in w) cell (sym none) refl (m.cells slot))))
      (λ ino ne. marks_as living ino epoch (killed_in w ino) (killed_in v ino) (rs ++ picked_in w) (rs ++ picked_in v) (cell_at s ino)
      (now ino ∙ more_there (take place written) h.killed slot ino (killed_by cell) len ne ∙ sym (before ino)) records (m.cells ino))
      (published_fresh epoch cell)
      (subst (AllByRecursion (λ d. holder_of living d ≡ None)) (sym picked) m.unheld)
      (subst (AllByRecursion (λ (d : Record). d.death ≤ epoch)) (sym picked) m.dead) m

  -- the killed parts of the inode whose turn it is
  pub retire_mine : (place : ℕ) → r.next ≡ Retire place → place < length written → length h.killed + place ≡ length written
      → MarksOf living (slot_at written place) r.epoch (first_killed h.killed) (rs ++ picked_in w) (cell_at s (slot_at written place))
  retire_mine place next inside many =
      let slot = slot_at written place in
      subst (λ (e : ℕ). MarksOf living slot e (first_killed h.killed) (rs ++ picked_in w) (cell_at s slot)) (sym epoch_is)
      (marks_as living slot epoch (killed_in w slot) (first_killed h.killed) (rs ++ picked_in w) (rs ++ picked_in w) (cell_at s slot)
      (sym (was slot ∙ ap (λ (k : Next). parts_for (killed_slots k written) h.killed slot) next
      ∙ ap (λ (l : List ℕ). parts_for l h.killed slot) (slots_from place written inside)
      ∙ first_for slot (drop (place + 1) written) h.killed (omega (arith, many, inside)))) refl (m.cells slot))

  -- what is left of it, once they are retired: the records that this makes stand behind the others
  pub retire_left : (place : ℕ) → r.next ≡ Retire place → place < length written → length h.killed + place ≡ length written
      → IsLog (cell_at s (slot_at written place)).chain.entries
      → MarksOf living (slot_at written place) r.epoch []
      ((rs ++ picked_in w) ++ with_parts living (slot_at written place) r.epoch (first_killed h.killed) [])
      (retired_cell (slot_at written place) (first_killed h.killed) s r)
  retire_left place next inside many log =
      let slot = slot_at written place in
      let cell = cell_at s slot in
      subst (λ (l : List Record). MarksOf living slot r.epoch [] l (retired_cell slot (first_killed h.killed) s r))
      (parts_behind living slot r.epoch (first_killed h.killed) (rs ++ picked_in w))
      (retired_marks living slot r.epoch (first_killed h.killed) (rs ++ picked_in w) cell
      (IsLog-take cell.chain.tail cell.chain.entries log) (retire_mine place next inside many))

  pub retire_marked : (place : ℕ) → r.next ≡ Retire place → place < length written → IsRising written
      → slot_at written place < length s.cells → IsLog (cell_at s (slot_at written place)).chain.entries
      → length h.killed + place ≡ length written → picked_at (sequel r (Retire place)) ≡ []
      → AreMarked (turned (retire_turn (slot_at written place) (first_killed h.killed) place s h r) a w).world
      (with_parts living (slot_at written place) r.epoch (first_killed h.killed) rs)
  retire_marked place next inside rising low log many picks =
      let slot = slot_at written place in
      let cell = cell_at s slot in
      let parts = first_killed h.killed in
      let left : CellState = retired_cell slot parts s r in
      let v : World = (turned (retire_turn slot parts place s h r) a w).world in
      let more : List Record = with_parts living slot r.epoch parts [] in
      let now_rs : List Record = with_parts living slot r.epoch parts rs in
      let some : 0 < length h.killed = omega (arith, many, inside) in
      let hand : (with_erased slot left (with_freed slot parts s r h)).killed ≡ drop 1 h.killed =
      erased_killed slot left (with_freed slot parts s r h) in
      let now : (ino : ℕ) → killed_in v ino ≡ parts_for (drop (place + 1) written) (drop 1 h.killed) ino =
      λ ino. new_killed w a ino v.shared _ _ there locks held
      ∙ ap (λ (l : List ℕ). parts_for l (with_erased slot left (with_freed slot parts s r h)).killed ino)
      (retiring_slots (place + 1) written)
      ∙ ap (λ (l : List (List KilledPart)). parts_for (drop (place + 1) written) l ino) hand in
      let before : (ino : ℕ) → killed_in w ino ≡ parts_for (slot ∷ drop (place + 1) written) h.killed ino =
      λ ino. was ino ∙ ap (λ (k : Next). parts_for (killed_slots k written) h.killed ino) next
      ∙ ap (λ (l : List ℕ). parts_for l h.killed ino) (slots_from place written inside) in
      let picked : picked_in v ≡ picked_in w = same_picked w a v.shared _ _ (picks ∙ sym (own_picks ∙ ap picked_at next)) in
      let records : now_rs ++ picked_in v ≡ (rs ++ more) ++ picked_in w =
      ap (λ (l : List Record). l ++ picked_in v) (parts_behind living slot r.epoch parts rs)
      ∙ ap (λ (l : List Record). (rs ++ more) ++ l) picked in
      let published_log : IsLog (log_of cell) = IsLog-take cell.chain.tail cell.chain.entries log in
      let gone : MarksOf living slot r.epoch [] ((rs ++ picked_in w) ++ with_parts living slot r.epoch parts []) left =
      retire_left place next inside many log in
      let kept : MarksOf living slot epoch [] ((rs ++ more) ++ picked_in w) left =
      subst (λ (e : ℕ). MarksOf living slot e [] ((rs ++ more) ++ picked_in w) left) epoch_is
      (behind_first living slot r.epoch [] rs (picked_in w) more left gone) in
      let left_log : IsLog (log_of left) = subst IsLog (sym (retired_log living slot r.epoch parts cell)) published_log in
      one_cell w a slot rs now_rs _ _ _ (erased left) (λ ino. refl) refl low
      (marks_as living slot epoch [] (killed_in v slot) ((rs ++ more) ++ picked_in w) (now_rs ++ picked_in v) (erased left)
      (now slot ∙ none_there (drop (place + 1) written) (drop 1 h.killed) slot (drop_apart place written rising inside)) records
      (erased_cell living slot epoch [] ((rs ++ more) ++ picked_in w) left left_log kept))
      (λ ino ne. marks_as living ino epoch (killed_in w ino) (killed_in v ino) ((rs ++ more) ++ picked_in w) (now_rs ++ picked_in v)
      (cell_at s ino) (now ino ∙ sym (before ino ∙ later_for slot ino (drop (place + 1) written) h.killed some ne)) records
      (more_elsewhere living slot ino epoch (killed_in w ino) rs (picked_in w) more (cell_at s ino) ne
      (parts_are_of living slot r.epoch parts [] tt) (m.cells ino)))
      (erased_fresh epoch left (subst (λ (c : ChainState). AllByRecursion (λ (e : Entry). e.epoch ≡ epoch) (drop c.tail c.entries))
      (sym (retired_chain living slot r.epoch parts cell)) (m.fresh slot)))
      (subst (AllByRecursion (λ d. holder_of living d ≡ None)) (sym picked) m.unheld)
      (subst (AllByRecursion (λ (d : Record). d.death ≤ epoch)) (sym picked) m.dead) m
