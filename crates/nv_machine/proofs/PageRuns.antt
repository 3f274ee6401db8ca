-- Logs keep their pages, and hands those of the appends to come, at each step of their own and of others.
use Rattle.std.proofs.Common.{◌≡◌, ℕ, zero, suc, ◌+◌, ◌<◌, ◌==◌, ◌++◌, ◌∙◌, Bool, true, false, cond, List, [], ◌∷◌, Some, None, add-one, ap, arith, drop, inl, inr, length, length-append, length-drop, length-take, refl, subst, sym, take}
use Rattle.std.proofs.lemmas.Bool.{cases_lt, false≢true}
use Rattle.std.proofs.lemmas.List.{get_or_past}
use Rattle.nv_alloc.specs.Block.{BlockValue}
use Rattle.nv_alloc.specs.Numbers.{has}
use Rattle.nv_base.specs.Limits.{IsWithinLimits}
use Rattle.nv_base.specs.declared.geometry.GeometryNumbers.{GeometryNumbers}
use Rattle.nv_base.specs.declared.numbers.Handle.{Handle}
use Rattle.nv_calls.specs.AllCalls.{plan}
use Rattle.nv_cell.specs.Readers.{is_erased}
use Rattle.nv_calls.specs.Slots.{InodeSlot, entries_of, items_for, place_in}
use Rattle.nv_cell.specs.Cell.{CellState, IsCell, log_of}
use Rattle.nv_entry.specs.Log.{IsLog}
use Rattle.nv_entry.specs.declared.item.Item.{Item}
use Rattle.nv_log.specs.Chain.{pages_for}
use Rattle.nv_machine.specs.Grown.{HasGrown, is_appended, is_behind}
use Rattle.nv_machine.specs.Hands.{HandAt}
use Rattle.nv_machine.specs.Kinds.{asked_list, entries_for, first_killed, retired_cell, with_entries, with_freed, with_log_pages}
use Rattle.nv_machine.specs.Locks.{AreSlots, commits_at, held_at, IsInside}
use Rattle.nv_machine.specs.Order.{entries_at, to_append}
use Rattle.nv_machine.specs.Pages.{AreOnPages, HasLogPages}
use Rattle.nv_machine.specs.Reads.{is_written, node_of, pages_needed, pages_wanted, plan_by, slot_at, written_slots}
use Rattle.nv_machine.specs.Sequence.{appending, locking, looking}
use Rattle.nv_machine.specs.Step.{kind_turn}
use Rattle.nv_machine.specs.Wanted.{log_pages_wanted}
use Rattle.nv_machine.specs.World.{Append, Check, Close, Enter, HandState, Lock, Look, Next, Number, Open, Publish, Ready, Retire, Running, Shared, TakeBlocks, TakeLogPages, cell_at, go_to, list_at, no_cell, owner_at, with_cell, SnapshotOrCleaner, Fresh, Compact, PlanCleaning}
use Rattle.nv_machine.proofs.FitsKinds.{logs_of}
use Rattle.nv_machine.proofs.FitsOwn.{now, same_then}
use Rattle.nv_machine.proofs.FitsStages.{FitsAt, IsLocked, IsPassed, Passed, SameFor, passed_still, plan_still, view}
use Rattle.nv_machine.proofs.StepWork.{work}
use Rattle.nv_machine.proofs.Lists.{drop_apart, has_filter, has_later, or_left, rising_filter, self, written_inside}
use Rattle.nv_machine.proofs.LocksHeld.{Before}
use Rattle.nv_machine.proofs.LogsKept.{cell_set}
use Rattle.nv_machine.proofs.PageCells.{append_on, clean_on, publish_on, remove_on}
use Rattle.nv_machine.proofs.NextSteps.{QuietWays, quiet_walk}
use Rattle.nv_machine.proofs.PageTurns.{OnPages, Pages, appending_pages, erased_pages, next_want, pages_quiet, publishing_pages, retiring_pages, same_want, written_want}
use Rattle.nv_machine.proofs.LoopSteps.{locking_any, looking_any}
use Rattle.nv_machine.proofs.StepWays.{noted, take_sum}
use Rattle.nv_machine.proofs.CellChanges.{cells_after, clean_slot, removal, slots_stay}
use Rattle.nv_clean.specs.Plans.{wanted_of}

-- ---- an append

entries_count : (commit epoch place : ℕ) (items : List Item) → length (entries_of commit epoch place items) ≡ length items
entries_count commit epoch place [] = refl
entries_count commit epoch place (item ∷ items) = ap suc (entries_count commit epoch (place + 1) items)

module _ (s : Shared) (h : HandState) (r : Running) (place : ℕ) (inside : place < length (written_slots r))
    (has_them : length h.pages ≡ pages_wanted s (drop place (written_slots r)) r.plan) where
  abbrev slot : ℕ
  slot = slot_at (written_slots r) place

  abbrev pages : ℕ
  pages = pages_needed s r.plan slot

  abbrev later : List ℕ
  later = drop (suc place) (written_slots r)

  -- the hand has those of this inode, and those of the later ones besides
  both : length h.pages ≡ pages + pages_wanted s later r.plan
  both = has_them ∙ next_want s r.plan place (written_slots r) inside

  pub taken_are : pages_for (cell_at s slot).chain (length (entries_for r slot)) ≡ length (take pages h.pages)
  taken_are =
      let some = length-take pages h.pages in
      let count = ap (pages_for (cell_at s slot).chain)
      (entries_count r.commit r.epoch (place_in r.plan slot) (items_for r.plan slot)) in
      count ∙ (let sum = both in omega (arith, some, sum))

  module _ (many : ℕ) (are : AreSlots many r.slots) (wide : many ≡ length s.cells) (new : CellState) where
    apart : has later slot ≡ false
    apart = subst (λ (n : ℕ). has (drop n (written_slots r)) slot ≡ false) (add-one place)
        (drop_apart place (written_slots r) (rising_filter (is_written r.plan) r.slots are.rising) inside)

    low : slot < length s.cells
    low = subst (λ (n : ℕ). slot < n) wide (written_inside many r place are inside)

    others : (ino : ℕ) → has later ino ≡ true → cell_at (with_cell slot new s) ino ≡ cell_at s ino
    others ino there = cell_set s slot new ino (λ (c : CellState). c ≡ cell_at s ino) low
        (λ e. absurd (false≢true (sym apart ∙ ap (has later) e ∙ there))) (λ ne. refl)

    pub left_are : length (drop pages h.pages) ≡ pages_wanted (with_cell slot new s) later r.plan
    left_are =
        let rest = length-drop pages h.pages in
        let same = same_want s (with_cell slot new s) r.plan later others in
        let sum = both in omega (arith, rest, same, sum)

-- ---- a step of its own

module _ (g : GeometryNumbers) (a : ℕ) (granted : Bool) (s : Shared) (h : HandState) (r : Running) where
  no_pages : HandAt g Check h r → length h.pages ≡ 0
  no_pages at =
      let none = ap (λ (l : List BlockValue). length l) at.blocks in
      let split = length-append (h.blocks ++ h.pages) h.chain in
      let front = length-append h.blocks h.pages in
      omega (arith, none, split, front)

  ways : (k : Next) → HandAt g k h r → Before a s k r → HasLogPages k g.block s h r → QuietWays (Pages g.block) k g.block a s h r
  ways Check at b has_them = λ none.
      let few = no_pages at in
      record { more = λ n is ask. few; pages = λ n enough is. omega (arith, few, is); ready = λ enough is. few ∙ sym is }
  ways (TakeBlocks asked) at b has_them = record {
    more = λ n is ask. has_them;
    pages = λ n enough is. omega (arith, has_them, is);
    ready = λ enough is. has_them ∙ sym is;
  }
  ways (TakeLogPages asked) at b has_them =
      let sum = take_sum h.pages (list_at s (asked_list (length s.lists) a asked)).blocks r.wanted in
      record {
        more = λ n is ask. omega (arith, sum, is, has_them);
        pages = λ n enough is. cc;
        ready = λ enough is. omega (arith, sum, enough, has_them);
      }
  ways Ready at b has_them = has_them
  ways Enter at b has_them = λ clear.
      appending_pages g.block (work Enter g.block a s h r).shared h
      (go_to (appending 0 (written_slots r)) (noted Enter g.block s h r)) 0 (has_them ∙ sym (written_want s r.plan r.slots))
  ways (Append place) at b has_them =
      let slot = slot_at (written_slots r) place in
      let pages = pages_needed s r.plan slot in
      let new = with_entries (entries_for r slot) h.blocks (with_log_pages (take pages h.pages) (cell_at s slot)) in
      appending_pages g.block (with_cell slot new s) _ (go_to (appending (place + 1) (written_slots r)) r) (place + 1)
      (subst (λ (n : ℕ). length (drop pages h.pages) ≡ pages_wanted (with_cell slot new s) (drop n (written_slots r)) r.plan)
      (sym (add-one place)) (left_are s h r place b.inside has_them (length s.owners) b.are b.wide new))
  ways Open at b has_them = publishing_pages g.block _ h _ (written_slots r) has_them 0
  ways (Publish place) at b has_them = publishing_pages g.block _ _ _ (written_slots r) has_them (place + 1)
  ways Close at b has_them = retiring_pages g.block _ _ _ (written_slots r) has_them 0
  ways (Retire place) at b has_them =
      let slot = slot_at (written_slots r) place in
      retiring_pages g.block _ _ _ (written_slots r)
      (erased_pages (is_erased (retired_cell slot (first_killed h.killed) s r)) h (with_freed slot (first_killed h.killed) s r h) _
      has_them has_them) (place + 1)
  ways Number at b has_them =
      let q = noted Number g.block s h r in
      let d = work Number g.block a s h r in
      locking_any (λ (k : Next). Pages g.block k d.shared d.hand (go_to (locking 0 q.slots) q)) (λ place. tt) tt 0 q.slots
  ways (Look place) at b has_them =
      let q = noted (Look place) g.block s h r in
      looking_any (λ (k : Next). Pages g.block k s h (go_to (looking (place + 1) q) q)) (λ place. tt) (λ place. tt) tt (place + 1) q
  ways (Lock place) at b has_them =
      locking_any (λ (k : Next). Pages g.block k (work (Lock place) g.block a s h r).shared h (go_to (locking (place + 1) r.slots) r)) (λ place. tt) tt (place + 1) r.slots
  ways (SnapshotOrCleaner (PlanCleaning manner slot)) at b has_them = λ ino. (
    tt,
    (let none = ap (λ (x : HandState). length x.pages) at in omega (arith, none)),
  )
  ways (SnapshotOrCleaner (Fresh ino asked wanted)) at b has_them =
      let here = (list_at s (asked_list (length s.lists) a asked)).blocks in (
        λ q. omega (arith, has_them, q, length-append h.pages (take wanted here), length-take wanted here),
        λ n q. omega (arith, has_them, q, length-append h.pages (take wanted here), length-take wanted here),
      )
  ways other at b has_them = tt

  pub own_pages : (k : Next) → HandAt g k h r → Before a s k r → HasLogPages k g.block s h r
      → OnPages g.block (kind_turn k g.block a granted s h r)
  own_pages k at b has_them = quiet_walk (Pages g.block) (pages_quiet g.block) g.block a granted s h r k (ways k at b has_them)

-- ---- cells

abbrev pub AllOnPages : ℕ → Shared → Type 0
AllOnPages page s = (ino : ℕ) → ino < length s.cells → AreOnPages page (cell_at s ino).chain

has_from : (place : ℕ) (slots : List ℕ) → place < length slots → has (drop place slots) (slot_at slots place) ≡ true
has_from place [] lt = absurd (omega (arith, lt))
has_from zero (ino ∷ slots) lt = or_left (ino == ino) (has slots ino) (self ino)
has_from (suc place) (ino ∷ slots) lt = has_from place slots (omega (arith, lt))

module _ (g : GeometryNumbers) (within : IsWithinLimits g) (a : ℕ) (s : Shared) (h : HandState) (r : Running)
    (all : AllOnPages g.page s) where
  pub work_on : (k : Next) → Before a s k r → HasLogPages k g.block s h r
      → ((ino : ℕ) → has (to_append k (written_slots r)) ino ≡ true → IsLog (entries_at s ino ++ entries_for r ino))
      → ((ino : ℕ) → ino < length s.cells → IsCell (cell_at s ino))
      → AllOnPages g.page (work k g.block a s h r).shared
  work_on k b has_them logs cells ino lt =
      cells_after (λ (n : ℕ) (c : CellState). n < length s.cells → AreOnPages g.page c.chain) g.block a s h r all k b (record {
        appends = λ place is inside low there.
            let slot = slot_at (written_slots r) place in
            append_on g.page within.some_entries within.entries_fit (entries_for r slot) h.blocks
            (take (pages_needed s r.plan slot) h.pages) (cell_at s slot) (all slot low)
            (logs slot (subst (λ (k : Next). has (to_append k (written_slots r)) slot ≡ true) (sym is)
            (has_from place (written_slots r) inside)))
            (taken_are s h r place inside (subst (λ (k : Next). HasLogPages k g.block s h r) is has_them));
        publishes = λ place is inside low there.
            let slot = slot_at (written_slots r) place in publish_on g.page (cell_at s slot) (all slot low);
        removes = λ is low left there.
            let x = removal k s h r in remove_on g.page (cell_at s x.slot) x.cell left.keeps (all x.slot low);
        cleans = λ is low there.
            let slot = clean_slot k in clean_on g.page k g.block s h r is (all slot low) has_them (cells slot low);
      }) ino (let n = slots_stay k g.block a s h r in omega (arith, lt, n))

pub appends_commit : (k : Next) (written : List ℕ) (ino : ℕ) → has (to_append k written) ino ≡ true → commits_at k ≡ true
appends_commit (Append place) written ino e = refl
appends_commit other written ino e = cc

-- ---- a step of another

module _ (block b : ℕ) (s t : Shared) (h : HandState) (r : Running) (many : length t.cells ≡ length s.cells)
    (own : (ino : ℕ) → has r.slots ino ≡ true → cell_at t ino ≡ cell_at s ino) where
  cell_same : (handle : Handle) → IsLocked (length s.cells) r.slots handle → cell_at t handle.ino ≡ cell_at s handle.ino
  cell_same handle is = elim (cases_lt handle.ino (length s.cells)) [
    | inl lt ↦ own handle.ino (is lt)
    | inr ge ↦ get_or_past t.cells handle.ino no_cell (omega (arith, ge, many)) ∙ sym (get_or_past s.cells handle.ino no_cell ge)
  ]

  same_nows : SameFor (now s) (now t) r.slots
  same_nows = record {
    many = many;
    nodes = λ handle is. ap (λ (c : CellState). cond (handle.generation == c.generation) (node_of c) None) (cell_same handle is);
    slots = λ handle is. ap (λ (c : CellState). let x : InodeSlot = record { generation = c.generation; log = log_of c } in x)
        (cell_same handle is);
  }

  module _ (k : Next) (none : (ino : ℕ) → is_appended k (written_slots r) ino ≡ false)
      (behind : (ino : ℕ) → is_behind k (written_slots r) ino ≡ false) (grown : HasGrown k s b r)
      (mine : (ino : ℕ) → has r.slots ino ≡ true → owner_at s ino ≡ Some b) (p : Passed block s r) where
    passed_here : IsPassed block (now s) r.call r.looked r.made r.slots
    passed_here = passed_still block (view s) (now s) r.call r.looked r.made r.slots
        (same_then s r.slots (λ ino held. logs_of k s b r grown ino (none ino) (behind ino) (mine ino held))) p

    same_plan : plan_by block t h r ≡ plan_by block s h r
    same_plan =
        plan_still block (now s) (now t) r.call r.looked r.made r.slots same_nows passed_here h.blocks

    pub wanted_same : log_pages_wanted block t h r ≡ log_pages_wanted block s h r
    wanted_same = same_want s t (plan_by block t h r) r.slots own ∙ ap (pages_wanted s r.slots) same_plan

one_slot : (ino : ℕ) (slots : List ℕ) → slots ≡ ino ∷ [] → has slots ino ≡ true
one_slot ino slots is = ap (λ (l : List ℕ). has l ino) is ∙ or_left (ino == ino) (has [] ino) (self ino)

pub their_pages : (k : Next) (block b : ℕ) (s t : Shared) (h : HandState) (r : Running) → length t.cells ≡ length s.cells
    → (held_at k r.slots ≡ r.slots → (ino : ℕ) → has r.slots ino ≡ true → cell_at t ino ≡ cell_at s ino)
    → (held_at k r.slots ≡ r.slots → (ino : ℕ) → has r.slots ino ≡ true → owner_at s ino ≡ Some b)
    → IsInside k r → HasGrown k s b r → FitsAt k block s h r → HasLogPages k block s h r → HasLogPages k block t h r
their_pages (TakeLogPages asked) block b s t h r many own mine inside grown fits has_them =
    has_them ∙ sym (wanted_same block b s t h r many (own refl) (TakeLogPages asked) (λ ino. refl) (λ ino. refl) grown (mine refl) fits.0)
their_pages Ready block b s t h r many own mine inside grown fits has_them =
    has_them ∙ sym (wanted_same block b s t h r many (own refl) Ready (λ ino. refl) (λ ino. refl) grown (mine refl) fits.0)
their_pages Enter block b s t h r many own mine inside grown fits has_them = has_them ∙ sym (same_want s t r.plan r.slots (own refl))
their_pages (Append place) block b s t h r many own mine inside grown fits has_them =
    has_them ∙ sym (same_want s t r.plan (drop place (written_slots r)) (λ ino there.
    own refl ino (has_filter (is_written r.plan) r.slots ino (has_later place (written_slots r) ino there))))
their_pages (SnapshotOrCleaner (Fresh ino asked wanted)) block b s t h r many own mine inside grown fits has_them =
    has_them ∙ ap (λ (c : CellState). (wanted_of c).pages) (sym (own refl ino (one_slot ino r.slots inside)))
their_pages (SnapshotOrCleaner (Compact ino)) block b s t h r many own mine inside grown fits has_them =
    has_them ∙ ap (λ (c : CellState). (wanted_of c).pages) (sym (own refl ino (one_slot ino r.slots inside)))
their_pages other block b s t h r many own mine inside grown fits has_them = has_them
