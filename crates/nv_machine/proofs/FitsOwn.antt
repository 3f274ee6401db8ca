-- A call that passes its check knows so, and keeps its plan up to its commit point, at each step of its own.
use Rattle.std.proofs.Common.{◌≡◌, ◌⊎◌, ℕ, ◌^◌, ◌<◌, ◌==◌, ◌++◌, ◌∙◌, Bool, true, false, cond, List, [], ◌∷◌, Option, Some, None, ap, ap₂, arith, flat_map, get_or-set_same, inl, inr, length, map, nat_lt, refl, slice_index_or, subst, sym, take}
use Rattle.std.specs.List.{AllByRecursion}
use Rattle.std.specs.Prelude.{Ok, Err}
use Rattle.std.proofs.lemmas.Bool.{cases_lt, false≢true}
use Rattle.std.proofs.lemmas.List.{append-nil, get_or_past}
use Rattle.nv_alloc.specs.Block.{BlockValue, numbers_of}
use Rattle.nv_alloc.specs.Numbers.{has}
use Rattle.nv_base.specs.declared.numbers.Handle.{Handle}
use Rattle.nv_calls.proofs.Commits.{entries-items}
use Rattle.nv_calls.proofs.Keeps.{keeps_to_its}
use Rattle.nv_calls.specs.AllCalls.{blocks_wanted, early, effect, looked, plan, present_in, refusal}
use Rattle.nv_calls.specs.Locked.{KeepsToIts, handles, handles_made_by}
use Rattle.nv_calls.specs.Plain.{Change, node_in}
use Rattle.nv_calls.specs.Plan.{plan_blocks, block_runs_of}
use Rattle.nv_calls.specs.Refusals.{Check as Tests, passes}
use Rattle.nv_calls.specs.Slots.{IsFree, InodeSlot, items_for, place_in}
use Rattle.nv_calls.specs.declared.call.Call.{Call}
use Rattle.nv_calls.specs.declared.call.Call.TheVariants as call
use Rattle.nv_calls.specs.declared.plan.InodePlan.{InodePlan}
use Rattle.nv_calls.specs.declared.allocation.Allocation.{Allocation}
use Rattle.nv_cell.specs.Cell.{CellState, log_of}
use Rattle.nv_entry.specs.Blocks.{item_blocks}
use Rattle.nv_entry.specs.Sound.{blocks_of}
use Rattle.nv_entry.specs.declared.item.Entry.{Entry}
use Rattle.nv_journal.specs.Journal.{settled_tail}
use Rattle.nv_machine.specs.Hands.{makes_inode}
use Rattle.nv_machine.specs.Kinds.{check_ending, entries_for, with_entries}
use Rattle.nv_calls.proofs.FillPages.{filled_numbers, length_filled}
use Rattle.nv_calls.specs.FillPages.{filled, fresh_pages}
use Rattle.nv_machine.specs.Reads.{copies, has_last_page, if_number, is_written, nodes, plan_by, slots_of, written_slots}
use Rattle.nv_machine.specs.Sequence.{Beginning, Numbers, beginning}
use Rattle.nv_machine.specs.Settled.{node_by, settled, settled_nodes}
use Rattle.nv_machine.specs.Step.{ending_at, is_numbered, made_in, same_looked}
use Rattle.nv_machine.specs.World.{HandState, Running, Shared, cell_at, no_cell, with_cell}
use Rattle.nv_machine.proofs.CellSteps.{items_in}
use Rattle.nv_machine.proofs.CommitEffects.{take_none}
use Rattle.nv_calls.proofs.CheckEnds.{looked_is}
use Rattle.nv_machine.proofs.FitsCalls.{plan_all}
use Rattle.nv_machine.proofs.FitsCells.{IsIn, IsWider, entries_stored}
use Rattle.nv_machine.proofs.FitsRuns.{taken_of}
use Rattle.nv_machine.proofs.FitsStages.{HasDrawn, IsDrawn, IsLocked, IsPassed, IsStored, Passed, SameFor, SameStored, View, drawn_still, passed_still, view, wanted_in, wanted_still}
use Rattle.nv_machine.proofs.Lists.{or_left, or_right, self}
use Rattle.nv_machine.proofs.PoolSlots.{filtered, in_range}
use Rattle.nv_machine.proofs.PlansOfBlocks.{length_numbers, runs_are, small_numbers}

-- ---- a call that does not commit reads the settled logs of what it has locked

abbrev pub now : Shared → View
now s = record {
  nodes = nodes s;
  slots = λ ino. record { generation = (cell_at s ino).generation; log = log_of (cell_at s ino) };
  many = length s.cells;
}

slot_log : (g : ℕ) (a b : List Entry) → a ≡ b
    → (let x : InodeSlot = record { generation = g; log = a } in x) ≡ (let y : InodeSlot = record { generation = g; log = b } in y)
slot_log g a b e = ap (λ (l : List Entry). let x : InodeSlot = record { generation = g; log = l } in x) e

module _ (s : Shared) (locked : List ℕ) (logs : (ino : ℕ) → has locked ino ≡ true → settled s ino ≡ log_of (cell_at s ino)) where
  log_here : (handle : Handle) → IsLocked (length s.cells) locked handle → settled s handle.ino ≡ log_of (cell_at s handle.ino)
  log_here handle is = elim (cases_lt handle.ino (length s.cells)) [
    | inl lt ↦ logs handle.ino (is lt)
    | inr ge ↦
        let none = get_or_past s.cells handle.ino no_cell ge in
        ap (λ (c : CellState). take (settled_tail s.book.journals handle.ino c.chain.tail) c.chain.entries) none
        ∙ take_none (settled_tail s.book.journals handle.ino 0) ∙ sym (take_none 0) ∙ sym (ap log_of none)
  ]

  node_here : (handle : Handle) → IsLocked (length s.cells) locked handle → settled_nodes s handle ≡ nodes s handle
  node_here handle is = ap (λ (log : List Entry). cond (handle.generation == (cell_at s handle.ino).generation)
      (node_by (cell_at s handle.ino) log) None) (log_here handle is)

  pub same_now : SameFor (now s) (view s) locked
  same_now = record {
    many = refl;
    nodes = node_here;
    slots = λ handle is. slot_log (cell_at s handle.ino).generation _ _
        (log_here handle is);
  }

  pub same_then : SameFor (view s) (now s) locked
  same_then = record {
    many = refl;
    nodes = λ handle is. sym (node_here handle is);
    slots = λ handle is. slot_log (cell_at s handle.ino).generation _ _ (sym (log_here handle is));
  }

pub last_page : (block : ℕ) (s : Shared) (c : Call) → has_last_page block s c ≡ present_in block (now s).slots c
last_page block s (call.Size file size) = refl
last_page block s other = refl

-- ---- what is locked

pub has_back : (xs ys : List ℕ) (n : ℕ) → has ys n ≡ true → has (xs ++ ys) n ≡ true
has_back [] ys n e = e
has_back (x ∷ xs) ys n e = or_right (x == n) (has (xs ++ ys) n) (has_back xs ys n e)

abbrev pub inos : List Handle → List ℕ
inos list = map (λ (h : Handle). h.ino) list

pub cover_each : (many : ℕ) (locked : List ℕ) (list : List Handle)
    → ((n : ℕ) → has (inos list) n ≡ true → n < many → has locked n ≡ true) → AllByRecursion (IsLocked many locked) list
cover_each many locked [] f = tt
cover_each many locked (x ∷ list) f = (
  f x.ino (or_left (x.ino == x.ino) (has (inos list) x.ino) (self x.ino)),
  cover_each many locked list (λ n e. f n (or_right (x.ino == n) (has (inos list) n) e)),
)

cover_made : (P : Handle → Type 0) (s : Shared) (number : Option ℕ) (made : Handle) (c : Call) (list : List Handle)
    → is_numbered (beginning c) number ≡ true → ((ino : ℕ) → number ≡ Some ino → P (made_in s (Some ino) made)) → AllByRecursion P list
    → AllByRecursion P (handles_made_by (made_in s number made) c ++ list)
cover_made P s None made (call.Create dir name mode) list e f all = cc
cover_made P s None made (call.Mkdir dir name mode) list e f all = cc
cover_made P s (Some ino) made (call.Create dir name mode) list e f all = (f ino refl, all)
cover_made P s (Some ino) made (call.Mkdir dir name mode) list e f all = (f ino refl, all)
cover_made P s number made other list e f all = all

makes_number : (b : Beginning) (number : Option ℕ) → makes_inode b ≡ true → is_numbered b number ≡ true
    → (ino : ℕ) × (number ≡ Some ino)
makes_number Numbers None e f = cc
makes_number Numbers (Some ino) e f = (ino, refl)
makes_number other number e f = cc

-- ---- the check

passed_all : (early : Tests) (same : Bool) (tests : Tests) (numbered : Bool) (effect : List Change)
    → check_ending early same tests numbered effect ≡ None → (same ≡ true) × (tests ≡ passes) × (numbered ≡ true)
passed_all (Err fault) same tests numbered effect e = cc
passed_all (Ok passed) false tests numbered effect e = cc
passed_all (Ok passed) true (Err fault) numbered effect e = cc
passed_all (Ok passed) true (Ok all) false effect e = cc
passed_all (Ok passed) true (Ok all) true [] e = cc
passed_all (Ok passed) true (Ok all) true (change ∷ effect) e = (refl, refl, refl)

-- a number whose slot has no inode
pub record IsNumberFree (s : Shared) (ino : ℕ) : Type 0 where
  pub inside : ino < length s.cells
  pub empty : log_of (cell_at s ino) ≡ []

module _ (block : ℕ) (s : Shared) (h : HandState) (r : Running)
    (logs : (ino : ℕ) → has r.slots ino ≡ true → settled s ino ≡ log_of (cell_at s ino)) where
  module _ (slots : r.slots ≡ slots_of s h.ino r.looked r.call) (free : (ino : ℕ) → h.ino ≡ Some ino → IsNumberFree s ino)
      (e : ending_at block s h r ≡ None) where
    abbrev made : Handle
    made = made_in s h.ino r.made

    tests : (same_looked (looked (copies s) r.call) r.looked ≡ true) × (refusal block (copies s) r.call ≡ passes)
        × (is_numbered (beginning r.call) h.ino ≡ true)
    tests = passed_all (early (copies s) r.call) (same_looked (looked (copies s) r.call) r.looked) (refusal block (copies s) r.call)
        (is_numbered (beginning r.call) h.ino) (effect (copies s) made r.call) e

    listed : (n : ℕ) → has (if_number h.ino ++ inos (handles r.looked r.call)) n ≡ true → n < length s.cells → has r.slots n ≡ true
    listed n there lt = subst (λ (l : List ℕ). has l n ≡ true) (sym slots)
        (in_range (length s.cells) (if_number h.ino ++ inos (handles r.looked r.call)) n there lt)

    number : makes_inode (beginning r.call) ≡ true → (ino : ℕ) × (h.ino ≡ Some ino)
    number makes = makes_number (beginning r.call) h.ino makes tests.2

    passed_now : IsPassed block (now s) r.call r.looked made r.slots
    passed_now = record {
      covers = cover_made (IsLocked (length s.cells) r.slots) s h.ino r.made r.call (handles r.looked r.call) tests.2
          (λ ino is lt. listed ino (ap (λ (o : Option ℕ). has (if_number o ++ inos (handles r.looked r.call)) ino) is
          ∙ or_left (ino == ino) (has (inos (handles r.looked r.call)) ino) (self ino)) lt)
          (cover_each (length s.cells) r.slots (handles r.looked r.call)
          (λ n there lt. listed n (has_back (if_number h.ino) (inos (handles r.looked r.call)) n there) lt));
      found = looked_is (looked (copies s) r.call) r.looked tests.0;
      passes = tests.1;
      inside = λ makes. let m = number makes in
          subst (λ (o : Option ℕ). (made_in s o r.made).ino < length s.cells) (sym m.1) (free m.0 m.1).inside;
      free = λ makes. let m = number makes in
          subst (λ (o : Option ℕ). IsFree (now s).slots (made_in s o r.made)) (sym m.1) (record {
            empty = (free m.0 m.1).empty;
            own = refl;
          });
    }

    pub passed_check : IsPassed block (view s) r.call r.looked made r.slots
    passed_check = passed_still block (now s) (view s) r.call r.looked made r.slots (same_now s r.slots logs) passed_now

    pub wanted_check : blocks_wanted block (copies s) (has_last_page block s r.call) r.call ≡ wanted_in block (view s) r.call
    wanted_check = ap (λ (b : Bool). blocks_wanted block (copies s) b r.call) (last_page block s r.call)
        ∙ sym (wanted_still block (now s) (view s) r.call r.looked made r.slots (same_now s r.slots logs) passed_now)

  -- ---- ready

  small_filled : (pages : List (List ℕ)) (bs : List BlockValue) → AllByRecursion (λ (b : BlockValue). b.number < 2 ^ 32) bs
      → AllByRecursion (λ (b : BlockValue). b.number < 2 ^ 32) (filled pages bs)
  small_filled [] bs all = all
  small_filled (page ∷ pages) [] all = tt
  small_filled (page ∷ pages) (b ∷ bs) all = (all.0, small_filled pages bs all.1)

  module _ (p : Passed block s r) (count : length h.blocks ≡ wanted_in block (view s) r.call)
      (small : AllByRecursion (λ (b : BlockValue). b.number < 2 ^ 32) h.blocks) where
    abbrev fresh : List BlockValue
    fresh = filled (fresh_pages block (copies s) r.call) h.blocks

    passed_then : IsPassed block (now s) r.call r.looked r.made r.slots
    passed_then = passed_still block (view s) (now s) r.call r.looked r.made r.slots (same_then s r.slots logs) p

    drawn_now : IsDrawn block (now s) r.call r.made (plan_by block s h r) fresh
    drawn_now = record {
      plan = ap (λ (numbers : List ℕ).
          plan block (copies s) (let t : Allocation = record { made = r.made; runs = block_runs_of numbers } in t) r.call)
          (sym (filled_numbers (fresh_pages block (copies s) r.call) h.blocks));
      filled = record {
        before = h.blocks;
        is = refl;
        count = length_filled (fresh_pages block (copies s) r.call) h.blocks ∙ count
            ∙ sym (wanted_still block (view s) (now s) r.call r.looked r.made r.slots (same_then s r.slots logs) p);
        small = small_filled (fresh_pages block (copies s) r.call) h.blocks small;
      };
    }

    pub ready_drawn : HasDrawn block (view s) r.call r.made (plan_by block s h r) (λ (bs : List BlockValue). fresh ≡ bs)
    ready_drawn = record {
      fresh = fresh;
      drawn = drawn_still block (now s) (view s) r.call r.looked r.made r.slots (same_now s r.slots logs) passed_then
          (plan_by block s h r) fresh drawn_now;
      at = refl;
    }

-- ---- the first append puts all blocks of the plan into the cell

all_blocks : (plan : List InodePlan) (numbers : List ℕ) (slot : ℕ) → plan_blocks plan ≡ numbers → (1 < length plan → plan_blocks plan ≡ [])
    → is_written plan slot ≡ true → (numbers ≡ []) ⊎ (numbers ≡ flat_map item_blocks (items_for plan slot))
all_blocks [] numbers slot e several there = inl (sym e)
all_blocks (p ∷ q ∷ plan) numbers slot e several there = inl (sym e ∙ several (omega arith))
all_blocks (p ∷ []) numbers slot e several there = go (p.handle.ino == slot) there where
  go : (b : Bool) → nat_lt 0 (length (cond b p.items [])) ≡ true
      → (numbers ≡ []) ⊎ (numbers ≡ flat_map item_blocks (cond b p.items []))
  go true k = inr (sym e ∙ append-nil (flat_map item_blocks p.items))
  go false k = absurd (false≢true k)

module _ (block : ℕ) (s : Shared) (r : Running) (slot : ℕ) (there : has (written_slots r) slot ≡ true) (low : slot < length s.cells)
    (blocks : List BlockValue) (d : IsDrawn block (view s) r.call r.made r.plan blocks) (old : CellState) where
  abbrev new : CellState
  new = with_entries (entries_for r slot) blocks old

  abbrev taken : Allocation
  taken = taken_of r.made blocks

  has_runs : blocks_of taken.runs ≡ numbers_of blocks
  has_runs = runs_are (numbers_of blocks) (small_numbers blocks d.filled.small)

  plan_has : plan_blocks r.plan ≡ numbers_of blocks
  plan_has = ap plan_blocks d.plan
      ∙ plan_all block (node_in (settled_nodes s)) taken (present_in block (view s).slots r.call) r.call (ap length has_runs ∙ length_numbers blocks ∙ d.filled.count) ∙ has_runs

  several : 1 < length r.plan → plan_blocks r.plan ≡ []
  several lt =
      let k : KeepsToIts (node_in (settled_nodes s)) r.call taken
      (plan block (node_in (settled_nodes s)) taken r.call) = keeps_to_its block (node_in (settled_nodes s)) taken r.call in
      ap plan_blocks d.plan ∙ k.several (subst (λ (l : List InodePlan). 1 < length l) d.plan lt)

  pub all_in : AllByRecursion (IsIn new) blocks
  all_in = elim (all_blocks r.plan (numbers_of blocks) slot plan_has several (filtered (is_written r.plan) r.slots slot there)) [
    | inl none ↦ nothing blocks none
    | inr all ↦ entries_stored (entries_for r slot) blocks old
        (record { rest = []; is = all ∙ sym (ap (flat_map item_blocks) items) ∙ sym (append-nil _) }) refl
  ] where
    items : items_in (entries_for r slot) ≡ items_for r.plan slot
    items = entries-items r.commit r.epoch (place_in r.plan slot) (items_for r.plan slot)

    nothing : (bs : List BlockValue) → numbers_of bs ≡ [] → AllByRecursion (IsIn new) bs
    nothing [] e = tt
    nothing (b ∷ bs) e = cc

  -- so they are stored in the world after it
  pub all_stored : (bs : List BlockValue) → has r.slots slot ≡ true → AllByRecursion (IsIn new) bs
      → AllByRecursion (IsStored (with_cell slot new s) r.slots) bs
  all_stored [] held all = tt
  all_stored (b ∷ bs) held all = (
    record {
      ino = slot;
      place = all.0.0;
      held = held;
      is = ap (λ (c : CellState). slice_index_or c.blocks all.0.0 None) (get_or-set_same s.cells slot new no_cell low) ∙ all.0.1;
    },
    all_stored bs held all.1,
  )

-- ---- what keeps logs and nodes, and has all blocks in their places, keeps what is known

pub same_stored : (s t : Shared) (locked : List ℕ) → length t.cells ≡ length s.cells
    → ((handle : Handle) → settled_nodes t handle ≡ settled_nodes s handle) → ((ino : ℕ) → settled t ino ≡ settled s ino)
    → ((ino : ℕ) → IsWider (cell_at s ino) (cell_at t ino)) → SameStored s t locked
same_stored s t locked many nodes logs wide = record {
  same = record {
    many = many;
    nodes = λ handle is. nodes handle;
    slots = λ handle is. ap₂ (λ (g : ℕ) (l : List Entry). let x : InodeSlot = record { generation = g; log = l } in x)
        (wide handle.ino).generation (logs handle.ino);
  };
  blocks = λ ino place b held is. (wide ino).blocks place b is;
}
