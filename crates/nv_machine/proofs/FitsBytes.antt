-- One reading of all blocks of all cells, and the plan of a call at its commit point.
use Rattle.std.proofs.Common.{◌≡◌, ◌⊎◌, ℕ, zero, suc, ◌<◌, ◌≤◌, ◌==◌, ◌∙◌, Bool, true, false, cond, List, [], ◌∷◌, Option, Some, None, ap, arith, flat_map, inl, inr, length, refl, slice_index_or, subst, sym}
use Rattle.std.specs.List.{AllByRecursion}
use Rattle.std.specs.Option.{option_map}
use Rattle.std.specs.Prelude.{Contains}
use Rattle.std.proofs.Math.Path.{fun_ext}
use Rattle.std.proofs.lemmas.Bool.{cases_lt, eqb-true, ltb-false, ltb-true, true≢false}
use Rattle.std.proofs.lemmas.List.Concat.{flat_map-append}
use Rattle.nv_alloc.specs.Block.{BlockValue, numbers_of}
use Rattle.nv_alloc.specs.Numbers.{IsEachOnce, has, times}
use Rattle.nv_alloc.proofs.Lists.{times-append}
use Rattle.nv_base.specs.declared.numbers.Handle.{Handle}
use Rattle.nv_calls.proofs.Keeps.{keeps_to_its}
use Rattle.nv_calls.proofs.Lawful.{plan_good}
use Rattle.nv_calls.proofs.Passed.{IsThere}
use Rattle.nv_calls.proofs.fits.All.{call_fits}
use Rattle.nv_calls.specs.AllCalls.{IsReady, effect, plan, refusal}
use Rattle.nv_calls.specs.Lawful.{IsLawfulPlan}
use Rattle.nv_calls.specs.Locked.{KeepsToIts, locks}
use Rattle.nv_calls.specs.Plain.{PlainNode, node_in, stamped}
use Rattle.nv_calls.specs.Refusals.{passes}
use Rattle.nv_calls.specs.Slots.{IsPlan, items_for, last_commit, node_under}
use Rattle.nv_calls.specs.declared.plan.InodePlan.{InodePlan}
use Rattle.nv_calls.specs.declared.allocation.Allocation.{Allocation}
use Rattle.nv_cell.specs.Cell.{CellState, of_part, stored_in}
use Rattle.nv_entry.specs.Node.{node_now}
use Rattle.nv_entry.specs.Sound.{IsSound}
use Rattle.nv_entry.specs.declared.item.Entry.{Entry}
use Rattle.nv_entry.specs.declared.item.Item.{Item}
use Rattle.nv_entry.specs.declared.node.NodeCopy.{NodeCopy}
use Rattle.nv_entry.proofs.SoundLogs.{empty_sound}
use Rattle.nv_machine.specs.Effects.{AreSound, HasPlanNow, settled_slots}
use Rattle.nv_machine.specs.FitsNow.{all_parts, bytes_in}
use Rattle.nv_machine.specs.Hands.{makes_inode}
use Rattle.nv_machine.specs.Kept.{AreApart}
use Rattle.nv_machine.specs.Locks.{commits_at}
use Rattle.nv_machine.specs.Numbers.{all_blocks, free_of, held_by_actor, used_blocks}
use Rattle.nv_machine.specs.PlainRun.{Commits, plain_change}
use Rattle.nv_machine.specs.Reads.{bytes_among, is_written, written_slots}
use Rattle.nv_machine.specs.Sequence.{beginning}
use Rattle.nv_machine.specs.Settled.{settled, settled_nodes}
use Rattle.nv_entry.specs.Shape.{IsGoneLast}
use Rattle.nv_machine.specs.Step.{kind_turn}
use Rattle.nv_machine.specs.World.{Close, Enter, HandState, Next, Publish, Running, Shared, World, cell_at, no_cell, SnapshotOrCleaner}
use Rattle.nv_machine.proofs.EndingsStay.{entered_none, no_commit, no_commit_on}
use Rattle.nv_machine.proofs.CellPages.{among_at, sound_read}
use Rattle.nv_machine.proofs.CommitEffects.{IsRead, outside, read_nodes, read_page}
use Rattle.nv_machine.proofs.FitsCalls.{IsOfNode, planned_there}
use Rattle.nv_machine.proofs.FitsCells.{behind, longer}
use Rattle.nv_calls.specs.Filled.{AreRead}
use Rattle.nv_machine.proofs.FitsRuns.{is_ready, taken_of}
use Rattle.nv_machine.proofs.FitsStages.{Drawn, FitsAt, IsLocked, IsStored, Passed}
use Rattle.nv_machine.proofs.PoolSlots.{filter_has}
use Rattle.nv_machine.proofs.Reached.{most_once, twice}
use Rattle.nv_machine.proofs.Shapes.{Grows, plan_grows, plan_last}

-- ---- one reading of all blocks

of_cells : (k : ℕ) (cells : List CellState) → times k (flat_map of_part (all_parts cells)) ≤ times k (flat_map stored_in cells)
of_cells k [] = omega arith
of_cells k (c ∷ cells) =
    let both = ap (times k) (flat_map-append of_part c.blocks (all_parts cells)) in
    omega (
      arith,
      both,
      times-append k (flat_map of_part c.blocks) (flat_map of_part (all_parts cells)),
      times-append k (numbers_of c.chain.blocks) (flat_map of_part c.blocks),
      times-append k (stored_in c) (flat_map stored_in cells),
      of_cells k cells,
    )

few : (many : ℕ) (w : World) → IsEachOnce many (all_blocks w) → (k : ℕ) → times k (flat_map of_part (all_parts w.shared.cells)) ≤ 1
few many w each k = omega (
  arith,
  of_cells k w.shared.cells,
  times-append k (flat_map stored_in w.shared.cells) (flat_map held_by_actor w.actors),
  times-append k (flat_map free_of w.shared.lists) (used_blocks w),
  most_once many (all_blocks w) each k,
)

all_apart : (many : ℕ) (w : World) → IsEachOnce many (all_blocks w) → AreApart (all_parts w.shared.cells)
all_apart many w each n m b c e f same = elim (cases_lt n m) [
  | inl below ↦ let two = twice b.number parts n m b c below e f refl (sym same) in absurd (omega (arith, two, few many w each b.number))
  | inr above ↦ elim (cases_lt m n) [
    | inl below ↦ let two = twice b.number parts m n c b below f e (sym same) refl in absurd (omega (arith, two, few many w each b.number))
    | inr below ↦ omega (arith, above, below)
  ]
] where
  parts : List (Option BlockValue)
  parts = all_parts w.shared.cells

part_at : (cells : List CellState) (ino n : ℕ) (b : BlockValue) → slice_index_or (slice_index_or cells ino no_cell).blocks n None ≡ Some b
    → (m : ℕ) × (slice_index_or (all_parts cells) m None ≡ Some b)
part_at [] ino n b e = cc
part_at (c ∷ cells) zero n b e = (n, longer c.blocks (all_parts cells) n b e)
part_at (c ∷ cells) (suc ino) n b e = let m = part_at cells ino n b e in behind c.blocks (all_parts cells) m.0 b m.1

pub all_read : (many : ℕ) (w : World) → IsEachOnce many (all_blocks w) → (ino n : ℕ) (b : BlockValue)
    → slice_index_or (cell_at w.shared ino).blocks n None ≡ Some b → bytes_in w.shared b.number ≡ b.bytes
all_read many w each ino n b e =
    let m = part_at w.shared.cells ino n b e in
    among_at (all_parts w.shared.cells) (all_apart many w each) m.0 b m.1

-- ---- settled logs, by this reading

module _ (bytes : ℕ → List ℕ) (block : ℕ) (s : Shared) (is : IsRead bytes block s) (sound : AreSound s) where
  log_sound : (ino : ℕ) → IsSound bytes block (settled s ino)
  log_sound ino = elim (cases_lt ino (length s.cells)) [
    | inl lt ↦ subst (λ (n : ℕ). IsSound bytes n (settled s ino)) (is.sizes ino lt)
        (sound_read (bytes_among (cell_at s ino).blocks) bytes (cell_at s ino).block (settled s ino)
        (λ page number h. read_page bytes block s is ino page number h) (sound ino))
    | inr ge ↦ subst (IsSound bytes block) (sym (outside bytes block s is ino ge)) (empty_sound bytes block)
  ]

  nodes_are : node_under bytes block (settled_slots s) ≡ settled_nodes s
  nodes_are = fun_ext (read_nodes bytes block s is)

  -- a node that is there has a slot
  inside : (handle : Handle) → IsThere (node_in (node_under bytes block (settled_slots s)) handle) → handle.ino < length s.cells
  inside handle there = elim (cases_lt handle.ino (length s.cells)) [
    | inl lt ↦ lt
    | inr ge ↦ absurd (nothing (handle.generation == (cell_at s handle.ino).generation)
        (sym (ap (λ (log : List Entry). option_map (λ (p : PlainNode). p.node)
        (cond (handle.generation == (cell_at s handle.ino).generation) (stamped (last_commit log) (node_now bytes block log)) None))
        (outside bytes block s is handle.ino ge)) ∙ there.is))
  ] where
    nothing : (b : Bool) → option_map (λ (p : PlainNode). p.node) (cond b (stamped (last_commit []) (node_now bytes block [])) None)
        ≡ Some there.node → ⊥
    nothing true e = cc
    nothing false e = cc

  module _ (r : Running) (some : 0 < block) (p : Passed block s r) (At : List BlockValue → Type 0) (d : Drawn block s r At) where
    abbrev taken : Allocation
    taken = taken_of r.made d.fresh

    passed : refusal block (node_in (node_under bytes block (settled_slots s))) r.call ≡ passes
    passed = subst (λ (nodes : Handle → Option PlainNode). refusal block (node_in nodes) r.call ≡ passes) (sym nodes_are) p.passes

    -- what is planned is locked
    abbrev IsHeld : InodePlan → Type 0
    IsHeld q = has r.slots q.handle.ino ≡ true

    at_place : (P : Handle → Type 0) (list : List Handle) (k : ℕ) (d : Handle) → AllByRecursion P list → k < length list
        → P (slice_index_or list k d)
    at_place P [] k d all lt = absurd (omega (arith, lt))
    at_place P (x ∷ list) zero d all lt = all.0
    at_place P (x ∷ list) (suc k) d all lt = at_place P list k d all.1 (omega (arith, lt))

    locked : (handle : Handle) → Contains (locks r.looked r.made r.call) handle → IsLocked (length s.cells) r.slots handle
    locked handle c = subst (IsLocked (length s.cells) r.slots) c.2
        (at_place (IsLocked (length s.cells) r.slots) (locks r.looked r.made r.call) c.0 handle p.covers c.1)

    abbrev Node : Handle → Option NodeCopy
    Node = node_in (node_under bytes block (settled_slots s))

    held_one : (q : InodePlan) → IsOfNode Node (makes_inode (beginning r.call)) r.made q → IsLocked (length s.cells) r.slots q.handle
        → IsHeld q
    held_one q (inl new) lock = lock (subst (λ (h : Handle). h.ino < length s.cells) (sym new.1) (p.inside new.0))
    held_one q (inr there) lock = lock (inside q.handle there)

    held_all : (plan : List InodePlan) → AllByRecursion (IsOfNode Node (makes_inode (beginning r.call)) r.made) plan
        → AllByRecursion (λ (q : InodePlan). Contains (locks r.looked r.made r.call) q.handle) plan → AllByRecursion IsHeld plan
    held_all [] all among = tt
    held_all (q ∷ plan) all among = (held_one q all.0 (locked q.handle among.0), held_all plan all.1 among.1)

    plan_there : AllByRecursion (IsOfNode Node (makes_inode (beginning r.call)) r.made) r.plan
    plan_there = subst (AllByRecursion (IsOfNode Node (makes_inode (beginning r.call)) r.made))
        (ap (λ (nodes : Handle → Option PlainNode). plan block (node_in nodes) taken r.call) nodes_are ∙ sym d.drawn.plan)
        (planned_there bytes block (settled_slots s) taken some r.call passed)

    plan_among : AllByRecursion (λ (q : InodePlan). Contains (locks r.looked r.made r.call) q.handle) r.plan
    plan_among =
        let k : KeepsToIts (node_in (settled_nodes s)) r.call taken (plan block (node_in (settled_nodes s)) taken r.call) =
        keeps_to_its block (node_in (settled_nodes s)) taken r.call in
        subst (AllByRecursion (λ (q : InodePlan). Contains (locks r.looked r.made r.call) q.handle)) (sym d.drawn.plan)
        (subst (λ (l : _). AllByRecursion (λ (q : InodePlan). Contains (locks l r.made r.call) q.handle)
        (plan block (node_in (settled_nodes s)) taken r.call)) p.found k.handles)

    items_held : (plan : List InodePlan) → AllByRecursion IsHeld plan → (ino : ℕ) → 0 < length (items_for plan ino) → has r.slots ino ≡ true
    items_held [] all ino lt = absurd (omega (arith, lt))
    items_held (q ∷ plan) all ino lt = go (q.handle.ino == ino) refl lt (items_held plan all.1 ino) where
      go : (b : Bool) → (q.handle.ino == ino) ≡ b → 0 < length (cond b q.items (items_for plan ino))
          → (0 < length (items_for plan ino) → has r.slots ino ≡ true) → has r.slots ino ≡ true
      go true e lt more = subst (λ (n : ℕ). has r.slots n ≡ true) (eqb-true q.handle.ino ino e) all.0
      go false e lt more = more lt

    no_items : (items : List Item) → length items ≤ 0 → items ≡ []
    no_items [] le = refl
    no_items (x ∷ items) le = absurd (omega (arith, le))

    pub written : (ino : ℕ) → has (written_slots r) ino ≡ false → items_for r.plan ino ≡ []
    written ino out = go (is_written r.plan ino) refl where
      go : (b : Bool) → is_written r.plan ino ≡ b → items_for r.plan ino ≡ []
      go false e = no_items (items_for r.plan ino) (ltb-false 0 (length (items_for r.plan ino)) e)
      go true e = absurd (true≢false (sym (filter_has (is_written r.plan) r.slots ino
          (items_held r.plan (held_all r.plan plan_there plan_among) ino (ltb-true 0 (length (items_for r.plan ino)) e)) e) ∙ out))

  module _ (r : Running) (some : 0 < block) (p : Passed block s r) (d : Drawn block s r (AllByRecursion (IsStored s r.slots))) where
    abbrev Stored : List BlockValue → Type 0
    Stored = AllByRecursion (IsStored s r.slots)

    abbrev mine : Allocation
    mine = taken_of r.made d.fresh

    stored_read : (bs : List BlockValue) → AllByRecursion (IsStored s r.slots) bs → AreRead bytes bs
    stored_read [] all = tt
    stored_read (b ∷ bs) all = (is.blocks all.0.ino all.0.place b all.0.is, stored_read bs all.1)

    ready : IsReady bytes block (settled_slots s) (node_in (node_under bytes block (settled_slots s))) mine r.call
    ready = subst (λ (nodes : Handle → Option PlainNode). IsReady bytes block (settled_slots s) (node_in nodes) mine r.call)
        (sym nodes_are)
        (is_ready bytes block (settled_slots s) (node_in (settled_nodes s)) r.made d.fresh (stored_read d.fresh d.at) r.call p.free
        d.drawn.filled)

    fits : IsPlan bytes block (settled_slots s) r.plan (effect (node_in (settled_nodes s)) r.made r.call)
    fits = subst (λ (plan : List InodePlan). IsPlan bytes block (settled_slots s) plan (effect (node_in (settled_nodes s)) r.made r.call))
        (sym d.drawn.plan)
        (subst (λ (nodes : Handle → Option PlainNode). IsPlan bytes block (settled_slots s) (plan block (node_in nodes) mine r.call)
        (effect (node_in nodes) r.made r.call)) nodes_are
        (call_fits bytes block (settled_slots s) mine some log_sound r.call (passed r some p Stored d) ready))

    -- and its items are lawful for what their slots have
    lawful : IsLawfulPlan block (node_in (node_under bytes block (settled_slots s))) r.plan
    lawful = subst (IsLawfulPlan block (node_in (node_under bytes block (settled_slots s))))
        (ap (λ (nodes : Handle → Option PlainNode). plan block (node_in nodes) mine r.call) nodes_are ∙ sym d.drawn.plan)
        (plan_good bytes block (settled_slots s) some mine log_sound r.call (passed r some p Stored d) ready)

    pub grows_now : (ino : ℕ) → (items_for r.plan ino ≡ []) ⊎ Grows block (settled s ino) (items_for r.plan ino)
    grows_now =
        plan_grows bytes block (settled_slots s) (makes_inode (beginning r.call)) r.made p.free r.plan lawful
        (plan_there r some p Stored d) fits.all
        (subst (AllByRecursion (λ (q : InodePlan). IsGoneLast q.items)) (sym d.drawn.plan)
        (plan_last block (node_in (settled_nodes s)) mine r.call))

    pub plan_now : HasPlanNow bytes block s r
    plan_now = record {
      some = some;
      sizes = is.sizes;
      blocks = is.blocks;
      sound = log_sound;
      written = written r some p Stored d;
      fits = fits;
    }

-- a commit point is a step at which this is known
pub point_fits : (k : Next) (block a : ℕ) (granted : Bool) (s : Shared) (h : HandState) (r : Running)
    → plain_change k (written_slots r) (kind_turn k block a granted s h r) ≡ Commits → FitsAt k block s h r
    → (commits_at k ≡ true) × Passed block s r × Drawn block s r (AllByRecursion (IsStored s r.slots))
point_fits Close block a granted s h r e f = (refl, f.0, f.1)
point_fits (Publish place) block a granted s h r e f = (refl, f.0, f.1)
point_fits Enter block a granted s h r e f = absurd (entered_none _ e)
point_fits (SnapshotOrCleaner step) block a granted s h r e f = absurd (no_commit_on step _ e)
point_fits other block a granted s h r e f = absurd (no_commit e)
