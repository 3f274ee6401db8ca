-- A new inode's handle is new: it leads to no node before its commit point, and no commit point has made it before.
use Rattle.nv_book.specs.declared.record.Record.{Record}
use Rattle.std.proofs.Common.{Bool, IsSome, List, None, Option, Some, [], ap, arith, false, if◌then◌else◌, inl, inr, length, length-append, refl, subst, sym, true, ℕ, ◌++◌, ◌<◌, ◌==◌, ◌∙◌, ◌∷◌, ◌≡◌, ◌⊎◌}
use Rattle.std.specs.Prelude.{option_map, ◌||◌}
use Rattle.std.proofs.lemmas.Bool.{and_parts, eq-eqb, eqb-true, lt-ltb, or_cases}
use Rattle.nv_alloc.specs.Numbers.{has}
use Rattle.nv_base.specs.declared.geometry.GeometryNumbers.{GeometryNumbers}
use Rattle.nv_base.specs.declared.numbers.Handle.{Handle}
use Rattle.nv_calls.specs.AllCalls.{plan}
use Rattle.nv_calls.specs.Locked.{handles_made_by}
use Rattle.nv_calls.specs.Plain.{PlainNode, node_in, same_handle}
use Rattle.nv_calls.specs.Slots.{IsFree, entries_of, items_for, place_in}
use Rattle.nv_calls.specs.declared.call.Call.{Call}
use Rattle.nv_calls.specs.declared.plan.InodePlan.{InodePlan}
use Rattle.nv_calls.specs.declared.allocation.Allocation.{Allocation}
use Rattle.nv_entry.specs.Tree.{root}
use Rattle.nv_entry.specs.declared.item.Entry.{Entry}
use Rattle.nv_entry.specs.declared.item.Item.{Item}
use Rattle.nv_entry.specs.declared.node.NodeCopy.{NodeCopy}
use Rattle.nv_machine.specs.Effects.{settled_slots}
use Rattle.nv_machine.specs.Grown.{fresh_entries}
use Rattle.nv_machine.specs.Hands.{makes_inode}
use Rattle.nv_machine.specs.Kinds.{entries_for}
use Rattle.nv_machine.specs.Made.{handles_made, has_handle, made_at}
use Rattle.nv_machine.specs.PlainRun.{Commits, PlainChange, actor_of, plain_change_of, keeps_nodes}
use Rattle.nv_machine.specs.Reads.{is_written, written_slots}
use Rattle.nv_machine.specs.Sequence.{beginning}
use Rattle.nv_machine.specs.Settled.{node_by, settled, settled_nodes}
use Rattle.nv_machine.specs.Starts.{IsStart}
use Rattle.nv_machine.specs.Step.{after, step}
use Rattle.nv_machine.specs.World.{Event, Go, Running, Shared, World, actor_at, cell_at}
use Rattle.nv_machine.proofs.EveryWorld.{all_known}
use Rattle.nv_machine.proofs.DirectoriesChanged.{some_directory}
use Rattle.nv_machine.proofs.OverEvents.{by_points}
use Rattle.nv_machine.proofs.FitsEvents.{IsKnown, drawn_now, passed_now}
use Rattle.nv_machine.proofs.FitsStages.{Passed, made_locked}
use Rattle.nv_machine.proofs.UnsettledTurns.{point_shared}
use Rattle.nv_machine.proofs.FitsRuns.{taken_of}
use Rattle.nv_machine.proofs.Lists.{or_left, or_right}
use Rattle.nv_machine.proofs.PoolSlots.{filter_has}
use Rattle.nv_machine.proofs.HandlesStayUsed.{IsUsed, IsUsedAt, events_used}
use Rattle.nv_machine.proofs.TreeNumbers.{node_there}
use Rattle.nv_calls.specs.declared.call.Call.TheVariants as call

-- ---- at its commit point a new handle becomes used

-- whatever its directory, the plan has an item for it
begin_items : (b : Bool) (items more : List Item) → 0 < length items → 0 < length more → 0 < length (if b then items else more)
begin_items true items more some rest = some
begin_items false items more some rest = rest

own_items : (b : Bool) (items : List Item) → b ≡ true → 0 < length items → 0 < length (if b then items else [])
own_items true items e some = some
own_items false items e some = cc

made_items : (block : ℕ) (nodes : Handle → Option NodeCopy) (taken : Allocation) (c : Call) → makes_inode (beginning c) ≡ true
    → 0 < length (items_for (plan block nodes taken c) taken.made.ino)
made_items block nodes taken (call.Create dir name mode) e =
    begin_items (dir.ino == taken.made.ino) _ _ (omega arith)
    (own_items (taken.made.ino == taken.made.ino) _ (eq-eqb taken.made.ino taken.made.ino refl) (omega arith))
made_items block nodes taken (call.Mkdir dir name mode) e =
    begin_items (dir.ino == taken.made.ino) _ _ (omega arith)
    (own_items (taken.made.ino == taken.made.ino) _ (eq-eqb taken.made.ino taken.made.ino refl) (omega arith))
made_items block nodes taken other e = cc

entries_count : (commit epoch place : ℕ) (items : List Item) → 0 < length items → 0 < length (entries_of commit epoch place items)
entries_count commit epoch place [] some = absurd (omega (arith, some))
entries_count commit epoch place (item ∷ items) some = omega arith

module _ (g : GeometryNumbers) (w : World) (known : IsKnown g w) (actor : ℕ) (granted : Bool) (r : Running)
    (there : actor < length w.actors) (is : (actor_at w actor).running ≡ Some r) (e : plain_change_of w (Go actor granted) ≡ Commits)
    (makes : makes_inode (beginning r.call) ≡ true) where
  passed : Passed w.numbers.block w.shared r
  passed = passed_now g w known actor granted r is there e

  -- before it the slot has no settled entry
  free : IsFree (settled_slots w.shared) r.made
  free = passed.free makes

  pub not_used : IsUsed w.shared r.made → ⊥
  not_used (inl past) = let own = free.own in omega (arith, own, past)
  not_used (inr own) =
      let none = ap (λ (l : List Entry). length l) free.empty in
      let some = own.1 in
      omega (arith, none, some)

  items : 0 < length (items_for r.plan r.made.ino)
  items =
      let now = drawn_now g w known actor granted r is there e in
      subst (λ (p : List InodePlan). 0 < length (items_for p r.made.ino)) (sym now.drawn.plan)
      (made_items w.numbers.block (node_in (settled_nodes w.shared))
      (taken_of r.made now.fresh) r.call makes)

  written_now : has (written_slots r) r.made.ino ≡ true
  written_now = filter_has (is_written r.plan) r.slots r.made.ino
      (made_locked (length w.shared.cells) r.slots r.looked r.made r.call makes passed.covers (passed.inside makes))
      (lt-ltb 0 (length (items_for r.plan r.made.ino)) items)

  now_used : IsUsed (step w (Go actor granted)).world.shared r.made
  now_used =
      let k = known.reached in
      let t = (step w (Go actor granted)).world.shared in
      let both = point_shared w actor granted r k.locks k.kept k.grown there is e in
      let log : settled t r.made.ino ≡ settled w.shared r.made.ino ++ entries_for r r.made.ino =
      both.0 r.made.ino
      ∙ ap (λ (b : Bool). settled w.shared r.made.ino ++ fresh_entries b r r.made.ino) written_now in
      let count = ap (λ (l : List Entry). length l) log ∙ length-append (settled w.shared r.made.ino) (entries_for r r.made.ino) in
      let some = entries_count r.commit r.epoch (place_in r.plan r.made.ino) (items_for r.plan r.made.ino) items in
      inr (free.own ∙ sym (both.1 r.made.ino).generation, omega (arith, count, some))

  -- and its handle leads to no node
  pub no_node : settled_nodes w.shared r.made ≡ None
  no_node = go (r.made.generation == (cell_at w.shared r.made.ino).generation) where
    none : node_by (cell_at w.shared r.made.ino) (settled w.shared r.made.ino) ≡ None
    none = ap (node_by (cell_at w.shared r.made.ino)) free.empty

    go : (b : Bool) → (if b then node_by (cell_at w.shared r.made.ino) (settled w.shared r.made.ino) else None) ≡ None
    go true = none
    go false = refl

-- ---- all that were made are used

pub used_as : (s : Shared) (a b : Handle) → same_handle a b ≡ true → IsUsed s a → IsUsed s b
used_as s a b same used =
    let parts = and_parts (a.ino == b.ino) (a.generation == b.generation) same in
    subst (λ (n : ℕ). IsUsedAt s n b.generation) (eqb-true a.ino b.ino parts.0)
    (subst (λ (n : ℕ). IsUsedAt s a.ino n) (eqb-true a.generation b.generation parts.1) used)

-- a call whose new handle this is
record IsMade (made : Handle) (c : Call) (handle : Handle) : Type 0 where
  same : same_handle made handle ≡ true
  makes : makes_inode (beginning c) ≡ true

one_handle : (made handle : Handle) → (same_handle made handle || false) ≡ true → same_handle made handle ≡ true
one_handle made handle e = go (same_handle made handle) e where
  go : (b : Bool) → (b || false) ≡ true → b ≡ true
  go true e = refl
  go false e = cc

is_made : (made : Handle) (c : Call) (handle : Handle) → has_handle (handles_made_by made c) handle ≡ true → IsMade made c handle
is_made made (call.Create dir name mode) handle e = record { same = one_handle made handle e; makes = refl }
is_made made (call.Mkdir dir name mode) handle e = record { same = one_handle made handle e; makes = refl }
is_made made other handle e = cc

module _ (g : GeometryNumbers) (w : World) (known : IsKnown g w) (handle : Handle) where
  none_made : (d : PlainChange) (running : Option Running) → keeps_nodes d ≡ true → has_handle (made_at d running) handle ≡ true → ⊥
  none_made Commits running keeps made = cc
  none_made other running keeps made = cc

  pub event_made : (e : Event) → has_handle (made_at (plain_change_of w e) (actor_at w (actor_of e)).running) handle ≡ true
      → IsUsed (step w e).world.shared handle
  event_made = by_points w (λ (e : Event). has_handle (made_at (plain_change_of w e) (actor_at w (actor_of e)).running) handle ≡ true
      → IsUsed (step w e).world.shared handle)
      (λ actor granted r there is e made.
      let one = is_made r.made r.call handle (sym (ap (λ (d : PlainChange). has_handle (made_at d (actor_at w actor).running) handle) e
      ∙ ap (λ (o : Option Running). has_handle (made_at Commits o) handle) is) ∙ made) in
      used_as (step w (Go actor granted)).world.shared r.made handle one.same
      (now_used g w known actor granted r there is e one.makes))
      (λ e keeps made. absurd (none_made (plain_change_of w e) (actor_at w (actor_of e)).running keeps made))

pub has_either : (xs ys : List Handle) (handle : Handle) → has_handle (xs ++ ys) handle ≡ true
    → (has_handle xs handle ≡ true) ⊎ (has_handle ys handle ≡ true)
has_either [] ys handle e = inr e
has_either (x ∷ xs) ys handle e = elim (or_cases (same_handle x handle) (has_handle (xs ++ ys) handle) e) [
  | inl same ↦ inl (or_left (same_handle x handle) (has_handle xs handle) same)
  | inr rest ↦ elim (has_either xs ys handle rest) [
    | inl there ↦ inl (or_right (same_handle x handle) (has_handle xs handle) there)
    | inr there ↦ inr there
  ]
]

events_made : (g : GeometryNumbers) (events : List Event) (w : World) (handle : Handle)
    → ((before : List Event) → IsKnown g (after w before)) → has_handle (handles_made w events) handle ≡ true
    → IsUsed (after w events).shared handle
events_made g [] w handle known made = cc
events_made g (e ∷ events) w handle known made =
    elim (has_either (made_at (plain_change_of w e) (actor_at w (actor_of e)).running) (handles_made (step w e).world events) handle made) [
      | inl now ↦ events_used events (step w e).world handle (λ before. (known (e ∷ before)).reached)
          (event_made g w (known []) handle e now)
      | inr later ↦ events_made g events (step w e).world handle (λ before. known (e ∷ before)) later
    ]

-- a handle that leads to a node is used
pub node_used : (s : Shared) (handle : Handle) → IsSome (node_in (settled_nodes s) handle) → IsUsed s handle
node_used s handle some = let there = node_there s handle some in inr (sym there.0, there.1)

-- ---- the laws

module _ (g : GeometryNumbers) (start : World) (records : List Record) (events : List Event) (actor : ℕ) (granted : Bool)
    (r : Running) (is_start : IsStart g start records)
    (there : actor < length (after start events).actors) (is : (actor_at (after start events) actor).running ≡ Some r)
    (e : plain_change_of (after start events) (Go actor granted) ≡ Commits) (makes : makes_inode (beginning r.call) ≡ true) where
  pub made_node : settled_nodes (after start events).shared r.made ≡ None
  made_node =
      no_node g (after start events) (all_known g start records is_start events) actor
      granted r there is e makes

  out : IsUsed (after start events).shared r.made → ⊥
  out =
      not_used g (after start events) (all_known g start records is_start events) actor
      granted r there is e makes

  -- what led to a node at the start is used ever after
  still_used : (handle : Handle) → IsSome (node_in (settled_nodes start.shared) handle) → IsUsed (after start events).shared handle
  still_used handle some =
      events_used events start handle (λ before. (all_known g start records is_start before).reached) (node_used start.shared handle some)

  -- so at the start no node was there
  pub no_node_before : settled_nodes start.shared r.made ≡ None
  no_node_before = go (settled_nodes start.shared r.made) refl where
    go : (node : Option PlainNode) → settled_nodes start.shared r.made ≡ node → settled_nodes start.shared r.made ≡ None
    go None e = e
    go (Some node) e = absurd (out (still_used r.made
        (subst (λ (o : Option PlainNode). IsSome (option_map (λ (p : PlainNode). p.node) o)) (sym e) refl)))

  pub made_once : has_handle (root ∷ handles_made start events) r.made ≡ false
  made_once = go (has_handle (root ∷ handles_made start events) r.made) refl where
    go : (b : Bool) → has_handle (root ∷ handles_made start events) r.made ≡ b
        → has_handle (root ∷ handles_made start events) r.made ≡ false
    go false q = q
    go true q = elim (or_cases (same_handle root r.made) (has_handle (handles_made start events) r.made) q) [
      | inl same ↦ absurd (out (used_as (after start events).shared root r.made same
          (still_used root (some_directory (node_in (settled_nodes start.shared) root) is_start.tree.one_name.top))))
      | inr made ↦ absurd (out
          (events_made g events start r.made (all_known g start records is_start) made))
    ]
