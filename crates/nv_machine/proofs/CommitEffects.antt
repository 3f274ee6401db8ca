-- A commit point has the effect that its plan fits.
use Rattle.std.proofs.Common.{Bool, List, None, Option, Some, [], ap, ap₂, arith, cond, false, length, nat_lt, refl, slice_index_or, subst, suc, sym, take, true, zero, ℕ, ◌++◌, ◌<◌, ◌==◌, ◌∙◌, ◌∷◌, ◌≡◌, ◌≤◌}
use Rattle.std.proofs.Math.Path.{fun_ext}
use Rattle.std.proofs.lemmas.Bool.{ltb-false, ltb-true}
use Rattle.std.proofs.lemmas.List.{get_or_past}
use Rattle.nv_alloc.specs.Block.{BlockValue}
use Rattle.nv_alloc.specs.Numbers.{has}
use Rattle.nv_base.specs.declared.numbers.Handle.{Handle}
use Rattle.nv_calls.proofs.Commits.{commits}
use Rattle.nv_calls.specs.AllCalls.{effect}
use Rattle.nv_calls.specs.Plain.{Change, PlainNode, node_in, nodes_after, stamped}
use Rattle.nv_calls.specs.Slots.{Commits as DoesAll, InodeSlot, entries_of, items_for, last_commit, node_under, place_in, published as published_slots}
use Rattle.nv_cell.specs.Cell.{CellState}
use Rattle.nv_entry.specs.Node.{block_now, node_now}
use Rattle.nv_entry.specs.Sound.{Gives, IsSound, empty_node}
use Rattle.nv_base.specs.Limits.{IsWithinLimits}
use Rattle.nv_base.specs.declared.geometry.GeometryNumbers.{GeometryNumbers}
use Rattle.nv_base.specs.declared.node.Kind.TheVariants.{Dir}
use Rattle.nv_journal.specs.Journal.{settled_tail}
use Rattle.nv_machine.specs.Format.{formatted, root_cell, root_entry}
use Rattle.nv_entry.specs.declared.item.Entry.{Entry}
use Rattle.nv_entry.specs.declared.item.Item.{Item}
use Rattle.nv_entry.specs.declared.node.NodeCopy.{NodeCopy}
use Rattle.nv_entry.proofs.SoundLogs.{empty_sound, lawful_gives}
use Rattle.nv_machine.specs.Effects.{AreSound, HasPlanNow, IsSoundIn, settled_slots}
use Rattle.nv_machine.specs.Grown.{AreGrown, fresh_entries}
use Rattle.nv_machine.specs.Kept.{AreApart, AreBlocksApart, HasPages, IsKept}
use Rattle.nv_machine.specs.Locks.{AreLocks}
use Rattle.nv_machine.specs.Order.{IsInOrder}
use Rattle.nv_machine.specs.PlainRun.{Commits, plain_change_of}
use Rattle.nv_machine.specs.Reads.{bytes_among, written_slots}
use Rattle.nv_machine.specs.Settled.{settled, settled_nodes}
use Rattle.nv_machine.specs.Step.{step}
use Rattle.nv_machine.specs.World.{Go, Running, Shared, World, actor_at, cell_at, no_cell}
use Rattle.nv_machine.proofs.NewWorld.{each_cell, new_settled}
use Rattle.nv_machine.proofs.CellPages.{among_at, node_read, page_there, sound_read}
use Rattle.nv_machine.proofs.CellSteps.{same_slot}
use Rattle.nv_machine.proofs.SingleEvents.{goes}
use Rattle.nv_machine.proofs.UnsettledTurns.{SameBlocks, point_shared}
use Rattle.nv_machine.proofs.LogsKeptRuns.{event_kept}
use Rattle.nv_machine.proofs.CommitPoints.{SettlesAll}

pub take_none : (n : ℕ) → take {A = Entry} n [] ≡ []
take_none zero = refl
take_none (suc n) = refl

-- ---- settled nodes, by one reading of all blocks

-- a cell whose settled log is read so, or that is no slot's
pub record IsRead (bytes : ℕ → List ℕ) (block : ℕ) (s : Shared) : Type 0 where
  pub pages : (ino : ℕ) → HasPages (settled s ino) (cell_at s ino)
  pub apart : (ino : ℕ) → AreApart (cell_at s ino).blocks
  pub blocks : (ino n : ℕ) (b : BlockValue) → slice_index_or (cell_at s ino).blocks n None ≡ Some b → bytes b.number ≡ b.bytes
  pub sizes : (ino : ℕ) → ino < length s.cells → (cell_at s ino).block ≡ block

module _ (bytes : ℕ → List ℕ) (block : ℕ) (s : Shared) (is : IsRead bytes block s) where
  pub read_page : (ino page number : ℕ) → block_now (cell_at s ino).block (settled s ino) page ≡ Some number
      → bytes number ≡ bytes_among (cell_at s ino).blocks number
  read_page ino page number h =
      let cell = cell_at s ino in
      let p = page_there cell (settled_tail s.book.journals ino cell.chain.tail) page number (is.pages ino) h in
      let b = same_slot (slice_index_or cell.blocks p.0 None) number p.2 in
      ap bytes (sym b.2) ∙ is.blocks ino p.0 b.0 b.1 ∙ sym (among_at cell.blocks (is.apart ino) p.0 b.0 b.1)
      ∙ ap (bytes_among cell.blocks) b.2

  pub outside : (ino : ℕ) → length s.cells ≤ ino → settled s ino ≡ []
  outside ino past =
      ap (λ (c : CellState). take (settled_tail s.book.journals ino c.chain.tail) c.chain.entries) (get_or_past s.cells ino no_cell past)
      ∙ take_none (settled_tail s.book.journals ino 0)

  read_node : (ino : ℕ) (b : Bool) → nat_lt ino (length s.cells) ≡ b
      → node_now bytes block (settled s ino) ≡ node_now (bytes_among (cell_at s ino).blocks) (cell_at s ino).block (settled s ino)
  read_node ino true e =
      ap (λ (n : ℕ). node_now bytes n (settled s ino)) (sym (is.sizes ino (ltb-true ino (length s.cells) e)))
      ∙ node_read (bytes_among (cell_at s ino).blocks) bytes (cell_at s ino).block (settled s ino) (read_page ino)
  read_node ino false e = rw (outside ino (ltb-false ino (length s.cells) e)) refl

  pub read_nodes : (handle : Handle) → node_under bytes block (settled_slots s) handle ≡ settled_nodes s handle
  read_nodes handle = ap (λ (node : Option NodeCopy). cond (handle.generation == (cell_at s handle.ino).generation)
      (stamped (last_commit (settled s handle.ino)) node) None) (read_node handle.ino (nat_lt handle.ino (length s.cells)) refl)

-- ---- a commit point

module _ (bytes : ℕ → List ℕ) (block : ℕ) (s t : Shared) (r : Running) (plan : HasPlanNow bytes block s r) (settles : SettlesAll s t r)
    (same : SameBlocks s t) where
  published_log : (ino : ℕ) (b : Bool) → has (written_slots r) ino ≡ b
      → settled t ino ≡ settled s ino ++ entries_of r.commit r.epoch (place_in r.plan ino) (items_for r.plan ino)
  published_log ino true e = settles ino ∙ ap (λ (b : Bool). settled s ino ++ fresh_entries b r ino) e
  published_log ino false e = settles ino ∙ ap (λ (b : Bool). settled s ino ++ fresh_entries b r ino) e
      ∙ sym (ap (λ (items : List Item). settled s ino ++ entries_of r.commit r.epoch (place_in r.plan ino) items) (plan.written ino e))

  published_is : settled_slots t ≡ published_slots r.commit r.epoch r.plan (settled_slots s)
  published_is = fun_ext (λ (ino : ℕ). ap₂ (λ (g : ℕ) (log : List Entry). let x : InodeSlot = record { generation = g; log = log } in x)
      (same ino).generation (published_log ino (has (written_slots r) ino) refl))

  abbrev changes : List Change
  changes = effect (node_in (settled_nodes s)) r.made r.call

  does : DoesAll bytes block r.commit r.epoch (settled_slots s) r.plan changes
  does = commits bytes block (settled_slots s) r.commit r.epoch plan.some plan.sound r.plan changes plan.fits

  effect_is : IsRead bytes block s → IsRead bytes block t → (handle : Handle)
      → settled_nodes t handle ≡ nodes_after r.commit changes (settled_nodes s) handle
  effect_is here there handle =
      sym (read_nodes bytes block t there handle)
      ∙ ap (λ (slots : ℕ → InodeSlot). node_under bytes block slots handle) published_is
      ∙ does.nodes handle
      ∙ ap (λ (nodes : Handle → Option PlainNode). nodes_after r.commit changes nodes handle)
      (fun_ext (λ (h : Handle). read_nodes bytes block s here h))

  sound_is : (ino : ℕ) → IsSound bytes block (settled t ino)
  sound_is ino = subst (IsSound bytes block) (sym (published_log ino (has (written_slots r) ino) refl)) (does.sound ino)

read_before : (bytes : ℕ → List ℕ) (block : ℕ) (w : World) (r : Running) → IsKept w → AreBlocksApart w → HasPlanNow bytes block w.shared r
    → IsRead bytes block w.shared
read_before bytes block w r kept apart plan = record
    { pages = kept.logs.pages; apart = apart.cells; blocks = plan.blocks; sizes = plan.sizes }

module _ (bytes : ℕ → List ℕ) (w : World) (actor : ℕ) (granted : Bool) (r : Running) (locks : AreLocks w) (order : IsInOrder w)
    (kept : IsKept w)
    (grown : AreGrown w) (apart : AreBlocksApart w) (there : actor < length w.actors) (is : (actor_at w actor).running ≡ Some r)
    (e : plain_change_of w (Go actor granted) ≡ Commits) (plan : HasPlanNow bytes w.numbers.block w.shared r) where
  abbrev v : World
  v = (step w (Go actor granted)).world

  both : SettlesAll w.shared v.shared r × SameBlocks w.shared v.shared
  both = point_shared w actor granted r locks kept grown there is e

  kept_after : IsKept v
  kept_after = event_kept w locks order kept apart (Go actor granted)

  cells_after : length v.shared.cells ≡ length w.shared.cells
  cells_after = (goes w actor granted r there is).frame.slots

  read_after : IsRead bytes w.numbers.block v.shared
  read_after = record {
    pages = kept_after.logs.pages;
    apart = λ ino. subst AreApart (sym (both.1 ino).blocks) (apart.cells ino);
    blocks = λ ino n b q. plan.blocks ino n b
        (subst (λ (l : List (Option BlockValue)). slice_index_or l n None ≡ Some b) (both.1 ino).blocks q);
    sizes = λ ino lt. (both.1 ino).block ∙ plan.sizes ino (omega (arith, lt, cells_after));
  }

  pub point_effect : (handle : Handle) → settled_nodes v.shared handle
      ≡ nodes_after r.commit (effect (node_in (settled_nodes w.shared)) r.made r.call) (settled_nodes w.shared) handle
  point_effect = effect_is bytes w.numbers.block w.shared v.shared r plan both.0 both.1
      (read_before bytes w.numbers.block w r kept apart plan) read_after

  pub point_sound : (ino : ℕ) → IsSound bytes w.numbers.block (settled v.shared ino)
  point_sound = sound_is bytes w.numbers.block w.shared v.shared r plan both.0 both.1

  sound_in : (ino : ℕ) (b : Bool) → nat_lt ino (length v.shared.cells) ≡ b → IsSoundIn (cell_at v.shared ino) (settled v.shared ino)
  sound_in ino true lt =
      let size = read_after.sizes ino (ltb-true ino (length v.shared.cells) lt) in
      sound_read bytes (bytes_among (cell_at v.shared ino).blocks) (cell_at v.shared ino).block (settled v.shared ino)
      (λ page number h. sym (read_page bytes w.numbers.block v.shared read_after ino page number h))
      (subst (λ (n : ℕ). IsSound bytes n (settled v.shared ino)) (sym size) (point_sound ino))
  sound_in ino false out =
      subst (IsSoundIn (cell_at v.shared ino)) (sym
      (outside bytes w.numbers.block v.shared read_after ino (ltb-false ino (length v.shared.cells) out)))
      (empty_sound (bytes_among (cell_at v.shared ino).blocks) (cell_at v.shared ino).block)

  pub point_is_sound : AreSound v.shared
  point_is_sound ino = sound_in ino (nat_lt ino (length v.shared.cells)) refl

-- ---- a new world

pub root_gives : (g : GeometryNumbers) → 0 < g.block
    → Gives (bytes_among (root_cell g).blocks) g.block (root_entry ∷ []) (Some (empty_node Dir 493))
root_gives g some = lawful_gives (bytes_among (root_cell g).blocks) g.block [] root_entry (Some (empty_node Dir 493)) some
    (empty_sound (bytes_among (root_cell g).blocks) g.block) refl

new_root : (g : GeometryNumbers) → 0 < g.block → IsSound (bytes_among (root_cell g).blocks) g.block (root_entry ∷ [])
new_root g some = (root_gives g some).sound

pub new_sound : (g : GeometryNumbers) → IsWithinLimits g → AreSound (formatted g).shared
new_sound g within ino = subst (IsSoundIn (cell_at (formatted g).shared ino)) (sym (new_settled g ino))
    (each_cell g (λ (c : CellState). IsSoundIn c c.chain.entries) (new_root g (omega (arith, within.some_bytes)))
    (λ block page generation. empty_sound (bytes_among []) block) ino)
