-- What is known of a world with numbers as which one of the machine stands.
use Rattle.std.proofs.Common.{◌≡◌, ◌∙◌, ℕ, ◌==◌, ◌<◌, Bool, true, false, Some, None, ap, length, refl, subst, sym}
use Rattle.std.specs.Prelude.{if◌then◌else◌, nat_lt}
use Rattle.std.specs.Option.{option_map}
use Rattle.std.proofs.lemmas.Bool.{eqb-true, ltb-false, ltb-true}
use Rattle.std.proofs.lemmas.List.{get_or_past}
use Rattle.nv_base.specs.declared.numbers.Handle.{Handle}
use Rattle.nv_calls.specs.Plain.{PlainNode, node_in}
use Rattle.nv_cell.specs.Readers.{has_entry}
use Rattle.nv_entry.specs.declared.node.NodeCopy.{NodeCopy}
use Rattle.nv_machine.specs.Directories.{AreTree}
use Rattle.nv_machine.specs.Recorded.{records_after}
use Rattle.nv_machine.specs.Settled.{node_by, settled, settled_nodes}
use Rattle.nv_machine.specs.Step.{after}
use Rattle.nv_machine.specs.World.{Shared, World, cell_at}
use Rattle.nv_serial.specs.LogPages.{entries_in}
use Rattle.nv_serial.specs.Serial.{NumberedSlot, Serial, copies_now, log_in, no_slot, slot_of}
use Rattle.nv_serial.proofs.AtRestLogs.{told_by}
use Rattle.nv_serial.proofs.AtRestPlain.{serial_is}
use Rattle.nv_effects.proofs.SoundWorlds.{standing_sound}
use Rattle.nv_mount_laws.specs.World.{CanStand}
use Rattle.nv_mount_laws.proofs.Rows.{one_slot}

-- a world with numbers in which directories form a tree, and each slot has one node at most
pub record IsWell (s : Serial) : Type 0 where
  pub actors : 0 < s.numbers.actors
  pub tree : AreTree (copies_now s)
  pub log : (handle : Handle) (node : NodeCopy) → copies_now s handle ≡ Some node
      → has_entry (log_in s handle.ino) ≡ true
  pub slot : (handle : Handle) (node : NodeCopy) → copies_now s handle ≡ Some node
      → handle.ino < length s.slots
  pub own : (a b : Handle) (m n : NodeCopy) → copies_now s a ≡ Some m → copies_now s b ≡ Some n
      → a.ino ≡ b.ino → a ≡ b

no_node : {P : Type 0} {node : NodeCopy} → None ≡ Some node → P
no_node e = cc

-- a node is of its slot's generation
owned : (shared : Shared) (handle : Handle) (node : NodeCopy)
    → node_in (settled_nodes shared) handle ≡ Some node
    → handle.generation ≡ (cell_at shared handle.ino).generation
owned shared handle node is = go (handle.generation == (cell_at shared handle.ino).generation) refl
    is where
      go : (b : Bool) → (handle.generation == (cell_at shared handle.ino).generation) ≡ b
          → option_map (λ (p : PlainNode). p.node)
          (if handle.generation == (cell_at shared handle.ino).generation then node_by
          (cell_at shared handle.ino) (settled shared handle.ino) else None) ≡ Some node
          → handle.generation ≡ (cell_at shared handle.ino).generation
      go true e there = eqb-true handle.generation (cell_at shared handle.ino).generation e
      go false e there = no_node (rw e at there)

one_node : (shared : Shared) (a b : Handle) (m n : NodeCopy) → node_in (settled_nodes shared) a
    ≡ Some m
    → node_in (settled_nodes shared) b ≡ Some n → a.ino ≡ b.ino → a ≡ b
one_node shared a b m n at_a at_b same =
    one_slot a b same (owned shared a m at_a ∙ ap (λ (ino : ℕ). (cell_at shared ino).generation)
    same ∙ sym (owned shared b n at_b))

-- a slot with an entry is there
has_slot : (s : Serial) (ino : ℕ) → has_entry (log_in s ino) ≡ true → ino < length s.slots
has_slot s ino some = go (nat_lt ino (length s.slots)) refl where
  go : (b : Bool) → nat_lt ino (length s.slots) ≡ b → ino < length s.slots
  go true is = ltb-true ino (length s.slots) is
  go false is =
      let none : slot_of s ino ≡ no_slot = get_or_past s.slots ino no_slot
      (ltb-false ino (length s.slots) is) in
      let empty : has_entry (log_in s ino) ≡ false =
      ap (λ (slot : NumberedSlot). has_entry (entries_in slot.pages)) none in
      let z : true ≡ false = sym some ∙ empty in cc

-- WHAT STANDS is well
pub stands_well : (s : Serial) → CanStand s → IsWell s
stands_well s (w, stands) =
    let sound = standing_sound s.numbers w s stands in
    let start = stands.start in
    let v : World = after start stands.events in
    let same : told_by s.numbers v (records_after start stands.events stands.records) ≡ s =
    sym (serial_is s.numbers start stands.records stands.events stands.is_start)
    ∙ stands.serial_is in
    record {
      actors = sound.actors;
      tree = sound.tree;
      log = sound.logs;
      slot = λ handle node there. has_slot s handle.ino (sound.logs handle node there);
      own = subst
          (λ (t : Serial). (a b : Handle) (m n : NodeCopy) → copies_now t a ≡ Some m
          → copies_now t b ≡ Some n → a.ino ≡ b.ino → a ≡ b)
          same (one_node v.shared);
    }
