-- A world with numbers as which one of the machine stands is sound.
use Rattle.std.proofs.Common.{◌≡◌, ◌∙◌, ◌<◌, ℕ, ◌==◌, Bool, true, false, List, [], ◌∷◌, ap, arith, length, map, Option, Some, None, refl, subst, suc, sym}
use Rattle.std.specs.Prelude.{if◌then◌else◌}
use Rattle.std.specs.Option.{option_map}
use Rattle.std.specs.List.{AllByRecursion, Contains}
use Rattle.std.proofs.lemmas.List.Elements.{All-contains}
use Rattle.nv_base.specs.declared.geometry.GeometryNumbers.{GeometryNumbers}
use Rattle.nv_base.specs.declared.numbers.Handle.{Handle}
use Rattle.nv_book.specs.declared.record.Record.{Record}
use Rattle.nv_calls.specs.Plain.{PlainNode, node_in}
use Rattle.nv_calls.specs.Slots.{last_commit}
use Rattle.nv_cell.specs.Cell.{CellState}
use Rattle.nv_cell.specs.Readers.{has_entry}
use Rattle.nv_entry.specs.Node.{node_now}
use Rattle.nv_entry.specs.Sound.{Tied}
use Rattle.nv_entry.specs.Stored.{Stored, stored}
use Rattle.nv_entry.specs.declared.item.Entry.{Entry}
use Rattle.nv_entry.specs.declared.node.NodeCopy.{NodeCopy}
use Rattle.nv_epoch.specs.SnapList.{ids, numbers}
use Rattle.nv_epoch.specs.declared.snapshot.Snapshot.{Snapshot}
use Rattle.nv_machine.specs.Directories.{AreTree}
use Rattle.nv_machine.specs.Effects.{AreSound}
use Rattle.nv_machine.specs.Needed.{IsAtRest}
use Rattle.nv_machine.specs.PlainRun.{Copy, copy_in}
use Rattle.nv_machine.specs.Recorded.{records_after}
use Rattle.nv_machine.specs.Reads.{bytes_among}
use Rattle.nv_machine.specs.Settled.{node_by, settled, settled_nodes}
use Rattle.nv_machine.specs.Starts.{IsStart}
use Rattle.nv_machine.specs.Step.{after}
use Rattle.nv_machine.specs.World.{Shared, World, cell_at}
use Rattle.nv_machine.proofs.CopyMade.{unstamped}
use Rattle.nv_machine.proofs.WorldsAtRest.{start_again}
use Rattle.nv_serial.specs.Histories.{StandsAs}
use Rattle.nv_serial.specs.Serial.{Serial}
use Rattle.nv_serial.proofs.AtRestLogs.{log_is, slots_many, told_by}
use Rattle.nv_serial.proofs.AtRestNodes.{settled_is}
use Rattle.nv_serial.proofs.AtRestPlain.{serial_is}
use Rattle.nv_effects.specs.Sound.{IsSoundWorld}

-- what holds of the number of each snapshot holds of each copy
each_copy : (P : Copy → Type 0) (shared : Shared) (living : List Snapshot)
    → ((snapshot : Snapshot) → Contains (numbers living) snapshot.number → P (copy_in shared snapshot))
    → AllByRecursion P (map (copy_in shared) living)
each_copy P shared [] each = tt
each_copy P shared (snapshot ∷ living) each = (
  each snapshot (0, omega arith, refl),
  each_copy P shared living (λ other at. each other (suc at.0, (let lt = at.1 in omega (arith, lt)), at.2)),
)

-- a node that is stored has as many bytes as its size says
stored_size : (bytes : ℕ → List ℕ) (block : ℕ) (s : Stored) (found : Option NodeCopy) (node : NodeCopy) → found ≡ Some node
    → Tied bytes block s found → length node.bytes ≡ node.size
stored_size bytes block s found node is tied = (subst (Tied bytes block s) is tied).length

settled_size : (shared : Shared) → AreSound shared → (handle : Handle) (node : NodeCopy)
    → node_in (settled_nodes shared) handle ≡ Some node → length node.bytes ≡ node.size
settled_size shared sound handle node is = go (handle.generation == cell.generation) refl is where
  cell : CellState
  cell = cell_at shared handle.ino

  log : List Entry
  log = settled shared handle.ino

  found : Option NodeCopy
  found = node_now (bytes_among cell.blocks) cell.block log

  plain : (Option PlainNode) → Option NodeCopy
  plain p = option_map (λ (n : PlainNode). n.node) p

  go : (b : Bool) → (handle.generation == cell.generation) ≡ b
      → plain (if handle.generation == cell.generation then node_by cell log else None) ≡ Some node → length node.bytes ≡ node.size
  go true e there =
      let one : plain (node_by cell log) ≡ Some node =
      subst (λ (b : Bool). plain (if b then node_by cell log else None) ≡ Some node) e there in
      stored_size (bytes_among cell.blocks) cell.block (stored cell.block log) found node
      (sym (unstamped (last_commit log) found) ∙ one) (sound handle.ino)
  go false e there =
      let none : plain None ≡ Some node = subst (λ (b : Bool). plain (if b then node_by cell log else None) ≡ Some node) e there in
      absurd (let z : None ≡ Some node = none in cc)

-- a node that is there has a log
some_log : (cell : CellState) (log : List Entry) (node : NodeCopy)
    → option_map (λ (n : PlainNode). n.node) (node_by cell log) ≡ Some node → has_entry log ≡ true
some_log cell [] node is = absurd (let z : None ≡ Some node = is in cc)
some_log cell (e ∷ log) node is = refl

settled_log : (shared : Shared) (handle : Handle) (node : NodeCopy) → node_in (settled_nodes shared) handle ≡ Some node
    → has_entry (settled shared handle.ino) ≡ true
settled_log shared handle node is = go (handle.generation == (cell_at shared handle.ino).generation) refl is where
  plain : (Option PlainNode) → Option NodeCopy
  plain p = option_map (λ (n : PlainNode). n.node) p

  go : (b : Bool) → (handle.generation == (cell_at shared handle.ino).generation) ≡ b
      → plain (if handle.generation == (cell_at shared handle.ino).generation then node_by (cell_at shared handle.ino) (settled shared handle.ino) else None) ≡ Some node
      → has_entry (settled shared handle.ino) ≡ true
  go true e there =
      some_log (cell_at shared handle.ino) (settled shared handle.ino) node
      (subst (λ (b : Bool). plain (if b then node_by (cell_at shared handle.ino) (settled shared handle.ino) else None) ≡ Some node) e there)
  go false e there =
      let none : plain None ≡ Some node =
      subst (λ (b : Bool). plain (if b then node_by (cell_at shared handle.ino) (settled shared handle.ino) else None) ≡ Some node) e there in
      absurd (let z : None ≡ Some node = none in cc)

-- a world where a run may start
sound_there : (g : GeometryNumbers) (w : World) (records : List Record) → IsStart g w records → IsSoundWorld (told_by g w records)
sound_there g w records is = record {
  actors = (let some = is.limits.some_actors in omega (arith, some));
  some_slots = (let some = is.limits.some_inodes in let many = slots_many g w records is in omega (arith, some, many));
  sizes = settled_size w.shared is.sound;
  logs = λ handle node there.
      ap has_entry (log_is g w records is handle.ino ∙ sym (settled_is g w records is handle.ino)) ∙ settled_log w.shared handle node there;
  tree = is.tree;
  copies = each_copy (λ (copy : Copy). AreTree copy.nodes) w.shared w.shared.book.snaps.living
      (λ snapshot at. is.copies snapshot.number at);
  before = each_copy (λ (copy : Copy). copy.snapshot < w.shared.book.snaps.epoch) w.shared w.shared.book.snaps.living
      (λ snapshot at. All-contains (λ (n : ℕ). n < w.shared.book.snaps.epoch) (ids w.shared.book.snaps) snapshot.number is.before at);
}

-- THE LAW of worlds that stand as one with numbers
pub standing_sound : (g : GeometryNumbers) (w : World) (s : Serial) → StandsAs g w s → IsSoundWorld s
standing_sound g w s stands =
    let start = stands.start in
    let v : World = after start stands.events in
    let rs : List Record = records_after start stands.events stands.records in
    let again : IsStart g v rs =
    start_again g start stands.records stands.events stands.is_start (subst IsAtRest (sym stands.leads) stands.rest) in
    let same : told_by g v rs ≡ s = sym (serial_is g start stands.records stands.events stands.is_start) ∙ stands.serial_is in
    subst IsSoundWorld same (sound_there g v rs again)
