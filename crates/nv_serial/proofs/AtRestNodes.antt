-- Where nothing runs, the nodes of cells are those of the plain world, and a call's refusal, want
-- of blocks and plan by the machine are those of the world with numbers.
use Rattle.std.proofs.Common.{◌≡◌, ℕ, ◌/◌, ◌==◌, ◌∙◌, List, Option, None, ap, if◌then◌else◌, is_some, refl, sym, take}
use Rattle.std.proofs.Math.Path.{fun_ext}
use Rattle.nv_base.specs.declared.geometry.GeometryNumbers.{GeometryNumbers}
use Rattle.nv_base.specs.declared.numbers.Handle.{Handle}
use Rattle.nv_book.specs.declared.record.Record.{Record}
use Rattle.nv_calls.specs.AllCalls.{blocks_wanted, plan, present_in, refusal}
use Rattle.nv_calls.specs.Plain.{node_in}
use Rattle.nv_calls.specs.Plan.{block_runs_of}
use Rattle.nv_calls.specs.declared.call.Call.{Call}
use Rattle.nv_calls.specs.declared.call.Call.TheVariants as call
use Rattle.nv_cell.specs.Cell.{CellState, log_of}
use Rattle.nv_entry.specs.Node.{block_now}
use Rattle.nv_entry.specs.declared.item.Entry.{Entry}
use Rattle.nv_entry.specs.declared.node.NodeCopy.{NodeCopy}
use Rattle.nv_machine.specs.Reads.{copies, has_last_page, nodes}
use Rattle.nv_machine.specs.Settled.{node_by, settled}
use Rattle.nv_machine.specs.Starts.{IsStart}
use Rattle.nv_machine.specs.World.{World, cell_at}
use Rattle.nv_machine.proofs.Journals.{closed_tail}
use Rattle.nv_serial.specs.FileCalls.{inode_slots, plan_for, wanted}
use Rattle.nv_serial.specs.Free.{row_of}
use Rattle.nv_serial.specs.Row.{data_for, plan_by_row}
use Rattle.nv_serial.specs.Serial.{Serial, copies_now}
use Rattle.nv_serial.proofs.AtRestLists.{row_is}
use Rattle.nv_serial.proofs.AtRestLogs.{log_is, told_by}

module _ (g : GeometryNumbers) (w : World) (rs : List Record) (is : IsStart g w rs) where
  abbrev s : Serial
  s = told_by g w rs

  -- no journal is open
  pub settled_is : (ino : ℕ) → settled w.shared ino ≡ log_of (cell_at w.shared ino)
  settled_is ino =
      let chain = (cell_at w.shared ino).chain in
      ap (λ (n : ℕ). take n chain.entries) (closed_tail w.shared.book.journals ino chain.tail
      is.closed)

  -- THE NODES of cells are the plain world's
  pub nodes_are : s.plain.nodes ≡ nodes w.shared
  nodes_are = fun_ext (λ handle.
      let cell : CellState = cell_at w.shared handle.ino in
      ap (λ (log : List Entry). if handle.generation == cell.generation then node_by cell log else
      None) (settled_is handle.ino))

  pub copies_are : copies_now s ≡ copies w.shared
  copies_are = ap node_in nodes_are

  pub refusal_is : (c : Call) → refusal g.block (copies_now s) c ≡ refusal g.block (copies w.shared)
      c
  refusal_is c = ap (λ (f : Handle → Option NodeCopy). refusal g.block f c) copies_are

  pub ends_are : (c : Call) → present_in g.block (inode_slots s) c ≡ has_last_page g.block w.shared
      c
  ends_are (call.Size file size) =
      ap (λ (log : List Entry). is_some (block_now g.block log (size / g.block)))
      (log_is g w rs is file.ino)
  ends_are other = refl

  -- HOW MANY BLOCKS a call wants, and its plan with the first ones of the row
  pub wanted_is : (c : Call) → wanted s c ≡ data_for g.block w.shared c
  wanted_is c =
      ap (λ (f : Handle → Option NodeCopy). blocks_wanted g.block f
      (present_in g.block (inode_slots s) c) c) copies_are
      ∙ ap (λ b. blocks_wanted g.block (copies w.shared) b c) (ends_are c)

  pub plan_is : (actor : ℕ) (made : Handle) (c : Call) → plan_for s actor made c
      ≡ plan_by_row g.block w.shared actor c made
  plan_is actor made c =
      ap (λ (f : Handle → Option NodeCopy). plan g.block f
      (record { made = made; runs = block_runs_of (take (wanted s c) (row_of s actor)) }) c)
      copies_are
      ∙ ap (λ (n : ℕ). plan g.block (copies w.shared)
      (record { made = made; runs = block_runs_of (take n (row_of s actor)) }) c) (wanted_is c)
      ∙ ap (λ (ns : List ℕ). plan g.block (copies w.shared)
      (record { made = made; runs = block_runs_of (take (data_for g.block w.shared c) ns) }) c)
      (sym (row_is g w rs is actor))
