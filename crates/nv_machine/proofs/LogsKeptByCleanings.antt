-- A cleaning keeps settled logs, and every settled node.
use Rattle.std.proofs.Common.{List, None, Option, Some, Bool, ap, cond, length, refl, subst, sym, take, ℕ, ◌<◌, ◌==◌, ◌∙◌, ◌≡◌, ◌≢◌}
use Rattle.std.specs.Prelude.{unwrap_or}
use Rattle.nv_cell.specs.Cell.{CellState, log_of}
use Rattle.nv_entry.specs.Held.{Retention}
use Rattle.nv_entry.specs.declared.item.Entry.{Entry}
use Rattle.nv_calls.specs.Plain.{PlainNode}
use Rattle.nv_journal.specs.Journal.{settled_tail}
use Rattle.nv_machine.specs.Effects.{IsSoundIn}
use Rattle.nv_machine.specs.Kept.{AreLogsKept, HasPages}
use Rattle.nv_machine.specs.Settled.{settled}
use Rattle.nv_cell.specs.Shape.{IsLeftShaped}
use Rattle.nv_machine.specs.World.{Shared, cell_at, owner_at, with_cell}
use Rattle.nv_machine.proofs.CleanSteps.{cleaned_shape}
use Rattle.nv_machine.proofs.CleanedCells.{Cleans, cleaned_node, cleaned_pages, cleaned_sound}
use Rattle.nv_machine.proofs.LogsKept.{KeptLeft, SameLogs, cell_nodes, cell_set, node_at}

-- of a slot that its actor has locked, and that no journal notes
module _ (a : ℕ) (s : Shared) (kept : AreLogsKept s) (slot : ℕ) (new : CellState) (inside : slot < length s.cells)
    (own : owner_at s slot ≡ Some a) (tails : (tail : ℕ) → settled_tail s.book.journals slot tail ≡ tail)
    (r : Retention) (flags : List Bool) (c : Cleans r flags (cell_at s slot) new) where
  abbrev old : CellState
  old = cell_at s slot

  abbrev now : List Entry
  now = take (settled_tail s.book.journals slot new.chain.tail) new.chain.entries

  was_log : settled s slot ≡ log_of old
  was_log = ap (λ (n : ℕ). take n old.chain.entries) (tails old.chain.tail)

  is_log : now ≡ log_of new
  is_log = ap (λ (n : ℕ). take n new.chain.entries) (tails new.chain.tail)

  pages : HasPages now new
  pages = subst (λ (l : List Entry). HasPages l new) (sym is_log) (cleaned_pages r flags old new c)

  sounds : IsSoundIn old (settled s slot) → IsSoundIn new now
  sounds x = subst (IsSoundIn new) (sym is_log) (cleaned_sound r flags old new c (subst (IsSoundIn old) was_log x))

  nodes : (generation : ℕ) → node_at new now generation ≡ node_at old (settled s slot) generation
  nodes generation = rw (is_log, c.generation, was_log)
      (ap (λ (n : Option PlainNode). cond (generation == old.generation) n None) (cleaned_node r flags old new c))

  shapes : (block : ℕ) → IsLeftShaped block (settled s slot) → IsLeftShaped block now
  shapes block is =
      subst (IsLeftShaped block) (sym is_log) (cleaned_shape r flags old new c block (subst (IsLeftShaped block) was_log is))

  -- the cell of an actor that commits is another
  others : (b : ℕ) → b ≢ a → (ino : ℕ) → owner_at s ino ≡ Some b → cell_at (with_cell slot new s) ino ≡ cell_at s ino
  others b ne ino theirs = cell_set s slot new ino (λ (x : CellState). x ≡ cell_at s ino) inside
      (λ e. absurd (ne (ap (λ (o : Option ℕ). unwrap_or o 0) (sym theirs ∙ ap (owner_at s) (sym e) ∙ own)))) (λ e. refl)

  pub cleaned_left : KeptLeft a s (with_cell slot new s)
  cleaned_left = record {
    logs = record {
      pages = λ ino. cell_set s slot new ino
          (λ (x : CellState). HasPages (take (settled_tail s.book.journals ino x.chain.tail) x.chain.entries) x) inside
          (λ e. subst (λ (n : ℕ). HasPages (take (settled_tail s.book.journals n new.chain.tail) new.chain.entries) new) e pages)
          (λ e. kept.pages ino);
      closed = kept.closed;
      wide = kept.wide;
      some = kept.some;
    };
    others = λ b ne e. (refl, others b ne);
    cpus = refl;
  }

  pub cleaned_logs : SameLogs s (with_cell slot new s)
  cleaned_logs = cell_nodes a s kept slot new s.book inside refl nodes shapes sounds
