-- A release keeps settled logs, and every settled node.
use Rattle.std.proofs.Common.{Bool, List, None, Option, Some, [], ap, cond, false, if◌then◌else◌, inl, inr, length, refl, subst, suc, sym, take, true, zero, ℕ, ◌+◌, ◌<◌, ◌==◌, ◌∙◌, ◌≡◌, ◌≢◌}
use Rattle.std.specs.Prelude.{unwrap_or}
use Rattle.nv_book.specs.declared.record.Record.{Record}
use Rattle.nv_calls.specs.Plain.{PlainNode}
use Rattle.nv_calls.specs.Retiring.{erased, name_of, released}
use Rattle.nv_cell.specs.Cell.{CellState, empty_cell, log_of, number_in}
use Rattle.nv_entry.specs.Covered.{is_covered}
use Rattle.nv_entry.specs.declared.item.Entry.{Entry}
use Rattle.nv_journal.specs.Journal.{settled_tail}
use Rattle.nv_machine.specs.Effects.{IsSoundIn}
use Rattle.nv_machine.specs.Kept.{AreApart, AreLogsKept, HasPages}
use Rattle.nv_machine.specs.Reads.{bytes_among}
use Rattle.nv_machine.specs.Settled.{node_by, settled}
use Rattle.nv_machine.specs.World.{Shared, cell_at, owner_at, with_cell}
use Rattle.nv_machine.proofs.CellSteps.{Retires, empty_pages, erased_none, one_retires, retired_node, retired_pages, retired_sound}
use Rattle.nv_machine.proofs.LogsKept.{IsSameOrEmpty, KeptLeft, SameLogs, cell_nodes, cell_set, node_at, still_shaped}
use Rattle.nv_cell.specs.Readers.{is_erased}
use Rattle.nv_entry.proofs.SoundLogs.{empty_sound}

-- what gives up covered parts alone, and is erased where nothing is kept of it; no journal notes its slot
module _ (a : ℕ) (s : Shared) (kept : AreLogsKept s) (slot : ℕ) (new : CellState) (inside : slot < length s.cells)
    (own : owner_at s slot ≡ Some a) (is : Retires (cell_at s slot) new)
    (tails : (tail : ℕ) → settled_tail s.book.journals slot tail ≡ tail) (apart : AreApart (cell_at s slot).blocks) where
  abbrev old : CellState
  old = cell_at s slot

  abbrev by : Bool → CellState
  by b = if b then empty_cell new.block new.chain.page (new.generation + 1) new.version else new

  take_none : (n : ℕ) → take {A = Entry} n [] ≡ []
  take_none zero = refl
  take_none (suc n) = refl

  log : settled s slot ≡ log_of old
  log = ap (λ (n : ℕ). take n old.chain.entries) (tails old.chain.tail)

  had : HasPages (log_of old) old
  had = subst (λ (l : List Entry). HasPages l old) log (kept.pages slot)

  same_log : take (settled_tail s.book.journals slot new.chain.tail) new.chain.entries ≡ log_of old
  same_log = ap (λ (n : ℕ). take n new.chain.entries) (tails new.chain.tail) ∙ ap (λ (c : _). take c.tail c.entries) is.chain

  pages : (b : Bool) → HasPages (take (settled_tail s.book.journals slot (by b).chain.tail) (by b).chain.entries) (by b)
  pages true = empty_pages _ _ _ _ _
  pages false = subst (λ (l : List Entry). HasPages l new) (sym same_log) (retired_pages old new is had)

  sounds : (b : Bool) → IsSoundIn old (settled s slot)
      → IsSoundIn (by b) (take (settled_tail s.book.journals slot (by b).chain.tail) (by b).chain.entries)
  sounds true x = subst (IsSoundIn (by true)) (sym (take_none _)) (empty_sound (bytes_among (by true).blocks) (by true).block)
  sounds false x = subst (IsSoundIn new) (sym same_log) (retired_sound old new is apart had (subst (IsSoundIn old) log x))

  logs : (b : Bool) → IsSameOrEmpty (take (settled_tail s.book.journals slot (by b).chain.tail) (by b).chain.entries) (settled s slot)
  logs true = inr (take_none _)
  logs false = inl (same_log ∙ sym log)

  node : node_by new (log_of old) ≡ node_by old (log_of old)
  node = retired_node old new is apart had

  none : is_erased new ≡ true → node_by old (log_of old) ≡ None
  none e = sym node ∙ ap (node_by new) (sym (ap (λ (c : _). take c.tail c.entries) is.chain)) ∙ erased_none new e

  either : (b c : Bool) {x y : Option PlainNode} → x ≡ None → y ≡ None → cond b x None ≡ cond c y None
  either true true e f = e ∙ sym f
  either true false e f = e
  either false true e f = sym f
  either false false e f = refl

  nodes : (generation : ℕ) (b : Bool) → is_erased new ≡ b
      → node_at (by b) (take (settled_tail s.book.journals slot (by b).chain.tail) (by b).chain.entries) generation
      ≡ node_at old (settled s slot) generation
  nodes generation true e =
      either (generation == (new.generation + 1)) (generation == old.generation) (ap (node_by (by true)) (take_none _))
      (ap (node_by old) log ∙ none e)
  nodes generation false e = rw (same_log, is.generation, log) (ap (λ (n : _). cond (generation == old.generation) n None) node)

  -- the cell of an actor that commits is another
  others : (b : ℕ) → b ≢ a → (ino : ℕ) → owner_at s ino ≡ Some b → cell_at (with_cell slot (erased new) s) ino ≡ cell_at s ino
  others b ne ino theirs = cell_set s slot (erased new) ino (λ (c : CellState). c ≡ cell_at s ino) inside
      (λ e. absurd (ne (ap (λ (o : Option ℕ). unwrap_or o 0) (sym theirs ∙ ap (owner_at s) (sym e) ∙ own)))) (λ e. refl)

  pub released_left : KeptLeft a s (with_cell slot (erased new) s)
  released_left = record {
    logs = record {
      pages = λ ino. cell_set s slot (erased new) ino
          (λ (c : CellState). HasPages (take (settled_tail s.book.journals ino c.chain.tail) c.chain.entries) c) inside
          (λ e. subst (λ (n : ℕ). HasPages (take (settled_tail s.book.journals n (erased new).chain.tail) (erased new).chain.entries)
          (erased new)) e (pages (is_erased new))) (λ e. kept.pages ino);
      closed = kept.closed;
      wide = kept.wide;
      some = kept.some;
    };
    others = λ b ne e. (refl, others b ne);
    cpus = refl;
  }

  pub released_logs : SameLogs s (with_cell slot (erased new) s)
  released_logs = cell_nodes a s kept slot (erased new) s.book inside refl
      (λ generation. nodes generation (is_erased new) refl) (λ block. still_shaped block _ _ (logs (is_erased new)))
      (sounds (is_erased new))

-- the part of a picked record is covered
pub release_retires : (picked : Record) (cell : CellState)
    → is_covered cell.block (log_of cell) (number_in cell (name_of picked)) ≡ true → Retires cell (released picked cell)
release_retires picked cell covered = one_retires None (number_in cell (name_of picked)) cell covered
