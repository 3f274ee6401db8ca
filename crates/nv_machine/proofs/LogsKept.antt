-- What a step on the shared parts leaves of settled logs and of the nodes that they give.
use Rattle.std.proofs.Common.{◌≡◌, ◌⊎◌, ◌≢◌, ℕ, ◌<◌, ◌==◌, ◌∙◌, Bool, true, false, List, [], Option, Some, None, ap, get_or-set_other, get_or-set_same, if◌then◌else◌, length, refl, subst, sym, take, inl, inr}
use Rattle.std.proofs.lemmas.Bool.{eqb-false, eqb-true}
use Rattle.nv_base.specs.declared.numbers.Handle.{Handle}
use Rattle.nv_book.specs.Book.{BookState}
use Rattle.nv_calls.specs.Plain.{PlainNode}
use Rattle.nv_cell.specs.Cell.{CellState}
use Rattle.nv_entry.specs.declared.item.Entry.{Entry}
use Rattle.nv_journal.specs.Journal.{settled_tail}
use Rattle.nv_journal.specs.declared.old_tail.OldTail.{OldTail}
use Rattle.nv_machine.specs.Effects.{AreSound, IsSoundIn}
use Rattle.nv_machine.specs.Kept.{AreClosed, AreLogsKept, HasPages}
use Rattle.nv_machine.specs.Locks.{is_owner}
use Rattle.nv_machine.specs.Settled.{node_by, settled, settled_nodes}
use Rattle.nv_cell.specs.Shape.{IsLeftShaped}
use Rattle.nv_machine.specs.Shapes.{AreShaped}
use Rattle.nv_machine.specs.World.{Shared, cell_at, no_cell, with_book, with_cell, owner_at}

-- ---- nodes

abbrev pub node_at : CellState → List Entry → ℕ → Option PlainNode
node_at cell log generation = if generation == cell.generation then node_by cell log else None

-- every settled node is the same
abbrev pub SameNodes : Shared → Shared → Type 0
SameNodes s t = (ino generation : ℕ)
    → node_at (cell_at t ino) (settled t ino) generation ≡ node_at (cell_at s ino) (settled s ino) generation

pub same_nodes : (s t : Shared) → SameNodes s t → (handle : Handle) → settled_nodes t handle ≡ settled_nodes s handle
same_nodes s t h handle = h handle.ino handle.generation

-- and what is sound, or of its shape, stays so
pub record SameLogs (s t : Shared) : Type 0 where
  pub nodes : SameNodes s t
  pub shaped : (block : ℕ) → AreShaped block s → AreShaped block t
  pub sound : AreSound s → AreSound t

-- ---- shapes

pub no_shape : (block : ℕ) → IsLeftShaped block []
no_shape block = record { some = (None, tt); lawful = λ there. tt; last = tt }

-- a settled log is as it was, or it is emptied
abbrev pub IsSameOrEmpty : List Entry → List Entry → Type 0
IsSameOrEmpty new old = (new ≡ old) ⊎ (new ≡ [])

pub still_shaped : (block : ℕ) (new old : List Entry) → IsSameOrEmpty new old → IsLeftShaped block old → IsLeftShaped block new
still_shaped block new old (inl same) is = subst (IsLeftShaped block) (sym same) is
still_shaped block new old (inr empty) is = subst (IsLeftShaped block) (sym empty) (no_shape block)

-- ---- what a turn leaves

-- settled logs are kept, and whoever else commits finds journals, and the cells that it holds, as they were
pub record KeptLeft (a : ℕ) (s t : Shared) : Type 0 where
  pub logs : AreLogsKept t
  pub others : (b : ℕ) → b ≢ a → is_owner b s.holder ≡ true
      → (t.book.journals ≡ s.book.journals) × ((ino : ℕ) → owner_at s ino ≡ Some b → cell_at t ino ≡ cell_at s ino)
  pub cpus : length t.lists ≡ length s.lists

-- cells and journals are as they were
pub record Still (s t : Shared) : Type 0 where
  pub cells : (ino : ℕ) → cell_at t ino ≡ cell_at s ino
  pub journals : t.book.journals ≡ s.book.journals
  pub cpus : length t.lists ≡ length s.lists

pub still_nodes : (s t : Shared) → Still s t → SameLogs s t
still_nodes s t h = record {
  nodes = λ ino generation. rw (h.cells ino, h.journals) refl;
  shaped = λ block are ino. rw (h.cells ino, h.journals) (are ino);
  sound = λ sound ino. rw (h.cells ino, h.journals) (sound ino);
}

pub still_left : (a : ℕ) (s t : Shared) → AreLogsKept s → Still s t → (t.holder ≡ None → AreClosed s.book.journals) → KeptLeft a s t
still_left a s t k h closed = record {
  logs = record {
    pages = λ ino. rw (h.cells ino, h.journals) (k.pages ino);
    closed = λ e. subst AreClosed (sym h.journals) (closed e);
    wide = ap (λ (l : List (List OldTail)). length l) h.journals ∙ k.wide ∙ sym h.cpus;
    some = rw (h.cpus) k.some;
  };
  others = λ b ne e. (h.journals, λ ino theirs. h.cells ino);
  cpus = h.cpus;
}

-- ---- one cell changes while its actor commits

pub cell_set : (s : Shared) (slot : ℕ) (cell : CellState) (ino : ℕ) (P : CellState → Type 0) → slot < length s.cells
    → (slot ≡ ino → P cell) → (slot ≢ ino → P (cell_at s ino)) → P (cell_at (with_cell slot cell s) ino)
cell_set s slot cell ino P inside here there = go (slot == ino) refl where
  go : (b : Bool) → (slot == ino) ≡ b → P (cell_at (with_cell slot cell s) ino)
  go true e =
      subst (λ (n : ℕ). P (cell_at (with_cell slot cell s) n)) (eqb-true slot ino e)
      (subst P (sym (get_or-set_same s.cells slot cell no_cell inside)) (here (eqb-true slot ino e)))
  go false e =
      subst P (sym (get_or-set_other s.cells slot ino cell no_cell (λ is. eqb-false slot ino e (sym is))))
      (there (eqb-false slot ino e))

module _ (a : ℕ) (s : Shared) (kept : AreLogsKept s) (slot : ℕ) (cell : CellState) (book : BookState)
    (inside : slot < length s.cells) (journals : book.journals ≡ s.book.journals) where
  abbrev t : Shared
  t = with_cell slot cell (with_book book s)

  abbrev log_with : CellState → ℕ → List Entry
  log_with c ino = take (settled_tail s.book.journals ino c.chain.tail) c.chain.entries

  settled_is : (ino : ℕ) → settled t ino ≡ log_with (cell_at t ino) ino
  settled_is ino = ap (λ (l : List (List OldTail)). take (settled_tail l ino (cell_at t ino).chain.tail)
      (cell_at t ino).chain.entries) journals

  pub cell_left : is_owner a s.holder ≡ true → s.holder ≢ None → HasPages (log_with cell slot) cell → KeptLeft a s t
  cell_left own held pages = record {
    logs = record {
      pages = λ ino. rw (journals) (cell_set s slot cell ino (λ (c : CellState). HasPages (log_with c ino) c) inside
          (λ e. subst (λ (n : ℕ). HasPages (log_with cell n) cell) e pages) (λ e. kept.pages ino));
      closed = λ e. absurd (held e);
      wide = ap (λ (l : List (List OldTail)). length l) journals ∙ kept.wide;
      some = kept.some;
    };
    others = λ b ne e. absurd (ne (same_owner b s.holder e own));
    cpus = refl;
  } where
    same_owner : (b : ℕ) (holder : Option ℕ) → is_owner b holder ≡ true → is_owner a holder ≡ true → b ≡ a
    same_owner b None e f = cc
    same_owner b (Some o) e f = sym (eqb-true o b e) ∙ eqb-true o a f

  pub cell_nodes : ((generation : ℕ) → node_at cell (log_with cell slot) generation
      ≡ node_at (cell_at s slot) (settled s slot) generation)
      → ((block : ℕ) → IsLeftShaped block (settled s slot) → IsLeftShaped block (log_with cell slot))
      → (IsSoundIn (cell_at s slot) (settled s slot) → IsSoundIn cell (log_with cell slot)) → SameLogs s t
  cell_nodes same shape sounds = record {
    shaped = λ block are ino. rw (journals) (cell_set s slot cell ino (λ (c : CellState). IsLeftShaped block (log_with c ino)) inside
        (λ e. subst (λ (n : ℕ). IsLeftShaped block (log_with cell n)) e (shape block (are slot))) (λ e. are ino));
    nodes = λ ino generation. rw (journals) (cell_set s slot cell ino
        (λ (c : CellState). node_at c (log_with c ino) generation ≡ node_at (cell_at s ino) (settled s ino) generation) inside
        (λ e. subst (λ (n : ℕ). node_at cell (log_with cell n) generation ≡ node_at (cell_at s n) (settled s n) generation) e
        (same generation))
        (λ e. refl));
    sound = λ sound ino. rw (journals) (cell_set s slot cell ino (λ (c : CellState). IsSoundIn c (log_with c ino)) inside
        (λ e. subst (λ (n : ℕ). IsSoundIn cell (log_with cell n)) e (sounds (sound slot))) (λ e. sound ino));
  }
