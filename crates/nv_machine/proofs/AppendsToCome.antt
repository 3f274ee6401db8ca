-- What a turn leaves of the order of logs, and what a commit has yet to append.
use Rattle.std.proofs.Common.{Bool, List, Some, [], ap, append_assoc, arith, drop, false, if◌then◌else◌, length, nat_lt, refl, subst, sym, true, ℕ, ◌++◌, ◌+◌, ◌<◌, ◌∙◌, ◌∷◌, ◌≡◌, ◌≢◌, ◌≤◌}
use Rattle.std.proofs.lemmas.Bool.{false≢true}
use Rattle.std.specs.List.{AllByRecursion}
use Rattle.nv_alloc.specs.Block.{BlockValue}
use Rattle.nv_alloc.specs.Numbers.{has}
use Rattle.nv_book.specs.Book.{BookState}
use Rattle.nv_calls.specs.Retiring.{erased}
use Rattle.nv_calls.proofs.Places.{log_rises}
use Rattle.nv_calls.specs.Slots.{IsBefore, entries_of}
use Rattle.nv_cell.specs.Cell.{CellState, empty_cell}
use Rattle.nv_entry.specs.declared.item.Entry.{Entry}
use Rattle.nv_entry.specs.declared.item.Item.{Item}
use Rattle.nv_machine.specs.Kinds.{end_turn, with_entries, with_log_pages}
use Rattle.nv_machine.specs.Locks.{HoldsIts, is_owner}
use Rattle.nv_machine.specs.Order.{AreLogsOrdered, CommitsIn, entries_at, to_append}
use Rattle.nv_machine.specs.Sequence.{closing, opening, publishing, retiring}
use Rattle.nv_machine.specs.World.{Append, Close, Ending, Ends, HandState, Leave, Moves, Next, Open, Publish, Retire, Running, Shared, Turn, Waits, cell_at}
use Rattle.nv_machine.proofs.LocksAlongCalls.{OnLocks}
use Rattle.nv_machine.proofs.WorkKeeps.{AfterTurn, end_keeps}
use Rattle.nv_cell.specs.Readers.{is_erased}
use Rattle.nv_machine.proofs.EachElement.{all_append, all_weaker}

-- ---- entries of one commit

own_entries : (commit epoch place : ℕ) (items : List Item)
    → AllByRecursion (λ (e : Entry). (e.id.commit < commit + 1) × (e.epoch ≤ epoch)) (entries_of commit epoch place items)
own_entries commit epoch place [] = tt
own_entries commit epoch place (item ∷ items) = ((omega arith, omega arith), own_entries commit epoch (place + 1) items)

-- a log of earlier commits is one of this commit's too
pub later_too : (commit epoch : ℕ) (log : List Entry) → IsBefore commit epoch log → IsBefore (commit + 1) epoch log
later_too commit epoch log h = record {
  ordered = h.ordered;
  earlier = all_weaker (λ (e : Entry). (e.id.commit < commit) × (e.epoch ≤ epoch))
      (λ (e : Entry). (e.id.commit < commit + 1) × (e.epoch ≤ epoch))
      (λ e b. let low = b.0 in (omega (arith, low), b.1)) log h.earlier;
}

pub appended_log : (commit epoch place : ℕ) (items : List Item) (log : List Entry) → IsBefore commit epoch log
    → IsBefore (commit + 1) epoch (log ++ entries_of commit epoch place items)
appended_log commit epoch place items log h = record {
  ordered = log_rises commit epoch place items log h.ordered h.earlier;
  earlier = all_append (λ (e : Entry). (e.id.commit < commit + 1) × (e.epoch ≤ epoch)) log (entries_of commit epoch place items)
      (later_too commit epoch log h).earlier (own_entries commit epoch place items);
}

pub pages_keep : (pages : List BlockValue) (cell : CellState) → (with_log_pages pages cell).chain.entries ≡ cell.chain.entries
pages_keep [] cell = refl
pages_keep (b ∷ pages) cell = pages_keep pages _

pub entries_more : (entries : List Entry) (blocks : List BlockValue) (cell : CellState)
    → (with_entries entries blocks cell).chain.entries ≡ cell.chain.entries ++ entries
entries_more [] blocks cell = sym (append_nil cell.chain.entries) where
  append_nil : (l : List Entry) → l ++ [] ≡ l
  append_nil [] = refl
  append_nil (x ∷ l) = ap (λ (rest : List Entry). x ∷ rest) (append_nil l)
entries_more (e ∷ entries) blocks cell = entries_more entries _ _ ∙ append_assoc cell.chain.entries (e ∷ []) entries

-- ---- logs that stay in order

-- a later epoch
pub later_epoch : (commit epoch : ℕ) (log : List Entry) → IsBefore commit epoch log → IsBefore commit (epoch + 1) log
later_epoch commit epoch log h = record {
  ordered = h.ordered;
  earlier = all_weaker (λ (e : Entry). (e.id.commit < commit) × (e.epoch ≤ epoch))
      (λ (e : Entry). (e.id.commit < commit) × (e.epoch ≤ epoch + 1))
      (λ e b. let low = b.1 in (b.0, omega (arith, low))) log h.earlier;
}

-- an erased cell has no entries
pub erased_log : (commit epoch : ℕ) (cell : CellState) → IsBefore commit epoch cell.chain.entries
    → IsBefore commit epoch (erased cell).chain.entries
erased_log commit epoch cell h = go (is_erased cell) where
  go : (b : Bool) → IsBefore commit epoch
      (if b then empty_cell cell.block cell.chain.page (cell.generation + 1) cell.version else cell).chain.entries
  go true = record { ordered = tt; earlier = tt }
  go false = h

-- ---- what a turn leaves of the order

pub record KeepsNumber (s t : Shared) : Type 0 where
  pub commit : t.book.commit ≡ s.book.commit
  pub epoch : t.book.snaps.epoch ≡ s.book.snaps.epoch

-- who else commits keeps the book's number and epoch
pub record OrderLeft (a : ℕ) (s t : Shared) : Type 0 where
  pub logs : AreLogsOrdered t
  pub others : (b : ℕ) → b ≢ a → is_owner b s.holder ≡ true → KeepsNumber s t

-- a turn's world is this one
abbrev pub OnShared : Shared → Turn → Type 0
OnShared t (Moves u h q) = u ≡ t
OnShared t Waits = Unit {0}
OnShared t (Ends result u h) = u ≡ t

abbrev pub OnOrder : ℕ → Shared → Turn → Type 0
OnOrder a s (Moves t h q) = OrderLeft a s t × CommitsIn t (Some q)
OnOrder a s Waits = Unit {0}
OnOrder a s (Ends result t h) = OrderLeft a s t

-- the logs and the number of a world that has the same cells and book
pub same_order : (a : ℕ) (s t : Shared) → AreLogsOrdered s → t.book ≡ s.book → ((ino : ℕ) → cell_at t ino ≡ cell_at s ino) → OrderLeft a s t
same_order a s t logs book cells = record {
  logs = λ ino. subst (λ (b : BookState). IsBefore (b.commit + 1) b.snaps.epoch (entries_at t ino)) (sym book)
      (subst (λ (c : CellState). IsBefore (s.book.commit + 1) s.book.snaps.epoch c.chain.entries) (sym (cells ino)) (logs ino));
  others = λ b ne e. record { commit = ap (λ (x : BookState). x.commit) book; epoch = ap (λ (x : BookState). x.snaps.epoch) book };
}

-- a step that is lent neither a cell nor the book nor the commit lock
pub not_committing : (s : Shared) (a : ℕ) (q : Running) → HoldsIts s a (Some q) → is_owner a s.holder ≡ false → CommitsIn s (Some q)
not_committing s a q own out e = absurd (false≢true (sym out ∙ own.holder ∙ e))

-- the last steps of a call keep what is shared as it is
pub left_order : (a : ℕ) (s t : Shared) (w : Type 0) (turn : Turn) → OrderLeft a s t → is_owner a t.holder ≡ false → OnShared t turn
    → OnLocks a s w turn → OnOrder a s turn
left_order a s t w (Moves u h q) left out same on = (
  subst (λ (x : Shared). OrderLeft a s x) (sym same) left,
  not_committing u a q on.1 (subst (λ (x : Shared). is_owner a x.holder ≡ false) (sym same) out),
)
left_order a s t w Waits left out same on = tt
left_order a s t w (Ends result u h) left out same on = subst (λ (x : Shared). OrderLeft a s x) (sym same) left

pub end_shared : (slots : List ℕ) (e : Ending) (t : Shared) (h : HandState) (r : Running) → OnShared t (end_turn slots e t h r)
end_shared slots e t h r = go (end_turn slots e t h r) (end_keeps (λ (u : Shared) (g : HandState). u ≡ t) slots e t h r refl) where
  go : (turn : Turn) → AfterTurn (λ (u : Shared) (g : HandState). u ≡ t) turn → OnShared t turn
  go (Moves u g q) is = is
  go Waits is = tt
  go (Ends result u g) is = is

-- ---- what is yet to be appended

pub nothing_left : (next : Next) (written : List ℕ) (ino : ℕ) → to_append next written ≡ [] → has (to_append next written) ino ≡ true → ⊥
nothing_left next written ino e there = false≢true (sym (ap (λ (l : List ℕ). has l ino) e) ∙ there)

pub none_retiring : (place : ℕ) (written : List ℕ) (b : Bool) → to_append (if b then Retire place else Leave) written ≡ []
none_retiring place written true = refl
none_retiring place written false = refl

none_closing : (written : List ℕ) (b : Bool) → to_append (if b then Close else retiring 0 written) written ≡ []
none_closing written true = refl
none_closing written false = none_retiring 0 written (nat_lt 0 (length written))

pub none_publishing : (place : ℕ) (written : List ℕ) (b : Bool) → to_append (if b then Publish place else closing written) written ≡ []
none_publishing place written true = refl
none_publishing place written false = none_closing written (nat_lt 1 (length written))

none_opening : (written : List ℕ) (b : Bool) → to_append (if b then Open else publishing 0 written) written ≡ []
none_opening written true = refl
none_opening written false = none_publishing 0 written (nat_lt 0 (length written))

pub still_left : (place : ℕ) (written : List ℕ) (b : Bool) (ino : ℕ)
    → has (to_append (if b then Append place else opening written) written) ino ≡ true → has (drop place written) ino ≡ true
still_left place written true ino there = there
still_left place written false ino there = absurd
    (nothing_left (opening written) written ino (none_opening written (nat_lt 1 (length written))) there)
