-- What appending a plan's entries makes of a chain, and places in lists of slots that rise.
use Rattle.std.proofs.Common.{◌≡◌, ◌≢◌, ℕ, zero, suc, ◌+◌, ◌<◌, ◌==◌, ◌++◌, ◌∙◌, Bool, true, false, List, [], ◌∷◌, ap, append-nil, append_assoc, arith, drop, get_or, if◌then◌else◌, length, map, refl, sym, take}
use Rattle.std.specs.Prelude.{◌||◌}
use Rattle.std.specs.List.{AllByRecursion, sum_by}
use Rattle.std.proofs.lemmas.Bool.{eq-eqb, eqb-true}
use Rattle.std.proofs.lemmas.List.{map-append}
use Rattle.std.proofs.lemmas.List.Sums.{sum_by-append, sum_by-cons}
use Rattle.nv_alloc.specs.Block.{BlockValue}
use Rattle.nv_alloc.specs.Numbers.{IsRising, has}
use Rattle.nv_cell.specs.Append.{appended as appended_cell, blocks_for}
use Rattle.nv_cell.specs.Cell.{CellState}
use Rattle.nv_entry.specs.Blocks.{item_blocks}
use Rattle.nv_entry.specs.declared.item.Entry.{Entry}
use Rattle.nv_log.specs.Chain.{ChainState, appended, with_page}
use Rattle.nv_machine.specs.Kinds.{with_entries, with_log_pages}
use Rattle.nv_machine.specs.Reads.{slot_at}
use Rattle.nv_machine.proofs.Lists.{has_take, or_right}
use Rattle.nv_machine.proofs.PartsFor.{slots_to}
use Rattle.nv_serial.proofs.CommitStages.{entries_on, front, pages_on}

-- ---- a cell with more pages, and with more entries

pages_chain : (pages : List BlockValue) (cell : CellState) → (with_log_pages pages cell).chain ≡ pages_on pages cell.chain
pages_chain [] cell = refl
pages_chain (b ∷ pages) cell = pages_chain pages (record cell { chain = with_page b cell.chain })

pages_generation : (pages : List BlockValue) (cell : CellState) → (with_log_pages pages cell).generation ≡ cell.generation
pages_generation [] cell = refl
pages_generation (b ∷ pages) cell = pages_generation pages (record cell { chain = with_page b cell.chain })

pages_block : (pages : List BlockValue) (cell : CellState) → (with_log_pages pages cell).block ≡ cell.block
pages_block [] cell = refl
pages_block (b ∷ pages) cell = pages_block pages (record cell { chain = with_page b cell.chain })

entries_chain : (entries : List Entry) (blocks : List BlockValue) (cell : CellState)
    → (with_entries entries blocks cell).chain ≡ entries_on entries cell.chain
entries_chain [] blocks cell = refl
entries_chain (e ∷ entries) blocks cell =
    entries_chain entries (drop (length (item_blocks e.item)) blocks) (appended_cell e (blocks_for e.item blocks) cell)

entries_generation : (entries : List Entry) (blocks : List BlockValue) (cell : CellState)
    → (with_entries entries blocks cell).generation ≡ cell.generation
entries_generation [] blocks cell = refl
entries_generation (e ∷ entries) blocks cell =
    entries_generation entries (drop (length (item_blocks e.item)) blocks) (appended_cell e (blocks_for e.item blocks) cell)

entries_block : (entries : List Entry) (blocks : List BlockValue) (cell : CellState)
    → (with_entries entries blocks cell).block ≡ cell.block
entries_block [] blocks cell = refl
entries_block (e ∷ entries) blocks cell =
    entries_block entries (drop (length (item_blocks e.item)) blocks) (appended_cell e (blocks_for e.item blocks) cell)

module _ (entries : List Entry) (blocks pages : List BlockValue) (cell : CellState) where
  pub grown_chain : (with_entries entries blocks (with_log_pages pages cell)).chain ≡ entries_on entries (pages_on pages cell.chain)
  grown_chain =
      entries_chain entries blocks (with_log_pages pages cell) ∙ ap (λ (c : ChainState). entries_on entries c) (pages_chain pages cell)

  pub grown_generation : (with_entries entries blocks (with_log_pages pages cell)).generation ≡ cell.generation
  grown_generation = entries_generation entries blocks (with_log_pages pages cell) ∙ pages_generation pages cell

  pub grown_block : (with_entries entries blocks (with_log_pages pages cell)).block ≡ cell.block
  grown_block = entries_block entries blocks (with_log_pages pages cell) ∙ pages_block pages cell

-- the entries of such a chain
pages_entries : (pages : List BlockValue) (chain : ChainState) → (pages_on pages chain).entries ≡ chain.entries
pages_entries [] chain = refl
pages_entries (b ∷ pages) chain = pages_entries pages (with_page b chain)

more_entries : (entries : List Entry) (chain : ChainState) → (entries_on entries chain).entries ≡ chain.entries ++ entries
more_entries [] chain = sym (append-nil chain.entries)
more_entries (e ∷ entries) chain = more_entries entries (appended e chain) ∙ append_assoc chain.entries (e ∷ []) entries

pub grown_entries : (entries : List Entry) (pages : List BlockValue) (chain : ChainState)
    → (entries_on entries (pages_on pages chain)).entries ≡ chain.entries ++ entries
grown_entries entries pages chain =
    more_entries entries (pages_on pages chain) ∙ ap (λ (l : List Entry). l ++ entries) (pages_entries pages chain)

-- ---- lists

pub drop_two : (m a : ℕ) (xs : List ℕ) → drop m (drop a xs) ≡ drop (a + m) xs
drop_two m zero xs = let same : m ≡ zero + m = omega arith in ap (λ n. drop n xs) same
drop_two m (suc a) [] =
    let shape : suc a + m ≡ suc (a + m) = omega arith in none m ∙ ap (λ n. drop {A = ℕ} n []) (sym shape) where
      none : (n : ℕ) → drop {A = ℕ} n [] ≡ []
      none zero = refl
      none (suc n) = refl
drop_two m (suc a) (x ∷ xs) =
    let shape : suc a + m ≡ suc (a + m) = omega arith in drop_two m a xs ∙ ap (λ n. drop n (x ∷ xs)) (sym shape)

all_get : (P : ℕ → Type 0) (xs : List ℕ) (p : ℕ) → AllByRecursion P xs → p < length xs → P (get_or xs p 0)
all_get P [] p all h = absurd (omega (arith, h))
all_get P (x ∷ xs) zero all h = all.0
all_get P (x ∷ xs) (suc p) all h = all_get P xs p all.1 (omega (arith, h))

-- in front of the slot at a place stand those of the places before
pub front_at : (p : ℕ) (xs : List ℕ) → IsRising xs → p < length xs → front (get_or xs p 0) xs ≡ take p xs
front_at p [] r h = absurd (omega (arith, h))
front_at zero (x ∷ xs) r h =
    ap (λ (b : Bool). if b then [] else x ∷ front x xs) (eq-eqb x x refl)
front_at (suc p) (x ∷ xs) r h = go (x == get_or xs p 0) refl (front_at p xs r.1 (omega (arith, h))) where
  go : (b : Bool) → (x == get_or xs p 0) ≡ b → front (get_or xs p 0) xs ≡ take p xs
      → (if b then [] else x ∷ front (get_or xs p 0) xs) ≡ x ∷ take p xs
  go true e more = absurd (omega (arith, all_get (λ k. x < k) xs p r.0 (omega (arith, h)), eqb-true x (get_or xs p 0) e))
  go false e more = ap (λ (l : List ℕ). x ∷ l) more

module _ (place : ℕ) (slots : List ℕ) (inside : place < length slots) (ino : ℕ) where
  pub has_here : slot_at slots place ≡ ino → has (take (place + 1) slots) ino ≡ true
  has_here is =
      has_take place slots ino inside ∙ or_right (has (take place slots) ino) (slot_at slots place == ino)
      (eq-eqb (slot_at slots place) ino is)

  pub has_there : slot_at slots place ≢ ino → has (take (place + 1) slots) ino ≡ has (take place slots) ino
  has_there other = has_take place slots ino inside ∙ go (has (take place slots) ino) (slot_at slots place == ino) refl where
    go : (a b : Bool) → (slot_at slots place == ino) ≡ b → (a || b) ≡ a
    go a true e = absurd (other (eqb-true (slot_at slots place) ino e))
    go true false e = refl
    go false false e = refl

-- one more of what is summed or told slot by slot
pub sum_to : (f : ℕ → ℕ) (place : ℕ) (slots : List ℕ) → place < length slots
    → sum_by f (take (place + 1) slots) ≡ sum_by f (take place slots) + f (slot_at slots place)
sum_to f place slots inside =
    ap (λ (l : List ℕ). sum_by f l) (slots_to place slots inside)
    ∙ (let parts = sum_by-append f (take place slots) (slot_at slots place ∷ []) in
    let one = sum_by-cons f (slot_at slots place) [] in omega (arith, parts, one))

pub map_to : {X : Type 0} (f : ℕ → X) (place : ℕ) (slots : List ℕ) → place < length slots
    → map f (take (place + 1) slots) ≡ map f (take place slots) ++ f (slot_at slots place) ∷ []
map_to f place slots inside =
    ap (λ (l : List ℕ). map f l) (slots_to place slots inside) ∙ map-append f (take place slots) (slot_at slots place ∷ [])
