-- What the steps of a commit leave of a cell: its pages, and the node of a log that is there already.
use Rattle.std.proofs.Common.{◌≡◌, ℕ, zero, suc, ◌-◌, ◌≤◌, ◌&&◌, ◌++◌, ◌∙◌, Bool, true, false, cond, List, [], ◌∷◌, Option, Some, None, ap, append-nil, append_assoc, arith, drop, filter, flat_map, length, length-append, map, nat_lt, refl, set, slice_index_or, subst, sym, take}
use Rattle.std.specs.Prelude.{unwrap_or, option_to_list}
use Rattle.std.specs.List.{AllByRecursion, range_with_len}
use Rattle.std.specs.Option.{option_map}
use Rattle.std.proofs.lemmas.Bool.{and_parts, true≢false}
use Rattle.std.proofs.lemmas.List.{take-append-le}
use Rattle.nv_alloc.specs.Block.{BlockValue, number_of, numbers_of}
use Rattle.nv_calls.proofs.Effective.{gone_node}
use Rattle.nv_calls.specs.Plain.{stamped}
use Rattle.nv_calls.specs.Retiring.{keeper_of, retired, retired_one, settled as settled_part}
use Rattle.nv_calls.specs.Slots.{last_commit}
use Rattle.nv_cell.specs.Append.{IsWithinFile, appended, blocks_for}
use Rattle.nv_cell.specs.Cell.{CellState, empty_cell, killed_by, log_of, number_in, published}
use Rattle.nv_cell.specs.Named.{number_named}
use Rattle.nv_cell.specs.Numbers.{dies, killed_part}
use Rattle.nv_cell.specs.Readers.{is_erased, is_gone, keeps_nothing}
use Rattle.nv_cell.specs.declared.killed.KilledPart.{KilledPart}
use Rattle.nv_cell.proofs.NamedParts.{names_of_parts}
use Rattle.nv_cell.proofs.Publishing.{take_whole}
use Rattle.nv_entry.specs.Blocks.{item_blocks}
use Rattle.nv_entry.specs.Covered.{is_covered, part_total}
use Rattle.nv_entry.specs.Log.{IsLog}
use Rattle.nv_entry.specs.Node.{block_now}
use Rattle.nv_entry.specs.declared.item.Entry.{Entry}
use Rattle.nv_entry.specs.declared.item.Item.{Item}
use Rattle.nv_machine.specs.Effects.{IsSoundIn}
use Rattle.nv_machine.specs.Kept.{AreApart, AreCovered, HasPages}
use Rattle.nv_machine.specs.Kinds.{with_entries, with_log_pages}
use Rattle.nv_machine.specs.Reads.{bytes_among}
use Rattle.nv_machine.specs.Settled.{node_by}
use Rattle.nv_machine.proofs.CellPages.{among_at, appended_node, appended_pages, appended_sound, page_there, same_node, same_sound}

-- ---- append

-- log pages change no entry and no data block
pub paged : (pages : List BlockValue) (cell : CellState)
    → with_log_pages pages cell ≡ record cell { chain = record cell.chain { blocks = cell.chain.blocks ++ pages } }
paged [] cell = ap (λ (l : List BlockValue). let c : CellState = record cell { chain = record cell.chain { blocks = l } } in c)
    (sym (append-nil cell.chain.blocks))
paged (b ∷ pages) cell = paged pages _
    ∙ ap (λ (l : List BlockValue). let c : CellState = record cell { chain = record cell.chain { blocks = l } } in c)
    (append_assoc cell.chain.blocks (b ∷ []) pages)

-- these items' pages have the blocks at the front of a list
pub record HaveFront (items : List Item) (numbers : List ℕ) : Type 0 where
  pub rest : List ℕ
  pub is : numbers ≡ flat_map item_blocks items ++ rest

abbrev pub items_in : List Entry → List Item
items_in entries = map (λ (e : Entry). e.item) entries

take_front : (xs ys : List ℕ) → take (length xs) (xs ++ ys) ≡ xs
take_front [] ys = refl
take_front (x ∷ xs) ys = ap (λ (l : List ℕ). x ∷ l) (take_front xs ys)

drop_front : (xs ys : List ℕ) → drop (length xs) (xs ++ ys) ≡ ys
drop_front [] ys = refl
drop_front (x ∷ xs) ys = drop_front xs ys

numbers_take : (n : ℕ) (bs : List BlockValue) → numbers_of (take n bs) ≡ take n (numbers_of bs)
numbers_take zero bs = refl
numbers_take (suc n) [] = refl
numbers_take (suc n) (b ∷ bs) = ap (λ (l : List ℕ). b.number ∷ l) (numbers_take n bs)

numbers_drop : (n : ℕ) (bs : List BlockValue) → numbers_of (drop n bs) ≡ drop n (numbers_of bs)
numbers_drop zero bs = refl
numbers_drop (suc n) [] = refl
numbers_drop (suc n) (b ∷ bs) = numbers_drop n bs

module _ (item : Item) (items : List Item) (bs : List BlockValue) (h : HaveFront (item ∷ items) (numbers_of bs)) where
  split : numbers_of bs ≡ item_blocks item ++ (flat_map item_blocks items ++ h.rest)
  split = h.is ∙ append_assoc (item_blocks item) (flat_map item_blocks items) h.rest

  pub first_blocks : numbers_of (blocks_for item bs) ≡ item_blocks item
  first_blocks = numbers_take (length (item_blocks item)) bs ∙ ap (take (length (item_blocks item))) split
      ∙ take_front (item_blocks item) (flat_map item_blocks items ++ h.rest)

  pub later_blocks : HaveFront items (numbers_of (drop (length (item_blocks item)) bs))
  later_blocks = record {
    rest = h.rest;
    is = numbers_drop (length (item_blocks item)) bs ∙ ap (drop (length (item_blocks item))) split
        ∙ drop_front (item_blocks item) (flat_map item_blocks items ++ h.rest);
  }

  pub later_rest : later_blocks.rest ≡ h.rest
  unfolding later_blocks
  later_rest = refl

-- a cell with more entries, for a log that ends before them
pub record Grows (t : ℕ) (old new : CellState) : Type 0 where
  pub log : take t new.chain.entries ≡ take t old.chain.entries
  pub pages : HasPages (take t old.chain.entries) new
  pub node : node_by new (take t old.chain.entries) ≡ node_by old (take t old.chain.entries)
  pub sound : IsSoundIn old (take t old.chain.entries) → IsSoundIn new (take t old.chain.entries)
  pub tail : new.chain.tail ≡ old.chain.tail
  pub generation : new.generation ≡ old.generation

grows_on : (t : ℕ) (a b c : CellState) → Grows t a b → (HasPages (take t b.chain.entries) b → Grows t b c) → Grows t a c
grows_on t a b c g f =
    let n = f (subst (λ (l : List Entry). HasPages l b) (sym g.log) g.pages) in
    record {
      log = n.log ∙ g.log;
      pages = subst (λ (l : List Entry). HasPages l c) g.log n.pages;
      node = subst (λ (l : List Entry). node_by c l ≡ node_by b l) g.log n.node ∙ g.node;
      sound = λ x.
          subst (IsSoundIn c) g.log (n.sound (subst (IsSoundIn b) (sym g.log) (g.sound x)));
      tail = n.tail ∙ g.tail;
      generation = n.generation ∙ g.generation;
    }

one_grows : (t : ℕ) (cell : CellState) (e : Entry) (bs : List BlockValue) → t ≤ length cell.chain.entries → IsWithinFile e.item
    → numbers_of bs ≡ item_blocks e.item → HasPages (take t cell.chain.entries) cell → Grows t cell (appended e bs cell)
one_grows t cell e bs le within nums h = record {
  log = take-append-le t cell.chain.entries (e ∷ []) le;
  pages = appended_pages (take t cell.chain.entries) cell h e bs within nums;
  node = appended_node cell t e bs h;
  sound = appended_sound cell t e bs h;
  tail = refl;
  generation = refl;
}

entries_grow : (t : ℕ) (entries : List Entry) (bs : List BlockValue) (cell : CellState) → t ≤ length cell.chain.entries
    → AllByRecursion IsWithinFile (items_in entries) → HaveFront (items_in entries) (numbers_of bs)
    → HasPages (take t cell.chain.entries) cell → Grows t cell (with_entries entries bs cell)
entries_grow t [] bs cell le within front h = record { log = refl; pages = h; node = refl; sound = λ x. x; tail = refl; generation = refl }
entries_grow t (e ∷ entries) bs cell le within front h =
    let first = appended e (blocks_for e.item bs) cell in
    grows_on t cell first (with_entries entries (drop (length (item_blocks e.item)) bs) first)
    (one_grows t cell e (blocks_for e.item bs) le within.0 (first_blocks e.item (items_in entries) bs front) h)
    (λ h. entries_grow t entries (drop (length (item_blocks e.item)) bs) first
    (omega (arith, le, length-append cell.chain.entries (e ∷ []))) within.1 (later_blocks e.item (items_in entries) bs front) h)

-- an append leaves each log that ends before it
pub append_grows : (t : ℕ) (entries : List Entry) (bs pages : List BlockValue) (cell : CellState) → t ≤ length cell.chain.entries
    → AllByRecursion IsWithinFile (items_in entries) → HaveFront (items_in entries) (numbers_of bs)
    → HasPages (take t cell.chain.entries) cell → Grows t cell (with_entries entries bs (with_log_pages pages cell))
append_grows t entries bs pages cell le within front h =
    rw (paged pages cell)
    (grows_on t cell _ _ (record {
      log = refl;
      pages = record { pages = h.pages; len = h.len; within = h.within };
      node = refl;
      sound = λ x. x;
      tail = refl;
      generation = refl;
    })
    (λ h. entries_grow t entries bs _ le within front h))

-- ---- what a publish kills is covered

dies_covered : (block : ℕ) (es : List Entry) (tail n : ℕ) → dies block es tail n ≡ true → is_covered block es n ≡ true
dies_covered block es tail n h =
    let a = and_parts (nat_lt n (part_total es) && is_covered block es n) _ h in
    (and_parts (nat_lt n (part_total es)) (is_covered block es n) a.0).1

module _ (cell : CellState) (is : IsLog cell.chain.entries) where
  abbrev es : List Entry
  es = cell.chain.entries

  abbrev dead : ℕ → Bool
  dead n = dies cell.block es cell.chain.tail n

  covered_one : (n : ℕ) (o : Option KilledPart) → killed_part es n ≡ o → dead n ≡ true → AreCovered (published cell) (option_to_list o)
  covered_one n None q d = tt
  covered_one n (Some k) q d = (
    ap (λ (l : List Entry). is_covered cell.block l (unwrap_or (number_named l k.part) 0)) (take_whole es)
        ∙ ap (λ (o : Option ℕ). is_covered cell.block es (unwrap_or o 0)) ((names_of_parts es is).number n k q)
        ∙ dies_covered cell.block es cell.chain.tail n d,
    tt,
  )

  covered_more : (xs ys : List KilledPart) → AreCovered (published cell) xs → AreCovered (published cell) ys
      → AreCovered (published cell) (xs ++ ys)
  covered_more [] ys h more = more
  covered_more (x ∷ xs) ys h more = (h.0, covered_more xs ys h.1 more)

  covered_all : (ns : List ℕ) → AreCovered (published cell) (flat_map (λ n. option_to_list (killed_part es n)) (filter dead ns))
  covered_all [] = tt
  covered_all (n ∷ ns) = go (dead n) refl (covered_all ns) where
    go : (b : Bool) → dead n ≡ b → AreCovered (published cell) (flat_map (λ n. option_to_list (killed_part es n)) (filter dead ns))
        → AreCovered (published cell) (flat_map (λ n. option_to_list (killed_part es n)) (cond b (n ∷ filter dead ns) (filter dead ns)))
    go true q more = covered_more (option_to_list (killed_part es n)) _ (covered_one n (killed_part es n) refl q) more
    go false q more = more

  pub killed_covered : AreCovered (published cell) (killed_by cell)
  killed_covered = covered_all (range_with_len 0 (part_total es))

-- ---- retire

-- only blocks of covered parts are gone
pub record Retires (old new : CellState) : Type 0 where
  pub block : new.block ≡ old.block
  pub chain : new.chain ≡ old.chain
  pub generation : new.generation ≡ old.generation
  pub len : length new.blocks ≡ length old.blocks
  pub less : (n : ℕ) (b : BlockValue) → slice_index_or new.blocks n None ≡ Some b → slice_index_or old.blocks n None ≡ Some b
  pub kept : (n : ℕ) → is_covered old.block (log_of old) n ≡ false → slice_index_or new.blocks n None ≡ slice_index_or old.blocks n None

retires_on : (a b c : CellState) → Retires a b → Retires b c → Retires a c
retires_on a b c f g = record {
  block = g.block ∙ f.block;
  chain = g.chain ∙ f.chain;
  generation = g.generation ∙ f.generation;
  len = g.len ∙ f.len;
  less = λ n x e. f.less n x (g.less n x e);
  kept = λ n unc. g.kept n (rw (f.block, f.chain) unc) ∙ f.kept n unc;
}

pub slot_set : (xs : List (Option BlockValue)) (n m : ℕ) (P : Option BlockValue → Type 0) → (n ≡ m → P None) → P (slice_index_or xs m None)
    → P (slice_index_or (set xs n None) m None)
slot_set [] n m P here there = there
slot_set (x ∷ xs) zero zero P here there = here refl
slot_set (x ∷ xs) zero (suc m) P here there = there
slot_set (x ∷ xs) (suc n) zero P here there = there
slot_set (x ∷ xs) (suc n) (suc m) P here there = slot_set xs n m P (λ e. here (ap suc e)) there

pub length_set : (xs : List (Option BlockValue)) (n : ℕ) → length (set xs n None) ≡ length xs
length_set [] n = refl
length_set (x ∷ xs) zero = refl
length_set (x ∷ xs) (suc n) = ap suc (length_set xs n)

pub one_retires : (keeper : Option ℕ) (n : ℕ) (cell : CellState) → is_covered cell.block (log_of cell) n ≡ true
    → Retires cell (settled_part keeper n cell)
one_retires (Some s) n cell h = record {
  block = refl;
  chain = refl;
  generation = refl;
  len = refl;
  less = λ m b e. e;
  kept = λ m unc. refl;
}
one_retires None n cell h = record {
  block = refl;
  chain = refl;
  generation = refl;
  len = length_set cell.blocks n;
  less = λ m b. slot_set cell.blocks n m (λ (o : Option BlockValue). o ≡ Some b → slice_index_or cell.blocks m None ≡ Some b) (λ e q. cc)
      (λ e. e);
  kept = λ m unc. slot_set cell.blocks n m (λ (o : Option BlockValue). o ≡ slice_index_or cell.blocks m None)
      (λ e. absurd (true≢false (sym h ∙ ap (is_covered cell.block (log_of cell)) e ∙ unc))) refl;
}

covered_still : (keeper : Option ℕ) (n : ℕ) (cell : CellState) (parts : List KilledPart) → AreCovered cell parts
    → AreCovered (settled_part keeper n cell) parts
covered_still None n cell parts h = h
covered_still (Some s) n cell parts h = h

pub retired_is : (living : List ℕ) (ino epoch : ℕ) (parts : List KilledPart) (cell : CellState) → AreCovered cell parts
    → Retires cell (retired living ino epoch parts cell)
retired_is living ino epoch [] cell h = record {
  block = refl;
  chain = refl;
  generation = refl;
  len = refl;
  less = λ m b e. e;
  kept = λ m unc. refl;
}
retired_is living ino epoch (k ∷ parts) cell h =
    let keeper = keeper_of living ino epoch k in
    retires_on cell (retired_one living ino epoch k cell) (retired living ino epoch parts (retired_one living ino epoch k cell))
    (one_retires keeper (number_in cell k.part) cell h.0)
    (retired_is living ino epoch parts (retired_one living ino epoch k cell) (covered_still keeper (number_in cell k.part) cell parts h.1))

pub retired_pages : (old new : CellState) → Retires old new → HasPages (log_of old) old → HasPages (log_of old) new
retired_pages old new r h = record {
  pages = λ n number unc says.
      let u : is_covered old.block (log_of old) n ≡ false = ap (λ (b : ℕ). is_covered b (log_of old) n) (sym r.block) ∙ unc in
      ap (option_map number_of) (r.kept n u) ∙ h.pages n number u (rw (← r.block, ← r.chain) says);
  len = r.len ∙ h.len ∙ ap (λ (c : _). part_total c.entries) (sym r.chain);
  within = rw (r.chain) h.within;
}

-- the blocks of its pages are read as before
pub same_slot : (o : Option BlockValue) (number : ℕ) → option_map number_of o ≡ Some number
    → (b : BlockValue) × (o ≡ Some b) × (b.number ≡ number)
same_slot None number h = cc
same_slot (Some b) number h = (b, refl, cc)

-- the bytes of a page are there still
retired_bytes : (old new : CellState) → Retires old new → AreApart old.blocks → HasPages (log_of old) old → (page number : ℕ)
    → block_now old.block (log_of old) page ≡ Some number → bytes_among new.blocks number ≡ bytes_among old.blocks number
retired_bytes old new r apart h page number is =
    let p = page_there old old.chain.tail page number h is in
    let b = same_slot (slice_index_or old.blocks p.0 None) number p.2 in
    let here = among_at old.blocks apart p.0 b.0 b.1 in
    let there = among_at new.blocks (λ n m x y e f. apart n m x y (r.less n x e) (r.less m y f)) p.0 b.0 (r.kept p.0 p.1 ∙ b.1) in
    ap (bytes_among new.blocks) (sym b.2) ∙ there ∙ sym here ∙ ap (bytes_among old.blocks) b.2

pub retired_node : (old new : CellState) → Retires old new → AreApart old.blocks → HasPages (log_of old) old
    → node_by new (log_of old) ≡ node_by old (log_of old)
retired_node old new r apart h = same_node old new old.chain.tail r.block (retired_bytes old new r apart h)

pub retired_sound : (old new : CellState) → Retires old new → AreApart old.blocks → HasPages (log_of old) old
    → IsSoundIn old (log_of old) → IsSoundIn new (log_of old)
retired_sound old new r apart h = same_sound old new old.chain.tail r.block (retired_bytes old new r apart h)

-- ---- erase

pub erased_none : (cell : CellState) → is_erased cell ≡ true → node_by cell (log_of cell) ≡ None
erased_none cell h =
    ap (stamped (last_commit (log_of cell)))
    (gone_node (bytes_among cell.blocks) cell.block (log_of cell) (and_parts (is_gone (log_of cell)) (keeps_nothing cell) h).0)

pub empty_pages : (log : List Entry) (block page generation version : ℕ) → HasPages log (empty_cell block page generation version)
empty_pages log block page generation version = record { pages = λ n number unc says. cc; len = refl; within = omega arith }
