-- Each page that a settled log needs has its block among a cell's data blocks, and no other page
-- has it.
use Rattle.std.proofs.Common.{◌≡◌, ℕ, zero, suc, ◌-◌, ◌<◌, ◌≤◌, ◌==◌, ◌||◌, ◌++◌, ◌∙◌, inl, inr, Bool, true, false, cond, drop, nat_lt, not, List, [], ◌∷◌, Option, Some, None, ap, arith, length, subst, sym, take, refl}
use Rattle.std.specs.Prelude.{option_and_then, option_to_list, slice_get, slice_index_or}
use Rattle.std.specs.List.{AllByRecursion, flat_map}
use Rattle.std.specs.Option.{IsSome, option_map}
use Rattle.std.proofs.lemmas.Bool.{cases_lt, eqb-true, eq-eqb, false≢true, le-ltb}
use Rattle.std.proofs.lemmas.List.{take-append-drop, take-take}
use Rattle.std.proofs.lemmas.Option.{none-some, same_Some}
use Rattle.nv_alloc.specs.Block.{BlockValue, block_by, number_of}
use Rattle.nv_cell.specs.Anew.{AreThere, marks_anew}
use Rattle.nv_cell.proofs.DeadPairs.{more_entries}
use Rattle.nv_cell.proofs.NamedPairs.{current_is, its_number}
use Rattle.nv_cell.proofs.Numbers.{total_append}
use Rattle.nv_cell.proofs.ValuesNow.{IsLog-take}
use Rattle.nv_cell.specs.Cell.{CellState, HasBlocks, log_of, page_block}
use Rattle.nv_cell.specs.Cleaned.{HasDeadPair}
use Rattle.nv_cell.specs.Marks.{is_there, mark_at}
use Rattle.nv_cell.specs.Named.{number_named}
use Rattle.nv_cell.specs.declared.mark.Mark.{Mark}
use Rattle.nv_cell.specs.declared.mark.Mark.TheVariants.{Current, Kept, Killed, Out}
use Rattle.nv_entry.specs.Covered.{is_covered, key_at, part_count, part_total}
use Rattle.nv_entry.specs.Data.{block_in}
use Rattle.nv_entry.specs.Held.{holds, is_current, is_held, is_needed, pair_name}
use Rattle.nv_entry.specs.Keys.{sets}
use Rattle.nv_entry.specs.Log.{IsLog, pairs, value_of}
use Rattle.nv_entry.specs.declared.held.Pair.{Pair}
use Rattle.nv_entry.specs.declared.item.Entry.{Entry}
use Rattle.nv_machine.proofs.CellPages.{front_says}
use Rattle.nv_machine.proofs.MarksInUse.{same_default}
use Rattle.nv_machine.proofs.Pairs.{number_front, pair_there}
use Rattle.nv_machine.specs.Kept.{AreApart, HasPages}
use Rattle.nv_audit.proofs.NeededPages.{mark_of, there_by}
use Rattle.nv_restart.specs.Restarted.{data_blocks}

-- ---- lists

-- the block of a part stands among the data blocks
found_in : (t m number : ℕ) (slots : List (Option BlockValue)) → m < t
    → option_map number_of (slice_index_or slots m None) ≡ Some number
    → option_map number_of (block_by (flat_map option_to_list (take t slots)) number) ≡ Some number
found_in zero m number slots lt is = absurd (omega (arith, lt))
found_in (suc t) m number [] lt is = absurd (none-some number is)
found_in (suc t) zero number (None ∷ slots) lt is = absurd (none-some number is)
found_in (suc t) (suc m) number (None ∷ slots) lt is =
    found_in t m number slots (omega (arith, lt)) is
found_in (suc t) zero number (Some b ∷ slots) lt is =
    let same : b.number ≡ number = same_Some b.number number is in
    rw (eq-eqb b.number number same) is
found_in (suc t) (suc m) number (Some b ∷ slots) lt is =
    go (b.number == number) refl (found_in t m number slots (omega (arith, lt)) is) where
      later : List BlockValue
      later = flat_map option_to_list (take t slots)

      go : (c : Bool) → (b.number == number) ≡ c
          → option_map number_of (block_by later number) ≡ Some number
          → option_map number_of (cond c (Some b) (block_by later number)) ≡ Some number
      go true e more = ap (λ (n : ℕ). Some n) (eqb-true b.number number e)
      go false e more = more

-- a page is said of a part that there is
said_low : (block : ℕ) (es : List Entry) (n number : ℕ) → page_block block es n ≡ Some number
    → n < part_total es
said_low block [] n number e = absurd (none-some number e)
said_low block (x ∷ es) n number e = elim (cases_lt n (part_count x)) [
  | inl low ↦ omega (arith, low)
  | inr past ↦
      let out : nat_lt n (part_count x) ≡ false = le-ltb n (part_count x) past in
      let own : Option ℕ =
      option_and_then block_in (value_of (sets block x.item (key_at (x ∷ []) n))) in
      let later : Option ℕ = page_block block es (n - part_count x) in
      let more = said_low block es (n - part_count x) number
      (sym (ap (λ (b : Bool). cond b own later) out) ∙ e) in
      omega (arith, more, past)
]

-- a cell whose settled log is the front of what is published
module _ (living : List ℕ) (cell : CellState) (t : ℕ) (few : t ≤ cell.chain.tail)
    (is : IsLog cell.chain.entries) (has : HasPages (take t cell.chain.entries) cell)
    (blocks : HasBlocks cell) (marks_len : length cell.marks ≡ part_total (log_of cell))
    (out : (n : ℕ) (pair : Pair) → slice_get (pairs cell.block (log_of cell)) n ≡ Some pair
    → mark_at cell.marks n ≡ Out → AllByRecursion (λ s. holds s pair ≡ false) living) where
  abbrev log : List Entry
  log = take t cell.chain.entries

  abbrev own : List Entry
  own = log_of cell

  abbrev rest : List Entry
  rest = drop t own

  abbrev IsAt : ℕ → ℕ → Type 0
  IsAt n number = option_map number_of (slice_index_or cell.blocks n None) ≡ Some number

  -- the part is to be there, by the marks anew
  abbrev IsNeeded : ℕ → Type 0
  IsNeeded n = is_there (mark_at (marks_anew living cell.block log) n) ≡ true

  -- what is published goes on from it
  own_is : own ≡ log ++ rest
  own_is =
      sym (take-append-drop t own)
      ∙ ap (λ (es : List Entry). es ++ rest)
      (take-take t cell.chain.tail cell.chain.entries few)

  low_own : (n : ℕ) → n < part_total log → n < part_total own
  low_own n lt = omega (arith, lt, total_append log rest, ap part_total own_is)

  none_held : (ss : List ℕ) (pair other : Pair)
      → AllByRecursion (λ s. holds s other ≡ holds s pair) ss
      → AllByRecursion (λ s. holds s pair ≡ false) ss → is_held ss other ≡ false
  none_held [] pair other same none = refl
  none_held (s ∷ ss) pair other same none =
      rw (same.0, none.0) (none_held ss pair other same.1 none.1)

  log_is : IsLog log
  log_is = IsLog-take t cell.chain.entries is

  own_rises : IsLog (log ++ rest)
  own_rises = subst IsLog own_is (IsLog-take cell.chain.tail cell.chain.entries is)

  -- a pair that has died and is held has its part there
  held_there : (n : ℕ) (pair : Pair) → slice_get (pairs cell.block log) n ≡ Some pair
      → is_current pair ≡ false → is_held living pair ≡ true
      → is_there (mark_at cell.marks n) ≡ true
  held_there n pair got died held = at (mark_at cell.marks n) refl where
    same_all : (ss : List ℕ) → AllByRecursion (λ s. holds s pair ≡ holds s pair) ss
    same_all [] = tt
    same_all (s ∷ ss) = (refl, same_all ss)

    here : HasDeadPair living cell.block log (pair_name pair) pair.birth (λ s. holds s pair)
    here = record {
      n = n;
      pair = pair;
      is = got;
      name = refl;
      birth_is = refl;
      died = died;
      holders = same_all living;
    }

    there : HasDeadPair living cell.block (log ++ rest) (pair_name pair) pair.birth
        (λ s. holds s pair)
    there =
        more_entries living cell.block log (pair_name pair) pair.birth (λ s. holds s pair) here rest

    same_number : there.n ≡ n
    same_number = same_Some there.n n
        (sym (its_number cell.block (log ++ rest) own_rises there.n there.pair there.is)
        ∙ ap (number_named (log ++ rest)) there.name
        ∙ number_front log rest (pair_name pair) n (its_number cell.block log log_is n pair got))

    none : mark_at cell.marks n ≡ Out → is_held living pair ≡ false
    none e =
        none_held living there.pair pair there.holders
        (out there.n there.pair
        (ap (λ (l : List Entry). slice_get (pairs cell.block l) there.n) own_is ∙ there.is)
        (ap (mark_at cell.marks) same_number ∙ e))

    gone : mark_at cell.marks n ≡ Out → ⊥
    gone e = false≢true (sym (none e) ∙ held)

    at : (m : Mark) → mark_at cell.marks n ≡ m → is_there m ≡ true
    at Current e = refl
    at Killed e = refl
    at Kept e = refl
    at Out e = absurd (gone e)

  -- the block of each needed page
  stands : (n number : ℕ) → IsNeeded n → page_block cell.block log n ≡ Some number
      → n < part_total log → IsAt n number
  stands n number needed page lt =
      at (slice_get (pairs cell.block log) n) refl (pair_there cell.block log n log_is lt)
    where
      whole : page_block cell.block cell.chain.entries n ≡ Some number
      whole = front_says cell.block cell.chain.entries t n lt ∙ page

      by_mark : is_there (mark_at cell.marks n) ≡ true → IsAt n number
      by_mark e =
          blocks.numbers n
          ∙ ap (λ (m : Mark).
          cond (is_there m) (page_block cell.block cell.chain.entries n) None)
          (same_default cell.marks n (omega (arith, marks_len, low_own n lt)))
          ∙ ap (λ (b : Bool). cond b (page_block cell.block cell.chain.entries n) None) e ∙ whole

      turn : (b : Bool) → not b ≡ true → b ≡ false
      turn true e = sym e
      turn false e = refl

      by : (pair : Pair) → slice_get (pairs cell.block log) n ≡ Some pair → (b : Bool)
          → is_current pair ≡ b → is_needed living pair ≡ true → IsAt n number
      by pair got true e need =
          has.pages n number
          (turn (is_covered cell.block log n)
          (sym (current_is cell.block log log_is n pair got) ∙ e)) whole
      by pair got false e need =
          by_mark (held_there n pair got e
          (sym (ap (λ (b : Bool). b || is_held living pair) e) ∙ need))

      at : (o : Option Pair) → slice_get (pairs cell.block log) n ≡ o → IsSome o → IsAt n number
      at None e there = absurd (false≢true there)
      at (Some pair) e there =
          by pair e (is_current pair) refl
          (sym (there_by living pair)
          ∙ ap is_there (sym (mark_of living (pairs cell.block log) n pair e)) ∙ needed)

  -- EACH NEEDED PAGE has its block among the data blocks
  pub are_there : AreThere cell.block living (data_blocks cell) log
  are_there n number needed page =
      let lt = said_low cell.block log n number page in
      found_in (part_total own) n number cell.blocks (low_own n lt)
      (stands n number needed page lt)

  -- and no other has it
  pub are_apart : AreApart cell.blocks → (n m number : ℕ) → IsNeeded n → IsNeeded m
      → page_block cell.block log n ≡ Some number → page_block cell.block log m ≡ Some number
      → n ≡ m
  are_apart apart n m number needed also page other =
      let one = at n (stands n number needed page (said_low cell.block log n number page)) in
      let two = at m (stands m number also other (said_low cell.block log m number other)) in
      apart n m one.0 two.0 one.1 two.1 (one.2 ∙ sym two.2)
    where
      of_some : (o : Option BlockValue) → option_map number_of o ≡ Some number
          → (b : BlockValue) × (o ≡ Some b) × (b.number ≡ number)
      of_some None e = absurd (none-some number e)
      of_some (Some b) e = (b, refl, same_Some b.number number e)

      at : (k : ℕ) → IsAt k number
          → (b : BlockValue) × (slice_index_or cell.blocks k None ≡ Some b) × (b.number ≡ number)
      at k e = of_some (slice_index_or cell.blocks k None) e
