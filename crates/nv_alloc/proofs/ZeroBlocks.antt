-- Free blocks whose bytes are 0.
use Rattle.std.proofs.Common.{◌≡◌, ℕ, zero, suc, ◌+◌, ◌-◌, ◌<◌, ◌≤◌, ◌==◌, ◌⊎◌, inl, inr, ◌++◌, Bool, true, false, cond, not, List, [], ◌∷◌, Option, Some, None, length, map, set, get_or, take, drop, arith, refl, ap, sym, subst, ◌∙◌}
use Rattle.std.proofs.lemmas.Bool.{cases_lt, eq-eqb, eqb-true, le-leb, lt-ltb}
use Rattle.std.proofs.lemmas.List.{length-map, length-replicate}
use Rattle.std.specs.List.{AllByRecursion}
use Rattle.std.specs.Option.{is_some, option_map}
use Rattle.nv_alloc.specs.Block.{AreSized, BlockValue, block_by, numbers_of, put_block, zero_block, zeroed}
use Rattle.nv_alloc.specs.FreeList.{ArePlaced, FreeBlocks, IsShelf}
use Rattle.nv_alloc.specs.Giving.{takes}
use Rattle.nv_alloc.specs.Numbers.{unused}
use Rattle.nv_alloc.specs.Places.{present}
use Rattle.nv_alloc.proofs.Slots.{none_by}
use Rattle.nv_alloc.proofs.Lists.{has-below, put_by-first}

-- ---- blocks that are put from the last one on

abbrev pub zeros : ℕ → (ℕ → Bool) → ℕ → ℕ → List BlockValue
zeros size is_used low len = map (zero_block size) (unused is_used low len)

above : (size : ℕ) (is_used : ℕ → Bool) (n low len : ℕ) → n < low → AllByRecursion (λ m. n < m) (numbers_of (zeros size is_used low len))
above size is_used n low zero h = tt
above size is_used n low (suc len) h = go (is_used low) (above size is_used n (low + 1) len (omega (arith, h))) where
  go : (b : Bool) → AllByRecursion (λ m. n < m) (numbers_of (zeros size is_used (low + 1) len))
      → AllByRecursion (λ m. n < m)
      (numbers_of (map (zero_block size) (cond (not b) (low ∷ unused is_used (low + 1) len) (unused is_used (low + 1) len))))
  go true later = later
  go false later = (h, later)

-- a number that is not used has its block before those behind it, and one that is used has none
pub zeros_put : (size : ℕ) (is_used : ℕ → Bool) (n len : ℕ) → is_used n ≡ false
    → put_block (zero_block size n) (zeros size is_used (n + 1) len) ≡ zeros size is_used n (suc len)
zeros_put size is_used n len free =
    put_by-first (λ (b : BlockValue). b.number) (zero_block size n) (zeros size is_used (n + 1) len)
    (above size is_used n (n + 1) len (omega arith))
    ∙ rw free refl

pub zeros_skip : (size : ℕ) (is_used : ℕ → Bool) (n len : ℕ) → is_used n ≡ true
    → zeros size is_used (n + 1) len ≡ zeros size is_used n (suc len)
zeros_skip size is_used n len used = rw used refl

-- the list takes it
pub zeros_taken : (start end size : ℕ) (is_used : ℕ → Bool) (n next len : ℕ) → n + 1 ≡ next → start < next → n < end
    → takes (record { start = start; end = end; size = size; blocks = zeros size is_used next len }) (zero_block size n) ≡ true
zeros_taken start end size is_used n next len e low high =
    rw (
      le-leb start n (omega (arith, e, low)),
      lt-ltb n end high,
      has-below n (numbers_of (zeros size is_used next len)) (above size is_used n next len (omega (arith, e))),
      length-replicate {A = ℕ} size 0,
      eq-eqb size size refl,
    ) refl

-- the block of a number
pub zeros_by : (size : ℕ) (is_used : ℕ → Bool) (n low len : ℕ) → low ≤ n → n < low + len
    → block_by (zeros size is_used low len) n ≡ cond (is_used n) None (Some (zero_block size n))
zeros_by size is_used n low zero from below = absurd (omega (arith, from, below))
zeros_by size is_used n low (suc len) from below =
    go (cases_lt low n) (λ lt. zeros_by size is_used n (low + 1) len (omega (arith, lt)) (omega (arith, below))) where
      rest : List BlockValue
      rest = zeros size is_used (low + 1) len

      its : Option BlockValue
      its = cond (is_used n) None (Some (zero_block size n))

      go : (low < n) ⊎ (n ≤ low) → (low < n → block_by rest n ≡ its) → block_by (zeros size is_used low (suc len)) n ≡ its
      go (inl lt) more =
          past (is_used low) (low == n) refl (more lt) where
            past : (b c : Bool) → (low == n) ≡ c → block_by rest n ≡ its
                → block_by (map (zero_block size) (cond (not b) (low ∷ unused is_used (low + 1) len) (unused is_used (low + 1) len))) n ≡ its
            past true c q later = later
            past false false q later = rw q later
            past false true q later = absurd (omega (arith, lt, eqb-true low n q))
      go (inr le) more = here (is_used low) refl where
        same : low ≡ n
        same = omega (arith, from, le)

        here : (b : Bool) → is_used low ≡ b
            → block_by (map (zero_block size) (cond (not b) (low ∷ unused is_used (low + 1) len) (unused is_used (low + 1) len))) n ≡ its
        here true q =
            none_by rest n (has-below n (numbers_of rest) (above size is_used n (low + 1) len (omega (arith, same))))
            ∙ sym (ap (λ (b : Bool). cond b None (Some (zero_block size n))) (ap is_used (sym same) ∙ q))
        here false q =
            rw (eq-eqb low n same)
            (ap (λ (m : ℕ). Some (zero_block size m)) same
            ∙ sym (ap (λ (b : Bool). cond b None (Some (zero_block size n))) (ap is_used (sym same) ∙ q)))

-- one number more
pub zeros_next : (init now new : FreeBlocks) (is_used : ℕ → Bool) (m n len more : ℕ) → m + 1 ≡ n → len + 1 ≡ more
    → now ≡ record init { blocks = zeros init.size is_used n len }
    → new ≡ record now { blocks = cond (is_used m) now.blocks (put_block (zero_block now.size m) now.blocks) }
    → new ≡ record init { blocks = zeros init.size is_used m more }
zeros_next init now new is_used m n len more e f is made =
    made
    ∙ ap (λ (l : FreeBlocks). let r : FreeBlocks = record l {
      blocks = cond (is_used m) l.blocks (put_block (zero_block l.size m) l.blocks);
    } in r) is
    ∙ ap (λ (bs : List BlockValue). let r : FreeBlocks = record init { blocks = bs } in r) (go (is_used m) refl) where
      s : ℕ
      s = init.size

      last : zeros s is_used m (suc len) ≡ zeros s is_used m more
      last = let k : suc len ≡ more = omega (arith, f) in ap (λ k. zeros s is_used m k) k

      go : (b : Bool) → is_used m ≡ b
          → cond b (zeros s is_used n len) (put_block (zero_block s m) (zeros s is_used n len)) ≡ zeros s is_used m more
      go true q = ap (λ k. zeros s is_used k len) (sym e) ∙ zeros_skip s is_used m len q ∙ last
      go false q = ap (λ k. put_block (zero_block s m) (zeros s is_used k len)) (sym e) ∙ zeros_put s is_used m len q ∙ last

pub zeros_none : (init : FreeBlocks) (is_used : ℕ → Bool) (n len : ℕ) → init.blocks ≡ [] → len ≡ 0
    → init ≡ record init { blocks = zeros init.size is_used n len }
zeros_none init is_used n len none e =
    ap (λ (bs : List BlockValue). let r : FreeBlocks = record init { blocks = bs } in r)
    (none ∙ sym (ap (λ k. zeros init.size is_used n k) e))

pub zeros_all : (init now : FreeBlocks) (is_used : ℕ → Bool) (n len : ℕ) → n ≡ init.start → len ≡ init.end - init.start
    → now ≡ record init { blocks = zeros init.size is_used n len }
    → now ≡ record init { blocks = zeros init.size is_used init.start (init.end - init.start) }
zeros_all init now is_used n len e f is =
    is ∙ ap (λ (bs : List BlockValue). let r : FreeBlocks = record init { blocks = bs } in r)
    (ap (λ k. zeros init.size is_used k len) e ∙ ap (λ k. zeros init.size is_used init.start k) f)

-- ---- all bytes are cleared

pub present-cleared : (slots : List (Option BlockValue)) → present (map (option_map zeroed) slots) ≡ map zeroed (present slots)
present-cleared [] = refl
present-cleared (None ∷ slots) = present-cleared slots
present-cleared (Some b ∷ slots) = ap (λ (bs : List BlockValue). zeroed b ∷ bs) (present-cleared slots)

ArePlaced-cleared : (start : ℕ) (slots : List (Option BlockValue)) → ArePlaced start slots → ArePlaced start (map (option_map zeroed) slots)
ArePlaced-cleared start [] h = tt
ArePlaced-cleared start (None ∷ slots) h = ArePlaced-cleared (start + 1) slots h
ArePlaced-cleared start (Some b ∷ slots) h = (h.0, ArePlaced-cleared (start + 1) slots h.1)

flags-cleared : (slots : List (Option BlockValue)) → map is_some (map (option_map zeroed) slots) ≡ map is_some slots
flags-cleared [] = refl
flags-cleared (None ∷ slots) = ap (λ (bs : List Bool). false ∷ bs) (flags-cleared slots)
flags-cleared (Some b ∷ slots) = ap (λ (bs : List Bool). true ∷ bs) (flags-cleared slots)

AreSized-cleared : (size : ℕ) (bs : List BlockValue) → AreSized size bs → AreSized size (map zeroed bs)
AreSized-cleared size [] h = tt
AreSized-cleared size (b ∷ bs) h = (length-replicate (length b.bytes) 0 ∙ h.0, AreSized-cleared size bs h.1)

pub shelf_cleared : {start size count : ℕ} {slots : List (Option BlockValue)} {free : List Bool} → IsShelf start size slots free count
    → IsShelf start size (map (option_map zeroed) slots) free count
shelf_cleared {start} {size} {count} {slots} {free} shelf = record {
  placed = ArePlaced-cleared start slots shelf.placed;
  flags = shelf.flags ∙ sym (flags-cleared slots);
  counted = shelf.counted ∙ sym (ap length (present-cleared slots) ∙ length-map (present slots) zeroed);
  sized = subst (AreSized size) (sym (present-cleared slots)) (AreSized-cleared size (present slots) shelf.sized);
  small = let e : length (map (option_map zeroed) slots) ≡ length slots = length-map slots (option_map zeroed) in omega (arith, e, shelf.small);
}

-- ---- a list whose first items are changed

abbrev pub changed : {X : Type 0} → (X → X) → ℕ → List X → List X
changed f i xs = map f (take i xs) ++ drop i xs

pub changed-at : {X : Type 0} (f : X → X) (xs : List X) (i : ℕ) (d : X) → get_or (changed f i xs) i d ≡ get_or xs i d
changed-at f [] zero d = refl
changed-at f [] (suc i) d = refl
changed-at f (x ∷ xs) zero d = refl
changed-at f (x ∷ xs) (suc i) d = changed-at f xs i d

pub changed-more : {X : Type 0} (f : X → X) (xs : List X) (i : ℕ) (d : X) → i < length xs
    → set (changed f i xs) i (f (get_or xs i d)) ≡ changed f (i + 1) xs
changed-more {X = X} f xs i d lt =
    one f xs i lt ∙ (let e : suc i ≡ i + 1 = omega arith in ap (λ k. changed f k xs) e) where
      one : (f : X → X) (xs : List X) (i : ℕ) → i < length xs → set (changed f i xs) i (f (get_or xs i d)) ≡ changed f (suc i) xs
      one f [] i lt = absurd (omega (arith, lt))
      one f (x ∷ xs) zero lt = refl
      one f (x ∷ xs) (suc i) lt = ap (λ ys. f x ∷ ys) (one f xs i (omega (arith, lt)))

pub changed-all : {X : Type 0} (f : X → X) (xs : List X) (i : ℕ) → length xs < i + 1 → changed f i xs ≡ map f xs
changed-all f [] zero h = refl
changed-all f [] (suc i) h = refl
changed-all f (x ∷ xs) zero h = absurd (omega (arith, h))
changed-all f (x ∷ xs) (suc i) h = ap (λ ys. f x ∷ ys) (changed-all f xs i (omega (arith, h)))
