-- Lists of runs that grow.
use Rattle.std.proofs.Common.{add-one, add-zero, ◌≡◌, ℕ, zero, suc, ◌+◌, ◌<◌, ◌≤◌, List, Option, Some, [], ◌∷◌, ◌++◌, length, take, arith, ap, ap₂, sym, ◌∙◌, append_assoc}
use Rattle.std.specs.Prelude.{option_to_list}
use Rattle.std.specs.List.{range_with_len}
use Rattle.std.proofs.lemmas.Grind.{flat_map-append}
use Rattle.std.proofs.lemmas.List.{append-nil, length-append}
use Rattle.std.proofs.lemmas.List.FromFn.{length-range_with_len}
use Rattle.nv_entry.specs.declared.item.Item.{Item}
use Rattle.nv_entry.specs.declared.item.Item.TheVariants.{Write}
use Rattle.nv_entry.specs.declared.item.BlockRun.{BlockRun}
use Rattle.nv_entry.specs.Sound.{blocks_of, write_items}
use Rattle.nv_calls.specs.Plan.{AreMaximal}

-- ---- the blocks of one more run

range-more : (a n : ℕ) → range_with_len a (n + 1) ≡ range_with_len a n ++ (a + n) ∷ []
range-more a n = rw add-one (go a n) where
  go : (a n : ℕ) → range_with_len a (suc n) ≡ range_with_len a n ++ (a + n) ∷ []
  go a zero = ap (λ x. x ∷ []) (sym (add-zero a))
  go a (suc n) = ap (λ xs. a ∷ xs) (go (a + 1) n ∙ ap (λ x. range_with_len (a + 1) n ++ x ∷ []) (omega arith))

blocks_of-push : (runs : List BlockRun) (run : BlockRun) → blocks_of (runs ++ run ∷ []) ≡ blocks_of runs ++ range_with_len run.start run.len
blocks_of-push runs run =
    flat_map-append (λ (r : BlockRun). range_with_len r.start r.len) runs (run ∷ [])
    ∙ ap (λ xs. blocks_of runs ++ xs) (append-nil (range_with_len run.start run.len))

pub count-push : (runs : List BlockRun) (run : BlockRun) → length (blocks_of (runs ++ run ∷ [])) ≡ length (blocks_of runs) + run.len
count-push runs run =
    ap length (blocks_of-push runs run) ∙ length-append (blocks_of runs) (range_with_len run.start run.len)
    ∙ ap (λ (n : ℕ). length (blocks_of runs) + n) (length-range_with_len run.start run.len)

count-front : (run : BlockRun) (runs : List BlockRun) → length (blocks_of (run ∷ runs)) ≡ run.len + length (blocks_of runs)
count-front run runs =
    length-append (range_with_len run.start run.len) (blocks_of runs)
    ∙ ap (λ (n : ℕ). n + length (blocks_of runs)) (length-range_with_len run.start run.len)

-- the blocks of a list whose first run lies in place
pub count-in_place : (first : Option BlockRun) (run : BlockRun) (others runs : List BlockRun) → first ≡ Some run
    → option_to_list first ++ others ≡ runs → length (blocks_of runs) ≡ run.len + length (blocks_of others)
count-in_place first run others runs is list =
    ap (λ (xs : List BlockRun). length (blocks_of xs)) (sym list ∙ ap (λ (o : Option BlockRun). option_to_list o ++ others) is)
    ∙ count-front run others

-- a block behind a run
pub blocks_of-join : (runs : List BlockRun) (last more : BlockRun) (block : ℕ) → last.start + last.len ≡ block → more.start ≡ last.start
    → more.len ≡ last.len + 1
    → blocks_of (runs ++ more ∷ []) ≡ blocks_of (runs ++ last ∷ []) ++ block ∷ []
blocks_of-join runs last more block e s n =
    blocks_of-push runs more
    ∙ ap₂ (λ (a b : ℕ). blocks_of runs ++ range_with_len a b) s n
    ∙ ap (λ xs. blocks_of runs ++ xs) (range-more last.start last.len ∙ ap (λ (x : ℕ). range_with_len last.start last.len ++ x ∷ []) e)
    ∙ sym (append_assoc (blocks_of runs) (range_with_len last.start last.len) (block ∷ []))
    ∙ ap (λ xs. xs ++ block ∷ []) (sym (blocks_of-push runs last))

-- a block that begins a run
pub blocks_of-one : (runs : List BlockRun) (one : BlockRun) (block : ℕ) → one.start ≡ block → one.len ≡ 1
    → blocks_of (runs ++ one ∷ []) ≡ blocks_of runs ++ block ∷ []
blocks_of-one runs one block s n = blocks_of-push runs one ∙ ap₂ (λ (a b : ℕ). blocks_of runs ++ range_with_len a b) s n

-- ---- maximal runs

pub maximal-longer : (runs : List BlockRun) (last more : BlockRun) → AreMaximal (runs ++ last ∷ []) → more.start ≡ last.start → 0 < more.len
    → AreMaximal (runs ++ more ∷ [])
maximal-longer [] last more h s some = some
maximal-longer (run ∷ []) last more h s some = (h.0, (λ e. h.1 (e ∙ s)), some)
maximal-longer (run ∷ next ∷ runs) last more h s some = (h.0, h.1, maximal-longer (next ∷ runs) last more h.2 s some)

pub maximal-more : (runs : List BlockRun) (last one : BlockRun) → AreMaximal (runs ++ last ∷ []) → (last.start + last.len ≡ one.start → ⊥)
    → 0 < one.len
    → AreMaximal ((runs ++ last ∷ []) ++ one ∷ [])
maximal-more [] last one h apart some = (h, apart, some)
maximal-more (run ∷ []) last one h apart some = (h.0, h.1, maximal-more [] last one h.2 apart some)
maximal-more (run ∷ next ∷ runs) last one h apart some = (h.0, h.1, maximal-more (next ∷ runs) last one h.2 apart some)

-- ---- items of one more run

pub count-take : (runs : List BlockRun) (n : ℕ) → length (blocks_of (take n runs)) ≤ length (blocks_of runs)
count-take [] zero = omega arith
count-take [] (suc n) = omega arith
count-take (run ∷ runs) zero = omega arith
count-take (run ∷ runs) (suc n) =
    omega (
      arith,
      count-take runs n,
      length-append (range_with_len run.start run.len) (blocks_of runs),
      length-append (range_with_len run.start run.len) (blocks_of (take n runs)),
    )

pub write_items-push : (first size : ℕ) (runs : List BlockRun) (run : BlockRun)
    → write_items first (runs ++ run ∷ []) size ≡ write_items first runs size ++ Write (first + length (blocks_of runs)) run size ∷ []
write_items-push first size [] run = ap (λ (n : ℕ). let item : Item = Write n run size in item ∷ []) (omega arith)
write_items-push first size (r ∷ runs) run =
    ap (λ (xs : List Item). Write first r size ∷ xs) (write_items-push (first + r.len) size runs run
    ∙ ap (λ (n : ℕ). write_items (first + r.len) runs size ++ Write n run size ∷ []) (omega (arith, count-front r runs)))
