-- The parts of an item as a list, and how many pairs a log has.
use Rattle.std.proofs.Common.{add-one, ◌≡◌, ℕ, zero, suc, ◌+◌, ◌-◌, ◌<◌, min, List, [], ◌∷◌, length, map, drop, Some, None, arith, refl, ap, ◌∙◌}
use Rattle.std.specs.Prelude.{slice_get}
use Rattle.std.proofs.Math.Seq.{drop-cons}
use Rattle.std.proofs.lemmas.List.{length-append, length-map}
use Rattle.std.proofs.lemmas.List.FromFn.{length-map-range_with_len, get_or-map-range_with_len}
use Rattle.std.proofs.lemmas.Option.{get_or_from_slice_get, slice_get-get_or, slice_get_within}
use Rattle.nv_entry.specs.declared.item.BlockRun.{BlockRun}
use Rattle.nv_entry.specs.declared.item.Entry.{Entry}
use Rattle.nv_entry.specs.declared.part.Part.TheVariants as part
use Rattle.nv_entry.specs.Covered.{part_total}
use Rattle.nv_entry.specs.Keys.{parts_of, run_pages}
use Rattle.nv_entry.specs.Log.{pair_of, pairs, pairs_of}

-- how many parts a write has
pub length-written : (first : ℕ) (run : BlockRun) → length (part.Size ∷ map part.Page (run_pages first run)) ≡ 1 + min run.len (65536 - first)
length-written first run = omega (arith, length-map-range_with_len part.Page first (min run.len (65536 - first)))

-- the pages among them
pub page_at : (first : ℕ) (run : BlockRun) (place : ℕ) → 0 < place → place < 1 + min run.len (65536 - first)
    → slice_get (part.Size ∷ map part.Page (run_pages first run)) place ≡ Some (part.Page (first + (place - 1)))
page_at first run zero some lt = absurd (omega arith)
page_at first run (suc k) some lt =
    slice_get-get_or (map part.Page (run_pages first run)) k part.Size
    (omega (arith, length-map-range_with_len part.Page first (min run.len (65536 - first))))
    ∙ ap Some (get_or-map-range_with_len part.Page first (min run.len (65536 - first)) k (first + (suc k - 1)) part.Size (omega arith)
    (omega arith))

-- what is left of a list from a place on
pub drop-some : {A : Type 0} (xs : List A) (i : ℕ) (x : A) → slice_get xs i ≡ Some x → drop i xs ≡ x ∷ drop (i + 1) xs
drop-some xs i x h = rw add-one (drop-cons xs i x (slice_get_within xs i x h)
    ∙ ap (λ y. y ∷ drop (suc i) xs) (get_or_from_slice_get xs i x x h))

pub drop-none : {A : Type 0} (xs : List A) (i : ℕ) → slice_get xs i ≡ None → drop i xs ≡ []
drop-none [] zero h = refl
drop-none [] (suc i) h = refl
drop-none (y ∷ xs) zero h = cc
drop-none (y ∷ xs) (suc i) h = drop-none xs i h

pub drop-less : {A : Type 0} (xs : List A) (i : ℕ) (x : A) → slice_get xs i ≡ Some x → length (drop (i + 1) xs) < length (drop i xs)
drop-less xs i x h = let e = ap length (drop-some xs i x h) in omega (arith, e)

-- a log has as many pairs as parts
pub length-pairs : (block : ℕ) (log : List Entry) → length (pairs block log) ≡ part_total log
length-pairs block [] = refl
length-pairs block (e ∷ log) =
    length-append (pairs_of block e log) (pairs block log)
    ∙ omega (arith, length-map (parts_of e.item) (pair_of block e log), length-pairs block log)
