-- What is told of each pair of a log, by number, is divided entry by entry.
use Rattle.std.proofs.Common.{◌≡◌, ℕ, ◌+◌, ◌<◌, ◌≤◌, List, ◌∷◌, ◌++◌, length, map, drop, take, arith, ap, ap₂, sym, ◌∙◌, get_or}
use Rattle.std.proofs.lemmas.List.{drop_more, length-append, length-map, map-append}
use Rattle.std.proofs.Math.Seq.{drop-append_seam, take-append_seam}
use Rattle.nv_entry.specs.Keys.{parts_of}
use Rattle.nv_entry.specs.Log.{pair_of, pairs, pairs_of}
use Rattle.nv_entry.specs.declared.held.Pair.{Pair}
use Rattle.nv_entry.specs.declared.item.Entry.{Entry}

-- what is told from an entry on begins with what is told of its own pairs
pub record Divided {X : Type 0} (f : Pair → X) (block : ℕ) (e : Entry) (later : List Entry) (own rest : List X) : Type 0 where
  pub first : own ≡ map f (pairs_of block e later)
  pub others : rest ≡ map f (pairs block later)

in_two : {X : Type 0} (f : Pair → X) (block i n : ℕ) (log : List Entry) (e : Entry) (left : List X) → i < length log → e ≡ get_or log i e
    → left ≡ map f (pairs block (drop i log)) → n ≡ length (parts_of e.item)
    → (n ≡ length (map f (pairs_of block e (drop (i + 1) log))))
    × (left ≡ map f (pairs_of block e (drop (i + 1) log)) ++ map f (pairs block (drop (i + 1) log)))
in_two f block i n log e left lt at is count =
    let later : List Entry = drop (i + 1) log in
    let behind : drop i log ≡ e ∷ later = drop_more log i e lt ∙ ap (λ (x : Entry). x ∷ later) (sym at) in (
      count ∙ sym (length-map (parts_of e.item) (pair_of block e later)) ∙ sym (length-map (pairs_of block e later) f),
      is ∙ ap (λ (es : List Entry). map f (pairs block es)) behind ∙ map-append f (pairs_of block e later) (pairs block later),
    )

pub enough : {X : Type 0} (f : Pair → X) (block i n : ℕ) (log : List Entry) (e : Entry) (left : List X) → i < length log
    → e ≡ get_or log i e → left ≡ map f (pairs block (drop i log)) → n ≡ length (parts_of e.item) → n ≤ length left
enough {X} f block i n log e left lt at is count =
    let both = in_two f block i n log e left lt at is count in
    let len : length left ≡ length (map f (pairs_of block e (drop (i + 1) log))) + length (map f (pairs block (drop (i + 1) log))) =
    ap (λ (xs : List X). length xs) both.1
    ∙ length-append (map f (pairs_of block e (drop (i + 1) log))) (map f (pairs block (drop (i + 1) log))) in
    omega (arith, len, both.0)

pub divided : {X : Type 0} (f : Pair → X) (block i n : ℕ) (log : List Entry) (e : Entry) (left own rest : List X) → i < length log
    → e ≡ get_or log i e → left ≡ map f (pairs block (drop i log)) → n ≡ length (parts_of e.item) → own ≡ take n left
    → rest ≡ drop n left → Divided f block e (drop (i + 1) log) own rest
divided {X} f block i n log e left own rest lt at is count front back =
    let later : List Entry = drop (i + 1) log in
    let both = in_two f block i n log e left lt at is count in record {
      first = front ∙ ap₂ (λ (m : ℕ) (xs : List X). take m xs) both.0 both.1
          ∙ take-append_seam (map f (pairs_of block e later)) (map f (pairs block later));
      others = back ∙ ap₂ (λ (m : ℕ) (xs : List X). drop m xs) both.0 both.1
          ∙ drop-append_seam (map f (pairs_of block e later)) (map f (pairs block later));
    }
