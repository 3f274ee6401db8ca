-- Blocks that go home, and how often each number stands.
use Rattle.std.proofs.Common.{◌≡◌, ℕ, zero, suc, ◌+◌, ◌<◌, ◌≤◌, ◌++◌, Bool, true, false, cond, not, List, [], ◌∷◌, length, filter, take, drop, arith, refl, ap, sym, ◌∙◌, append_assoc, length-drop}
use Rattle.std.proofs.lemmas.Bool.{eq-eqb}
use Rattle.std.proofs.lemmas.List.{map-append, take-append-drop, append-nil}
use Rattle.nv_alloc.specs.Block.{AreSized, BlockValue, number_of, numbers_of, put_block, put_blocks}
use Rattle.nv_alloc.specs.FreeList.{FreeBlocks, is_home}
use Rattle.nv_alloc.specs.Giving.{after_giving, after_offer, not_taken, takes}
use Rattle.nv_alloc.specs.Numbers.{has, times}
use Rattle.nv_alloc.proofs.Lists.{times-append, times-cons, times-put_by, has-times}

pub times-blocks : (n : ℕ) (xs ys : List BlockValue) → times n (numbers_of (xs ++ ys)) ≡ times n (numbers_of xs) + times n (numbers_of ys)
times-blocks n xs ys = ap (times n) (map-append number_of xs ys) ∙ times-append n (numbers_of xs) (numbers_of ys)

-- blocks that move from a list to the end of a queue
pub times-taken : (n k : ℕ) (queue list : List BlockValue)
    → times n (numbers_of (queue ++ take k list)) + times n (numbers_of (drop k list)) ≡ times n (numbers_of queue) + times n
    (numbers_of list)
times-taken n k queue list =
    let both = sym (times-blocks n (take k list) (drop k list)) ∙ ap (λ ys. times n (numbers_of ys)) (take-append-drop k list) in
    omega (arith, times-blocks n queue (take k list), both)

-- a block that is offered to a list
times-offered : (n : ℕ) (list : FreeBlocks) (b : BlockValue) (rest : List BlockValue)
    → times n (numbers_of ((cond (takes list b) [] (b ∷ [])) ++ rest)) + times n (numbers_of (after_offer list b).blocks) ≡ times n
    (numbers_of rest) + times n (b.number ∷ numbers_of list.blocks)
times-offered n list b rest = go (takes list b) where
  go : (t : Bool)
      → times n (numbers_of ((cond t [] (b ∷ [])) ++ rest)) + times n (numbers_of (cond t
      (record list { blocks = put_block b list.blocks }) list).blocks) ≡ times n (numbers_of rest) + times n
      (b.number ∷ numbers_of list.blocks)
  go true = let put : times n (numbers_of (put_block b list.blocks)) ≡ times n
      (b.number ∷ numbers_of list.blocks) = times-put_by number_of n b list.blocks in omega (arith, put)
  go false = omega (arith, times-cons n b.number (numbers_of rest), times-cons n b.number (numbers_of list.blocks))

pub times-given : (n : ℕ) (list : FreeBlocks) (bs : List BlockValue)
    → times n (numbers_of (not_taken list bs)) + times n (numbers_of (after_giving list bs).blocks) ≡ times n (numbers_of bs) + times n
    (numbers_of list.blocks)
times-given n list [] = refl
times-given n list (b ∷ bs) =
    let rest = times-given n (after_offer list b) bs in
    let offered = times-offered n list b (not_taken (after_offer list b) bs) in
    omega (arith, rest, offered, times-cons n b.number (numbers_of bs), times-cons n b.number (numbers_of list.blocks))

-- ---- one more block of those that are offered

pub after_giving-append : (list : FreeBlocks) (bs cs : List BlockValue)
    → after_giving list (bs ++ cs) ≡ after_giving (after_giving list bs) cs
after_giving-append list [] cs = refl
after_giving-append list (b ∷ bs) cs = after_giving-append (after_offer list b) bs cs

pub kept_of-append : (list : FreeBlocks) (bs cs : List BlockValue)
    → not_taken list (bs ++ cs) ≡ not_taken list bs ++ not_taken (after_giving list bs) cs
kept_of-append list [] cs = refl
kept_of-append list (b ∷ bs) cs =
    let first = cond (takes list b) [] (b ∷ []) in
    ap (λ xs. first ++ xs) (kept_of-append (after_offer list b) bs cs)
    ∙ sym (append_assoc first (not_taken (after_offer list b) bs) (not_taken (after_giving (after_offer list b) bs) cs))

-- one more item of a list
pub cut_more : {X : Type 0} (k : ℕ) (xs : List X) (b : X) (rest : List X) → drop k xs ≡ b ∷ rest
    → (drop (k + 1) xs ≡ rest) × (take (k + 1) xs ≡ take k xs ++ b ∷ [])
cut_more zero [] b rest e = cc
cut_more zero (x ∷ xs) b rest e = (cc, cc)
cut_more (suc k) [] b rest e = cc
cut_more (suc k) (x ∷ xs) b rest e =
    let ih = cut_more k xs b rest e in
    let n : suc k + 1 ≡ suc (k + 1) = omega arith in
    rw n (ih.0, ap (λ ys. x ∷ ys) ih.1)

-- the blocks from `at` on are still to be offered, and those before were offered
pub record IsUnderway (all : List BlockValue) (old now : FreeBlocks) (left : List BlockValue) (at : ℕ) : Type 0 where
  pub items : left ≡ drop at all ++ not_taken old (take at all)
  pub given : now ≡ after_giving old (take at all)

-- what is left after one more was offered
pub underway : (all : List BlockValue) (old now : FreeBlocks) (left rest : List BlockValue) (at : ℕ) (b : BlockValue) → at < length all
    → IsUnderway all old now left at → left ≡ b ∷ rest
    → IsUnderway all old (after_offer now b) (rest ++ cond (takes now b) [] (b ∷ [])) (at + 1)
underway all old now left rest at b lt u e = go (drop at all) refl where
  go : (xs : List BlockValue) → drop at all ≡ xs → IsUnderway all old (after_offer now b) (rest ++ cond (takes now b) [] (b ∷ [])) (at + 1)
  go [] q = absurd (omega (arith, ap length q, length-drop at all))
  go (x ∷ xs) q =
      let f : x ∷ (xs ++ not_taken old (take at all)) ≡ b ∷ rest = ap (λ ys. ys ++ not_taken old (take at all)) (sym q) ∙ sym u.items ∙ e in
      let first : x ≡ b = cc in
      let behind : rest ≡ xs ++ not_taken old (take at all) = cc in
      let cut = cut_more at all b xs (q ∙ ap (λ y. y ∷ xs) first) in
      let last : not_taken (after_giving old (take at all)) (b ∷ []) ≡ cond (takes now b) [] (b ∷ []) = ap (λ l. not_taken l (b ∷ []))
      (sym u.given) ∙ append-nil (cond (takes now b) [] (b ∷ [])) in
      record {
        items = rw (cut.0, cut.1, kept_of-append old (take at all) (b ∷ []), last, behind) (append_assoc xs (not_taken old (take at all))
            (cond (takes now b) [] (b ∷ [])));
        given = rw (cut.1, after_giving-append old (take at all) (b ∷ [])) (ap (λ l. after_offer l b) u.given);
      }

-- ---- each number once

-- where each number stands once, what is at home goes there, and the rest is kept
pub record GoesHome (list : FreeBlocks) (bs : List BlockValue) : Type 0 where
  pub kept : not_taken list bs ≡ filter (λ b. not (is_home list b.number)) bs
  pub given : after_giving list bs ≡ record list { blocks = put_blocks (filter (λ b. is_home list b.number) bs) list.blocks }

pub goes_home : (list : FreeBlocks) (bs : List BlockValue) → AreSized list.size bs
    → ((n : ℕ) → times n (numbers_of bs) + times n (numbers_of list.blocks) ≤ 1) → GoesHome list bs
goes_home list [] sized once = record { kept = refl; given = refl }
goes_home list (b ∷ bs) sized once = go (is_home list b.number) refl (λ l s o. goes_home l bs s o) where
  one : (n : ℕ) → times n (b.number ∷ []) + times n (numbers_of bs) + times n (numbers_of list.blocks) ≤ 1
  one n = omega (arith, once n, times-cons n b.number (numbers_of bs))

  own : times b.number (b.number ∷ []) ≡ 1
  own = rw (eq-eqb b.number b.number refl) refl

  absent : has (numbers_of list.blocks) b.number ≡ false
  absent = has-times b.number (numbers_of list.blocks) (omega (arith, one b.number, own))

  go : (t : Bool) → is_home list b.number ≡ t
      → ((l : FreeBlocks) → AreSized l.size bs → ((n : ℕ) → times n (numbers_of bs) + times n (numbers_of l.blocks) ≤ 1)
      → GoesHome l bs) → GoesHome list (b ∷ bs)
  go true q ih =
      let test : takes list b ≡ true = rw (q, absent, eq-eqb (length b.bytes) list.size sized.0) refl in
      let put : (n : ℕ) → times n (numbers_of (put_block b list.blocks)) ≡ times n
      (b.number ∷ numbers_of list.blocks) = λ n. times-put_by number_of n b list.blocks in
      let rest = ih (record list { blocks = put_block b list.blocks }) sized.1 (λ n. omega (
        arith,
        one n,
        put n,
        times-cons n b.number
            (numbers_of list.blocks),
      )) in
      record { kept = rw (test, q) rest.kept; given = rw (test, q) rest.given }
  go false q ih =
      let test : takes list b ≡ false = rw q refl in
      let rest = ih list sized.1 (λ n. omega (arith, one n)) in
      record { kept = rw (test, q) (ap (λ xs. b ∷ xs) rest.kept); given = rw (test, q) rest.given }

pub AreSized-kept : (size : ℕ) (list : FreeBlocks) (bs : List BlockValue) → AreSized size bs → AreSized size (not_taken list bs)
AreSized-kept size list [] h = tt
AreSized-kept size list (b ∷ bs) h = go (takes list b) (AreSized-kept size (after_offer list b) bs h.1) where
  go : (t : Bool) → AreSized size (not_taken (after_offer list b) bs) → AreSized size (cond t [] (b ∷ []) ++ not_taken (after_offer list b) bs)
  go true rest = rest
  go false rest = (h.0, rest)
