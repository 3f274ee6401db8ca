-- Whole lines in front of bytes, and the line behind them.
use Rattle.std.proofs.Common.{◌≡◌, ◌≢◌, ◌==◌, ◌+◌, ◌-◌, ◌<◌, ◌≤◌, ◌⊎◌, ℕ, zero, suc, cond, List, [], ◌∷◌, ◌++◌, length, take, drop, refl, sym, ap, ◌∙◌, inl, inr, append_assoc, append-nil, arith, subst}
use Rattle.std.specs.Prelude.{slice_index}
use Rattle.std.proofs.lemmas.Bool.Decides.{nat_tests}
use Rattle.std.proofs.lemmas.List.{take-append-drop}
use Rattle.std.proofs.lemmas.List.Sums.{sum_by-append}
use Rattle.std.proofs.Math.Seq.{take-suc}
use Rattle.nv_script.specs.Lines.{HasNoEnd, EndsLine}
use Rattle.nv_hints.specs.Recent.{AreLines, IsBehindLine, IsLineOf, Keeps, Window, ends_in}

pub ends_in-append : (a b : List ℕ) → ends_in (a ++ b) ≡ ends_in a + ends_in b
ends_in-append a b = sum_by-append (λ byte. cond (byte == 10) 1 0) a b

-- the bytes up to a line end, with it
with_end : (bytes : List ℕ) (place : ℕ) → place < length bytes → slice_index bytes place ≡ 10
    → take (suc place) bytes ≡ take place bytes ++ 10 ∷ []
with_end bytes place inside is = take-suc bytes place 0 inside ∙ ap (λ (byte : ℕ). take place bytes ++ byte ∷ []) is

-- what stands before a place behind a line end
pub front_is_whole : (bytes : List ℕ) (place : ℕ) → EndsLine bytes place
    → (take place bytes ≡ []) ⊎ ((body : List ℕ) × (take place bytes ≡ body ++ 10 ∷ []))
front_is_whole bytes zero ends = inl refl
front_is_whole bytes (suc place) ends =
    let there = ends (omega arith) in
    let is : slice_index bytes place ≡ 10 = let same : suc place - 1 ≡ place = omega arith in subst (λ (n : ℕ). slice_index bytes n ≡ 10) same there.1 in
    inr (take place bytes, with_end bytes place (omega (arith, there.0)) is)

-- lines behind lines
pub AreLines-append : (a b : List ℕ) (m n : ℕ) → AreLines a m → AreLines b n → AreLines (a ++ b) (m + n)
AreLines-append a b m n (whole, count) (inl none, more) =
    let same : a ++ b ≡ a = ap (λ (c : List ℕ). a ++ c) none ∙ append-nil a in (
      subst (λ (c : List ℕ). (c ≡ []) ⊎ ((body : List ℕ) × (c ≡ body ++ 10 ∷ []))) (sym same) whole,
      omega (arith, ends_in-append a b, count, more),
    )
AreLines-append a b m n (whole, count) (inr (body, is), more) = (
  inr (a ++ body, ap (λ (c : List ℕ). a ++ c) is ∙ sym (append_assoc a body (10 ∷ []))),
  omega (arith, ends_in-append a b, count, more),
)

-- what is kept after one more read
pub Keeps-add : (all bytes : List ℕ) (old new : Window) (whole : ℕ) → Keeps all old → EndsLine old.kept whole
    → new.kept ≡ drop whole old.kept ++ bytes → new.before ≡ old.before + ends_in (take whole old.kept) → Keeps (all ++ bytes) new
Keeps-add all bytes old new whole (front, is, lines) ends kept before =
    let piece = take whole old.kept in
    let rest = drop whole old.kept in
    let parts : all ++ bytes ≡ (front ++ piece) ++ new.kept =
    ap (λ (a : List ℕ). a ++ bytes) is
    ∙ ap (λ (a : List ℕ). (front ++ a) ++ bytes) (sym (take-append-drop whole old.kept))
    ∙ ap (λ (a : List ℕ). a ++ bytes) (sym (append_assoc front piece rest))
    ∙ append_assoc (front ++ piece) rest bytes
    ∙ ap (λ (a : List ℕ). (front ++ piece) ++ a) (sym kept) in (
      front ++ piece,
      parts,
      subst (λ (n : ℕ). AreLines (front ++ piece) n) (sym before)
          (AreLines-append front piece _ _ lines (front_is_whole old.kept whole ends, refl)),
    )

-- all bytes go on with these behind the lines before a number
unfoldable pub IsAtLine : (all rest : List ℕ) → ℕ → Type 0
IsAtLine all rest number = (front : List ℕ) × (lines : ℕ) × (all ≡ front ++ rest) × (number ≡ lines + 1) × AreLines front lines

one_none : (byte : ℕ) → byte ≢ 10 → ends_in (byte ∷ []) ≡ 0
one_none byte other = grind (arith, nat_tests)

ends_in-none : (line : List ℕ) → HasNoEnd line → ends_in line ≡ 0
ends_in-none [] clean = refl
ends_in-none (byte ∷ line) clean = omega (arith, ends_in-append (byte ∷ []) line, one_none byte clean.0, ends_in-none line clean.1)

pub IsAtLine-first : (all : List ℕ) (w : Window) → Keeps all w → IsAtLine all w.kept (w.before + 1)
unfolding IsAtLine
IsAtLine-first all w (front, is, lines) = (front, w.before, is, refl, lines)

-- a line is passed
pub IsAtLine-next : (all rest : List ℕ) (number place : ℕ) → IsAtLine all rest number → place < length rest
    → slice_index rest place ≡ 10 → HasNoEnd (take place rest) → IsAtLine all (drop (place + 1) rest) (number + 1)
unfolding IsAtLine
IsAtLine-next all rest number place (front, lines, is, count, whole) inside end clean =
    let piece = take (suc place) rest in
    let ended = with_end rest place inside end in
    let one : ends_in piece ≡ 1 = ap ends_in ended ∙ ends_in-append (take place rest) (10 ∷ []) ∙ ap (λ (n : ℕ). n + 1) (ends_in-none _ clean) in
    let parts : all ≡ (front ++ piece) ++ drop (place + 1) rest =
    is ∙ ap (λ (a : List ℕ). front ++ a) (sym (take-append-drop (suc place) rest))
    ∙ sym (append_assoc front piece (drop (suc place) rest))
    ∙ (let same : suc place ≡ place + 1 = omega arith in ap (λ (n : ℕ). (front ++ piece) ++ drop n rest) same) in (
      front ++ piece,
      lines + 1,
      parts,
      omega (arith, count),
      AreLines-append front piece lines 1 whole (inr (take place rest, ended), one),
    )

-- what stands behind a line
behind : (rest : List ℕ) (place : ℕ) → place ≤ length rest → (place < length rest → slice_index rest place ≡ 10) → IsBehindLine (drop place rest)
behind [] zero inside end = inl refl
behind [] (suc place) inside end = absurd (omega (arith, inside))
behind (byte ∷ rest) zero inside end = inr (rest, ap (λ (b : ℕ). b ∷ rest) (end (omega arith)))
behind (byte ∷ rest) (suc place) inside end = behind rest place (omega (arith, inside)) (λ more. end (omega (arith, more)))

-- the line that is there
pub IsAtLine-line : (all rest : List ℕ) (number place : ℕ) → IsAtLine all rest number → place ≤ length rest
    → (place < length rest → slice_index rest place ≡ 10) → HasNoEnd (take place rest) → IsLineOf all number (take place rest)
unfolding IsAtLine
IsAtLine-line all rest number place (front, lines, is, count, whole) inside end clean = (
  front,
  drop place rest,
  lines,
  is ∙ ap (λ (a : List ℕ). front ++ a) (sym (take-append-drop place rest)),
  count,
  whole,
  clean,
  behind rest place inside end,
)
