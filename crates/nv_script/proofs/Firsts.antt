-- The first place of a byte among many.
use Rattle.std.proofs.Common.{◌≡◌, ◌≢◌, ◌<◌, ◌+◌, ◌-◌, ◌==◌, ◌++◌, not, ℕ, Bool, Option, Some, None, unwrap_or, true, false, cond, List, [], ◌∷◌, length, take, drop, map, get_or, suc, refl, sym, subst, ap, append_assoc, ◌∙◌, arith}
use Rattle.std.specs.List.{position_or_len}
use Rattle.std.proofs.lemmas.Bool.{false_from_ne_true}
use Rattle.std.proofs.lemmas.Bool.Decides.{nat_tests}
use Rattle.std.proofs.lemmas.List.{length-drop, map-append, take_all}
use Rattle.std.proofs.lemmas.List.Elements.{All-from_get_or}
use Rattle.std.proofs.lemmas.List.Splits.{slice_split_first, slice_split_none}
use Rattle.std.proofs.lemmas.List.Sums.{position_or_len_is}
use Rattle.memchr.specs.Find.{IsFirstByte, is_byte}
use Rattle.nv_script.specs.Lines.{EndsLine, HasNoEnd}
use Rattle.nv_script.specs.Words.{words_of}

-- the place that a search finds, or the end, as a number
pub first-of : (test : ℕ → Bool) (bytes : List ℕ) (found : Option ℕ) → IsFirstByte test bytes found
    → position_or_len test bytes ≡ unwrap_or found (length bytes)
first-of test bytes (Some at) first =
    position_or_len_is test bytes at 0 (omega (arith, first.0.high))
    (λ k before. false_from_ne_true (test (get_or bytes k 0)) (first.0.before k (omega arith) before)) (λ within. first.1)
first-of test bytes None none =
    position_or_len_is test bytes (length bytes) 0 (omega arith)
    (λ k before. false_from_ne_true (test (get_or bytes k 0)) (none k (omega arith) before)) (λ within. absurd (omega arith))

-- the words before and behind the first space
pub words-at : (bytes : List ℕ) (at : ℕ) → IsFirstByte (is_byte 32) bytes (Some at)
    → words_of bytes ≡ take at bytes ∷ words_of (drop (at + 1) bytes)
words-at bytes at first =
    let place = first-of (is_byte 32) bytes (Some at) first in
    slice_split_first (is_byte 32) bytes 0 (omega (arith, place, first.0.high))
    ∙ ap (λ (n : ℕ). take n bytes ∷ words_of (drop (n + 1) bytes)) place

-- without a space there is one word
pub word-alone : (bytes : List ℕ) → IsFirstByte (is_byte 32) bytes None → words_of bytes ≡ bytes ∷ []
word-alone bytes none =
    slice_split_none (is_byte 32) bytes
    (All-from_get_or (λ x. is_byte 32 x ≡ false) bytes 0
    (λ k within. false_from_ne_true (is_byte 32 (get_or bytes k 0)) (none k (omega arith) within)))

-- the words found so far, and those of the rest: one more is found before a space
pub words-more : {A : Type 0} (text : A → List ℕ) (line rest : List ℕ) (found more : List A) (word : A) (at : ℕ) (result : Option ℕ)
    → map text found ++ words_of rest ≡ words_of line → IsFirstByte (is_byte 32) rest result → result ≡ Some at → more ≡ found ++ word ∷ []
    → text word ≡ take at rest → map text more ++ words_of (take (length rest - (at + 1)) (drop (at + 1) rest)) ≡ words_of line
words-more text line rest found more word at result before first is pushed same =
    let left : take (length rest - (at + 1)) (drop (at + 1) rest) ≡ drop (at + 1) rest =
    take_all (length rest - (at + 1)) (drop (at + 1) rest) (omega (arith, length-drop (at + 1) rest)) in
    ap (λ (bytes : List ℕ). map text more ++ words_of bytes) left
    ∙ ap (λ items. map text items ++ words_of (drop (at + 1) rest)) pushed
    ∙ ap (λ (words : List (List ℕ)). words ++ words_of (drop (at + 1) rest)) (map-append text found (word ∷ []))
    ∙ append_assoc (map text found) (text word ∷ []) (words_of (drop (at + 1) rest))
    ∙ ap (λ (bytes : List ℕ). map text found ++ bytes ∷ words_of (drop (at + 1) rest)) same
    ∙ ap (λ (words : List (List ℕ)). map text found ++ words) (sym (words-at rest at (subst (IsFirstByte (is_byte 32) rest) is first)))
    ∙ before

-- and without a space the rest is the last
pub words-end : {A : Type 0} (text : A → List ℕ) (line rest : List ℕ) (found more : List A) (word : A) (result : Option ℕ)
    → map text found ++ words_of rest ≡ words_of line → IsFirstByte (is_byte 32) rest result → result ≡ None → more ≡ found ++ word ∷ []
    → text word ≡ rest → map text more ≡ words_of line
words-end text line rest found more word result before first is pushed same =
    ap (map text) pushed ∙ map-append text found (word ∷ [])
    ∙ ap (λ (bytes : List ℕ). map text found ++ bytes ∷ []) same
    ∙ ap (λ (words : List (List ℕ)). map text found ++ words) (sym (word-alone rest (subst (IsFirstByte (is_byte 32) rest) is first)))
    ∙ before

no_end : (byte : ℕ) → (byte == 10) ≡ false → byte ≢ 10
no_end byte other = grind (arith, nat_tests)

-- no line end stands before the first
pub HasNoEnd-before : (bytes : List ℕ) → HasNoEnd (take (position_or_len (λ b. b == 10) bytes) bytes)
HasNoEnd-before [] = tt
HasNoEnd-before (byte ∷ bytes) =
    elim (byte == 10) as (λ b. (byte == 10) ≡ b
    → HasNoEnd (take (cond (not b) (1 + position_or_len (λ c. c == 10) bytes) 0) (byte ∷ bytes))) [
      | true ↦ λ h. tt
      | false ↦ λ h.
          let next : suc (position_or_len (λ c. c == 10) bytes) ≡ 1 + position_or_len (λ c. c == 10) bytes = omega arith in
          subst (λ (n : ℕ). HasNoEnd (take n (byte ∷ bytes))) next (no_end byte h, HasNoEnd-before bytes)
    ] refl

is_end : (byte : ℕ) → is_byte 10 byte ≡ true → byte ≡ 10
is_end byte is = grind (arith, nat_tests)

-- the place behind a line end
pub EndsLine-last : (bytes : List ℕ) (last : ℕ) → last < length bytes → is_byte 10 (get_or bytes last 0) ≡ true → EndsLine bytes (last + 1)
EndsLine-last bytes last within is = λ some.
    let same : last + 1 - 1 ≡ last = omega arith in (omega arith, rw same (is_end (get_or bytes last 0) is))
