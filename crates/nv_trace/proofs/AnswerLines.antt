-- The lines of an answer, each told for itself.
use Rattle.std.proofs.Common.{◌≡◌, ◌+◌, ◌-◌, ◌++◌, ℕ, Option, Some, None, List, [], ◌∷◌, Result, Ok, Err, length, take, drop, get_or, sym, subst, ap, append-nil, append_assoc, ◌∙◌, arith, false}
use Rattle.std.proofs.lemmas.Bool.{false_from_ne_true}
use Rattle.std.proofs.lemmas.List.{length-drop, take_all}
use Rattle.std.proofs.lemmas.List.Elements.{All-from_get_or}
use Rattle.std.proofs.lemmas.List.Splits.{slice_split_first, slice_split_none}
use Rattle.std.specs.Prelude.{OnOk, if◌then◌else◌, is_ok}
use Rattle.std.specs.List.{flat_map}
use Rattle.std.proofs.lemmas.List.Concat.{flat_map-cons}
use Rattle.memchr.specs.Find.{IsFirstByte, is_byte}
use Rattle.nv_script.specs.Json.{answer_line, answer_lines}
use Rattle.nv_script.specs.Words.{lines_of}
use Rattle.nv_script.proofs.Firsts.{first-of}

-- the lines before and behind the first line end
pub lines-at : (bytes : List ℕ) (at : ℕ) → IsFirstByte (is_byte 10) bytes (Some at)
    → lines_of bytes ≡ take at bytes ∷ lines_of (drop (at + 1) bytes)
lines-at bytes at first =
    let place = first-of (is_byte 10) bytes (Some at) first in
    slice_split_first (is_byte 10) bytes 0 (omega (arith, place, first.0.high))
    ∙ ap (λ (n : ℕ). take n bytes ∷ lines_of (drop (n + 1) bytes)) place

-- without a line end there is one
pub line-alone : (bytes : List ℕ) → IsFirstByte (is_byte 10) bytes None → lines_of bytes ≡ bytes ∷ []
line-alone bytes none =
    slice_split_none (is_byte 10) bytes
    (All-from_get_or (λ x. is_byte 10 x ≡ false) bytes 0
    (λ k within. false_from_ne_true (is_byte 10 (get_or bytes k 0)) (none k (omega arith) within)))

-- one line more is told before a line end
pub lines-more : (number : ℕ) (rest out more whole : List ℕ) (at : ℕ) (result : Option ℕ) → IsFirstByte (is_byte 10) rest result
    → result ≡ Some at → more ≡ out ++ answer_line number (take at rest) → out ++ answer_lines number rest ≡ whole
    → more ++ answer_lines number (take (length rest - (at + 1)) (drop (at + 1) rest)) ≡ whole
lines-more number rest out more whole at result first is told before =
    let left : take (length rest - (at + 1)) (drop (at + 1) rest) ≡ drop (at + 1) rest =
    take_all (length rest - (at + 1)) (drop (at + 1) rest) (omega (arith, length-drop (at + 1) rest)) in
    ap (λ (bytes : List ℕ). more ++ answer_lines number bytes) left
    ∙ ap (λ (bytes : List ℕ). bytes ++ answer_lines number (drop (at + 1) rest)) told
    ∙ append_assoc out (answer_line number (take at rest)) (answer_lines number (drop (at + 1) rest))
    ∙ ap (λ (bytes : List ℕ). out ++ bytes)
    (sym (flat_map-cons (answer_line number) (take at rest) (lines_of (drop (at + 1) rest)))
    ∙ sym (ap (λ (lines : List (List ℕ)). flat_map (answer_line number) lines)
    (lines-at rest at (subst (IsFirstByte (is_byte 10) rest) is first))))
    ∙ before

-- and what stands behind the last one
pub lines-end : (number : ℕ) (rest out more whole : List ℕ) (result : Option ℕ) → IsFirstByte (is_byte 10) rest result
    → result ≡ None → more ≡ out ++ answer_line number rest → out ++ answer_lines number rest ≡ whole → more ≡ whole
lines-end number rest out more whole result first is told before =
    told
    ∙ ap (λ (bytes : List ℕ). out ++ bytes)
    (sym (append-nil (answer_line number rest))
    ∙ sym (ap (λ (lines : List (List ℕ)). flat_map (answer_line number) lines)
    (line-alone rest (subst (IsFirstByte (is_byte 10) rest) is first))))
    ∙ before

-- what holds where it went well follows from what did
pub on_ok : {T E : Type 0} {P Q : Type 0} (result : Result T E) → (P → Q) → OnOk result P → OnOk result Q
on_ok (Ok done) to is = to is
on_ok (Err why) to is = tt

-- and so does what holds for each of many
pub on_ok_each : {T E M : Type 0} (Q R : M → Type 0) (result : Result T E) → ((m : M) → Q m → OnOk result (R m))
    → OnOk result ((m : M) → Q m → R m)
on_ok_each Q R (Ok done) each = each
on_ok_each Q R (Err why) each = tt

-- and what follows from a slice that was pushed
pub on_pushed : {T E : Type 0} {Q : Type 0} (result : Result T E) (new whole old : List ℕ)
    → new ≡ (if is_ok result then whole else old) → (new ≡ whole → Q) → OnOk result Q
on_pushed (Ok done) new whole old is to = to is
on_pushed (Err why) new whole old is to = tt
