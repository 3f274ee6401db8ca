-- What is known where the next line was taken, or none to play.
use Rattle.std.proofs.Common.{◌≡◌, ◌≢◌, ℕ, ◌<◌, ◌≤◌, ◌⊎◌, inl, inr, Bool, true, false, List, [], ◌∷◌, ◌++◌, Option, Some, None, IfSome, Result, Ok, Err, refl, sym, ap, ◌∙◌, append-nil}
use Rattle.std.proofs.lemmas.Bool.{cases_lt, le-ltb, lt-ltb}
use Rattle.std.specs.Io.KnownBytes.{Consumes, IsAtEnd}
use Rattle.nv_base.specs.declared.fault.Fault.{Fault}
use Rattle.nv_base.specs.declared.fault.Fault.TheVariants as fault
use Rattle.nv_base.specs.declared.fault.ScriptFaultKind.{ScriptFaultKind}
use Rattle.nv_base.specs.declared.fault.ScriptFaultKind.TheVariants as kind
use Rattle.nv_script.specs.declared.feed.LineResult.{LineResult}
use Rattle.nv_script.specs.declared.feed.LineResult.TheVariants as taken
use Rattle.nv_script.specs.Lines.{IsLine, LineResultIs, ended}
use Rattle.nv_script.specs.Play.{IsFaultBy, most_lines}
use Rattle.nv_script.specs.Results.{is_line, within_lines}

pub if_same : (input : Option (List ℕ)) (u v : List ℕ) → u ≡ v → IfSome input (λ bytes. bytes ≡ u) → IfSome input (λ bytes. bytes ≡ v)
if_same None u v same is = tt
if_same (Some bytes) u v same is = is ∙ same

-- the input begins with the lines and goes on with a piece
pub cut : (input known after : Option (List ℕ)) (lines : List (List ℕ)) (piece : List ℕ) → Consumes input known (ended lines)
    → Consumes known after piece
    → (rest : List ℕ) × IfSome input (λ bytes. bytes ≡ ended lines ++ (piece ++ rest))
cut None known after lines piece first then_ = ([], tt)
cut (Some u) None after lines piece first then_ = absurd first
cut (Some u) (Some v) None lines piece first then_ = absurd then_
cut (Some u) (Some v) (Some w) lines piece first then_ = (w, first ∙ ap (λ bytes. ended lines ++ bytes) then_)

-- the input is the lines and a last piece
pub cut_end : (input known after : Option (List ℕ)) (lines : List (List ℕ)) (piece : List ℕ) → Consumes input known (ended lines)
    → Consumes known after piece → IsAtEnd after
    → IfSome input (λ bytes. bytes ≡ ended lines ++ piece)
cut_end None known after lines piece first then_ end = tt
cut_end (Some u) None after lines piece first then_ end = absurd first
cut_end (Some u) (Some v) None lines piece first then_ end = absurd then_
cut_end (Some u) (Some v) (Some w) lines piece first then_ end =
    first ∙ ap (λ bytes. ended lines ++ bytes) (then_ ∙ ap (λ bytes. piece ++ bytes) end ∙ append-nil piece)

-- a fault of a line that is past the last, and of one that is not
past : (Fails : List ℕ → ScriptFaultKind → Type 0) (number : ℕ) (bytes : List ℕ) → most_lines < number → bytes ≢ []
    → IsFaultBy Fails number bytes kind.Lines
past Fails number bytes many some = rw (lt-ltb most_lines number many) (refl, some)

pub within : (Fails : List ℕ → ScriptFaultKind → Type 0) (number : ℕ) (bytes : List ℕ) (why : ScriptFaultKind) → number ≤ most_lines
    → IsFaultBy Fails 0 bytes why → IsFaultBy Fails number bytes why
within Fails number bytes why few is = rw (le-ltb most_lines number few) is

-- what past the last line is answered, and what before it
answered : (number : ℕ) (answer told : Result Bool Fault) → within_lines number answer ≡ told
    → ((most_lines < number) × (told ≡ Err (fault.ScriptFault kind.Lines number))) ⊎ ((number ≤ most_lines) × (told ≡ answer))
answered number answer told is =
    elim (cases_lt most_lines number) [
      | inl many ↦ inl (many, sym (rw (lt-ltb most_lines number many) at is))
      | inr few ↦ inr (few, sym (rw (le-ltb most_lines number few) at is))
    ]

-- a line to play was taken, within the last
pub line_taken : (number : ℕ) (t : LineResult) (known after : Option (List ℕ)) (line : List ℕ) → is_line number t ≡ Ok true
    → LineResultIs t known after line → LineResultIs taken.Line known after line × (number ≤ most_lines)
line_taken number taken.End known after line is took = cc
line_taken number taken.Line known after line is took =
    elim (answered number _ _ is) [ inl many ↦ (let e = many.1 in cc) | inr few ↦ (took, few.0) ]
line_taken number taken.Long known after line is took =
    elim (answered number _ _ is) [ inl many ↦ (let e = many.1 in cc) | inr few ↦ (let e = few.1 in cc) ]
line_taken number taken.Unended known after line is took =
    elim (answered number _ _ is) [ inl many ↦ (let e = many.1 in cc) | inr few ↦ (let e = few.1 in cc) ]

-- nothing was taken at the end
pub end_taken : (number : ℕ) (t : LineResult) (known after : Option (List ℕ)) (line : List ℕ) → is_line number t ≡ Ok false
    → LineResultIs t known after line → LineResultIs taken.End known after line
end_taken number taken.End known after line is took = took
end_taken number taken.Line known after line is took =
    elim (answered number _ _ is) [ inl many ↦ (let e = many.1 in cc) | inr few ↦ (let e = few.1 in cc) ]
end_taken number taken.Long known after line is took =
    elim (answered number _ _ is) [ inl many ↦ (let e = many.1 in cc) | inr few ↦ (let e = few.1 in cc) ]
end_taken number taken.Unended known after line is took =
    elim (answered number _ _ is) [ inl many ↦ (let e = many.1 in cc) | inr few ↦ (let e = few.1 in cc) ]

some_after : (bytes rest : List ℕ) → bytes ≢ [] → bytes ++ rest ≢ []
some_after [] rest some is = some refl
some_after (first ∷ bytes) rest some is = cc

some_with : (bytes : List ℕ) (byte : ℕ) → bytes ++ byte ∷ [] ≢ []
some_with [] byte is = cc
some_with (first ∷ bytes) byte is = cc

-- no line to play was taken behind some lines: why, and the fault of what is left, as lines can have it
pub record NoLine (Fails : List ℕ → ScriptFaultKind → Type 0) (why : Fault) (input : Option (List ℕ)) (lines : List (List ℕ)) (number : ℕ)
    : Type 0 where
  pub kind_is : ScriptFaultKind
  pub rest : List ℕ
  pub why_is : why ≡ fault.ScriptFault kind_is number
  pub split : IfSome input (λ bytes. bytes ≡ ended lines ++ rest)
  pub is : IsFaultBy Fails number rest kind_is

module _ (Fails : List ℕ → ScriptFaultKind → Type 0) (input known : Option (List ℕ)) (lines : List (List ℕ)) (number : ℕ)
    (first : Consumes input known (ended lines)) where
  faulty : (why : Fault) (after : Option (List ℕ)) (piece : List ℕ) (which : ScriptFaultKind) → why ≡ fault.ScriptFault which number
      → Consumes known after piece
      → ((rest : List ℕ) → IsFaultBy Fails number (piece ++ rest) which) → NoLine Fails why input lines number
  faulty why after piece which same more is =
      let c = cut input known after lines piece first more in
      record { kind_is = which; rest = piece ++ c.0; why_is = same; split = c.1; is = is c.0 }

  too_many : (why : Fault) (after : Option (List ℕ)) (piece : List ℕ) → most_lines < number
      → ◌≡◌ {A = Result Bool Fault} (Err why) (Err (fault.ScriptFault kind.Lines number)) → piece ≢ [] → Consumes known after piece
      → NoLine Fails why input lines number
  too_many why after piece many same some more =
      let e : why ≡ fault.ScriptFault kind.Lines number = cc in
      faulty why after piece kind.Lines e more (λ rest. past Fails number (piece ++ rest) many (some_after piece rest some))

  pub no_line : (t : LineResult) (why : Fault) (after : Option (List ℕ)) (line : List ℕ) → is_line number t ≡ Err why → IsLine line
      → LineResultIs t known after line → NoLine Fails why input lines number
  no_line taken.End why after line is lawful took = cc
  no_line taken.Line why after line is lawful took =
      elim (answered number _ _ is) [
        | inl many ↦ too_many why after (line ++ 10 ∷ []) many.0 many.1 (some_with line 10) took
        | inr inside ↦ (let e = inside.1 in cc)
      ]
  no_line taken.Long why after line is lawful took =
      elim (answered number _ _ is) [
        | inl many ↦ too_many why after (line ++ took.0 ∷ []) many.0 many.1 (some_with line took.0) took.1
        | inr inside ↦
            let same = inside.1 in
            let e : why ≡ fault.ScriptFault kind.Long number = cc in
            faulty why after (line ++ took.0 ∷ []) kind.Long e took.1
            (λ rest. within Fails number _ kind.Long inside.0 (inl (refl, (line, rest, took.0, lawful, took.3, took.2, refl))))
      ]
  no_line taken.Unended why after line is lawful took =
      elim (answered number _ _ is) [
        | inl many ↦ too_many why after line many.0 many.1 took.2 took.0
        | inr inside ↦
            let same = inside.1 in
            let e : why ≡ fault.ScriptFault kind.Unended number = cc in
            record {
              kind_is = kind.Unended;
              rest = line;
              why_is = e;
              split = cut_end input known after lines line first took.0 took.1;
              is = within Fails number line kind.Unended inside.0 (inr (inl (refl, (lawful, took.2))));
            }
      ]
