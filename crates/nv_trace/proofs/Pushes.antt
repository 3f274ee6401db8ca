-- Texts that are pushed piece by piece.
use Rattle.std.proofs.Common.{◌≡◌, ◌∙◌, ℕ, List, ◌++◌, ap, append_assoc, sym}
use Rattle.std.specs.Prelude.{decimal}

-- what is pushed behind a text stands behind it
pub behind : {mid whole : List ℕ} (out told next : List ℕ) → mid ≡ out ++ told → whole ≡ mid ++ next → whole ≡ out ++ (told ++ next)
behind out told next before pushed =
    pushed ∙ ap (λ (bytes : List ℕ). bytes ++ next) before ∙ append_assoc out told next

-- and so does a piece that is equal to it
pub piece : (out mid whole told next wanted : List ℕ) → mid ≡ out ++ told → whole ≡ mid ++ next → next ≡ wanted → whole ≡ out ++ (told ++ wanted)
piece out mid whole told next wanted before pushed is =
    pushed ∙ ap (λ (bytes : List ℕ). bytes ++ next) before ∙ append_assoc out told next
    ∙ ap (λ (bytes : List ℕ). out ++ (told ++ bytes)) is

-- so does a number behind its label
pub labelled_piece : (out mid whole told label : List ℕ) (number wanted : ℕ) → mid ≡ out ++ told → whole ≡ mid ++ (label ++ decimal number)
    → number ≡ wanted → whole ≡ out ++ (told ++ label ++ decimal wanted)
labelled_piece out mid whole told label number wanted before pushed is =
    let next : List ℕ = label ++ decimal number in
    let same : next ≡ label ++ decimal wanted = ap (λ (n : ℕ). label ++ decimal n) is in
    piece out mid whole told next (label ++ decimal wanted) before pushed same
    ∙ ap (λ (bytes : List ℕ). out ++ bytes) (sym (append_assoc told label (decimal wanted)))

-- a number behind the first label
pub first_labelled : (out whole label : List ℕ) (number wanted : ℕ) → whole ≡ out ++ (label ++ decimal number) → number ≡ wanted
    → whole ≡ out ++ (label ++ decimal wanted)
first_labelled out whole label number wanted pushed is = pushed ∙ ap (λ (n : ℕ). out ++ (label ++ decimal n)) is
