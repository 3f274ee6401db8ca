-- A line grows at its end, and so do lines.
use Rattle.std.proofs.Common.{◌≡◌, ◌≢◌, ℕ, zero, suc, List, [], ◌∷◌, ◌++◌, refl, sym, ap, ◌∙◌, append_assoc, append-nil, arith}
use Rattle.std.specs.List.{Contains}
use Rattle.nv_script.specs.Lines.{HasNoEnd, ended}

pub HasNoEnd-push : (bytes : List ℕ) (byte : ℕ) → HasNoEnd bytes → byte ≢ 10 → HasNoEnd (bytes ++ byte ∷ [])
HasNoEnd-push [] byte clean other = (other, tt)
HasNoEnd-push (first ∷ bytes) byte clean other = (clean.0, HasNoEnd-push bytes byte clean.1 other)

pub HasNoEnd-append : (bytes more : List ℕ) → HasNoEnd bytes → HasNoEnd more → HasNoEnd (bytes ++ more)
HasNoEnd-append [] more clean next = next
HasNoEnd-append (first ∷ bytes) more clean next = (clean.0, HasNoEnd-append bytes more clean.1 next)

-- no line end stands among bytes behind which a line goes on
pub HasNoEnd-none : (line bytes : List ℕ) → HasNoEnd (line ++ bytes) → Contains bytes 10 → ⊥
HasNoEnd-none [] [] clean (place, inside, is) = omega (arith, inside)
HasNoEnd-none [] (byte ∷ bytes) clean (zero, inside, is) = clean.0 is
HasNoEnd-none [] (byte ∷ bytes) clean (suc place, inside, is) =
    HasNoEnd-none [] bytes clean.1 (place, omega (arith, inside), is)
HasNoEnd-none (first ∷ line) bytes clean has = HasNoEnd-none line bytes clean.1 has

pub ended-append : (lines more : List (List ℕ)) → ended (lines ++ more) ≡ ended lines ++ ended more
ended-append [] more = refl
ended-append (first ∷ lines) more =
    ap (λ bytes. (first ++ 10 ∷ []) ++ bytes) (ended-append lines more) ∙ sym (append_assoc (first ++ 10 ∷ []) (ended lines) (ended more))

pub ended-push : (lines : List (List ℕ)) (line : List ℕ) → ended (lines ++ line ∷ []) ≡ ended lines ++ (line ++ 10 ∷ [])
ended-push lines line = ended-append lines (line ∷ []) ∙ ap (λ bytes. ended lines ++ bytes) (append-nil (line ++ 10 ∷ []))
