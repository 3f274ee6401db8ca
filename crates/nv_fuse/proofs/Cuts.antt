-- Where names and requests are cut.
use Rattle.std.proofs.Common.{◌≡◌, ℕ, ◌≤◌, Bool, true, false, cond, List, ◌++◌, length, take, drop, Some, None, refl, sym, ap, ◌∙◌, arith}
use Rattle.std.proofs.lemmas.List.{length-take-le, take-append-drop, take_at}
use Rattle.std.specs.List.{position, position_or_len}
use Rattle.byteorder.specs.Numbers.{little_from-append, little_from-take}
use Rattle.nv_fuse.specs.Fields.{field, has_name, is_nul}
use Rattle.nv_fuse.specs.Requests.{IsRequest}

-- what a choice of a place tells
chosen : (b : Bool) (place end : ℕ) → Some end ≡ cond b (Some place) None → (b ≡ true) × (end ≡ place)
chosen true place end e = (refl, cc)
chosen false place end e = let no : ⊥ = cc in absurd no

unchosen : (b : Bool) (place : ℕ) → None ≡ cond b (Some place) None → b ≡ false
unchosen true place e = let no : ⊥ = cc in absurd no
unchosen false place e = refl

-- a zero byte was found
pub found : (bytes : List ℕ) (end : ℕ) → Some end ≡ position is_nul bytes → (has_name bytes ≡ true) × (end ≡ position_or_len is_nul bytes)
found bytes end e = chosen (has_name bytes) (position_or_len is_nul bytes) end e

-- no zero byte was found
pub not_found : (bytes : List ℕ) → None ≡ position is_nul bytes → has_name bytes ≡ false
not_found bytes e = unchosen (has_name bytes) (position_or_len is_nul bytes) e

-- a front of as many bytes as it tells is a request
pub cut_front : (bytes request behind : List ℕ) (n : ℕ) → request ≡ take n bytes → behind ≡ drop n bytes → n ≤ length bytes → 40 ≤ n
    → n ≡ field 0 4 bytes → (request ++ behind ≡ bytes) × IsRequest request
cut_front bytes request behind n front rest within enough told =
    let many : length request ≡ n = ap length front ∙ length-take-le n bytes within in
    let same : field 0 4 request ≡ field 0 4 bytes =
    ap (λ (xs : List ℕ). field 0 4 xs) front ∙ little_from-take 0 4 n bytes (omega arith) in (
      ap (λ (xs : List ℕ). xs ++ behind) front ∙ ap (λ (xs : List ℕ). take n bytes ++ xs) rest ∙ take-append-drop n bytes,
      record { header = omega arith; whole = same ∙ sym told ∙ sym many },
    )

-- of two requests that the same bytes begin with none is longer
pub one_cut : (first second behind rest : List ℕ) → IsRequest first → IsRequest second → first ++ behind ≡ second ++ rest → first ≡ second
one_cut first second behind rest a b e =
    let told : field 0 4 first ≡ field 0 4 second =
    sym (little_from-append 4 first behind (omega (arith, a.header))) ∙ ap (λ (xs : List ℕ). field 0 4 xs) e
    ∙ little_from-append 4 second rest (omega (arith, b.header)) in
    let same : length second ≡ length first = sym b.whole ∙ sym told ∙ a.whole in
    sym (take_at first behind (length first) refl) ∙ ap (λ (xs : List ℕ). take (length first) xs) e
    ∙ take_at second rest (length first) same
