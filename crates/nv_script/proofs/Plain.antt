-- Plain bytes in front of others.
use Rattle.std.proofs.Common.{◌≡◌, ℕ, zero, suc, ◌+◌, ◌&&◌, Bool, true, false, List, [], ◌∷◌, ◌++◌, take, drop, Option, Some, None, option_map, refl, sym, ap, ◌∙◌, append_assoc, arith}
use Rattle.std.proofs.lemmas.List.{append-nil, take-append-drop}
use Rattle.std.specs.List.{list_all}
use Rattle.nv_script.specs.Words.{is_plain, before, unescaped, unescaped_behind, escaped}
use Rattle.nv_script.proofs.Escapes.{unescaped-plain}

both : (a b : Bool) → (a && b) ≡ true → (a ≡ true) × (b ≡ true)
both true true h = (refl, refl)
both true false h = absurd (cc)
both false b h = absurd (cc)

front_of-suc : (count size : ℕ) (bytes : List ℕ) → take (suc count + size) bytes ≡ take (suc (count + size)) bytes
front_of-suc count size bytes = let same : suc count + size ≡ suc (count + size) = omega arith in ap (λ (n : ℕ). take n bytes) same

front_of-zero : (size : ℕ) (bytes : List ℕ) → take (0 + size) bytes ≡ take size bytes
front_of-zero size bytes = let same : 0 + size ≡ size = omega arith in ap (λ (n : ℕ). take n bytes) same

-- a piece more is plain
pub plain-more : (bytes : List ℕ) (count size : ℕ) → list_all is_plain (take count bytes) ≡ true
    → list_all is_plain (take size (drop count bytes)) ≡ true → list_all is_plain (take (count + size) bytes) ≡ true
plain-more bytes zero size front piece = rw (front_of-zero size bytes) piece
plain-more [] (suc count) size front piece = rw (front_of-suc count size []) refl
plain-more (byte ∷ bytes) (suc count) size front piece =
    let parts = both (is_plain byte) (list_all is_plain (take count bytes)) front in
    rw (front_of-suc count size (byte ∷ bytes), parts.0) (plain-more bytes count size parts.1 piece)

-- plain bytes are printed as they are
escaped-plain : (bytes rest : List ℕ) → list_all is_plain bytes ≡ true → escaped (bytes ++ rest) ≡ bytes ++ escaped rest
escaped-plain [] rest plain = refl
escaped-plain (byte ∷ bytes) rest plain =
    let parts = both (is_plain byte) (list_all is_plain bytes) plain in
    rw parts.0 (ap (λ (text : List ℕ). byte ∷ text) (escaped-plain bytes rest parts.1))

before-front : (byte : ℕ) (bytes : List ℕ) (more : Option (List ℕ))
    → before (Some byte) (option_map (λ rest. bytes ++ rest) more) ≡ option_map (λ rest. (byte ∷ bytes) ++ rest) more
before-front byte bytes None = refl
before-front byte bytes (Some rest) = refl

nothing-front : (more : Option (List ℕ)) → more ≡ option_map (λ rest. [] ++ rest) more
nothing-front None = refl
nothing-front (Some rest) = refl

-- plain bytes stand for themselves
unescaped-front : (bytes rest : List ℕ) → list_all is_plain bytes ≡ true → unescaped (bytes ++ rest) ≡ unescaped_behind bytes rest
unescaped-front [] rest plain = nothing-front (unescaped rest)
unescaped-front (byte ∷ bytes) rest plain =
    let parts = both (is_plain byte) (list_all is_plain bytes) plain in
    unescaped-plain byte (bytes ++ rest) parts.0 ∙ ap (before (Some byte)) (unescaped-front bytes rest parts.1)
    ∙ before-front byte bytes (unescaped rest)

both_fronts : (front plain : List ℕ) (more : Option (List ℕ))
    → option_map (λ m. (front ++ plain) ++ m) more ≡ option_map (λ m. front ++ m) (option_map (λ m. plain ++ m) more)
both_fronts front plain None = refl
both_fronts front plain (Some more) = ap (λ (text : List ℕ). Some text) (append_assoc front plain more)

-- plain bytes in front are printed as they are
pub printed-plain : (bytes front : List ℕ) (count : ℕ) → list_all is_plain (take count bytes) ≡ true
    → (front ++ take count bytes) ++ escaped (drop count bytes) ≡ front ++ escaped bytes
printed-plain bytes front count plain =
    append_assoc front (take count bytes) (escaped (drop count bytes))
    ∙ ap (λ (text : List ℕ). front ++ text) (sym (escaped-plain (take count bytes) (drop count bytes) plain)
    ∙ ap escaped (take-append-drop count bytes))

-- and read as they are
pub read-plain : (bytes front : List ℕ) (count : ℕ) → list_all is_plain (take count bytes) ≡ true
    → unescaped_behind (front ++ take count bytes) (drop count bytes) ≡ unescaped_behind front bytes
read-plain bytes front count plain =
    both_fronts front (take count bytes) (unescaped (drop count bytes))
    ∙ ap (λ (more : Option (List ℕ)). option_map (λ m. front ++ m) more)
    (sym (unescaped-front (take count bytes) (drop count bytes) plain) ∙ ap unescaped (take-append-drop count bytes))

-- plain bytes alone stand for themselves
pub unescaped-whole : (bytes : List ℕ) → list_all is_plain bytes ≡ true → unescaped_behind [] bytes ≡ Some bytes
unescaped-whole bytes plain =
    sym (nothing-front (unescaped bytes)) ∙ ap unescaped (sym (append-nil bytes)) ∙ unescaped-front bytes [] plain
    ∙ ap (λ (text : List ℕ). Some text) (append-nil bytes)

-- and are printed as they are
pub escaped-whole : (bytes : List ℕ) → list_all is_plain bytes ≡ true → escaped bytes ≡ bytes
escaped-whole bytes plain = ap escaped (sym (append-nil bytes)) ∙ escaped-plain bytes [] plain ∙ append-nil bytes
