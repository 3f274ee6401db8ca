-- A text that is written up to some place, in turn.
use Rattle.std.proofs.Common.{◌≡◌, ◌<◌, ℕ, ◌-◌, List, [], ◌++◌, length, take, drop, refl, sym, ap, subst, ◌∙◌, append_assoc, append-nil, Option, arith}
use Rattle.std.proofs.KnownBytes.{Appends-nil, Appends-trans}
use Rattle.std.proofs.lemmas.List.{take-append-drop, take_rest}
use Rattle.std.proofs.lemmas.Grind.{common_steps}
use Rattle.std.specs.Io.KnownBytes.{Appends}
use Rattle.nv_script.specs.Lines.{WritesFront, WritesSome}

-- a front of what was left was written too
pub writes_more : (a b c : Option (List ℕ)) (text rest : List ℕ) (count : ℕ) → WritesFront a b text rest → Appends b c (take count rest)
    → WritesFront a c text (take (length rest - count) (drop count rest))
writes_more a b c text rest count front more =
    let same : text ≡ (front.0 ++ take count rest) ++ drop count rest = front.1
    ∙ ap (λ tail. front.0 ++ tail) (sym (take-append-drop count rest))
    ∙ sym (append_assoc front.0 (take count rest) (drop count rest)) in
    rw take_rest (front.0 ++ take count rest, same, Appends-trans a b c front.0 (take count rest) front.2 more)

-- nothing was written, all is left
pub writes_none : (a : Option (List ℕ)) (text : List ℕ) → WritesFront a a text text
writes_none a text = ([], refl, Appends-nil a)

-- all is written, nothing is left
pub writes_all : (a b : Option (List ℕ)) (text : List ℕ) → Appends a b text → WritesFront a b text []
writes_all a b text all = (text, sym (append-nil text), all)

-- the text grew, and so what is left of it
pub writes_grown : (a b : Option (List ℕ)) (text left more : List ℕ) → WritesFront a b text left
    → WritesFront a b (text ++ more) (left ++ more)
writes_grown a b text left more first = (first.0, ap (λ t. t ++ more) first.1 ∙ append_assoc first.0 left more, first.2)

-- more of what was left was written
pub writes_rest : (a b c : Option (List ℕ)) (text left left' : List ℕ) → WritesFront a b text left → WritesFront b c left left'
    → WritesFront a c text left'
writes_rest a b c text left left' first then_ =
    let same : text ≡ (first.0 ++ then_.0) ++ left' = first.1 ∙ ap (λ t. first.0 ++ t) then_.1 ∙ sym (append_assoc first.0 then_.0 left') in
    (first.0 ++ then_.0, same, Appends-trans a b c first.0 then_.0 first.2 then_.2)

-- more was written behind what was left, and of both a front
pub writes_behind : (a b c : Option (List ℕ)) (old head mid text left : List ℕ) → WritesFront a b (old ++ head) mid
    → WritesFront b c (mid ++ text) left → WritesFront a c (old ++ (head ++ text)) left
writes_behind a b c old head mid text left first then_ =
    subst (λ (t : List ℕ). WritesFront a c t left) (append_assoc old head text)
    (writes_rest a b c ((old ++ head) ++ text) (mid ++ text) left (writes_grown a b (old ++ head) mid text first) then_)

-- all that was left was written
pub writes_end : (a b c : Option (List ℕ)) (text left : List ℕ) → WritesFront a b text left → Appends b c left → Appends a c text
writes_end a b c text left first then_ = subst (λ (t : List ℕ). Appends a c t) (sym first.1)
    (Appends-trans a b c first.0 left first.2 then_)

-- some of what was left was written
pub writes_some : (a b c : Option (List ℕ)) (text left : List ℕ) → WritesFront a b text left → WritesSome b c left → WritesSome a c text
writes_some a b c text left first then_ =
    let cut = then_.1 in
    let same : text ≡ (first.0 ++ then_.0) ++ cut.0 = first.1 ∙ ap (λ t. first.0 ++ t) cut.1 ∙ sym (append_assoc first.0 then_.0 cut.0) in
    (first.0 ++ then_.0, (cut.0, same, cut.2), Appends-trans a b c first.0 then_.0 first.2 then_.2)

-- of a longer text too
pub writes_some_of : (a b : Option (List ℕ)) (text more : List ℕ) → WritesSome a b text → WritesSome a b (text ++ more)
writes_some_of a b text more some =
    let cut = some.1 in
    let same : text ++ more ≡ some.0 ++ (cut.0 ++ more) = ap (λ t. t ++ more) cut.1 ∙ append_assoc some.0 cut.0 more in
    (some.0, (cut.0 ++ more, same, longer cut.0 more cut.2), some.2)
  where
    longer : (rest more : List ℕ) → 0 < length rest → 0 < length (rest ++ more)
    longer rest more some = grind (arith, common_steps)

-- the first text was written, and some of the second
pub writes_all_and_some : (a b c : Option (List ℕ)) (text more : List ℕ) → Appends a b text → WritesSome b c more
    → WritesSome a c (text ++ more)
writes_all_and_some a b c text more first then_ =
    let cut = then_.1 in
    let same : text ++ more ≡ (text ++ then_.0) ++ cut.0 = ap (λ t. text ++ t) cut.1 ∙ sym (append_assoc text then_.0 cut.0) in
    (text ++ then_.0, (cut.0, same, cut.2), Appends-trans a b c text then_.0 first then_.2)

-- of what was written behind what was left, a write failed
pub writes_some_behind : (a b c : Option (List ℕ)) (old head mid text : List ℕ) → WritesFront a b (old ++ head) mid
    → WritesSome b c (mid ++ text) → WritesSome a c (old ++ (head ++ text))
writes_some_behind a b c old head mid text first then_ =
    subst (λ (t : List ℕ). WritesSome a c t) (append_assoc old head text)
    (writes_some a b c ((old ++ head) ++ text) (mid ++ text) (writes_grown a b (old ++ head) mid text first) then_)

-- some was written of a text that goes on
pub writes_some_first : (a b : Option (List ℕ)) (old head text : List ℕ) → WritesSome a b (old ++ head) → WritesSome a b (old ++ (head ++ text))
writes_some_first a b old head text some =
    subst (λ (t : List ℕ). WritesSome a b t) (append_assoc old head text) (writes_some_of a b (old ++ head) text some)
