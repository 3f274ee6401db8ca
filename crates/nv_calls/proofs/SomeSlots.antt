-- The slots of numbers that may be there.
use Rattle.std.proofs.Common.{◌≡◌, ℕ, ◌∙◌, List, [], ◌∷◌, Option, Some, None, ap, refl, sym}
use Rattle.nv_calls.specs.Locked.{slots_in}
use Rattle.nv_calls.specs.SlotList.{all_some, if_some, with_some}

with_if : (inodes : ℕ) (n : Option ℕ) (rest : List ℕ) → slots_in inodes (if_some n rest) ≡ with_some inodes n
    (slots_in inodes rest)
with_if inodes None rest = refl
with_if inodes (Some n) rest = refl

pub with_four : (inodes : ℕ) (a b c d : Option ℕ)
    → slots_in inodes (all_some (a ∷ b ∷ c ∷ d ∷ [])) ≡ with_some inodes a
    (with_some inodes b (with_some inodes c (with_some inodes d [])))
with_four inodes a b c d =
    with_if inodes a (all_some (b ∷ c ∷ d ∷ []))
    ∙ ap (with_some inodes a) (with_if inodes b (all_some (c ∷ d ∷ []))
    ∙ ap (with_some inodes b) (with_if inodes c (all_some (d ∷ [])) ∙ ap (with_some inodes c) (with_if inodes d [])))

pub with_chain : (inodes : ℕ) (r0 r1 r2 r3 r4 : List ℕ) (a b c d : Option ℕ) → r0 ≡ [] → r1 ≡ with_some inodes d r0
    → r2 ≡ with_some inodes c r1
    → r3 ≡ with_some inodes b r2 → r4 ≡ with_some inodes a r3 → r4 ≡ slots_in inodes (all_some (a ∷ b ∷ c ∷ d ∷ []))
with_chain inodes r0 r1 r2 r3 r4 a b c d e0 e1 e2 e3 e4 =
    e4 ∙ ap (with_some inodes a) (e3 ∙ ap (with_some inodes b) (e2 ∙ ap (with_some inodes c) (e1 ∙ ap (with_some inodes d) e0)))
    ∙ sym (with_four inodes a b c d)
