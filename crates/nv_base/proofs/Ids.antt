-- Laws of the order of entry ids.
use Rattle.std.proofs.Common.{◌≡◌, ◌<◌, ℕ, false, ◌⊎◌, inl, inr, arith, ap, sym, ◌∙◌, Decides}
use Rattle.std.proofs.lemmas.Bool.{cases_order}
use Rattle.std.proofs.lemmas.Bool.Decides.{nat_tests, Decides-and, Decides-eqb, Decides-like, Decides-ltb, Decides-or}
use Rattle.nv_base.specs.declared.numbers.EntryId.{EntryId}
use Rattle.nv_base.specs.Ids.{AreIdsOrdered, IsIdBefore, is_id_before, is_same_id}

-- ids with one commit and one place are one
pub same_from_parts : (a b : EntryId) → a.commit ≡ b.commit → a.place ≡ b.place → a ≡ b
same_from_parts a b commit place =
    let id : ℕ → ℕ → EntryId = λ c p. record { commit = c; place = p } in
    ap (λ c. id c a.place) commit ∙ ap (λ p. id b.commit p) place

-- of two ids the one stands before the other, or they are one
pub cases_id : (a b : EntryId) → IsIdBefore a b ⊎ (a ≡ b) ⊎ IsIdBefore b a
cases_id a b = commits (cases_order a.commit b.commit) where
  places : a.commit ≡ b.commit → (a.place ≡ b.place) ⊎ ((a.place < b.place) ⊎ (b.place < a.place)) → IsIdBefore a b ⊎ (a ≡ b)
      ⊎ IsIdBefore b a
  places same (inl e) = inr (inl (same_from_parts a b same e))
  places same (inr (inl lt)) = inl (inr (same, lt))
  places same (inr (inr gt)) = inr (inr (inr (sym same, gt)))

  commits : (a.commit ≡ b.commit) ⊎ ((a.commit < b.commit) ⊎ (b.commit < a.commit)) → IsIdBefore a b ⊎ (a ≡ b) ⊎ IsIdBefore b a
  commits (inl e) = places e (cases_order a.place b.place)
  commits (inr (inl lt)) = inl (inl lt)
  commits (inr (inr gt)) = inr (inr (inl gt))

pub before-irrefl : (a : EntryId) → IsIdBefore a a → ⊥
before-irrefl a (inl p) = omega arith
before-irrefl a (inr p) = omega arith

pub before-trans : (a b c : EntryId) → IsIdBefore a b → IsIdBefore b c → IsIdBefore a c
before-trans a b c (inl p) (inl q) = inl (omega arith)
before-trans a b c (inl p) (inr q) = inl (omega arith)
before-trans a b c (inr p) (inl q) = inl (omega arith)
before-trans a b c (inr p) (inr q) = inr (omega arith, omega arith)

-- the tests decide the relations
pub Decides-before : (a b : EntryId) → Decides (is_id_before a b) (IsIdBefore a b)
Decides-before a b =
    Decides-or _ _ (Decides-ltb a.commit b.commit) (Decides-and _ _ (Decides-eqb a.commit b.commit) (Decides-ltb a.place b.place))

pub Decides-same : (a b : EntryId) → Decides (is_same_id a b) (a ≡ b)
Decides-same a b =
    Decides-like _ (λ parts. same_from_parts a b parts.0 parts.1)
    (λ e. (ap (λ (id : EntryId). id.commit) e, ap (λ (id : EntryId). id.place) e))
    (Decides-and _ _ (Decides-eqb a.commit b.commit) (Decides-eqb a.place b.place))

-- an id before another is not the same
pub before-same : (a b : EntryId) → IsIdBefore a b → is_same_id a b ≡ false
before-same a b (inl p) = grind (arith, nat_tests)
before-same a b (inr p) = grind (arith, nat_tests)

pub ordered : AreIdsOrdered
ordered = record {
  some_order = cases_id;
  not_itself = before-irrefl;
  along = before-trans;
  before = λ a b. Decides-before a b;
  same = λ a b. Decides-same a b;
}
