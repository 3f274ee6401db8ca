-- The faults of an image in the order in which they are told.
use Rattle.std.proofs.Common.{◌≡◌, inl, inr, ℕ, zero, suc, ◌+◌, ◌<◌, ◌≤◌, Bool, true, false, List, [], ◌∷◌, get_or, refl, ap, arith, sym, subst, ◌∙◌}
use Rattle.std.specs.Prelude.{◌↔◌, IsTrue, not}
use Rattle.std.proofs.lemmas.Bool.{cases_lt, false≢true}
use Rattle.nv_base.specs.declared.fault.ImageFault.{ImageFault}
use Rattle.nv_base.specs.declared.fault.ImageFault.TheVariants as fault
use Rattle.nv_audit.specs.Faults.{IsFaultless, IsFirstFault, IsWithout, IsWithoutEarlier, fault_order}
use Rattle.nv_audit.specs.Image.{ImageValue}

abbrev pub in_order : List ImageFault
in_order =
    fault.Geometry ∷ fault.Block ∷ fault.Chain ∷ fault.Entry ∷ fault.Item ∷ fault.Run ∷ fault.Journal ∷ fault.Snaps ∷ []

-- a fault stands at its place
found_back : (f : ImageFault) → get_or in_order (fault_order f) fault.Geometry ≡ f
found_back fault.Geometry = refl
found_back fault.Block = refl
found_back fault.Chain = refl
found_back fault.Entry = refl
found_back fault.Item = refl
found_back fault.Run = refl
found_back fault.Journal = refl
found_back fault.Snaps = refl

same_place : (a b : ImageFault) → fault_order a ≡ fault_order b → a ≡ b
same_place a b e = sym (found_back a) ∙ ap (λ (n : ℕ). get_or in_order n fault.Geometry) e ∙ found_back b

pub place_low : (f : ImageFault) → fault_order f < 8
place_low fault.Geometry = omega arith
place_low fault.Block = omega arith
place_low fault.Chain = omega arith
place_low fault.Entry = omega arith
place_low fault.Item = omega arith
place_low fault.Run = omega arith
place_low fault.Journal = omega arith
place_low fault.Snaps = omega arith

-- the fault at a place
abbrev pub fault_at : ℕ → ImageFault
fault_at i = get_or in_order i fault.Geometry

place_at : (i : ℕ) → i < 8 → fault_order (fault_at i) ≡ i
place_at zero lt = refl
place_at (suc zero) lt = refl
place_at (suc (suc zero)) lt = refl
place_at (suc (suc (suc zero))) lt = refl
place_at (suc (suc (suc (suc zero)))) lt = refl
place_at (suc (suc (suc (suc (suc zero))))) lt = refl
place_at (suc (suc (suc (suc (suc (suc zero)))))) lt = refl
place_at (suc (suc (suc (suc (suc (suc (suc zero))))))) lt = refl
place_at (suc (suc (suc (suc (suc (suc (suc (suc i)))))))) lt = absurd (omega (arith, lt))

module _ (image : ImageValue) (i : ℕ) (lt : i < 8) (before : (earlier : ImageFault) → fault_order earlier < i → IsWithout earlier image) where
  pub none_earlier : IsWithoutEarlier (fault_at i) image
  none_earlier earlier less = before earlier (let is = place_at i lt in omega (arith, less, is))

  module _ (has : Bool) (told : IsTrue (not has) ↔ IsWithout (fault_at i) image) where
    pub none_so_far : has ≡ false → (earlier : ImageFault) → fault_order earlier < i + 1 → IsWithout earlier image
    none_so_far clean earlier less =
        elim (cases_lt (fault_order earlier) i) [
          | inl lower ↦ before earlier lower
          | inr from ↦
              let is = place_at i lt in
              let same : fault_at i ≡ earlier = same_place (fault_at i) earlier (omega (arith, from, less, is)) in
              subst (λ (g : ImageFault). IsWithout g image) same (told.0 (ap not clean))
        ]

    pub the_first : has ≡ true → IsFirstFault (fault_at i) image
    the_first found = record {
      earlier = none_earlier;
      has = λ without. false≢true (sym (ap not found) ∙ told.1 without);
    }

pub none_at_all : (image : ImageValue) (i : ℕ) → 8 ≤ i → ((earlier : ImageFault) → fault_order earlier < i → IsWithout earlier image)
    → IsFaultless image
none_at_all image i past before f = before f (let low = place_low f in omega (arith, low, past))

-- a test that is turned twice
pub told_not : (b : Bool) (P : Type 0) → IsTrue b ↔ P → IsTrue (not (not b)) ↔ P
told_not true P told = told
told_not false P told = told
