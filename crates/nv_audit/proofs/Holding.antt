-- What was born in one epoch has the same holders exactly where it has the same youngest one.
use Rattle.std.proofs.Common.{◌≡◌, ℕ, ◌+◌, ◌<◌, ◌≤◌, Bool, true, false, List, [], ◌∷◌, Option, Some, None, arith, refl, ap, sym, ◌∙◌, get_or}
use Rattle.std.specs.Prelude.{◌↔◌, All, Contains, filter}
use Rattle.std.specs.List.{last_or}
use Rattle.std.proofs.lemmas.Bool.{false≢true}
use Rattle.std.proofs.lemmas.List.Elements.{All-contains_itself, All-tail}
use Rattle.nv_book.specs.declared.record.Record.{Record}
use Rattle.nv_entry.specs.Held.{holds as pair_holds}
use Rattle.nv_entry.specs.declared.held.Pair.{Pair}
use Rattle.nv_epoch.specs.Holders.{IsRising, holds, youngest_holder}
use Rattle.nv_epoch.proofs.HolderLaws.{holds-from_is_held, is_held, youngest_is}
use Rattle.nv_epoch.proofs.Last.{none_passes}
use Rattle.nv_audit.specs.KeptParts.{TellsOf}

module _ (living : List ℕ) (rising : IsRising living) (birth : ℕ) where
  -- a holder of the one is one of the other
  held_too : (d e : ℕ) → youngest_holder living birth d ≡ youngest_holder living birth e → (s : ℕ) → Contains living s
      → holds birth d s ≡ true → holds birth e s ≡ true
  held_too d e same s lives held = go (youngest_holder living birth d) refl where
    go : (o : Option ℕ) → youngest_holder living birth d ≡ o → holds birth e s ≡ true
    go None q = absurd (false≢true (sym ((none_passes (holds birth d) living q).fails s lives) ∙ held))
    go (Some y) q =
        let one = youngest_is living birth d y rising q in
        let two = youngest_is living birth e y rising (sym same ∙ q) in
        let own = is_held birth d s held in
        let below : s ≤ y = one.youngest s lives own in
        let dies : y < e = two.holds_it.not_dead in
        holds-from_is_held birth e s (record { born = own.born; not_dead = omega (arith, below, dies) })

  both_ways : (a b : Bool) → (a ≡ true → b ≡ true) → (b ≡ true → a ≡ true) → a ≡ b
  both_ways true b to back = sym (to refl)
  both_ways false true to back = back refl
  both_ways false false to back = refl

  pub same_holders : (d e : ℕ) → youngest_holder living birth d ≡ youngest_holder living birth e
      → All (λ (s : ℕ). holds birth d s ≡ holds birth e s) living
  same_holders d e same i s lt =
      let lives = All-contains_itself living i s lt in
      both_ways (holds birth d (get_or living i s)) (holds birth e (get_or living i s))
      (held_too d e same (get_or living i s) lives)
      (held_too e d (sym same) (get_or living i s) lives)

-- tests that agree on a list pass the same of it
pub same_passes : (p q : ℕ → Bool) (xs : List ℕ) → All (λ (x : ℕ). p x ≡ q x) xs → filter p xs ≡ filter q xs
same_passes p q [] all = refl
same_passes p q (x ∷ xs) all =
    let rest = same_passes p q xs (All-tail (λ (y : ℕ). p y ≡ q y) x xs all) in
    let first : p x ≡ q x = all 0 x (omega arith) in
    go (q x) refl first rest where
      go : (b : Bool) → q x ≡ b → p x ≡ q x → filter p xs ≡ filter q xs → filter p (x ∷ xs) ≡ filter q (x ∷ xs)
      go true w first rest = let own : p x ≡ true = first ∙ w in rw (own, w) (ap (λ ys. x ∷ ys) rest)
      go false w first rest = let own : p x ≡ false = first ∙ w in rw (own, w) rest

pub same_youngest : (living : List ℕ) (birth d e : ℕ) → All (λ (s : ℕ). holds birth d s ≡ holds birth e s) living
    → youngest_holder living birth d ≡ youngest_holder living birth e
same_youngest living birth d e all = ap (last_or None) (same_passes (holds birth d) (holds birth e) living all)

-- ---- a record and a pair of one birth

module _ (living : List ℕ) (rising : IsRising living) (d : Record) (pair : Pair) (death : ℕ) (is : pair.death ≡ Some death)
    (birth : d.birth ≡ pair.birth) where
  alike : (s : ℕ) → pair_holds s pair ≡ holds d.birth death s
  alike s = rw (is, birth) refl

  pub tells_of : (youngest_holder living d.birth d.death ≡ youngest_holder living d.birth death) ↔ TellsOf living d pair
  tells_of = (
    λ same. record {
      birth = sym birth;
      died = rw is refl;
      holders = λ i s lt. same_holders living rising d.birth d.death death same i s lt ∙ sym (alike (get_or living i s));
    },
    λ tells. same_youngest living d.birth d.death death (λ i s lt. tells.holders i s lt ∙ alike (get_or living i s)),
  )
