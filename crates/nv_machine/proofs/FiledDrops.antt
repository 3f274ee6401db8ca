-- Who holds what a dropped snapshot held, and what a new one would hold.
use Rattle.std.proofs.Common.{◌≡◌, ◌≢◌, ℕ, ◌≤◌, ◌==◌, ◌++◌, ◌∙◌, Bool, true, false, not, nat_le, nat_lt, List, [], ◌∷◌, None, ap, arith, filter, refl}
use Rattle.std.specs.List.{last_or}
use Rattle.std.proofs.lemmas.Bool.{and_parts, ltb-true, ne_eqb, not_from_false}
use Rattle.std.proofs.lemmas.List.{append-nil}
use Rattle.std.proofs.lemmas.List.Elements.{filter-append}
use Rattle.nv_book.proofs.Filing.{Makes, Removes}
use Rattle.nv_epoch.specs.Holders.{IsRising, holds}
use Rattle.nv_epoch.proofs.HolderLaws.{youngest-own}
use Rattle.nv_epoch.proofs.Last.{last_that-filter_none, last_that-filter_some}

-- ---- a new snapshot

pub not_later : (birth death s : ℕ) → death ≤ s → holds birth death s ≡ false
not_later birth death s le = go (holds birth death s) refl where
  go : (b : Bool) → holds birth death s ≡ b → b ≡ false
  go false e = refl
  go true e =
      let below = ltb-true s death (and_parts (nat_le birth s) (nat_lt s death) e).1 in absurd (omega (arith, le, below))

-- no youngest holder is other for it, of what is dead by then
pub makes : Makes
makes living epoch birth death le =
    let none : holds birth death epoch ≡ false = not_later birth death epoch le in
    let same : filter (holds birth death) (living ++ epoch ∷ []) ≡ filter (holds birth death) living =
    filter-append (holds birth death) living (epoch ∷ []) ∙ rw none (append-nil (filter (holds birth death) living)) in
    ap (last_or None) same

-- ---- a dropped snapshot

module _ (living : List ℕ) (s : ℕ) where
  abbrev is_other : ℕ → Bool
  is_other t = not (t == s)

  other : (t : ℕ) → t ≢ s → is_other t ≡ true
  other t ne = not_from_false (t == s) (ne_eqb t s ne)

  pub removes : IsRising living → Removes living s
  removes rising = record {
    own = λ birth death e. youngest-own living s birth death rising e;
    others = λ t birth death ne e. last_that-filter_some (holds birth death) is_other living t (other t ne) e;
    none = λ birth death e. last_that-filter_none (holds birth death) is_other living e;
  }
