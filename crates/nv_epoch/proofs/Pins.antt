-- The pins of a snapshot, by its number.
use Rattle.std.proofs.Common.{◌≡◌, ◌≢◌, ℕ, ◌==◌, ◌⊎◌, inl, inr, Bool, true, false, not, cond, List, [], ◌∷◌, ◌++◌, filter, map, IsSome, Some, None, arith, refl, ap, sym, ◌∙◌, subst}
use Rattle.std.specs.List.{Contains}
use Rattle.std.specs.Option.{option_map, option_or}
use Rattle.std.proofs.lemmas.Bool.{eqb-true, eqb-false, ne_eqb}
use Rattle.nv_epoch.specs.declared.snapshot.Snapshot.{Snapshot}
use Rattle.nv_epoch.specs.SnapList.{numbers, pins_at, unpinned, with_pins}
use Rattle.nv_epoch.proofs.Last.{contains_cases, contains_first, contains_later}

-- the numbers of snapshots without pins
pub numbers-unpinned : (ns : List ℕ) → numbers (map unpinned ns) ≡ ns
numbers-unpinned [] = refl
numbers-unpinned (n ∷ ns) = ap (λ ms. n ∷ ms) (numbers-unpinned ns)

pub pins_at-lives : (living : List Snapshot) (s : ℕ) → Contains (numbers living) s → IsSome (pins_at living s)
pins_at-lives [] s h = absurd (omega (arith, h.1))
pins_at-lives (t ∷ ts) s h = go (t.number == s) refl (contains_cases t.number (numbers ts) s h) (λ k. pins_at-lives ts s k) where
  go : (b : Bool) → (t.number == s) ≡ b → (s ≡ t.number) ⊎ Contains (numbers ts) s → (Contains (numbers ts) s → IsSome (pins_at ts s))
      → IsSome (cond b (Some t.pins) (pins_at ts s))
  go true q h ih = refl
  go false q (inl same) ih = absurd (eqb-false t.number s q (sym same))
  go false q (inr k) ih = ih k

pub lives-from_pins : (living : List Snapshot) (s : ℕ) → IsSome (pins_at living s) → Contains (numbers living) s
lives-from_pins [] s h = cc
lives-from_pins (t ∷ ts) s h = go (t.number == s) refl h (λ k. lives-from_pins ts s k) where
  go : (b : Bool) → (t.number == s) ≡ b → IsSome (cond b (Some t.pins) (pins_at ts s)) → (IsSome (pins_at ts s) → Contains (numbers ts) s)
      → Contains (numbers (t ∷ ts)) s
  go true q h ih = subst (λ n. Contains (numbers (t ∷ ts)) n) (eqb-true t.number s q) (contains_first t.number (numbers ts))
  go false q h ih = contains_later t.number (numbers ts) s (ih h)

pub pins_at-push : (living : List Snapshot) (made : Snapshot) (s : ℕ)
    → pins_at (living ++ made ∷ []) s ≡ option_or (pins_at living s) (cond (made.number == s) (Some made.pins) None)
pins_at-push [] made s = refl
pins_at-push (t ∷ ts) made s = go (t.number == s) (pins_at-push ts made s) where
  go : (b : Bool) → pins_at (ts ++ made ∷ []) s ≡ option_or (pins_at ts s) (cond (made.number == s) (Some made.pins) None)
      → cond b (Some t.pins) (pins_at (ts ++ made ∷ []) s) ≡ option_or (cond b (Some t.pins) (pins_at ts s))
      (cond (made.number == s) (Some made.pins) None)
  go true ih = refl
  go false ih = ih

pub pins_at-removed : (living : List Snapshot) (s : ℕ) → pins_at (filter (λ (t : Snapshot). not (t.number == s)) living) s ≡ None
pins_at-removed [] s = refl
pins_at-removed (t ∷ ts) s = go (t.number == s) refl (pins_at-removed ts s) where
  go : (b : Bool) → (t.number == s) ≡ b → pins_at (filter (λ (u : Snapshot). not (u.number == s)) ts) s ≡ None
      → pins_at (cond (not b) (t ∷ filter (λ (u : Snapshot). not (u.number == s)) ts)
      (filter (λ (u : Snapshot). not (u.number == s)) ts)) s ≡ None
  go true q ih = ih
  go false q ih = rw q ih

pub pins_at-kept : (living : List Snapshot) (s other : ℕ) → other ≢ s
    → pins_at (filter (λ (t : Snapshot). not (t.number == s)) living) other ≡ pins_at living other
pins_at-kept [] s other ne = refl
pins_at-kept (t ∷ ts) s other ne = go (t.number == s) refl (pins_at-kept ts s other ne) where
  go : (b : Bool) → (t.number == s) ≡ b → pins_at (filter (λ (u : Snapshot). not (u.number == s)) ts) other ≡ pins_at ts other
      → pins_at (cond (not b) (t ∷ filter (λ (u : Snapshot). not (u.number == s)) ts)
      (filter (λ (u : Snapshot). not (u.number == s)) ts)) other ≡ cond (t.number == other) (Some t.pins) (pins_at ts other)
  go true q ih = rw (ne_eqb t.number other (λ same. ne (sym same ∙ eqb-true t.number s q))) ih
  go false q ih = ap (λ o. cond (t.number == other) (Some t.pins) o) ih

pub pins_at-changed : (living : List Snapshot) (s : ℕ) (change : ℕ → ℕ)
    → pins_at (with_pins living s change) s ≡ option_map change (pins_at living s)
pins_at-changed [] s change = refl
pins_at-changed (t ∷ ts) s change = go (t.number == s) refl (pins_at-changed ts s change) where
  go : (b : Bool) → (t.number == s) ≡ b → pins_at (with_pins ts s change) s ≡ option_map change (pins_at ts s)
      → pins_at (cond b (record t { pins = change t.pins }) t ∷ with_pins ts s change) s ≡ option_map change
      (cond b (Some t.pins) (pins_at ts s))
  go true q ih = rw q refl
  go false q ih = rw q ih

pub pins_at-unchanged : (living : List Snapshot) (s : ℕ) (change : ℕ → ℕ) (other : ℕ) → other ≢ s
    → pins_at (with_pins living s change) other ≡ pins_at living other
pins_at-unchanged [] s change other ne = refl
pins_at-unchanged (t ∷ ts) s change other ne = go (t.number == s) refl (pins_at-unchanged ts s change other ne) where
  go : (b : Bool) → (t.number == s) ≡ b → pins_at (with_pins ts s change) other ≡ pins_at ts other
      → pins_at (cond b (record t { pins = change t.pins }) t ∷ with_pins ts s change) other ≡ cond (t.number == other) (Some t.pins)
      (pins_at ts other)
  go true q ih = rw (ne_eqb t.number other (λ same. ne (sym same ∙ eqb-true t.number s q))) ih
  go false q ih = ap (λ o. cond (t.number == other) (Some t.pins) o) ih
