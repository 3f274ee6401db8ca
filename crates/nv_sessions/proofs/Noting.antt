-- Versions at hand: what stays of them where one is noted.
use Rattle.std.proofs.Common.{◌≡◌, ◌≢◌, ◌∙◌, inl, inr, ◌⊎◌, ◌∷◌, ℕ, zero, suc, ◌%◌, ◌<◌, ◌≤◌, List, [], Option, Some, None, ap, arith, refl, replicate, slice_index, slice_index_or, slice_set, sym, subst, ⊎_elim}
use Rattle.std.proofs.lemmas.Bool.{cases_lt}
use Rattle.std.proofs.lemmas.List.{get_or-replicate, get_or_past, length-replicate}
use Rattle.nv_sessions.specs.Locked.{version_at}
use Rattle.nv_sessions.specs.SeenVersions.{AreNoted}
use Rattle.nv_sessions.specs.declared.seen_versions.Noted.{Noted}

none_some : (noted : Noted) → None ≡ Some noted → ⊥
none_some noted is = cc

some_same : (one other : Noted) → Some one ≡ Some other → one ≡ other
some_same one other is = cc

-- what stands in a place of a list in which one place was set
set_at : (slots : List (Option Noted)) (at slot : ℕ) (new noted : Noted)
    → slice_index_or (slice_set slots at (Some new)) slot None ≡ Some noted
    → ((slot ≡ at) × (new ≡ noted)) ⊎ ((slot ≢ at) × (slice_index_or slots slot None ≡ Some noted))
set_at [] at slot new noted is = absurd (none_some noted is)
set_at (x ∷ xs) zero zero new noted is = inl (refl, some_same new noted is)
set_at (x ∷ xs) zero (suc slot) new noted is = inr ((λ h. omega arith), is)
set_at (x ∷ xs) (suc at) zero new noted is = inr ((λ h. omega arith), is)
set_at (x ∷ xs) (suc at) (suc slot) new noted is =
    ⊎_elim (λ t. inl (ap suc t.0, t.1)) (λ t. let n = t.0 in inr ((λ h. n (omega arith)), t.1)) (set_at xs at slot new noted is)

-- nothing at hand in a slot
abbrev nothing : Option Noted
nothing = None

-- a list of nothing has nothing in any place
none_at : (count slot : ℕ) → slice_index_or (replicate count nothing) slot nothing ≡ nothing
none_at count slot = ⊎_elim (λ (h : slot < count). get_or-replicate count slot nothing nothing h)
    (λ (h : count ≤ slot). get_or_past (replicate count nothing) slot nothing (omega (arith, length-replicate count nothing, h)))
    (cases_lt slot count)

pub none_noted : (opened seen : List ℕ) (slots : List (Option Noted)) → slots ≡ replicate 16 None → AreNoted opened seen slots
none_noted opened seen slots is slot noted found =
    absurd (none_some noted (sym (none_at 16 slot) ∙ ap (λ (l : List (Option Noted)). slice_index_or l slot None) (sym is) ∙ found))

-- one version more is at hand, and what was seen elsewhere stays
pub noted_more : (opened before after : List ℕ) (slots : List (Option Noted)) (ino version : ℕ)
    → AreNoted opened before slots → version_at opened ino (slice_index after ino) ≡ version
    → ((i : ℕ) → i ≢ ino → slice_index after i ≡ slice_index before i)
    → AreNoted opened after (slice_set slots (ino % 16) (Some (record { ino = ino; version = version })))
noted_more opened before after slots ino version noted here elsewhere slot found is =
    ⊎_elim
    (λ (t : (slot ≡ ino % 16) × (record { ino = ino; version = version } ≡ found)).
    let i : ino ≡ found.ino = ap (λ (n : Noted). n.ino) t.1 in
    let v : version ≡ found.version = ap (λ (n : Noted). n.version) t.1 in (
      t.0 ∙ ap (λ (n : ℕ). n % 16) i,
      subst (λ (n : ℕ). version_at opened n (slice_index after n) ≡ found.version) i (here ∙ v),
    ))
    (λ (t : (slot ≢ ino % 16) × (slice_index_or slots slot None ≡ Some found)).
    let old = noted slot found t.1 in
    let apart : found.ino ≢ ino = λ same. t.0 (old.0 ∙ ap (λ (n : ℕ). n % 16) same) in (
      old.0,
      ap (λ (n : ℕ). version_at opened found.ino n) (elsewhere found.ino apart) ∙ old.1,
    ))
    (set_at slots (ino % 16) slot (record { ino = ino; version = version }) found is)
