-- How many snapshots live once one was made or dropped, and what that counts as.
use Rattle.std.proofs.Common.{◌≡◌, ◌∙◌, ◌+◌, ◌-◌, ◌<◌, ◌==◌, ◌⊎◌, ℕ, suc, Bool, true, false, not, List, [], ◌∷◌, All, Some, ap, arith, cond, inl, inr, length, length-append, refl, subst, sym}
use Rattle.std.proofs.lemmas.Bool.{eqb-true, ne_eqb}
use Rattle.std.proofs.lemmas.List.{length-map}
use Rattle.std.proofs.lemmas.List.Elements.{All-head, All-tail}
use Rattle.nv_book.specs.Book.{BookState, BookValue, after_pin_snapshot, after_unpin_snapshot}
use Rattle.nv_epoch.specs.Holders.{IsRising}
use Rattle.nv_epoch.specs.SnapList.{Snapshots, after_making, after_pin, after_removal, after_unpin, ids, living_without, numbers, pins_at, pins_of, repinned}
use Rattle.nv_epoch.specs.declared.snapshot.Snapshot.{Snapshot}
use Rattle.nv_sessions.specs.Deferred.{has_some}
use Rattle.nv_sessions.specs.Snapped.{AreSnapped}

-- ---- one leaves

-- the snapshots behind a lower number stay
all_stay : (living : List Snapshot) (s : ℕ) → All (λ (t : ℕ). s < t) (numbers living) → living_without living s ≡ living
all_stay [] s later = refl
all_stay (t ∷ ts) s later =
    let behind : s < t.number = All-head (λ (u : ℕ). s < u) t.number (numbers ts) later in
    let other : (t.number == s) ≡ false = ne_eqb t.number s (λ same. omega (arith, behind, same)) in
    ap (λ (b : Bool). cond (not b) (t ∷ living_without ts s) (living_without ts s)) other
    ∙ ap (λ (us : List Snapshot). t ∷ us) (all_stay ts s (All-tail (λ (u : ℕ). s < u) t.number (numbers ts) later))

-- of those whose numbers rise one leaves
one_leaves : (living : List Snapshot) (s pins : ℕ) → IsRising (numbers living) → pins_at living s ≡ Some pins
    → length (living_without living s) + 1 ≡ length living
one_leaves [] s pins rising is = cc
one_leaves (t ∷ ts) s pins rising is = go (t.number == s) refl is (λ later. one_leaves ts s pins rising.1 later) where
  go : (b : Bool) → (t.number == s) ≡ b → cond b (Some t.pins) (pins_at ts s) ≡ Some pins
      → (pins_at ts s ≡ Some pins → length (living_without ts s) + 1 ≡ length ts)
      → length (cond (not b) (t ∷ living_without ts s) (living_without ts s)) + 1 ≡ suc (length ts)
  go true same is rest =
      let later = subst (λ (n : ℕ). All (λ (u : ℕ). n < u) (numbers ts)) (eqb-true t.number s same) rising.0 in
      let stay = ap (λ (us : List Snapshot). length us) (all_stay ts s later) in omega (arith, stay)
  go false other is rest = let fewer = rest is in omega (arith, fewer)

-- ---- what counts

pub made_one : (living epoch count : ℕ) (snaps : Snapshots) → AreSnapped living epoch snaps count
    → AreSnapped living epoch (after_making snaps) (count + 1)
made_one living epoch count snaps before =
    let more = length-append snaps.living ((record { number = snaps.epoch; pins = 0 }) ∷ []) in
    (omega (arith, before.0), omega (arith, before.0, before.1, more))

pub dropped_one : (living epoch count : ℕ) (snaps : Snapshots) (s pins : ℕ) → IsRising (ids snaps) → pins_of snaps s ≡ Some pins
    → AreSnapped living epoch snaps count → AreSnapped living epoch (after_removal snaps s) (count + 1)
dropped_one living epoch count snaps s pins rising is before =
    let one = one_leaves snaps.living s pins rising is in
    (before.0, omega (arith, before.1, one))

-- nothing else does
pub pinned_one : (living epoch count : ℕ) (snaps : Snapshots) (s : ℕ) → AreSnapped living epoch snaps count
    → AreSnapped living epoch (after_pin snaps s) count
pinned_one living epoch count snaps s before =
    let as_many = length-map snaps.living (repinned s (λ (pins : ℕ). pins + 1)) in
    (before.0, ap (λ (n : ℕ). n + count) as_many ∙ before.1)

pub unpinned_one : (living epoch count : ℕ) (snaps : Snapshots) (s : ℕ) → AreSnapped living epoch snaps count
    → AreSnapped living epoch (after_unpin snaps s) count
unpinned_one living epoch count snaps s before =
    let as_many = length-map snaps.living (repinned s (λ (pins : ℕ). pins - 1)) in
    (before.0, ap (λ (n : ℕ). n + count) as_many ∙ before.1)

-- ---- a locked book

-- its ledgers count its commits since the opening, and its makings and drops of snapshots, and its flag its deferred records
abbrev pub IsCounted : ℕ → ℕ → ℕ → ℕ → ℕ → Bool → BookValue → Type 0
IsCounted commit living epoch commits snapped flagged book =
    (book.state.commit ≡ commit + commits) × AreSnapped living epoch book.state.snaps snapped × (flagged ≡ has_some book.state.deferred)

-- ledgers that count a book
abbrev Counted : ℕ → ℕ → ℕ → ℕ → ℕ → Bool → BookState → Type 0
Counted commit living epoch commits snapped flagged book =
    (book.commit ≡ commit + commits) × AreSnapped living epoch book.snaps snapped × (flagged ≡ has_some book.deferred)

module _ (commit living epoch commits snapped : ℕ) (flagged : Bool) (old new : BookValue) (s : ℕ) (was : IsCounted commit living epoch commits snapped flagged old) where
  -- a pin, or one that was refused
  pub pinned_book : (new.state ≡ after_pin_snapshot s old.state) ⊎ (new.state ≡ old.state)
      → IsCounted commit living epoch commits snapped flagged new
  pinned_book (inl is) =
      subst (Counted commit living epoch commits snapped flagged) (sym is) (was.0, pinned_one living epoch snapped old.state.snaps s was.1, was.2)
  pinned_book (inr is) = subst (Counted commit living epoch commits snapped flagged) (sym is) was

  pub unpinned_book : new.state ≡ after_unpin_snapshot s old.state → IsCounted commit living epoch commits snapped flagged new
  unpinned_book is =
      subst (Counted commit living epoch commits snapped flagged) (sym is) (was.0, unpinned_one living epoch snapped old.state.snaps s was.1, was.2)
