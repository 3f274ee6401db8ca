-- What the tests of calls on snapshots come to, where the book refuses.
use Rattle.std.proofs.Common.{◌≡◌, ◌∙◌, ℕ, zero, suc, ◌<◌, ◌≤◌, ◌⊎◌, inl, inr, Option, Some, None, arith, length, refl, subst, sym, true≢false}
use Rattle.std.specs.Prelude.{◌↔◌, IsOk, IsSome, Result, Ok, Err}
use Rattle.std.specs.Option.{IsSomeAnd}
use Rattle.std.proofs.lemmas.Bool.{cases_lt, le-leb, lt-leb}
use Rattle.nv_base.specs.Refusals.{IsRefusedBy}
use Rattle.nv_base.specs.declared.fault.Fault.{Fault}
use Rattle.nv_base.specs.declared.fault.Fault.TheVariants.{EpochLimit, NoSnapshot, Pinned, TooManySnapshots}
use Rattle.nv_base.specs.declared.limits.TheConstants.{NUMBER}
use Rattle.nv_calls.specs.Refusals.{Check as Tests}
use Rattle.nv_epoch.specs.SnapList.{IsSound, Snapshots as Living}
use Rattle.nv_machine.specs.SnapshotOrCleaner.{drop_tests, make_tests}

abbrev fails : Fault → Tests
fails fault = Err fault

-- ---- a making

module _ (snaps : Living) (sound : IsSound snaps) where
  at_limit : NUMBER ≤ snaps.epoch → make_tests snaps ≡ Err EpochLimit
  at_limit most = rw (le-leb NUMBER snaps.epoch most) refl

  full : snaps.epoch < NUMBER → snaps.most ≤ length snaps.living → make_tests snaps ≡ Err TooManySnapshots
  full less most = rw (lt-leb NUMBER snaps.epoch less) (rw (le-leb snaps.most (length snaps.living) most) refl)

  pub make_passes : snaps.epoch < NUMBER → length snaps.living < snaps.most → make_tests snaps ≡ Ok tt
  make_passes less room = rw (lt-leb NUMBER snaps.epoch less) (rw (lt-leb snaps.most (length snaps.living) room) refl)

  pub make_told : {T : Type 0} (result : Result T Fault) (fault : Fault)
      → (IsOk result ↔ ((snaps.epoch < NUMBER) × (length snaps.living < snaps.most)))
      → (IsRefusedBy result EpochLimit ↔ (snaps.epoch ≡ NUMBER))
      → (IsRefusedBy result TooManySnapshots ↔ ((snaps.epoch < NUMBER) × (length snaps.living ≡ snaps.most)))
      → result ≡ Err fault → make_tests snaps ≡ Err fault
  make_told result fault made limit many is = go (cases_lt snaps.epoch NUMBER) where
    same : (why : Fault) → result ≡ Err why → fails why ≡ fails fault
    same why told = let both = sym told ∙ is in cc

    room_or_not : snaps.epoch < NUMBER → (length snaps.living < snaps.most) ⊎ (snaps.most ≤ length snaps.living)
        → make_tests snaps ≡ Err fault
    room_or_not less (inl room) = absurd (true≢false (sym (subst IsOk is (made.1 (less, room)))))
    room_or_not less (inr most) =
        full less most ∙ same TooManySnapshots (many.1 (less, omega (arith, most, sound.fits)))

    go : (snaps.epoch < NUMBER) ⊎ (NUMBER ≤ snaps.epoch) → make_tests snaps ≡ Err fault
    go (inl less) = room_or_not less (cases_lt (length snaps.living) snaps.most)
    go (inr most) = at_limit most ∙ same EpochLimit (limit.1 (omega (arith, most, sound.epoch_fits)))

-- ---- a drop

pub drop_told : {T : Type 0} (pins : Option ℕ) (result : Result T Fault) (fault : Fault) → (IsOk result ↔ (pins ≡ Some 0))
    → (IsRefusedBy result NoSnapshot ↔ (pins ≡ None)) → (IsRefusedBy result Pinned ↔ IsSomeAnd pins (λ n. 0 < n))
    → result ≡ Err fault → drop_tests pins ≡ Err fault
drop_told None result fault dropped none pinned is =
    let told : result ≡ Err NoSnapshot = none.1 refl in
    let both : fails NoSnapshot ≡ fails fault = (let e = sym told ∙ is in cc) in
    both
drop_told (Some zero) result fault dropped none pinned is = absurd (true≢false (sym (subst IsOk is (dropped.1 refl))))
drop_told (Some (suc n)) result fault dropped none pinned is =
    let told : result ≡ Err Pinned = pinned.1 (omega arith) in
    let both : fails Pinned ≡ fails fault = (let e = sym told ∙ is in cc) in
    both

-- ---- a pin

pub none_pinned : {T : Type 0} (pins : Option ℕ) (result : Result T Fault) (fault : Fault) → (IsOk result ↔ IsSome pins)
    → result ≡ Err fault → pins ≡ None
none_pinned None result fault pinned is = refl
none_pinned (Some n) result fault pinned is = absurd (true≢false (sym (subst IsOk is (pinned.1 refl))))
