-- The list stays sound when snapshots are made, removed, pinned and unpinned.
use Rattle.std.proofs.Common.{◌≡◌, ℕ, ◌+◌, ◌<◌, ◌≤◌, ◌^◌, ◌==◌, Bool, true, false, not, cond, List, [], ◌∷◌, ◌++◌, length, map, get_or, filter, arith, refl, sym, subst, length-append}
use Rattle.std.specs.List.{All}
use Rattle.std.proofs.lemmas.List.{length-map, map-append}
use Rattle.std.proofs.lemmas.List.Elements.{All-push, All-weaker, All-filter, All-map, All-set}
use Rattle.nv_epoch.specs.declared.snapshot.Snapshot.{Snapshot}
use Rattle.nv_epoch.specs.Holders.{IsRising}
use Rattle.nv_epoch.specs.SnapList.{Snapshots, IsSound, ids, numbers, with_pins, after_making, after_removal, unpinned}
use Rattle.nv_epoch.proofs.Last.{IsRising-push, IsRising-filter}
use Rattle.nv_epoch.proofs.Pins.{numbers-unpinned}
use Rattle.nv_epoch.proofs.Places.{numbers-removal, numbers-with_pins, with_pins-place}

numbers-push : (living : List Snapshot) (s : Snapshot) → numbers (living ++ s ∷ []) ≡ numbers living ++ s.number ∷ []
numbers-push living s = map-append (λ (t : Snapshot). t.number) living (s ∷ [])

pub sound_made : (list : Snapshots) → IsSound list → list.epoch < 2 ^ 62 → length list.living < list.most → IsSound (after_making list)
sound_made list sound limit room =
    let made : Snapshot = record { number = list.epoch; pins = 0 } in
    let e = sym (numbers-push list.living made) in
    record {
      rising = subst IsRising e (IsRising-push (ids list) list.epoch sound.rising sound.below_epoch);
      below_epoch = subst (All (λ s. s < list.epoch + 1)) e (All-push (λ s. s < list.epoch + 1) (ids list) list.epoch
          (All-weaker (λ s. s < list.epoch) (λ s. s < list.epoch + 1) (λ s lt. omega arith) (ids list) sound.below_epoch) (omega arith));
      pins_fit = All-push (λ (s : Snapshot). s.pins ≤ 64) list.living made sound.pins_fit (omega arith);
      fits = omega (arith, room, length-append list.living (made ∷ []));
      some_epoch = omega arith;
      epoch_fits = omega (arith, limit);
    }

length-filter_le : (p : Snapshot → Bool) (xs : List Snapshot) → length (filter p xs) ≤ length xs
length-filter_le p [] = omega arith
length-filter_le p (x ∷ xs) = go (p x) (length-filter_le p xs) where
  go : (b : Bool) → length (filter p xs) ≤ length xs → length (cond b (x ∷ filter p xs) (filter p xs)) ≤ length (x ∷ xs)
  go true ih = omega (arith, ih)
  go false ih = omega (arith, ih)

pub sound_removed : (list : Snapshots) (s : ℕ) → IsSound list → IsSound (after_removal list s)
sound_removed list s sound =
    let e = sym (numbers-removal list.living s) in
    let fewer = length-filter_le (λ (t : Snapshot). not (t.number == s)) list.living in
    let fits = sound.fits in
    record {
      rising = subst IsRising e (IsRising-filter (λ t. not (t == s)) (ids list) sound.rising);
      below_epoch = subst (All (λ t. t < list.epoch)) e (All-filter (λ t. not (t == s)) (λ t. t < list.epoch) (ids list) sound.below_epoch);
      pins_fit = All-filter (λ (t : Snapshot). not (t.number == s)) (λ (t : Snapshot). t.pins ≤ 64) list.living sound.pins_fit;
      fits = omega (arith, fewer, fits);
      some_epoch = sound.some_epoch;
      epoch_fits = sound.epoch_fits;
    }

length-with_pins : (living : List Snapshot) (s : ℕ) (change : ℕ → ℕ) → length (with_pins living s change) ≡ length living
length-with_pins [] s change = refl
length-with_pins (t ∷ ts) s change = omega (arith, length-with_pins ts s change)

pub sound_repinned : (list : Snapshots) (s place : ℕ) (change : ℕ → ℕ) (d : Snapshot) → IsSound list → place < length list.living
    → get_or (numbers list.living) place 0 ≡ s → change (get_or list.living place d).pins ≤ 64
    → IsSound (record list { living = with_pins list.living s change })
sound_repinned list s place change d sound in' at few =
    let e = sym (numbers-with_pins list.living s change) in
    let fits = sound.fits in
    let new : Snapshot = record (get_or list.living place d) { pins = change (get_or list.living place d).pins } in
    record {
      rising = subst IsRising e sound.rising;
      below_epoch = subst (All (λ t. t < list.epoch)) e sound.below_epoch;
      pins_fit = subst (All (λ (t : Snapshot). t.pins ≤ 64)) (with_pins-place list.living s place change d sound.rising in' at)
          (All-set (λ (t : Snapshot). t.pins ≤ 64) list.living place new few sound.pins_fit);
      fits = omega (arith, length-with_pins list.living s change, fits);
      some_epoch = sound.some_epoch;
      epoch_fits = sound.epoch_fits;
    }

pub sound_unpinned : (ns : List ℕ) (epoch most : ℕ) → IsRising ns → All (λ s. s < epoch) ns → length ns ≤ most → 1 ≤ epoch
    → epoch ≤ 2 ^ 62 → IsSound (record { living = map unpinned ns; epoch = epoch; most = most })
sound_unpinned ns epoch most rising below few some limit =
    let e = sym (numbers-unpinned ns) in
    record {
      rising = subst IsRising e rising;
      below_epoch = subst (All (λ s. s < epoch)) e below;
      pins_fit = All-map (λ (s : Snapshot). s.pins ≤ 64) unpinned ns (All-weaker (λ s. s < epoch) (λ s. 0 ≤ 64)
          (λ s lt. omega arith) ns below);
      fits = omega (arith, few, length-map ns unpinned);
      some_epoch = some;
      epoch_fits = limit;
    }
