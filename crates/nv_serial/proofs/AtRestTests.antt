-- Where nothing runs, the machine refuses calls on snapshots for what the world with numbers
-- refuses them for, and has the same deferred records.
use Rattle.std.proofs.Common.{◌≡◌, ℕ, zero, suc, ◌==◌, ◌||◌, ◌∙◌, Bool, true, false, List, [], ◌∷◌, Option, Some, None, ap, arith, if◌then◌else◌, is_some, length, map, nat_le, refl, sym}
use Rattle.std.specs.Prelude.{Err}
use Rattle.std.specs.List.{list_any}
use Rattle.std.proofs.lemmas.List.{length-map}
use Rattle.nv_base.specs.declared.fault.Fault.TheVariants.{EpochLimit, NoSnapshot, TooManySnapshots}
use Rattle.nv_base.specs.declared.geometry.GeometryNumbers.{GeometryNumbers}
use Rattle.nv_base.specs.declared.limits.TheConstants.{NUMBER}
use Rattle.nv_book.specs.Listed.{unheld}
use Rattle.nv_book.specs.declared.record.Record.{Record}
use Rattle.nv_calls.specs.Refusals.{Check, passes}
use Rattle.nv_epoch.specs.SnapList.{pins_at, pins_of}
use Rattle.nv_epoch.specs.declared.snapshot.Snapshot.{Snapshot}
use Rattle.nv_machine.specs.SnapshotOrCleaner.{drop_tests, make_tests}
use Rattle.nv_machine.specs.PlainRun.{copy_in, is_of}
use Rattle.nv_machine.specs.Reading.{ArePins, test_there}
use Rattle.nv_machine.specs.Starts.{IsStart}
use Rattle.nv_machine.specs.World.{Shared, World}
use Rattle.nv_serial.specs.Serial.{Serial, deferred_in}
use Rattle.nv_serial.proofs.AtRestLogs.{living_is, told_by}

-- a snapshot lives exactly where it has pins
lives_by_pins : (sh : Shared) (n : ℕ) (snapshots : List Snapshot)
    → list_any (is_of n) (map (copy_in sh) snapshots) ≡ is_some (pins_at snapshots n)
lives_by_pins sh n [] = refl
lives_by_pins sh n (t ∷ snapshots) = go (t.number == n) (lives_by_pins sh n snapshots) where
  go : (b : Bool) → list_any (is_of n) (map (copy_in sh) snapshots) ≡ is_some (pins_at snapshots n)
      → (b || list_any (is_of n) (map (copy_in sh) snapshots))
      ≡ is_some (if b then Some t.pins else pins_at snapshots n)
  go true rest = refl
  go false rest = rest

abbrev if_lives : Bool → Check
if_lives lives = if lives then passes else Err NoSnapshot

module _ (g : GeometryNumbers) (w : World) (rs : List Record) (is : IsStart g w rs) where
  abbrev s : Serial
  s = told_by g w rs

  pub deferred_is : deferred_in s ≡ w.shared.book.deferred
  deferred_is = ap (λ (ns : List ℕ). unheld ns rs) (living_is g w rs is) ∙ sym is.list.deferred_is

  pub lives_is : (n : ℕ) → list_any (is_of n) s.plain.copies
      ≡ is_some (pins_of w.shared.book.snaps n)
  lives_is n = lives_by_pins w.shared n w.shared.book.snaps.living

  -- A MAKING
  pub make_tests_are : make_tests w.shared.book.snaps
      ≡ (if nat_le NUMBER s.plain.epoch then Err EpochLimit
      else if nat_le s.numbers.snaps (length s.plain.copies) then Err TooManySnapshots
      else passes)
  make_tests_are =
      let by : ℕ → ℕ → Check = λ most many.
      if nat_le NUMBER w.shared.book.snaps.epoch then Err EpochLimit else if nat_le most many then
      Err TooManySnapshots else passes in
      ap (λ (most : ℕ). by most (length w.shared.book.snaps.living)) is.most
      ∙ ap (by g.snaps) (sym (length-map w.shared.book.snaps.living (copy_in w.shared)))

  -- A DROP: no snapshot is pinned
  pub drop_tests_are : (n : ℕ) → drop_tests (pins_of w.shared.book.snaps n)
      ≡ if_lives (list_any (is_of n) s.plain.copies)
  drop_tests_are n = go (pins_of w.shared.book.snaps n) (is.unpinned n)
      ∙ ap if_lives (sym (lives_is n)) where
        go : (o : Option ℕ) → ArePins 0 o → drop_tests o ≡ if_lives (is_some o)
        go None pins = refl
        go (Some zero) pins = refl
        go (Some (suc more)) pins = absurd (omega (arith, pins))

  -- A SHOW
  pub show_tests_are : (n : ℕ) → test_there (pins_of w.shared.book.snaps n)
      ≡ if_lives (list_any (is_of n) s.plain.copies)
  show_tests_are n = go (pins_of w.shared.book.snaps n) ∙ ap if_lives (sym (lives_is n)) where
    go : (o : Option ℕ) → test_there o ≡ if_lives (is_some o)
    go None = refl
    go (Some pins) = refl
