-- Where nothing runs, what is reported of each living snapshot is what the world with numbers says of
-- it, and none has a pin.
use Rattle.std.proofs.Common.{◌≡◌, ℕ, ◌<◌, ◌==◌, ◌∙◌, Bool, true, false, List, [], ◌∷◌, Option, Some, None, ap, arith, if◌then◌else◌, refl, subst, sym}
use Rattle.std.specs.Prelude.{All, IsSome}
use Rattle.std.specs.List.{AllByRecursion, Contains}
use Rattle.std.proofs.lemmas.Bool.{eq-eqb, eqb-true}
use Rattle.std.proofs.lemmas.List.Elements.{All-contains}
use Rattle.nv_base.specs.declared.geometry.GeometryNumbers.{GeometryNumbers}
use Rattle.nv_book.specs.Manifests.{gain_of, held_of}
use Rattle.nv_book.specs.declared.record.Record.{Record}
use Rattle.nv_epoch.specs.Holders.{IsRising, next_older}
use Rattle.nv_epoch.specs.SnapList.{ids, numbers, pins_at}
use Rattle.nv_epoch.specs.declared.snapshot.Snapshot.{Snapshot}
use Rattle.nv_epoch.proofs.Last.{contains_first, contains_later}
use Rattle.nv_epoch.proofs.Pins.{lives-from_pins}
use Rattle.nv_machine.specs.Reading.{ArePins}
use Rattle.nv_machine.specs.Starts.{IsStart}
use Rattle.nv_machine.specs.World.{World}
use Rattle.nv_serial.specs.Reports.{gain_by, held_by}
use Rattle.nv_serial.specs.Serial.{Serial}
use Rattle.nv_serial.proofs.AtRestLogs.{told_by}
use Rattle.nv_serial.proofs.AtRestSnaps.{gain_reported, held_reported}

-- ---- pins

-- a number below all of a list is not of it
below_none : (n : ℕ) (snapshots : List Snapshot) → All (λ m. n < m) (numbers snapshots)
    → pins_at snapshots n ≡ None
below_none n snapshots above = go (pins_at snapshots n) refl where
  go : (o : Option ℕ) → pins_at snapshots n ≡ o → o ≡ None
  go None is = refl
  go (Some pins) is =
      let lives = lives-from_pins snapshots n (subst IsSome (sym is) refl) in
      let lt : n < n = All-contains (λ m. n < m) (numbers snapshots) n above lives in
      absurd (omega (arith, lt))

none_pinned : (snapshots : List Snapshot) → IsRising (numbers snapshots)
    → ((n : ℕ) → ArePins 0 (pins_at snapshots n))
    → AllByRecursion (λ (t : Snapshot). t.pins ≡ 0) snapshots
none_pinned [] rising unpinned = tt
none_pinned (t ∷ snapshots) rising unpinned = (own, none_pinned snapshots rising.1 later) where
  own : t.pins ≡ 0
  own = subst (λ (b : Bool). ArePins 0 (if b then Some t.pins else pins_at snapshots t.number))
      (eq-eqb t.number t.number refl) (unpinned t.number)

  later : (n : ℕ) → ArePins 0 (pins_at snapshots n)
  later n = go (t.number == n) refl (unpinned n) where
    go : (b : Bool) → (t.number == n) ≡ b → ArePins 0 (if b then Some t.pins else pins_at snapshots n)
        → ArePins 0 (pins_at snapshots n)
    go true is pins =
        let none : pins_at snapshots n ≡ None =
        ap (pins_at snapshots) (sym (eqb-true t.number n is))
        ∙ below_none t.number snapshots rising.0 in
        subst (ArePins 0) (sym none) refl
    go false is pins = pins

-- each snapshot of a list lives
each_lives : (P : ℕ → Type 0) (snapshots : List Snapshot)
    → ((n : ℕ) → Contains (numbers snapshots) n → P n)
    → AllByRecursion (λ (t : Snapshot). P t.number) snapshots
each_lives P [] all = tt
each_lives P (t ∷ snapshots) all = (
  all t.number (contains_first t.number (numbers snapshots)),
  each_lives P snapshots (λ n lives. all n (contains_later t.number (numbers snapshots) n lives)),
)

-- what manifests say of a snapshot is what the world with numbers says
pub record IsReported (s : Serial) (w : World) (n : ℕ) : Type 0 where
  pub held : held_of n w.shared.book.manifests ≡ held_by s n
  pub gain : gain_of n (next_older (ids w.shared.book.snaps) n) w.shared.book.manifests ≡ gain_by s n

module _ (g : GeometryNumbers) (w : World) (rs : List Record) (is : IsStart g w rs) where
  -- NO SNAPSHOT is pinned
  pub pins_none : AllByRecursion (λ (t : Snapshot). t.pins ≡ 0) w.shared.book.snaps.living
  pins_none = none_pinned w.shared.book.snaps.living is.rising is.unpinned

  -- EACH LIVING SNAPSHOT is reported as the world with numbers says
  pub snapshots_reported : AllByRecursion (λ (t : Snapshot). IsReported (told_by g w rs) w t.number)
      w.shared.book.snaps.living
  snapshots_reported =
      each_lives (IsReported (told_by g w rs) w) w.shared.book.snaps.living (λ n lives. record {
        held = held_reported g w rs is n lives;
        gain = gain_reported g w rs is n lives;
      })
