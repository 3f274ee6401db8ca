-- A dialogue that is had with files is had with the plain world as which they stand.
use Rattle.std.proofs.Common.{inl, inr, Result, refl, subst, sym}
use Rattle.nv_core.specs.Worlds.{WorldState}
use Rattle.nv_files.specs.Stands.{Stands}
use Rattle.nv_mount_beside.specs.declared.outcome.Outcome.{Outcome}
use Rattle.nv_mount_beside.specs.declared.refusal.Refusal.{Refusal}
use Rattle.nv_mounted.specs.Dialogues.{Asks, Dialogue, Ends, Grows, GrowsOr, IsHad}
use Rattle.nv_mounted.specs.declared.side.Side.{Side}
use Rattle.nv_mounted.specs.Side.{with_side}
use Rattle.nv_serial.specs.Serial.{Serial}
use Rattle.nv_mount_laws.specs.Files.{FilesTell, IsPlain}
use Rattle.nv_mount_laws.specs.World.{CanStand, Calls}

-- what files stand as can stand
pub can_stand : (w : WorldState) (s : Serial) → Stands w s → CanStand s
can_stand w s there = (there.world, there.stands)

pub had_plain : {A : Type 0} (d : Dialogue A) (old new : WorldState) (end : Result A Refusal)
    (s : Serial) → Stands old s
    → IsHad FilesTell d old end new → (t : Serial) × IsHad Calls d s end t × Stands new t
had_plain (Ends is_told) old new end s stands had =
    (s, (had.0, refl), subst (λ (w : WorldState). Stands w s) (sym had.1) stands)
had_plain (Grows rest) old new end s stands (inl had) =
    (s, inl (had.0, refl), subst (λ (w : WorldState). Stands w s) (sym had.1) stands)
had_plain (Grows rest) old new end s stands (inr had) =
    let later = had_plain rest old new end s stands had in (later.0, inr later.1, later.2)
had_plain (GrowsOr refused rest) old new end s stands (inl had) =
    let later = had_plain refused old new end s stands had in (later.0, inl later.1, later.2)
had_plain (GrowsOr refused rest) old new end s stands (inr had) =
    let later = had_plain rest old new end s stands had in (later.0, inr later.1, later.2)
had_plain (Asks call rest) old new end s stands had =
    let first = had.2 s stands in
    let later = had_plain (rest had.0) had.1 new end first.0 first.2 had.3 in (
      later.0,
      (
        had.0,
        first.0,
        record {
          answered = first.1;
          stands =
              can_stand had.1 first.0 first.2;
        },
        later.1,
      ),
      later.2,
    )

pub files_plain : (talk : Dialogue (Outcome × Side)) → IsPlain talk
files_plain talk old new side new_side result s stands does =
    let known = had_plain talk old new (with_side new_side result) s stands does.had in
    (known.0, record { had = known.1; same = does.same }, known.2)
