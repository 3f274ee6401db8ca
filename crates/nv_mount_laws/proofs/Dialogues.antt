-- A dialogue with another one behind it, taken apart.
use Rattle.std.proofs.Common.{◌≡◌, ◌⊎◌, inl, inr, Result, Ok, Err, ap, refl}
use Rattle.nv_base.specs.declared.fault.Fault.{Fault}
use Rattle.nv_calls.specs.declared.answer.Answer.{Answer}
use Rattle.nv_calls.specs.declared.call.Call.{Call}
use Rattle.nv_mount_beside.specs.Memory.{no_memory}
use Rattle.nv_mount_beside.specs.declared.refusal.Refusal.{Refusal}
use Rattle.nv_mounted.specs.Dialogues.{Asks, Dialogue, Ends, Grows, GrowsOr, IsHad, ◌>>=◌}

-- the value of a result, or another one where it is a refusal
abbrev value_of : {A : Type 0} → A → Result A Refusal → A
value_of other (Ok a) = a
value_of other (Err refusal) = other

-- two results are one
abbrev pub AreSame : {A : Type 0} → Result A Refusal → Result A Refusal → Type 0
AreSame one other = one ≡ other

-- what stands beside the world then
pub side_told : {A B : Type 0} (a c : A) (b d : B) → AreSame {A = A × B} (Ok (a, b)) (Ok (c, d)) → b
    ≡ d
side_told {A} {B} a c b d same =
    let there : A × B = (a, b) in ap (λ (r : Result (A × B) Refusal). (value_of there r).1) same

-- what is told then
pub first_told : {A B : Type 0} (a c : A) (b d : B) → AreSame {A = A × B} (Ok (a, b)) (Ok (c, d))
    → a ≡ c
first_told {A} {B} a c b d same =
    let there : A × B = (a, b) in ap (λ (r : Result (A × B) Refusal). (value_of there r).0) same

no_value : {A : Type 0} {P : Type 0} {a : A} {refusal : Refusal} → Ok a ≡ Err refusal → P
no_value e = cc

module _ {W A B : Type 0} (Tells : W → Call → Result Answer Fault → W → Type 0)
    (next : A → Dialogue B) where
  -- the first dialogue ended with a value, and the one behind it came to this end
  pub record GoesOn (d : Dialogue A) (old : W) (end : Result B Refusal) (new : W) : Type 0 where
    pub value : A
    pub between : W
    pub first : IsHad Tells d old (Ok value) between
    pub then : IsHad Tells (next value) between end new

  -- the first dialogue was refused, and that was the end
  pub record Stops (d : Dialogue A) (old : W) (end : Result B Refusal) (new : W) : Type 0 where
    pub why : Refusal
    pub first : IsHad Tells d old (Err why) new
    pub is : end ≡ Err why

  pub parts : (d : Dialogue A) (old new : W) (end : Result B Refusal)
      → IsHad Tells (d >>= next) old end new
      → GoesOn d old end new ⊎ Stops d old end new
  unfolding ◌>>=◌
  parts (Ends (Ok a)) old new end had = inl (record
      { value = a; between = old; first = (refl, refl); then = had })
  parts (Ends (Err why)) old new end had = inr
      (record { why = why; first = (refl, had.1); is = had.0 })
  parts (Grows rest) old new end (inl had) = inr
      (record { why = no_memory; first = inl (refl, had.1); is = had.0 })
  parts (Grows rest) old new end (inr had) = later (parts rest old new end had) where
    later : GoesOn rest old end new ⊎ Stops rest old end new → GoesOn (Grows rest) old end new
        ⊎ Stops (Grows rest) old end new
    later (inl on) = inl (record {
      value = on.value;
      between = on.between;
      first =
          inr on.first;
      then = on.then;
    })
    later (inr stop) = inr (record { why = stop.why; first = inr stop.first; is = stop.is })
  parts (GrowsOr refused rest) old new end (inl had) = later (parts refused old new end had) where
    later : GoesOn refused old end new ⊎ Stops refused old end new
        → GoesOn (GrowsOr refused rest) old end new ⊎ Stops (GrowsOr refused rest) old end new
    later (inl on) = inl (record
        { value = on.value; between = on.between; first = inl on.first; then = on.then })
    later (inr stop) = inr (record { why = stop.why; first = inl stop.first; is = stop.is })
  parts (GrowsOr refused rest) old new end (inr had) = later (parts rest old new end had) where
    later : GoesOn rest old end new ⊎ Stops rest old end new
        → GoesOn (GrowsOr refused rest) old end new ⊎ Stops (GrowsOr refused rest) old end new
    later (inl on) = inl (record
        { value = on.value; between = on.between; first = inr on.first; then = on.then })
    later (inr stop) = inr (record { why = stop.why; first = inr stop.first; is = stop.is })
  parts (Asks call rest) old new end had = later (parts (rest had.0) had.1 new end had.3) where
    later : GoesOn (rest had.0) had.1 end new ⊎ Stops (rest had.0) had.1 end new
        → GoesOn (Asks call rest) old end new ⊎ Stops (Asks call rest) old end new
    later (inl on) = inl (record {
      value = on.value;
      between = on.between;
      first =
          (had.0, had.1, had.2, on.first);
      then = on.then;
    })
    later (inr stop) = inr (record {
      why = stop.why;
      first = (had.0, had.1, had.2, stop.first);
      is =
          stop.is;
    })

  -- one that ended with a value went on
  pub went_on : (d : Dialogue A) (old new : W) (b : B) → IsHad Tells (d >>= next) old (Ok b) new
      → GoesOn d old (Ok b) new
  went_on d old new b had = elim (parts d old new (Ok b) had)
      [ inl on ↦ on | inr stop ↦ no_value stop.is ]
