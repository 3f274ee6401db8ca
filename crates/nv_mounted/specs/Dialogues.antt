-- What a mount asks a world, call by call: each next call rests on the answers before it.
use Rattle.std.specs.Prelude.{◌≡◌, ◌⊎◌, List, [], ◌∷◌, Result, Ok, Err}
use Rattle.nv_base.specs.declared.fault.Fault.{Fault}
use Rattle.nv_calls.specs.declared.answer.Answer.{Answer}
use Rattle.nv_calls.specs.declared.call.Call.{Call}
use Rattle.nv_mount_beside.specs.Memory.{no_memory}
use Rattle.nv_mount_beside.specs.declared.refusal.Refusal.{Refusal}

-- A dialogue ends with something or with a refusal. Or it asks for memory and goes on: where that is
-- refused, it ends, or goes on otherwise. Or it makes a call and goes on by its answer.
pub data Dialogue (A : Type 0) : Type 0 where
  Ends : Result A Refusal → Dialogue A
  Grows : Dialogue A → Dialogue A
  GrowsOr : Dialogue A → Dialogue A → Dialogue A
  Asks : Call → (Result Answer Fault → Dialogue A) → Dialogue A

-- a dialogue, and behind it the one that its end tells; a refusal ends both
infixl 10 ◌>>=◌
unfoldable pub ◌>>=◌ : {A B : Type 0} → Dialogue A → (A → Dialogue B) → Dialogue B
(Ends (Ok a)) >>= next = next a
(Ends (Err refusal)) >>= next = Ends (Err refusal)
(Grows rest) >>= next = Grows (rest >>= next)
(GrowsOr refused rest) >>= next = GrowsOr (refused >>= next) (rest >>= next)
(Asks call rest) >>= next = Asks call (λ answer. rest answer >>= next)

-- a result, and behind it the one that its value tells; a refusal ends both
abbrev pub and_then : {A B : Type 0} → Result A Refusal → (A → Result B Refusal) → Result B Refusal
and_then (Ok a) next = next a
and_then (Err refusal) next = Err refusal

-- a dialogue; where it is refused, another one undoes what it did, and then the refusal is told
abbrev pub undo : {A : Type 0} → Dialogue (Unit {0}) → Refusal → Dialogue A
undo undone refusal = undone >>= λ done. Ends (Err refusal)

unfoldable pub undoing : {A : Type 0} → Dialogue (Unit {0}) → Dialogue A → Dialogue A
undoing undone (Ends (Ok a)) = Ends (Ok a)
undoing undone (Ends (Err refusal)) = undo undone refusal
undoing undone (Grows rest) = GrowsOr (undo undone no_memory) (undoing undone rest)
undoing undone (GrowsOr refused rest) = GrowsOr (undoing undone refused) (undoing undone rest)
undoing undone (Asks call rest) = Asks call (λ answer. undoing undone (rest answer))

-- what is asked of each item of a list, in order
abbrev pub ask_each : {A B : Type 0} → (A → Dialogue B) → List A → Dialogue (List B)
ask_each asked [] = Ends (Ok [])
ask_each asked (a ∷ rest) = asked a >>= λ b. ask_each asked rest >>= λ bs. Ends (Ok (b ∷ bs))

-- A dialogue is had with a world, whose calls do what `Tells` says: it ends so, and with that world.
-- Where it asks for memory that is refused, it ends there, or goes on otherwise.
abbrev pub IsHad : {W A : Type 0} → (W → Call → Result Answer Fault → W → Type 0) → Dialogue A
    → W → Result A Refusal → W → Type 0
IsHad Tells (Ends told) old end new = (end ≡ told) × (new ≡ old)
IsHad Tells (Grows rest) old end new =
    ((end ≡ Err no_memory) × (new ≡ old)) ⊎ IsHad Tells rest old end new
IsHad Tells (GrowsOr refused rest) old end new =
    IsHad Tells refused old end new ⊎ IsHad Tells rest old end new
IsHad {W} Tells (Asks call rest) old end new =
    (answer : Result Answer Fault) × (between : W) × Tells old call answer between
    × IsHad Tells (rest answer) between end new
