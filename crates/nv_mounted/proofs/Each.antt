-- What is asked of each item of a list.
use Rattle.std.proofs.Common.{◌≡◌, ℕ, List, [], ◌∷◌, ◌++◌, append_assoc, inl, inr, Result, Ok, Err, ap, refl, sym, subst}
use Rattle.std.proofs.lemmas.List.{append-nil}
use Rattle.nv_base.specs.declared.fault.Fault.{Fault}
use Rattle.nv_calls.specs.declared.answer.Answer.{Answer}
use Rattle.nv_calls.specs.declared.call.Call.{Call}
use Rattle.nv_entry.specs.declared.names.BoundName.{BoundName}
use Rattle.nv_mount_answers.specs.declared.kept.Shape.{Shape}
use Rattle.nv_mount_beside.specs.Memory.{no_memory}
use Rattle.nv_mount_beside.specs.Names.{number_of}
use Rattle.nv_mount_beside.specs.declared.refusal.Refusal.{Refusal}
use Rattle.nv_mounted.specs.Asks.{shape_told}
use Rattle.nv_mounted.specs.Dialogues.{Asks, Dialogue, Ends, Grows, GrowsOr, IsHad, ask_each, ◌>>=◌}
use Rattle.nv_mounted.specs.Listings.{ask_behind, ask_named, listed_kind}
use Rattle.nv_mounted.specs.declared.listing.Named.{Named}
use Rattle.nv_mounted.proofs.Dialogues.{goes_on, stops}

-- three dialogues one behind the other are grouped either way
pub grouped : {W A B C : Type 0} (Tells : W → Call → Result Answer Fault → W → Type 0) (d : Dialogue A) (f : A → Dialogue B) (g : B → Dialogue C) (old new : W) (end : Result C Refusal)
    → IsHad Tells (d >>= λ a. (f a >>= g)) old end new → IsHad Tells ((d >>= f) >>= g) old end new
unfolding ◌>>=◌
grouped Tells (Ends (Ok a)) f g old new end had = had
grouped Tells (Ends (Err refusal)) f g old new end had = had
grouped Tells (Grows rest) f g old new end (inl had) = inl had
grouped Tells (Grows rest) f g old new end (inr had) = inr (grouped Tells rest f g old new end had)
grouped Tells (GrowsOr refused rest) f g old new end (inl had) = inl (grouped Tells refused f g old new end had)
grouped Tells (GrowsOr refused rest) f g old new end (inr had) = inr (grouped Tells rest f g old new end had)
grouped Tells (Asks call rest) f g old new end had = (had.0, had.1, had.2, grouped Tells (rest had.0) f g had.1 new end had.3)

-- one more name was asked about
pub named_more : {W : Type 0} (Tells : W → Call → Result Answer Fault → W → Type 0) (front : List Named) (bound : BoundName) (names : List BoundName) (old between new : W) (named : Named) (end : Result (List Named) Refusal)
    → IsHad Tells (ask_named bound) old (Ok named) between
    → IsHad Tells (ask_behind (front ++ named ∷ []) names) between end new
    → IsHad Tells (ask_behind front (bound ∷ names)) old end new
unfolding ◌>>=◌
named_more Tells front bound names old between new named end first then =
    let next = λ (one : Named). ask_each ask_named names >>= λ others. Ends (Ok (one ∷ others)) in
    let last = λ (all : List Named). Ends (Ok (front ++ all)) in
    let same : (λ (others : List Named). Ends (Ok ((front ++ named ∷ []) ++ others))) ≡ (λ (others : List Named). Ends (Ok (front ++ (named ∷ others)))) =
    λ i others. Ends (Ok (append_assoc front (named ∷ []) others i)) in
    let here = subst (λ (f : List Named → Dialogue (List Named)). IsHad Tells (ask_each ask_named names >>= f) between end new) same then in
    grouped Tells (ask_named bound) next last old new end
    (goes_on Tells (ask_named bound) (λ (one : Named). next one >>= last) old between new named end first
    (grouped Tells (ask_each ask_named names) (λ others. Ends (Ok (named ∷ others))) last between new end here))

-- it was refused
pub named_stops : {W : Type 0} (Tells : W → Call → Result Answer Fault → W → Type 0) (front : List Named) (bound : BoundName) (names : List BoundName) (old new : W) (refusal : Refusal)
    → IsHad Tells (ask_named bound) old (Err refusal) new
    → IsHad Tells (ask_behind front (bound ∷ names)) old (Err refusal) new
named_stops Tells front bound names old new refusal first =
    stops Tells (ask_each ask_named (bound ∷ names)) (λ (all : List Named). Ends (Ok (front ++ all))) old new refusal
    (stops Tells (ask_named bound) (λ (one : Named). ask_each ask_named names >>= λ others. Ends (Ok (one ∷ others))) old new refusal first)

-- no name is left
pub named_all : {W : Type 0} (Tells : W → Call → Result Answer Fault → W → Type 0)
    (front : List Named) (old : W) → IsHad Tells (ask_behind front []) old (Ok front) old
unfolding ◌>>=◌
named_all Tells front old = (ap Ok (sym (append-nil front)), refl)

-- what is asked about a name, by what its node's shape and number are told
abbrev name_last : Result Shape Refusal → Result ℕ Refusal → List ℕ → Dialogue Named
name_last told node name =
    Ends told >>= λ shape.
    Ends node >>= λ number.
    Grows (Ends (Ok (record { node = number; kind = listed_kind shape.kind; name = name })))

-- its last step asks for memory
memory_last : {W : Type 0} (Tells : W → Call → Result Answer Fault → W → Type 0)
    (told : Result Shape Refusal) (node : Result ℕ Refusal) (name : List ℕ) (old new : W) (named : Named)
    → IsHad Tells (name_last told node name) old (Ok named) new
    → IsHad Tells (name_last told node name) old (Err no_memory) new
unfolding ◌>>=◌
memory_last Tells (Ok shape) (Ok node) name old new named (inl had) =
    let e = had.0 in let no : ⊥ = cc in absurd no
memory_last Tells (Ok shape) (Ok node) name old new named (inr had) = inl (refl, had.1)
memory_last Tells (Ok shape) (Err refusal) name old new named had =
    let e = had.0 in let no : ⊥ = cc in absurd no
memory_last Tells (Err refusal) node name old new named had =
    let e = had.0 in let no : ⊥ = cc in absurd no

-- where a name was told, memory may be refused instead
pub named_or_memory : {W : Type 0} (Tells : W → Call → Result Answer Fault → W → Type 0)
    (bound : BoundName) (old new : W) (named : Named)
    → IsHad Tells (ask_named bound) old (Ok named) new
    → IsHad Tells (ask_named bound) old (Err no_memory) new
unfolding ◌>>=◌
named_or_memory Tells bound old new named had = (
  had.0,
  had.1,
  had.2,
  memory_last Tells (shape_told had.0) (number_of bound.to) bound.name had.1 new named had.3,
)
