-- A path leads where its lookups lead.
use Rattle.std.proofs.Common.{◌≡◌, ◌∙◌, ◌⊎◌, ◌<◌, ◌≤◌, ◌+◌, ℕ, suc, Bool, true, false, List, [], ◌∷◌, Option, Some, None, Result, Ok, Err, add-one, ap, arith, drop, drop-cons, get_or, inl, inr, length, refl, subst, sym}
use Rattle.std.specs.Prelude.{not}
use Rattle.std.proofs.lemmas.Bool.{true≢false}
use Rattle.std.proofs.lemmas.List.{drop_all}
use Rattle.nv_base.specs.Memory.{out_of_memory}
use Rattle.nv_base.specs.Names.{is_lawful_name}
use Rattle.nv_base.specs.declared.fault.Fault.{Fault}
use Rattle.nv_base.specs.declared.fault.Fault.TheVariants as fault
use Rattle.nv_base.specs.declared.node.Kind.{Kind}
use Rattle.nv_base.specs.declared.node.Kind.TheVariants.{Dir, File}
use Rattle.nv_base.specs.declared.numbers.Handle.{Handle}
use Rattle.nv_calls.specs.Refusals.{Check, and_find, kind_of, look, lookup, passes, refuse_if, want_bound, want_directory}
use Rattle.nv_calls.specs.declared.answer.Answer.TheVariants as answers
use Rattle.nv_calls.specs.declared.call.Call.TheVariants as call
use Rattle.nv_core.specs.Worlds.{WorldState}
use Rattle.nv_entry.specs.Tree.{root}
use Rattle.nv_serial.specs.OneCall.{serial_call}
use Rattle.nv_serial.specs.Serial.{Serial, copies_now, refused, told}
use Rattle.nv_effects.specs.Causes.{IsCause}
use Rattle.nv_effects.specs.Sound.{IsSoundWorld}
use Rattle.nv_effects.proofs.Causes.{refused_cause}
use Rattle.nv_effects.proofs.Effects.{calls_have_effects}
use Rattle.nv_effects.proofs.Visits.{lookup_found}
use Rattle.nv_files.specs.Paths.{IsLed, go_on, led_by}
use Rattle.nv_files.specs.Stands.{Leads, Stands}
use Rattle.nv_files.specs.Told.{IsToldOrStarved}
use Rattle.nv_files.proofs.Standing.{files_sound}

-- ---- one look

-- a refusal by its fault
abbrev refusal_of : Fault → Check
refusal_of why = Err why

no_check : {P : Type 0} (why : Fault) → refusal_of why ≡ passes → P
no_check why e = cc

no_fault : {P : Type 0} (why : Fault) → passes ≡ refusal_of why → P
no_fault why e = cc

same_fault : (one why : Fault) → refusal_of one ≡ refusal_of why → one ≡ why
same_fault one why e = cc

-- the tests of a look, and what they let it find
abbrev looked : Option Kind → Bool → Option Handle → Result (Option Handle) Fault
looked kind unlawful bound = and_find (want_directory kind (refuse_if unlawful fault.BadName passes)) bound

-- the tests of a lookup
abbrev tested : Option Kind → Bool → Option Handle → Check
tested kind unlawful bound = want_directory kind (refuse_if unlawful fault.BadName (want_bound bound (λ to. passes)))

look_passes : (kind : Option Kind) (unlawful : Bool) (bound : Option Handle) → tested kind unlawful bound ≡ passes
    → looked kind unlawful bound ≡ Ok bound
look_passes None unlawful bound e = no_check fault.Stale e
look_passes (Some File) unlawful bound e = no_check fault.NotDirectory e
look_passes (Some Dir) true bound e = no_check fault.BadName e
look_passes (Some Dir) false bound e = refl

look_stops : (kind : Option Kind) (unlawful : Bool) (bound : Option Handle) (why : Fault) (next : Handle → Result Handle Fault)
    → tested kind unlawful bound ≡ Err why → go_on (looked kind unlawful bound) next ≡ Err why
look_stops None unlawful bound why next e = ap (λ (f : Fault). Err f) (same_fault fault.Stale why e)
look_stops (Some File) unlawful bound why next e = ap (λ (f : Fault). Err f) (same_fault fault.NotDirectory why e)
look_stops (Some Dir) true bound why next e = ap (λ (f : Fault). Err f) (same_fault fault.BadName why e)
look_stops (Some Dir) false None why next e = ap (λ (f : Fault). Err f) (same_fault fault.Missing why e)
look_stops (Some Dir) false (Some to) why next e = no_fault why e

-- a lookup that is answered leads on
look_found : (s t : Serial) (dir : Handle) (name : List ℕ) (to : Handle)
    → serial_call s 0 (call.Lookup dir name) ≡ told (answers.Made to) t → (look (copies_now s) dir name ≡ Ok (Some to)) × (t ≡ s)
look_found s t dir name to is =
    let has = calls_have_effects s t 0 (call.Lookup dir name) (answers.Made to) refl is in
    let bound = lookup_found s t 0 dir name to is in (
      look_passes (kind_of (copies_now s dir)) (not (is_lawful_name name)) (lookup (copies_now s) dir name) has.1.unrefused
          ∙ ap (λ (o : Option Handle). Ok o) bound.0,
      bound.1,
    )

-- one that is refused ends the path
look_refused : (s t : Serial) (dir : Handle) (name : List ℕ) (why : Fault) (next : Handle → Result Handle Fault) → IsSoundWorld s
    → serial_call s 0 (call.Lookup dir name) ≡ refused why t → go_on (look (copies_now s) dir name) next ≡ Err why
look_refused s t dir name why next sound is = go (refused_cause s t 0 (call.Lookup dir name) why refl is) where
  go : IsCause s 0 (call.Lookup dir name) why → go_on (look (copies_now s) dir name) next ≡ Err why
  go (inl nobody) = absurd (let some = sound.actors in let none = nobody.1 in omega (arith, some, none))
  go (inr (inl e)) =
      look_stops (kind_of (copies_now s dir)) (not (is_lawful_name name)) (lookup (copies_now s) dir name) why next e
  go (inr (inr short)) = absurd (true≢false short.0.commits)

-- ---- on the way

-- so many names of a path have led to a node, and nothing has changed
abbrev pub IsOnTheWay : (first now : WorldState) → List (List ℕ) → ℕ → Handle → Type 0
IsOnTheWay first now names count at =
    (s : Serial) → Stands first s
    → Stands now s × (led_by (copies_now s) root names ≡ led_by (copies_now s) at (drop count names))

-- the names that are left begin with the next one
next_name : (names : List (List ℕ)) (i : ℕ) (name : List ℕ) → i < length names → name ≡ get_or names i name
    → drop i names ≡ name ∷ drop (i + 1) names
next_name names i name lt is = rw add-one (drop-cons names i name lt ∙ ap (λ (n : List ℕ). n ∷ drop (suc i) names) (sym is))

-- ONE NAME MORE
pub way_more : (first now next : WorldState) (names : List (List ℕ)) (i : ℕ) (name : List ℕ) (at to : Handle) → i < length names
    → name ≡ get_or names i name → IsOnTheWay first now names i at
    → Leads (IsToldOrStarved (call.Lookup at name) (Ok to) (λ (h : Handle). answers.Made h)) now next
    → IsOnTheWay first next names (i + 1) to
way_more first now next names i name at to lt is way looks = λ s stands.
    let here = way s stands in
    let known = looks s here.0 in
    let found = look_found s known.0 at name to known.1 in (
      subst (λ (t : Serial). Stands next t) found.1 known.2,
      here.1 ∙ ap (led_by (copies_now s) at) (next_name names i name lt is)
          ∙ ap (λ (r : Result (Option Handle) Fault). go_on r (λ h. led_by (copies_now s) h (drop (i + 1) names))) found.0,
    )

-- a name at which the path ends
pub way_refused : (first now next : WorldState) (names : List (List ℕ)) (i : ℕ) (name : List ℕ) (at : Handle) (why : Fault) → i < length names
    → name ≡ get_or names i name → IsOnTheWay first now names i at
    → Leads (IsToldOrStarved (call.Lookup at name) (Err why) (λ (h : Handle). answers.Made h)) now next
    → Leads (IsLed root names (Err why)) first next
way_refused first now next names i name at why lt is way looks = λ s stands.
    let here = way s stands in
    let known = looks s here.0 in
    let rest : led_by (copies_now s) root names ≡ go_on (look (copies_now s) at name) (λ h. led_by (copies_now s) h (drop (i + 1) names)) =
    here.1 ∙ ap (led_by (copies_now s) at) (next_name names i name lt is) in
    (known.0, (known.1.1, ends s (files_sound first s stands) rest known.1.0), known.2) where
      ends : (s : Serial) → IsSoundWorld s
          → led_by (copies_now s) root names ≡ go_on (look (copies_now s) at name) (λ h. led_by (copies_now s) h (drop (i + 1) names))
          → (serial_call s 0 (call.Lookup at name) ≡ refused why s) ⊎ (why ≡ out_of_memory)
          → (led_by (copies_now s) root names ≡ Err why) ⊎ (why ≡ out_of_memory)
      ends s sound rest (inl e) = inl (rest ∙ look_refused s s at name why (λ h. led_by (copies_now s) h (drop (i + 1) names)) sound e)
      ends s sound rest (inr starved) = inr starved

-- THE END of the path
pub way_done : (first now : WorldState) (names : List (List ℕ)) (i : ℕ) (at : Handle) → length names ≤ i
    → IsOnTheWay first now names i at → Leads (IsLed root names (Ok at)) first now
way_done first now names i at all way = λ s stands.
    let here = way s stands in
    (s, (refl, here.1 ∙ ap (led_by (copies_now s) at) (drop_all i names all)), here.0)
