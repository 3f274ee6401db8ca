-- A look at the names of a call.
use Rattle.std.proofs.Common.{◌≡◌, ℕ, zero, suc, ◌<◌, ◌∙◌, if◌then◌else◌, Bool, true, false, not, List, [], ◌∷◌, length, Option, Some, None, ap, arith, inl, inr, refl, subst, sym, ◌⊎◌}
use Rattle.std.specs.Prelude.{MatchResult, Result, Ok, Err}
use Rattle.nv_base.specs.Names.{is_lawful_name}
use Rattle.nv_base.specs.declared.fault.Fault.{Fault}
use Rattle.nv_base.specs.declared.fault.Fault.TheVariants as faults
use Rattle.nv_base.specs.declared.node.Kind.{Kind}
use Rattle.nv_base.specs.declared.node.Kind.TheVariants.{File, Dir}
use Rattle.nv_base.specs.declared.numbers.Handle.{Handle}
use Rattle.nv_calls.specs.AllCalls.{look_refusal, looked}
use Rattle.nv_calls.specs.Looks.{IsFirstLook, directories, look_tests, seen_at}
use Rattle.nv_calls.specs.Plain.{same_handle}
use Rattle.nv_calls.specs.Refusals.{Check, and_find, found, kind_of, look, lookup, passes, refuse_if, want_bound, want_directory}
use Rattle.nv_calls.specs.calls.Lookup.{lookup_refusal}
use Rattle.nv_calls.specs.Updates.{blank_call, call_of}
use Rattle.nv_calls.specs.declared.looked.LookupResult.{LookupResult}
use Rattle.nv_calls.specs.declared.update.Update.{Update}
use Rattle.nv_calls.specs.declared.update.Update.TheVariants as update
use Rattle.nv_entry.specs.declared.node.NodeCopy.{NodeCopy}

-- a name that is looked up in vain is refused alike
pub look_refused : (nodes : Handle → Option NodeCopy) (dir : Handle) (name : List ℕ) (fault : Fault) → look nodes dir name ≡ Err fault
    → lookup_refusal nodes dir name ≡ Err fault
look_refused nodes dir name fault = go (kind_of (nodes dir)) (is_lawful_name name) (lookup nodes dir name)
  where
    go : (kind : Option Kind) (b : Bool) (to : Option Handle)
        → and_find (want_directory kind (refuse_if (not b) faults.BadName passes)) to ≡ Err fault
        → want_directory kind (refuse_if (not b) faults.BadName (want_bound to (λ h. passes))) ≡ Err fault
    go None b to is = cc
    go (Some File) b to is = cc
    go (Some Dir) false to is = cc
    go (Some Dir) true to is = cc

-- ---- what a look of a call comes to

-- it is told by these tests, and by what it found
abbrev pub IsLook : Check → LookupResult → Result LookupResult Fault → Type 0
IsLook tests found result = MatchResult result (λ l. (tests ≡ passes) × (l ≡ found)) (λ fault. tests ≡ Err fault)

-- a call that looks up one name
pub look_one : (tests : Check) (first : Option Handle) (dir : Handle) (place : ℕ) (before : LookupResult) (result : Result LookupResult Fault)
    → place < 1 → IsFirstLook tests first None result
    → IsLook (look_tests place tests) (seen_at (dir ∷ []) place (record { first = first; second = None }) before) result
look_one tests first dir zero before (Ok found) few is = is
look_one tests first dir zero before (Err fault) few is = is
look_one tests first dir (suc place) before result few is = absurd (omega (arith, few))

-- the first look of a call with two names
pub look_two : (tests : Check) (first second found : Option Handle) (from to : Handle) (same : Bool) (place : ℕ) (before : LookupResult)
    (result : Result LookupResult Fault) → place < 1 → found ≡ (if same then second else None) → IsFirstLook tests first found result
    → IsLook (look_tests place tests)
    (seen_at (if same then from ∷ [] else from ∷ to ∷ []) place (record { first = first; second = second }) before) result
look_two tests first second found from to true zero before (Ok l) few beside is =
    (is.0, is.1 ∙ ap (λ (o : Option Handle). let made : LookupResult = record { first = first; second = o } in made) beside)
look_two tests first second found from to false zero before (Ok l) few beside is =
    (is.0, is.1 ∙ ap (λ (o : Option Handle). let made : LookupResult = record { first = first; second = o } in made) beside)
look_two tests first second found from to true zero before (Err fault) few beside is = is
look_two tests first second found from to false zero before (Err fault) few beside is = is
look_two tests first second found from to same (suc place) before result few beside is = absurd (omega (arith, few))

-- and the second
pub look_later : (tests : Check) (now before : LookupResult) (from to : Handle) (same : Bool) (place : ℕ) (found : Option Handle) → 0 < place
    → place < length (if same then from ∷ [] else from ∷ to ∷ []) → found ≡ now.second
    → (look_tests place tests ≡ passes)
    × ((let made : LookupResult = record { first = before.first; second = found } in made)
    ≡ seen_at (if same then from ∷ [] else from ∷ to ∷ []) place now before)
look_later tests now before from to same zero found some few is = absurd (omega (arith, some))
look_later tests now before from to true (suc place) found some few is = absurd (omega (arith, few))
look_later tests now before from to false (suc place) found some few is =
    (refl, ap (λ (o : Option Handle). let made : LookupResult = record { first = before.first; second = o } in made) is)

-- what it comes to over these nodes
abbrev pub IsLookOf : (Handle → Option NodeCopy) → Update → List ℕ → ℕ → LookupResult → Result LookupResult Fault → Type 0
IsLookOf n u text place before result =
    let c = call_of u text in
    IsLook (look_tests place (look_refusal n c)) (seen_at (directories c) place (looked n c) before) result

-- the place of a look
abbrev pub HasPlace : ℕ → Update → Type 0
HasPlace place u = place < length (directories (blank_call u))

module _ (n : Handle → Option NodeCopy) (u : Update) (text : List ℕ) (place : ℕ) (before : LookupResult) (result : Result LookupResult Fault) where
  pub look_removal : (dir : Handle) (name : List ℕ) → (u ≡ update.Unlink dir name) ⊎ (u ≡ update.Rmdir dir name) → HasPlace place u
      → IsFirstLook (lookup_refusal n dir name) (found n dir name) None result → IsLookOf n u text place before result
  look_removal dir name (inl is) few first =
      subst (λ (x : Update). HasPlace place x → IsLookOf n x text place before result) (sym is)
      (λ less. look_one (lookup_refusal n dir name) (found n dir name) dir place before result less first) few
  look_removal dir name (inr is) few first =
      subst (λ (x : Update). HasPlace place x → IsLookOf n x text place before result) (sym is)
      (λ less. look_one (lookup_refusal n dir name) (found n dir name) dir place before result less first) few

  pub look_rename : (from : Handle) (old : List ℕ) (to : Handle) (new : List ℕ) (second : Option Handle) → u ≡ update.Rename from old to new
      → place < 1 → second ≡ (if same_handle from to then found n to new else None)
      → IsFirstLook (lookup_refusal n from old) (found n from old) second result → IsLookOf n u text place before result
  look_rename from old to new second is few beside first =
      subst (λ (x : Update). IsLookOf n x text place before result) (sym is)
      (look_two (lookup_refusal n from old) (found n from old) (found n to new) second from to (same_handle from to) place before result
      few beside first)

pub look_second : (n : Handle → Option NodeCopy) (u : Update) (text : List ℕ) (place : ℕ) (before : LookupResult) (from : Handle) (old : List ℕ)
    (to : Handle) (new : List ℕ) (second : Option Handle) → u ≡ update.Rename from old to new → 0 < place → HasPlace place u
    → second ≡ found n to new → IsLookOf n u text place before (Ok (record { first = before.first; second = second }))
look_second n u text place before from old to new second is some few found_is =
    subst (λ (x : Update). HasPlace place x → IsLookOf n x text place before (Ok (record { first = before.first; second = second }))) (sym is)
    (λ less. look_later (lookup_refusal n from old) (looked n (call_of (update.Rename from old to new) text)) before from to
    (same_handle from to) place second some less found_is) few
