-- What a method of a store tells, by its steps.
use Rattle.std.proofs.Common.{◌≡◌, ◌∙◌, ℕ, Bool, true, false, List, Result, Ok, Err, ap, inr, refl, subst, sym}
use Rattle.std.specs.Prelude.{IfErr, IfOk, OnErr, OnOk}
use Rattle.std.proofs.lemmas.Bool.{true≢false}
use Rattle.nv_base.specs.Names.{is_lawful_name, same_name}
use Rattle.nv_base.specs.declared.fault.Fault.{Fault}
use Rattle.nv_core.specs.Worlds.{WorldState}
use Rattle.nv_machine.specs.PlainRun.{Plain}
use Rattle.nv_serial.specs.Serial.{Serial}
use Rattle.nv_files.specs.Stands.{Stands}
use Rattle.nv_files.proofs.Standing.{plain_stands}
use Rattle.nv_example_store.specs.Faults.{IsKeyFault, IsTidyCause}
use Rattle.nv_example_store.specs.Held.{BecomesBy, FindsBy, TidiesBy}
use Rattle.nv_example_store.specs.Keys.{may_be_key, scratch}
use Rattle.nv_example_store.specs.Stored.{IsCausedIn, IsStore, Steps, store_in, value_in}
use Rattle.nv_example_store.specs.Tidied.{IsTidied}
use Rattle.nv_example_store.specs.Values.{StoreValue}

-- files show the store that their world holds
pub shown : (w : WorldState) (s : Serial) → Stands w s → store_in w ≡ value_in s.plain
shown w s stands = ap (λ (p : Plain). value_in p) (plain_stands w s stands)

-- files hold a store again
pub rests : (To : Serial → Serial → Type 0) (old new : WorldState) → IsStore old → Steps To old new → IsStore new
rests To old new (s, stands, holds) steps = let next = steps s stands holds in (next.0, next.2, next.3)

-- by the result: what the store becomes, and why a step is refused
pub by_result : {T : Type 0} (To : T → StoreValue → StoreValue → Type 0) (Fails : Serial → Fault → Type 0) (result : Result T Fault)
    (old new : WorldState) → IsStore old → Steps (BecomesBy To Fails result) old new
    → IfOk result (λ done. To done (store_in old) (store_in new)) × IfErr result (IsCausedIn Fails old)
    × OnErr result (store_in new ≡ store_in old)
by_result To Fails (Ok done) old new (s, stands, holds) steps =
    let next = steps s stands holds in
    let before : value_in s.plain ≡ store_in old = sym (shown old s stands) in
    let behind : value_in (next.0).plain ≡ store_in new = sym (shown new next.0 next.2) in
    (subst (λ (v : StoreValue). To done v (store_in new)) before (subst (λ (v : StoreValue). To done (value_in s.plain) v) behind next.1), tt, tt)
by_result To Fails (Err why) old new (s, stands, holds) steps =
    let next = steps s stands holds in (
      tt,
      (λ t rests_as has. (steps t rests_as has).1.1),
      shown new next.0 next.2 ∙ next.1.0 ∙ sym (shown old s stands),
    )

-- a cause that the store alone decides
pub cause_shown : {T : Type 0} (Fails : StoreValue → Fault → Type 0) (result : Result T Fault) (old : WorldState) → IsStore old
    → IfErr result (IsCausedIn (λ s why. Fails (value_in s.plain) why) old) → IfErr result (Fails (store_in old))
cause_shown Fails (Ok done) old is causes = tt
cause_shown Fails (Err why) old (s, stands, holds) causes =
    subst (λ (v : StoreValue). Fails v why) (sym (shown old s stands)) (causes s stands holds)

-- the same of a tidying
pub tidied_by : (result : Result (Unit {0}) Fault) (old new : WorldState) → IsStore old → Steps (TidiesBy result) old new
    → OnOk result (Steps IsTidied old new) × IfErr result (IsCausedIn IsTidyCause old) × (store_in new ≡ store_in old)
tidied_by (Ok done) old new (s, stands, holds) steps =
    let next = steps s stands holds in (
      (λ t rests_as has. let then = steps t rests_as has in (then.0, then.1.1, then.2, then.3)),
      tt,
      shown new next.0 next.2 ∙ next.1.0 ∙ sym (shown old s stands),
    )
tidied_by (Err why) old new (s, stands, holds) steps =
    let next = steps s stands holds in (
      tt,
      (λ t rests_as has. (steps t rests_as has).1.1),
      shown new next.0 next.2 ∙ next.1.0 ∙ sym (shown old s stands),
    )

-- what is found, of the store as it is, and why a step is refused
pub finds : {T : Type 0} (P : StoreValue → T → Type 0) (Fails : StoreValue → Fault → Type 0) (result : Result T Fault)
    (old new : WorldState) → IsStore old
    → Steps (FindsBy (λ s found. P (value_in s.plain) found) (λ s why. Fails (value_in s.plain) why) result) old new
    → IfOk result (λ found. P (store_in old) found) × IfErr result (Fails (store_in old)) × (store_in new ≡ store_in old)
finds P Fails (Ok found) old new (s, stands, holds) steps =
    let next = steps s stands holds in (
      subst (λ (v : StoreValue). P v found) (sym (shown old s stands)) next.1.1,
      tt,
      shown new next.0 next.2 ∙ ap (λ (t : Serial). value_in t.plain) next.1.0 ∙ sym (shown old s stands),
    )
finds P Fails (Err why) old new (s, stands, holds) steps =
    let next = steps s stands holds in (
      tt,
      subst (λ (v : StoreValue). Fails v why) (sym (shown old s stands)) next.1.1,
      shown new next.0 next.2 ∙ ap (λ (t : Serial). value_in t.plain) next.1.0 ∙ sym (shown old s stands),
    )

-- ---- keys

-- a key is lawful, and another name than the one that is no key
pub key_is : (key : List ℕ) → may_be_key key ≡ true → (is_lawful_name key ≡ true) × (same_name key scratch ≡ false)
key_is key is = go (is_lawful_name key) (same_name key scratch) refl refl is where
  go : (lawful other : Bool) → is_lawful_name key ≡ lawful → same_name key scratch ≡ other → may_be_key key ≡ true
      → (is_lawful_name key ≡ true) × (same_name key scratch ≡ false)
  go true false e f both = (e, f)
  go true true e f both = absurd (true≢false (sym both ∙ rw (e, f) refl))
  go false other e f both = absurd (true≢false (sym both ∙ rw e refl))

-- the fault of a key
pub of_key : {T : Type 0} (Of : Fault → Type 0) (key : List ℕ) (result : Result T Fault) → may_be_key key ≡ true → IfErr result Of
    → IfErr result (IsKeyFault Of key)
of_key Of key (Ok done) is fails = tt
of_key Of key (Err why) is fails = inr (is, fails)

-- both of what is told of an answer
pub both_ok : {T E : Type 0} (P Q : Type 0) (result : Result T E) → IfOk result (λ done. P × Q) → OnOk result P × OnOk result Q
both_ok P Q (Ok done) both = both
both_ok P Q (Err why) both = (tt, tt)
