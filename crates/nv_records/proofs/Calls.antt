-- A call that is read is the call that was written, and what was written is read again.
use Rattle.std.proofs.Common.{◌≡◌, ℕ, ◌^◌, Bool, cond, eqb, inl, inr, List, [], ◌∷◌, ◌++◌, Result, Ok, Err, refl, sym, ap, subst, ◌∙◌}
use Rattle.std.proofs.lemmas.Bool.{cases_eq, eq-eqb, ne_eqb}
use Rattle.nv_base.specs.declared.numbers.Handle.{Handle}
use Rattle.nv_calls.specs.declared.call.Call.{Call}
use Rattle.nv_calls.specs.declared.call.Call.TheVariants as call
use Rattle.nv_calls.specs.declared.snapshot_or_cleaner_call.SnapshotOrCleanerCall.{SnapshotOrCleanerCall}
use Rattle.nv_calls.specs.declared.snapshot_or_cleaner_call.SnapshotOrCleanerCall.TheVariants as on
use Rattle.nv_records.specs.declared.fault.Lack.{Lack}
use Rattle.nv_records.specs.declared.fault.Wanted.TheVariants.{Tag}
use Rattle.nv_records.specs.Reading.{◌>>=◌, Reads, call_at, create_at, handle_at, lack_at, list_at, lookup_at, made, mode_at, number_at, numbered_at, pair_at, read_at, rename_at, rmdir_at, set_mode_at, size_at, snapshot_or_cleaner_at, stat_at, string_at, unlink_at, write_at}
use Rattle.nv_records.specs.Records.{CallFits, call_bytes}
use Rattle.nv_records.proofs.Fields.{IsBytes, IsExact, Takes, bind_ok, handle_is, mode_is, number_is, ok_is, pair_is, string_is}

abbrev okay : {R : Type 0} → R × List ℕ → Result (R × List ℕ) Lack
okay x = Ok x

pub not_read : {R : Type 0} (x : R × List ℕ) {lack : Lack} → Err lack ≡ okay x → ⊥
not_read x e = cc

-- what was read behind a tag: its bytes are the tag and those of its fields
abbrev pub Behind : {R : Type 0} → (R → List ℕ) → (R → Type 0) → ℕ → List ℕ → R × List ℕ → Type 0
Behind text P tag bytes x = Takes (tag ∷ bytes) (text x.0) x.1 × P x.0

-- fields that are exact, of which something is made
pub behind : {A R : Type 0} {field : A → List ℕ} {Q : A → Type 0} {reads : Reads A}
    → IsExact field Q reads → (text : R → List ℕ) (P : R → Type 0) (tag : ℕ) (f : A → R)
    → ((a : A) → text (f a) ≡ tag ∷ field a) → ((a : A) → Q a → P (f a))
    → (bytes : List ℕ) (x : R × List ℕ) → IsBytes bytes → made f (reads bytes) ≡ Ok x
    → Behind text P tag bytes x
behind {reads = reads} exact text P tag f texts fit bytes x fits e =
    let a = bind_ok (reads bytes) (λ y. Ok (f y.0, y.1)) x e in
    let t = exact.takes bytes a.0 fits a.1 in
    let parts : tag ∷ bytes ≡ text (f a.0.0) ++ a.0.1 =
    ap (λ (y : List ℕ). tag ∷ y) t.0.parts ∙ ap (λ (y : List ℕ). y ++ a.0.1) (sym (texts a.0.0)) in
    subst (Behind text P tag bytes) (ok_is (f a.0.0, a.0.1) x a.2)
    (record { parts = parts; rest_fits = t.0.rest_fits }, fit a.0.0 t.1)

-- a tag is this one, or another
pub pick : {R : Type 0} (text : R → List ℕ) (P : R → Type 0) (tag k : ℕ) (bytes : List ℕ)
    (x : R × List ℕ) (here there : Result (R × List ℕ) Lack)
    → (here ≡ Ok x → Behind text P k bytes x) → (there ≡ Ok x → Behind text P tag bytes x)
    → cond (eqb tag k) here there ≡ Ok x → Behind text P tag bytes x
pick text P tag k bytes x here there this other e =
    elim (cases_eq tag k) [
      | inl is ↦
          subst (λ (t : ℕ). Behind text P t bytes x) (sym is)
          (this (sym (ap (λ (b : Bool). cond b here there) (eq-eqb tag k is)) ∙ e))
      | inr not ↦ other (sym (ap (λ (b : Bool). cond b here there) (ne_eqb tag k not)) ∙ e)
    ]

-- the same of calls
abbrev IsBehind : ℕ → List ℕ → Call × List ℕ → Type 0
IsBehind = Behind call_bytes CallFits

call_behind : {A : Type 0} {field : A → List ℕ} {Q : A → Type 0} {reads : Reads A}
    → IsExact field Q reads → (tag : ℕ) (f : A → Call)
    → ((a : A) → call_bytes (f a) ≡ tag ∷ field a) → ((a : A) → Q a → CallFits (f a))
    → (bytes : List ℕ) (x : Call × List ℕ) → IsBytes bytes → made f (reads bytes) ≡ Ok x
    → IsBehind tag bytes x
call_behind exact tag f texts fit bytes x fits e =
    behind exact call_bytes CallFits tag f texts fit bytes x fits e

pick_call : (tag k : ℕ) (bytes : List ℕ) (x : Call × List ℕ)
    (here there : Result (Call × List ℕ) Lack)
    → (here ≡ Ok x → IsBehind k bytes x) → (there ≡ Ok x → IsBehind tag bytes x)
    → cond (eqb tag k) here there ≡ Ok x → IsBehind tag bytes x
pick_call tag k bytes x here there this other e =
    pick call_bytes CallFits tag k bytes x here there this other e

snapshot_or_cleaner_takes : (tag : ℕ) (bytes : List ℕ) (x : Call × List ℕ) → IsBytes bytes
    → snapshot_or_cleaner_at tag bytes ≡ Ok x → IsBehind tag bytes x
unfolding snapshot_or_cleaner_at numbered_at
snapshot_or_cleaner_takes tag bytes x fits e =
    pick_call tag 13 bytes x _ _
    (λ found.
    subst (IsBehind 13 bytes) (ok_is (call.SnapshotOrCleaner on.Snap, bytes) x found)
    (record { parts = refl; rest_fits = fits }, tt))
    (λ e1. pick_call tag 14 bytes x _ _
    (λ found.
    call_behind number_is 14 (λ n. call.SnapshotOrCleaner (on.Drop n)) (λ n. refl) (λ n h. h)
    bytes x fits found)
    (λ e2. pick_call tag 15 bytes x _ _
    (λ found.
    call_behind number_is 15 (λ n. call.SnapshotOrCleaner (on.Show n)) (λ n. refl) (λ n h. h)
    bytes x fits found)
    (λ e3. pick_call tag 16 bytes x _ _
    (λ found.
    call_behind number_is 16 (λ n. call.SnapshotOrCleaner (on.Drain n)) (λ n. refl) (λ n h. h)
    bytes x fits found)
    (λ e4. pick_call tag 17 bytes x _ _
    (λ found.
    call_behind number_is 17 (λ n. call.SnapshotOrCleaner (on.Fast n)) (λ n. refl) (λ n h. h)
    bytes x fits found)
    (λ e5. pick_call tag 18 bytes x _ _
    (λ found.
    call_behind number_is 18 (λ n. call.SnapshotOrCleaner (on.Thorough n)) (λ n. refl) (λ n h. h)
    bytes x fits found)
    (λ e6. pick_call tag 19 bytes x _ _
    (λ found.
    call_behind number_is 19 (λ n. call.SnapshotOrCleaner (on.Auto n)) (λ n. refl) (λ n h. h)
    bytes x fits found)
    (λ e7. absurd (not_read x e7)) e6) e5) e4) e3) e2) e1) e

pub call_takes : (tag : ℕ) (bytes : List ℕ) (x : Call × List ℕ) → IsBytes bytes
    → call_at tag bytes ≡ Ok x → IsBehind tag bytes x
unfolding call_at create_at write_at read_at size_at set_mode_at stat_at list_at lookup_at unlink_at rmdir_at rename_at
call_takes tag bytes x fits e =
    pick_call tag 1 bytes x _ _
    (λ found.
    call_behind (pair_is (pair_is handle_is string_is) mode_is) 1
    (λ y. call.Create y.0.0 y.0.1 y.1) (λ y. refl) (λ y h. h) bytes x fits found)
    (λ e1. pick_call tag 2 bytes x _ _
    (λ found.
    call_behind (pair_is (pair_is handle_is string_is) mode_is) 2
    (λ y. call.Mkdir y.0.0 y.0.1 y.1) (λ y. refl) (λ y h. h) bytes x fits found)
    (λ e2. pick_call tag 3 bytes x _ _
    (λ found.
    call_behind (pair_is (pair_is handle_is number_is) string_is) 3
    (λ y. call.Write y.0.0 y.0.1 y.1) (λ y. refl) (λ y h. h) bytes x fits found)
    (λ e3. pick_call tag 4 bytes x _ _
    (λ found.
    call_behind (pair_is (pair_is handle_is number_is) number_is) 4
    (λ y. call.Read y.0.0 y.0.1 y.1) (λ y. refl) (λ y h. h) bytes x fits found)
    (λ e4. pick_call tag 5 bytes x _ _
    (λ found.
    call_behind (pair_is handle_is number_is) 5
    (λ y. call.Size y.0 y.1) (λ y. refl) (λ y h. h) bytes x fits found)
    (λ e5. pick_call tag 6 bytes x _ _
    (λ found.
    call_behind (pair_is handle_is mode_is) 6
    (λ y. call.Mode y.0 y.1) (λ y. refl) (λ y h. h) bytes x fits found)
    (λ e6. pick_call tag 7 bytes x _ _
    (λ found.
    call_behind handle_is 7
    (λ y. call.Stat y) (λ y. refl) (λ y h. h) bytes x fits found)
    (λ e7. pick_call tag 8 bytes x _ _
    (λ found.
    call_behind handle_is 8
    (λ y. call.List y) (λ y. refl) (λ y h. h) bytes x fits found)
    (λ e8. pick_call tag 9 bytes x _ _
    (λ found.
    call_behind (pair_is handle_is string_is) 9
    (λ y. call.Lookup y.0 y.1) (λ y. refl) (λ y h. h) bytes x fits found)
    (λ e9. pick_call tag 10 bytes x _ _
    (λ found.
    call_behind (pair_is handle_is string_is) 10
    (λ y. call.Unlink y.0 y.1) (λ y. refl) (λ y h. h) bytes x fits found)
    (λ e10. pick_call tag 11 bytes x _ _
    (λ found.
    call_behind (pair_is handle_is string_is) 11
    (λ y. call.Rmdir y.0 y.1) (λ y. refl) (λ y h. h) bytes x fits found)
    (λ e11. pick_call tag 12 bytes x _ _
    (λ found.
    call_behind (pair_is (pair_is handle_is string_is) (pair_is handle_is string_is)) 12
    (λ y. call.Rename y.0.0 y.0.1 y.1.0 y.1.1) (λ y. refl) (λ y h. h) bytes x fits found)
    (λ e12. snapshot_or_cleaner_takes tag bytes x fits e12)
    e11) e10) e9) e8) e7) e6) e5) e4) e3) e2) e1) e

pub again : {A R : Type 0} {text : A → List ℕ} {P : A → Type 0} {reads : Reads A}
    → IsExact text P reads → (f : A → R) (a : A) (rest : List ℕ) → P a
    → made f (reads (text a ++ rest)) ≡ Ok (f a, rest)
again exact f a rest fits = rw (exact.again a rest fits) refl

-- a call, read with its tag
abbrev pub with_tag : Reads Call
with_tag [] = Err (lack_at Tag [])
with_tag (tag ∷ bytes) = call_at tag bytes

pub call_again : (c : Call) (rest : List ℕ) → CallFits c
    → with_tag (call_bytes c ++ rest) ≡ Ok (c, rest)
unfolding call_at snapshot_or_cleaner_at create_at write_at read_at size_at set_mode_at stat_at list_at lookup_at unlink_at rmdir_at rename_at numbered_at
call_again (call.Create dir name mode) rest fits =
    again (pair_is (pair_is handle_is string_is) mode_is) (λ y. call.Create y.0.0 y.0.1 y.1)
    ((dir, name), mode) rest fits
call_again (call.Mkdir dir name mode) rest fits =
    again (pair_is (pair_is handle_is string_is) mode_is) (λ y. call.Mkdir y.0.0 y.0.1 y.1)
    ((dir, name), mode) rest fits
call_again (call.Write file offset text) rest fits =
    again (pair_is (pair_is handle_is number_is) string_is) (λ y. call.Write y.0.0 y.0.1 y.1)
    ((file, offset), text) rest fits
call_again (call.Read file offset count) rest fits =
    again (pair_is (pair_is handle_is number_is) number_is) (λ y. call.Read y.0.0 y.0.1 y.1)
    ((file, offset), count) rest fits
call_again (call.Size file size) rest fits =
    again (pair_is handle_is number_is) (λ y. call.Size y.0 y.1)
    (file, size) rest fits
call_again (call.Mode node mode) rest fits =
    again (pair_is handle_is mode_is) (λ y. call.Mode y.0 y.1)
    (node, mode) rest fits
call_again (call.Stat node) rest fits =
    again handle_is (λ y. call.Stat y)
    node rest fits
call_again (call.List dir) rest fits =
    again handle_is (λ y. call.List y)
    dir rest fits
call_again (call.Lookup dir name) rest fits =
    again (pair_is handle_is string_is) (λ y. call.Lookup y.0 y.1)
    (dir, name) rest fits
call_again (call.Unlink dir name) rest fits =
    again (pair_is handle_is string_is) (λ y. call.Unlink y.0 y.1)
    (dir, name) rest fits
call_again (call.Rmdir dir name) rest fits =
    again (pair_is handle_is string_is) (λ y. call.Rmdir y.0 y.1)
    (dir, name) rest fits
call_again (call.Rename from old to new) rest fits =
    again (pair_is (pair_is handle_is string_is) (pair_is handle_is string_is))
    (λ y. call.Rename y.0.0 y.0.1 y.1.0 y.1.1)
    ((from, old), (to, new)) rest fits
call_again (call.SnapshotOrCleaner on.Snap) rest fits = refl
call_again (call.SnapshotOrCleaner (on.Drop n)) rest fits =
    again number_is (λ m. call.SnapshotOrCleaner (on.Drop m)) n rest fits
call_again (call.SnapshotOrCleaner (on.Show n)) rest fits =
    again number_is (λ m. call.SnapshotOrCleaner (on.Show m)) n rest fits
call_again (call.SnapshotOrCleaner (on.Drain n)) rest fits =
    again number_is (λ m. call.SnapshotOrCleaner (on.Drain m)) n rest fits
call_again (call.SnapshotOrCleaner (on.Fast n)) rest fits =
    again number_is (λ m. call.SnapshotOrCleaner (on.Fast m)) n rest fits
call_again (call.SnapshotOrCleaner (on.Thorough n)) rest fits =
    again number_is (λ m. call.SnapshotOrCleaner (on.Thorough m)) n rest fits
call_again (call.SnapshotOrCleaner (on.Auto n)) rest fits =
    again number_is (λ m. call.SnapshotOrCleaner (on.Auto m)) n rest fits
