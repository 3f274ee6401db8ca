-- A record that is read is the record that was written, and what was written is read again.
use Rattle.std.proofs.Common.{◌≡◌, ◌-◌, ℕ, zero, arith, List, [], ◌∷◌, ◌++◌, length, Result, Ok, Err, Bor, refl, sym, ap, ◌∙◌, subst}
use Rattle.std.specs.Prelude.{IfOk}
use Rattle.nv_calls.specs.declared.call.Call.{Call}
use Rattle.nv_calls.specs.declared.call.Call.TheVariants as call
use Rattle.nv_calls.specs.declared.snapshot_or_cleaner_call.SnapshotOrCleanerCall.TheVariants as on
use Rattle.nv_records.specs.declared.fault.Fault.{Fault}
use Rattle.nv_records.specs.declared.fault.Lack.{Lack}
use Rattle.nv_records.specs.declared.fault.ReadError.{ReadError}
use Rattle.nv_records.specs.declared.fault.Wanted.TheVariants.{Tag}
use Rattle.nv_records.specs.declared.record.Record.{Record}
use Rattle.nv_records.specs.declared.record.Record.TheVariants as kept
use Rattle.nv_records.specs.Reading.{◌>>=◌, Answers, call_at, fields_at, made, placed, record_at, snapshot_or_cleaner_at, string_at, tagged_at}
use Rattle.nv_records.specs.Records.{Fits, bytes_of, call_bytes}
use Rattle.nv_records.proofs.Calls.{Behind, again, behind, call_again, call_takes, pick, with_tag}
use Rattle.nv_records.proofs.Fields.{IsBytes, IsBytes-rest, Takes, bind_ok, ok_is, string_is}

abbrev IsBehind : ℕ → List ℕ → Record × List ℕ → Type 0
IsBehind = Behind bytes_of Fits

-- a call that was read is a record that was read
kept_call : (tag : ℕ) (bytes : List ℕ) (x : Record × List ℕ) → IsBytes bytes
    → made (λ (what : Call). kept.Call what) (call_at tag bytes) ≡ Ok x → IsBehind tag bytes x
kept_call tag bytes x fits e =
    let a = bind_ok (call_at tag bytes) (λ y. Ok (kept.Call y.0, y.1)) x e in
    subst (IsBehind tag bytes) (ok_is (kept.Call a.0.0, a.0.1) x a.2)
    (call_takes tag bytes a.0 fits a.1)

fields_take : (tag : ℕ) (bytes : List ℕ) (x : Record × List ℕ) → IsBytes bytes
    → fields_at tag bytes ≡ Ok x → IsBehind tag bytes x
unfolding fields_at
fields_take tag bytes x fits e =
    pick bytes_of Fits tag 20 bytes x _ _
    (λ found.
    subst (IsBehind 20 bytes) (ok_is (kept.Stopped, bytes) x found)
    (record { parts = refl; rest_fits = fits }, tt))
    (λ e1. pick bytes_of Fits tag 21 bytes x _ _
    (λ found.
    behind string_is bytes_of Fits 21 (λ text. kept.Note text) (λ text. refl) (λ text h. h)
    bytes x fits found)
    (λ e2. kept_call tag bytes x fits e2) e1) e

record_takes : (bytes : List ℕ) (x : Record × List ℕ) → IsBytes bytes → tagged_at bytes ≡ Ok x
    → Takes bytes (bytes_of x.0) x.1 × Fits x.0
unfolding tagged_at
record_takes [] x fits e = absurd cc
record_takes (tag ∷ bytes) x fits e = fields_take tag bytes x (IsBytes-rest tag bytes fits) e

-- ---- what was written is read again

-- behind the tag of a call stands a call
kept_with_tag : (c : Call) (rest : List ℕ)
    → tagged_at (call_bytes c ++ rest)
    ≡ made (λ (what : Call). kept.Call what) (with_tag (call_bytes c ++ rest))
unfolding tagged_at fields_at
kept_with_tag (call.Create dir name mode) rest = refl
kept_with_tag (call.Mkdir dir name mode) rest = refl
kept_with_tag (call.Write file offset text) rest = refl
kept_with_tag (call.Read file offset count) rest = refl
kept_with_tag (call.Size file size) rest = refl
kept_with_tag (call.Mode node mode) rest = refl
kept_with_tag (call.Stat node) rest = refl
kept_with_tag (call.List dir) rest = refl
kept_with_tag (call.Lookup dir name) rest = refl
kept_with_tag (call.Unlink dir name) rest = refl
kept_with_tag (call.Rmdir dir name) rest = refl
kept_with_tag (call.Rename from old to new) rest = refl
kept_with_tag (call.SnapshotOrCleaner on.Snap) rest = refl
kept_with_tag (call.SnapshotOrCleaner (on.Drop n)) rest = refl
kept_with_tag (call.SnapshotOrCleaner (on.Show n)) rest = refl
kept_with_tag (call.SnapshotOrCleaner (on.Drain n)) rest = refl
kept_with_tag (call.SnapshotOrCleaner (on.Fast n)) rest = refl
kept_with_tag (call.SnapshotOrCleaner (on.Thorough n)) rest = refl
kept_with_tag (call.SnapshotOrCleaner (on.Auto n)) rest = refl

kept_again : (c : Call) (rest : List ℕ) (read : Result (Call × List ℕ) Lack) → read ≡ Ok (c, rest)
    → made (λ (what : Call). kept.Call what) read ≡ Ok (kept.Call c, rest)
kept_again c rest read e = rw e refl

tagged_again : (k : Record) (rest : List ℕ) → Fits k → tagged_at (bytes_of k ++ rest) ≡ Ok (k, rest)
unfolding tagged_at fields_at
tagged_again (kept.Call c) rest fits =
    kept_with_tag c rest
    ∙ kept_again c rest (with_tag (call_bytes c ++ rest)) (call_again c rest fits)
tagged_again kept.Stopped rest fits = refl
tagged_again (kept.Note text) rest fits = again string_is (λ t. kept.Note t) text rest fits

pub record_again : (k : Record) (rest : List ℕ) → Fits k
    → record_at (bytes_of k ++ rest) ≡ Ok (k, rest)
record_again k rest fits =
    ap (λ (r : Result (Record × List ℕ) Lack). placed (length (bytes_of k ++ rest)) r)
    (tagged_again k rest fits)

-- ---- what the contracts say

-- the tag of images is that of no record
pub image_is_none : (rest : List ℕ)
    → record_at (22 ∷ rest) ≡ Err (record { wanted = Tag; place = 0 })
unfolding tagged_at fields_at call_at snapshot_or_cleaner_at
image_is_none rest =
    let none : length (22 ∷ rest) - length (22 ∷ rest) ≡ 0 = omega arith in
    rw none refl

pub one_text : (k other : Record) (x y : List ℕ) → Fits k → Fits other
    → bytes_of k ++ x ≡ bytes_of other ++ y → (k ≡ other) × (x ≡ y)
one_text k other x y p q e =
    let same = sym (tagged_again k x p) ∙ ap tagged_at e ∙ tagged_again other y q in
    let is = ok_is (k, x) (other, y) same in
    (ap (λ (z : Record × List ℕ). z.0) is, ap (λ (z : Record × List ℕ). z.1) is)

-- what was read at a place was read
placed_ok : (len : ℕ) (read : Result (Record × List ℕ) Lack) (x : Record × List ℕ)
    → placed len read ≡ Ok x → read ≡ Ok x
placed_ok len (Ok y) x e = cc
placed_ok len (Err lack) x e = absurd cc

pub is_found : (bytes : List ℕ) (r : Result (Record × Bor (List ℕ)) ReadError) → IsBytes bytes
    → Answers (λ x. (x.0, x.1.now)) r (record_at bytes)
    → IfOk r (λ x. Fits x.0 × (bytes ≡ bytes_of x.0 ++ x.1.now))
is_found bytes (Ok x) fits given =
    let read = placed_ok (length bytes) (tagged_at bytes) (x.0, x.1.now) given in
    let t = record_takes bytes (x.0, x.1.now) fits read in
    (t.1, t.0.parts)
is_found bytes (Err e) fits given = tt
