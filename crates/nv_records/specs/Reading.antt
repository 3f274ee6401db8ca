-- Reading a record from left to right.
use Rattle.std.specs.Prelude.{◌≡◌, ◌-◌, ℕ, suc, List, [], ◌∷◌, length, take, drop, Result, Ok, Err, nat_lt, nat_le, ◌==◌, Bool, true, false, if◌then◌else◌}
use Rattle.std.specs.Int.{Width, w64, byte_len, from_le_bytes}
use Rattle.nv_base.specs.declared.limits.TheConstants.{MODE}
use Rattle.nv_base.specs.declared.numbers.Handle.{Handle}
use Rattle.nv_calls.specs.declared.call.Call.{Call}
use Rattle.nv_calls.specs.declared.call.Call.TheVariants as call
use Rattle.nv_calls.specs.declared.snapshot_or_cleaner_call.SnapshotOrCleanerCall.{SnapshotOrCleanerCall}
use Rattle.nv_calls.specs.declared.snapshot_or_cleaner_call.SnapshotOrCleanerCall.TheVariants as on
use Rattle.nv_records.specs.declared.fault.Fault.{Fault}
use Rattle.nv_records.specs.declared.fault.FieldError.{FieldError}
use Rattle.nv_records.specs.declared.fault.FieldError.TheVariants as lacks
use Rattle.nv_records.specs.declared.fault.Lack.{Lack}
use Rattle.nv_records.specs.declared.fault.ReadError.{ReadError}
use Rattle.nv_records.specs.declared.fault.ReadError.TheVariants as errors
use Rattle.nv_records.specs.declared.fault.Wanted.{Wanted}
use Rattle.nv_records.specs.declared.fault.Wanted.TheVariants.{Tag, Number, Mode, Text}
use Rattle.nv_records.specs.declared.record.Record.{Record}
use Rattle.nv_records.specs.declared.record.Record.TheVariants as kept

infixl 10 ◌>>=◌
abbrev pub ◌>>=◌ : {A B : Type 0} → Result A Lack → (A → Result B Lack) → Result B Lack
(Ok x) >>= f = f x
(Err e) >>= f = Err e

-- what a function returned, seen by view, is what a field reads as, unless memory was refused
abbrev pub Gives : {X Y : Type 0} → (X → Y) → Result X FieldError → Result Y Lack → Type 0
Gives view (Ok x) read = read ≡ Ok (view x)
Gives view (Err lacks.Memory) read = Unit {0}
Gives view (Err (lacks.Lack lack)) read = read ≡ Err lack

-- a value, and the bytes behind it
abbrev pub Reads : Type 0 → Type 0
Reads A = List ℕ → Result (A × List ℕ) Lack

-- this is wanted where these bytes stand
abbrev pub lack_at : Wanted → List ℕ → Lack
lack_at wanted bytes = record { wanted = wanted; left = length bytes }

-- ---- fields

abbrev pub width_at : Width → Reads ℕ
width_at w bytes =
    if nat_lt (length bytes) (byte_len w) then Err (lack_at Number bytes)
    else Ok (from_le_bytes w (take (byte_len w) bytes), drop (byte_len w) bytes)

unfoldable pub number_at : Reads ℕ
number_at bytes = width_at w64 bytes

unfoldable pub string_at : Reads (List ℕ)
string_at bytes = do
  n ← number_at bytes
  if nat_lt (length n.1) n.0 then Err (lack_at Text n.1) else Ok (take n.0 n.1, drop n.0 n.1)

unfoldable pub mode_at : Reads ℕ
mode_at bytes = do
  n ← number_at bytes
  if nat_le n.0 MODE then Ok n else Err (lack_at Mode bytes)

-- two fields, one behind the other
unfoldable pub pair_at : {A B : Type 0} → Reads A → Reads B → Reads (A × B)
pair_at a b bytes = do
  x ← a bytes
  y ← b x.1
  Ok ((x.0, y.0), y.1)

-- what is made of what is read
abbrev pub made : {A B : Type 0} → (A → B) → Result (A × List ℕ) Lack → Result (B × List ℕ) Lack
made f read = read >>= λ x. Ok (f x.0, x.1)

abbrev pub handle_of : ℕ × ℕ → Handle
handle_of n = record { ino = n.0; generation = n.1 }

abbrev pub handle_at : Reads Handle
handle_at bytes = made handle_of (pair_at number_at number_at bytes)

-- ---- calls, each by its fields

unfoldable pub create_at : Bool → Reads Call
create_at is_dir bytes =
    made (λ (x : (Handle × List ℕ) × ℕ).
    if is_dir then call.Mkdir x.0.0 x.0.1 x.1 else call.Create x.0.0 x.0.1 x.1)
    (pair_at (pair_at handle_at string_at) mode_at bytes)

unfoldable pub write_at : Reads Call
write_at bytes =
    made (λ (x : (Handle × ℕ) × List ℕ). call.Write x.0.0 x.0.1 x.1)
    (pair_at (pair_at handle_at number_at) string_at bytes)

unfoldable pub read_at : Reads Call
read_at bytes =
    made (λ (x : (Handle × ℕ) × ℕ). call.Read x.0.0 x.0.1 x.1)
    (pair_at (pair_at handle_at number_at) number_at bytes)

unfoldable pub size_at : Reads Call
size_at bytes = made (λ (x : Handle × ℕ). call.Size x.0 x.1) (pair_at handle_at number_at bytes)

unfoldable pub set_mode_at : Reads Call
set_mode_at bytes = made (λ (x : Handle × ℕ). call.Mode x.0 x.1) (pair_at handle_at mode_at bytes)

unfoldable pub stat_at : Reads Call
stat_at bytes = made (λ (h : Handle). call.Stat h) (handle_at bytes)

unfoldable pub list_at : Reads Call
list_at bytes = made (λ (h : Handle). call.List h) (handle_at bytes)

unfoldable pub lookup_at : Reads Call
lookup_at bytes =
    made (λ (x : Handle × List ℕ). call.Lookup x.0 x.1) (pair_at handle_at string_at bytes)

unfoldable pub unlink_at : Reads Call
unlink_at bytes =
    made (λ (x : Handle × List ℕ). call.Unlink x.0 x.1) (pair_at handle_at string_at bytes)

unfoldable pub rmdir_at : Reads Call
rmdir_at bytes =
    made (λ (x : Handle × List ℕ). call.Rmdir x.0 x.1) (pair_at handle_at string_at bytes)

-- a directory, and a name in it
abbrev pub Named : Type 0
Named = Handle × List ℕ

unfoldable pub rename_at : Reads Call
rename_at bytes =
    made (λ (x : Named × Named). call.Rename x.0.0 x.0.1 x.1.0 x.1.1)
    (pair_at (pair_at handle_at string_at) (pair_at handle_at string_at) bytes)

-- a call that has a number alone
unfoldable pub numbered_at : (ℕ → SnapshotOrCleanerCall) → Reads Call
numbered_at f bytes = made (λ (n : ℕ). call.SnapshotOrCleaner (f n)) (number_at bytes)

-- ---- what stands behind a tag

unfoldable pub snapshot_or_cleaner_at : ℕ → Reads Call
snapshot_or_cleaner_at tag bytes =
    if tag == 13 then Ok (call.SnapshotOrCleaner on.Snap, bytes)
    else (if tag == 14 then numbered_at (λ n. on.Drop n) bytes
    else (if tag == 15 then numbered_at (λ n. on.Show n) bytes
    else (if tag == 16 then numbered_at (λ n. on.Drain n) bytes
    else (if tag == 17 then numbered_at (λ n. on.Fast n) bytes
    else (if tag == 18 then numbered_at (λ n. on.Thorough n) bytes
    else (if tag == 19 then numbered_at (λ n. on.Auto n) bytes
    else Err (lack_at Tag (tag ∷ bytes))))))))

unfoldable pub call_at : ℕ → Reads Call
call_at tag bytes =
    if tag == 1 then create_at false bytes
    else (if tag == 2 then create_at true bytes
    else (if tag == 3 then write_at bytes
    else (if tag == 4 then read_at bytes
    else (if tag == 5 then size_at bytes
    else (if tag == 6 then set_mode_at bytes
    else (if tag == 7 then stat_at bytes
    else (if tag == 8 then list_at bytes
    else (if tag == 9 then lookup_at bytes
    else (if tag == 10 then unlink_at bytes
    else (if tag == 11 then rmdir_at bytes
    else (if tag == 12 then rename_at bytes
    else snapshot_or_cleaner_at tag bytes)))))))))))

unfoldable pub fields_at : ℕ → Reads Record
fields_at tag bytes =
    if tag == 20 then Ok (kept.Stopped, bytes)
    else (if tag == 21 then made (λ (text : List ℕ). kept.Note text) (string_at bytes)
    else made (λ (what : Call). kept.Call what) (call_at tag bytes))

unfoldable pub tagged_at : Reads Record
tagged_at [] = Err (lack_at Tag [])
tagged_at (tag ∷ bytes) = fields_at tag bytes

-- ---- the place of a fault, counted from the first of all bytes

abbrev pub placed : {A : Type 0} → ℕ → Result A Lack → Result A Fault
placed len (Ok x) = Ok x
placed len (Err lack) = Err (record { wanted = lack.wanted; place = len - lack.left })

-- READING A RECORD: the record that bytes begin with and the bytes behind it, or what they lack
abbrev pub record_at : List ℕ → Result (Record × List ℕ) Fault
record_at bytes = placed (length bytes) (tagged_at bytes)

-- what a function returned, seen by view, is this, unless memory was refused
abbrev pub Answers : {X Y : Type 0} → (X → Y) → Result X ReadError → Result Y Fault → Type 0
Answers view (Ok x) read = read ≡ Ok (view x)
Answers view (Err errors.Memory) read = Unit {0}
Answers view (Err (errors.Fault fault)) read = read ≡ Err fault
