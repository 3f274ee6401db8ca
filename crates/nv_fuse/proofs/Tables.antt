-- Tables of numbers read back.
use Rattle.std.proofs.Common.{◌≡◌, ℕ, zero, suc, ◌+◌, ◌-◌, ◌<◌, ◌^◌, ◌==◌, true, List, [], ◌∷◌, ◌++◌, length, get_or, drop, refl, sym, ap, ◌∙◌, append_assoc, length-append, add_assoc, arith}
use Rattle.std.proofs.lemmas.List.{drop_at}
use Rattle.std.proofs.lemmas.Bool.{and_parts, eqb-true}
use Rattle.byteorder.specs.Endian.{little_bytes, little_number}
use Rattle.byteorder.specs.Numbers.{length-bytes_low_first, little_number-reads_back}
use Rattle.nv_fuse.specs.Errors.{number_of}
use Rattle.nv_fuse.specs.Fields.{field}
use Rattle.nv_fuse.specs.Replies.{contents_of, error_of, header_rows, reply_bytes, reply_length, rows_of}
use Rattle.nv_fuse.specs.Rows.{Row, bytes_of, has_no_gap}
use Rattle.nv_fuse.specs.declared.errno.Errno.{Errno}
use Rattle.nv_fuse.specs.declared.errno.Errno.TheVariants.{NotPermitted, Missing, InputOutput, OutOfMemory, Busy, Exists, CrossDevice, NotDirectory, IsDirectory, Invalid, FileTooBig, NoSpace, ReadOnly, NameTooLong, NotImplemented, NotEmpty, NotSupported, Stale}
use Rattle.nv_fuse.specs.declared.reply.Reply.{Reply}
use Rattle.nv_fuse.specs.declared.reply.Reply.TheVariants.{Agreed, Contents, Created, Done, Found, Node, Opened, Refused, Space, Written}

-- a number reads back where its bytes stand
field_at : (before : List ℕ) (place width value : ℕ) (behind : List ℕ) → length before ≡ place → value < 256 ^ width
    → field place width (before ++ (little_bytes width value ++ behind)) ≡ value
field_at before place width value behind here fits =
    ap (λ (xs : List ℕ). little_number width xs) (drop_at before (little_bytes width value ++ behind) place here)
    ∙ little_number-reads_back width value behind fits

-- each number of a table that stands behind other bytes reads back
pub read_back : (before : List ℕ) (place : ℕ) (rows : List Row) (behind : List ℕ) → length before ≡ place
    → has_no_gap place rows ≡ true → (k : ℕ) (d : Row) → k < length rows
    → (get_or rows k d).value < 256 ^ (get_or rows k d).width
    → field (get_or rows k d).place (get_or rows k d).width (before ++ (bytes_of rows ++ behind)) ≡ (get_or rows k d).value
read_back before place [] behind here no_gap k d below fits = absurd (omega arith)
read_back before place (r ∷ rows) behind here no_gap zero d below fits =
    let own = little_bytes r.width r.value in
    let parts = and_parts (r.place == place) (has_no_gap (place + r.width) rows) no_gap in
    ap (λ (xs : List ℕ). field r.place r.width (before ++ xs)) (append_assoc own (bytes_of rows) behind)
    ∙ field_at before r.place r.width r.value (bytes_of rows ++ behind) (here ∙ sym (eqb-true r.place place parts.0)) fits
read_back before place (r ∷ rows) behind here no_gap (suc k) d below fits =
    let own = little_bytes r.width r.value in
    let parts = and_parts (r.place == place) (has_no_gap (place + r.width) rows) no_gap in
    let x : Row = get_or rows k d in
    let there : length (before ++ own) ≡ place + r.width =
    length-append before own ∙ ap (λ (n : ℕ). n + length own) here ∙ ap (λ (n : ℕ). place + n) (length-bytes_low_first 0 r.width r.value) in
    let same : before ++ ((own ++ bytes_of rows) ++ behind) ≡ (before ++ own) ++ (bytes_of rows ++ behind) =
    ap (λ (xs : List ℕ). before ++ xs) (append_assoc own (bytes_of rows) behind) ∙ sym (append_assoc before own (bytes_of rows ++ behind)) in
    ap (λ (xs : List ℕ). field x.place x.width xs) same
    ∙ read_back (before ++ own) (place + r.width) rows behind there parts.1 k d (omega arith) fits

-- an error's number has its place of four bytes
negative_fits : (e : Errno) → 2 ^ 32 - number_of e < 2 ^ 32
negative_fits NotPermitted = omega arith
negative_fits Missing = omega arith
negative_fits InputOutput = omega arith
negative_fits OutOfMemory = omega arith
negative_fits Busy = omega arith
negative_fits Exists = omega arith
negative_fits CrossDevice = omega arith
negative_fits NotDirectory = omega arith
negative_fits IsDirectory = omega arith
negative_fits Invalid = omega arith
negative_fits FileTooBig = omega arith
negative_fits NoSpace = omega arith
negative_fits ReadOnly = omega arith
negative_fits NameTooLong = omega arith
negative_fits NotImplemented = omega arith
negative_fits NotEmpty = omega arith
negative_fits NotSupported = omega arith
negative_fits Stale = omega arith

error_fits : (x : Reply) → error_of x < 2 ^ 32
error_fits (Refused e) = negative_fits e
error_fits Done = omega arith
error_fits (Agreed x) = omega arith
error_fits (Found x) = omega arith
error_fits (Created x y) = omega arith
error_fits (Node x y z) = omega arith
error_fits (Opened x) = omega arith
error_fits (Written x) = omega arith
error_fits (Space x) = omega arith
error_fits (Contents x) = omega arith

-- a reply has as many bytes as its length
pub length-reply : (unique : ℕ) (x : Reply) → length (reply_bytes unique x) ≡ reply_length x
length-reply unique x =
    let head = bytes_of (header_rows unique x) in
    let rows = bytes_of (rows_of x) in
    let short : length head ≡ 16 = refl in
    length-append head (rows ++ contents_of x)
    ∙ ap (λ (n : ℕ). n + length (rows ++ contents_of x)) short
    ∙ ap (λ (n : ℕ). 16 + n) (length-append rows (contents_of x))
    ∙ sym (add_assoc 16 (length rows) (length (contents_of x)))

module _ (unique : ℕ) (x : Reply) where
  -- each row of a reply's header reads back
  header_back : (k : ℕ) (d : Row) → k < 3 → (get_or (header_rows unique x) k d).value < 256 ^ (get_or (header_rows unique x) k d).width
      → field (get_or (header_rows unique x) k d).place (get_or (header_rows unique x) k d).width (reply_bytes unique x)
      ≡ (get_or (header_rows unique x) k d).value
  header_back k d below fits =
      read_back [] 0 (header_rows unique x) (bytes_of (rows_of x) ++ contents_of x) refl refl k d below fits

  any_row : Row
  any_row = record { place = 0; width = 0; value = 0 }

  pub length-back : reply_length x < 2 ^ 32 → field 0 4 (reply_bytes unique x) ≡ length (reply_bytes unique x)
  length-back fits = header_back 0 any_row (omega arith) fits ∙ sym (length-reply unique x)

  pub error-back : field 4 4 (reply_bytes unique x) ≡ error_of x
  error-back = header_back 1 any_row (omega arith) (error_fits x)

  pub unique-back : unique < 2 ^ 64 → field 8 8 (reply_bytes unique x) ≡ unique
  unique-back fits = header_back 2 any_row (omega arith) fits

  -- what stands behind a reply's header
  pub behind-header : drop 16 (reply_bytes unique x) ≡ bytes_of (rows_of x) ++ contents_of x
  behind-header = drop_at (bytes_of (header_rows unique x)) (bytes_of (rows_of x) ++ contents_of x) 16 refl

-- each field of a reply stands where the one before it ends
pub no_gap : (x : Reply) → has_no_gap 0 (rows_of x) ≡ true
no_gap (Refused e) = refl
no_gap Done = refl
no_gap (Agreed x) = refl
no_gap (Found x) = refl
no_gap (Created x y) = refl
no_gap (Node x y z) = refl
no_gap (Opened x) = refl
no_gap (Written x) = refl
no_gap (Space x) = refl
no_gap (Contents x) = refl
