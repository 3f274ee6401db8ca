-- The form of each operation's requests: how many bytes its fields take, and what stands behind them.
use Rattle.std.specs.Prelude.{ℕ, ◌==◌, ◌&&◌, ◌+◌, Bool, true, Option, List, [], ◌∷◌, drop, length, nat_le}
use Rattle.std.specs.List.{find}
use Rattle.std.specs.Option.{option_map}
use Rattle.nv_fuse.specs.Fields.{behind_name, field, has_name}

-- what stands behind the fields: nothing that is read, a name, two names, or the bytes of a write
pub data Tail : Type 0 where
  nothing : Tail
  a_name : Tail
  two_names : Tail
  contents : Tail

-- an operation's number, the bytes that its fields take, and what stands behind them
pub record Form : Type 0 where
  -- the number of the operation
  pub number : ℕ
  -- how many bytes its fields take
  pub fields : ℕ
  -- what stands behind them
  pub tail : Tail

abbrev pub form : ℕ → ℕ → Tail → Form
form number fields tail = record { number = number; fields = fields; tail = tail }

-- the operations that are read, as protocol 7.31 numbers them. In the order of their numbers: Lookup, Forget,
-- GetAttributes, SetAttributes, Mknod, Mkdir, Unlink, Rmdir, Rename, Link, Open, Read, Write, Statfs, Release, Fsync,
-- Flush, Init, OpenDirectory, ReadDirectory, ReleaseDirectory, FsyncDirectory, Create, Destroy, ForgetMany,
-- Fallocate, Rename2.
abbrev pub forms : List Form
forms =
    form 1 0 a_name ∷ form 2 8 nothing ∷ form 3 16 nothing ∷ form 4 88 nothing
    ∷ form 8 16 a_name ∷ form 9 8 a_name ∷ form 10 0 a_name ∷ form 11 0 a_name ∷ form 12 8 two_names
    ∷ form 13 8 a_name ∷ form 14 8 nothing ∷ form 15 40 nothing ∷ form 16 40 contents ∷ form 17 0 nothing
    ∷ form 18 24 nothing ∷ form 20 16 nothing ∷ form 25 24 nothing ∷ form 26 16 nothing
    ∷ form 27 8 nothing ∷ form 28 40 nothing ∷ form 29 24 nothing ∷ form 30 16 nothing
    ∷ form 35 16 a_name ∷ form 38 0 nothing ∷ form 42 8 nothing ∷ form 43 32 nothing ∷ form 45 16 two_names ∷ []

-- what stands behind the fields is there; a write's third field tells how many bytes it writes
abbrev pub has_tail : Tail → ℕ → List ℕ → Bool
has_tail nothing fields body = true
has_tail a_name fields body = has_name (drop fields body)
has_tail two_names fields body = has_name (drop fields body) && has_name (behind_name (drop fields body))
has_tail contents fields body = length body == (fields + field 16 4 body)

-- a body has its fields and what stands behind them
abbrev pub has_form : List ℕ → Form → Bool
has_form body f = nat_le f.fields (length body) && has_tail f.tail f.fields body

-- whether a body has the form of the operation with this number, or nothing where the number is none of these
abbrev pub fits_form : ℕ → List ℕ → Option Bool
fits_form number body = option_map (has_form body) (find (λ f. f.number == number) forms)
