-- What a request's bytes are read as: each field's name, its place and its width in bytes.
use Rattle.std.specs.Prelude.{ℕ, ◌≡◌, ◌≤◌, List, Some, None, true, false, drop, length}
use Rattle.nv_fuse.specs.Fields.{behind_name, field, name_of}
use Rattle.nv_fuse.specs.Forms.{fits_form}
use Rattle.nv_fuse.specs.declared.header.Header.{Header}
use Rattle.nv_fuse.specs.declared.operation.Operation.{Operation}
use Rattle.nv_fuse.specs.declared.operation.Operation.TheVariants.{Init, Destroy, Statfs, Lookup, Forget, ForgetMany, Mknod, Mkdir, Unlink, Rmdir, Rename, Rename2, Link, Create, GetAttributes, SetAttributes, Open, Read, Write, Flush, Fsync, Release, Fallocate, OpenDirectory, ReadDirectory, FsyncDirectory, ReleaseDirectory, Malformed, Other}

-- the 40 bytes that a request begins with: its length at 0 (4 bytes), and these fields. The last four bytes are not
-- read.
pub record IsHeader (bytes : List ℕ) (header : Header) : Type 0 where
  -- the number of the operation
  pub operation : header.operation ≡ field 4 4 bytes
  -- the number of the request
  pub unique : header.unique ≡ field 8 8 bytes
  -- the node that it names
  pub node : header.node ≡ field 16 8 bytes
  -- who asks
  pub user : header.user ≡ field 24 4 bytes
  -- the group of that user
  pub group : header.group ≡ field 28 4 bytes
  -- the process that asks
  pub process : header.process ≡ field 32 4 bytes

-- bytes that are a request: a header, and as many bytes as it tells
pub record IsRequest (bytes : List ℕ) : Type 0 where
  -- there is a header
  pub header : 40 ≤ length bytes
  -- it tells the length
  pub whole : field 0 4 bytes ≡ length bytes

-- the operation's number, and the fields of its body
abbrev pub HasFields : ℕ → List ℕ → Operation → Type 0
HasFields number body (Init major minor max_readahead flags) =
    (number ≡ 26)
    × (major ≡ field 0 4 body)
    × (minor ≡ field 4 4 body)
    × (max_readahead ≡ field 8 4 body)
    × (flags ≡ field 12 4 body)
HasFields number body Destroy = number ≡ 38
HasFields number body Statfs = number ≡ 17
HasFields number body (Lookup name) = (number ≡ 1) × (name.now ≡ name_of body)
HasFields number body (Forget lookups) = (number ≡ 2) × (lookups ≡ field 0 8 body)
HasFields number body (ForgetMany count) = (number ≡ 42) × (count ≡ field 0 4 body)
HasFields number body (Mknod mode device umask name) =
    (number ≡ 8)
    × (mode ≡ field 0 4 body)
    × (device ≡ field 4 4 body)
    × (umask ≡ field 8 4 body)
    × (name.now ≡ name_of (drop 16 body))
HasFields number body (Mkdir mode umask name) =
    (number ≡ 9)
    × (mode ≡ field 0 4 body)
    × (umask ≡ field 4 4 body)
    × (name.now ≡ name_of (drop 8 body))
HasFields number body (Unlink name) = (number ≡ 10) × (name.now ≡ name_of body)
HasFields number body (Rmdir name) = (number ≡ 11) × (name.now ≡ name_of body)
HasFields number body (Rename to old new) =
    (number ≡ 12)
    × (to ≡ field 0 8 body)
    × (old.now ≡ name_of (drop 8 body))
    × (new.now ≡ name_of (behind_name (drop 8 body)))
HasFields number body (Rename2 to flags old new) =
    (number ≡ 45)
    × (to ≡ field 0 8 body)
    × (flags ≡ field 8 4 body)
    × (old.now ≡ name_of (drop 16 body))
    × (new.now ≡ name_of (behind_name (drop 16 body)))
HasFields number body (Link linked name) =
    (number ≡ 13) × (linked ≡ field 0 8 body) × (name.now ≡ name_of (drop 8 body))
HasFields number body (Create flags mode umask name) =
    (number ≡ 35)
    × (flags ≡ field 0 4 body)
    × (mode ≡ field 4 4 body)
    × (umask ≡ field 8 4 body)
    × (name.now ≡ name_of (drop 16 body))
HasFields number body (GetAttributes flags file) =
    (number ≡ 3) × (flags ≡ field 0 4 body) × (file ≡ field 8 8 body)
HasFields number body (SetAttributes x) =
    (number ≡ 4)
    × (x.valid ≡ field 0 4 body)
    × (x.file ≡ field 8 8 body)
    × (x.size ≡ field 16 8 body)
    × (x.lock_owner ≡ field 24 8 body)
    × (x.accessed ≡ field 32 8 body)
    × (x.modified ≡ field 40 8 body)
    × (x.changed ≡ field 48 8 body)
    × (x.accessed_nanoseconds ≡ field 56 4 body)
    × (x.modified_nanoseconds ≡ field 60 4 body)
    × (x.changed_nanoseconds ≡ field 64 4 body)
    × (x.mode ≡ field 68 4 body)
    × (x.user ≡ field 76 4 body)
    × (x.group ≡ field 80 4 body)
HasFields number body (Open flags) = (number ≡ 14) × (flags ≡ field 0 4 body)
HasFields number body (Read file offset size read_flags lock_owner flags) =
    (number ≡ 15)
    × (file ≡ field 0 8 body)
    × (offset ≡ field 8 8 body)
    × (size ≡ field 16 4 body)
    × (read_flags ≡ field 20 4 body)
    × (lock_owner ≡ field 24 8 body)
    × (flags ≡ field 32 4 body)
HasFields number body (Write file offset write_flags lock_owner flags bytes) =
    (number ≡ 16)
    × (file ≡ field 0 8 body)
    × (offset ≡ field 8 8 body)
    × (write_flags ≡ field 20 4 body)
    × (lock_owner ≡ field 24 8 body)
    × (flags ≡ field 32 4 body)
    × (bytes.now ≡ drop 40 body)
HasFields number body (Flush file lock_owner) =
    (number ≡ 25) × (file ≡ field 0 8 body) × (lock_owner ≡ field 16 8 body)
HasFields number body (Fsync file flags) =
    (number ≡ 20) × (file ≡ field 0 8 body) × (flags ≡ field 8 4 body)
HasFields number body (Release file flags release_flags lock_owner) =
    (number ≡ 18)
    × (file ≡ field 0 8 body)
    × (flags ≡ field 8 4 body)
    × (release_flags ≡ field 12 4 body)
    × (lock_owner ≡ field 16 8 body)
HasFields number body (Fallocate file offset size mode) =
    (number ≡ 43)
    × (file ≡ field 0 8 body)
    × (offset ≡ field 8 8 body)
    × (size ≡ field 16 8 body)
    × (mode ≡ field 24 4 body)
HasFields number body (OpenDirectory flags) = (number ≡ 27) × (flags ≡ field 0 4 body)
HasFields number body (ReadDirectory file offset size) =
    (number ≡ 28) × (file ≡ field 0 8 body) × (offset ≡ field 8 8 body) × (size ≡ field 16 4 body)
HasFields number body (FsyncDirectory file flags) =
    (number ≡ 30) × (file ≡ field 0 8 body) × (flags ≡ field 8 4 body)
HasFields number body (ReleaseDirectory file flags) =
    (number ≡ 29) × (file ≡ field 0 8 body) × (flags ≡ field 8 4 body)
HasFields number body Malformed = ⊥
HasFields number body Other = ⊥

-- What a body is read as: an operation with its fields, where the body has its form. Where it has not, it is malformed,
-- and a number of no such operation is another one.
abbrev pub IsRead : ℕ → List ℕ → Operation → Type 0
IsRead number body Malformed = fits_form number body ≡ Some false
IsRead number body Other = fits_form number body ≡ None
IsRead number body x = (fits_form number body ≡ Some true) × HasFields number body x
