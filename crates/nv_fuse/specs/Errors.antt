-- The numbers by which Linux tells errors.
use Rattle.std.specs.Prelude.{ℕ}
use Rattle.nv_fuse.specs.declared.errno.Errno.{Errno}
use Rattle.nv_fuse.specs.declared.errno.Errno.TheVariants.{NotPermitted, Missing, InputOutput, OutOfMemory, Busy, Exists, CrossDevice, NotDirectory, IsDirectory, Invalid, FileTooBig, NoSpace, ReadOnly, NameTooLong, NotImplemented, NotEmpty, NotSupported, Stale}

-- EPERM, ENOENT, EIO, ENOMEM, EBUSY, EEXIST, EXDEV, ENOTDIR, EISDIR, EINVAL, EFBIG, ENOSPC, EROFS, ENAMETOOLONG, ENOSYS,
-- ENOTEMPTY, EOPNOTSUPP and ESTALE
abbrev pub number_of : Errno → ℕ
number_of NotPermitted = 1
number_of Missing = 2
number_of InputOutput = 5
number_of OutOfMemory = 12
number_of Busy = 16
number_of Exists = 17
number_of CrossDevice = 18
number_of NotDirectory = 20
number_of IsDirectory = 21
number_of Invalid = 22
number_of FileTooBig = 27
number_of NoSpace = 28
number_of ReadOnly = 30
number_of NameTooLong = 36
number_of NotImplemented = 38
number_of NotEmpty = 39
number_of NotSupported = 95
number_of Stale = 116
