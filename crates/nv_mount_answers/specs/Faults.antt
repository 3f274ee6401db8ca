-- Which error number tells a refusal.
use Rattle.nv_base.specs.declared.fault.Fault.{Fault}
use Rattle.nv_base.specs.declared.fault.Fault.TheVariants as fault
use Rattle.nv_fuse.specs.declared.errno.Errno.{Errno}
use Rattle.nv_fuse.specs.declared.errno.Errno.TheVariants as errno

-- The error of a fault. What no caller of a mounted file system can meet is an error of input and output.
abbrev pub errno_of : Fault → Errno
errno_of (fault.OutOfMemory witness) = errno.OutOfMemory
errno_of fault.Stale = errno.Stale
errno_of fault.NotFile = errno.IsDirectory
errno_of fault.NotDirectory = errno.NotDirectory
errno_of fault.BadName = errno.Invalid
errno_of fault.Missing = errno.Missing
errno_of fault.Exists = errno.Exists
errno_of fault.NotEmpty = errno.NotEmpty
errno_of fault.FileTooBig = errno.FileTooBig
errno_of fault.WriteTooBig = errno.FileTooBig
errno_of fault.NoInode = errno.NoSpace
errno_of fault.NoSpace = errno.NoSpace
errno_of fault.TooManySnapshots = errno.NoSpace
errno_of fault.NoSnapshot = errno.Missing
errno_of fault.Pinned = errno.Busy
errno_of fault.MoveDirectory = errno.CrossDevice
errno_of fault.CommitLimit = errno.InputOutput
errno_of fault.EpochLimit = errno.InputOutput
errno_of fault.Contended = errno.InputOutput
errno_of fault.ActorBusy = errno.InputOutput
errno_of fault.ActorIdle = errno.InputOutput
errno_of fault.NoActor = errno.InputOutput
errno_of fault.SeatsOut = errno.InputOutput
errno_of fault.Read = errno.InputOutput
errno_of fault.Write = errno.InputOutput
errno_of (fault.BadGeometry field) = errno.InputOutput
errno_of (fault.Mismatch part) = errno.InputOutput
errno_of (fault.BadImage of_image) = errno.InputOutput
errno_of (fault.ScriptFault kind line) = errno.InputOutput
