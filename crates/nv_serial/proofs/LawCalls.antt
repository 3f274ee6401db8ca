-- THE LAW of calls that are made one at a time, call by call.
use Rattle.std.proofs.Common.{refl}
use Rattle.nv_calls.specs.declared.call.Call.TheVariants as call
use Rattle.nv_calls.specs.declared.snapshot_or_cleaner_call.SnapshotOrCleanerCall.TheVariants as on
use Rattle.nv_serial.specs.Law.{CallsAreSerial}
use Rattle.nv_serial.proofs.CleanLaw.{auto_serial, fast_serial, thorough_serial}
use Rattle.nv_serial.proofs.DrainAlone.{drained_alone}
use Rattle.nv_serial.proofs.LawFiles.{files_alone}
use Rattle.nv_serial.proofs.ShowAlone.{shown_alone}
use Rattle.nv_serial.proofs.SnapFirst.{dropped_alone, made_alone}

pub calls_serial : CallsAreSerial
calls_serial g start records before actor (call.SnapshotOrCleaner on.Snap) grants last alone =
    made_alone g start records before actor grants last alone
calls_serial g start records before actor (call.SnapshotOrCleaner (on.Drop snapshot)) grants last alone =
    dropped_alone g start records before actor grants last snapshot alone
calls_serial g start records before actor (call.SnapshotOrCleaner (on.Show snapshot)) grants last alone =
    shown_alone g start records before actor grants last snapshot alone
calls_serial g start records before actor (call.SnapshotOrCleaner (on.Drain count)) grants last alone =
    drained_alone g start records before actor grants last count alone
calls_serial g start records before actor (call.SnapshotOrCleaner (on.Fast ino)) grants last alone =
    fast_serial g start records before actor ino grants last alone
calls_serial g start records before actor (call.SnapshotOrCleaner (on.Thorough ino)) grants last alone =
    thorough_serial g start records before actor ino grants last alone
calls_serial g start records before actor (call.SnapshotOrCleaner (on.Auto ino)) grants last alone =
    auto_serial g start records before actor ino grants last alone
calls_serial g start records before actor other grants last alone =
    files_alone g start records before actor other grants last refl alone
