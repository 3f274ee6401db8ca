use Rattle.std.proofs.Common.{subst, sym}
use Rattle.nv_mount_tool.specs.Answered.{IsNewMount, OneMount}
use Rattle.nv_mount_tool.specs.CommandLine.{numbers_of}
use Rattle.nv_mount_tool.proofs.Serving.{all_served}
use Rattle.nv_mount_tool.proofs.attend.Goals as goal

pub returns : goal.returns
returns g c =
    let serving = c.in_ok-serving.ensures in
    let served = c.in_ok-unmounted.ensures.served in
    let is = subst (λ (mount : OneMount). IsNewMount (numbers_of c.args.options) c.time_of.result mount)
    (sym serving.0) c.in_ok-mount.ensures in
    all_served _ _ _ served.0 _ _ served.1 _ _ _ _ c.time_of.ensures is serving.1
    c.in_ok-unmounted.ensures.end served.2 served.4
