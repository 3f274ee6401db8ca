-- How many snapshots may live, and the range of the epoch.
use Rattle.std.specs.Prelude.{◌≤◌, length}
use Rattle.nv_base.specs.declared.limits.TheConstants.{NUMBER}
use Rattle.nv_epoch.specs.SnapList.{Snapshots}

-- the snapshots and the epoch of a world that may stop
pub record SnapshotsFit (list : Snapshots) : Type 0 where
  -- no more snapshots live than may
  pub few : length list.living ≤ list.most
  -- the epoch is at least 1
  pub some : 1 ≤ list.epoch
  -- the epoch is at most the greatest
  pub most : list.epoch ≤ NUMBER
