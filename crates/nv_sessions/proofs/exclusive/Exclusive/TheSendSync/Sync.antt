use denote.RattleType.{RattleType}
use denote.Param.Send.{IsSend, IsSync, part_keyless}
use Rattle.nv_sessions.specs.contracts.exclusive.Exclusive.{the_row}
use Rattle.nv_sessions.proofs.ExclusiveCrossing.{exclusive_send}

pub sync : (T : RattleType) → IsSend T → IsSync (the_row T)
sync T s = record { shared = λ d b o κ q. part_keyless (the_row T) (exclusive_send T s) q d b o }
