use denote.RattleType.{RattleType}
use denote.Param.Send.{IsSend}
use Rattle.nv_sessions.specs.contracts.exclusive.Exclusive.{the_row}
use Rattle.nv_sessions.proofs.ExclusiveCrossing.{exclusive_send}

pub send : (T : RattleType) → IsSend T → IsSend (the_row T)
send = exclusive_send
