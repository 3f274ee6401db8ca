use Rattle.std.proofs.Common.{[], ◌∷◌, rules}
use Rattle.nv_sessions.proofs.Moves.{begins}
use Rattle.nv_sessions.proofs.names.Ledgers.new.Goals as goal

-- each inode has its first version, and the one pass there is owns none
pub ruled-requires : goal.ruled-requires
ruled-requires c = (search rules, (search rules, begins (0 ∷ [])))
