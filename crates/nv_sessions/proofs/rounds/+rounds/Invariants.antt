use Rattle.nv_sessions.proofs.rounds.+rounds.Given as goal

-- the rounds that are left
abbrev pub decreases-rounds : goal.decreases-rounds
decreases-rounds g l = l.left
