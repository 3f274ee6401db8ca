-- A value that no shared reference reaches crosses threads as the value does.
use mathlib.Core.List.{[], ◌∷◌}
use denote.Exit.{Exit, hidden, leaves, pair, unchanged, under}
use denote.RattleType.{Denots, RattleType}
use denote.Struct.Values.{intos}
use denote.Param.Send.{IsSend, Quiet, owning_send}
use Rattle.nv_sessions.specs.contracts.exclusive.Exclusive as E

quiet_pair : {X Y : Type 0} (e : Exit X) → Quiet e → Quiet (pair {Y = Y} e unchanged)
quiet_pair unchanged q = λ p w. tt
quiet_pair (leaves L l S s r₀) q = λ p w. (q p.0 w.0, tt)

quiet_hidden : {D X : Type 0} (to : D → X) (e : Exit X) → Quiet e → Quiet (hidden (under to e))
quiet_hidden to unchanged q = λ x w. tt
quiet_hidden to (leaves L l S s r₀) q = λ x w. q (to x) w

pub exclusive_send : (T : RattleType) → IsSend T → IsSend (E.the_row T)
exclusive_send T s = owning_send (E.the_type T) (s, tt) (λ d. tt) (λ k.
    quiet_hidden (λ x. intos (E.struct T).parts ((E.struct T).as_values x)) (pair {X = T.Denot} {Y = Denots []} (T.exit k) unchanged)
    (quiet_pair {Y = Denots []} (T.exit k) (s.leaving k)))
