-- What the return of a number leaves of the pool.
use Rattle.std.proofs.Common.{◌≡◌, ◌∙◌, ℕ, ◌<◌, true, [], ◌∷◌, Option, Some, None, ap, refl, subst, sym}
use Rattle.nv_alloc.specs.InodePool.{FreeInodes}
use Rattle.nv_alloc.specs.Numbers.{put_by}
use Rattle.nv_base.specs.declared.geometry.GeometryNumbers.{GeometryNumbers}
use Rattle.nv_machine.specs.Kinds.{return_number_turn}
use Rattle.nv_machine.specs.World.{Ends, HandState, Moves, ReturnNumber, Running, Turn, Waits, go_to}
use Rattle.nv_steps.specs.LastSteps.{IsLast}
use Rattle.nv_steps.specs.OnPool.{on_pool}
use Rattle.nv_steps.specs.Parts.{PoolIs}
use Rattle.nv_steps.proofs.States.{some_state}
use Rattle.nv_sessions.specs.Ending.{pool_with, takes}
use Rattle.nv_sessions.specs.RunCalls.{making}

-- the numbers of no device
abbrev no_device : GeometryNumbers
no_device = record { blocks = 0; cpus = 0; block = 0; page = 0; inodes = 0; snaps = 0; actors = 0 }

abbrev pool_behind : Turn → Option FreeInodes
pool_behind (Moves s h r) = Some s.pool
pool_behind (Ends told s h) = Some s.pool
pool_behind Waits = None

same_pool : {x y : FreeInodes} → Some x ≡ Some y → x ≡ y
same_pool is = cc

-- a number that is given back is free again
pub pool_told : (old new : FreeInodes) (ino : ℕ) (h after : HandState) → h.ino ≡ Some ino
    → ((numbers : GeometryNumbers) (actor : ℕ) (r : Running) → r.next ≡ ReturnNumber
    → IsLast numbers actor (on_pool r h old new) r.ending after) → new ≡ record old { numbers = put_by (λ n. n) ino old.numbers }
pool_told old new ino h after own is =
    let there = some_state no_device (PoolIs old ∷ []) (tt, tt) (tt, tt) in
    let s = there.shared in
    let r = go_to ReturnNumber making in
    let ends = is no_device 0 r refl s there.is_of there.has in
    let told = subst (λ (number : Option ℕ). pool_behind (return_number_turn number s h r) ≡ Some new) own (ap pool_behind ends) in
    sym (same_pool told) ∙ ap (λ (p : FreeInodes). record p { numbers = put_by (λ n. n) ino p.numbers }) there.has.0

pub pool_taken : (pool : FreeInodes) (ino : ℕ) (number : Option ℕ) → number ≡ Some ino → takes pool ino ≡ true
    → pool_with pool number ≡ record pool { numbers = put_by (λ n. n) ino pool.numbers }
pool_taken pool ino number own taken = rw own (rw taken refl)
