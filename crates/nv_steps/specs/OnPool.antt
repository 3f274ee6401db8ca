-- Turns on the pool of inode numbers: one is taken, or goes back.
use Rattle.std.specs.Prelude.{ℕ, true, [], ◌∷◌, Option}
use Rattle.nv_alloc.specs.InodePool.{FreeInodes}
use Rattle.nv_calls.specs.Locked.{slots_among}
use Rattle.nv_machine.specs.Sequence.{sequel}
use Rattle.nv_machine.specs.World.{HandState, Number, Running, go_to}
use Rattle.nv_steps.specs.Parts.{PoolIs}
use Rattle.nv_steps.specs.Turns.{Made}

-- a turn that found the pool, and left it so
abbrev pub on_pool : Running → HandState → FreeInodes → FreeInodes → Made
on_pool r h found left = record {
  running = r;
  hand = h;
  granted = true;
  found = PoolIs found ∷ [];
  left = PoolIs left ∷ [];
}

-- a call that knows the slots which it locks, with the number of its new inode among them, if there was one
abbrev pub once_numbered : ℕ → Option ℕ → Running → Running
once_numbered inodes number r =
    let locking = record r { slots = slots_among inodes number r.looked r.call } in go_to (sequel locking Number) locking
