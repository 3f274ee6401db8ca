-- The handles of new inodes, by the commit points that made them.
use Rattle.std.specs.Prelude.{◌||◌, Bool, false, List, [], ◌∷◌, ◌++◌, Option, Some, None}
use Rattle.nv_base.specs.declared.numbers.Handle.{Handle}
use Rattle.nv_calls.specs.Locked.{handles_made_by}
use Rattle.nv_calls.specs.Plain.{same_handle}
use Rattle.nv_machine.specs.PlainRun.{Commits, PlainChange, Nothing, Numbers, Maintains, actor_of, plain_change_of}
use Rattle.nv_machine.specs.Step.{step}
use Rattle.nv_machine.specs.World.{Event, Running, World, actor_at}

-- the handle of a call's new inode, where it makes one
abbrev pub new_handle : Option Running → List Handle
new_handle None = []
new_handle (Some r) = handles_made_by r.made r.call

-- the handle of the new inode that a step commits, if it does
abbrev pub made_at : PlainChange → Option Running → List Handle
made_at Nothing running = []
made_at Numbers running = []
made_at Commits running = new_handle running
made_at (Maintains step) running = []

-- THE HANDLES that commit points have made, the earliest first
abbrev pub handles_made : World → List Event → List Handle
handles_made w [] = []
handles_made w (e ∷ events) = made_at (plain_change_of w e) (actor_at w (actor_of e)).running ++ handles_made (step w e).world events

-- the handle stands in the list
abbrev pub has_handle : List Handle → Handle → Bool
has_handle [] handle = false
has_handle (other ∷ list) handle = same_handle other handle || has_handle list handle
