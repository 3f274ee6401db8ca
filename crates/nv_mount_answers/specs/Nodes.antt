-- The numbers by which a kernel names nodes: one for each handle that a mounted file system tells of.
use Rattle.std.specs.Prelude.{ℕ, ◌≡◌, ◌+◌, ◌*◌, ◌/◌, ◌%◌, ◌^◌, ◌<◌, ◌==◌, ◌&&◌, Bool, Option, Some, None, if◌then◌else◌, nat_le, nat_lt}
use Rattle.nv_base.specs.declared.numbers.Handle.{Handle}

abbrev pub handle : ℕ → ℕ → Handle
handle slot generation = record { ino = slot; generation = generation }

-- the root directory: slot 0, in its first generation
abbrev pub root : Handle
root = handle 0 1

abbrev pub is_root : Handle → Bool
is_root h = (h.ino == 0) && (h.generation == 1)

-- a slot below 65,536, and a generation from 1 on whose number has 48 bits
abbrev pub has_number : Handle → Bool
has_number h = nat_lt h.ino 65536 && (nat_le 1 h.generation && nat_lt h.generation 281474976710656)

-- The root is node 1. Any other node has its generation in the upper 48 bits, and its slot in the lower 16.
abbrev pub node_of : Handle → Option ℕ
node_of h =
    if is_root h then Some 1
    else (if has_number h then Some (h.generation * 65536 + h.ino) else None)

-- the handle with a number; there is none below 65,536 but the root's, and 65,536 would be the root's too
abbrev pub handle_of : ℕ → Option Handle
handle_of node =
    if node == 1 then Some root
    else (if nat_le node 65536 then None else Some (handle (node % 65536) (node / 65536)))

-- nodes and handles stand one to one
pub record AreOneToOne : Type 0 where
  -- the number of a handle leads back to it
  pub back : (h : Handle) (node : ℕ) → node_of h ≡ Some node → handle_of node ≡ Some h
  -- a handle that a number leads to has this number
  pub forth : (h : Handle) (node : ℕ) → node < 2 ^ 64 → handle_of node ≡ Some h → node_of h ≡ Some node
  -- a number has 64 bits
  pub range : (h : Handle) (node : ℕ) → node_of h ≡ Some node → node < 2 ^ 64
