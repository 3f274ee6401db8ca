-- Scripts of calls and single steps, played through the step function.
use Rattle.std.proofs.Common.{List, [], length, suc, true, zero, ℕ, ◌+◌, ◌-◌, ◌∷◌}
use Rattle.std.specs.List.{flat_map}
use Rattle.nv_base.specs.declared.geometry.GeometryNumbers.{GeometryNumbers}
use Rattle.nv_base.specs.declared.node.Kind.{Kind}
use Rattle.nv_base.specs.declared.numbers.Handle.{Handle}
use Rattle.nv_calls.specs.declared.call.Call.{Call}
use Rattle.nv_entry.specs.declared.tree.TreeNode.{TreeNode}
use Rattle.nv_machine.specs.Numbers.{free_of, used_blocks}
use Rattle.nv_machine.specs.Scanned.{scanned_chain, scanned_data, scanned_pending}
use Rattle.nv_machine.specs.Step.{Step, stays, step}
use Rattle.nv_machine.specs.World.{Go, Moved, Reply, Shared, Start, Started, World}

-- ---- scripts

-- a call is started and goes on as long as it moves; it is started; or an actor goes on so many times,
-- or as long as it moves
pub data Line : Type 0 where
  DoCall : (actor : ℕ) (c : Call) → Line
  StartCall : (actor : ℕ) (c : Call) → Line
  Goes : (actor : ℕ) (times : ℕ) → Line

abbrev pub on_reply : Reply → World → (World → Step) → Step
on_reply Moved w rest = rest w
on_reply reply w rest = stays reply w

-- so many times, or up to the first reply that is not Moved
abbrev pub goes : ℕ → ℕ → World → Step
goes zero actor w = stays Moved w
goes (suc n) actor w = on_reply (step w (Go actor true)).reply (step w (Go actor true)).world (goes n actor)

abbrev pub on_start : Reply → World → (World → Step) → Step
on_start Started w rest = rest w
on_start reply w rest = stays reply w

abbrev pub line : World → Line → Step
line w (DoCall actor c) = on_start (step w (Start actor c)).reply (step w (Start actor c)).world (goes 99 actor)
line w (StartCall actor c) = step w (Start actor c)
line w (Goes actor times) = goes times actor w

abbrev pub play : World → List Line → List Reply
play w [] = []
play w (l ∷ lines) = (line w l).reply ∷ play (line w l).world lines

abbrev pub played : World → List Line → World
played w [] = w
played w (l ∷ lines) = played (line w l).world lines

-- ---- what is seen

abbrev pub free_count : Shared → ℕ
free_count s = length (flat_map free_of s.lists)

-- all blocks: those that are free, in chains, data and pending, and all others, which are in hands
abbrev pub space : World → List ℕ
space w =
    free_count w.shared ∷ scanned_chain w.shared ∷ scanned_data w.shared ∷ scanned_pending w
    ∷ (length (used_blocks w) - (scanned_chain w.shared + scanned_data w.shared + scanned_pending w)) ∷ []

-- a node of a tree: its path, its kind and mode, and its bytes
abbrev pub shown : TreeNode → List (List ℕ) × (Kind × (ℕ × List ℕ))
shown n = (n.path, (n.node.kind, (n.node.mode, n.node.bytes)))

-- ---- one device

abbrev pub device : GeometryNumbers
device = record { blocks = 16; cpus = 2; block = 4; page = 4; inodes = 8; snaps = 4; actors = 3 }

abbrev pub handle : ℕ → ℕ → Handle
handle ino generation = record { ino = ino; generation = generation }
