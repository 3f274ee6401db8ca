-- A call that is made alone: from its start to its last step no other actor makes one.
use Rattle.std.specs.Prelude.{◌≡◌, ◌⊎◌, ℕ, Bool, true, false, List, map, Option, Err}
use Rattle.nv_base.specs.declared.fault.Fault.{Fault}
use Rattle.nv_base.specs.declared.fault.Fault.TheVariants.{CommitLimit, NoInode, NoSpace, OutOfMemory}
use Rattle.nv_base.specs.declared.numbers.Handle.{Handle}
use Rattle.nv_calls.specs.AllCalls.{answer, effect, refusal}
use Rattle.nv_calls.specs.Plain.{PlainNode, node_in, nodes_after}
use Rattle.nv_calls.specs.Refusals.{passes}
use Rattle.nv_calls.specs.declared.answer.Answer.{Answer}
use Rattle.nv_calls.specs.declared.call.Call.{Call}
use Rattle.nv_machine.specs.World.{Event, Go}

-- `Go` events of one actor, each with whether memory is granted to its step
abbrev pub goes : ℕ → List Bool → List Event
goes actor grants = map (Go actor) grants

-- A CALL IS ANSWERED as the plain world answers it on these nodes, and `after` are those with its
-- effect
pub record IsAnsweredOn (block : ℕ) (nodes after : Handle → Option PlainNode) (c : Call) (told : Answer) : Type 0 where
  -- the handle of a new inode, where the call makes one
  pub made : Handle
  -- the number of its commit, where it makes one
  pub commit : ℕ
  -- these nodes do not refuse it
  pub passes_is : refusal block (node_in nodes) c ≡ passes
  -- it is told what the plain world answers
  pub told_is : told ≡ answer nodes made c
  -- the nodes after it have its effect, under that commit
  pub becomes : (handle : Handle) → after handle ≡ nodes_after commit (effect (node_in nodes) made c) nodes handle

-- the fault is for want of a number, of blocks, of a commit number or of memory, which no node
-- tells
abbrev pub is_want : Fault → Bool
is_want NoInode = true
is_want NoSpace = true
is_want CommitLimit = true
is_want (OutOfMemory _) = true
is_want other = false

-- A CALL IS REFUSED for what these nodes refuse it for, or, where they do not, for such a want
abbrev pub IsRefusedOn : ℕ → (Handle → Option PlainNode) → Call → Fault → Type 0
IsRefusedOn block nodes c fault =
    (refusal block (node_in nodes) c ≡ Err fault) ⊎ ((refusal block (node_in nodes) c ≡ passes) × (is_want fault ≡ true))
