-- What a call on files and directories leaves of the nodes, in the plain world with numbers.
use Rattle.std.specs.Prelude.{◌≡◌, ℕ, ◌<◌, true, if◌then◌else◌, List, [], ◌∷◌, length, Option}
use Rattle.nv_base.specs.declared.numbers.Handle.{Handle}
use Rattle.nv_calls.specs.AllCalls.{answer, effect, is_nothing, refusal}
use Rattle.nv_calls.specs.Plain.{Change, same_handle}
use Rattle.nv_calls.specs.Refusals.{passes}
use Rattle.nv_calls.specs.declared.answer.Answer.{Answer}
use Rattle.nv_calls.specs.declared.call.Call.{Call}
use Rattle.nv_entry.specs.declared.node.NodeCopy.{NodeCopy}
use Rattle.nv_serial.specs.Serial.{Serial, copies_now}

-- the nodes after the changes of one call, which are of different nodes
abbrev pub changed : List Change → (Handle → Option NodeCopy) → Handle → Option NodeCopy
changed [] nodes handle = nodes handle
changed (c ∷ effect) nodes handle = if same_handle c.handle handle then c.becomes (nodes handle) else changed effect nodes handle

-- A CALL ON FILES AND DIRECTORIES THAT IS ANSWERED has its effect, where a new inode has the handle `made`.
-- An answered call: the nodes did not refuse it, it is told what they answer, and they are changed by its effect. The
-- snapshots, the epoch and the geometry stay, and there are as many inode slots. A call of nothing leaves all as it was.
pub record HasEffect (old : Serial) (actor : ℕ) (c : Call) (made : Handle) (a : Answer) (new : Serial) : Type 0 where
  -- the actor is there
  pub there : actor < old.numbers.actors
  -- the nodes did not refuse it
  pub unrefused : refusal old.numbers.block (copies_now old) c ≡ passes
  -- it is told what they answer
  pub told : a ≡ answer old.plain.nodes made c
  -- they are changed by its effect
  pub nodes : (handle : Handle) → copies_now new handle ≡ changed (effect (copies_now old) made c) (copies_now old) handle
  -- the snapshots stay
  pub snapshots : new.plain.copies ≡ old.plain.copies
  -- the epoch stays
  pub epoch : new.plain.epoch ≡ old.plain.epoch
  -- the geometry stays
  pub numbers : new.numbers ≡ old.numbers
  -- there are as many inode slots
  pub slots : length new.slots ≡ length old.slots
  -- a call of nothing leaves all as it was
  pub same : is_nothing c ≡ true → new ≡ old
