-- Calls that change nodes, with the text of a write apart from the call.
use Rattle.std.specs.Prelude.{◌≡◌, ℕ, List, replicate, Option, Bool}
use Rattle.nv_base.specs.declared.numbers.Handle.{Handle}
use Rattle.nv_entry.specs.declared.node.NodeCopy.{NodeCopy}
use Rattle.nv_calls.specs.declared.call.Call.{Call}
use Rattle.nv_calls.specs.declared.call.Call.TheVariants as call
use Rattle.nv_calls.specs.declared.allocation.Allocation.{Allocation}
use Rattle.nv_calls.specs.declared.update.Update.{Update}
use Rattle.nv_calls.specs.declared.update.Update.TheVariants as update
use Rattle.nv_calls.specs.AllCalls.{blocks_wanted, ends_in_page, is_nothing, look_refusal, looked, plan, refusal}
use Rattle.nv_calls.specs.Locked.{handles}

-- the call, where a write has that text
abbrev pub call_of : Update → List ℕ → Call
call_of (update.Create dir name mode) text = call.Create dir name mode
call_of (update.Mkdir dir name mode) text = call.Mkdir dir name mode
call_of (update.Write file offset count) text = call.Write file offset text
call_of (update.Size file size) text = call.Size file size
call_of (update.Mode handle mode) text = call.Mode handle mode
call_of (update.Unlink dir name) text = call.Unlink dir name
call_of (update.Rmdir dir name) text = call.Rmdir dir name
call_of (update.Rename from old to new) text = call.Rename from old to new

-- how many bytes the text of a write has
abbrev pub text_len : Update → ℕ
text_len (update.Write file offset count) = count
text_len other = 0

-- the call with a text of zeros: its check and its plan are those with any text of as many bytes
abbrev pub blank_call : Update → Call
blank_call u = call_of u (replicate (text_len u) 0)

-- how many data blocks a call takes, by the nodes and by which pages are present
abbrev pub blocks_taken : ℕ → (Handle → Option NodeCopy) → (Handle → ℕ → Bool) → Update → ℕ
blocks_taken block nodes has_page u = let c = blank_call u in blocks_wanted block nodes (ends_in_page has_page block c) c

-- two calls that are looked up, checked and planned alike
pub record SamePlan (block : ℕ) (nodes : Handle → Option NodeCopy) (has_page : Handle → ℕ → Bool) (taken : Allocation) (one other : Call)
    : Type 0 where
  -- their looks find the same
  pub found : looked nodes other ≡ looked nodes one
  -- a look refuses both for the same fault, or neither
  pub look_refusal : look_refusal nodes other ≡ look_refusal nodes one
  -- the check refuses both for the same fault, or neither
  pub refusal : refusal block nodes other ≡ refusal block nodes one
  -- they read under the same handles
  pub handles : handles (looked nodes other) other ≡ handles (looked nodes one) one
  -- both commit something, or neither
  pub nothing : is_nothing other ≡ is_nothing one
  -- the page that they end in is present for both, or for neither
  pub ends : ends_in_page has_page block other ≡ ends_in_page has_page block one
  -- they take the same number of data blocks
  pub wanted : (present : Bool) → blocks_wanted block nodes present other ≡ blocks_wanted block nodes present one
  -- they append the same items
  pub plan : plan block nodes taken other ≡ plan block nodes taken one
