-- A session to its contracts, and what its calls leave of it.
use Rattle.std.specs.Prelude.{◌≡◌, ◌≢◌, ◌≤◌, ℕ, ◌+◌, Bool, true, false, List, Option, Some, None, is_some, length, slice_index}
use Rattle.nv_alloc.specs.Hand.{blocks_of}
use Rattle.nv_alloc.specs.declared.hand.Hand.{Hand}
use Rattle.nv_base.specs.declared.numbers.Handle.{Handle}
use Rattle.nv_calls.specs.AllCalls.{is_nothing}
use Rattle.nv_calls.specs.Commit.{ReceiptValue}
use Rattle.nv_calls.specs.Prepared.{makes}
use Rattle.nv_calls.specs.Updates.{blank_call}
use Rattle.nv_calls.specs.declared.answer.Answer.{Answer}
use Rattle.nv_calls.specs.declared.answer.Answer.TheVariants as answers
use Rattle.nv_calls.specs.declared.call.Call.{Call}
use Rattle.nv_calls.specs.declared.update.Update.{Update}
use Rattle.nv_calls.specs.declared.update.Update.TheVariants as update
use Rattle.nv_calls.specs.declared.view.View.{View}
use Rattle.nv_sessions.specs.Changing.{SeesPublished}
use Rattle.nv_sessions.specs.Locked.{version_at}
use Rattle.nv_sessions.specs.declared.giving_back.Giving.{Giving}
use Rattle.nv_sessions.specs.declared.seen.Seen.{Seen}
use Rattle.nv_sessions.specs.declared.seen.Seen.TheVariants as seen

-- what contracts see of a session's hand
pub record HeldValue : Type 0 where
  -- how many blocks it has
  pub blocks : ℕ
  -- whether it has an inode number
  pub number : Bool
  -- whether a list or the pool was asked for what is left of it, and has not taken that
  pub refused : Bool

-- what a hand holds, where its giving back went so
abbrev pub held_by : Hand → Giving → HeldValue
held_by hand giving = record { blocks = length (blocks_of hand); number = is_some hand.ino; refused = giving.refused }

-- an empty hand, of which nothing was refused
abbrev pub nothing_held : HeldValue
nothing_held = record { blocks = 0; number = false; refused = false }

-- the hand is empty, except where something of it was refused
abbrev pub IsGivenBack : HeldValue → Type 0
IsGivenBack held = held.refused ≡ false → (held.blocks ≡ 0) × (held.number ≡ false)

-- what contracts see of a session
pub record SessionValue : Type 0 where
  -- the number of its seat
  pub number : ℕ
  -- how many commits it has made since the opening
  pub commits : ℕ
  -- how many snapshots it has made and dropped since, together
  pub snapped : ℕ
  -- the version that it has seen of each inode, counted from the opening on
  pub seen : List ℕ
  -- what its hand holds
  pub held : HeldValue

-- the session with this in its hand
abbrev pub with_held : HeldValue → SessionValue → SessionValue
with_held held session = record session { held = held }

-- the session of a seat with so many commits, which has seen these versions, made and dropped no
-- snapshot and holds nothing
abbrev pub at_seat : ℕ → ℕ → List ℕ → SessionValue
at_seat number commits seen = record { number = number; commits = commits; snapped = 0; seen = seen; held = nothing_held }

-- ---- what a call has seen

-- the version that was read, or the number that was committed
abbrev pub at_of : Seen → ℕ
at_of (seen.Viewed view) = view.version
at_of (seen.Committed receipt) = receipt.stamp.commit
at_of (seen.Other answer) = 0

-- what a call that changes nodes is answered, with the handle of the inode that it made, if it made one
abbrev pub answered : Option Handle → Update → Answer
answered (Some handle) u = answers.Made handle
answered None (update.Write file offset count) = answers.Count count
answered None other = answers.Nothing

-- the answer of what a session's call has seen
abbrev pub answer_of : Seen → Answer
answer_of (seen.Viewed view) = view.found
answer_of (seen.Committed receipt) = answered receipt.made receipt.update
answer_of (seen.Other answer) = answer

-- ---- calls that change nodes

-- A CHANGE HAS ITS RECEIPT, where `opening` is the number of the last commit at the opening
pub record HasReceipt (opening : ℕ) (before after : SessionValue) (u : Update) (receipt : ReceiptValue) : Type 0 where
  -- the receipt tells the very call that was made
  pub call : receipt.update ≡ u
  -- it has the handle of a new inode exactly where the call makes one
  pub made : is_some receipt.made ≡ makes u
  -- the session has one commit more
  pub counted : after.commits ≡ before.commits + 1
  -- the commit's number is at least that at the opening and the session's commits
  pub number : opening + after.commits ≤ receipt.stamp.commit
  -- of the inode of each handle that the call names or makes a higher version is seen
  pub higher : SeesPublished before.seen after.seen u receipt
  -- of no inode a lower version is seen than before
  pub kept : (i : ℕ) → slice_index before.seen i ≤ slice_index after.seen i
  -- the session has made and dropped no more snapshots
  pub snapped : after.snapped ≡ before.snapped
  -- the session has the same seat
  pub seat : after.number ≡ before.number

-- COMMITTED BY A SESSION: its call gave a receipt of that very call
abbrev pub IsCommittedBy : ℕ → SessionValue → SessionValue → Update → Seen → Type 0
IsCommittedBy opening before after u (seen.Committed receipt) = HasReceipt opening before after u receipt
IsCommittedBy opening before after u other = ⊥

-- a call that commits nothing is answered, and leaves the session as it was, except for what its
-- hand holds; any other gave its receipt
abbrev pub IsChangedBy : ℕ → SessionValue → SessionValue → Update → Seen → Type 0
IsChangedBy opening before after u (seen.Viewed view) = ⊥
IsChangedBy opening before after u (seen.Committed receipt) =
    (is_nothing (blank_call u) ≡ false) × HasReceipt opening before after u receipt
IsChangedBy opening before after u (seen.Other answer) =
    (is_nothing (blank_call u) ≡ true) × (answer ≡ answered None u) × (after ≡ with_held after.held before)

-- ---- calls that read a node

-- a view of the call, of that version
abbrev pub IsFoundAt : ℕ → Call → View → Type 0
IsFoundAt version c view = (view.call ≡ c) × (view.version ≡ version)

-- A READ HAS ITS VIEW, where `opened` has the versions of all inodes at the opening
pub record HasView (opened : List ℕ) (before after : SessionValue) (ino : ℕ) (c : Call) (view : View) : Type 0 where
  -- the view tells the very call that was made
  pub call : view.call ≡ c
  -- it is of no older version of the inode than the session has seen
  pub no_older : version_at opened ino (slice_index before.seen ino) ≤ view.version
  -- the session has seen that version from then on
  pub seen : version_at opened ino (slice_index after.seen ino) ≡ view.version
  -- of all other inodes it has seen what it had
  pub elsewhere : (i : ℕ) → i ≢ ino → slice_index after.seen i ≡ slice_index before.seen i
  -- it has no more commits
  pub commits : after.commits ≡ before.commits
  -- it has made and dropped no more snapshots
  pub snapped : after.snapped ≡ before.snapped
  -- it has the same seat
  pub seat : after.number ≡ before.number
  -- its hand holds what it held
  pub held : after.held ≡ before.held

-- VIEWED BY A SESSION: its call gave a view of that very call
abbrev pub IsViewedBy : List ℕ → SessionValue → SessionValue → ℕ → Call → Seen → Type 0
IsViewedBy opened before after ino c (seen.Viewed view) = HasView opened before after ino c view
IsViewedBy opened before after ino c other = ⊥
