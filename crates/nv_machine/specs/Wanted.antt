-- How much a call's takings want, and from which step a call goes on to each: data blocks first, and then log pages.
use Rattle.std.specs.Prelude.{◌≡◌, ℕ, ◌+◌, ◌-◌, ◌<◌, ◌⊎◌, length}
use Rattle.nv_calls.specs.AllCalls.{blocks_wanted}
use Rattle.nv_machine.specs.Kinds.{asked_list}
use Rattle.nv_machine.specs.Reads.{copies, has_last_page, pages_wanted, plan_by}
use Rattle.nv_machine.specs.World.{Check, Ends, HandState, Moves, Next, Ready, Running, Shared, TakeBlocks, TakeLogPages, Turn, Waits, list_at}

-- ---- how much is wanted

-- how many data blocks a call wants, by what its check reads
abbrev pub data_wanted : ℕ → Shared → Running → ℕ
data_wanted block s r = blocks_wanted block (copies s) (has_last_page block s r.call) r.call

-- how many log pages it wants, by the plan that the data blocks in its hand make
abbrev pub log_pages_wanted : ℕ → Shared → HandState → Running → ℕ
log_pages_wanted block s h r = pages_wanted s r.slots (plan_by block s h r)

-- how many blocks are still wanted after a step that asks its list
abbrev pub lacking : ℕ → ℕ → Shared → Running → ℕ
lacking asked actor s r = r.wanted - length (list_at s (asked_list (length s.lists) actor asked)).blocks

-- ---- from step to step

-- a taking begins
pub record Begins (asked wanted all : ℕ) : Type 0 where
  -- it asks the list of the actor's own CPU first
  pub own_list : asked ≡ 0
  -- it wants all that the call wants of its kind
  pub is : wanted ≡ all
  -- it wants at least one block
  pub some : 0 < wanted

-- a taking goes on to the next list
pub record GoesOn (before asked wanted left : ℕ) : Type 0 where
  -- it asks the list behind the one before
  pub next : asked ≡ before + 1
  -- it wants what that one has left to want
  pub is : wanted ≡ left
  -- it wants at least one block
  pub some : 0 < wanted

-- behind this step the hand has all the data of the call: the check wants none, or the list has what is wanted yet
abbrev pub HasAllData : Next → ℕ → ℕ → Shared → Running → Type 0
HasAllData Check block actor s r = data_wanted block s r ≡ 0
HasAllData (TakeBlocks asked) block actor s r = lacking asked actor s r ≡ 0
HasAllData other block actor s r = ⊥

-- FROM WHICH STEP a call goes on to which taking: a step `k` leads to it, or past both, and leaves
-- this behind it
abbrev pub LeadsTo : Next → Next → ℕ → ℕ → Shared → Running → Shared → HandState → Running → Type 0
LeadsTo (TakeBlocks asked) k block actor s r t after q =
    ((k ≡ Check) × Begins asked q.wanted (data_wanted block s r))
    ⊎ ((before : ℕ) × (k ≡ TakeBlocks before) × GoesOn before asked q.wanted (lacking before actor s r))
LeadsTo (TakeLogPages asked) k block actor s r t after q =
    (HasAllData k block actor s r × Begins asked q.wanted (log_pages_wanted block t after q))
    ⊎ ((before : ℕ) × (k ≡ TakeLogPages before) × GoesOn before asked q.wanted (lacking before actor s r))
LeadsTo Ready k block actor s r t after q =
    (HasAllData k block actor s r × (log_pages_wanted block t after q ≡ 0))
    ⊎ ((before : ℕ) × (k ≡ TakeLogPages before) × (lacking before actor s r ≡ 0))
LeadsTo other k block actor s r t after q = Unit {0}

-- TWO TAKINGS: each step that goes on does so as `LeadsTo` says
abbrev pub TakesInTurn : Next → ℕ → ℕ → Shared → Running → Turn → Type 0
TakesInTurn k block actor s r (Moves t after q) = LeadsTo q.next k block actor s r t after q
TakesInTurn k block actor s r Waits = Unit {0}
TakesInTurn k block actor s r (Ends result t after) = Unit {0}
