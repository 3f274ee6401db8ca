-- What a call knows between its check and its commit point, all of it true of now: that it passes, and that its plan is
-- that of the blocks that it has filled. It is kept wherever the slots that the call locks are kept.
use Rattle.std.proofs.Common.{◌≡◌, ℕ, zero, suc, ◌+◌, ◌<◌, ◌++◌, ◌∙◌, Bool, true, List, [], ◌∷◌, Option, Some, None, ap, length, map, refl, slice_index_or, subst, sym}
use Rattle.std.specs.List.{AllByRecursion}
use Rattle.nv_alloc.specs.Block.{BlockValue}
use Rattle.nv_alloc.specs.Numbers.{has}
use Rattle.nv_base.specs.declared.numbers.Handle.{Handle}
use Rattle.nv_calls.specs.AllCalls.{blocks_wanted, looked, plan, present_in, refusal}
use Rattle.nv_calls.specs.Locked.{Agree, SameCall, handles, locks, handles_made_by}
use Rattle.nv_calls.specs.Plain.{PlainNode, node_in}
use Rattle.nv_calls.specs.Refusals.{passes}
use Rattle.nv_calls.specs.Slots.{IsFree, InodeSlot}
use Rattle.nv_calls.specs.declared.call.Call.{Call}
use Rattle.nv_calls.specs.declared.call.Call.TheVariants as call
use Rattle.nv_calls.specs.declared.looked.LookupResult.{LookupResult}
use Rattle.nv_calls.specs.declared.plan.InodePlan.{InodePlan}
use Rattle.nv_calls.specs.declared.allocation.Allocation.{Allocation}
use Rattle.nv_calls.proofs.Same.{call_same}
use Rattle.nv_machine.specs.Effects.{settled_slots}
use Rattle.nv_machine.specs.Hands.{makes_inode}
use Rattle.nv_calls.specs.FillPages.{filled}
use Rattle.nv_machine.specs.Reads.{if_number, slots_in, slots_of}
use Rattle.nv_machine.specs.Sequence.{beginning}
use Rattle.nv_machine.specs.Settled.{settled_nodes}
use Rattle.nv_machine.specs.World.{Append, Check, Close, Enter, HandState, Lock, Next, Open, Publish, Ready, Running, Shared, TakeBlocks, TakeLogPages, cell_at}
use Rattle.nv_calls.specs.Filled.{AreFilled}
use Rattle.nv_machine.proofs.FitsRuns.{fresh_same, taken_of}
use Rattle.nv_machine.proofs.EachElement.{all_back}

-- ---- what a call reads

-- the nodes and slots by their settled logs, and how many slots there are
pub record View : Type 0 where
  pub nodes : Handle → Option PlainNode
  pub slots : ℕ → InodeSlot
  pub many : ℕ

abbrev pub view : Shared → View
view s = record { nodes = settled_nodes s; slots = settled_slots s; many = length s.cells }

-- the handle of a slot that is locked, if it is one
abbrev pub IsLocked : ℕ → List ℕ → Handle → Type 0
IsLocked many locked handle = handle.ino < many → has locked handle.ino ≡ true

-- a call passes now, and has locked what it reads, and the slot of a new inode, which is free
pub record IsPassed (block : ℕ) (v : View) (c : Call) (seen : LookupResult) (new : Handle) (locked : List ℕ) : Type 0 where
  pub covers : AllByRecursion (IsLocked v.many locked) (locks seen new c)
  pub found : looked (node_in v.nodes) c ≡ seen
  pub passes : refusal block (node_in v.nodes) c ≡ passes
  pub inside : makes_inode (beginning c) ≡ true → new.ino < v.many
  pub free : makes_inode (beginning c) ≡ true → IsFree v.slots new

-- how many blocks it wants now
abbrev pub wanted_in : ℕ → View → Call → ℕ
wanted_in block v c = blocks_wanted block (node_in v.nodes) (present_in block v.slots c) c

-- its plan is that of blocks that it has filled
pub record IsDrawn (block : ℕ) (v : View) (c : Call) (new : Handle) (planned : List InodePlan) (fresh : List BlockValue) : Type 0 where
  pub plan : planned ≡ plan block (node_in v.nodes) (taken_of new fresh) c
  pub filled : AreFilled block (node_in v.nodes) (present_in block v.slots c) c fresh

-- ---- where the slots that a call locks are the same

pub record SameFor (v w : View) (locked : List ℕ) : Type 0 where
  pub many : w.many ≡ v.many
  pub nodes : (handle : Handle) → IsLocked v.many locked handle → w.nodes handle ≡ v.nodes handle
  pub slots : (handle : Handle) → IsLocked v.many locked handle → w.slots handle.ino ≡ v.slots handle.ino

agree_on : (v w : View) (locked : List ℕ) → SameFor v w locked → (list : List Handle) → AllByRecursion (IsLocked v.many locked) list
    → Agree v.nodes w.nodes list
agree_on v w locked same [] all = tt
agree_on v w locked same (handle ∷ list) all = (same.nodes handle all.0, agree_on v w locked same list all.1)

-- the new inode is locked too
pub made_locked : (many : ℕ) (locked : List ℕ) (seen : LookupResult) (new : Handle) (c : Call) → makes_inode (beginning c) ≡ true
    → AllByRecursion (IsLocked many locked) (locks seen new c) → IsLocked many locked new
made_locked many locked seen new (call.Create dir name mode) e all = all.0
made_locked many locked seen new (call.Mkdir dir name mode) e all = all.0
made_locked many locked seen new other e all = cc

module _ (block : ℕ) (v w : View) (c : Call) (seen : LookupResult) (new : Handle) (locked : List ℕ) (same : SameFor v w locked)
    (p : IsPassed block v c seen new locked) where
  agree : Agree v.nodes w.nodes (handles seen c)
  agree = agree_on v w locked same (handles seen c) (all_back (IsLocked v.many locked) (handles_made_by new c) (handles seen c) p.covers)

  same_call : (taken : Allocation) → SameCall block v.nodes w.nodes taken c
  same_call taken = call_same block v.nodes w.nodes taken c (subst (λ (l : LookupResult). Agree v.nodes w.nodes (handles l c))
      (sym p.found) agree)

  abbrev nothing_taken : Allocation
  nothing_taken = record { made = new; runs = [] }

  new_slot : makes_inode (beginning c) ≡ true → w.slots new.ino ≡ v.slots new.ino
  new_slot e = same.slots new (made_locked v.many locked seen new c e p.covers)

  pub passed_still : IsPassed block w c seen new locked
  passed_still = record {
    covers = subst (λ (n : ℕ). AllByRecursion (IsLocked n locked) (locks seen new c)) (sym same.many) p.covers;
    found = (same_call nothing_taken).found ∙ p.found;
    passes = (same_call nothing_taken).refusal ∙ p.passes;
    inside = λ e. subst (λ (n : ℕ). new.ino < n) (sym same.many) (p.inside e);
    free = λ e. record {
      empty = ap (λ (x : InodeSlot). x.log) (new_slot e) ∙ (p.free e).empty;
      own = (p.free e).own ∙ sym (ap (λ (x : InodeSlot). x.generation) (new_slot e));
    };
  }

  present_same : present_in block w.slots c ≡ present_in block v.slots c
  present_same = go c p.covers where
    go : (c : Call) → AllByRecursion (IsLocked v.many locked) (locks seen new c) → present_in block w.slots c ≡ present_in block v.slots c
    go (call.Size file size) all = rw (same.slots file all.0) refl
    go other all = refl

  pub wanted_still : wanted_in block w c ≡ wanted_in block v c
  wanted_still =
      ap (λ (b : Bool). blocks_wanted block (node_in w.nodes) b c) present_same
      ∙ (same_call nothing_taken).wanted (present_in block v.slots c)

  pub plan_still : (fresh : List BlockValue)
      → plan block (node_in w.nodes) (taken_of new fresh) c ≡ plan block (node_in v.nodes) (taken_of new fresh) c
  plan_still fresh = (same_call (taken_of new fresh)).plan

  pub drawn_still : (planned : List InodePlan) (fresh : List BlockValue) → IsDrawn block v c new planned fresh
      → IsDrawn block w c new planned fresh
  drawn_still planned fresh d = record {
    plan = d.plan ∙ sym (plan_still fresh);
    filled = record {
      before = d.filled.before;
      is = d.filled.is ∙ sym (ap (λ (pages : List (List ℕ)). filled pages d.filled.before) (fresh_same block v.nodes w.nodes seen c agree));
      count = d.filled.count ∙ sym wanted_still;
      small = d.filled.small;
    };
  }

-- ---- a call before a step

-- a block that stands in a locked cell
pub record IsStored (s : Shared) (locked : List ℕ) (b : BlockValue) : Type 0 where
  pub ino : ℕ
  pub place : ℕ
  pub held : has locked ino ≡ true
  pub is : slice_index_or (cell_at s ino).blocks place None ≡ Some b

-- what was filled is in the hand until the first append, and then in the cells
abbrev pub AreAt : ℕ → Shared → List ℕ → HandState → List BlockValue → Type 0
AreAt zero s locked h fresh = h.blocks ≡ fresh
AreAt (suc place) s locked h fresh = AllByRecursion (IsStored s locked) fresh

-- a plan of blocks that were filled, which stand somewhere
pub record HasDrawn (block : ℕ) (v : View) (c : Call) (new : Handle) (planned : List InodePlan) (At : List BlockValue → Type 0) : Type 0 where
  pub fresh : List BlockValue
  pub drawn : IsDrawn block v c new planned fresh
  pub at : At fresh

abbrev pub Passed : ℕ → Shared → Running → Type 0
Passed block s r = IsPassed block (view s) r.call r.looked r.made r.slots

abbrev pub Drawn : ℕ → Shared → Running → (List BlockValue → Type 0) → Type 0
Drawn block s r At = HasDrawn block (view s) r.call r.made r.plan At

abbrev pub FitsAt : Next → ℕ → Shared → HandState → Running → Type 0
FitsAt (Lock place) block s h r = r.slots ≡ slots_of s h.ino r.looked r.call
FitsAt Check block s h r = r.slots ≡ slots_of s h.ino r.looked r.call
FitsAt (TakeBlocks asked) block s h r = Passed block s r × (length h.blocks + r.wanted ≡ wanted_in block (view s) r.call)
FitsAt (TakeLogPages asked) block s h r = Passed block s r × (length h.blocks ≡ wanted_in block (view s) r.call)
FitsAt Ready block s h r = Passed block s r × (length h.blocks ≡ wanted_in block (view s) r.call)
FitsAt Enter block s h r = Passed block s r × Drawn block s r (λ fresh. h.blocks ≡ fresh)
FitsAt (Append place) block s h r = Passed block s r × Drawn block s r (AreAt place s r.slots h)
FitsAt Open block s h r = Passed block s r × Drawn block s r (AllByRecursion (IsStored s r.slots))
FitsAt (Publish place) block s h r = Passed block s r × Drawn block s r (AllByRecursion (IsStored s r.slots))
FitsAt Close block s h r = Passed block s r × Drawn block s r (AllByRecursion (IsStored s r.slots))
FitsAt other block s h r = Unit {0}

abbrev pub FitsOf : Option Running → ℕ → Shared → HandState → Type 0
FitsOf None block s h = Unit {0}
FitsOf (Some r) block s h = FitsAt r.next block s h r

-- what holds of a call is kept where what it locks is the same, and cells have their blocks
pub record SameStored (s t : Shared) (locked : List ℕ) : Type 0 where
  pub same : SameFor (view s) (view t) locked
  pub blocks : (ino place : ℕ) (b : BlockValue) → has locked ino ≡ true → slice_index_or (cell_at s ino).blocks place None ≡ Some b
      → slice_index_or (cell_at t ino).blocks place None ≡ Some b

pub stored_still : (s t : Shared) (locked : List ℕ) → SameStored s t locked → (fresh : List BlockValue)
    → AllByRecursion (IsStored s locked) fresh → AllByRecursion (IsStored t locked) fresh
stored_still s t locked same [] all = tt
stored_still s t locked same (b ∷ fresh) all = (
  record { ino = all.0.ino; place = all.0.place; held = all.0.held; is = same.blocks all.0.ino all.0.place b all.0.held all.0.is },
  stored_still s t locked same fresh all.1,
)

module _ (block : ℕ) (s t : Shared) (h : HandState) (r : Running) (same : SameStored s t r.slots) where
  pub passed_on : Passed block s r → Passed block t r
  passed_on p = passed_still block (view s) (view t) r.call r.looked r.made r.slots same.same p

  pub drawn_on : (At Now : List BlockValue → Type 0) → ((fresh : List BlockValue) → At fresh → Now fresh) → Passed block s r
      → Drawn block s r At → Drawn block t r Now
  drawn_on At Now f p d = record {
    fresh = d.fresh;
    drawn = drawn_still block (view s) (view t) r.call r.looked r.made r.slots same.same p r.plan d.fresh d.drawn;
    at = f d.fresh d.at;
  }

  pub wanted_on : (n : ℕ) → Passed block s r → n ≡ wanted_in block (view s) r.call → n ≡ wanted_in block (view t) r.call
  wanted_on n p e = e ∙ sym (wanted_still block (view s) (view t) r.call r.looked r.made r.slots same.same p)

  pub stored_on : (fresh : List BlockValue) → AllByRecursion (IsStored s r.slots) fresh → AllByRecursion (IsStored t r.slots) fresh
  stored_on fresh all = stored_still s t r.slots same fresh all

  at_on : (place : ℕ) (fresh : List BlockValue) → AreAt place s r.slots h fresh → AreAt place t r.slots h fresh
  at_on zero fresh at = at
  at_on (suc place) fresh at = stored_on fresh at

  abbrev slots_among : ℕ → List ℕ
  slots_among n = slots_in n (if_number h.ino ++ map (λ (x : Handle). x.ino) (handles r.looked r.call))

  -- a step of another actor
  pub fits_still : (k : Next) → FitsAt k block s h r → FitsAt k block t h r
  fits_still (Lock place) f = f ∙ ap slots_among (sym same.same.many)
  fits_still Check f = f ∙ ap slots_among (sym same.same.many)
  fits_still (TakeBlocks asked) f = (passed_on f.0, wanted_on _ f.0 f.1)
  fits_still (TakeLogPages asked) f = (passed_on f.0, wanted_on _ f.0 f.1)
  fits_still Ready f = (passed_on f.0, wanted_on _ f.0 f.1)
  fits_still Enter f = (passed_on f.0, drawn_on _ _ (λ fresh e. e) f.0 f.1)
  fits_still (Append place) f = (passed_on f.0, drawn_on _ _ (at_on place) f.0 f.1)
  fits_still Open f = (passed_on f.0, drawn_on _ _ stored_on f.0 f.1)
  fits_still (Publish place) f = (passed_on f.0, drawn_on _ _ stored_on f.0 f.1)
  fits_still Close f = (passed_on f.0, drawn_on _ _ stored_on f.0 f.1)
  fits_still other f = tt
