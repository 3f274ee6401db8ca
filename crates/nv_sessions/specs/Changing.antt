-- A change over cells whose guards are held.
use Rattle.std.specs.Prelude.{◌≡◌, ℕ, ◌+◌, ◌-◌, ◌<◌, ◌≤◌, ◌^◌, ◌⊎◌, ◌&&◌, Bool, true, false, List, [], ◌∷◌, ◌++◌, Option, Some, None, Result, Ok, Err, is_some, length, slice_index}
use Rattle.std.specs.List.{AllByRecursion, sum_by}
use Rattle.nv_alloc.specs.Block.{BlockValue}
use Rattle.nv_alloc.specs.Hand.{blocks_of}
use Rattle.nv_alloc.specs.Queue.{QueueValue}
use Rattle.nv_alloc.specs.declared.hand.Hand.{Hand}
use Rattle.nv_base.specs.declared.fault.Fault.{Fault}
use Rattle.nv_base.specs.declared.fault.Fault.TheVariants as fault
use Rattle.nv_base.specs.declared.fault.MismatchPart.TheVariants as part
use Rattle.nv_base.specs.declared.numbers.Handle.{Handle}
use Rattle.nv_calls.specs.AllCalls.{is_nothing, refusal}
use Rattle.nv_calls.specs.Cells.{ino_at, state_at}
use Rattle.nv_calls.specs.Checked.{ends_over}
use Rattle.nv_calls.specs.Commit.{ReceiptValue}
use Rattle.nv_calls.specs.Nodes.{has_page_in, nodes_in}
use Rattle.nv_calls.specs.Prepared.{HasNumberFor, IsEmptySlot, IsStill, makes}
use Rattle.nv_calls.specs.Refusals.{kind_of, passes}
use Rattle.nv_calls.specs.Updates.{blank_call, blocks_taken}
use Rattle.nv_calls.specs.declared.check_end.CheckEnd.{CheckEnd}
use Rattle.nv_calls.specs.declared.check_end.CheckEnd.TheVariants as ends
use Rattle.nv_calls.specs.declared.looked.LookupResult.{LookupResult}
use Rattle.nv_calls.specs.declared.update.Update.{Update}
use Rattle.nv_calls.specs.declared.update.Update.TheVariants as update
use Rattle.nv_cell.specs.Cell.{CellValue, IsCell, block_total}
use Rattle.nv_entry.specs.declared.node.NodeCopy.{NodeCopy}
use Rattle.nv_sessions.specs.declared.change.ChangeEnd.{ChangeEnd}
use Rattle.nv_sessions.specs.declared.change.ChangeEnd.TheVariants.{Answers, BoundAnew, Refuses}
use Rattle.nv_sessions.specs.Refusing.{MayEnd, looks_up}

-- ---- what is tested of the parts that a change is lent

-- the blocks of the cells have that size
abbrev pub AreOfSize : ℕ → List (ℕ × CellValue) → Type 0
AreOfSize block cells = AllByRecursion (λ (c : ℕ × CellValue). c.1.state.block ≡ block) cells

-- no cell has an entry past its tail
abbrev pub AreSettled : List (ℕ × CellValue) → Type 0
AreSettled cells = AllByRecursion (λ (c : ℕ × CellValue). c.1.state.chain.tail ≡ length c.1.state.chain.entries) cells

-- why cells are not lent to a change: blocks of another size, or an entry past a tail. No type
-- keeps these, so they are tested before a change, and such a test tells `Mismatch`.
abbrev pub RefusesCells : ℕ → List (ℕ × CellValue) → Fault → Type 0
RefusesCells block cells refusal =
    ((refusal ≡ fault.Mismatch part.Lists) × (AreOfSize block cells → ⊥))
    ⊎ ((refusal ≡ fault.Mismatch part.Index) × (AreSettled cells → ⊥))

-- a hand for blocks of that size, which holds none
pub record IsFreeHand (block : ℕ) (hand : Hand) : Type 0 where
  -- its data blocks are to have that size
  pub «data» : hand.«data».size ≡ block
  -- its log pages are to have that size
  pub pages : hand.pages.size ≡ block
  -- it has no block
  pub none : length (blocks_of hand) ≡ 0

-- a number in the hand is that of an empty slot among the cells, and of a call that makes an inode
abbrev pub FitsNumber : List (ℕ × CellValue) → Bool → Option ℕ → Type 0
FitsNumber cells makes None = Unit {0}
FitsNumber cells true (Some ino) = IsEmptySlot cells ino
FitsNumber cells false (Some ino) = ⊥

-- a change has passed its check over these cells, with such a hand
pub record HasPassed (block : ℕ) (cells : List (ℕ × CellValue)) (hand : Hand) (u : Update) (wanted : ℕ) : Type 0 where
  -- each cell has blocks of that size, and no entry past the tail
  pub still : AllByRecursion (λ (c : ℕ × CellValue). IsStill block c.1.state) cells
  -- the hand is for blocks of that size, and holds none
  pub hand_is : IsFreeHand block hand
  -- the hand has the number of an empty slot where an inode is made, and else none
  pub number : HasNumberFor cells (makes u) hand.ino
  -- the plain world does not refuse the call over these nodes
  pub passed : refusal block (nodes_in cells) (blank_call u) ≡ passes
  -- the call has something to commit
  pub something : is_nothing (blank_call u) ≡ false
  -- the call takes so many data blocks
  pub wants : wanted ≡ blocks_taken block (nodes_in cells) (has_page_in cells) u

-- whether the directories are there in which a call looks names up: of other calls this is not asked
abbrev pub directories_there : (Handle → Option NodeCopy) → Update → Bool
directories_there nodes (update.Unlink dir name) = is_some (kind_of (nodes dir))
directories_there nodes (update.Rmdir dir name) = is_some (kind_of (nodes dir))
directories_there nodes (update.Rename from old to new) = is_some (kind_of (nodes from)) && is_some (kind_of (nodes to))
directories_there nodes other = false

-- a check that finds something stale, where the directories are there in which names are looked
-- up: what is stale is what a name leads to, which is told as a `Mismatch` of names
abbrev pub misnamed : Bool → CheckEnd → CheckEnd
misnamed true (ends.Refuses fault.Stale) = ends.Refuses (fault.Mismatch part.Names)
misnamed there end = end

-- how a check ends a change: by a part that does not fit, or by the tests of the call
abbrev pub EndsCheck : ℕ → List (ℕ × CellValue) → LookupResult → Update → Hand → CheckEnd → Type 0
EndsCheck block cells looked u hand end =
    ((refusal : Fault) × (end ≡ ends.Refuses refusal) × RefusesCells block cells refusal)
    ⊎ ((end ≡ ends.Refuses (fault.Mismatch part.Lists)) × (IsFreeHand block hand × FitsNumber cells (makes u) hand.ino → ⊥))
    ⊎ ((told : CheckEnd) × (end ≡ misnamed (directories_there (nodes_in cells) u) told)
    × (ends_over block (nodes_in cells) looked (is_some hand.ino) u ≡ Some told))

-- ---- blocks

-- each block has a number below 2^32
abbrev pub AreSmall : List BlockValue → Type 0
AreSmall blocks = AllByRecursion (λ (b : BlockValue). b.number < 2 ^ 32) blocks

-- a queue took so many blocks, each with a number below 2 ^ 32
pub record HasTaken (n : ℕ) (old new : QueueValue) : Type 0 where
  -- it has so many blocks more
  pub count : length new.blocks ≡ length old.blocks + n
  -- its blocks have the size that they had
  pub size : new.size ≡ old.size
  -- it has room for so many fewer
  pub room : new.room ≡ old.room - n
  -- where its blocks had numbers below 2 ^ 32, they still have
  pub small : AreSmall old.blocks → AreSmall new.blocks

-- how many blocks the cells have
abbrev pub blocks_in : List (ℕ × CellValue) → ℕ
blocks_in cells = sum_by (λ (c : ℕ × CellValue). block_total c.1.state) cells

-- ---- versions

-- each of these cells is a cell
abbrev pub AreWhole : List (ℕ × CellValue) → Type 0
AreWhole cells = AllByRecursion (λ (c : ℕ × CellValue). IsCell c.1.state) cells

-- cells before and after a change: each is at its version or at the next one
pub record MayBeRaised (old new : List (ℕ × CellValue)) : Type 0 where
  -- there are as many as before
  pub count : length new ≡ length old
  -- they are of the same inodes, in their order
  pub numbers : (k : ℕ) → ino_at new k ≡ ino_at old k
  -- no cell is at a lower version
  pub least : (k : ℕ) → (state_at old k).version ≤ (state_at new k).version
  -- no cell is more than one version higher
  pub most : (k : ℕ) → (state_at new k).version ≤ (state_at old k).version + 1

-- no cell has another version than before
abbrev pub KeepVersions : List (ℕ × CellValue) → List (ℕ × CellValue) → Type 0
KeepVersions old new = (k : ℕ) → (state_at new k).version ≡ (state_at old k).version

-- the cell of an inode is at its next version
pub record IsRaised (old new : List (ℕ × CellValue)) (ino : ℕ) : Type 0 where
  -- its place among the cells
  pub at : ℕ
  -- that place is one of theirs
  pub within : at < length old
  -- the cell there is that of the inode
  pub ino_is : ino_at old at ≡ ino
  -- it has seen one commit more
  pub version : (state_at new at).version ≡ (state_at old at).version + 1

-- ---- what it tells

-- the handles that a change names
abbrev pub handles_of : Update → List Handle
handles_of (update.Create dir name mode) = dir ∷ []
handles_of (update.Mkdir dir name mode) = dir ∷ []
handles_of (update.Write file offset count) = file ∷ []
handles_of (update.Size file size) = file ∷ []
handles_of (update.Mode handle mode) = handle ∷ []
handles_of (update.Unlink dir name) = dir ∷ []
handles_of (update.Rmdir dir name) = dir ∷ []
handles_of (update.Rename from old to new) = from ∷ to ∷ []

-- the inodes that a commit is sure to publish: those of its handles, and the one that it makes
abbrev pub published_by : Update → Option Handle → List Handle
published_by u None = handles_of u
published_by u (Some made) = handles_of u ++ made ∷ []

-- the receipt is that of the call
pub record IsReceiptOf (u : Update) (receipt : ReceiptValue) : Type 0 where
  -- it tells the very call that was made
  pub call : receipt.update ≡ u
  -- it has the handle of a new inode exactly where the call makes one
  pub made : is_some receipt.made ≡ makes u

-- the inode of each of these handles is at its next version
abbrev pub AreRaised : List (ℕ × CellValue) → List (ℕ × CellValue) → List Handle → Type 0
AreRaised old new handles = AllByRecursion (λ (h : Handle). IsRaised old new h.ino) handles

-- of the inode of each of these handles a higher version was seen than before
abbrev pub HaveSeenHigher : List ℕ → List ℕ → List Handle → Type 0
HaveSeenHigher before after handles = AllByRecursion (λ (h : Handle). slice_index before h.ino < slice_index after h.ino) handles

-- each inode that a commit is sure to publish is at its next version
abbrev pub RaisesPublished : List (ℕ × CellValue) → List (ℕ × CellValue) → Update → ReceiptValue → Type 0
RaisesPublished old new u receipt = AreRaised old new (published_by u receipt.made)

-- of each inode that a commit is sure to publish the session has seen a higher version than before
abbrev pub SeesPublished : List ℕ → List ℕ → Update → ReceiptValue → Type 0
SeesPublished before after u receipt = HaveSeenHigher before after (published_by u receipt.made)

-- the end of a change is of this call: where a name was bound anew, the call comes back, and looks
-- names up; where it is answered, it has nothing to commit; where it is refused, it may be refused
-- so
abbrev pub IsOfCall : Update → ChangeEnd → Type 0
IsOfCall call (BoundAnew back) = (back ≡ call) × (looks_up call ≡ true)
IsOfCall call Answers = is_nothing (blank_call call) ≡ true
IsOfCall call (Refuses why) = MayEnd call why

-- a change over these cells is committed: it counts as one of the seat's commits, and raises what
-- it is sure to publish
pub record IsCommittedOver (opening before after : ℕ) (old new : List (ℕ × CellValue)) (u : Update)
    (receipt : ReceiptValue) : Type 0 where
  -- it commits something
  pub some : is_nothing (blank_call u) ≡ false
  -- it counts as one
  pub counted : after ≡ before + 1
  -- its number is at least that at the opening and the seat's commits
  pub least : opening + after ≤ receipt.stamp.commit
  -- the receipt is that of the call
  pub call : IsReceiptOf u receipt
  -- what it is sure to publish is at its next version
  pub raised : RaisesPublished old new u receipt

-- how a change over these cells ends: committed, or with all versions as they were
abbrev pub IsDoneOver : ℕ → ℕ → ℕ → List (ℕ × CellValue) → List (ℕ × CellValue) → Update
    → Result ReceiptValue ChangeEnd → Type 0
IsDoneOver opening before after old new u (Ok receipt) =
    IsCommittedOver opening before after old new u receipt
IsDoneOver opening before after old new u (Err end) =
    (after ≡ before) × KeepVersions old new × IsOfCall u end
