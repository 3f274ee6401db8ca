-- size: the bytes cut, or zeros added.
use Rattle.std.specs.Prelude.{◌≡◌, ℕ, ◌-◌, ◌*◌, ◌/◌, ◌%◌, ◌==◌, ◌&&◌, Bool, not, if◌then◌else◌, nat_lt, List, [], ◌∷◌, ◌++◌, length, take, replicate, Option, option_map}
use Rattle.std.specs.List.{AllByRecursion}
use Rattle.nv_base.specs.declared.fault.Fault.TheVariants as fault
use Rattle.nv_base.specs.declared.limits.TheConstants.{FILE_PAGES}
use Rattle.nv_base.specs.declared.numbers.Handle.{Handle}
use Rattle.nv_entry.specs.declared.item.Item.TheVariants.{SetSize}
use Rattle.nv_entry.specs.declared.item.BlockRun.{BlockRun}
use Rattle.nv_entry.specs.declared.node.NodeCopy.{NodeCopy}
use Rattle.nv_entry.specs.Bytes.{page_of}
use Rattle.nv_entry.specs.Sound.{write_items}
use Rattle.nv_calls.specs.Plain.{Change, change}
use Rattle.nv_calls.specs.declared.plan.InodePlan.{InodePlan}
use Rattle.nv_calls.specs.Plan.{planned}
use Rattle.nv_calls.specs.Refusals.{Check, bytes_of, kind_of, passes, refuse_if, want_file}

-- what a `size` is refused for
abbrev pub size_refusal : ℕ → (Handle → Option NodeCopy) → Handle → ℕ → Check
size_refusal block nodes file size =
    want_file (kind_of (nodes file)) (refuse_if (nat_lt (FILE_PAGES * block) size) fault.FileTooBig passes)

-- the bytes cut at a size, or zeros added up to it
abbrev pub resized : ℕ → List ℕ → List ℕ
resized size bytes = take size (bytes ++ replicate (size - length bytes) 0)

-- a node cut or made longer with zeros
abbrev pub resized_node : ℕ → NodeCopy → NodeCopy
resized_node size node = record node { size = size; bytes = resized size node.bytes }

-- what a `size` changes
abbrev pub size_effect : Handle → ℕ → List Change
size_effect file size = change file (option_map (resized_node size)) ∷ []

-- a page is cut: the size is below the old one and inside a block, and the page there is present
abbrev pub cuts_page : ℕ → ℕ → Bool → List ℕ → Bool
cuts_page block size present bytes = nat_lt size (length bytes) && not (size % block == 0) && present

-- how many data blocks a `size` takes: one for a page that it cuts
abbrev pub size_blocks : ℕ → (Handle → Option NodeCopy) → Handle → ℕ → Bool → ℕ
size_blocks block nodes file size present = if cuts_page block size present (bytes_of (nodes file)) then 1 else 0

-- what a `size` appends: the page that is cut, with zeros past the size, and the size.
-- Example, with blocks of 4 bytes: a size of 5 for a file of 10 bytes takes one block for page 1.
-- The block gets the byte at 4 and three zeros. The plan is Write{first 1, that block, size 5} and
-- then SetSize{5}. A size of 12 afterwards plans SetSize{12} alone.
abbrev pub size_plan : ℕ → Handle → ℕ → List BlockRun → List InodePlan
size_plan block file size runs = planned file (write_items (size / block) runs size ++ SetSize size ∷ []) ∷ []

-- a run of one block, which has the page that a size ends in after the cut
abbrev pub IsCutPage : (ℕ → List ℕ) → ℕ → ℕ → List ℕ → BlockRun → Type 0
IsCutPage bytes block size before run = (run.len ≡ 1) × (bytes run.start ≡ page_of block (size / block) (resized size before))

-- the block run for a page that a size cuts
pub record HaveCut (bytes : ℕ → List ℕ) (block size : ℕ) (present : Bool) (before : List ℕ) (runs : List BlockRun) : Type 0 where
  -- there is one run where a page is cut, and else none
  pub count : length runs ≡ (if cuts_page block size present before then 1 else 0)
  -- the run is one block, with the page as it is after the cut
  pub filled : AllByRecursion (IsCutPage bytes block size before) runs
