-- write: the old bytes, zeros up to the offset, the text from there on, the rest kept; a text of no bytes does nothing.
use Rattle.std.specs.Prelude.{ℕ, ◌+◌, ◌*◌, ◌/◌, nat_lt, List, [], ◌∷◌, length, Option, option_map}
use Rattle.nv_base.specs.declared.fault.Fault.TheVariants as fault
use Rattle.nv_base.specs.declared.limits.TheConstants.{FILE_PAGES, WRITE_PAGES}
use Rattle.nv_base.specs.declared.numbers.Handle.{Handle}
use Rattle.nv_entry.specs.declared.item.BlockRun.{BlockRun}
use Rattle.nv_entry.specs.declared.node.NodeCopy.{NodeCopy}
use Rattle.nv_entry.specs.Bytes.{pages_touched, written}
use Rattle.nv_entry.specs.Sound.{rewritten, write_items}
use Rattle.nv_calls.specs.Plain.{Change, change}
use Rattle.nv_calls.specs.declared.plan.InodePlan.{InodePlan}
use Rattle.nv_calls.specs.Plan.{planned}
use Rattle.nv_calls.specs.Refusals.{Check, bytes_of, kind_of, passes, refuse_if, want_file}

-- what a `write` of so many bytes is refused for, at least one
abbrev pub count_refusal : ℕ → ℕ → ℕ → Check
count_refusal block offset count =
    refuse_if (nat_lt WRITE_PAGES (pages_touched block offset count)) fault.WriteTooBig
    (refuse_if (nat_lt (FILE_PAGES * block) (offset + count)) fault.FileTooBig passes)

-- what a text is refused for by its length
abbrev pub text_refusal : ℕ → ℕ → List ℕ → Check
text_refusal block offset [] = passes
text_refusal block offset (byte ∷ rest) = count_refusal block offset (length (byte ∷ rest))

-- what a `write` is refused for
abbrev pub write_refusal : ℕ → (Handle → Option NodeCopy) → Handle → ℕ → List ℕ → Check
write_refusal block nodes file offset text = want_file (kind_of (nodes file)) (text_refusal block offset text)

-- what a `write` changes: nothing where there is no byte
abbrev pub write_effect : Handle → ℕ → List ℕ → List Change
write_effect file offset [] = []
write_effect file offset (byte ∷ rest) = change file (option_map (rewritten offset (byte ∷ rest))) ∷ []

-- how many data blocks a `write` takes: one for each page that its text touches
abbrev pub write_blocks : ℕ → ℕ → List ℕ → ℕ
write_blocks block offset [] = 0
write_blocks block offset (byte ∷ rest) = pages_touched block offset (length (byte ∷ rest))

-- what a `write` appends: an item for each block run, with the file's size after the whole call
abbrev pub write_plan : ℕ → (Handle → Option NodeCopy) → Handle → ℕ → List ℕ → List BlockRun → List InodePlan
write_plan block nodes file offset [] runs = []
write_plan block nodes file offset (byte ∷ rest) runs =
    planned file (write_items (offset / block) runs (length (written offset (byte ∷ rest) (bytes_of (nodes file))))) ∷ []
