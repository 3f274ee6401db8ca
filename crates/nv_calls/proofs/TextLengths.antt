-- The check and the plan of a write depend on its text by its length alone.
use Rattle.std.proofs.Common.{◌≡◌, ℕ, zero, suc, ◌+◌, ◌/◌, ◌<◌, max, Bool, List, [], ◌∷◌, length, replicate, Option, arith, refl, ap, sym, ◌∙◌}
use Rattle.std.proofs.lemmas.List.{length-replicate}
use Rattle.nv_base.specs.declared.numbers.Handle.{Handle}
use Rattle.nv_entry.specs.declared.item.BlockRun.{BlockRun}
use Rattle.nv_entry.specs.declared.node.NodeCopy.{NodeCopy}
use Rattle.nv_entry.specs.Bytes.{pages_touched, written}
use Rattle.nv_entry.specs.Sound.{write_items}
use Rattle.nv_entry.proofs.PageBytes.{length-written}
use Rattle.nv_calls.specs.declared.plan.InodePlan.{InodePlan}
use Rattle.nv_calls.specs.declared.allocation.Allocation.{Allocation}
use Rattle.nv_calls.specs.declared.update.Update.{Update}
use Rattle.nv_calls.specs.declared.update.Update.TheVariants as update
use Rattle.nv_calls.specs.AllCalls.{is_empty}
use Rattle.nv_calls.specs.Plan.{planned}
use Rattle.nv_calls.specs.Refusals.{Check, bytes_of, kind_of, want_file}
use Rattle.nv_calls.specs.Updates.{SamePlan, blank_call, call_of, text_len}
use Rattle.nv_calls.specs.calls.Write.{count_refusal, text_refusal, write_blocks, write_plan}

empty_by : (a b : List ℕ) → length a ≡ length b → is_empty a ≡ is_empty b
empty_by [] [] h = refl
empty_by [] (y ∷ b) h = absurd (omega (arith, h))
empty_by (x ∷ a) [] h = absurd (omega (arith, h))
empty_by (x ∷ a) (y ∷ b) h = refl

refusal_by : (block offset : ℕ) (a b : List ℕ) → length a ≡ length b → text_refusal block offset a ≡ text_refusal block offset b
refusal_by block offset [] [] h = refl
refusal_by block offset [] (y ∷ b) h = absurd (omega (arith, h))
refusal_by block offset (x ∷ a) [] h = absurd (omega (arith, h))
refusal_by block offset (x ∷ a) (y ∷ b) h = rw h refl

blocks_by : (block offset : ℕ) (a b : List ℕ) → length a ≡ length b → write_blocks block offset a ≡ write_blocks block offset b
blocks_by block offset [] [] h = refl
blocks_by block offset [] (y ∷ b) h = absurd (omega (arith, h))
blocks_by block offset (x ∷ a) [] h = absurd (omega (arith, h))
blocks_by block offset (x ∷ a) (y ∷ b) h = rw h refl

plan_by : (block : ℕ) (nodes : Handle → Option NodeCopy) (file : Handle) (offset : ℕ) (runs : List BlockRun) (a b : List ℕ)
    → length a ≡ length b → write_plan block nodes file offset a runs ≡ write_plan block nodes file offset b runs
plan_by block nodes file offset runs [] [] h = refl
plan_by block nodes file offset runs [] (y ∷ b) h = absurd (omega (arith, h))
plan_by block nodes file offset runs (x ∷ a) [] h = absurd (omega (arith, h))
plan_by block nodes file offset runs (x ∷ a) (y ∷ b) h =
    let old = bytes_of (nodes file) in
    ap (λ (size : ℕ). let p : InodePlan = planned file (write_items (offset / block) runs size) in p ∷ [])
    (length-written offset (x ∷ a) old ∙ ap (λ (n : ℕ). max (length old) (offset + n)) h ∙ sym (length-written offset (y ∷ b) old))

-- ---- a text of zeros

pub blank_refusal : (block offset count : ℕ) → 0 < count → text_refusal block offset (replicate count 0) ≡ count_refusal block offset count
blank_refusal block offset zero some = absurd (omega (arith, some))
blank_refusal block offset (suc n) some = ap (λ (k : ℕ). count_refusal block offset k) (length-replicate (suc n) 0)

pub blank_blocks : (block offset count : ℕ) → 0 < count → write_blocks block offset (replicate count 0) ≡ pages_touched block offset count
blank_blocks block offset zero some = absurd (omega (arith, some))
blank_blocks block offset (suc n) some = ap (λ (k : ℕ). pages_touched block offset k) (length-replicate (suc n) 0)

pub blank_plan : (block : ℕ) (nodes : Handle → Option NodeCopy) (file : Handle) (offset count : ℕ) (runs : List BlockRun) (size : ℕ) → 0 < count
    → size ≡ length (written offset (replicate count 0) (bytes_of (nodes file)))
    → write_plan block nodes file offset (replicate count 0) runs ≡ planned file (write_items (offset / block) runs size) ∷ []
blank_plan block nodes file offset zero runs size some h = absurd (omega (arith, some))
blank_plan block nodes file offset (suc n) runs size some h =
    ap (λ (k : ℕ). let p : InodePlan = planned file (write_items (offset / block) runs k) in p ∷ []) (sym h)

-- a call with any text is checked and planned as the one with as many zeros
pub same_plan : (block : ℕ) (nodes : Handle → Option NodeCopy) (has_page : Handle → ℕ → Bool) (taken : Allocation) (u : Update) (text : List ℕ)
    → length text ≡ text_len u → SamePlan block nodes has_page taken (blank_call u) (call_of u text)
same_plan block nodes has_page taken (update.Write file offset count) text h =
    let e : length text ≡ length (replicate count 0) = h ∙ sym (length-replicate count 0) in
    record {
      found = refl;
      look_refusal = refl;
      refusal = ap (λ (next : Check). want_file (kind_of (nodes file)) next) (refusal_by block offset text (replicate count 0) e);
      handles = refl;
      nothing = empty_by text (replicate count 0) e;
      ends = refl;
      wanted = λ present. blocks_by block offset text (replicate count 0) e;
      plan = plan_by block nodes file offset taken.runs text (replicate count 0) e;
    }
same_plan block nodes has_page taken (update.Create dir name mode) text h =
    record { found = refl; look_refusal = refl; refusal = refl; handles = refl; nothing = refl; ends = refl; wanted = λ present. refl; plan = refl }
same_plan block nodes has_page taken (update.Mkdir dir name mode) text h =
    record { found = refl; look_refusal = refl; refusal = refl; handles = refl; nothing = refl; ends = refl; wanted = λ present. refl; plan = refl }
same_plan block nodes has_page taken (update.Size file size) text h =
    record { found = refl; look_refusal = refl; refusal = refl; handles = refl; nothing = refl; ends = refl; wanted = λ present. refl; plan = refl }
same_plan block nodes has_page taken (update.Mode handle mode) text h =
    record { found = refl; look_refusal = refl; refusal = refl; handles = refl; nothing = refl; ends = refl; wanted = λ present. refl; plan = refl }
same_plan block nodes has_page taken (update.Unlink dir name) text h =
    record { found = refl; look_refusal = refl; refusal = refl; handles = refl; nothing = refl; ends = refl; wanted = λ present. refl; plan = refl }
same_plan block nodes has_page taken (update.Rmdir dir name) text h =
    record { found = refl; look_refusal = refl; refusal = refl; handles = refl; nothing = refl; ends = refl; wanted = λ present. refl; plan = refl }
same_plan block nodes has_page taken (update.Rename from old to new) text h =
    record { found = refl; look_refusal = refl; refusal = refl; handles = refl; nothing = refl; ends = refl; wanted = λ present. refl; plan = refl }
