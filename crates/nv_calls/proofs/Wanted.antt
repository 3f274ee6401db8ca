-- A plan uses as many blocks as its call wants, where what was taken is what it needs.
use Rattle.std.proofs.Common.{◌≡◌, ℕ, List, [], ◌∷◌, length, Option, arith, refl, ap, ◌∙◌}
use Rattle.std.specs.List.{AllByRecursion, range_with_len}
use Rattle.std.proofs.lemmas.List.{append-nil, length-append}
use Rattle.std.proofs.lemmas.List.FromFn.{length-range_with_len}
use Rattle.nv_base.specs.declared.numbers.Handle.{Handle}
use Rattle.nv_entry.specs.declared.item.BlockRun.{BlockRun}
use Rattle.nv_entry.specs.declared.node.NodeCopy.{NodeCopy}
use Rattle.nv_entry.specs.Sound.{blocks_of}
use Rattle.nv_calls.specs.AllCalls.{IsReady, blocks_wanted, plan, present_in}
use Rattle.nv_calls.specs.declared.allocation.Allocation.{Allocation}
use Rattle.nv_calls.specs.declared.call.Call.{Call}
use Rattle.nv_calls.specs.declared.call.Call.TheVariants as call
use Rattle.nv_calls.specs.Plan.{plan_blocks}
use Rattle.nv_calls.specs.Refusals.{found}
use Rattle.nv_calls.specs.Slots.{InodeSlot}
use Rattle.nv_calls.specs.calls.Rename.{own_place}
use Rattle.nv_calls.specs.calls.Size.{IsCutPage}
use Rattle.nv_calls.proofs.Keeps.{bound_none, cut_blocks-are, leave_none, write_blocks-are}

-- runs of one block each
single_runs : (bytes : ℕ → List ℕ) (block size : ℕ) (before : List ℕ) (runs : List BlockRun)
    → AllByRecursion (IsCutPage bytes block size before) runs
    → length (blocks_of runs) ≡ length runs
single_runs bytes block size before [] all = refl
single_runs bytes block size before (run ∷ runs) all =
    let rest = single_runs bytes block size before runs all.1 in
    let long = length-append (range_with_len run.start run.len) (blocks_of runs) in
    omega (arith, rest, long, length-range_with_len run.start run.len, all.0.0)

pub blocks_used : (bytes : ℕ → List ℕ) (block : ℕ) (slots : ℕ → InodeSlot) (nodes : Handle → Option NodeCopy) (taken : Allocation) (c : Call)
    → IsReady bytes block slots nodes taken c → length (plan_blocks (plan block nodes taken c)) ≡ blocks_wanted block nodes (present_in block slots c) c
blocks_used bytes block slots nodes taken (call.Write file offset []) ready = refl
blocks_used bytes block slots nodes taken (call.Write file offset (byte ∷ rest)) ready =
    let has = ready.filled (omega arith) in
    ap length (append-nil _ ∙ write_blocks-are _ taken.runs _) ∙ has.count
blocks_used bytes block slots nodes taken (call.Size file size) ready =
    ap length (append-nil _ ∙ cut_blocks-are _ taken.runs size) ∙ single_runs bytes block size _ taken.runs ready.filled
    ∙ ready.count
blocks_used bytes block slots nodes taken (call.Create dir name mode) ready = refl
blocks_used bytes block slots nodes taken (call.Mkdir dir name mode) ready = refl
blocks_used bytes block slots nodes taken (call.Read file offset count) ready = refl
blocks_used bytes block slots nodes taken (call.Mode handle mode) ready = refl
blocks_used bytes block slots nodes taken (call.Stat handle) ready = refl
blocks_used bytes block slots nodes taken (call.List dir) ready = refl
blocks_used bytes block slots nodes taken (call.Lookup dir name) ready = refl
blocks_used bytes block slots nodes taken (call.SnapshotOrCleaner c) ready = refl
blocks_used bytes block slots nodes taken (call.Unlink dir name) ready =
    ap length (leave_none block nodes taken dir name (found nodes dir name))
blocks_used bytes block slots nodes taken (call.Rmdir dir name) ready =
    ap length (leave_none block nodes taken dir name (found nodes dir name))
blocks_used bytes block slots nodes taken (call.Rename from old to new) ready =
    ap length (bound_none block nodes taken from old to new (own_place from old to new) (found nodes from old) (found nodes to new))
