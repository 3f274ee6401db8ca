use Rattle.std.proofs.Common.{◌≡◌, ℕ, ◌+◌, ◌<◌, ◌≤◌, List, ◌∷◌, [], ◌++◌, length, take, get_or, ap, ap₂, sym, ◌∙◌, append_assoc, arith}
use Rattle.nv_entry.specs.declared.item.Item.{Item}
use Rattle.nv_entry.specs.declared.item.Item.TheVariants.{Write}
use Rattle.nv_entry.specs.declared.item.BlockRun.{BlockRun}
use Rattle.nv_entry.specs.Sound.{blocks_of, write_items}
use Rattle.std.proofs.lemmas.List.{take_more}
use Rattle.nv_calls.proofs.RunLists.{count-push, count-take, write_items-push}
use Rattle.nv_calls.proofs.runs.add_items.Goals as goal

abbrev blocks_in : List BlockRun → ℕ
blocks_in runs = length (blocks_of runs)

-- one more run of those gone over
taken_more : (runs : List BlockRun) (i first size : ℕ) (run : BlockRun) → i < length runs → run ≡ get_or runs i run
    → (write_items first (take (i + 1) runs) size
    ≡ write_items first (take i runs) size ++ Write (first + blocks_in (take i runs)) run size ∷ [])
    × (blocks_in (take (i + 1) runs) ≡ blocks_in (take i runs) + run.len)
    × (blocks_in (take i runs) + run.len ≤ blocks_in runs)
taken_more runs i first size run lt is =
    let more : take (i + 1) runs ≡ take i runs ++ run ∷ [] = take_more runs i run lt ∙ ap (λ (r : BlockRun). take i runs ++ r ∷ []) (sym is) in
    let step : blocks_in (take (i + 1) runs) ≡ blocks_in (take i runs) + run.len = ap blocks_in more ∙ count-push (take i runs) run in
    let items = ap (λ (xs : List BlockRun). write_items first xs size) more ∙ write_items-push first size (take i runs) run in
    (items, step, omega (arith, step, count-take runs (i + 1)))

pub overflow_add-page : goal.overflow_add-page
overflow_add-page c =
    let t = taken_more c.args.runs.now c.loop-run.run-index c.args.first c.args.size c.run-item.result c.loop-run-test.true
    c.run-item.is in
    omega (arith, t, c.loop-run.invariant, c.requires)

pub loop-run-preserved : goal.loop-run-preserved
loop-run-preserved c =
    let old = c.args.items.now.items in
    let before = write_items c.args.first (take c.loop-run.run-index c.args.runs.now) c.args.size in
    let t = taken_more c.args.runs.now c.loop-run.run-index c.args.first c.args.size c.run-item.result c.loop-run-test.true
    c.run-item.is in (
      c.in_ok-push.ensures.items
          ∙ ap₂ (λ (xs : List Item) (n : ℕ). xs ++ Write n c.run-item.result c.args.size ∷ []) c.loop-run.invariant.0 c.loop-run.invariant.1
          ∙ append_assoc old before _ ∙ ap (λ (xs : List Item). old ++ xs) (sym t.0),
      omega (arith, t.1, c.loop-run.invariant.1),
    )
