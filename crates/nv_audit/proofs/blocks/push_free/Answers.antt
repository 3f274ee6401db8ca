use Rattle.std.proofs.Common.{◌≡◌, ◌++◌, ℕ, List, ap, rules, subst, sym, ◌∙◌}
use Rattle.nv_alloc.specs.Block.{numbers_of}
use Rattle.nv_alloc.specs.Runs.{HaveGaps, numbers_in, free_runs_of}
use Rattle.nv_alloc.specs.declared.runs.FreeRun.{FreeRun}
use Rattle.nv_alloc.proofs.RunLemmas.{cut}
use Rattle.nv_audit.proofs.blocks.push_free.Goals as goal

pub loop-run-init : goal.loop-run-init
loop-run-init c =
    let old = c.args.numbers.now.items in
    let free = numbers_of c.args.list.now.blocks in
    let cuts = cut free c.rises.ensures.rising in
    let is : c.into_iter-run-iterator.result ≡ free_runs_of free = c.into_iter-run-iterator.ensures.into_iter_gives ∙ c.runs-run-items.ensures in
    record {
      can = search rules;
      finite = search rules;
      gaps = subst HaveGaps (sym is) cuts.maximal;
      put = ap (λ (rs : List FreeRun). old ++ numbers_in rs) is ∙ ap (λ (ns : List ℕ). old ++ ns) cuts.all;
    }
