use Rattle.std.proofs.Common.{◌≡◌, ℕ, ◌-◌, Bool, List, length, take, drop, min, ap, ap₂, sym, ◌∙◌}
use Rattle.std.specs.Prelude.{count_by}
use Rattle.std.proofs.lemmas.List.{drop_min}
use Rattle.nv_entry.proofs.Steps.{rest_from}
use Rattle.nv_log.specs.Chain.{ChainState, end_of, start_of}
use Rattle.nv_cell.specs.Cell.{log_of}
use Rattle.nv_cell.specs.Retained.{published_on}
use Rattle.nv_audit.proofs.PageEntries.{published_is}
use Rattle.nv_audit.proofs.counts.marked_on.Goals as goal

pub returns : goal.returns
returns c =
    let state = c.args.cell.now.state in
    let page = c.args.page in
    let entries = c.args.entries.now in
    let chain = c.log-chain.result.now.state in
    let chain_is : chain ≡ state.chain = c.log-chain.ensures.state in
    let start : c.min-start.result ≡ min (start_of state.chain page) (length (log_of state)) =
    c.min-start.ensures ∙ ap₂ min (c.page_start.ensures.value ∙ ap (λ (x : ChainState). start_of x page) chain_is) c.requires.entries in
    let end : c.min.result ≡ min (end_of state.chain page) (length (log_of state)) =
    c.min.ensures ∙ ap₂ min (c.page_end.ensures.value ∙ ap (λ (x : ChainState). end_of x page) chain_is) c.requires.entries in
    let count : c.min.result - c.min-start.result ≡ published_on state page =
    ap₂ (λ (a b : ℕ). a - b) end start ∙ sym (published_is state page c.holds_together.ensures.chain c.requires.page) in
    let from : drop c.min-start.result entries ≡ drop (start_of state.chain page) entries =
    ap (λ (k : ℕ). drop k entries) start
    ∙ ap (λ (n : ℕ). drop (min (start_of state.chain page) n) entries) (sym c.requires.entries)
    ∙ drop_min (start_of state.chain page) entries in
    let told = rw (rest_from entries c.min-start.result) at c.count_marked.ensures in
    told ∙ ap₂ (λ (n : ℕ) (xs : List Bool). count_by (λ (b : Bool). b) (take n xs)) count from
