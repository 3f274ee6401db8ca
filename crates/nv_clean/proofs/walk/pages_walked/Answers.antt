use Rattle.std.proofs.Common.{◌≡◌, ◌∙◌, ◌+◌, ◌-◌, ◌<◌, ◌≤◌, ◌∷◌, [], ◌++◌, ℕ, List, not, ap, arith, drop, get_or, length, map, min, replicate, subst, sym}
use Rattle.std.proofs.lemmas.List.{length-append, length-replicate}
use Rattle.nv_cell.specs.Cell.{log_of}
use Rattle.nv_cell.specs.Readers.{there_flags}
use Rattle.nv_clean.specs.Cover.{Covers}
use Rattle.nv_clean.specs.Plans.{pages_staying}
use Rattle.nv_clean.proofs.Pages.{all_counts, count_at, next_start, page_test}
use Rattle.nv_clean.proofs.Walking.{after_pages, more_covered, page_step}
use Rattle.nv_entry.specs.ByFlags.{pages_stay_by}
use Rattle.nv_entry.specs.Clean.{pages_by, select}
use Rattle.nv_entry.proofs.Flags.{counts_left}
use Rattle.nv_log.specs.Chain.{ChainState, end_of, log_pages, start_of}
use Rattle.nv_clean.proofs.walk.pages_walked.Goals as goal

pub loop-k-init : goal.loop-k-init
loop-k-init c =
    let cell = c.args.cell.now.state in
    let counts = all_counts cell c.holds_together.ensures in
    record {
      flags = [];
      at = omega arith;
      total = omega (arith, counts.total);
      covers = c.new-cover.ensures cell.block;
      walk = rw c.in_ok-stays.ensures.items
          (ap (pages_stay_by cell.block (there_flags cell) []) counts.pages);
    }

pub loop-k-preserved : goal.loop-k-preserved
loop-k-preserved c =
    let cell = c.args.cell.now.state in
    let chain = cell.chain in
    let log = log_of cell in
    let there = there_flags cell in
    let k = c.loop-k.k in
    let flags = c.loop-k.invariant.flags in
    let shown = c.loop-k.stays.items in
    let counts : List ℕ = map length (log_pages chain) in
    let count = get_or counts k 0 in
    let goes = c.page_goes-goes.result in
    let facts = all_counts cell c.holds_together.ensures in
    let same = c.log-chain.ensures.state in
    let ends : length c.ends-k-end.result.now ≡ length chain.ends =
    ap (λ (l : List ℕ). length l) c.ends-k-end.ensures.value ∙ ap (λ (ch : ChainState). length ch.ends) same in
    let lt : k < length chain.ends = omega (arith, c.loop-k-test.true, ends) in
    let short : k < length counts = omega (arith, lt, facts.each) in
    let first : c.page_start.result ≡ start_of chain k = c.page_start.ensures.value ∙ ap (λ (ch : ChainState). start_of ch k) same in
    let last : c.page_end.result ≡ end_of chain k = c.page_end.ensures.value ∙ ap (λ (ch : ChainState). end_of ch k) same in
    let tail : c.tail.result ≡ chain.tail = c.tail.ensures.value ∙ ap (λ (ch : ChainState). ch.tail) same in
    let tail_too : c.tail-in-loop-k.result ≡ chain.tail = c.tail-in-loop-k.ensures.value ∙ ap (λ (ch : ChainState). ch.tail) same in
    let order : start_of chain k ≤ end_of chain k =
    subst (λ (ch : ChainState). start_of ch k ≤ end_of ch k) same (omega (arith, c.page_start.ensures.value, c.page_start.ensures.within)) in
    let start = c.min-start.result in
    let end = c.min-end.result in
    let start_is : start ≡ min (start_of chain k) chain.tail = omega (arith, c.min-start.ensures, first, tail) in
    let end_is : end ≡ min (end_of chain k) chain.tail = omega (arith, c.min-end.ensures, last, tail_too) in
    let at : length flags ≡ start = omega (arith, c.loop-k.invariant.at, start_is) in
    let has = count_at chain k c.holds_together.ensures.chain lt in
    let whole : length flags + count ≡ end = omega (arith, at, start_is, end_is, has, order) in
    let size : end - start ≡ count = omega (arith, at, whole) in
    let long : length (flags ++ replicate count (not goes)) ≡ length flags + count =
    omega (arith, length-append flags (replicate count (not goes)), length-replicate count (not goes)) in
    let covers = c.loop-k.invariant.covers in
    let pushed = c.in_ok-push.ensures.items in
    record {
      flags = flags ++ replicate count (not goes);
      at = omega (arith, long, whole, end_is, ap (λ (n : ℕ). min n chain.tail) (next_start chain k));
      total = omega (arith, long, c.loop-k.invariant.total, counts_left counts k short);
      covers = subst (λ (n : ℕ). Covers cell.block (select (flags ++ replicate n (not goes)) log) c.note.new.cover) size
          (more_covered cell.block log flags start end goes c.note.new.cover at (c.in_ok-note.ensures (select flags log) covers));
      walk = rw pushed (
          ap (λ (n : ℕ). (shown ++ not goes ∷ []) ++ pages_stay_by cell.block (drop n there) (select (flags ++ replicate count (not goes)) log)
          (pages_by (drop (k + 1) counts) (drop n log))) long
          ∙ page_step cell.block there flags shown log counts k short c.loop-k.invariant.total goes
          (page_test cell.block there (select flags log) log start end (length flags) count goes at whole
          (c.page_goes-goes.ensures (select flags log) covers))
          ∙ c.loop-k.invariant.walk);
    }

pub returns : goal.returns
returns c =
    let cell = c.args.cell.now.state in
    let counts : List ℕ = map length (log_pages cell.chain) in
    let facts = all_counts cell c.holds_together.ensures in
    let ends : length c.ends-k-end.result.now ≡ length cell.chain.ends =
    ap (λ (l : List ℕ). length l) c.ends-k-end.ensures.value
    ∙ ap (λ (ch : ChainState). length ch.ends) c.log-chain.ensures.state in
    let all : pages_stay_by cell.block (there_flags cell) [] (pages_by counts (log_of cell)) ≡ pages_staying cell =
    ap (pages_stay_by cell.block (there_flags cell) []) facts.pages in
    after_pages cell.block (there_flags cell) c.loop-k.stays.items c.loop-k.invariant.flags (log_of cell) counts c.loop-k.k
    (omega (arith, c.loop-k-test.false, ends, facts.each)) (c.loop-k.invariant.walk ∙ sym all)
    ∙ all
