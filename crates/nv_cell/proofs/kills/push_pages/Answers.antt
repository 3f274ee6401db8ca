use Rattle.std.proofs.Common.{◌≡◌, ℕ, ◌-◌, ◌≤◌, ◌<◌, Bool, None, arith, ap, subst}
use Rattle.std.specs.Prelude.{is_some}
use Rattle.std.specs.declared.option.Option.{Option}
use Rattle.std.specs.Option.{option_map}
use Rattle.nv_entry.specs.Keys.{PageKey}
use Rattle.nv_findex.specs.Pages.{ref_at}
use Rattle.nv_findex.specs.declared.page_ref.PageRef.{PageRef}
use Rattle.nv_cell.specs.Index.{page_part, ref_of}
use Rattle.nv_cell.specs.Numbers.{Pushes, is_page_in}
use Rattle.nv_cell.specs.Weights.{present_between}
use Rattle.nv_cell.proofs.Counting.{how_many_more, how_many_parts}
use Rattle.nv_cell.proofs.Killing.{pages_pushed, skipped}
use Rattle.nv_cell.proofs.kills.push_pages.Goals as goal

pub push_stretch-requires-clause-room : goal.push_stretch-requires-clause-room
push_stretch-requires-clause-room c =
    let test : ℕ → Bool = λ page. is_some (ref_at c.args.index.now.pages.pages page) in
    let start = c.max-start.result in
    let end = c.min-end.result in
    let order : start ≤ end = omega (arith, c.max-start.ensures, c.min-end.ensures, c.in-Some.ensures.run.1, c.in-Some.ensures.within.some) in
    let high : end ≤ c.args.to = omega (arith, c.min-end.ensures) in
    let parts = how_many_parts test c.args.from c.runs.next start end c.runs.invariant.begin (omega (arith, c.max-start.ensures)) order in
    let all = how_many_more test c.args.from (end - c.args.from) (c.args.to - c.args.from) (omega (arith, high)) in
    omega (arith, parts, all, c.runs.invariant.pushed.len, c.runs.invariant.pushed.capacity, c.requires.room)

pub returns-in_default : goal.returns-in_default
returns-in_default c =
    let idx = c.args.index.now in
    let more = how_many_more (λ page. is_some (ref_at idx.pages.pages page)) c.args.from (c.runs.next - c.args.from)
    (c.args.to - c.args.from) (omega arith) in
    skipped c.args.chain.now.state.entries idx c.args.from c.runs.next c.args.to (present_between idx c.args.from c.runs.next)
    (present_between idx c.args.from c.args.to) c.args.killed.now c.runs.killed
    c.runs.invariant.pushed c.runs.invariant.begin c.runs.invariant.high
    (λ p le lt. ap (λ (o : Option PageRef). option_map page_part o) (c.in-Some.ensures.run.2 p le (omega (arith, lt)))) more

pub returns-in_default-2 : goal.returns-in_default-2
returns-in_default-2 c =
    let idx = c.args.index.now in
    let more = how_many_more (λ page. is_some (ref_at idx.pages.pages page)) c.args.from (c.runs.next - c.args.from)
    (c.args.to - c.args.from) (omega arith) in
    let none = rw c.in_default.is at c.run_near-run.ensures.run in
    skipped c.args.chain.now.state.entries idx c.args.from c.runs.next c.args.to (present_between idx c.args.from c.runs.next)
    (present_between idx c.args.from c.args.to) c.args.killed.now c.runs.killed
    c.runs.invariant.pushed c.runs.invariant.begin c.runs.invariant.high
    (λ p le lt. ap (λ (o : Option PageRef). option_map page_part o) (none p le)) more

pub runs-preserved : goal.runs-preserved
runs-preserved c =
    let es = c.args.chain.now.state.entries in
    let idx = c.args.index.now in
    let test : ℕ → Bool = λ page. is_some (ref_at idx.pages.pages page) in
    let from = c.args.from in
    let next = c.runs.next in
    let start = c.max-start.result in
    let end = c.min-end.result in
    let found = c.in-Some.ensures.run in
    let some = c.in-Some.ensures.within.some in
    let low : next ≤ start = omega (arith, c.max-start.ensures) in
    let order : start ≤ end = omega (arith, c.max-start.ensures, c.min-end.ensures, found.1, some) in
    let gap : (p : ℕ) → next ≤ p → p < start → ref_of idx (PageKey p) ≡ None = λ p le lt.
    ap (λ (o : Option PageRef). option_map page_part o) (found.2 p le (omega (arith, lt, le, c.max-start.ensures))) in
    record {
      begin = omega (arith, c.runs.invariant.begin, low, order);
      high = omega (arith, c.min-end.ensures);
      pushed = pages_pushed es idx from next start end (present_between idx from next) (present_between idx start end)
          (present_between idx from end) c.args.killed.now c.runs.killed c.push_stretch.new.killed c.runs.invariant.pushed
          c.runs.invariant.begin low order gap c.push_stretch.ensures
          (how_many_parts test from next start end c.runs.invariant.begin low order);
    }

pub returns : goal.returns
returns c =
    let same : c.runs.next ≡ c.args.to = omega (arith, c.runs.invariant.high) in
    subst (λ (n : ℕ). Pushes c.args.chain.now.state.entries c.args.index.now (is_page_in c.args.from n)
    (present_between c.args.index.now c.args.from n) c.args.killed.now c.runs.killed) same c.runs.invariant.pushed
