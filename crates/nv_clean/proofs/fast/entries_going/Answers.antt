use Rattle.std.proofs.Common.{◌≡◌, ◌∙◌, ◌-◌, ◌<◌, [], Bool, false, get_or, if◌then◌else◌, ap, arith, length, min, subst, sym}
use Rattle.nv_clean.proofs.Pages.{count_at, count_past, count_step, next_start, of_page}
use Rattle.nv_log.specs.Chain.{ChainState, end_of, log, log_pages, start_of}
use Rattle.nv_log.proofs.Parts.{in_order, length-parts}
use Rattle.nv_clean.proofs.fast.entries_going.Goals as goal
use Rattle.nv_clean.proofs.fast.entries_going.Goals.{then-not-stay, else-not-stay}

pub loop-k-preserved : goal.loop-k-preserved
loop-k-preserved c =
    let chain = c.args.cell.now.state.chain in
    let stays = c.args.stays.now in
    let k = c.loop-k.k in
    let lt : k < length chain.ends = omega (arith, c.loop-k-test.true, c.requires) in
    let short : k < length (log_pages chain) = omega (arith, lt, length-parts 0 chain.ends (log chain)) in
    let step = count_step stays (log_pages chain) k false c.loop-k-test.true short in
    let has : length (get_or (log_pages chain) k []) ≡ min (end_of chain k) chain.tail - min (start_of chain k) chain.tail =
    sym (of_page (log_pages chain) k short) ∙ count_at chain k c.holds_together.ensures.chain lt in
    let next = next_start chain k in
    let order = (in_order chain.page chain.ends (length chain.entries) k c.holds_together.ensures.chain.parted).0 in
    elim c.if-not-stay.branch [
      | then-not-stay w ↦
          let goes = ap (λ (b : Bool). if b then 0 else length (get_or (log_pages chain) k [])) w.if-not-stay.true in
          let found : w.published_on-entries.result ≡ min (end_of chain k) chain.tail - min (start_of chain k) chain.tail =
          subst (λ (ch : ChainState). w.published_on-entries.result ≡ min (end_of ch k) ch.tail - min (start_of ch k) ch.tail)
          c.log-chain.ensures.state w.published_on-entries.ensures.value in
          record {
            count = omega (arith, w.entries-is, found, has, goes, step, c.loop-k.invariant.count);
            few = omega (arith, w.entries-is, found, next, order, c.loop-k.invariant.few);
          }
      | else-not-stay w ↦
          let stays_here = ap (λ (b : Bool). if b then 0 else length (get_or (log_pages chain) k [])) w.if-not-stay.false in
          record {
            count = omega (arith, w.entries-is, stays_here, step, c.loop-k.invariant.count);
            few = omega (arith, w.entries-is, next, order, c.loop-k.invariant.few);
          }
    ]

pub returns : goal.returns
returns c =
    let past = count_past c.args.stays.now (log_pages c.args.cell.now.state.chain) c.loop-k.k (omega (arith, c.loop-k-test.false)) in
    omega (arith, past, c.loop-k.invariant.count)
