use Rattle.std.proofs.Common.{◌≡◌, ℕ, ◌+◌, ◌-◌, ◌∙◌, None, Option, arith, ap, subst, inl, inr}
use Rattle.std.proofs.lemmas.Bool.{cases_lt}
use Rattle.std.proofs.lemmas.Grind.{get_or-set_at}
use Rattle.std.proofs.lemmas.List.{get_or-set_other, length-set}
use Rattle.nv_cell.specs.Pages.{IsStretch}
use Rattle.nv_cell.specs.Slots.{page_slot}
use Rattle.nv_cell.proofs.Stretches.{stretch_on}
use Rattle.nv_cell.proofs.read.find_slots.Goals as goal
use Rattle.nv_cell.proofs.read.find_slots.Goals.{then-page-pages, else-page-pages+else-stretch-page}

pub loop-page-preserved : goal.loop-page-preserved
loop-page-preserved c =
    let numbers : ℕ → Option ℕ = page_slot c.args.chain.now.state.entries c.args.index.now in
    let page = c.loop-page.page in
    let start = c.args.pages.now.start in
    let is : IsStretch numbers page c.if-page-pages.stretch = elim c.if-page-pages.branch [
      | then-page-pages w ↦ rw w.stretch-is w.stretch_from-stretch.ensures
      | else-page-pages+else-stretch-page w ↦
          let before : page - 1 + 1 ≡ page = omega (arith, w.if-page-pages.false, c.loop-page.auto.page) in
          rw w.stretch-is (subst (λ (p : ℕ). IsStretch numbers p c.loop-page.stretch) before
          (stretch_on numbers (page - 1) c.loop-page.stretch
          (c.loop-page.invariant.stretch (omega (arith, w.if-page-pages.false, c.loop-page.auto.page)))
          (omega (arith, before, w.if-stretch-page.false))))
    ] in
    record {
      numbers = λ k lt. elim (cases_lt (start + k) page) [
        | inl low ↦
            get_or-set_other c.loop-page.numbers (page - start) k c.slot_in.result None (λ q. omega (arith, low, q))
            ∙ c.loop-page.invariant.numbers k low
        | inr high ↦
            let at : k ≡ page - start = omega (arith, lt, high) in
            let same : page ≡ start + k = omega (arith, lt, high) in
            get_or-set_at c.loop-page.numbers (page - start) k c.slot_in.result None at
            (omega (arith, c.loop-page.invariant.len, c.loop-page-test.true, c.loop-page.auto.page, c.requires.few))
            ∙ c.slot_in.ensures numbers is ∙ ap numbers same
      ];
      stretch = λ lt. let same : page ≡ page + 1 - 1 = omega arith in
          subst (λ (p : ℕ). IsStretch numbers p c.if-page-pages.stretch) same is;
      len = omega (arith, c.loop-page.invariant.len, length-set c.loop-page.numbers (page - start) c.slot_in.result);
    }
