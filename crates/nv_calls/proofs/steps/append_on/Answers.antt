use Rattle.std.proofs.Common.{◌≡◌, ℕ, ◌<◌, List, length, take, ap, ap₂, ◌∙◌, arith}
use Rattle.nv_alloc.specs.declared.hand.Hand.{Hand}
use Rattle.nv_entry.specs.declared.item.Item.{Item}
use Rattle.nv_log.specs.Chain.{pages_for}
use Rattle.nv_cell.specs.Cell.{CellValue}
use Rattle.nv_calls.specs.Cells.{value_at, with_value}
use Rattle.nv_calls.specs.Commit.{CommitValue, to_append}
use Rattle.nv_calls.specs.Ready.{plan_at}
use Rattle.nv_calls.specs.Steps.{stamped_entries, with_entries, with_new_pages, with_plan}
use Rattle.nv_calls.specs.declared.stamp.Stamp.{Stamp}
use Rattle.nv_calls.proofs.CellLists.{value_given, with_twice}
use Rattle.nv_calls.proofs.steps.append_on.Goals as goal

-- the pages and then the entries
both : (cells mid new : List (ℕ × CellValue)) (k n : ℕ) (stamp : Stamp) (place : ℕ) (items : List Item) (hand : Hand)
    → k < length cells → n ≡ pages_for (value_at cells k).state.chain (length items)
    → mid ≡ with_value cells k (with_new_pages (take n hand.pages.blocks) (value_at cells k))
    → new ≡ with_value mid k (with_entries (stamped_entries stamp place items) hand.data.blocks (value_at mid k))
    → new ≡ with_value cells k (with_plan stamp place items hand (value_at cells k))
both cells mid new k n stamp place items hand within count pages entries =
    let v0 = value_at cells k in
    let paged : CellValue = with_new_pages (take (pages_for v0.state.chain (length items)) hand.pages.blocks) v0 in
    let mid_is : mid ≡ with_value cells k paged =
    pages ∙ ap (λ (m : ℕ). with_value cells k (with_new_pages (take m hand.pages.blocks) v0)) count in
    let added : CellValue → CellValue = with_entries (stamped_entries stamp place items) hand.data.blocks in
    entries
    ∙ ap₂ (λ (cs : List (ℕ × CellValue)) (v : CellValue). with_value cs k (added v)) mid_is
    (value_given cells mid k paged within mid_is)
    ∙ with_twice cells k paged (with_plan stamp place items hand v0)

pub returns-clause-cells : goal.returns-clause-cells
returns-clause-cells g c =
    let cells = g.C.Cells.cells c.args.cells.now in
    let mid = g.C.Cells.cells c.add_pages.new.cells in
    let old = c.args.commit.now in
    let own = c.commit-2.inside in
    let k = c.place_of-k.result in
    let at_ = (to_append old).at in
    let items = c.take_items-items.result.items in
    let same : k ≡ at_ = c.place_of-k.ensures ∙ ap (λ (v : CommitValue). (plan_at old.plans v.appended).at) c.commit.view_is in
    let taken : items ≡ (to_append old).items =
    c.take_items-items.ensures.items ∙ ap (λ (v : CommitValue). (plan_at old.plans v.appended).items) c.commit.view_is in
    let len : c.len-count.result ≡ length items = omega (arith, c.len-count.ensures, c.take_items-items.result.ok) in
    let count : c.pages_for-pages.result ≡ pages_for (value_at cells k).state.chain (length items) =
    c.pages_for-pages.ensures.value ∙ ap₂ (λ (v : CellValue) (n : ℕ). pages_for v.state.chain n) c.cell.ensures len in
    both cells mid (g.C.Cells.cells c.append_to_pages.new.cells) k c.pages_for-pages.result own.stamp own.place items own.hand
    (omega (arith, same, c.requires.within)) count c.add_pages.ensures.cells
    (c.append_to_pages.ensures.cells
    ∙ ap (λ (xs : List Item). with_value mid k (with_entries (stamped_entries own.stamp own.place xs) own.hand.data.blocks (value_at mid k)))
    c.from_vec-left.ensures.items)
    ∙ ap₂ (λ (m : ℕ) (xs : List Item). with_value cells m (with_plan own.stamp own.place xs own.hand (value_at cells m))) same taken
    ∙ ap (λ (v : CommitValue). with_value cells at_ (with_plan v.stamp v.place (to_append old).items v.hand (value_at cells at_)))
    (c.commit-2.view_is ∙ c.take_items-items.ensures.rest)
