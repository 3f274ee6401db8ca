use Rattle.std.proofs.Common.{◌≡◌, length, vec_len, arith, ap, ◌∙◌, refl}
use Rattle.nv_log.specs.Fields.{state_in}
use Rattle.nv_log.specs.Chain.{open_of, start_of}
use Rattle.nv_log.proofs.Chains.{is_held}
use Rattle.nv_log.proofs.chain.Chain.room.Goals as goal
use Rattle.nv_log.proofs.chain.Chain.room.Goals.{After-page_start}

-- the page that gets the next entry, and where it begins
opened : (c : After-page_start) → c.open_page-open.result ≡ open_of (state_in c.self.inside)
opened c =
    let size : vec_len c.self.inside.entries ≡ length c.self.inside.entries.items = omega (arith, c.self.inside.entries.ok) in
    c.open_page-open.ensures ∙ rw (c.deref.ensures.value, c.len.ensures, size) refl

begun : (c : After-page_start) → c.page_start.result ≡ start_of (state_in c.self.inside) (open_of (state_in c.self.inside))
begun c = c.page_start.ensures.value ∙ rw (← c.self.view_is) (ap (start_of (state_in c.self.inside)) (opened c))

pub overflow_sub-held : goal.overflow_sub-held
overflow_sub-held c =
    let held = is_held (state_in c.self.inside) c.self.invariant.chain in
    omega (arith, begun (goal.at.overflow_sub-held c).After-page_start, c.len-2.ensures, held.begins, c.self.inside.entries.ok)

pub overflow_sub-result-2 : goal.overflow_sub-result-2
overflow_sub-result-2 c =
    let there = (goal.at.overflow_sub-result-2 c).After-page_start in
    let chain = state_in c.self.inside in
    let size : vec_len c.self.inside.entries ≡ length chain.entries = omega (arith, c.self.inside.entries.ok) in
    let blocks : vec_len c.self.inside.blocks ≡ length chain.blocks = omega (arith, c.self.inside.blocks.ok) in
    rw (begun there, opened there, c.len-2.ensures, c.len-3.ensures, size, blocks) (is_held chain c.self.invariant.chain).fits
