use Rattle.std.proofs.Common.{◌≡◌, ◌∙◌, Bool, List, ap, count_by, length, not, subst, sym}
use Rattle.nv_cell.specs.Removal.{ArePublished, MayGo, log_flags}
use Rattle.nv_clean.specs.Plans.{UnlinkableValue, pages_staying}
use Rattle.nv_clean.proofs.Cleanings.{pages_flagged, pages_may, pages_published}
use Rattle.nv_clean.proofs.Unmoved.{AllSet, cell_same, none_goes, queue_same, room_same}
use Rattle.nv_clean.proofs.fast.unlink.Goals as goal

-- where none goes each flag is set
all_stay : (c : goal.Then-unlinkable-eq0) → AllSet c.args.unlinkable.now.stays
all_stay c =
    none_goes c.args.unlinkable.now.stays
    (ap (λ (u : UnlinkableValue). count_by not u.stays) c.requires.walk ∙ sym (ap (λ (u : UnlinkableValue). u.pages) c.requires.walk)
    ∙ sym (ap (λ (u : UnlinkableValue). u.pages) c.unlinkable.view_is) ∙ c.if-unlinkable-eq0.true)

pub returns-then-unlinkable-eq0-clause-cell : goal.returns-then-unlinkable-eq0-clause-cell
returns-then-unlinkable-eq0-clause-cell c =
    sym (cell_same c.args.unlinkable.now c.args.cell.now.state c.holds_together.ensures (all_stay c))

pub returns-then-unlinkable-eq0-clause-room : goal.returns-then-unlinkable-eq0-clause-room
returns-then-unlinkable-eq0-clause-room c =
    sym (room_same c.args.unlinkable.now c.args.cell.now.state c.args.cell.now.room (all_stay c))

pub returns-then-unlinkable-eq0-clause-queue : goal.returns-then-unlinkable-eq0-clause-queue
returns-then-unlinkable-eq0-clause-queue c =
    sym (queue_same c.args.unlinkable.now.stays c.args.cell.now.state.chain.blocks c.args.queue.now (all_stay c))

-- the flags that the code hands on are those of the walk
flags_are : (c : goal.After-remove_pages-arg-2-1) → c.deref.result.now ≡ pages_staying c.args.cell.now.state
flags_are c =
    c.deref.ensures.value ∙ ap (λ (u : UnlinkableValue). u.stays) c.unlinkable.view_is
    ∙ ap (λ (u : UnlinkableValue). u.stays) c.requires.walk

pub remove_pages-requires-clause-flags : goal.remove_pages-requires-clause-flags
remove_pages-requires-clause-flags c =
    ap (λ (stays : List Bool). length stays) (flags_are c) ∙ pages_flagged c.args.cell.now.state

pub remove_pages-requires-clause-published : goal.remove_pages-requires-clause-published
remove_pages-requires-clause-published c =
    subst (λ (stays : List Bool). ArePublished stays c.args.cell.now.state.chain) (sym (flags_are c))
    (pages_published c.args.cell.now.state c.holds_together.ensures)

pub remove_pages-requires-clause-may : goal.remove_pages-requires-clause-may
remove_pages-requires-clause-may c =
    subst (λ (stays : List Bool). MayGo (log_flags stays c.args.cell.now.state.chain) c.args.cell.now.state) (sym (flags_are c))
    (pages_may c.args.cell.now.state c.holds_together.ensures)
