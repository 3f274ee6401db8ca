use Rattle.std.proofs.Common.{◌≡◌, ◌∙◌, ap, arith, ◌<◌, ◌≤◌, [], ◌∷◌}
use Rattle.std.specs.Option.{ForSome}
use Rattle.nv_base.specs.Ids.{IsIdBefore}
use Rattle.nv_log.specs.Chain.{ChainState, empty_chain, last_epoch, last_id, room_of, with_page}
use Rattle.nv_cell.specs.Append.{first_entry}
use Rattle.nv_cell.specs.Cell.{CellState}
use Rattle.nv_cell.specs.Room.{IsReadyFor}
use Rattle.nv_entry.specs.declared.item.Entry.{Entry}
use Rattle.nv_cell.proofs.ReadySteps.{first_may}
use Rattle.nv_cell.proofs.cell.InodeCell.found.Goals as goal

pub append-requires-clause-next : goal.append-requires-clause-next
append-requires-clause-next c =
    let e : Entry = first_entry c.args.kind c.args.mode c.args.epoch in
    let empty : ChainState = empty_chain c.args.self.now.state.chain.page in
    let was : c.ready.new.self.state.chain ≡ empty = ap (λ (s : CellState). s.chain) c.ready.ensures.state ∙ c.requires.empty in
    let same : c.add_page.new.self.state.chain ≡ with_page c.args.page c.ready.new.self.state.chain =
    ap (λ (s : CellState). s.chain) c.add_page.ensures.state in
    let now : c.add_page.new.self.state.chain ≡ with_page c.args.page empty = same ∙ ap (with_page c.args.page) was in
    let room : 0 < room_of c.add_page.new.self.state.chain =
    omega (arith, c.add_page.ensures.pages.room_rises, c.holds_together.ensures.chain.least) in
    let id : ForSome (last_id c.add_page.new.self.state.chain) (λ last. IsIdBefore last e.id) = rw now (λ last is. absurd cc) in
    let epoch : ForSome (last_epoch c.add_page.new.self.state.chain) (λ last. last ≤ e.epoch) = rw now (λ last is. absurd cc) in
    let ready : IsReadyFor (e.item ∷ []) c.add_page.new.self = c.add_page.ensures.ready (e.item ∷ []) c.in_default.ensures.ok.ready in
    rw c.first_entry.ensures (first_may e [] c.add_page.new.self ready room id epoch tt)
