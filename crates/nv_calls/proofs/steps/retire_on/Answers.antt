use Rattle.std.proofs.Common.{◌≡◌, ℕ, ◌<◌, List, length, ap, ap₂, arith, subst, sym, ◌∙◌}
use Rattle.nv_epoch.specs.SnapList.{ids}
use Rattle.nv_log.specs.Chain.{ChainState}
use Rattle.nv_cell.specs.Cell.{CellRoom, CellValue}
use Rattle.nv_cell.specs.declared.killed.KilledPart.{KilledPart}
use Rattle.nv_calls.specs.Cells.{OnlyAt, ino_at, state_at, value_at}
use Rattle.nv_calls.specs.Commit.{CommitValue}
use Rattle.nv_calls.specs.Ready.{plan_at}
use Rattle.nv_calls.specs.Retiring.{retired, room_erased}
use Rattle.nv_calls.proofs.CellLists.{only_along, only_value, value_given}
use Rattle.nv_calls.proofs.Retires.{chain_stays, generation_stays, gone_fits}
use Rattle.nv_calls.proofs.steps.retire_on.Given as given
use Rattle.nv_calls.proofs.steps.retire_on.Goals as goal
use Rattle.nv_calls.proofs.steps.retire_on.Goals.{After-erase_gone-arg-2-1}

-- ---- the killed parts are retired, and the inode not yet erased

module _ (g : given.Over) (c : goal.After-erase_gone-arg-2-1 g) where
  abbrev cells : List (ℕ × CellValue)
  cells = g.C.Cells.cells c.args.cells.now

  abbrev mid : List (ℕ × CellValue)
  mid = g.C.Cells.cells c.retire_parts.new.cells

  abbrev place : ℕ
  place = (plan_at c.args.commit.now.plans c.args.commit.now.retired).at

  abbrev k : ℕ
  k = c.place_of-k.result

  abbrev living : List ℕ
  living = ids c.args.book.now.state.snaps

  abbrev epoch : ℕ
  epoch = c.commit.inside.stamp.epoch

  abbrev killed : List KilledPart
  killed = c.deref.result.now

  same : k ≡ place
  same = c.place_of-k.ensures ∙ ap (λ (v : CommitValue). (plan_at c.args.commit.now.plans v.retired).at) c.commit.view_is

  within : k < length cells
  within = omega (arith, same, c.requires.within)

  abbrev value : CellValue
  value = record {
    state = retired living (ino_at cells k) epoch killed (state_at cells k);
    room = (value_at cells k).room;
  }

  now : value_at mid k ≡ value
  now = value_given cells mid k value within c.retire_parts.ensures.cells

  only : OnlyAt k cells mid
  only = only_value cells mid k value within c.retire_parts.ensures.cells

  chain : (state_at mid k).chain ≡ (state_at cells place).chain
  chain = ap (λ (v : CellValue). v.state.chain) now ∙ chain_stays living (ino_at cells k) epoch killed (state_at cells k)
      ∙ ap (λ (m : ℕ). (state_at cells m).chain) same

  generation : (state_at mid k).generation ≡ (state_at cells place).generation
  generation = ap (λ (v : CellValue). v.state.generation) now ∙ generation_stays living (ino_at cells k) epoch killed (state_at cells k)
      ∙ ap (λ (m : ℕ). (state_at cells m).generation) same

pub erase_gone-requires-clause-published : goal.erase_gone-requires-clause-published
erase_gone-requires-clause-published g c =
    subst (λ (ch : ChainState). ch.tail ≡ length ch.entries) (sym (chain g c)) c.requires.can.published

pub erase_gone-requires-clause-gone : goal.erase_gone-requires-clause-gone
erase_gone-requires-clause-gone g c =
    let rest = c.commit-2.view_is ∙ c.take_killed-killed.ensures.rest in
    gone_fits c.args.commit.now.hand (record {
      «data» = c.retire_parts.new.free;
      pages = c.commit-2.inside.hand.pages;
      chain = c.commit-2.inside.hand.chain;
      ino = c.commit-2.inside.hand.ino;
    })
    (state_at (cells g c) (place g c)) (state_at (mid g c) (k g c)) (chain g c) (generation g c)
    (ap (λ (v : CommitValue). v.hand.chain) rest)
    (ap (λ (v : CommitValue). v.hand.ino) rest)
    c.requires.can.gone

pub returns-clause-cells : goal.returns-clause-cells
returns-clause-cells g c =
    let e = (goal.at.returns-clause-cells g c).After-erase_gone-arg-2-1 in
    let new = g.C.Cells.cells c.erase_gone.new.cells in
    subst (λ (m : ℕ). OnlyAt m (cells g e) new) (same g e)
    (only_along (cells g e) (mid g e) new (k g e) (only g e) c.erase_gone.ensures.cells)

pub returns-clause-cell_room : goal.returns-clause-cell_room
returns-clause-cell_room g c =
    let e = (goal.at.returns-clause-cell_room g c).After-erase_gone-arg-2-1 in
    let new = g.C.Cells.cells c.erase_gone.new.cells in
    let commit = c.args.commit.now in
    let noted : killed g e ≡ (plan_at commit.plans commit.retired).killed =
    c.deref.ensures.value ∙ c.take_killed-killed.ensures.killed
    ∙ ap (λ (v : CommitValue). (plan_at commit.plans v.retired).killed) c.commit.view_is in
    let left : ℕ → ℕ → List KilledPart → CellRoom =
    λ n m ks. room_erased (retired (living g e) (ino_at (cells g e) m) n ks
    (state_at (cells g e) m)) (value_at (cells g e) m).room in
    ap (λ (m : ℕ). (value_at new m).room) (sym (same g e)) ∙ c.erase_gone.ensures.room
    ∙ ap (λ (v : CellValue). room_erased v.state v.room) (now g e)
    ∙ ap₂ (left (epoch g e)) (same g e) noted
    ∙ ap (λ (v : CommitValue). left v.stamp.epoch (place g e) (plan_at commit.plans commit.retired).killed) c.commit.view_is
