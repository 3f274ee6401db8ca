use Rattle.std.proofs.Common.{◌≡◌, ℕ, ◌+◌, ◌-◌, ◌<◌, List, [], ◌∷◌, length, map, drop, ap, ap₂, sym, ◌∙◌, arith, subst}
use Rattle.std.proofs.lemmas.List.{drop_all}
use Rattle.nv_alloc.specs.Queue.{QueueValue}
use Rattle.nv_book.specs.Book.{BookState}
use Rattle.nv_book.specs.declared.manifest.Manifest.{Manifest}
use Rattle.nv_cell.specs.Cell.{CellState, CellValue}
use Rattle.nv_cell.specs.Killed.{AreKilled}
use Rattle.nv_cell.specs.declared.killed.KilledPart.{KilledPart}
use Rattle.nv_epoch.specs.SnapList.{ids}
use Rattle.nv_calls.specs.Cells.{ino_at, state_at, value_at, with_value}
use Rattle.nv_calls.specs.Retiring.{freed_by, freed_one, part_in, retired, retired_one, with_back, with_records}
use Rattle.nv_calls.proofs.CellLists.{ino_stays, length-only, only_along, value_given}
use Rattle.nv_calls.proofs.Retires.{back_more, back_none, block_stays, freed_few, others_wait, rest_is}
use Rattle.nv_calls.proofs.retire.retire_parts.Goals as goal

pub retire_part-requires-clause-within : goal.retire_part-requires-clause-within
retire_part-requires-clause-within g c =
    let l = c.loop-part in
    let len = length-only (g.C.Cells.cells c.args.cells.now) (g.C.Cells.cells l.cells) c.args.k l.invariant.only in
    omega (arith, len, c.requires.within)

pub retire_part-requires-clause-dead : goal.retire_part-requires-clause-dead
retire_part-requires-clause-dead g c =
    let e = ap (λ (b : BookState). b.snaps.epoch) c.loop-part.invariant.book in
    omega (arith, e, c.requires.dead)

pub retire_part-requires-clause-killed : goal.retire_part-requires-clause-killed
retire_part-requires-clause-killed g c =
    let l = c.loop-part in
    let d = c.part-item.result in
    let rest = rest_is c.args.killed.now l.part-index d c.loop-part-test.true
    ∙ ap (λ (x : KilledPart). x ∷ drop (l.part-index + 1) c.args.killed.now) (sym c.part-item.is) in
    let are = rw rest at l.invariant.killed in
    are.0

pub loop-part-preserved : goal.loop-part-preserved
loop-part-preserved g c =
    let l = c.loop-part in
    let i = l.invariant in
    let k = c.args.k in
    let epoch = c.args.epoch in
    let all = c.args.killed.now in
    let n = l.part-index in
    let d = c.part-item.result in
    let cells = g.C.Cells.cells c.args.cells.now in
    let now = g.C.Cells.cells l.cells in
    let new = g.C.Cells.cells c.retire_part.new.cells in
    let living = ids c.args.book.now.state.snaps in
    let ino = ino_at cells k in
    let later : List KilledPart = drop (n + 1) all in
    let s : CellState = state_at now k in
    let rest : drop n all ≡ d ∷ later =
    rest_is all n d c.loop-part-test.true ∙ ap (λ (x : KilledPart). x ∷ later) (sym c.part-item.is) in
    let are : AreKilled (map part_in (d ∷ later)) s = subst (λ (xs : List KilledPart). AreKilled (map part_in xs) s) rest i.killed in
    let within : k < length now = omega (arith, length-only cells now k i.only, c.requires.within) in
    let after : CellState = retired_one living ino epoch d s in
    let lives : ids l.book.state.snaps ≡ living = ap (λ (b : BookState). ids b.snaps) i.book in
    let value : CellValue = record { state = after; room = (value_at now k).room } in
    let changed : new ≡ with_value now k value =
    c.retire_part.ensures.cells ∙ ap₂ (λ (xs : List ℕ) (m : ℕ). with_value now k (record (value_at now k) {
      state = retired_one xs m epoch d s;
    })) lives i.number in
    let value_is : value_at new k ≡ value = value_given now new k value within changed in
    let manifests : c.retire_part.new.book.state.manifests ≡ with_records living ino epoch (d ∷ []) l.book.state.manifests =
    ap (λ (b : BookState). b.manifests) c.retire_part.ensures.book
    ∙ ap₂ (λ (xs : List ℕ) (m : ℕ). with_records xs m epoch (d ∷ []) l.book.state.manifests) lives i.number in
    let freed : c.retire_part.new.free ≡ with_back (freed_one living ino epoch d s) l.free =
    c.retire_part.ensures.free ∙ ap₂ (λ (xs : List ℕ) (m : ℕ). with_back (freed_one xs m epoch d s) l.free) lives i.number in
    let room : c.retire_part.new.free.room ≡ l.free.room - length (freed_one living ino epoch d s) = ap
    (λ (q : QueueValue). q.room) freed in
    record {
      only = only_along cells now new k i.only (changed ∙ ap (with_value now k) (sym value_is));
      number = ap (λ (xs : List (ℕ × CellValue)). ino_at xs k) changed ∙ ino_stays now k k value ∙ i.number;
      cell_room = ap (λ (v : CellValue). v.room) value_is ∙ i.cell_room;
      block = ap (λ (v : CellValue). v.state.block) value_is ∙ block_stays living ino epoch d s ∙ i.block;
      state = ap (λ (v : CellValue). retired living ino epoch later v.state) value_is
          ∙ sym (ap (λ (xs : List KilledPart). retired living ino epoch xs s) rest) ∙ i.state;
      killed = subst (λ (v : CellValue). AreKilled (map part_in later) v.state) (sym value_is) (others_wait living ino epoch d later s are);
      book = c.retire_part.ensures.book
          ∙ ap (λ (b : BookState). let r : BookState = record b {
            manifests = with_records (ids l.book.state.snaps) (ino_at now k) epoch (d ∷ []) l.book.state.manifests;
          } in r) i.book
          ∙ ap (λ (m : List Manifest). let r : BookState = record c.args.book.now.state { manifests = m } in r)
          (sym (ap (λ (b : BookState). b.manifests) c.retire_part.ensures.book));
      manifests = ap (with_records living ino epoch later) manifests
          ∙ sym (ap (λ (xs : List KilledPart). with_records living ino epoch xs l.book.state.manifests) rest) ∙ i.manifests;
      room = omega (arith, i.room, c.retire_part.ensures.room);
      free = ap₂ (λ (q : QueueValue) (v : CellValue). with_back (freed_by living ino epoch later v.state) q) freed value_is
          ∙ back_more (freed_one living ino epoch d s) (freed_by living ino epoch later after) l.free
          ∙ sym (ap (λ (xs : List KilledPart). with_back (freed_by living ino epoch xs s) l.free) rest) ∙ i.free;
      size = ap (λ (q : QueueValue). q.size) freed ∙ i.size;
      places = omega (arith, i.places, room, freed_few living ino epoch d s);
      frame = c.retire_part.ensures.frame ∙ i.frame;
    }

pub returns-clause-free : goal.returns-clause-free
returns-clause-free g c =
    let l = c.loop-part in
    let none : drop l.part-index c.args.killed.now ≡ [] = drop_all l.part-index c.args.killed.now (omega arith) in
    let cells = g.C.Cells.cells c.args.cells.now in
    let now = g.C.Cells.cells l.cells in
    let living = ids c.args.book.now.state.snaps in
    back_none l.free
    ∙ sym (ap (λ (xs : List KilledPart). with_back (freed_by living (ino_at cells c.args.k) c.args.epoch xs
    (state_at now c.args.k)) l.free) none)
    ∙ l.invariant.free
