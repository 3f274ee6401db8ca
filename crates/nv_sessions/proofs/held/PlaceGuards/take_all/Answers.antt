use Rattle.std.proofs.Common.{◌≡◌, ◌∙◌, ◌++◌, ◌∷◌, ℕ, List, [], ap, arith, length, refl, subst, sym, take, vec_len}
use Rattle.std.specs.List.{AllByRecursion}
use Rattle.std.proofs.lemmas.List.{length_push, map-append, take_more}
use Rattle.nv_cell.proofs.RunFlags.{all_append}
use Rattle.nv_sessions.specs.Changing.{blocks_in}
use Rattle.nv_sessions.specs.Taken.{ArePlaces, IsTaken, inos_of, pairs}
use Rattle.nv_sessions.specs.declared.cell_list.CellList.{CellList}
use Rattle.nv_sessions.specs.declared.cell_list.TakenCell.{TakenCell}
use Rattle.nv_sessions.proofs.TakenCells.{blocks_more}
use Rattle.nv_sessions.proofs.held.PlaceGuards.take_all.Goals as goal

pub loop-slot-init : goal.loop-slot-init
loop-slot-init g c =
    let empty = c.requires.list.0 in
    record {
      places = subst (ArePlaces c.args.self.now.guards.items) (sym empty) c.requires.none;
      inos = ap inos_of empty;
      count = omega (arith, ap (λ (l : List TakenCell). length l) empty, c.args.list.now.cells.ok);
      taken = subst (AllByRecursion (IsTaken g.C.Commits.opened c.args.notes.now)) (sym empty) tt;
      notes = refl;
      parts = refl;
      amount = omega (arith, ap (λ (l : List TakenCell). blocks_in (pairs l)) empty);
      room = refl;
    }

pub loop-slot-preserved : goal.loop-slot-preserved
loop-slot-preserved g c =
    let i = c.loop-slot.invariant in
    let one = c.in-Ok.ensures.taken in
    let items = c.loop-slot.list.cells.items in
    let now = c.take_next.new.list.cells.items in
    let notes = subst (λ (l : List ℕ). IsTaken g.C.Commits.opened l one.0) i.notes one.3 in
    record {
      places = c.take_next.ensures.places;
      inos = ap inos_of one.1 ∙ map-append (λ (t : TakenCell). t.ino) items (one.0 ∷ [])
          ∙ ap (λ (l : List ℕ). l ++ one.0.ino ∷ []) i.inos
          ∙ ap (λ (n : ℕ). take c.loop-slot.slot-index c.args.slots.now ++ n ∷ []) (one.2 ∙ c.slot-item.is)
          ∙ sym (take_more c.args.slots.now c.loop-slot.slot-index c.slot-item.result c.loop-slot-test.true);
      count = omega (
        arith,
        i.count,
        ap (λ (l : List TakenCell). length l) one.1,
        length_push items one.0,
        c.loop-slot.list.cells.ok,
        c.take_next.new.list.cells.ok,
      );
      taken = subst (AllByRecursion (IsTaken g.C.Commits.opened c.args.notes.now)) (sym one.1)
          (all_append (IsTaken g.C.Commits.opened c.args.notes.now) items (one.0 ∷ []) i.taken (notes, tt));
      notes = c.take_next.ensures.notes ∙ i.notes;
      parts = c.take_next.ensures.parts ∙ i.parts;
      amount = omega (arith, i.amount, one.4, blocks_more items one.0 now one.1);
      room = c.take_next.ensures.room ∙ i.room;
    }

-- what was taken until then stays
pub returns-in-Err-clause-inos : goal.returns-in-Err-clause-inos
returns-in-Err-clause-inos g c =
    let i = c.loop-slot.invariant in
    subst (λ (l : CellList). inos_of l.cells.items ≡ take (vec_len l.cells) c.args.slots.now) (sym c.in-Err.ensures.same.0)
    (i.inos ∙ ap (λ (n : ℕ). take n c.args.slots.now) (sym i.count))

pub returns-in-Err-clause-taken : goal.returns-in-Err-clause-taken
returns-in-Err-clause-taken g c =
    subst (λ (l : CellList). AllByRecursion (IsTaken g.C.Commits.opened c.args.notes.now) l.cells.items) (sym c.in-Err.ensures.same.0)
    c.loop-slot.invariant.taken

pub returns-in-Err-clause-amount : goal.returns-in-Err-clause-amount
returns-in-Err-clause-amount g c =
    let same = c.in-Err.ensures.same in
    omega (arith, c.loop-slot.invariant.amount, same.1, ap (λ (l : CellList). blocks_in (pairs l.cells.items)) same.0)

pub returns-clause-inos : goal.returns-clause-inos
returns-clause-inos g c =
    let i = c.loop-slot.invariant in
    i.inos ∙ ap (λ (n : ℕ). take n c.args.slots.now) (sym i.count)
