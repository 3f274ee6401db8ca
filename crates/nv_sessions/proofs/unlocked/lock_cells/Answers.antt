use Rattle.std.proofs.Common.{◌≡◌, ◌∙◌, ℕ, List, ap, arith, length, rules, sym, vec_len}
use Rattle.std.specs.List.{range_with_len}
use Rattle.std.proofs.lemmas.List.{length-map}
use Rattle.nv_sessions.specs.Fresh.{Owned}
use Rattle.nv_sessions.specs.Locked.{version_at}
use Rattle.nv_sessions.specs.UnlockedParts.{BesideCellValue, Told, rest_told, cell_told}
use Rattle.nv_sessions.proofs.Slots.{falling, fallen, left}
use Rattle.nv_sessions.proofs.Turning.{split_last, turned}
use Rattle.nv_sessions.proofs.unlocked.lock_cells.Goals as goal

pub loop-cell-init : goal.loop-cell-init
loop-cell-init g c =
    let rests = c.args.rests in
    let turn = c.reverse-2.ensures in
    let many : length rests.items ≡ vec_len rests = omega (arith, rests.ok) in
    record {
      locks = search rules;
      count = omega (arith, c.requires.room.0);
      parts = omega (
        arith,
        ap (λ (ts : List Told). length ts) c.requires.fit,
        length-map rests.items rest_told,
        length-map c.args.cells.items cell_told,
        rests.ok,
        c.args.cells.ok,
        turn.len,
        c.reverse.ensures.len,
      );
      fit = turned rest_told cell_told rests.items c.reverse-2.new.self.items c.args.cells.items c.reverse.new.self.items
          c.requires.fit turn.items c.reverse.ensures.items;
      slots = fallen rests.items c.reverse-2.new.self.items (vec_len rests)
          (c.requires.slots ∙ ap (λ (n : ℕ). range_with_len 0 n) many) turn.items
          ∙ ap (λ (n : ℕ). falling 0 n) (sym turn.len)
          ∙ ap (λ (n : ℕ). falling n (vec_len c.reverse-2.new.self)) (sym c.requires.room.0);
    }

-- the last rest's slot is the next, and the others are behind it
pub put_back-requires-clause-next : goal.put_back-requires-clause-next
put_back-requires-clause-next g c =
    let l = c.loop-cell in
    let before = l.invariant.slots ∙ ap (λ (n : ℕ). falling (vec_len l.locks.locks) n) (sym c.in-Some-pop.ensures.cases) in
    ap (λ (r : BesideCellValue). r.slot) c.rest.view_is
    ∙ (left l.rests.items c.pop-in-Some.new.self.items c.in-Some-pop.rest (vec_len l.locks.locks) (vec_len c.pop-in-Some.new.self) before
    c.in-Some-pop.ensures.items).1

pub invariant_of-locked : goal.invariant_of-locked
invariant_of-locked g c =
    let l = c.loop-cell in
    let is = c.rest.view_is in
    let fit = (split_last rest_told cell_told l.rests.items c.pop-in-Some.new.self.items c.in-Some-pop.rest l.cells.items
    c.pop.new.self.items c.in-Some.cell l.invariant.fit c.in-Some-pop.ensures.items c.in-Some.ensures.items).1 in
    let at = sym (ap (λ (r : BesideCellValue). r.version) is ∙ ap (λ (t : Told). t.version) fit) in (
      c.hidden.ensures.parts ∙ c.rest.invariant.0,
      c.hidden.ensures.blocks ∙ ap (λ (r : BesideCellValue). r.blocks) is ∙ ap (λ (t : Told). t.blocks) fit,
      ap (λ (o : Owned). o.ino) c.hidden.ensures.owner ∙ c.rest.invariant.1,
      c.version.ensures ∙ at ∙ ap (λ (o : Owned). version_at g.C.Commits.opened c.rest.inside.ino o.version) (sym c.hidden.ensures.owner),
      sym c.version.ensures,
    )

pub loop-cell-preserved : goal.loop-cell-preserved
loop-cell-preserved g c =
    let l = c.loop-cell in
    let i = l.invariant in
    let count = c.put_back.ensures.count in
    let before = i.slots ∙ ap (λ (n : ℕ). falling (vec_len l.locks.locks) n) (sym c.in-Some-pop.ensures.cases) in
    record {
      locks = c.put_back.ensures.room ∙ i.locks;
      count = omega (arith, i.count, c.in-Some-pop.ensures.len, count);
      parts = omega (arith, i.parts, c.in-Some-pop.ensures.len, c.in-Some.ensures.len);
      fit = (split_last rest_told cell_told l.rests.items c.pop-in-Some.new.self.items c.in-Some-pop.rest l.cells.items
          c.pop.new.self.items c.in-Some.cell i.fit c.in-Some-pop.ensures.items c.in-Some.ensures.items).0;
      slots = (left l.rests.items c.pop-in-Some.new.self.items c.in-Some-pop.rest (vec_len l.locks.locks)
          (vec_len c.pop-in-Some.new.self) before c.in-Some-pop.ensures.items).0
          ∙ ap (λ (n : ℕ). falling n (vec_len c.pop-in-Some.new.self)) (sym count);
    }
