-- The plain world of a new world has the root alone.
use Rattle.std.proofs.Common.{◌≡◌, ℕ, suc, ◌<◌, ◌==◌, ◌∙◌, Bool, true, false, cond, List, Option, Some, None, ap, arith, refl, sym}
use Rattle.std.specs.Prelude.{◌&&◌}
use Rattle.std.proofs.lemmas.Bool.{eq-eqb, eqb-true}
use Rattle.nv_base.specs.Limits.{IsWithinLimits}
use Rattle.nv_base.specs.declared.geometry.GeometryNumbers.{GeometryNumbers}
use Rattle.nv_base.specs.declared.numbers.Handle.{Handle}
use Rattle.nv_calls.specs.Plain.{PlainNode, stamped}
use Rattle.nv_cell.specs.Cell.{CellState}
use Rattle.nv_entry.specs.declared.item.Entry.{Entry}
use Rattle.nv_machine.specs.Format.{formatted, root_cell}
use Rattle.nv_machine.specs.PlainRun.{new_plain, plain_of, root_alone}
use Rattle.nv_machine.specs.Settled.{node_by, settled}
use Rattle.nv_machine.specs.World.{cell_at}
use Rattle.nv_machine.proofs.CommitEffects.{root_gives}
use Rattle.nv_machine.proofs.NewWorld.{new_cell, new_settled}

root_is : (g : GeometryNumbers) → 0 < g.block → node_by (root_cell g) (root_cell g).chain.entries ≡ Some root_alone
root_is g some = ap (stamped 0) (root_gives g some).is

either_none : (b c : Bool) (x y : Option PlainNode) → x ≡ None → c ≡ false → cond b x None ≡ cond c y None
either_none true true x y e f = cc
either_none false true x y e f = cc
either_none true false x y e f = e
either_none false false x y e f = refl

same_if : (b c : Bool) (x y : Option PlainNode) → x ≡ y → b ≡ c → cond b x None ≡ cond c y None
same_if b c x y e f = rw (e, f) refl

node_at : (g : GeometryNumbers) → 0 < g.block → (ino generation : ℕ)
    → cond (generation == (cell_at (formatted g).shared ino).generation)
    (node_by (cell_at (formatted g).shared ino) (settled (formatted g).shared ino)) None
    ≡ cond (ino == 0 && generation == 1) (Some root_alone) None
node_at g some ino generation =
    let cell = cell_at (formatted g).shared ino in
    ap (λ (log : List Entry). cond (generation == cell.generation) (node_by cell log) None) (new_settled g ino)
    ∙ new_cell g (λ (n : ℕ) (c : CellState). cond (generation == c.generation) (node_by c c.chain.entries) None
    ≡ cond (n == 0 && generation == 1) (Some root_alone) None)
    (same_if (generation == 1) (0 == 0 && generation == 1) _ _ (root_is g some)
    (ap (λ (b : Bool). b && generation == 1) (sym (eq-eqb 0 0 refl))))
    (λ n. none n (generation == 1)) (λ n past. none n (generation == 0)) ino
  where
    other : (n : ℕ) (b : Bool) → (suc n == 0) ≡ b → (b && generation == 1) ≡ false
    other n false e = refl
    other n true e = absurd (let same = eqb-true (suc n) 0 e in omega (arith, same))

    none : (n : ℕ) (b : Bool) → cond b None None ≡ cond (suc n == 0 && generation == 1) (Some root_alone) None
    none n b = either_none b (suc n == 0 && generation == 1) None (Some root_alone) refl (other n (suc n == 0) refl)

pub plain_start : (g : GeometryNumbers) → IsWithinLimits g → (handle : Handle)
    → (plain_of (formatted g)).nodes handle ≡ new_plain.nodes handle
plain_start g within handle = node_at g (omega (arith, within.some_bytes)) handle.ino handle.generation
