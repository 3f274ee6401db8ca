-- The number that a call has in its hand at its check is of a slot without an inode.
use Rattle.std.proofs.Common.{◌≡◌, ℕ, ◌∙◌, Bool, true, false, List, [], ◌∷◌, Option, Some, ap, ap₂, arith, flat_map, if◌then◌else◌, nat_lt, refl}
use Rattle.std.proofs.lemmas.Bool.{ltb-true, true≢false}
use Rattle.nv_alloc.specs.Numbers.{times}
use Rattle.nv_alloc.proofs.Lists.{times-yes}
use Rattle.nv_base.specs.declared.geometry.GeometryNumbers.{GeometryNumbers}
use Rattle.nv_cell.specs.Cell.{log_of}
use Rattle.nv_entry.specs.declared.item.Entry.{Entry}
use Rattle.nv_cell.specs.Readers.{has_entry}
use Rattle.nv_machine.specs.Reads.{written_slots}
use Rattle.nv_machine.specs.World.{Check, Next, Running, World, actor_at, cell_at}
use Rattle.nv_machine.proofs.FitsOwn.{IsNumberFree}
use Rattle.nv_machine.proofs.Lists.{self}
use Rattle.nv_machine.proofs.PoolCells.{no_inode}
use Rattle.nv_machine.proofs.PoolRuns.{ArePooled, own_loose}
use Rattle.nv_machine.proofs.PoolTally.{loose, loose_by, loose_of, tally}

abbrev pub HaveFreeNumbers : World → Type 0
HaveFreeNumbers w = (actor ino : ℕ) (r : Running) → (actor_at w actor).running ≡ Some r → r.next ≡ Check
    → (actor_at w actor).hand.ino ≡ Some ino → IsNumberFree w.shared ino

no_entry : (log : List Entry) → has_entry log ≡ false → log ≡ []
no_entry [] e = refl
no_entry (x ∷ log) e = absurd (true≢false e)

pub free_numbers : (g : GeometryNumbers) (w : World) → ArePooled g w → HaveFreeNumbers w
free_numbers g w pooled actor ino r is next has_it = go (nat_lt ino g.inodes) refl (pooled.once ino) where
  own : times ino (loose_by (actor_at w actor)) ≡ 1
  own = ap₂ (λ (o : Option Running) (n : Option ℕ). times ino (loose_of o n)) is has_it
      ∙ ap (λ (k : Next). times ino (loose k (written_slots r) (Some ino))) next ∙ times-yes ino ino [] (self ino)

  go : (b : Bool) → nat_lt ino g.inodes ≡ b → tally ino w.shared (flat_map loose_by w.actors) ≡ (if b then 1 else 0)
      → IsNumberFree w.shared ino
  go true e once = record {
    inside = omega (arith, ltb-true ino g.inodes e, pooled.slots);
    empty = no_entry (log_of (cell_at w.shared ino)) (no_inode (cell_at w.shared ino)
        (omega (arith, once, own, own_loose w actor ino))).0;
  }
  go false e once = absurd (omega (arith, once, own, own_loose w actor ino))
