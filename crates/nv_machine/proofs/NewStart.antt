-- A new world is one where a run may start, without records.
use Rattle.std.proofs.Common.{◌≡◌, ◌∙◌, ℕ, zero, suc, ◌+◌, ◌-◌, ◌<◌, ◌≤◌, ◌||◌, Bool, false, List, [], ◌∷◌, None, ap, ap₂, arith, filter, length, not, refl, subst, sym}
use Rattle.std.specs.List.{range_with_len}
use Rattle.std.proofs.lemmas.List.{length-replicate}
use Rattle.nv_alloc.specs.Block.{AreSized}
use Rattle.nv_alloc.specs.Numbers.{has, unused}
use Rattle.nv_base.specs.Limits.{IsWithinLimits}
use Rattle.nv_base.specs.declared.geometry.GeometryNumbers.{GeometryNumbers}
use Rattle.nv_cell.specs.Cell.{CellState, empty_cell, log_of}
use Rattle.nv_cell.specs.Marks.{bit, is_killed, mark_at}
use Rattle.nv_machine.specs.Directories.{AreTree}
use Rattle.nv_machine.specs.Format.{formatted, root_cell}
use Rattle.nv_machine.specs.Held.{picked_by_actor}
use Rattle.nv_machine.specs.PoolScan.{is_number_used, number_held, pool_from_scratch}
use Rattle.nv_machine.specs.Recorded.{is_marked_kept, recorded_in}
use Rattle.nv_machine.specs.Starts.{IsStart}
use Rattle.nv_machine.specs.World.{World, cell_at, idle}
use Rattle.nv_machine.proofs.DirectoryLaws.{new_nodes, root_tree}
use Rattle.nv_machine.proofs.CommitEffects.{new_sound}
use Rattle.nv_machine.proofs.FiledLists.{count}
use Rattle.nv_machine.proofs.FiledMarks.{is_filed_on}
use Rattle.nv_machine.proofs.Generations.{new_early}
use Rattle.nv_machine.proofs.GoneRuns.{new_erased}
use Rattle.nv_machine.proofs.LogsInOrder.{new_order}
use Rattle.nv_machine.proofs.LocksOverEvents.{all_same, many_same}
use Rattle.nv_machine.proofs.CellMarksRuns.{is_cell, new_parts}
use Rattle.nv_machine.proofs.NewNumbers.{new_lists, new_once}
use Rattle.nv_machine.proofs.NewWorld.{each_cell, new_cell, new_tails, none_closed}
use Rattle.nv_machine.proofs.PageEvents.{new_all}
use Rattle.nv_machine.proofs.PartsFor.{none_of}
use Rattle.nv_machine.proofs.ShapeEvents.{new_shaped}
use Rattle.nv_cell.specs.Readers.{has_inode, is_withheld}
use Rattle.nv_machine.proofs.Versions.{new_versions}

-- ---- the pool

all_unused : (used : ℕ → Bool) → ((n : ℕ) → 1 ≤ n → used n ≡ false) → (a len : ℕ) → 1 ≤ a
    → filter (λ n. not (used n)) (range_with_len a len) ≡ range_with_len a len
all_unused used none a zero le = refl
all_unused used none a (suc len) le =
    rw (none a le) (ap (λ (l : List ℕ). a ∷ l) (all_unused used none (a + 1) len (omega (arith, le))))

-- of the numbers the root's alone is in use
new_unused : (g : GeometryNumbers) (n : ℕ) → 1 ≤ n → is_number_used (formatted g) n ≡ false
new_unused g n le =
    ap₂ (λ (b : Bool) (l : List ℕ). b || has l n)
    (new_cell g (λ (m : ℕ) (c : CellState). 1 ≤ m → (has_inode c || is_withheld c) ≡ false) (λ some. absurd (omega (arith, some)))
    (λ m some. refl) (λ m past some. refl) n le)
    (none_of number_held (formatted g).actors (λ b. ap number_held (all_same g.actors b idle)))

new_pool : (g : GeometryNumbers) → IsWithinLimits g → range_with_len 1 (g.inodes - 1) ≡ pool_from_scratch g (formatted g)
new_pool g within =
    let used : ℕ → Bool = is_number_used (formatted g) in
    let some : g.inodes ≡ suc (g.inodes - 1) = omega (arith, within.some_inodes) in
    sym (ap (unused used 0) some ∙ all_unused used (new_unused g) 1 (g.inodes - 1) (omega arith))

-- ---- records and marks

none_recorded : (g : GeometryNumbers) → recorded_in (formatted g) ≡ []
none_recorded g = none_of picked_by_actor (formatted g).actors (λ b. ap picked_by_actor (all_same g.actors b idle))

abbrev IsPlain : CellState → Type 0
IsPlain c = (n : ℕ) → (is_killed (mark_at c.marks n) ≡ false) × (is_marked_kept (mark_at c.marks n) ≡ false)

root_plain : (g : GeometryNumbers) → IsPlain (root_cell g)
root_plain g zero = (refl, refl)
root_plain g (suc zero) = (refl, refl)
root_plain g (suc (suc zero)) = (refl, refl)
root_plain g (suc (suc (suc n))) = (refl, refl)

new_plain : (g : GeometryNumbers) (ino : ℕ) → IsPlain (cell_at (formatted g).shared ino)
new_plain g = each_cell g IsPlain (root_plain g) (λ block page generation n. (refl, refl))

-- ---- the whole

pub new_start : (g : GeometryNumbers) → IsWithinLimits g → IsStart g (formatted g) []
new_start g within = record {
  limits = within;
  numbers = refl;
  actors = length-replicate g.actors idle;
  slots = many;
  owners = many_same g.inodes None;
  inodes = refl;
  journals = many_same g.cpus [];
  most = refl;
  idle_all = λ actor. all_same g.actors actor idle;
  unlocked = λ ino. all_same g.inodes ino None;
  uncommitted = refl;
  closed = none_closed g.cpus;
  unpinned = λ snapshot. refl;
  once = new_once g within;
  lists = new_lists g (omega (arith, within.some_cpus));
  pool = new_pool g within;
  cells = λ ino lt. is_cell g (cell_at w.shared ino) within (new_parts g ino (inside ino lt)) (new_all g within ino (inside ino lt))
      ((new_order g).logs ino).ordered
      (each_cell g (λ (c : CellState). AreSized g.block c.chain.blocks) (length-replicate g.block 0, tt) (λ block page generation. tt) ino);
  sizes = λ ino lt. (new_parts g ino (inside ino lt)).size;
  pages = λ ino lt. new_all g within ino (inside ino lt);
  tails = new_tails g;
  order = (new_order g).logs;
  versions = new_versions g;
  early = new_early g;
  erased = new_erased g;
  rising = tt;
  before = λ k d lt. absurd (omega (arith, lt));
  list = record { manifests_are = refl; deferred_is = refl };
  dead = tt;
  paired = tt;
  recorded = λ ino n. ap (count (is_filed_on ino (log_of (cell_at w.shared ino)) n)) (none_recorded g) ∙ sym (ap bit (new_plain g ino n).1);
  alive = λ ino n. (new_plain g ino n).0;
  out = λ ino n pair got gone. refl;
  shaped = new_shaped g;
  sound = new_sound g within;
  tree = subst AreTree (sym (new_nodes g within)) root_tree;
  copies = λ snapshot there. absurd (let lt = there.1 in omega (arith, lt));
} where
  w : World
  w = formatted g

  many : length (formatted g).shared.cells ≡ g.inodes
  many = let same = many_same (g.inodes - 1) (empty_cell g.block g.page 1 0) in omega (arith, same, within.some_inodes)

  inside : (ino : ℕ) → ino < g.inodes → ino < length (formatted g).shared.cells
  inside ino lt = omega (arith, lt, many)
