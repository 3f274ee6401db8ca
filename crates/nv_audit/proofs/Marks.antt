-- Marks of used blocks.
use Rattle.std.proofs.Common.{◌≡◌, ℕ, zero, suc, ◌+◌, ◌-◌, ◌<◌, ◌≤◌, Bool, List, not, arith, ap, sym, ◌∙◌, subst}
use Rattle.nv_base.specs.Homes.{home_start}
use Rattle.nv_base.specs.declared.geometry.GeometryNumbers.{GeometryNumbers}
use Rattle.nv_base.proofs.HomeRanges.{cuts}
use Rattle.nv_alloc.specs.FreeList.{FreeBlocks}
use Rattle.nv_audit.specs.Lists.{AreAllFree, AreFree, AreMarked, mark_at}

rises : (f : ℕ → ℕ) → ((n : ℕ) → f n ≤ f (n + 1)) → (n k : ℕ) → f n ≤ f (n + k)
rises f up n zero = let e : n + 0 ≡ n = omega arith in subst (λ (m : ℕ). f n ≤ f m) (sym e) (omega arith)
rises f up n (suc k) =
    let e : n + suc k ≡ (n + k) + 1 = omega arith in
    let before : f n ≤ f (n + k) = rises f up n k in
    let last : f (n + k) ≤ f (n + k + 1) = up (n + k) in
    subst (λ (m : ℕ). f n ≤ f m) (sym e) (omega (arith, before, last))

-- each home range ends at the last block or before it
pub ends_within : (blocks cpus cpu : ℕ) → cpu < cpus → home_start blocks cpus (cpu + 1) ≤ blocks
ends_within blocks cpus cpu lt =
    let cut = cuts blocks cpus (omega (arith, lt)) in
    let all : cpu + 1 + (cpus - (cpu + 1)) ≡ cpus = omega (arith, lt) in
    let low = rises (home_start blocks cpus) cut.in_order (cpu + 1) (cpus - (cpu + 1)) in
    let up : home_start blocks cpus (cpu + 1) ≤ home_start blocks cpus cpus =
    subst (λ (m : ℕ). home_start blocks cpus (cpu + 1) ≤ home_start blocks cpus m) all low in
    omega (arith, up, cut.last)

-- lists that have the unmarked numbers have those that are not used
pub free_by_marks : (g : GeometryNumbers) (lists : List FreeBlocks) (used : List ℕ) (marks : List Bool) → AreMarked g.blocks used marks
    → (AreAllFree g lists (mark_at marks) → AreFree g lists used) × (AreFree g lists used → AreAllFree g lists (mark_at marks))
free_by_marks g lists used marks are = (
  λ free cpu lt n from below. free cpu lt n from below ∙ ap not (are.marked n (omega (arith, below, ends_within g.blocks g.cpus cpu lt))),
  λ free cpu lt n from below. free cpu lt n from below ∙ ap not
      (sym (are.marked n (omega (arith, below, ends_within g.blocks g.cpus cpu lt)))),
)
