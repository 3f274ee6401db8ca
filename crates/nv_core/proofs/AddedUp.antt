-- The blocks of every world add up, since each stands once in the machine's, and no more are picked
-- than there are actors.
use Rattle.std.proofs.Common.{◌≡◌, ℕ, ◌+◌, ◌≤◌, ◌∙◌, ap, arith, length, subst, sym}
use Rattle.std.specs.List.{sum_by}
use Rattle.nv_base.specs.declared.geometry.GeometryNumbers.{GeometryNumbers}
use Rattle.nv_book.specs.Records.{block_count}
use Rattle.nv_machine.specs.Held.{pending_in}
use Rattle.nv_machine.specs.Numbers.{all_blocks}
use Rattle.nv_machine.specs.World as machine
use Rattle.nv_machine.proofs.WorldFacts.{each_once}
use Rattle.nv_machine.proofs.WorldSizes.{IsOfNumbers, of_numbers}
use Rattle.nv_core.proofs.Pending.{pending_counts}
use Rattle.nv_core.proofs.ScannedParts.{pending_few}
use Rattle.nv_core.proofs.SpaceLaw.{adds_up}
use Rattle.nv_core.specs.Reports.{AddsUp, data_kept, space_in, space_of}
use Rattle.nv_core.specs.Picked.{picked_of}
use Rattle.nv_core.specs.Shown.{shared_of}
use Rattle.nv_alloc.specs.Numbers.{IsEachOnce}
use Rattle.nv_core.specs.Worlds.{IsWorld, Shows, WorldState}

pub world_adds_up : (w : WorldState) → IsWorld w → AddsUp w.shared.geometry.numbers.blocks (shared_of w.shared)
world_adds_up w is =
    let g = w.shared.geometry.numbers in
    let once =
    subst (λ (m : machine.World). IsEachOnce g.blocks (all_blocks m)) (sym is.2.reached)
    (each_once g is.1.start is.1.records is.1.events is.2.is_start) in
    subst (λ (s : machine.Shared). AddsUp g.blocks s) (sym is.2.shows.shared) (adds_up g.blocks is.0 once)

-- and no more are pending than are kept
pub pending_fits : (w : WorldState) (picked : ℕ) → IsWorld w → picked ≡ sum_by picked_of w.actors
    → block_count w.shared.book.state.deferred + picked ≤ data_kept (shared_of w.shared)
pending_fits w picked is same =
    let g = w.shared.geometry.numbers in
    let few = subst (λ (m : machine.World). block_count (pending_in m) ≤ data_kept m.shared) (sym is.2.reached)
    (pending_few g is.1.start is.1.records is.1.events is.2.is_start) in
    let counts = pending_counts w is.0 is.2.shows in
    let kept = ap data_kept is.2.shows.shared in
    omega (arith, few, counts, kept, same)

-- so its space is all of its blocks
pub all_spaced : (blocks pending : ℕ) (s : machine.Shared) → AddsUp blocks s → pending ≤ data_kept s
    → (space_in blocks pending s).free + (space_in blocks pending s).chain + (space_in blocks pending s).«data»
    + (space_in blocks pending s).pending + (space_in blocks pending s).hand ≡ blocks
all_spaced blocks pending s adds few = omega (arith, adds, few)

pub few_actors : (w : WorldState) → IsWorld w → length w.actors ≤ 64
few_actors w is =
    let g = w.shared.geometry.numbers in
    let numbers : IsOfNumbers g is.0 =
    subst (IsOfNumbers g) (sym is.2.reached) (of_numbers g is.1.start is.1.records is.1.events is.2.is_start) in
    omega (arith, is.2.shows.count, numbers.actors, is.2.is_start.limits.actors_fit)

-- with the picked blocks of its actors a world has the machine's space
pub space_shown : (w : WorldState) (m : machine.World) (picked : ℕ) → Shows w m → picked ≡ sum_by picked_of w.actors
    → space_in w.shared.geometry.numbers.blocks (block_count w.shared.book.state.deferred + picked) (shared_of w.shared) ≡ space_of m
space_shown w m picked shows is =
    let deferred = block_count w.shared.book.state.deferred in
    ap (λ (g : GeometryNumbers). space_in g.blocks (deferred + picked) (shared_of w.shared)) shows.numbers
    ∙ ap (λ (n : ℕ). space_in m.numbers.blocks n (shared_of w.shared))
    (ap (λ (n : ℕ). deferred + n) is ∙ sym (pending_counts w m shows))
    ∙ ap (space_in m.numbers.blocks (block_count (pending_in m))) shows.shared
