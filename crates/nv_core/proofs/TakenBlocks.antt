-- What a taking from a list puts into the hand, and what it leaves in the list.
use Rattle.std.proofs.Common.{◌≡◌, ℕ, zero, suc, ◌+◌, ◌-◌, ◌<◌, ◌≤◌, ◌∙◌, ◌++◌, List, ◌∷◌, arith, ap, drop, length, min, slice_index_or, subst, sym, take, length-append, length-take, []}
use Rattle.std.specs.List.{AllByRecursion}
use Rattle.nv_alloc.specs.Block.{BlockValue, numbers_of}
use Rattle.nv_alloc.specs.FreeList.{FreeBlocks, IsFreeList}
use Rattle.nv_alloc.specs.Queue.{QueueValue}
use Rattle.nv_alloc.specs.declared.hand.Hand.{Hand}
use Rattle.nv_base.proofs.HomeRanges.{cuts}
use Rattle.nv_base.specs.Homes.{home_start}
use Rattle.nv_base.specs.declared.geometry.GeometryNumbers.{GeometryNumbers}
use Rattle.nv_machine.specs.World as machine
use Rattle.nv_core.proofs.Gives.{lists_set}
use Rattle.nv_steps.proofs.Homes.{starts_rise}
use Rattle.nv_core.specs.Parts.{AreListsOf, IsListOf, IsOfDevice}
use Rattle.nv_core.specs.Takings.{IsTaken}

-- ---- the blocks of a list

first_below : (end many n : ℕ) (bs : List BlockValue) → end ≤ many → AllByRecursion (λ m. m < end) (numbers_of bs)
    → AllByRecursion (λ (b : BlockValue). b.number < many) (take n bs)
first_below end many zero bs le all = tt
first_below end many (suc n) [] le all = tt
first_below end many (suc n) (b ∷ bs) le all = (omega (arith, all.0, le), first_below end many n bs le all.1)

-- what is free in a list is of the device
pub taken_below : (g : GeometryNumbers) (cpu n : ℕ) (list : FreeBlocks) → cpu < g.cpus → IsListOf g cpu list → IsFreeList list
    → AllByRecursion (λ (b : BlockValue). b.number < g.blocks) (take n list.blocks)
taken_below g cpu n list lt of free =
    let some : 0 < g.cpus = omega (arith, lt) in
    let rise = starts_rise g.blocks g.cpus (cpu + 1) (g.cpus - (cpu + 1)) some in
    let same : cpu + 1 + (g.cpus - (cpu + 1)) ≡ g.cpus = omega (arith, lt) in
    let up = subst (λ (m : ℕ). home_start g.blocks g.cpus (cpu + 1) ≤ home_start g.blocks g.cpus m) same rise in
    first_below list.end g.blocks n list.blocks (omega (arith, up, of.end, (cuts g.blocks g.cpus some).last)) free.below_end

-- ---- the lists after it

pub home_after : (g : GeometryNumbers) (below n cpu : ℕ) (old new : List FreeBlocks) (before after : QueueValue) → AreListsOf g old
    → cpu < length old → IsTaken below n cpu (slice_index_or old cpu machine.no_list) old new before after → AreListsOf g new
home_after g below n cpu old new before after are lt is =
    let list = slice_index_or old cpu machine.no_list in
    let own = are.each cpu (omega (arith, lt, are.count)) in
    subst (λ (l : List FreeBlocks). AreListsOf g l) (sym is.lists)
    (lists_set g cpu old (record list { blocks = drop n list.blocks }) are (record { start = own.start; end = own.end; size = own.size }))

-- ---- the hand after it

all_both : (P : BlockValue → Type 0) (one other : List BlockValue) → AllByRecursion P one → AllByRecursion P other
    → AllByRecursion P (one ++ other)
all_both P [] other front rest = rest
all_both P (b ∷ one) other front rest = (front.0, all_both P one other front.1 rest)

all_front : (P : BlockValue → Type 0) (one other : List BlockValue) → AllByRecursion P (one ++ other) → AllByRecursion P one
all_front P [] other all = tt
all_front P (b ∷ one) other all = (all.0, all_front P one other all.1)

all_rest : (P : BlockValue → Type 0) (one other : List BlockValue) → AllByRecursion P (one ++ other) → AllByRecursion P other
all_rest P [] other all = all
all_rest P (b ∷ one) other all = all_rest P one other all.1

module _ (g : GeometryNumbers) (hand : Hand) (below n cpu : ℕ) (list : FreeBlocks) (old new : List FreeBlocks) (queue : QueueValue) where
  abbrev In : BlockValue → Type 0
  In b = b.number < g.blocks

  pub pages_device : IsOfDevice g hand → g.blocks ≡ below → IsTaken below n cpu list old new hand.pages queue
      → IsOfDevice g (record hand { pages = queue })
  pages_device device same is =
      let both = all_front In (hand.«data».blocks ++ hand.pages.blocks) hand.chain device in
      let chain = all_rest In (hand.«data».blocks ++ hand.pages.blocks) hand.chain device in
      let own = subst (λ (m : ℕ). AllByRecursion (λ (b : BlockValue). b.number < m) (take n list.blocks)) (sym same) is.own in
      all_both In (hand.«data».blocks ++ queue.blocks) hand.chain
      (all_both In hand.«data».blocks queue.blocks (all_front In hand.«data».blocks hand.pages.blocks both)
      (subst (λ (q : QueueValue). AllByRecursion In q.blocks) (sym is.queue)
      (all_both In hand.pages.blocks (take n list.blocks) (all_rest In hand.«data».blocks hand.pages.blocks both) own)))
      chain

-- how many blocks are in the queue, and how much room
pub taken_count : (below n cpu : ℕ) (list : FreeBlocks) (old new : List FreeBlocks) (before after : QueueValue)
    → IsTaken below n cpu list old new before after → length after.blocks ≡ length before.blocks + min n (length list.blocks)
taken_count below n cpu list old new before after is =
    ap (λ (q : QueueValue). length q.blocks) is.queue ∙ length-append before.blocks (take n list.blocks)
    ∙ ap (λ (m : ℕ). length before.blocks + m) (length-take n list.blocks)
