use Rattle.std.proofs.Common.{◌≡◌, ◌∙◌, ◌+◌, ◌<◌, ◌%◌, ◌-◌, ◌++◌, ℕ, List, ap, ap₂, arith, drop, length, min, rules, slice_index_or, slice_set, subst, subst₂, sym, take}
use Rattle.std.proofs.lemmas.List.{get_or-set_same}
use Rattle.nv_alloc.specs.FreeList.{FreeBlocks, IsFreeList}
use Rattle.nv_machine.specs.Kinds.{asked_list}
use Rattle.nv_machine.specs.World.{list_at, no_list}
use Rattle.nv_steps.specs.OnList.{IsTaking, IsTold, on_list, with_taken}
use Rattle.nv_core.specs.Shown.{shared_of}
use Rattle.nv_core.proofs.Gives.{same_there}
use Rattle.nv_core.proofs.TakenBlocks.{taken_below}
use Rattle.nv_core.proofs.kinds.take.take_next.Goals as goal

-- the list that is asked is the one at its place
was : (lists : List FreeBlocks) (at cpu : ℕ) (found : FreeBlocks) → found ≡ slice_index_or lists at found → at ≡ cpu → cpu < length lists
    → found ≡ slice_index_or lists cpu no_list
was lists at cpu found value same inside =
    value ∙ ap (λ (m : ℕ). slice_index_or lists m found) same ∙ same_there lists cpu found no_list inside

-- what it became stands there
became : (lists : List FreeBlocks) (at cpu : ℕ) (left : FreeBlocks) → at ≡ cpu → cpu < length lists
    → left ≡ slice_index_or (slice_set lists at left) cpu no_list
became lists at cpu left same inside =
    sym (ap (λ (m : ℕ). slice_index_or (slice_set lists m left) cpu no_list) same ∙ get_or-set_same lists cpu left no_list inside)

pub returns-clause-taken : goal.returns-clause-taken
returns-clause-taken c =
    let lists = c.args.shared.now.lists.items in
    let n = c.args.wanted in
    let g = c.args.shared.now.geometry.numbers in
    let cpu = (c.args.actor + c.args.asked) % length lists in
    let at = c.cpu_of-cpu.ensures.value in
    let inside : cpu < length lists = subst (λ (m : ℕ). m < length lists) at c.cpu_of-cpu.ensures.within in
    let found = c.index_mut-list.result.now in
    let list = list_at (shared_of c.args.shared.now) cpu in
    let same : found ≡ list = was lists c.cpu_of-cpu.result cpu found c.index_mut-list.ensures.value at inside in
    let home = c.requires.home in
    record {
      lists = ap₂ (λ (m : ℕ) (l : FreeBlocks). slice_set lists m l) at c.take.ensures.list
          ∙ ap (λ (l : FreeBlocks). slice_set lists cpu (record l { blocks = drop n l.blocks })) same;
      queue = c.take.ensures.queue
          ∙ ap (λ (l : FreeBlocks). record c.args.queue.now {
            blocks = c.args.queue.now.blocks ++ take n l.blocks;
            room = c.args.queue.now.room - min n (length l.blocks);
          })
          same;
      own = taken_below g cpu n list (omega (arith, inside, home.count)) (home.each cpu (omega (arith, inside, home.count)))
          (subst IsFreeList same c.rises.ensures);
    }

pub returns-clause-turn : goal.returns-clause-turn
returns-clause-turn c taking numbers h r many before =
    let lists = c.args.shared.now.lists.items in
    let cpu = (c.args.actor + c.args.asked) % length lists in
    let counted : c.len-lists.result ≡ length lists = search rules in
    let at = c.cpu_of-cpu.ensures.value in
    let inside : cpu < length lists = subst (λ (m : ℕ). m < length lists) at c.cpu_of-cpu.ensures.within in
    let found = c.index_mut-list.result.now in
    let left = c.take.new.list in
    subst₂ (λ (l m : FreeBlocks). IsTaking taking c.args.asked numbers c.args.actor (on_list r h cpu l m) c.take.result
    (with_taken taking (take c.args.wanted l.blocks) h))
    (was lists c.cpu_of-cpu.result cpu found c.index_mut-list.ensures.value at inside)
    (became lists c.cpu_of-cpu.result cpu left at inside)
    (subst (λ (n : ℕ). IsTaking taking c.args.asked numbers c.args.actor
    (on_list r h (asked_list n c.args.actor c.args.asked) found left) c.take.result (with_taken taking (take c.args.wanted found.blocks) h))
    counted (c.take.ensures.turn taking numbers c.args.actor h r (many ∙ sym counted) before))

pub returns-clause-told : goal.returns-clause-told
returns-clause-told c =
    let lists = c.args.shared.now.lists.items in
    let cpu = (c.args.actor + c.args.asked) % length lists in
    let counted : c.len-lists.result ≡ length lists = search rules in
    let at = c.cpu_of-cpu.ensures.value in
    let inside : cpu < length lists = subst (λ (m : ℕ). m < length lists) at c.cpu_of-cpu.ensures.within in
    subst₂ (λ (l : FreeBlocks) (n : ℕ). IsTold c.args.wanted (length l.blocks) c.args.asked n c.take.result)
    (was lists c.cpu_of-cpu.result cpu c.index_mut-list.result.now c.index_mut-list.ensures.value at inside) counted c.take.ensures.told
