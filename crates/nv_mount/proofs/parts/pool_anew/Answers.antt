use Rattle.std.proofs.Common.{◌≡◌, ◌<◌, ◌++◌, ◌∷◌, [], ℕ, Bool, false, List, cond, filter, length, not, ap, ap₂, arith, subst, sym, ◌∙◌}
use Rattle.std.specs.Global.{Vec}
use Rattle.std.specs.Prelude.{IfOk, slice_index_or}
use Rattle.std.specs.List.{range_with_len}
use Rattle.std.proofs.lemmas.List.{append-nil}
use Rattle.nv_alloc.specs.InodePool.{FreeInodes, IsPool}
use Rattle.nv_audit.proofs.MountedLogs.{tails_many}
use Rattle.nv_base.specs.declared.fault.ImageFault.TheVariants as fault
use Rattle.nv_base.specs.declared.geometry.GeometryNumbers.{GeometryNumbers}
use Rattle.nv_mount.specs.Build.{is_slot_used}
use Rattle.nv_mount.specs.View.{SlotViewValue, ViewValue, slot_in}
use Rattle.nv_mount.proofs.Anew.{filter_more, filter_pool, free_in, pool_is}
use Rattle.nv_mount.proofs.Seen.{erased_many, slot_read}
use Rattle.nv_mount.proofs.parts.pool_anew.Goals as goal
use Rattle.nv_mount.proofs.parts.pool_anew.Goals.{After-slot, then-not-is_slot_used+in_ok-push, else-not-is_slot_used}

-- the slot is one of the image
low : (c : After-slot) → c.loop-ino.ino < length c.requires.0.slots
low c =
    let same = ap (λ (v : ViewValue). length v.slots) c.view.view_is in
    omega (arith, c.loop-ino-test.true, same, c.requires.2.count)

-- and its generation is the one that is seen
its_generation : (c : After-slot) → c.slot.inside.generation ≡ (slot_in c.args.view.now c.loop-ino.ino).generation
its_generation c =
    ap (λ (s : SlotViewValue). s.generation)
    (c.slot.view_is ∙ sym c.index-view-ino.is
    ∙ slot_read c.args.view.now c.view.inside.slots.now c.loop-ino.ino c.index-view-ino.result
    (ap (λ (v : ViewValue). v.slots) c.view.view_is) c.loop-ino-test.true c.index-view-ino.is)

pub bounds-tails-ino : goal.bounds-tails-ino
bounds-tails-ino c =
    let lt = low (goal.at.bounds-tails-ino c).After-slot in
    omega (arith, lt, tails_many c.requires.0 c.args.tails.now c.requires.3)

pub bounds-ended-ino : goal.bounds-ended-ino
bounds-ended-ino c =
    let lt = low (goal.at.bounds-ended-ino c).After-slot in
    omega (arith, lt, erased_many c.requires.0 c.args.ended.now c.requires.4)

pub is_slot_used-requires : goal.is_slot_used-requires
is_slot_used-requires c =
    let here = (goal.at.is_slot_used-requires c).After-slot in
    let most = (c.requires.1 fault.Geometry).each c.loop-ino.ino (low here) in
    let seen = c.requires.2.slots c.loop-ino.ino (low here) in
    omega (arith, its_generation here, seen.generation, most.most)

pub loop-ino-preserved : goal.loop-ino-preserved
loop-ino-preserved c =
    let here = (goal.at.loop-ino-preserved c).After-slot in
    let ino = c.loop-ino.ino in
    let p = free_in c.args.view.now c.args.tails.now c.args.ended.now in
    let is_free : not c.is_slot_used.result ≡ p ino =
    ap not
    (c.is_slot_used.ensures
    ∙ ap (λ (n : ℕ). is_slot_used n (slice_index_or c.args.tails.now ino 0) (slice_index_or c.args.ended.now ino false))
    (its_generation here)) in
    let more = filter_more p ino in
    let before = filter p (range_with_len 0 ino) in
    elim c.if-not-is_slot_used.branch [
      | then-not-is_slot_used+in_ok-push w ↦
          ap (λ (v : Vec ℕ). v.items) w.numbers-is ∙ w.in_ok-push.ensures.items
          ∙ ap₂ (λ (ns : List ℕ) (n : ℕ). ns ++ n ∷ []) c.loop-ino.invariant w.new.ensures
          ∙ ap (λ (b : Bool). before ++ cond b (ino ∷ []) []) (ap not (sym w.if-not-is_slot_used.true) ∙ is_free)
          ∙ sym more
      | else-not-is_slot_used w ↦
          ap (λ (v : Vec ℕ). v.items) w.numbers-is ∙ c.loop-ino.invariant ∙ sym (append-nil before)
          ∙ ap (λ (b : Bool). before ++ cond b (ino ∷ []) []) (ap not (sym w.if-not-is_slot_used.false) ∙ is_free)
          ∙ sym more
    ]

pub rebuild-requires : goal.rebuild-requires
rebuild-requires c =
    let p = free_in c.args.view.now c.args.tails.now c.args.ended.now in
    let n = c.loop-ino.ino in
    let inodes = c.view.inside.geometry.now.numbers.inodes in
    let all : c.deref.result.now ≡ filter p (range_with_len 0 n) = c.deref.ensures.value ∙ c.loop-ino.invariant in
    let same = ap (λ (v : ViewValue). length v.slots) c.view.view_is in
    let numbers = ap (λ (v : ViewValue). v.numbers.inodes) c.view.view_is ∙ ap (λ (g : GeometryNumbers). g.inodes) c.requires.2.numbers in
    let slots = (c.requires.1 fault.Geometry).slots in
    let end : n ≡ inodes =
    omega (arith, c.loop-ino-test.false, c.loop-ino.auto.ino-end, same, numbers, slots, c.requires.2.count) in
    subst (λ (ns : List ℕ). IsPool (record { inodes = inodes; numbers = ns })) (sym all)
    (subst (λ (k : ℕ). IsPool (record { inodes = k; numbers = filter p (range_with_len 0 n) })) end (filter_pool p n))

pub returns-clause-ok : goal.returns-clause-ok
returns-clause-ok c image faultless seen cut gone =
    let view = c.args.view.now in
    let same = ap (λ (v : ViewValue). length v.slots) c.view.view_is in
    let end : c.loop-ino.ino ≡ length image.slots =
    omega (arith, c.loop-ino-test.false, c.loop-ino.auto.ino-end, same, seen.count) in
    let numbers = ap (λ (v : ViewValue). v.numbers.inodes) c.view.view_is ∙ ap (λ (g : GeometryNumbers). g.inodes) seen.numbers in
    let all =
    c.deref.ensures.value ∙ c.loop-ino.invariant
    ∙ pool_is image view c.args.tails.now c.args.ended.now faultless seen cut gone c.loop-ino.ino end in
    let whole = ap₂ (λ (n : ℕ) (ns : List ℕ). let r : FreeInodes = record { inodes = n; numbers = ns } in r) numbers all in
    subst (λ (p : FreeInodes). IfOk c.rebuild.result (λ (pool : FreeInodes). pool ≡ p)) whole c.rebuild.ensures.ok
