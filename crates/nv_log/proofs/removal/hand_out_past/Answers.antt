use Rattle.std.proofs.Common.{◌≡◌, ◌+◌, ◌-◌, ◌<◌, ◌++◌, ◌∷◌, [], ℕ, List, length, take, drop, get_or, reverse, vec_len, sym, ap, ◌∙◌, arith, refl}
use Rattle.std.proofs.lemmas.List.{append-nil, append_assoc, drop_all, length-drop, length-take-le, take_all}
use Rattle.std.proofs.lemmas.Option.{same_Some}
use Rattle.nv_alloc.specs.Block.{BlockValue}
use Rattle.nv_alloc.specs.Queue.{QueueValue}
use Rattle.nv_log.proofs.Cuts.{last_is, one_more, popped, sized_last}
use Rattle.nv_log.proofs.removal.hand_out_past.Goals as goal
use Rattle.nv_log.proofs.removal.hand_out_past.Goals.{In-Some}

-- a queue that got these blocks more, the last one first
abbrev with_out : QueueValue → List BlockValue → QueueValue
with_out q gone = record q { blocks = q.blocks ++ reverse gone; room = q.room - length gone }

no_more : (q : QueueValue) (gone : List BlockValue) → gone ≡ [] → q ≡ with_out q gone
no_more q gone e =
    let made = λ (bs : List BlockValue) (n : ℕ). let r : QueueValue = record q { blocks = bs; room = n } in r in
    let room : q.room ≡ q.room - 0 = omega arith in
    ap (λ bs. made bs q.room) (sym (append-nil q.blocks)) ∙ ap (made (q.blocks ++ [])) room ∙ ap (with_out q) (sym e)

put_more : (q : QueueValue) (gone more : List BlockValue) (block : BlockValue) → reverse more ≡ reverse gone ++ block ∷ []
    → length more ≡ length gone + 1
    → record (with_out q gone) { blocks = (q.blocks ++ reverse gone) ++ block ∷ []; room = q.room - length gone - 1 } ≡ with_out q more
put_more q gone more block e len =
    let made = λ (bs : List BlockValue) (n : ℕ). let r : QueueValue = record q { blocks = bs; room = n } in r in
    let room : q.room - length gone - 1 ≡ q.room - length more = omega (arith, len) in
    ap (λ bs. made bs (q.room - length gone - 1)) (append_assoc q.blocks (reverse gone) (block ∷ [])
    ∙ ap (λ xs. q.blocks ++ xs) (sym e))
    ∙ ap (made (q.blocks ++ reverse more)) room

-- the place of the block that was taken out
abbrev place : In-Some → ℕ
place c = length c.args.blocks.now.items + c.args.count - (c.loop-page._page + 1)

one : (c : In-Some) → place c + 1 ≡ length c.args.blocks.now.items + c.args.count - c.loop-page._page
one c = omega (arith, c.loop-page-test.true, c.requires.count, c.args.blocks.now.ok)

count : (c : In-Some) → vec_len c.loop-page.blocks ≡ place c + 1
count c =
    omega (
      arith,
      one c,
      ap length c.loop-page.invariant.blocks,
      length-take-le (length c.args.blocks.now.items + c.args.count - c.loop-page._page) c.args.blocks.now.items (omega arith),
      c.loop-page.blocks.ok,
    )

taken : (c : In-Some) → c.in-Some.block ≡ get_or c.loop-page.blocks.items (place c) c.in-Some.block
taken c =
    let at : vec_len c.loop-page.blocks - 1 ≡ place c = omega (arith, count c) in
    same_Some c.in-Some.block _ (c.in-Some.ensures.value c.in-Some.block (omega (arith, count c)))
    ∙ ap (λ m. get_or c.loop-page.blocks.items m c.in-Some.block) at

pub loop-page-init : goal.loop-page-init
loop-page-init c =
    let old = c.args.blocks.now.items in
    let n = length old + c.args.count - c.args.count in
    record {
      blocks = sym (take_all n old (omega arith));
      out = no_more c.args.out.now (drop n old) (drop_all n old (omega arith));
      capacity = refl;
    }

pub unreachable-requires : goal.unreachable-requires
unreachable-requires c =
    let old = c.args.blocks.now.items in
    let n = length old + c.args.count - c.loop-page._page in
    let some : 0 < n = omega (arith, c.loop-page-test.true, c.args.blocks.now.ok) in
    let len : vec_len c.loop-page.blocks ≡ n =
    omega (arith, ap length c.loop-page.invariant.blocks, length-take-le n old (omega arith), c.loop-page.blocks.ok) in
    omega (arith, some, len, c.in_default.ensures.cases.0)

pub put-requires : goal.put-requires
put-requires c =
    let here = (goal.at.put-requires c).In-Some in
    let old = c.args.blocks.now.items in
    let n = length old + c.args.count - c.loop-page._page in
    let is = c.loop-page.invariant.out in
    record {
      room = omega (
        arith,
        ap (λ (q : QueueValue). q.room) is,
        length-drop n old,
        length-drop c.args.count old,
        one here,
        c.requires.room,
      );
      sized =
          sized_last (λ (b : BlockValue). length b.bytes ≡ c.args.out.now.size) old c.args.count (place here) c.in-Some.block
          c.requires.sized (omega (arith, one here)) (omega (arith, one here))
          (last_is old c.loop-page.blocks.items n (place here) c.loop-page.invariant.blocks (omega arith) (one here) c.in-Some.block
          (taken here))
          ∙ sym (ap (λ (q : QueueValue). q.size) is);
    }

pub loop-page-preserved : goal.loop-page-preserved
loop-page-preserved c =
    let here = (goal.at.loop-page-preserved c).In-Some in
    let old = c.args.blocks.now.items in
    let now = c.loop-page.blocks.items in
    let n = length old + c.args.count - c.loop-page._page in
    let k = place here in
    let at : vec_len c.loop-page.blocks - 1 ≡ k = omega (arith, count here) in
    let is = c.loop-page.invariant in
    record {
      blocks = popped old now n k is.blocks (omega arith) (one here) c.pop.new.self.items
          (c.pop.ensures.rest ∙ ap (λ m. take m now) at);
      out = c.put.ensures ∙ ap (λ (q : QueueValue). record q { blocks = q.blocks ++ c.in-Some.block ∷ []; room = q.room - 1 }) is.out
          ∙ put_more c.args.out.now (drop n old) (drop k old) c.in-Some.block
          (one_more old now n k is.blocks (omega arith) (one here) c.in-Some.block (taken here))
          (omega (arith, length-drop n old, length-drop k old, one here));
      capacity = c.pop.ensures.capacity ∙ is.capacity;
    }
