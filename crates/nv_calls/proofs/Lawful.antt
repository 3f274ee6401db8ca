-- The items of a plan are such that the logs can take them.
use Rattle.std.proofs.Common.{◌≡◌, ℕ, ◌+◌, ◌*◌, ◌/◌, ◌<◌, ◌≤◌, ◌&&◌, nat_lt, Bool, true, false, cond, List, [], ◌∷◌, ◌++◌, length, suc, Option, Some, None, arith, refl, ap, sym, ◌∙◌, subst}
use Rattle.std.specs.Prelude.{IsTrue}
use Rattle.std.specs.List.{AllByRecursion, range_with_len}
use Rattle.std.proofs.lemmas.Bool.{ltb-false}
use Rattle.std.proofs.lemmas.List.{append-nil, length-append}
use Rattle.std.proofs.lemmas.List.FromFn.{length-range_with_len}
use Rattle.nv_base.specs.Names.{is_lawful_name, same_name}
use Rattle.nv_base.specs.declared.fault.Fault.TheVariants as fault
use Rattle.nv_base.specs.declared.node.Kind.{Kind}
use Rattle.nv_base.specs.declared.node.Kind.TheVariants.{File, Dir}
use Rattle.nv_base.specs.declared.numbers.Handle.{Handle}
use Rattle.nv_entry.specs.declared.item.Item.{Item}
use Rattle.nv_entry.specs.declared.item.Item.TheVariants.{Init, Write, SetSize, SetMode, Bind, Unbind, Gone}
use Rattle.nv_entry.specs.declared.item.BlockRun.{BlockRun}
use Rattle.nv_entry.specs.declared.node.NodeCopy.{NodeCopy}
use Rattle.nv_entry.specs.Bytes.{written}
use Rattle.nv_entry.specs.Sound.{IsSound, blocks_of, write_items}
use Rattle.nv_entry.proofs.PageBytes.{length-written}
use Rattle.nv_cell.specs.Effects.{BindOne, LeavesName}
use Rattle.nv_calls.specs.AllCalls.{IsReady, plan, present_in, refusal}
use Rattle.nv_calls.specs.declared.allocation.Allocation.{Allocation}
use Rattle.nv_entry.specs.Shape.{AreLawful}
use Rattle.nv_calls.specs.Lawful.{IsLawfulFor, IsLawfulPlan}
use Rattle.nv_calls.specs.declared.call.Call.{Call}
use Rattle.nv_calls.specs.declared.call.Call.TheVariants as call
use Rattle.nv_calls.specs.declared.plan.InodePlan.{InodePlan}
use Rattle.nv_calls.specs.Plain.{node_in, same_handle}
use Rattle.nv_calls.specs.Plan.{AreMaximal, planned}
use Rattle.nv_calls.specs.Refusals.{Check, bytes_of, found, kind_of, passes, refuse_if, want_bound}
use Rattle.nv_calls.specs.Slots.{IsFree, InodeSlot, node_under}
use Rattle.nv_calls.specs.calls.Create.{begin_plan, create_refusal}
use Rattle.nv_calls.specs.calls.Lookup.{lookup_refusal}
use Rattle.nv_calls.specs.calls.Rename.{bound_plan, move_plan, moved_refusal, own_place, pass_if, replaced_plan, replaced_refusal}
use Rattle.nv_calls.specs.calls.Size.{IsCutPage, cuts_page}
use Rattle.nv_calls.specs.calls.Unlink.{leave_plan}
use Rattle.nv_calls.specs.calls.Write.{text_refusal}
use Rattle.nv_calls.proofs.Passed.{HasKind, IsThere, both_passed, directory_passed, elsewhere, file_passed, if_passed, lawful_passed, look_passed, moved_passed, names_passed, node_passed, there}
use Rattle.nv_calls.proofs.Standing.{no_node, stands}
use Rattle.nv_calls.proofs.Within.{count_passed, cut_within, touched_within}

-- ---- items of writes

-- each run has a block
abbrev pub HaveBlocks : List BlockRun → Type 0
HaveBlocks runs = AllByRecursion (λ (run : BlockRun). 0 < run.len) runs

pub have_blocks : (runs : List BlockRun) → AreMaximal runs → HaveBlocks runs
have_blocks [] h = tt
have_blocks (run ∷ []) h = (h, tt)
have_blocks (run ∷ next ∷ runs) h = (h.0, have_blocks (next ∷ runs) h.2)

pub count-cons : (run : BlockRun) (runs : List BlockRun) → length (blocks_of (run ∷ runs)) ≡ run.len + length (blocks_of runs)
count-cons run runs =
    length-append (range_with_len run.start run.len) (blocks_of runs)
    ∙ ap (λ (n : ℕ). n + length (blocks_of runs)) (length-range_with_len run.start run.len)

module _ (block size : ℕ) (few : size ≤ 65536 * block) (tail : List Item) (last : AreLawful block tail (Some File)) where
  writes_lawful : (first : ℕ) (runs : List BlockRun) → HaveBlocks runs → first + length (blocks_of runs) ≤ 65536
      → AreLawful block (write_items first runs size ++ tail) (Some File)
  writes_lawful first [] some fits = last
  writes_lawful first (run ∷ runs) some fits = (
    (some.0, omega (arith, count-cons run runs, fits), few),
    writes_lawful (first + run.len) runs some.1 (omega (arith, count-cons run runs, fits)),
  )

-- as many items as runs, and no more runs than blocks
pub one_item_a_run : (first size : ℕ) (runs : List BlockRun) → length (write_items first runs size) ≡ length runs
one_item_a_run first size [] = refl
one_item_a_run first size (run ∷ runs) = omega (arith, one_item_a_run (first + run.len) size runs)

pub few_runs : (runs : List BlockRun) → HaveBlocks runs → length runs ≤ length (blocks_of runs)
few_runs [] some = omega arith
few_runs (run ∷ runs) some = omega (arith, count-cons run runs, few_runs runs some.1, some.0)

-- writes and a size bind no name
leave_all : (item : Item) (first size : ℕ) (runs : List BlockRun) (tail : List Item) → AllByRecursion (LeavesName item) tail
    → AllByRecursion (LeavesName item) (write_items first runs size ++ tail)
leave_all item first size [] tail last = last
leave_all item first size (run ∷ runs) tail last = (tt, leave_all item (first + run.len) size runs tail last)

pub writes_bind_none : (first size : ℕ) (runs : List BlockRun) (tail : List Item) → ((item : Item) → AllByRecursion (LeavesName item) tail)
    → BindOne tail → BindOne (write_items first runs size ++ tail)
writes_bind_none first size [] tail each last = last
writes_bind_none first size (run ∷ runs) tail each last = (
  leave_all (Write first run size) (first + run.len) size runs tail (each (Write first run size)),
  writes_bind_none (first + run.len) size runs tail each last,
)

-- ---- kinds

kind_there : (kind : Kind) (found : Option NodeCopy) → HasKind kind found → kind_of found ≡ Some kind
kind_there kind found h = ap kind_of h.is ∙ ap Some h.kind_is

some_kind : (found : Option NodeCopy) (h : IsThere found) → kind_of found ≡ Some h.node.kind
some_kind found h = ap kind_of h.is

module _ (bytes : ℕ → List ℕ) (block : ℕ) (slots : ℕ → InodeSlot) (some : 0 < block) (taken : Allocation)
    (sound : (ino : ℕ) → IsSound bytes block (slots ino).log) where
  abbrev nodes : Handle → Option NodeCopy
  nodes = node_in (node_under bytes block slots)

  abbrev IsGood : InodePlan → Type 0
  IsGood p = IsLawfulFor block nodes p

  abbrev AllGood : List InodePlan → Type 0
  AllGood plan = IsLawfulPlan block nodes plan

  -- items that are lawful for a kind, for a node of that kind
  good : (handle : Handle) (items : List Item) (kind : Option Kind) → kind_of (nodes handle) ≡ kind → AreLawful block items kind
      → BindOne items → length items ≤ 1024 → IsGood (planned handle items)
  good handle items kind is lawful one few = record { lawful = subst (AreLawful block items) (sym is) lawful; one = one; few = few }

  bind_good : (dir : Handle) (name : List ℕ) (to : Handle) → HasKind Dir (nodes dir) → IsTrue (is_lawful_name name)
      → IsGood (planned dir (Bind name to ∷ []))
  bind_good dir name to d lawful =
      good dir (Bind name to ∷ []) (Some Dir) (kind_there Dir (nodes dir) d) (lawful, tt) (tt, tt) (omega arith)

  unbind_good : (dir : Handle) (name : List ℕ) → HasKind Dir (nodes dir) → IsTrue (is_lawful_name name)
      → IsGood (planned dir (Unbind name ∷ []))
  unbind_good dir name d lawful = good dir (Unbind name ∷ []) (Some Dir) (kind_there Dir (nodes dir) d) (lawful, tt) (tt, tt) (omega arith)

  gone_good : (handle : Handle) → IsThere (nodes handle) → IsGood (planned handle (Gone ∷ []))
  gone_good handle h = good handle (Gone ∷ []) (Some h.node.kind) (some_kind (nodes handle) h) (tt, tt) (tt, tt) (omega arith)

  -- both names of one directory, which differ
  move_good : (dir : Handle) (old new : List ℕ) (to : Handle) → HasKind Dir (nodes dir) → IsTrue (is_lawful_name old)
      → IsTrue (is_lawful_name new) → same_name old new ≡ false → IsGood (planned dir (Unbind old ∷ Bind new to ∷ []))
  move_good dir old new to d o n differ =
      good dir (Unbind old ∷ Bind new to ∷ []) (Some Dir) (kind_there Dir (nodes dir) d) (o, (n, tt))
      ((rw differ refl, tt), (tt, tt)) (omega arith)

  -- ---- calls

  create_good : (kind : Kind) (dir : Handle) (name : List ℕ) (mode : ℕ) → create_refusal nodes dir name ≡ passes → IsFree slots taken.made
      → AllGood (begin_plan kind dir name mode taken.made)
  create_good kind dir name mode h free =
      let d = directory_passed (nodes dir) _ h in (
        bind_good dir name taken.made d.0 (lawful_passed name _ d.1).0,
        (
          good taken.made (Init kind mode ∷ []) None (ap kind_of (no_node bytes block slots taken.made free)) (tt, tt) (tt, tt)
              (omega arith),
          tt,
        ),
      )

  -- the size of a file
  size_within : (file : Handle) (f : HasKind File (nodes file)) → length f.node.bytes ≤ 65536 * block
  size_within file f =
      let st = stands bytes block slots file (there File (nodes file) f) (sound file.ino) in omega (arith, st.length, st.fits)

  write_good : (file : Handle) (offset : ℕ) (text : List ℕ) → refusal block nodes (call.Write file offset text) ≡ passes
      → IsReady bytes block slots nodes taken (call.Write file offset text) → AllGood (plan block nodes taken (call.Write file offset text))
  write_good file offset [] h r = tt
  write_good file offset (byte ∷ rest) h r = (
    good file items (Some File) (kind_there File (nodes file) f.0)
        (subst (λ (xs : List Item). AreLawful block xs (Some File)) (append-nil items)
        (writes_lawful block size few [] tt (offset / block) taken.runs (have_blocks taken.runs r.maximal) fits))
        (subst BindOne (append-nil items) (writes_bind_none (offset / block) size taken.runs [] (λ item. tt) tt)) short,
    tt,
  ) where
    text : List ℕ
    text = byte ∷ rest

    f : HasKind File (nodes file) × (text_refusal block offset text ≡ passes)
    f = file_passed (nodes file) (text_refusal block offset text) h

    size : ℕ
    size = length (written offset text (bytes_of (nodes file)))

    items : List Item
    items = write_items (offset / block) taken.runs size

    ends : offset + length text ≤ 65536 * block
    ends = (count_passed block offset (length text) f.1).1

    few : size ≤ 65536 * block
    few =
        let before : length (bytes_of (nodes file)) ≡ length f.0.node.bytes = ap (λ (n : Option NodeCopy). length (bytes_of n)) f.0.is in
        omega (arith, before, size_within file f.0, ends, length-written offset text (bytes_of (nodes file)))

    short : length items ≤ 1024
    short =
        let each = few_runs taken.runs (have_blocks taken.runs r.maximal) in
        omega (
          arith,
          one_item_a_run (offset / block) size taken.runs,
          each,
          (r.filled (omega arith)).count,
          (count_passed block offset (length text) f.1).0,
        )

    fits : offset / block + length (blocks_of taken.runs) ≤ 65536
    fits = omega (arith, (r.filled (omega arith)).count, touched_within block offset (length text) some (omega arith) ends)

  size_good : (file : Handle) (size : ℕ) → refusal block nodes (call.Size file size) ≡ passes
      → IsReady bytes block slots nodes taken (call.Size file size) → AllGood (plan block nodes taken (call.Size file size))
  size_good file size h r = (
    good file (write_items (size / block) taken.runs size ++ SetSize size ∷ []) (Some File) (kind_there File (nodes file) f.0)
        (lawful taken.runs r.filled r.count)
        (writes_bind_none (size / block) size taken.runs (SetSize size ∷ []) (λ item. (tt, tt)) (tt, tt))
        (short (cuts_page block size present before) r.count),
    tt,
  ) where
    f : HasKind File (nodes file) × (refuse_if (nat_lt (65536 * block) size) fault.FileTooBig passes ≡ passes)
    f = file_passed (nodes file) (refuse_if (nat_lt (65536 * block) size) fault.FileTooBig passes) h

    few : size ≤ 65536 * block
    few = ltb-false (65536 * block) size (if_passed (nat_lt (65536 * block) size) fault.FileTooBig passes f.1).0

    before : List ℕ
    before = bytes_of (nodes file)

    present : Bool
    present = present_in block slots (call.Size file size)

    short : (b : Bool) → length taken.runs ≡ cond b 1 0 → length (write_items (size / block) taken.runs size ++ SetSize size ∷ []) ≤ 1024
    short b is =
        let items : List Item = write_items (size / block) taken.runs size in
        omega (arith, length-append items (SetSize size ∷ []), one_item_a_run (size / block) size taken.runs, most b is) where
          most : (b : Bool) → length taken.runs ≡ cond b 1 0 → length taken.runs ≤ 1
          most true h = omega arith
          most false h = omega arith

    lawful : (runs : List BlockRun) → AllByRecursion (IsCutPage bytes block size before) runs
        → length runs ≡ cond (cuts_page block size present before) 1 0
        → AreLawful block (write_items (size / block) runs size ++ SetSize size ∷ []) (Some File)
    lawful [] filled count = (few, tt)
    lawful (run ∷ []) filled count =
        let within = cut_within block size present before 1 some few count in
        ((omega (arith, filled.0.0), omega (arith, filled.0.0, within), few), (few, tt))
    lawful (run ∷ next ∷ runs) filled count = absurd (most (cuts_page block size present before) (length runs) count) where
      most : (b : Bool) (n : ℕ) → suc (suc n) ≡ cond b 1 0 → ⊥
      most true n h = absurd (omega arith)
      most false n h = absurd (omega arith)

  leave_good : (dir : Handle) (name : List ℕ) (bound : Option Handle) (next : Handle → Check) → HasKind Dir (nodes dir)
      → IsTrue (is_lawful_name name) → ((to : Handle) → next to ≡ passes → IsThere (nodes to)) → want_bound bound next ≡ passes
      → AllGood (leave_plan dir name bound)
  leave_good dir name None next d lawful is_there h = tt
  leave_good dir name (Some to) next d lawful is_there h = (unbind_good dir name d lawful, (gone_good to (is_there to h), tt))

  module _ (from : Handle) (old : List ℕ) (to : Handle) (new : List ℕ) (f : HasKind Dir (nodes from)) (t : HasKind Dir (nodes to))
      (o : IsTrue (is_lawful_name old)) (n : IsTrue (is_lawful_name new)) where
    replaced_good : (moved : Option Kind) (other : Option Handle) → replaced_refusal nodes moved other ≡ passes
        → AllGood (replaced_plan other)
    replaced_good moved None h = tt
    replaced_good moved (Some other) h = (gone_good other (node_passed (nodes other) _ h).0, tt)

    other_name : (same : Bool) → same ≡ true → (same && same_name old new) ≡ false → same_name old new ≡ false
    other_name true q h = h
    other_name false q h = cc

    moves_good : (same : Bool) (moved : Handle) (rest : List InodePlan) → same_handle from to ≡ same → own_place from old to new ≡ false
        → AllGood rest → AllGood (move_plan same from old to new moved rest)
    moves_good true moved rest is differ all = (move_good from old new moved f o n (other_name (same_handle from to) is differ), all)
    moves_good false moved rest is differ all = (unbind_good from old f o, (bind_good to new moved t n, all))

    bound_good : (own : Bool) (bound other : Option Handle) → own_place from old to new ≡ own
        → want_bound bound (λ moved. pass_if (own_place from old to new) (moved_refusal nodes from to other moved)) ≡ passes
        → AllGood (cond own [] (bound_plan from old to new bound other))
    bound_good true bound other is h = tt
    bound_good false None other is h = tt
    bound_good false (Some moved) other is h =
        let last =
        elsewhere (own_place from old to new) (moved_refusal nodes from to other moved) is h in
        let m = moved_passed block nodes from old to new moved other last in
        moves_good (same_handle from to) moved (replaced_plan other) refl is (replaced_good (kind_of (nodes moved)) other m.1)

  pub plan_good : (c : Call) → refusal block nodes c ≡ passes → IsReady bytes block slots nodes taken c → AllGood (plan block nodes taken c)
  plan_good (call.Create dir name mode) h r = create_good File dir name mode h r
  plan_good (call.Mkdir dir name mode) h r = create_good Dir dir name mode h r
  plan_good (call.Write file offset text) h r = write_good file offset text h r
  plan_good (call.Read file offset count) h r = tt
  plan_good (call.Size file size) h r = size_good file size h r
  plan_good (call.Mode handle mode) h r =
      let m = (node_passed (nodes handle) passes h).0 in
      (good handle (SetMode mode ∷ []) (Some m.node.kind) (some_kind (nodes handle) m) (tt, tt) (tt, tt) (omega arith), tt)
  plan_good (call.Stat handle) h r = tt
  plan_good (call.List dir) h r = tt
  plan_good (call.Lookup dir name) h r = tt
  plan_good (call.SnapshotOrCleaner c) h r = tt
  plan_good (call.Unlink dir name) h r =
      let both = both_passed (lookup_refusal nodes dir name) _ h in
      let d = look_passed nodes dir name both.0 in
      leave_good dir name (found nodes dir name) _ d.0 d.1 (λ to h. there File (nodes to) (file_passed (nodes to) passes h).0) both.1
  plan_good (call.Rmdir dir name) h r =
      let both = both_passed (lookup_refusal nodes dir name) _ h in
      let d = look_passed nodes dir name both.0 in
      leave_good dir name (found nodes dir name) _ d.0 d.1 (λ to h. there Dir (nodes to) (directory_passed (nodes to) _ h).0) both.1
  plan_good (call.Rename from old to new) h r =
      let names = names_passed block nodes from old to new h in
      bound_good from old to new names.0 names.1 names.2 names.3 (own_place from old to new) (found nodes from old) (found nodes to new)
      refl names.4
