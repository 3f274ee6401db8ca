-- A size that is not refused has a plan with its effect.
use Rattle.std.proofs.Common.{◌≡◌, ℕ, ◌+◌, ◌-◌, ◌*◌, ◌/◌, ◌<◌, ◌≤◌, ◌⊎◌, inl, inr, Bool, true, false, cond, nat_lt, List, [], ◌∷◌, ◌++◌, length, replicate, suc, Option, Some, None, arith, refl, ap, sym, ◌∙◌, subst}
use Rattle.std.specs.Prelude.{is_some, option_map}
use Rattle.std.proofs.lemmas.Bool.{ltb-false}
use Rattle.nv_base.specs.declared.fault.Fault.TheVariants as fault
use Rattle.nv_base.specs.declared.node.Kind.TheVariants.{File}
use Rattle.nv_base.specs.declared.numbers.Handle.{Handle}
use Rattle.nv_entry.specs.declared.item.Entry.{Entry}
use Rattle.nv_entry.specs.declared.item.Item.TheVariants.{Write, SetSize}
use Rattle.nv_entry.specs.declared.item.BlockRun.{BlockRun}
use Rattle.nv_entry.specs.declared.node.NodeCopy.{NodeCopy}
use Rattle.nv_entry.specs.Bytes.{page_of}
use Rattle.nv_entry.specs.Keys.{in_run, is_past, pages_for}
use Rattle.nv_entry.specs.Node.{block_now, page_bytes}
use Rattle.nv_entry.specs.Sound.{IsSound, MakesAll, Rewrites, Stands, write_items}
use Rattle.nv_entry.specs.Stored.{Stored, block_after, stored, stored_after_all}
use Rattle.nv_entry.proofs.Hiding.{run_from, run_parts}
use Rattle.nv_entry.proofs.PageBytes.{page_of-past, pages_for-most}
use Rattle.nv_entry.proofs.SoundLogs.{one_makes, suits_file}
use Rattle.nv_calls.specs.AllCalls.{present_in}
use Rattle.nv_calls.specs.declared.allocation.Allocation.{Allocation}
use Rattle.nv_calls.specs.declared.call.Call.TheVariants as call
use Rattle.nv_calls.specs.Plain.{node_in}
use Rattle.nv_calls.specs.Refusals.{bytes_of, passes, refuse_if}
use Rattle.nv_calls.specs.Slots.{IsPlan, InodeSlot, node_under}
use Rattle.nv_calls.specs.calls.Size.{HaveCut, cuts_page, resized, resized_node, size_effect, size_plan, size_refusal}
use Rattle.nv_calls.proofs.Items.{and_plan, no_plan}
use Rattle.nv_calls.proofs.Passed.{file_passed, if_passed, own_handle, there}
use Rattle.nv_calls.proofs.Standing.{stands}
use Rattle.nv_calls.proofs.Resized.{length-resized, not_cut, not_past, past_end, stays_far, stays_other}

module _ (bytes : ℕ → List ℕ) (block size : ℕ) (node : NodeCopy) (some : 0 < block) (file : node.kind ≡ File)
    (few : size ≤ 65536 * block) where
  abbrev after : List ℕ
  after = resized size node.bytes

  -- ---- the size alone

  rewrites : (present : Bool) → cuts_page block size present node.bytes ≡ false
      → (present ≡ false → page_of block (size / block) node.bytes ≡ replicate block 0) → length node.bytes ≤ 65536 * block
      → Rewrites bytes block (SetSize size) size node (resized_node size node)
  rewrites present none absent fits = record {
    file = file;
    same = refl;
    length = length-resized size node.bytes;
    fits = few;
    pages = λ page. page_now page (is_past block size page) refl;
  } where
    kept : (page : ℕ) → (page < pages_for block size) ⊎ (65536 ≤ page) → page_of block page after ≡ page_of block page node.bytes
    kept page (inl lt) = not_cut block size node.bytes some present page lt none absent
    kept page (inr far) = stays_far block size node.bytes some page few fits far

    page_now : (page : ℕ) (b : Bool) → is_past block size page ≡ b
        → page_of block page after ≡ cond b (replicate block 0) (page_of block page node.bytes)
    page_now page true q =
        sym (page_of-past block page after (omega (arith, past_end block size page some q, length-resized size node.bytes)))
    page_now page false q = kept page (not_past block size page some q)

  -- ---- with a page that is cut

  module _ (run : BlockRun) (one : run.len ≡ 1) (filled : bytes run.start ≡ page_of block (size / block) after) (s : Stored)
      (st : Stands bytes block s node) where
    abbrev new : Stored
    new = stored_after_all block (Write (size / block) run size ∷ SetSize size ∷ []) s

    abbrev wrote : ℕ → Option ℕ
    wrote page = block_after block (Write (size / block) run size) page (s.blocks page)

    fits : length node.bytes ≤ 65536 * block
    fits = omega (arith, st.length, st.fits)

    -- a page that the size leaves
    other : (page : ℕ) → in_run (size / block) run page ≡ false → (page < pages_for block size) ⊎ (65536 ≤ page)
        → page_of block page node.bytes ≡ page_of block page after
    other page out (inr far) = sym (stays_far block size node.bytes some page few fits far)
    other page out (inl lt) = sym (stays_other block size node.bytes some page lt apart) where
      apart : page ≡ size / block → ⊥
      apart e =
          let file_page : page < 65536 = omega (arith, lt, pages_for-most block size 65536 some few) in
          let within : in_run (size / block) run page ≡ true =
          run_from (size / block) run page (omega (arith, e)) (omega (arith, e, one)) file_page in
          let z : false ≡ true = sym out ∙ within in cc

    left : (page : ℕ) (b : Bool) → in_run (size / block) run page ≡ b → (page < pages_for block size) ⊎ (65536 ≤ page)
        → page_bytes bytes block (cond b (Some (run.start + (page - size / block))) (s.blocks page)) ≡ page_of block page after
    left page true q where_it =
        let p = run_parts (size / block) run page q in
        let same : page ≡ size / block = omega (arith, p, one) in
        ap bytes (omega (arith, same)) ∙ filled ∙ ap (λ (n : ℕ). page_of block n after) (sym same)
    left page false q where_it = st.pages page ∙ other page q where_it

    page_now : (page : ℕ) (b : Bool) → is_past block size page ≡ b
        → page_bytes bytes block (cond b None (wrote page)) ≡ page_of block page after
    page_now page true q = page_of-past block page after (omega (arith, past_end block size page some q, length-resized size node.bytes))
    page_now page false q = left page (in_run (size / block) run page) refl (not_past block size page some q)

    far_none : (page number : ℕ) (b : Bool) → in_run (size / block) run page ≡ b → 65536 ≤ page
        → cond b (Some (run.start + (page - size / block))) (s.blocks page) ≡ Some number → page < pages_for block size
    far_none page number true q far h = let p = run_parts (size / block) run page q in absurd (omega (arith, p))
    far_none page number false q far h =
        let below = st.within page number h in
        absurd (omega (arith, below, pages_for-most block node.size 65536 some st.fits))

    within_now : (page number : ℕ) (b : Bool) → is_past block size page ≡ b → cond b None (wrote page) ≡ Some number
        → page < pages_for block size
    within_now page number true q h = cc
    within_now page number false q h = go (not_past block size page some q) where
      go : (page < pages_for block size) ⊎ (65536 ≤ page) → page < pages_for block size
      go (inl lt) = lt
      go (inr far) = far_none page number (in_run (size / block) run page) refl far h

    cut_stands : Stands bytes block new (resized_node size node)
    cut_stands = record {
      kind = st.kind;
      mode = st.mode;
      size = refl;
      length = length-resized size node.bytes;
      fits = few;
      pages = λ page. page_now page (is_past block size page) refl;
      within = λ page number h. within_now page number (is_past block size page) refl h;
      names = st.names;
      suits = suits_file node.kind node.size size node.names file st.suits;
    }

  size_makes : (present : Bool) (runs : List BlockRun) → HaveCut bytes block size present node.bytes runs
      → (present ≡ false → page_of block (size / block) node.bytes ≡ replicate block 0)
      → MakesAll bytes block (write_items (size / block) runs size ++ SetSize size ∷ []) (Some node) (Some (resized_node size node))
  size_makes present [] has absent s st =
      one_makes bytes block (SetSize size) (Some node) (Some (resized_node size node)) some
      (rewrites present (none (cuts_page block size present node.bytes) 0 refl has.count) absent
      (omega (arith, st.length, st.fits))) s st where
        none : (b : Bool) (n : ℕ) → n ≡ 0 → n ≡ cond b 1 0 → b ≡ false
        none true n z h = absurd (omega arith)
        none false n z h = refl
  size_makes present (run ∷ []) has absent s st = cut_stands run has.filled.0.0 has.filled.0.1 s st
  size_makes present (run ∷ next ∷ runs) has absent s st =
      absurd (most (cuts_page block size present node.bytes) (length runs) has.count) where
        most : (b : Bool) (n : ℕ) → suc (suc n) ≡ cond b 1 0 → ⊥
        most true n h = absurd (omega arith)
        most false n h = absurd (omega arith)

some_items : (first : ℕ) (runs : List BlockRun) (size : ℕ) → 0 < length (write_items first runs size ++ SetSize size ∷ [])
some_items first [] size = omega arith
some_items first (run ∷ runs) size = omega arith

-- a page that is absent has zeros
absent_page : (bytes : ℕ → List ℕ) (block page : ℕ) (log : List Entry) (node : NodeCopy) (present : Bool)
    → Stands bytes block (stored block log) node → present ≡ is_some (block_now block log page) → present ≡ false
    → page_of block page node.bytes ≡ replicate block 0
absent_page bytes block page log node present st told missing =
    sym (st.pages page) ∙ none (block_now block log page) (sym told ∙ missing) where
      none : (b : Option ℕ) → is_some b ≡ false → page_bytes bytes block b ≡ replicate block 0
      none None h = refl
      none (Some number) h = cc

pub size_fits : (bytes : ℕ → List ℕ) (block : ℕ) (slots : ℕ → InodeSlot) (file : Handle) (size : ℕ) (taken : Allocation)
    → 0 < block → IsSound bytes block (slots file.ino).log
    → size_refusal block (node_in (node_under bytes block slots)) file size ≡ passes
    → HaveCut bytes block size (present_in block slots (call.Size file size)) (bytes_of (node_in (node_under bytes block slots) file))
    taken.runs
    → IsPlan bytes block slots (size_plan block file size taken.runs) (size_effect file size)
size_fits bytes block slots file size taken some sound passed has =
    let runs : List BlockRun = taken.runs in
    let found : Option NodeCopy = node_in (node_under bytes block slots) file in
    let f = file_passed found (refuse_if (nat_lt (65536 * block) size) fault.FileTooBig passes) passed in
    let few = ltb-false (65536 * block) size (if_passed (nat_lt (65536 * block) size) fault.FileTooBig passes f.1).0 in
    let present : Bool = present_in block slots (call.Size file size) in
    let ready = subst (λ (o : Option NodeCopy). HaveCut bytes block size present (bytes_of o) runs) f.0.is has in
    let own = own_handle bytes block slots file (there File found f.0) in
    let st = stands bytes block slots file (there File found f.0) sound in
    let absent = absent_page bytes block (size / block) (slots file.ino).log f.0.node present st refl in
    and_plan bytes block slots some file (write_items (size / block) runs size ++ SetSize size ∷ []) (option_map (resized_node size)) [] []
    (some_items (size / block) runs size) own
    (subst (λ (o : Option NodeCopy). MakesAll bytes block (write_items (size / block) runs size ++ SetSize size ∷ []) o
    (option_map (resized_node size) o))
    (sym f.0.is) (size_makes bytes block size f.0.node some f.0.kind_is few present runs ready absent))
    (no_plan bytes block slots some)
