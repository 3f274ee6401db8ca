-- Blocks that were taken and filled are what a call needs.
use Rattle.std.proofs.Common.{◌≡◌, ℕ, zero, suc, ◌+◌, ◌/◌, ◌<◌, Bool, true, false, cond, List, [], ◌∷◌, ◌++◌, Option, length, slice_index_or, arith, refl, ap, subst, sym, ◌∙◌}
use Rattle.std.specs.List.{AllByRecursion, range_with_len}
use Rattle.std.proofs.lemmas.List.{length-append, length-map}
use Rattle.std.proofs.lemmas.List.FromFn.{get_or-map-range_with_len, length-map-range_with_len, length-range_with_len}
use Rattle.nv_alloc.specs.Block.{BlockValue, number_of, numbers_of}
use Rattle.nv_base.specs.declared.numbers.Handle.{Handle}
use Rattle.nv_entry.specs.Bytes.{page_of, pages_touched, written}
use Rattle.nv_entry.specs.Sound.{HaveText, blocks_of}
use Rattle.nv_entry.specs.declared.item.BlockRun.{BlockRun}
use Rattle.nv_entry.specs.declared.node.NodeCopy.{NodeCopy}
use Rattle.nv_calls.specs.AllCalls.{IsReady, present_in}
use Rattle.nv_calls.specs.FillPages.{filled, fresh_pages}
use Rattle.nv_calls.specs.Filled.{AreFilled, AreRead}
use Rattle.nv_calls.specs.Plan.{AreMaximal}
use Rattle.nv_calls.specs.Refusals.{bytes_of}
use Rattle.nv_calls.specs.Slots.{IsFree, InodeSlot}
use Rattle.nv_calls.specs.calls.Size.{HaveCut, IsCutPage, cuts_page}
use Rattle.nv_calls.specs.declared.call.Call.{Call}
use Rattle.nv_calls.specs.declared.call.Call.TheVariants as call
use Rattle.nv_calls.specs.declared.allocation.Allocation.{Allocation}
use Rattle.nv_calls.proofs.FillPages.{length_filled}

-- ---- runs of few blocks

some_blocks : (run : BlockRun) (runs : List BlockRun) → AreMaximal (run ∷ runs) → 0 < run.len
some_blocks run [] h = h
some_blocks run (next ∷ runs) h = h.0

long_runs : (run : BlockRun) (runs : List BlockRun) → length (blocks_of (run ∷ runs)) ≡ run.len + length (blocks_of runs)
long_runs run runs =
    length-append (range_with_len run.start run.len) (blocks_of runs)
    ∙ ap (λ (n : ℕ). n + length (blocks_of runs)) (length-range_with_len run.start run.len)

no_runs : (runs : List BlockRun) → AreMaximal runs → blocks_of runs ≡ [] → runs ≡ []
no_runs [] h is = refl
no_runs (run ∷ runs) h is = absurd (omega (arith, some_blocks run runs h, long_runs run runs, ap (λ (xs : List ℕ). length xs) is))

-- the run of one block
record IsOneRun (runs : List BlockRun) (number : ℕ) : Type 0 where
  one : BlockRun
  is : runs ≡ one ∷ []
  len : one.len ≡ 1
  start : one.start ≡ number

one_run : (runs : List BlockRun) (number : ℕ) → AreMaximal runs → blocks_of runs ≡ number ∷ [] → IsOneRun runs number
one_run [] number h is = cc
one_run (run ∷ []) number h is =
    let len : run.len ≡ 1 = omega (arith, long_runs run [], ap (λ (xs : List ℕ). length xs) is) in
    let both : run.start ∷ [] ≡ number ∷ [] = sym (ap (λ (n : ℕ). range_with_len run.start n ++ []) len) ∙ is in
    record { one = run; is = refl; len = len; start = cc }
one_run (run ∷ next ∷ runs) number h is =
    absurd (omega (
      arith,
      h.0,
      some_blocks next runs h.2,
      long_runs run (next ∷ runs),
      long_runs next runs,
      ap (λ (xs : List ℕ). length xs) is,
    ))

-- ---- blocks that were filled

filled_at : (bytes : ℕ → List ℕ) (pages : List (List ℕ)) (bs : List BlockValue) (place : ℕ) → place < length bs
    → length bs ≡ length pages → AreRead bytes (filled pages bs)
    → bytes (slice_index_or (numbers_of (filled pages bs)) place 0) ≡ slice_index_or pages place []
filled_at bytes [] [] place lt same all = absurd (omega (arith, lt))
filled_at bytes [] (b ∷ bs) place lt same all = absurd (omega (arith, same))
filled_at bytes (page ∷ pages) [] place lt same all = absurd (omega (arith, lt))
filled_at bytes (page ∷ pages) (b ∷ bs) zero lt same all = all.0
filled_at bytes (page ∷ pages) (b ∷ bs) (suc place) lt same all =
    filled_at bytes pages bs place (omega (arith, lt)) (omega (arith, same)) all.1

-- a new inode has a free slot
abbrev pub HasSlot : (ℕ → InodeSlot) → Allocation → Call → Type 0
HasSlot slots taken (call.Create dir name mode) = IsFree slots taken.made
HasSlot slots taken (call.Mkdir dir name mode) = IsFree slots taken.made
HasSlot slots taken other = Unit {0}

module _ (bytes : ℕ → List ℕ) (block : ℕ) (slots : ℕ → InodeSlot) (nodes : Handle → Option NodeCopy) (taken : Allocation) (fresh : List BlockValue)
    (read : AreRead bytes fresh) (maximal : AreMaximal taken.runs) (whole : blocks_of taken.runs ≡ numbers_of fresh) where
  abbrev Filled : Call → Type 0
  Filled c = AreFilled block nodes (present_in block slots c) c fresh

  module _ (c : Call) (f : Filled c) where
    as_before : length f.before ≡ length fresh
    as_before = sym (ap (λ (bs : List BlockValue). length bs) f.is ∙ length_filled (fresh_pages block nodes c) f.before)

    page_read : (place : ℕ) → place < length fresh → length fresh ≡ length (fresh_pages block nodes c)
        → bytes (slice_index_or (numbers_of fresh) place 0) ≡ slice_index_or (fresh_pages block nodes c) place []
    page_read place lt same =
        ap (λ (l : List BlockValue). bytes (slice_index_or (numbers_of l) place 0)) f.is
        ∙ filled_at bytes (fresh_pages block nodes c) f.before place (omega (arith, lt, as_before)) (as_before ∙ same)
        (subst (AreRead bytes) f.is read)

  write_text : (file : Handle) (offset : ℕ) (text : List ℕ) → Filled (call.Write file offset text)
      → 0 < length text → HaveText bytes block offset text (bytes_of (nodes file)) (blocks_of taken.runs)
  write_text file offset [] f some = absurd (omega (arith, some))
  write_text file offset (byte ∷ rest) f some =
      let text : List ℕ = byte ∷ rest in
      let many : ℕ = pages_touched block offset (length text) in
      let page : ℕ → List ℕ = λ p. page_of block p (written offset text (bytes_of (nodes file))) in
      let c = call.Write file offset text in
      let pages : length (fresh_pages block nodes c) ≡ many = length-map-range_with_len page (offset / block) many in
      let count : length fresh ≡ many = f.count in
      subst (HaveText bytes block offset text (bytes_of (nodes file))) (sym whole) (record {
        count = length-map fresh number_of ∙ count;
        filled = λ place lt.
            let few : place < length fresh = omega (arith, lt, length-map fresh number_of) in
            page_read c f place few (count ∙ sym pages)
            ∙ get_or-map-range_with_len page (offset / block) many place (offset / block + place) [] (omega (arith, few, count)) refl;
      })

  -- as many runs as blocks for a page that is cut, which have that page
  abbrev HasCut : ℕ → ℕ → Option NodeCopy → Bool → Type 0
  HasCut block size node b = (length taken.runs ≡ cond b 1 0) × AllByRecursion (IsCutPage bytes block size (bytes_of node)) taken.runs

  cut_of : (file : Handle) (size : ℕ) → Filled (call.Size file size)
      → HaveCut bytes block size (present_in block slots (call.Size file size)) (bytes_of (nodes file)) taken.runs
  cut_of file size f =
      let k = go (cuts_page block size (present_in block slots (call.Size file size)) (bytes_of (nodes file))) fresh refl f.count in
      record { count = k.0; filled = k.1 }
    where
      one : (b : BlockValue) → fresh ≡ b ∷ [] → HasCut block size (nodes file) true
      one b is =
          let r = one_run taken.runs b.number maximal (whole ∙ ap numbers_of is) in
          let many : length fresh ≡ 1 = ap (λ (bs : List BlockValue). length bs) is in
          let at = ap bytes r.start ∙ ap (λ (l : List BlockValue). bytes (slice_index_or (numbers_of l) 0 0)) (sym is)
          ∙ page_read (call.Size file size) f 0 (omega (arith, many)) many in (
            ap (λ (runs : List BlockRun). length runs) r.is,
            subst (AllByRecursion (IsCutPage bytes block size (bytes_of (nodes file)))) (sym r.is) ((r.len, at), tt),
          )

      none : fresh ≡ [] → HasCut block size (nodes file) false
      none is =
          let empty : taken.runs ≡ [] = no_runs taken.runs maximal (whole ∙ ap numbers_of is) in (
            ap (λ (runs : List BlockRun). length runs) empty,
            subst (AllByRecursion (IsCutPage bytes block size (bytes_of (nodes file)))) (sym empty) tt,
          )

      go : (b : Bool) (l : List BlockValue) → fresh ≡ l → length fresh ≡ cond b 1 0 → HasCut block size (nodes file) b
      go false [] is count = none is
      go true [] is count = absurd (omega (arith, count, ap (λ (bs : List BlockValue). length bs) is))
      go true (b ∷ []) is count = one b is
      go false (b ∷ l) is count = absurd (omega (arith, count, ap (λ (bs : List BlockValue). length bs) is))
      go true (b ∷ x ∷ l) is count = absurd (omega (arith, count, ap (λ (bs : List BlockValue). length bs) is))

  pub is_ready : (c : Call) → HasSlot slots taken c → Filled c → IsReady bytes block slots nodes taken c
  is_ready (call.Create dir name mode) free f = free
  is_ready (call.Mkdir dir name mode) free f = free
  is_ready (call.Write file offset text) free f = record { maximal = maximal; filled = write_text file offset text f }
  is_ready (call.Size file size) free f = cut_of file size f
  is_ready (call.Read file offset count) free f = tt
  is_ready (call.Mode handle mode) free f = tt
  is_ready (call.Stat handle) free f = tt
  is_ready (call.List dir) free f = tt
  is_ready (call.Lookup dir name) free f = tt
  is_ready (call.SnapshotOrCleaner c) free f = tt
  is_ready (call.Unlink dir name) free f = tt
  is_ready (call.Rmdir dir name) free f = tt
  is_ready (call.Rename from old to new) free f = tt
