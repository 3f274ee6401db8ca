-- A write in several runs of blocks: its items are lawful together.
use Rattle.std.proofs.Common.{◌≡◌, ℕ, ◌+◌, ◌-◌, ◌*◌, ◌/◌, ◌<◌, ◌≤◌, ◌⊎◌, inl, inr, Bool, true, false, cond, List, [], ◌∷◌, length, Some, arith, refl, ap, sym, ◌∙◌}
use Rattle.std.specs.Prelude.{slice_index_or}
use Rattle.std.specs.List.{range_with_len}
use Rattle.std.proofs.lemmas.Bool.{cases_lt}
use Rattle.std.proofs.lemmas.List.{length-append, get_or_append_left, get_or-append_right}
use Rattle.std.proofs.lemmas.List.FromFn.{length-range_with_len, get_or-range_with_len}
use Rattle.nv_base.specs.declared.node.Kind.TheVariants.{File}
use Rattle.nv_entry.specs.declared.item.Item.TheVariants.{Write}
use Rattle.nv_entry.specs.declared.item.BlockRun.{BlockRun}
use Rattle.nv_entry.specs.declared.node.NodeCopy.{NodeCopy}
use Rattle.nv_entry.specs.Bytes.{page_of, written}
use Rattle.nv_entry.specs.Keys.{in_run, pages_for}
use Rattle.nv_entry.specs.Node.{page_bytes}
use Rattle.nv_entry.specs.Sound.{HaveText, MakesAll, Stands, blocks_of, rewritten, write_items}
use Rattle.nv_entry.specs.Stored.{Stored, stored_after, stored_after_all}
use Rattle.nv_entry.proofs.Hiding.{run_from, run_parts}
use Rattle.nv_entry.proofs.PageBytes.{length-written, page_of-untouched, pages_for-rises, touched_end, touched_within, touches_some}
use Rattle.nv_entry.proofs.SoundLogs.{suits_file}

-- ---- what the items of a write store

abbrev after_write : ℕ → ℕ → List BlockRun → ℕ → Stored → Stored
after_write block first runs size s = stored_after_all block (write_items first runs size) s

-- kind, mode and names stay, and the size is the last one's
record KeepsOthers (old new : Stored) : Type 0 where
  kind : new.kind ≡ old.kind
  mode : new.mode ≡ old.mode
  names : new.names ≡ old.names

keeps_others : (block first : ℕ) (runs : List BlockRun) (size : ℕ) (s : Stored) → KeepsOthers s (after_write block first runs size s)
keeps_others block first [] size s = record { kind = refl; mode = refl; names = refl }
keeps_others block first (run ∷ runs) size s =
    let rest = keeps_others block (first + run.len) runs size (stored_after block (Write first run size) s) in
    record { kind = rest.kind; mode = rest.mode; names = rest.names }

size_stays : (block first : ℕ) (runs : List BlockRun) (size : ℕ) (s : Stored) → s.size ≡ size → (after_write block first runs size s).size ≡ size
size_stays block first [] size s is = is
size_stays block first (run ∷ runs) size s is =
    size_stays block (first + run.len) runs size (stored_after block (Write first run size) s) refl

size_after : (block first : ℕ) (runs : List BlockRun) (size : ℕ) (s : Stored) → 0 < length (blocks_of runs)
    → (after_write block first runs size s).size ≡ size
size_after block first [] size s some = absurd (omega arith)
size_after block first (run ∷ runs) size s some = size_stays block (first + run.len) runs size
    (stored_after block (Write first run size) s) refl

in_run-false : (first : ℕ) (run : BlockRun) (page : ℕ) → (page < first) ⊎ (first + run.len ≤ page) → in_run first run page ≡ false
in_run-false first run page apart = go (in_run first run page) refl apart where
  go : (b : Bool) → in_run first run page ≡ b → (page < first) ⊎ (first + run.len ≤ page) → b ≡ false
  go false q h = refl
  go true q (inl lt) = absurd (omega (arith, run_parts first run page q))
  go true q (inr le) = absurd (omega (arith, run_parts first run page q))

-- a page outside the runs keeps its block
block_stays : (block first : ℕ) (runs : List BlockRun) (size : ℕ) (s : Stored) (page : ℕ)
    → (page < first) ⊎ (first + length (blocks_of runs) ≤ page)
    → (after_write block first runs size s).blocks page ≡ s.blocks page
block_stays block first [] size s page apart = refl
block_stays block first (run ∷ runs) size s page apart =
    block_stays block (first + run.len) runs size (stored_after block (Write first run size) s) page (past apart)
    ∙ ap (λ (b : Bool). cond b (Some (run.start + (page - first))) (s.blocks page)) (in_run-false first run page (own apart)) where
      long : length (blocks_of (run ∷ runs)) ≡ run.len + length (blocks_of runs)
      long = length-append (range_with_len run.start run.len) (blocks_of runs)
          ∙ ap (λ (n : ℕ). n + length (blocks_of runs)) (length-range_with_len run.start run.len)

      past : (page < first) ⊎ (first + length (blocks_of (run ∷ runs)) ≤ page)
          → (page < first + run.len) ⊎ (first + run.len + length (blocks_of runs) ≤ page)
      past (inl lt) = inl (omega arith)
      past (inr le) = inr (omega (arith, long))

      own : (page < first) ⊎ (first + length (blocks_of (run ∷ runs)) ≤ page) → (page < first) ⊎ (first + run.len ≤ page)
      own (inl lt) = inl lt
      own (inr le) = inr (omega (arith, long))

-- each page of the runs has its block
block_set : (block first : ℕ) (runs : List BlockRun) (size : ℕ) (s : Stored) (page : ℕ) → first ≤ page → page < first + length (blocks_of runs)
    → first + length (blocks_of runs) ≤ 65536
    → (after_write block first runs size s).blocks page ≡ Some (slice_index_or (blocks_of runs) (page - first) 0)
block_set block first [] size s page le lt fits = absurd (omega arith)
block_set block first (run ∷ runs) size s page le lt fits =
    go (cases_lt page (first + run.len))
    (block_set block (first + run.len) runs size (stored_after block (Write first run size) s) page) where
      own : ℕ
      own = length (range_with_len run.start run.len)

      own_is : own ≡ run.len
      own_is = length-range_with_len run.start run.len

      long : length (blocks_of (run ∷ runs)) ≡ own + length (blocks_of runs)
      long = length-append (range_with_len run.start run.len) (blocks_of runs)

      go : (page < first + run.len) ⊎ (first + run.len ≤ page)
          → (first + run.len ≤ page → page < first + run.len + length (blocks_of runs) → first + run.len + length (blocks_of runs) ≤ 65536
          → (after_write block first (run ∷ runs) size s).blocks page ≡ Some (slice_index_or (blocks_of runs) (page - (first + run.len)) 0))
          → (after_write block first (run ∷ runs) size s).blocks page ≡ Some (slice_index_or (blocks_of (run ∷ runs)) (page - first) 0)
      go (inl within) behind_it =
          block_stays block (first + run.len) runs size (stored_after block (Write first run size) s) page (inl within)
          ∙ ap (λ (b : Bool). cond b (Some (run.start + (page - first))) (s.blocks page))
          (run_from first run page le within (omega (arith, long, own_is)))
          ∙ ap Some (sym (get_or_append_left (range_with_len run.start run.len) (blocks_of runs) 0 (page - first) (omega (arith, own_is))
          ∙ get_or-range_with_len run.start run.len (page - first) 0 (omega arith)))
      go (inr behind) behind_it =
          behind_it behind (omega (arith, long, own_is)) (omega (arith, long, own_is))
          ∙ ap Some (sym (get_or-append_right (range_with_len run.start run.len) (blocks_of runs) own (page - first) 0 refl
          (omega (arith, own_is))
          ∙ ap (λ (n : ℕ). slice_index_or (blocks_of runs) n 0) (omega (arith, own_is))))

-- ---- they store what the write makes of a node

module _ (bytes : ℕ → List ℕ) (block offset : ℕ) (text : List ℕ) (runs : List BlockRun) (node : NodeCopy) (some : 0 < block)
    (any : 0 < length text) (fits : offset + length text ≤ 65536 * block) (file : node.kind ≡ File)
    (has : HaveText bytes block offset text node.bytes (blocks_of runs)) (s : Stored) (st : Stands bytes block s node) where
  abbrev first : ℕ
  first = offset / block

  abbrev after : List ℕ
  after = written offset text node.bytes

  abbrev new : Stored
  new = after_write block first runs (length after) s

  -- the pages of the runs and those outside
  abbrev Inside : ℕ → Type 0
  Inside page = (first ≤ page) × (page < first + length (blocks_of runs))

  abbrev Outside : ℕ → Type 0
  Outside page = (page < first) ⊎ (first + length (blocks_of runs) ≤ page)

  side : (page : ℕ) → Inside page ⊎ Outside page
  side page = go (cases_lt page first) (cases_lt page (first + length (blocks_of runs))) where
    go : (page < first) ⊎ (first ≤ page) → (page < first + length (blocks_of runs)) ⊎ (first + length (blocks_of runs) ≤ page)
        → Inside page ⊎ Outside page
    go (inl lt) _ = inr (inl lt)
    go (inr le) (inl lt) = inl (le, lt)
    go (inr le) (inr past) = inr (inr past)

  few : first + length (blocks_of runs) ≤ 65536
  few = omega (arith, has.count, (touched_end block offset (length text) 65536 some any fits).1)

  inside : (page : ℕ) → Inside page → new.blocks page ≡ Some (slice_index_or (blocks_of runs) (page - first) 0)
  inside page p = block_set block first runs (length after) s page p.0 p.1 few

  outside : (page : ℕ) → Outside page → new.blocks page ≡ s.blocks page
  outside page apart = block_stays block first runs (length after) s page apart

  untouched : (page : ℕ) → Outside page → page_of block page after ≡ page_of block page node.bytes
  untouched page (inl lt) = page_of-untouched block offset page text node.bytes some any (inl lt)
  untouched page (inr past) = page_of-untouched block offset page text node.bytes some any (inr (omega (arith, has.count)))

  page_now : (page : ℕ) → Inside page ⊎ Outside page → page_bytes bytes block (new.blocks page) ≡ page_of block page after
  page_now page (inl p) =
      let place : first + (page - first) ≡ page = omega (arith, p) in
      ap (page_bytes bytes block) (inside page p)
      ∙ has.filled (page - first) (omega (arith, p))
      ∙ ap (λ (n : ℕ). page_of block n after) place
  page_now page (inr apart) = ap (page_bytes bytes block) (outside page apart) ∙ st.pages page ∙ sym (untouched page apart)

  grows : node.size ≤ length after
  grows = omega (arith, length-written offset text node.bytes, st.length)

  within_now : (page number : ℕ) → new.blocks page ≡ Some number → Inside page ⊎ Outside page → page < pages_for block (length after)
  within_now page number h (inl p) = omega (arith, p, has.count, touched_within block offset text node.bytes some any)
  within_now page number h (inr apart) =
      let old = st.within page number (sym (outside page apart) ∙ h) in
      omega (arith, old, pages_for-rises block node.size (length after) some grows)

  runs_stand : Stands bytes block new (rewritten offset text node)
  runs_stand =
      let kept = keeps_others block first runs (length after) s in
      record {
        kind = kept.kind ∙ st.kind;
        mode = kept.mode ∙ st.mode;
        size = size_after block first runs (length after) s (omega (arith, has.count, touches_some block offset (length text) some any));
        length = refl;
        fits = omega (arith, length-written offset text node.bytes, st.length, st.fits);
        pages = λ page. page_now page (side page);
        within = λ page number h. within_now page number h (side page);
        names = kept.names ∙ st.names;
        suits = suits_file node.kind node.size (length after) node.names file st.suits;
      }

pub runs_make : (bytes : ℕ → List ℕ) (block offset : ℕ) (text : List ℕ) (runs : List BlockRun) (node : NodeCopy) → 0 < block → 0 < length text
    → offset + length text ≤ 65536 * block → node.kind ≡ File
    → HaveText bytes block offset text node.bytes (blocks_of runs)
    → MakesAll bytes block (write_items (offset / block) runs (length (written offset text node.bytes))) (Some node)
    (Some (rewritten offset text node))
runs_make bytes block offset text runs node some any fits file has s st =
    runs_stand bytes block offset text runs node some any fits file has s st
