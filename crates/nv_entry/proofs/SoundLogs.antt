-- Sound logs: what is stored is the node that the log gives, and lawful items keep it so.
use Rattle.std.proofs.Common.{◌≡◌, ℕ, ◌+◌, ◌-◌, ◌<◌, ◌≤◌, ◌⊎◌, inl, inr, Bool, true, false, cond, ◌&&◌, nat_le, List, [], ◌∷◌, ◌++◌, length, map, take, replicate, Option, Some, None, arith, refl, ap, ap₂, sym, ◌∙◌, subst}
use Rattle.std.specs.Prelude.{option_and_then}
use Rattle.std.specs.List.{flat_map, range_with_len}
use Rattle.std.proofs.Math.Path.{fun_ext}
use Rattle.std.proofs.lemmas.Bool.{leb-false, lt-ltb}
use Rattle.nv_base.specs.declared.node.Kind.{Kind}
use Rattle.nv_base.specs.declared.node.Kind.TheVariants.{File, Dir}
use Rattle.nv_entry.specs.declared.item.Entry.{Entry}
use Rattle.nv_entry.specs.declared.item.Item.{Item}
use Rattle.nv_entry.specs.declared.item.BlockRun.{BlockRun}
use Rattle.nv_entry.specs.declared.item.Item.TheVariants.{Init, Write, SetSize, SetMode, Bind, Unbind, Gone}
use Rattle.nv_entry.specs.declared.key.Datum.{Datum}
use Rattle.nv_entry.specs.declared.key.Datum.TheVariants as datum
use Rattle.nv_entry.specs.declared.key.Setting.TheVariants.{Untouched, Absent, Present}
use Rattle.nv_entry.specs.declared.names.BoundName.{BoundName}
use Rattle.nv_entry.specs.declared.node.NodeCopy.{NodeCopy}
use Rattle.nv_entry.specs.Blocks.{IsItemBlock, Uses}
use Rattle.nv_entry.specs.Bytes.{page_of}
use Rattle.nv_entry.specs.Data.{block_in}
use Rattle.nv_entry.specs.Index.{names_of, with_last, without}
use Rattle.nv_entry.specs.Keys.{KindKey, PageKey, in_run, is_page, is_past, pages_for, sets}
use Rattle.nv_entry.specs.Laws.{value_after}
use Rattle.nv_entry.specs.Log.{value_now}
use Rattle.nv_entry.specs.Node.{block_now, file_bytes, mode_now, node_now, node_of_kind, page_bytes, pages_bytes, size_now}
use Rattle.nv_entry.specs.Sound.{Gives, IsSound, Makes, MakesAll, Rewrites, Stands, SuitsKind, Tied, empty_node, page_after}
use Rattle.nv_entry.specs.Stored.{Stored, block_after, kind_in, nothing, stored, stored_after}
use Rattle.nv_entry.proofs.Hiding.{run_parts}
use Rattle.nv_entry.proofs.PageBytes.{joined_pages, page_of-past, pages_for-most}
use Rattle.nv_entry.proofs.StoredItems.{stored-append, stored-push}
use Rattle.nv_entry.proofs.Values.{value_now-push}

-- ---- what is stored is the node

flat_map-same : (f g : ℕ → List ℕ) (xs : List ℕ) → ((k : ℕ) → f k ≡ g k) → flat_map f xs ≡ flat_map g xs
flat_map-same f g [] same = refl
flat_map-same f g (x ∷ xs) same = ap₂ (λ (ys zs : List ℕ). ys ++ zs) (same x) (flat_map-same f g xs same)

pub stands-bytes : (bytes : ℕ → List ℕ) (block : ℕ) (log : List Entry) (node : NodeCopy) → 0 < block
    → Stands bytes block (stored block log) node → file_bytes bytes block log ≡ node.bytes
stands-bytes bytes block log node some st =
    ap (λ (size : ℕ). take size (pages_bytes bytes block log (pages_for block size))) (st.size ∙ sym st.length)
    ∙ ap (take (length node.bytes))
    (flat_map-same (λ (page : ℕ). page_bytes bytes block (block_now block log page)) (λ (page : ℕ). page_of block page node.bytes)
    (range_with_len 0 (pages_for block (length node.bytes))) st.pages)
    ∙ joined_pages block node.bytes some

abbrev node_with : Kind → ℕ → ℕ → List ℕ → List BoundName → NodeCopy
node_with kind mode size bytes names = record { kind = kind; mode = mode; size = size; bytes = bytes; names = names }

node_by : (v : Option Datum) (bytes : ℕ → List ℕ) (block : ℕ) (log : List Entry) (node : NodeCopy)
    → option_and_then kind_in v ≡ Some node.kind → mode_now block log ≡ node.mode → size_now block log ≡ node.size
    → file_bytes bytes block log ≡ node.bytes → names_of log ≡ node.names → node_of_kind v bytes block log ≡ Some node
node_by None bytes block log node k m s b n = cc
node_by (Some (datum.Kind kind)) bytes block log node k m s b n =
    let same : kind ≡ node.kind = cc in
    ap₂ (λ (x : Kind) (y : ℕ). Some (node_with x y (size_now block log) (file_bytes bytes block log) (names_of log))) same m
    ∙ ap₂ (λ (x : ℕ) (y : List ℕ). Some (node_with node.kind node.mode x y (names_of log))) s b
    ∙ ap (λ (x : List BoundName). Some (node_with node.kind node.mode node.size node.bytes x)) n
node_by (Some (datum.Mode x)) bytes block log node k m s b n = cc
node_by (Some (datum.Size x)) bytes block log node k m s b n = cc
node_by (Some (datum.Node x)) bytes block log node k m s b n = cc
node_by (Some (datum.Block x)) bytes block log node k m s b n = cc

no_node_by : (v : Option Datum) (bytes : ℕ → List ℕ) (block : ℕ) (log : List Entry) → option_and_then kind_in v ≡ None
    → node_of_kind v bytes block log ≡ None
no_node_by None bytes block log k = refl
no_node_by (Some (datum.Kind kind)) bytes block log k = cc
no_node_by (Some (datum.Mode x)) bytes block log k = refl
no_node_by (Some (datum.Size x)) bytes block log k = refl
no_node_by (Some (datum.Node x)) bytes block log k = refl
no_node_by (Some (datum.Block x)) bytes block log k = refl

tied_now : (bytes : ℕ → List ℕ) (block : ℕ) (log : List Entry) (node : Option NodeCopy) → 0 < block
    → Tied bytes block (stored block log) node → node_now bytes block log ≡ node
tied_now bytes block log None some t = no_node_by (value_now block log KindKey) bytes block log (ap (λ (s : Stored). s.kind) t)
tied_now bytes block log (Some node) some t = node_by (value_now block log KindKey) bytes block log node t.kind t.mode t.size
    (stands-bytes bytes block log node some t) t.names

pub gives : (bytes : ℕ → List ℕ) (block : ℕ) (log : List Entry) (node : Option NodeCopy) → 0 < block
    → Tied bytes block (stored block log) node → Gives bytes block log node
gives bytes block log node some t =
    let e = tied_now bytes block log node some t in
    record { is = e; sound = subst (Tied bytes block (stored block log)) (sym e) t }

-- ---- pages below the size

cut_page : (bytes : ℕ → List ℕ) (block : ℕ) (b : Bool) (o : Option ℕ)
    → page_bytes bytes block (cond b None o) ≡ cond b (replicate block 0) (page_bytes bytes block o)
cut_page bytes block true o = refl
cut_page bytes block false o = refl

set_page : (bytes : ℕ → List ℕ) (block number : ℕ) (b : Bool) (o : Option ℕ)
    → page_bytes bytes block (cond b (Some number) o) ≡ cond b (bytes number) (page_bytes bytes block o)
set_page bytes block number true o = refl
set_page bytes block number false o = refl

-- a page that is present is one that a file can have
is_present_page : (bytes : ℕ → List ℕ) (block : ℕ) (s : Stored) (node : NodeCopy) (page number : ℕ) → 0 < block
    → Stands bytes block s node → s.blocks page ≡ Some number → is_page page ≡ true
is_present_page bytes block s node page number some st h =
    let below = st.within page number h in
    let few = pages_for-most block node.size 65536 some st.fits in
    lt-ltb page 65536 (omega arith)

write_within : (bytes : ℕ → List ℕ) (block first : ℕ) (run : BlockRun) (size : ℕ) (s : Stored) (node : NodeCopy) (page number : ℕ) → 0 < block
    → Stands bytes block s node → first + run.len ≤ pages_for block size → pages_for block node.size ≤ pages_for block size
    → block_after block (Write first run size) page (s.blocks page) ≡ Some number → page < pages_for block size
write_within bytes block first run size s node page number some st below old h = go (in_run first run page) refl h where
  go : (b : Bool) → in_run first run page ≡ b → cond b (Some (run.start + (page - first))) (s.blocks page) ≡ Some number
      → page < pages_for block size
  go true q h = omega (arith, run_parts first run page q)
  go false q h = let was = st.within page number h in omega (arith, was, old)

cut_within : (bytes : ℕ → List ℕ) (block size : ℕ) (s : Stored) (node : NodeCopy) (page number : ℕ) → 0 < block
    → Stands bytes block s node → block_after block (SetSize size) page (s.blocks page) ≡ Some number → page < pages_for block size
cut_within bytes block size s node page number some st h = go (nat_le (pages_for block size) page) refl h where
  go : (b : Bool) → nat_le (pages_for block size) page ≡ b → cond (b && is_page page) None (s.blocks page) ≡ Some number
      → page < pages_for block size
  go false q h = leb-false (pages_for block size) page q
  go true q h = past (is_page page) refl h where
    past : (b : Bool) → is_page page ≡ b → cond b None (s.blocks page) ≡ Some number → page < pages_for block size
    past true p h = cc
    past false p h = let z : false ≡ true = sym p ∙ is_present_page bytes block s node page number some st h in cc

-- ---- lawful items

pub suits_file : (kind : Kind) (size other : ℕ) (names : List BoundName) → kind ≡ File → SuitsKind kind size names
    → SuitsKind kind other names
suits_file File size other names is h = h
suits_file Dir size other names is h = cc

suits_dir : (kind : Kind) (size : ℕ) (names other : List BoundName) → kind ≡ Dir → SuitsKind kind size names → SuitsKind kind size other
suits_dir File size names other is h = cc
suits_dir Dir size names other is h = h

suits_empty : (kind : Kind) → SuitsKind kind 0 []
suits_empty File = refl
suits_empty Dir = refl

rewrites_stand : (bytes : ℕ → List ℕ) (block : ℕ) (item : Item) (size : ℕ) (s : Stored) (node after : NodeCopy)
    → Stands bytes block s node → Rewrites bytes block item size node after
    → ((page : ℕ) → page_bytes bytes block (block_after block item page (s.blocks page))
    ≡ page_after bytes block item page (page_bytes bytes block (s.blocks page)))
    → ((page number : ℕ) → block_after block item page (s.blocks page) ≡ Some number → page < pages_for block size)
    → Stands bytes block (record s { size = size; blocks = λ page. block_after block item page (s.blocks page) }) after
rewrites_stand bytes block item size s node after st r paged within =
    subst (Stands bytes block (record s { size = size; blocks = λ page. block_after block item page (s.blocks page) })) (sym r.same)
    (record {
      kind = st.kind;
      mode = st.mode;
      size = refl;
      length = r.length;
      fits = r.fits;
      pages = λ page. paged page ∙ ap (page_after bytes block item page) (st.pages page) ∙ sym (r.pages page);
      within = within;
      names = st.names;
      suits = suits_file node.kind node.size size node.names r.file st.suits;
    })

gone_blocks : (bytes : ℕ → List ℕ) (block : ℕ) (s : Stored) (node : NodeCopy) (page : ℕ) → 0 < block → Stands bytes block s node
    → cond (is_page page) None (s.blocks page) ≡ None
gone_blocks bytes block s node page some st = go (is_page page) (s.blocks page) refl refl where
  go : (b : Bool) (o : Option ℕ) → is_page page ≡ b → s.blocks page ≡ o → cond b None o ≡ None
  go true o q h = refl
  go false None q h = refl
  go false (Some number) q h = let z : false ≡ true = sym q ∙ is_present_page bytes block s node page number some st h in cc

renamed : (bytes : ℕ → List ℕ) (block : ℕ) (s : Stored) (node : NodeCopy) (names after : List BoundName) → node.kind ≡ Dir
    → Stands bytes block s node → after ≡ names
    → Stands bytes block (record s { names = after }) (record node { names = names })
renamed bytes block s node names after dir t same = record {
  kind = t.kind;
  mode = t.mode;
  size = t.size;
  length = t.length;
  fits = t.fits;
  pages = t.pages;
  within = t.within;
  names = same;
  suits = suits_dir node.kind node.size node.names names dir t.suits;
}

tied_after : (bytes : ℕ → List ℕ) (block : ℕ) (item : Item) (s : Stored) (before after : Option NodeCopy) → 0 < block
    → Tied bytes block s before → Makes bytes block item before after → Tied bytes block (stored_after block item s) after
tied_after bytes block (Init kind mode) s None (Some after) some t m =
    subst (λ (n : NodeCopy). Stands bytes block (stored_after block (Init kind mode) s) n) (sym m)
    (subst (λ (x : Stored). Stands bytes block (stored_after block (Init kind mode) x) (empty_node kind mode)) (sym t)
    (record {
      kind = refl;
      mode = refl;
      size = refl;
      length = refl;
      fits = omega arith;
      pages = λ page. page_of-past block page []
          (omega arith);
      within = λ page number none. cc;
      names = refl;
      suits = suits_empty kind;
    }))
tied_after bytes block (Write first run size) s (Some node) (Some after) some t (below, old, r) =
    rewrites_stand bytes block (Write first run size) size s node after t r
    (λ page. set_page bytes block (run.start + (page - first)) (in_run first run page) (s.blocks page))
    (λ page number h. write_within bytes block first run size s node page number some t below old h)
tied_after bytes block (SetSize size) s (Some node) (Some after) some t r =
    rewrites_stand bytes block (SetSize size) size s node after t r
    (λ page. cut_page bytes block (is_past block size page) (s.blocks page))
    (λ page number h. cut_within bytes block size s node page number some t h)
tied_after bytes block (SetMode mode) s (Some node) (Some after) some t m =
    subst (Stands bytes block (stored_after block (SetMode mode) s)) (sym m) (record {
      kind = t.kind;
      mode = refl;
      size = t.size;
      length = t.length;
      fits = t.fits;
      pages = t.pages;
      within = t.within;
      names = t.names;
      suits = t.suits;
    })
tied_after bytes block (Bind name to) s (Some node) (Some after) some t (dir, m) =
    subst (Stands bytes block (stored_after block (Bind name to) s)) (sym m)
    (renamed bytes block s node (with_last name to node.names) (with_last name to s.names) dir t (ap (with_last name to) t.names))
tied_after bytes block (Unbind name) s (Some node) (Some after) some t (dir, m) =
    subst (Stands bytes block (stored_after block (Unbind name) s)) (sym m)
    (renamed bytes block s node (without name node.names) (without name s.names) dir t (ap (without name) t.names))
tied_after bytes block Gone s (Some node) None some t m =
    ap (λ (blocks : ℕ → Option ℕ). let x : Stored = record nothing { blocks = blocks } in x)
    (fun_ext (λ (page : ℕ). gone_blocks bytes block s node page some t))
tied_after bytes block item s before after some t m = absurd m

pub lawful_gives : (bytes : ℕ → List ℕ) (block : ℕ) (log : List Entry) (e : Entry) (after : Option NodeCopy) → 0 < block
    → IsSound bytes block log → Makes bytes block e.item (node_now bytes block log) after
    → Gives bytes block (log ++ e ∷ []) after
lawful_gives bytes block log e after some sound m =
    gives bytes block (log ++ e ∷ []) after some
    (subst (λ (s : Stored). Tied bytes block s after) (sym (stored-push block log e))
    (tied_after bytes block e.item (stored block log) (node_now bytes block log) after some sound m))

pub one_makes : (bytes : ℕ → List ℕ) (block : ℕ) (item : Item) (before after : Option NodeCopy) → 0 < block
    → Makes bytes block item before after → MakesAll bytes block (item ∷ []) before after
one_makes bytes block item before after some m s t = tied_after bytes block item s before after some t m

pub several_give : (bytes : ℕ → List ℕ) (block : ℕ) (log more : List Entry) (after : Option NodeCopy) → 0 < block
    → IsSound bytes block log
    → MakesAll bytes block (map (λ (e : Entry). e.item) more) (node_now bytes block log) after
    → Gives bytes block (log ++ more) after
several_give bytes block log more after some sound m =
    gives bytes block (log ++ more) after some
    (subst (λ (s : Stored). Tied bytes block s after) (sym (stored-append block log more)) (m (stored block log) sound))

pub empty_sound : (bytes : ℕ → List ℕ) (block : ℕ) → IsSound bytes block []
empty_sound bytes block = refl

-- ---- what suits the kind

tied_to : (bytes : ℕ → List ℕ) (block : ℕ) (log : List Entry) (given : Option NodeCopy) → IsSound bytes block log
    → node_now bytes block log ≡ given → Tied bytes block (stored block log) given
tied_to bytes block log given sound is = subst (Tied bytes block (stored block log)) is sound

size_of_dir : (kind : Kind) (size : ℕ) (names : List BoundName) → kind ≡ Dir → SuitsKind kind size names → size ≡ 0
size_of_dir File size names is h = cc
size_of_dir Dir size names is h = h

names_of_file : (kind : Kind) (size : ℕ) (names : List BoundName) → kind ≡ File → SuitsKind kind size names → names ≡ []
names_of_file File size names is h = h
names_of_file Dir size names is h = cc

pub no_bytes_in_directories : (bytes : ℕ → List ℕ) (block : ℕ) (log : List Entry) (node : NodeCopy) → 0 < block → IsSound bytes block log
    → node_now bytes block log ≡ Some node → node.kind ≡ Dir → (node.size ≡ 0) × ((number : ℕ) → Uses block log number → ⊥)
no_bytes_in_directories bytes block log node some sound is dir =
    let st = tied_to bytes block log (Some node) sound is in
    let empty = size_of_dir node.kind node.size node.names dir st.suits in
    let none = pages_for-most block node.size 0 some (omega (arith, empty)) in
    (empty, λ number used. let below = st.within used.0 number used.1 in absurd (omega (arith, none, below)))

pub no_names_in_files : (bytes : ℕ → List ℕ) (block : ℕ) (log : List Entry) (node : NodeCopy) → IsSound bytes block log
    → node_now bytes block log ≡ Some node → node.kind ≡ File → names_of log ≡ []
no_names_in_files bytes block log node sound is file =
    let st = tied_to bytes block log (Some node) sound is in
    st.names ∙ names_of_file node.kind node.size node.names file st.suits

pub no_blocks_without_node : (bytes : ℕ → List ℕ) (block : ℕ) (log : List Entry) (number : ℕ) → IsSound bytes block log
    → node_now bytes block log ≡ None → Uses block log number → ⊥
no_blocks_without_node bytes block log number sound is used =
    let none : block_now block log used.0 ≡ None = ap (λ (s : Stored). s.blocks used.0) (tied_to bytes block log None sound is) in
    let z : None ≡ Some number = sym none ∙ used.1 in cc

-- ---- blocks

page-same : (bytes other : ℕ → List ℕ) (block : ℕ) (o : Option ℕ) → ((number : ℕ) → o ≡ Some number → other number ≡ bytes number)
    → page_bytes other block o ≡ page_bytes bytes block o
page-same bytes other block None same = refl
page-same bytes other block (Some number) same = same number refl

same_bytes_tie : (bytes other : ℕ → List ℕ) (block : ℕ) (s : Stored) (node : Option NodeCopy)
    → ((page number : ℕ) → s.blocks page ≡ Some number → other number ≡ bytes number)
    → Tied bytes block s node → Tied other block s node
same_bytes_tie bytes other block s None same t = t
same_bytes_tie bytes other block s (Some node) same t = record {
  kind = t.kind;
  mode = t.mode;
  size = t.size;
  length = t.length;
  fits = t.fits;
  pages = λ page. page-same bytes other block (s.blocks page) (same page) ∙ t.pages page;
  within = t.within;
  names = t.names;
  suits = t.suits;
}

pub same_blocks_give : (bytes other : ℕ → List ℕ) (block : ℕ) (log : List Entry) → 0 < block → IsSound bytes block log
    → ((number : ℕ) → Uses block log number → other number ≡ bytes number)
    → Gives other block log (node_now bytes block log)
same_blocks_give bytes other block log some sound same =
    gives other block log (node_now bytes block log) some
    (same_bytes_tie bytes other block (stored block log) (node_now bytes block log) (λ page number h. same number (page, h)) sound)

used_after : (block : ℕ) (item : Item) (before : Option Datum) (page number : ℕ)
    → option_and_then block_in (value_after (sets block item (PageKey page)) before) ≡ Some number
    → (option_and_then block_in before ≡ Some number) ⊎ IsItemBlock item number
used_after block (Write first run size) before page number h = go (in_run first run page) refl h where
  go : (b : Bool) → in_run first run page ≡ b
      → option_and_then block_in (value_after (cond b (Present (datum.Block (run.start + (page - first)))) Untouched) before) ≡ Some number
      → (option_and_then block_in before ≡ Some number) ⊎ IsItemBlock (Write first run size) number
  go true q h = let p = run_parts first run page q in let same : run.start + (page - first) ≡ number = cc in inr
      (omega arith, omega (arith, p))
  go false q h = inl h
used_after block (SetSize size) before page number h = go (is_past block size page) h where
  go : (b : Bool) → option_and_then block_in (value_after (cond b Absent Untouched) before) ≡ Some number
      → (option_and_then block_in before ≡ Some number) ⊎ IsItemBlock (SetSize size) number
  go true h = cc
  go false h = inl h
used_after block Gone before page number h = go (is_page page) h where
  go : (b : Bool) → option_and_then block_in (value_after (cond b Absent Untouched) before) ≡ Some number
      → (option_and_then block_in before ≡ Some number) ⊎ IsItemBlock Gone number
  go true h = cc
  go false h = inl h
used_after block (Init kind mode) before page number h = inl h
used_after block (SetMode mode) before page number h = inl h
used_after block (Bind name to) before page number h = inl h
used_after block (Unbind name) before page number h = inl h

pub uses-push : (block : ℕ) (log : List Entry) (e : Entry) (number : ℕ) → Uses block (log ++ e ∷ []) number
    → Uses block log number ⊎ IsItemBlock e.item number
uses-push block log e number u = go (used_after block e.item (value_now block log (PageKey u.0)) u.0 number
    (sym (ap (option_and_then block_in) (value_now-push block log e (PageKey u.0))) ∙ u.1)) where
      go : (block_now block log u.0 ≡ Some number) ⊎ IsItemBlock e.item number → Uses block log number ⊎ IsItemBlock e.item number
      go (inl h) = inl (u.0, h)
      go (inr h) = inr h
