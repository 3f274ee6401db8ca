-- Which absent keys of an item an earlier item covers.
use Rattle.std.proofs.Common.{◌≡◌, ℕ, ◌+◌, ◌-◌, ◌<◌, ◌≤◌, Bool, true, false, cond, ◌&&◌, nat_lt, nat_le, min, max, List, [], ◌∷◌, arith, refl, ap, sym, ◌∙◌, subst}
use Rattle.std.specs.List.{list_any}
use Rattle.std.proofs.lemmas.Bool.{ltb-true, ltb-false, leb-true, lt-ltb, le-leb, and_parts, and_from, false_from_ne_true, or_from, or_parts}
use Rattle.std.proofs.lemmas.Slice.Eq.{bytes_eq-Decides}
use Rattle.nv_base.specs.Names.{same_name}
use Rattle.nv_entry.specs.declared.item.Entry.{Entry}
use Rattle.nv_entry.specs.declared.item.BlockRun.{BlockRun}
use Rattle.nv_entry.specs.declared.item.Item.{Item}
use Rattle.nv_entry.specs.declared.item.Item.TheVariants.{Init, Write, SetSize, SetMode, Bind, Unbind, Gone}
use Rattle.nv_entry.specs.declared.key.Datum.{Datum}
use Rattle.nv_entry.specs.declared.key.Datum.TheVariants as datum
use Rattle.nv_entry.specs.declared.key.Setting.TheVariants.{Untouched, Absent, Present}
use Rattle.nv_entry.specs.Clean.{covers_from, hides}
use Rattle.nv_entry.specs.Keys.{Key, KindKey, ModeKey, SizeKey, NameKey, PageKey, is_page, pages_for, in_run, is_past, sets, touches, covers}

pub same_name-self : (name : List ℕ) → same_name name name ≡ true
same_name-self name = (bytes_eq-Decides name name).1 refl

pub same_name-equal : (a b : List ℕ) → same_name a b ≡ true → a ≡ b
same_name-equal a b h = (bytes_eq-Decides a b).0 h

pub same_name-sym : (a b : List ℕ) (t : Bool) → same_name a b ≡ t → same_name b a ≡ t
same_name-sym a b true h = let e : a ≡ b = same_name-equal a b h in rw e (same_name-self b)
same_name-sym a b false h =
    false_from_ne_true (same_name b a)
    (λ t. let z : true ≡ false = sym (same_name-self a) ∙ ap (same_name a) (sym (same_name-equal b a t)) ∙ h in cc)

absent_choice : (b : Bool) → cond b Absent Untouched ≡ Absent → b ≡ true
absent_choice true h = refl
absent_choice false h = cc

present_choice : (b : Bool) (value : Datum) → cond b (Present value) Untouched ≡ Absent → ⊥
present_choice true value h = cc
present_choice false value h = cc

touched_absent : (b : Bool) → touches (cond b Absent Untouched) ≡ b
touched_absent true = refl
touched_absent false = refl

touched_present : (b : Bool) (value : Datum) → touches (cond b (Present value) Untouched) ≡ b
touched_present true value = refl
touched_present false value = refl

past_parts : (block size page : ℕ) → is_past block size page ≡ true → (pages_for block size ≤ page) × (page < 65536)
past_parts block size page h =
    let p = and_parts (nat_le (pages_for block size) page)
    (is_page page) h in (leb-true (pages_for block size) page p.0, ltb-true page 65536 p.1)

past_from : (block size page : ℕ) → pages_for block size ≤ page → page < 65536 → is_past block size page ≡ true
past_from block size page low high =
    and_from (nat_le (pages_for block size) page) (is_page page) (le-leb (pages_for block size) page low) (lt-ltb page 65536 high)

pub run_parts : (first : ℕ) (run : BlockRun) (page : ℕ) → in_run first run page ≡ true
    → (first ≤ page) × (page < first + run.len) × (page < 65536)
run_parts first run page h =
    let p = and_parts (nat_le first page && nat_lt page (first + run.len)) (is_page page) h in
    let q = and_parts (nat_le first page) (nat_lt page (first + run.len)) p.0 in
    (leb-true first page q.0, ltb-true page (first + run.len) q.1, ltb-true page 65536 p.1)

pub run_from : (first : ℕ) (run : BlockRun) (page : ℕ) → first ≤ page → page < first + run.len → page < 65536 → in_run first run page ≡ true
run_from first run page a b c =
    and_from (nat_le first page && nat_lt page (first + run.len)) (is_page page)
    (and_from (nat_le first page) (nat_lt page (first + run.len)) (le-leb first page a) (lt-ltb page (first + run.len) b))
    (lt-ltb page 65536 c)

-- an item that covers no page from one on covers none of those
none_from : (block from page : ℕ) (item : Item) → covers_from block from item ≡ false → from ≤ page → page < 65536
    → covers block item (PageKey page) ≡ false
none_from block from page (Write first run size) h low high =
    touched_present (in_run first run page) (datum.Block (run.start + (page - first)))
    ∙ false_from_ne_true (in_run first run page)
    (λ t. let p = run_parts first run page t in let k : min (first + run.len) 65536 ≤ max from first = ltb-false (max from first)
    (min (first + run.len) 65536) h in omega (arith, p, low, high))
none_from block from page (SetSize size) h low high =
    touched_absent (is_past block size page)
    ∙ false_from_ne_true (is_past block size page)
    (λ t. let p = past_parts block size page t in let k : 65536 ≤ max from (pages_for block size) = ltb-false
    (max from (pages_for block size)) 65536 h in omega (arith, p, low, high))
none_from block from page Gone h low high = absurd (omega (arith, ltb-false from 65536 h, low, high))
none_from block from page (Init kind mode) h low high = refl
none_from block from page (SetMode mode) h low high = refl
none_from block from page (Bind name to) h low high = refl
none_from block from page (Unbind name) h low high = refl

-- a page from one on that an item covers
record CoversFrom (block from : ℕ) (item : Item) : Type 0 where
  page : ℕ
  low : from ≤ page
  high : page < 65536
  covered : covers block item (PageKey page) ≡ true

some_from : (block from : ℕ) (item : Item) → covers_from block from item ≡ true → CoversFrom block from item
some_from block from (Write first run size) h =
    let k : max from first < min (first + run.len) 65536 = ltb-true (max from first) (min (first + run.len) 65536) h in
    record {
      page = max from first;
      low = omega arith;
      high = omega arith;
      covered = touched_present (in_run first run (max from first)) (datum.Block (run.start + (max from first - first)))
          ∙ run_from first run (max from first) (omega arith) (omega arith) (omega arith);
    }
some_from block from (SetSize size) h =
    let k : max from (pages_for block size) < 65536 = ltb-true (max from (pages_for block size)) 65536 h in
    record {
      page = max from (pages_for block size);
      low = omega arith;
      high = k;
      covered = touched_absent (is_past block size (max from (pages_for block size)))
          ∙ past_from block size (max from (pages_for block size)) (omega arith) k;
    }
some_from block from Gone h =
    let k : from < 65536 = ltb-true from 65536 h in
    record { page = from; low = omega arith; high = k; covered = touched_absent (is_page from) ∙ lt-ltb from 65536 k }
some_from block from (Init kind mode) h = cc
some_from block from (SetMode mode) h = cc
some_from block from (Bind name to) h = cc
some_from block from (Unbind name) h = cc

-- no key that the item sets to absent is covered by the earlier item
abbrev pub HidesNothing : ℕ → Item → Item → Type 0
HidesNothing block item earlier = (key : Key) → sets block item key ≡ Absent → covers block earlier key ≡ false

hidden_size : (block size : ℕ) (earlier : Item) → hides block (SetSize size) earlier ≡ false → HidesNothing block (SetSize size) earlier
hidden_size block size earlier h KindKey a = cc
hidden_size block size earlier h ModeKey a = cc
hidden_size block size earlier h SizeKey a = cc
hidden_size block size earlier h (NameKey name) a = cc
hidden_size block size earlier h (PageKey page) a =
    let p = past_parts block size page (absent_choice (is_past block size page) a) in none_from block
    (pages_for block size) page earlier h p.0 p.1

hidden_name : (block : ℕ) (name : List ℕ) (earlier : Item) → hides block (Unbind name) earlier ≡ false
    → HidesNothing block (Unbind name) earlier
hidden_name block name earlier h KindKey a = cc
hidden_name block name earlier h ModeKey a = cc
hidden_name block name earlier h SizeKey a = cc
hidden_name block name earlier h (PageKey page) a = cc
hidden_name block name earlier h (NameKey other) a =
    subst (λ (n : List ℕ). covers block earlier (NameKey n) ≡ false) (same_name-equal name other (absent_choice (same_name name other) a)) h

hidden_write : (block first : ℕ) (run : BlockRun) (size : ℕ) (earlier : Item) → HidesNothing block (Write first run size) earlier
hidden_write block first run size earlier KindKey a = cc
hidden_write block first run size earlier ModeKey a = cc
hidden_write block first run size earlier SizeKey a = cc
hidden_write block first run size earlier (NameKey name) a = cc
hidden_write block first run size earlier (PageKey page) a =
    absurd (present_choice (in_run first run page) (datum.Block (run.start + (page - first))) a)

-- the test that an item hides something says so of each key
pub hides_nothing : (block : ℕ) (item earlier : Item) → hides block item earlier ≡ false → HidesNothing block item earlier
hides_nothing block (SetSize size) earlier h = hidden_size block size earlier h
hides_nothing block (Unbind name) earlier h = hidden_name block name earlier h
hides_nothing block Gone earlier h = cc
hides_nothing block (Write first run size) earlier h = hidden_write block first run size earlier
hides_nothing block (Init kind mode) earlier h = λ key a. never key a where
  never : (key : Key) → sets block (Init kind mode) key ≡ Absent → covers block earlier key ≡ false
  never KindKey a = cc
  never ModeKey a = cc
  never SizeKey a = cc
  never (NameKey name) a = cc
  never (PageKey page) a = cc
hides_nothing block (SetMode mode) earlier h = λ key a. never key a where
  never : (key : Key) → sets block (SetMode mode) key ≡ Absent → covers block earlier key ≡ false
  never KindKey a = cc
  never ModeKey a = cc
  never SizeKey a = cc
  never (NameKey name) a = cc
  never (PageKey page) a = cc
hides_nothing block (Bind name to) earlier h = λ key a. never key a where
  never : (key : Key) → sets block (Bind name to) key ≡ Absent → covers block earlier key ≡ false
  never KindKey a = cc
  never ModeKey a = cc
  never SizeKey a = cc
  never (NameKey other) a = absurd (present_choice (same_name name other) (datum.Node to) a)
  never (PageKey page) a = cc

pub clash : {A : Type 0} (b : Bool) → b ≡ true → b ≡ false → A
clash true p q = cc
clash false p q = cc

-- each item covers a key that an item of an inode that goes sets to absent
gone_hides : (block : ℕ) (earlier : Item) → HidesNothing block Gone earlier → ⊥
gone_hides block (Init kind mode) h = let k : true ≡ false = h KindKey refl in cc
gone_hides block (Write first run size) h = let k : true ≡ false = h SizeKey refl in cc
gone_hides block (SetSize size) h = let k : true ≡ false = h SizeKey refl in cc
gone_hides block (SetMode mode) h = let k : true ≡ false = h ModeKey refl in cc
gone_hides block (Bind name to) h =
    clash (same_name name name) (same_name-self name) (sym (touched_present (same_name name name) (datum.Node to)) ∙ h (NameKey name) refl)
gone_hides block (Unbind name) h =
    clash (same_name name name) (same_name-self name) (sym (touched_absent (same_name name name)) ∙ h (NameKey name) refl)
gone_hides block Gone h = let k : true ≡ false = h KindKey refl in cc

-- and the other way round
pub hides-false : (block : ℕ) (item earlier : Item) → HidesNothing block item earlier → hides block item earlier ≡ false
hides-false block (SetSize size) earlier h = false_from_ne_true (hides block (SetSize size) earlier) (λ t.
    let x = some_from block (pages_for block size) earlier t in
    clash (covers block earlier (PageKey x.page)) x.covered (h (PageKey x.page) (rw (past_from block size x.page x.low x.high) refl)))
hides-false block (Unbind name) earlier h = h (NameKey name) (rw (same_name-self name) refl)
hides-false block Gone earlier h = absurd (gone_hides block earlier h)
hides-false block (Write first run size) earlier h = refl
hides-false block (Init kind mode) earlier h = refl
hides-false block (SetMode mode) earlier h = refl
hides-false block (Bind name to) earlier h = refl

-- over all earlier entries
pub hides_nothing_before : (block : ℕ) (item : Item) (before : List Entry)
    → list_any (λ (f : Entry). hides block item f.item) before ≡ false
    → (key : Key) → sets block item key ≡ Absent → list_any (λ (f : Entry). covers block f.item key) before ≡ false
hides_nothing_before block item [] h key a = refl
hides_nothing_before block item (f ∷ before) h key a =
    let p = or_parts (hides block item f.item) (list_any (λ (f : Entry). hides block item f.item) before) h in
    or_from (covers block f.item key) (list_any (λ (f : Entry). covers block f.item key) before)
    (hides_nothing block item f.item p.0 key a)
    (hides_nothing_before block item before p.1 key a)

pub hides-false_before : (block : ℕ) (item : Item) (before : List Entry)
    → ((key : Key) → sets block item key ≡ Absent → list_any (λ (f : Entry). covers block f.item key) before ≡ false)
    → list_any (λ (f : Entry). hides block item f.item) before ≡ false
hides-false_before block item [] h = refl
hides-false_before block item (f ∷ before) h =
    or_from (hides block item f.item) (list_any (λ (f : Entry). hides block item f.item) before)
    (hides-false block item f.item
    (λ key a. (or_parts (covers block f.item key) (list_any (λ (f : Entry). covers block f.item key) before) (h key a)).0))
    (hides-false_before block item before
    (λ key a. (or_parts (covers block f.item key) (list_any (λ (f : Entry). covers block f.item key) before) (h key a)).1))
