-- A cell's log at the end of an epoch: the front of its entries, whose parts that it has not covered are there.
use Rattle.std.proofs.Common.{◌≡◌, ℕ, zero, suc, ◌+◌, ◌-◌, ◌<◌, ◌≤◌, ◌||◌, ◌++◌, ◌∙◌, Bool, true, false, cond, if◌then◌else◌, not, nat_lt, List, [], ◌∷◌, length, Option, Some, None, ap, arith, refl, sym}
use Rattle.std.specs.List.{AllByRecursion, list_any}
use Rattle.std.specs.Option.{is_some, option_map}
use Rattle.std.specs.Prelude.{nat_le, slice_get, slice_index_or}
use Rattle.std.proofs.lemmas.Bool.{eq-eqb, false≢true, leb-false, leb-true, ltb-false, true≢false}
use Rattle.std.proofs.lemmas.Option.{same_Some}
use Rattle.nv_alloc.specs.Block.{BlockValue}
use Rattle.nv_cell.specs.Cell.{CellState, HasBlocks, mark_or_fresh, page_block}
use Rattle.nv_cell.specs.Marks.{is_there}
use Rattle.nv_cell.specs.Numbers.{is_number, killed_part}
use Rattle.nv_cell.specs.Readers.{keeps_nothing}
use Rattle.nv_cell.specs.declared.killed.KilledPart.{KilledPart}
use Rattle.nv_cell.specs.declared.mark.Mark.{Mark}
use Rattle.nv_cell.proofs.Numbers.{own_place, scan_key, scan_n, scan_names, total_append}
use Rattle.nv_cell.proofs.PagesNow.{front_block}
use Rattle.nv_entry.specs.Covered.{any_cover, is_covered, key_at, part_count, part_total}
use Rattle.nv_entry.specs.Keys.{Key, KindKey, parts_of, sets, touches}
use Rattle.nv_entry.specs.Later.{AreAfter}
use Rattle.nv_entry.specs.Laws.{is_present}
use Rattle.nv_entry.specs.Log.{IsLog, MayFollow, last_setting, later_of, up_to, value_now, value_of}
use Rattle.nv_entry.specs.Node.{block_now, node_now, node_of_kind}
use Rattle.nv_entry.specs.declared.item.Entry.{Entry}
use Rattle.nv_entry.specs.declared.key.Datum.{Datum}
use Rattle.nv_entry.specs.declared.key.Setting.{Setting}
use Rattle.nv_entry.specs.declared.key.Setting.TheVariants.{Absent, Present, Untouched}
use Rattle.nv_entry.specs.declared.node.NodeCopy.{NodeCopy}
use Rattle.nv_entry.specs.declared.part.Part.{Part}
use Rattle.nv_entry.proofs.Covering.{touched}
use Rattle.nv_entry.proofs.Later.{up_to-append}
use Rattle.nv_machine.specs.Kept.{AreApart}
use Rattle.nv_machine.specs.Reads.{bytes_among}
use Rattle.nv_machine.proofs.CellPages.{IsPart, among_at, found, low_and, node_read}
use Rattle.nv_machine.proofs.CellSteps.{same_slot}

-- ---- a log is its entries up to an epoch, and then those of later epochs

pub record SplitsAt (epoch : ℕ) (log : List Entry) : Type 0 where
  pub rest : List Entry
  pub is : up_to epoch log ++ rest ≡ log
  pub later : AreAfter epoch rest

after_all : (epoch : ℕ) (e : Entry) (later : List Entry) → epoch < e.epoch → AllByRecursion (MayFollow e) later → AreAfter epoch later
after_all epoch e [] lt all = tt
after_all epoch e (x ∷ later) lt all = (let le = all.0.epoch_stays in omega (arith, lt, le), after_all epoch e later lt all.1)

pub splits : (epoch : ℕ) (log : List Entry) → IsLog log → SplitsAt epoch log
splits epoch [] is = record { rest = []; is = refl; later = tt }
splits epoch (e ∷ log) is = go (nat_le e.epoch epoch) refl (splits epoch log is.1) where
  go : (b : Bool) → nat_le e.epoch epoch ≡ b → SplitsAt epoch log → SplitsAt epoch (e ∷ log)
  go true le s = record {
    rest = s.rest;
    is = ap (λ (c : Bool). cond c (e ∷ up_to epoch log) (up_to epoch log) ++ s.rest) le ∙ ap (λ (l : List Entry). e ∷ l) s.is;
    later = s.later;
  }
  go false past s =
      let lt = leb-false e.epoch epoch past in
      let after : AreAfter epoch (e ∷ log) = (lt, after_all epoch e log lt is.0) in
      record {
        rest = e ∷ log;
        is = ap (λ (l : List Entry). l ++ e ∷ log) (up_to-append epoch [] (e ∷ log) after);
        later = after;
      }

pub up_to_within : (epoch : ℕ) (log : List Entry) → AllByRecursion (λ (e : Entry). e.epoch ≤ epoch) (up_to epoch log)
up_to_within epoch [] = tt
up_to_within epoch (e ∷ log) = go (nat_le e.epoch epoch) refl (up_to_within epoch log) where
  go : (b : Bool) → nat_le e.epoch epoch ≡ b → AllByRecursion (λ (x : Entry). x.epoch ≤ epoch) (up_to epoch log)
      → AllByRecursion (λ (x : Entry). x.epoch ≤ epoch) (cond b (e ∷ up_to epoch log) (up_to epoch log))
  go true le all = (leb-true e.epoch epoch le, all)
  go false past all = all

-- ---- the part that holds a key

pub some_scanned : (block : ℕ) (log : List Entry) (key : Key) → is_present (last_setting block log key) ≡ true
    → is_some (scan_n block log key) ≡ true
some_scanned block [] key h = cc
some_scanned block (e ∷ later) key h =
    go (last_setting block later key) (any_cover block later key) refl (touched block later key) (some_scanned block later key) h
  where
    more : (o : Option ℕ) → is_some o ≡ true → is_some (option_map (λ m. part_count e + m) o) ≡ true
    more None some = cc
    more (Some m) some = refl

    own : (s : Setting) (place : ℕ) → is_present s ≡ true → is_some (cond (is_present s) (Some place) None) ≡ true
    own (Present v) place some = refl
    own other place some = cc

    go : (l : Setting) (b : Bool) → last_setting block later key ≡ l → touches (last_setting block later key) ≡ b
        → (is_present (last_setting block later key) ≡ true → is_some (scan_n block later key) ≡ true)
        → is_present (later_of (sets block e.item key) l) ≡ true
        → is_some (cond b (option_map (λ m. part_count e + m) (scan_n block later key)) (own_place block e key)) ≡ true
    go Untouched true q t rec some = absurd (false≢true (sym (ap touches q) ∙ t))
    go Untouched false q t rec some = own (sets block e.item key) _ some
    go Absent b q t rec some = cc
    go (Present v) true q t rec some = more (scan_n block later key) (rec (ap is_present q))
    go (Present v) false q t rec some = absurd (true≢false (sym (ap touches q) ∙ t))

-- ---- the parts of an epoch's log are there

abbrev pub log_at : ℕ → CellState → List Entry
log_at epoch cell = up_to epoch cell.chain.entries

-- those that it has not covered
abbrev pub IsHeldAt : ℕ → CellState → Type 0
IsHeldAt epoch cell = (n : ℕ) → n < part_total (log_at epoch cell) → is_covered cell.block (log_at epoch cell) n ≡ false
    → is_there (mark_or_fresh cell.marks n) ≡ true

abbrev pub copy_at : ℕ → CellState → Option NodeCopy
copy_at epoch cell = node_now (bytes_among cell.blocks) cell.block (log_at epoch cell)

-- blocks that two cells have for one part are one
abbrev pub HaveSameBlocks : CellState → CellState → Type 0
HaveSameBlocks a b = (n : ℕ) (x y : BlockValue) → slice_index_or a.blocks n None ≡ Some x → slice_index_or b.blocks n None ≡ Some y → x ≡ y

-- the block of a page of the epoch's log
pub block_there : (epoch number : ℕ) (cell : CellState) → IsLog cell.chain.entries → HasBlocks cell → (n : ℕ)
    → IsPart cell.block (log_at epoch cell) number n → is_there (mark_or_fresh cell.marks n) ≡ true
    → (b : BlockValue) × (slice_index_or cell.blocks n None ≡ Some b) × (b.number ≡ number)
block_there epoch number cell is has n p there =
    let s = splits epoch cell.chain.entries is in
    let says : page_block cell.block cell.chain.entries n ≡ Some number =
    ap (λ (es : List Entry). page_block cell.block es n) (sym s.is) ∙ front_block cell.block (log_at epoch cell) s.rest n p.low ∙ p.says in
    same_slot (slice_index_or cell.blocks n None) number
    (has.numbers n ∙ ap (λ (b : Bool). cond b (page_block cell.block cell.chain.entries n) None) there ∙ says)

-- two cells with one log of the epoch, whose parts are there in both, give one node
pub copies_same : (epoch : ℕ) (a b : CellState) → IsLog a.chain.entries → IsLog b.chain.entries → HasBlocks a → HasBlocks b
    → AreApart a.blocks → AreApart b.blocks → b.block ≡ a.block → log_at epoch b ≡ log_at epoch a → HaveSameBlocks a b
    → IsHeldAt epoch a → IsHeldAt epoch b → copy_at epoch b ≡ copy_at epoch a
copies_same epoch a b isa isb hasa hasb aparta apartb size log same helda heldb =
    ap (λ (l : List Entry). node_now (bytes_among b.blocks) b.block l) log
    ∙ ap (λ (n : ℕ). node_now (bytes_among b.blocks) n (log_at epoch a)) size
    ∙ node_read (bytes_among a.blocks) (bytes_among b.blocks) a.block (log_at epoch a) read
  where
    other_part : (number n : ℕ) → IsPart a.block (log_at epoch a) number n → IsPart b.block (log_at epoch b) number n
    other_part number n p = record { uncovered = rw (size, log) p.uncovered; low = rw (log) p.low; says = rw (size, log) p.says }

    read : (page number : ℕ) → block_now a.block (log_at epoch a) page ≡ Some number
        → bytes_among b.blocks number ≡ bytes_among a.blocks number
    read page number is =
        let f = found a.block (log_at epoch a) page number is in
        let n = f.0 in
        let p = f.1 in
        let q = other_part number n p in
        let x = block_there epoch number a isa hasa n p (helda n p.low p.uncovered) in
        let y = block_there epoch number b isb hasb n q (heldb n q.low q.uncovered) in
        let one = same n x.0 y.0 x.1 y.1 in
        ap (bytes_among b.blocks) (sym y.2) ∙ among_at b.blocks apartb n y.0 y.1
        ∙ sym (ap (λ (v : BlockValue). v.bytes) one) ∙ sym (among_at a.blocks aparta n x.0 x.1) ∙ ap (bytes_among a.blocks) x.2

-- ---- where every part is out the epoch has no node

any_there : (marks : List Mark) (n : ℕ) → n < length marks → is_there (mark_or_fresh marks n) ≡ true → list_any is_there marks ≡ true
any_there [] n lt there = absurd (omega (arith, lt))
any_there (m ∷ marks) zero lt there = ap (λ (b : Bool). b || list_any is_there marks) there
any_there (m ∷ marks) (suc n) lt there =
    ap (λ (b : Bool). is_there m || b) (any_there marks n (omega (arith, lt)) there) ∙ or_true (is_there m)
  where
    or_true : (b : Bool) → (b || true) ≡ true
    or_true true = refl
    or_true false = refl

pub scanned_uncovered : (block : ℕ) (log : List Entry) (key : Key) (n : ℕ) → scan_n block log key ≡ Some n → is_covered block log n ≡ false
scanned_uncovered block log key n q =
    let s = scan_key block log key n q in
    let at : is_number (scan_n block log (key_at log n)) n ≡ true =
    ap (λ (k : Key). is_number (scan_n block log k) n) s.1 ∙ ap (λ (o : Option ℕ). is_number o n) q ∙ eq-eqb n n refl in
    low_and (nat_lt n (part_total log)) (is_covered block log n) (sym at ∙ scan_names block log n)

pub unset : (s : Setting) → (is_present s ≡ true → ⊥) → value_of s ≡ None
unset (Present v) never = absurd (never refl)
unset other never = refl

abbrev pub kind_at : ℕ → CellState → Option Datum
kind_at epoch cell = value_now cell.block (log_at epoch cell) KindKey

pub none_at : (epoch : ℕ) (cell : CellState) → kind_at epoch cell ≡ None → copy_at epoch cell ≡ None
none_at epoch cell e = ap (λ (o : Option Datum). node_of_kind o (bytes_among cell.blocks) cell.block (log_at epoch cell)) e

pub nothing_kept : (epoch : ℕ) (cell : CellState) → IsLog cell.chain.entries → length cell.marks ≡ part_total cell.chain.entries
    → IsHeldAt epoch cell → keeps_nothing cell ≡ true → kind_at epoch cell ≡ None
nothing_kept epoch cell is len held none = go (scan_n cell.block log KindKey) refl where
  log : List Entry
  log = log_at epoch cell

  long : part_total log ≤ length cell.marks
  long =
      let s = splits epoch cell.chain.entries is in
      omega (arith, len, ap part_total (sym s.is), total_append log s.rest)

  out : (b : Bool) → not b ≡ true → b ≡ true → ⊥
  out true e f = false≢true e
  out false e f = false≢true f

  go : (o : Option ℕ) → scan_n cell.block log KindKey ≡ o → kind_at epoch cell ≡ None
  go None q =
      unset (last_setting cell.block log KindKey)
      (λ some. false≢true (sym (ap (λ (o : Option ℕ). is_some o) q) ∙ some_scanned cell.block log KindKey some))
  go (Some n) q =
      let low = (scan_key cell.block log KindKey n q).0 in
      let there = held n low (scanned_uncovered cell.block log KindKey n q) in
      absurd (out (list_any is_there cell.marks) none (any_there cell.marks n (omega (arith, low, long)) there))

-- ---- births

pub born_by : (epoch : ℕ) (log rest : List Entry) (n : ℕ) (k : KilledPart) → AllByRecursion (λ (e : Entry). e.epoch ≤ epoch) log
    → n < part_total log → killed_part (log ++ rest) n ≡ Some k → k.birth ≤ epoch
born_by epoch [] rest n k all lt is = absurd (omega (arith, lt))
born_by epoch (e ∷ log) rest n k all lt is =
    go (nat_lt n (part_count e)) refl is (λ low q. born_by epoch log rest (n - part_count e) k all.1 low q)
  where
    own : (o : Option Part) → option_map (λ part. record { part = record { entry = e.id; part = part }; birth = e.epoch }) o ≡ Some k
        → k.birth ≤ epoch
    own None q = cc
    own (Some p) q = let same = ap (λ (x : KilledPart). x.birth) (same_Some _ k q) in let le = all.0 in omega (arith, le, same)

    go : (b : Bool) → nat_lt n (part_count e) ≡ b
        → (if b
        then option_map (λ part. record { part = record { entry = e.id; part = part }; birth = e.epoch }) (slice_get (parts_of e.item) n)
        else killed_part (log ++ rest) (n - part_count e)) ≡ Some k
        → (n - part_count e < part_total log → killed_part (log ++ rest) (n - part_count e) ≡ Some k → k.birth ≤ epoch) → k.birth ≤ epoch
    go true q found rec = own (slice_get (parts_of e.item) n) found
    go false q found rec = rec (let ge = ltb-false n (part_count e) q in omega (arith, lt, ge)) found
