-- The part that holds a page in a log, and its block in the cell whose log goes on from there.
use Rattle.std.proofs.Common.{◌≡◌, ℕ, ◌+◌, ◌-◌, ◌<◌, ◌∙◌, Bool, true, false, cond, List, [], ◌∷◌, ◌++◌, Option, Some, None, ap, append_assoc, arith, nat_lt, refl, slice_index_or, subst, sym}
use Rattle.std.specs.Prelude.{IsSome, option_and_then}
use Rattle.std.specs.Option.{IfSome}
use Rattle.std.proofs.lemmas.Bool.{eq-eqb, le-ltb, lt-ltb}
use Rattle.std.proofs.lemmas.Option.{get_or_from_slice_get, slice_get_within}
use Rattle.nv_base.proofs.Ids.{before-same}
use Rattle.nv_base.specs.Ids.{is_same_id}
use Rattle.nv_base.specs.declared.numbers.EntryId.{EntryId}
use Rattle.nv_cell.proofs.Appending.{back_block}
use Rattle.nv_cell.proofs.Numbers.{total_append}
use Rattle.nv_cell.proofs.NamedParts.{place_there}
use Rattle.nv_cell.specs.Cell.{CellState, block_named, log_of, page_block}
use Rattle.nv_cell.specs.Named.{number_named, place_of_part}
use Rattle.nv_entry.proofs.Covering.{part_present}
use Rattle.nv_entry.proofs.Refs.{follows, to_current}
use Rattle.nv_entry.specs.Covered.{is_covered, part_count, part_key, part_total}
use Rattle.nv_entry.specs.Data.{block_in}
use Rattle.nv_entry.specs.Keys.{Key, PageKey, in_run, is_page, is_past, key_of, parts_of, sets}
use Rattle.nv_entry.specs.Laws.{is_present}
use Rattle.nv_entry.specs.Log.{IsLog, value_of}
use Rattle.nv_entry.specs.Refs.{IsCurrentPart, scan_ref}
use Rattle.nv_entry.specs.declared.item.Entry.{Entry}
use Rattle.nv_entry.specs.declared.item.Item.{Item}
use Rattle.nv_entry.specs.declared.item.Item.TheVariants.{Init, Write, SetSize, SetMode, Bind, Unbind, Gone}
use Rattle.nv_entry.specs.declared.key.Datum.TheVariants.{Block}
use Rattle.nv_entry.specs.declared.key.Setting.TheVariants.{Untouched, Absent, Present}
use Rattle.nv_entry.specs.declared.part.Part.{Part}
use Rattle.nv_entry.specs.declared.part.Part.TheVariants as part
use Rattle.nv_entry.specs.declared.part.PartId.{PartId}
use Rattle.nv_entry.specs.declared.part_ref.PartRef.{PartRef}
use Rattle.nv_reader.specs.Blocks.{page_part, page_writer}
use Rattle.nv_reader.specs.Cells.{NoneOut}

-- ---- a part behind some entries

same_id-self : (id : EntryId) → is_same_id id id ≡ true
same_id-self id = rw (eq-eqb id.commit id.commit refl, eq-eqb id.place id.place refl) refl

named_behind : (before : List Entry) (e : Entry) (later : List Entry) (id : PartId) (n : ℕ) → IsLog (before ++ e ∷ later) → e.id ≡ id.entry
    → place_of_part e.item id.part ≡ Some n → number_named (before ++ e ∷ later) id ≡ Some (part_total before + n)
named_behind [] e later id n is same place =
    let own : is_same_id e.id id.entry ≡ true = ap (λ (i : EntryId). is_same_id i id.entry) same ∙ same_id-self id.entry in
    let from_zero : 0 + n ≡ n = omega arith in
    rw (own, from_zero) place
named_behind (x ∷ before) e later id n is same place =
    let rises = (follows x before e later is.0).id_rises in
    let other : is_same_id x.id id.entry ≡ false = ap (is_same_id x.id) (sym same) ∙ before-same x.id e.id rises in
    rw (other, named_behind before e later id n is.1 same place) (ap Some (omega arith))

covered_behind : (block : ℕ) (before rest : List Entry) (n : ℕ)
    → is_covered block (before ++ rest) (part_total before + n) ≡ is_covered block rest n
covered_behind block [] rest n = let from_zero : 0 + n ≡ n = omega arith in ap (is_covered block rest) from_zero
covered_behind block (x ∷ before) rest n =
    let at : ℕ = part_count x + part_total before + n in
    let past : nat_lt at (part_count x) ≡ false = le-ltb at (part_count x) (omega arith) in
    let back : at - part_count x ≡ part_total before + n = omega arith in
    rw (past, back) (covered_behind block before rest n)

-- ---- the part that holds a page

page_with : (item : Item) (p : Part) (page : ℕ) → key_of item p ≡ PageKey page → p ≡ part.Page page
page_with item part.Kind page h = cc
page_with item part.Mode page h = cc
page_with item part.Size page h = cc
page_with item part.Bound page h = cc
page_with item (part.Page other) page h = let same : other ≡ page = cc in ap part.Page same

-- what an entry sets a page to is a block
pub record HasBlock (block : ℕ) (item : Item) (page : ℕ) : Type 0 where
  pub number : ℕ
  pub is : option_and_then block_in (value_of (sets block item (PageKey page))) ≡ Some number

pub has_block : (block : ℕ) (item : Item) (page : ℕ) → is_present (sets block item (PageKey page)) ≡ true → HasBlock block item page
has_block block (Write first run size) page h = go (in_run first run page) refl h where
  go : (b : Bool) → in_run first run page ≡ b
      → is_present (cond b (Present (Block (run.start + (page - first)))) Untouched) ≡ true → HasBlock block (Write first run size) page
  go true q k = record { number = run.start + (page - first); is = rw q refl }
  go false q k = cc
has_block block (SetSize size) page h = absurd (go (is_past block size page) h) where
  go : (b : Bool) → is_present (cond b Absent Untouched) ≡ true → ⊥
  go true k = cc
  go false k = cc
has_block block Gone page h = absurd (go (is_page page) h) where
  go : (b : Bool) → is_present (cond b Absent Untouched) ≡ true → ⊥
  go true k = cc
  go false k = cc
has_block block (Init kind mode) page h = cc
has_block block (SetMode mode) page h = cc
has_block block (Bind name to) page h = cc
has_block block (Unbind name) page h = cc

-- the number of the part that holds a page and that of its block, behind which may stand more entries
record HoldsPage (block : ℕ) (log : List Entry) (page : ℕ) (entry : EntryId) : Type 0 where
  n : ℕ
  number : ℕ
  low : n < part_total log
  uncovered : is_covered block log n ≡ false
  says : page_block block log n ≡ Some number
  named : (more : List Entry) → IsLog (log ++ more) → number_named (log ++ more) (page_part page entry) ≡ Some n

module _ (block : ℕ) (log : List Entry) (page : ℕ) (r : PartRef) (c : IsCurrentPart block log (PageKey page) r) where
  abbrev split : List Entry
  split = c.before ++ c.entry ∷ c.later

  within : r.place < part_count c.entry
  within = slice_get_within (parts_of c.entry.item) r.place c.part c.place

  first : nat_lt r.place (part_count c.entry) ≡ true
  first = lt-ltb r.place (part_count c.entry) within

  own_key : part_key c.entry r.place ≡ PageKey page
  own_key = ap (key_of c.entry.item) (get_or_from_slice_get (parts_of c.entry.item) r.place c.part part.Kind c.place) ∙ c.key_is

  blocked : HasBlock block c.entry.item page
  blocked = has_block block c.entry.item page
      (subst (λ (k : Key). is_present (sets block c.entry.item k) ≡ true) c.key_is (part_present block c.entry.item r.place c.part c.place))

  here_says : page_block block (c.entry ∷ c.later) r.place ≡ Some blocked.number
  here_says = rw (first, own_key) blocked.is

  behind_says : page_block block split (part_total c.before + r.place) ≡ Some blocked.number
  behind_says =
      let back : part_total c.before + r.place - part_total c.before ≡ r.place = omega arith in
      back_block block c.before (c.entry ∷ c.later) (part_total c.before + r.place) (omega arith)
      ∙ ap (page_block block (c.entry ∷ c.later)) back ∙ here_says

  here_uncovered : is_covered block (c.entry ∷ c.later) r.place ≡ false
  here_uncovered = rw (first, own_key) c.uncovered

  part_place : place_of_part c.entry.item (part.Page page) ≡ Some r.place
  part_place =
      ap (place_of_part c.entry.item) (sym (page_with c.entry.item c.part page c.key_is)) ∙ place_there c.entry.item r.place c.part c.place

  named_here : (more : List Entry) → IsLog (split ++ more)
      → number_named (split ++ more) (page_part page r.entry) ≡ Some (part_total c.before + r.place)
  named_here more is =
      let whole : split ++ more ≡ c.before ++ c.entry ∷ (c.later ++ more) = append_assoc c.before (c.entry ∷ c.later) more in
      ap (λ (xs : List Entry). number_named xs (page_part page r.entry)) whole
      ∙ named_behind c.before c.entry (c.later ++ more) (page_part page r.entry) r.place (subst IsLog whole is) c.id part_place

  holds_split : HoldsPage block split page r.entry
  holds_split = record {
    n = part_total c.before + r.place;
    number = blocked.number;
    low = omega (arith, within, total_append c.before (c.entry ∷ c.later));
    uncovered = covered_behind block c.before (c.entry ∷ c.later) r.place ∙ here_uncovered;
    says = behind_says;
    named = named_here;
  }

holds_page : (block : ℕ) (log : List Entry) (page : ℕ) (r : PartRef) → scan_ref block log (PageKey page) ≡ Some r
    → HoldsPage block log page r.entry
holds_page block log page r h =
    let c = to_current block log (PageKey page) r h in
    subst (λ (xs : List Entry). HoldsPage block xs page r.entry) (sym c.log_is) (holds_split block log page r c)

-- ---- in a cell

-- no page of a log is out with which a cell's begins, where the parts that it has not covered have their blocks
pub front_in : (cell : CellState) (log rest : List Entry) → log ++ rest ≡ log_of cell → IsLog (log_of cell)
    → ((n number : ℕ) → n < part_total log → is_covered cell.block log n ≡ false → page_block cell.block log n ≡ Some number
    → IsSome (slice_index_or cell.blocks n None)) → NoneOut cell log
front_in cell log rest front is has page low = go (scan_ref cell.block log (PageKey page)) refl where
  there : (r : PartRef) → HoldsPage cell.block log page r.entry → IsSome (block_named cell (page_part page r.entry))
  there r at =
      let named : number_named (log_of cell) (page_part page r.entry) ≡ Some at.n =
      subst (λ (xs : List Entry). number_named xs (page_part page r.entry) ≡ Some at.n) front
      (at.named rest (subst IsLog (sym front) is)) in
      rw named (has at.n at.number at.low at.uncovered at.says)

  go : (o : Option PartRef) → scan_ref cell.block log (PageKey page) ≡ o
      → IfSome (page_writer cell.block log page) (λ entry. IsSome (block_named cell (page_part page entry)))
  go None q = rw q tt
  go (Some r) q = rw q (there r (holds_page cell.block log page r q))
