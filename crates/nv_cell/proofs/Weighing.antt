-- How many parts items kill at most.
use Rattle.std.proofs.Common.{◌≡◌, ℕ, ◌+◌, ◌-◌, ◌*◌, ◌<◌, ◌≤◌, ◌&&◌, Bool, true, false, cond, nat_lt, nat_le, List, [], ◌∷◌, ◌++◌, length, filter, Option, Some, None, arith, refl, ap, sym, ◌∙◌, subst, length-append, min, take, slice_index_or, inl, inr}
use Rattle.std.specs.Prelude.{is_some, not}
use Rattle.std.specs.List.{sum_by}
use Rattle.std.specs.Option.{option_map}
use Rattle.std.proofs.Math.Nat.{add-mul, mul-le-mul_left}
use Rattle.std.proofs.lemmas.Bool.{cases_lt}
use Rattle.std.proofs.lemmas.List.Sums.{sum_by-cons}
use Rattle.std.proofs.lemmas.List.{take_more}
use Rattle.std.proofs.lemmas.List.{length-map}
use Rattle.std.proofs.lemmas.List.Filters.{length-filter_both}
use Rattle.nv_base.specs.Names.{same_name}
use Rattle.nv_entry.specs.declared.item.Entry.{Entry}
use Rattle.nv_entry.specs.declared.item.Item.{Item}
use Rattle.nv_entry.specs.declared.item.Item.TheVariants.{Init, Write, SetSize, SetMode, Bind, Unbind, Gone}
use Rattle.nv_entry.specs.declared.names.BoundName.{BoundName}
use Rattle.nv_entry.specs.declared.part_ref.PartRef.{PartRef}
use Rattle.nv_entry.specs.Bindings.{NamesDiffer}
use Rattle.nv_entry.specs.Index.{names_after, names_of, without}
use Rattle.nv_entry.specs.declared.key.Datum.TheVariants as datum
use Rattle.nv_entry.specs.declared.key.Setting.TheVariants.{Untouched, Absent, Present}
use Rattle.nv_entry.specs.Keys.{Key, PageKey, is_page, is_past, pages_for, sets}
use Rattle.nv_entry.specs.Refs.{left_by, part_ref, place_in, scan_ref}
use Rattle.nv_entry.proofs.NameLookup.{names_differ}
use Rattle.nv_entry.proofs.Values.{names_of-push}
use Rattle.nv_findex.specs.declared.page_ref.PageRef.{PageRef}
use Rattle.nv_findex.specs.Pages.{how_many, present_from, ref_at}
use Rattle.nv_nindex.specs.declared.binding.Binding.{Binding}
use Rattle.nv_nindex.specs.NameIndex.{AreDistinct, HaveSameBindings}
use Rattle.nv_nindex.proofs.Order.{counted}
use Rattle.nv_cell.specs.Index.{IndexValue, bindings_of, page_part, ref_of}
use Rattle.nv_cell.specs.Reading.{named}
use Rattle.nv_cell.specs.Weights.{killed_at_most, names_added, pages_added, parts_set, present_in, takes_out, weight, weight_by, weights, weights_by, weights_in}
use Rattle.nv_cell.proofs.Counting.{how_many_added, how_many_same, how_many_split}
use Rattle.nv_cell.proofs.NamesNow.{distinct, names_are}
use Rattle.nv_cell.proofs.Publishing.{scan_push}

-- ---- more pages and names weigh no less

pub weight_more : (block : ℕ) (pages more : ℕ → ℕ) (names bound : ℕ) (item : Item) → ((from : ℕ) → pages from ≤ more from) → names ≤ bound
    → weight block pages names item ≤ weight block more bound item
weight_more block pages more names bound (SetSize size) h le = omega (arith, h (pages_for block size))
weight_more block pages more names bound Gone h le = omega (arith, h 0, le)
weight_more block pages more names bound (Init kind mode) h le = omega arith
weight_more block pages more names bound (Write first run size) h le = omega arith
weight_more block pages more names bound (SetMode mode) h le = omega arith
weight_more block pages more names bound (Bind name to) h le = omega arith
weight_more block pages more names bound (Unbind name) h le = omega arith

pub weights_more : (block : ℕ) (pages more : ℕ → ℕ) (names bound : ℕ) (items : List Item) → ((from : ℕ) → pages from ≤ more from)
    → names ≤ bound
    → weights block pages names items ≤ weights block more bound items
weights_more block pages more names bound [] h le = omega arith
weights_more block pages more names bound (item ∷ later) h le =
    let a = weight_more block pages more names bound item h le in
    let b =
    weights_more block (λ from. pages from + pages_added item) (λ from. more from + pages_added item) (names + names_added item)
    (bound + names_added item) later (λ from. omega (arith, h from)) (omega (arith, le)) in
    omega (arith, a, b)

-- ---- a log with one more entry

abbrev first_of : Item → ℕ
first_of (Write first run size) = first
first_of item = 0

one_page : (block : ℕ) (own : PartRef) (item : Item) (before : Option PartRef) (page : ℕ)
    → cond (is_some (left_by (sets block item (PageKey page)) own before)) 1 0
    ≤ cond (is_some before) 1 0 + cond (nat_le (first_of item) page && nat_lt page (first_of item + pages_added item)) 1 0
one_page block own (Write first run size) before page = go (nat_le first page) (nat_lt page (first + run.len)) (is_page page) where
  go : (a b c : Bool)
      → cond (is_some (left_by (cond (a && b && c) (Present (datum.Block (run.start + (page - first)))) Untouched) own before)) 1 0
      ≤ cond (is_some before) 1 0 + cond (a && b) 1 0
  go true true true = omega arith
  go true true false = omega arith
  go true false c = omega arith
  go false b c = omega arith
one_page block own (SetSize size) before page = go (is_past block size page) where
  go : (b : Bool)
      → cond (is_some (left_by (cond b Absent Untouched) own before)) 1 0
      ≤ cond (is_some before) 1 0 + cond (nat_le 0 page && nat_lt page (0 + 0)) 1 0
  go true = omega arith
  go false = omega arith
one_page block own Gone before page = go (is_page page) where
  go : (b : Bool)
      → cond (is_some (left_by (cond b Absent Untouched) own before)) 1 0
      ≤ cond (is_some before) 1 0 + cond (nat_le 0 page && nat_lt page (0 + 0)) 1 0
  go true = omega arith
  go false = omega arith
one_page block own (Init kind mode) before page = omega arith
one_page block own (SetMode mode) before page = omega arith
one_page block own (Bind name to) before page = omega arith
one_page block own (Unbind name) before page = omega arith

present_push : (block : ℕ) (log : List Entry) (e : Entry) (from : ℕ)
    → present_in block (log ++ e ∷ []) from ≤ present_in block log from + pages_added e.item
present_push block log e from =
    how_many_added (λ page. is_some (scan_ref block (log ++ e ∷ []) (PageKey page))) (λ page. is_some (scan_ref block log (PageKey page)))
    (first_of e.item) (pages_added e.item)
    (λ page. rw (scan_push block log e (PageKey page))
    (one_page block (part_ref e.id (place_in e.item (PageKey page))) e.item (scan_ref block log (PageKey page)) page))
    from (65536 - from)

few_left : {X : Type 0} (test : X → Bool) (xs : List X) → length (filter test xs) ≤ length xs
few_left test xs = omega (arith, length-filter_both test (λ x. not (test x)) (λ x. refl) xs)

few_names : (item : Item) (list : List BoundName) → length (names_after item list) ≤ length list + names_added item
few_names (Bind name to) list =
    omega (
      arith,
      length-append (without name list) ((record { name = name; to = to }) ∷ []),
      few_left
          (λ (bound : BoundName). not (same_name name bound.name)) list,
    )
few_names (Unbind name) list = omega (arith, few_left (λ (bound : BoundName). not (same_name name bound.name)) list)
few_names Gone list = omega arith
few_names (Init kind mode) list = omega arith
few_names (Write first run size) list = omega arith
few_names (SetSize size) list = omega arith
few_names (SetMode mode) list = omega arith

names_push : (log : List Entry) (e : Entry) → length (names_of (log ++ e ∷ [])) ≤ length (names_of log) + names_added e.item
names_push log e = rw (names_of-push log e) (few_names e.item (names_of log))

-- what follows an entry weighs no more behind it than it did with the entry
pub weights_push : (block : ℕ) (log : List Entry) (e : Entry) (later : List Item)
    → weight block (present_in block log) (length (names_of log)) e.item + weights_in block (log ++ e ∷ []) later
    ≤ weights_in block log (e.item ∷ later)
weights_push block log e later =
    let h =
    weights_more block (present_in block (log ++ e ∷ [])) (λ from. present_in block log from + pages_added e.item)
    (length (names_of (log ++ e ∷ []))) (length (names_of log) + names_added e.item) later
    (λ from. present_push block log e from) (names_push log e) in
    omega (arith, h)

-- ---- no more than is current or set

none_past : (test : ℕ → Bool) (from : ℕ) → how_many test from 0 ≡ 0
unfolding how_many
none_past test from = refl

present_fewer : (block : ℕ) (log : List Entry) (from : ℕ) → present_in block log from ≤ present_in block log 0
present_fewer block log from = elim (cases_lt 65536 from) [
  | inl past ↦ let none : 65536 - from ≡ 0 = omega (arith, past) in rw none (omega (arith, none_past (λ page. is_some (scan_ref block log (PageKey page))) from))
  | inr within ↦
      let sum : from + (65536 - from) ≡ 65536 = omega (arith, within) in
      let here : 0 + from ≡ from = omega arith in
      let test : ℕ → Bool = λ page. is_some (scan_ref block log (PageKey page)) in
      omega (arith, rw (sum, here) at (how_many_split test 0 from (65536 - from)))
]

weight_most : (block : ℕ) (pages : ℕ → ℕ) (names top : ℕ) (item : Item) → ((from : ℕ) → pages from ≤ top)
    → weight block pages names item ≤ parts_set item + takes_out item * (3 + top + names)
weight_most block pages names top (Init kind mode) h = omega arith
weight_most block pages names top (Write first run size) h = omega arith
weight_most block pages names top (SetSize size) h = omega (arith, h (pages_for block size))
weight_most block pages names top (SetMode mode) h = omega arith
weight_most block pages names top (Bind name to) h = omega arith
weight_most block pages names top (Unbind name) h = omega arith
weight_most block pages names top Gone h = omega (arith, h 0)

added_most : (item : Item) → pages_added item + names_added item ≤ parts_set item
added_most (Init kind mode) = omega arith
added_most (Write first run size) = omega arith
added_most (SetSize size) = omega arith
added_most (SetMode mode) = omega arith
added_most (Bind name to) = omega arith
added_most (Unbind name) = omega arith
added_most Gone = omega arith

both_most : (w later own rest out outs here there all : ℕ) → w ≤ own + out * here → later ≤ rest + outs * there → here ≤ all → there ≤ all
    → w + later ≤ own + rest + (out + outs) * all
both_most w later own rest out outs here there all a b le more =
    omega (arith, a, b, mul-le-mul_left out le, mul-le-mul_left outs more, add-mul out outs all)

weights_most : (block : ℕ) (pages : ℕ → ℕ) (names top : ℕ) (items : List Item) → ((from : ℕ) → pages from ≤ top)
    → weights block pages names items ≤ sum_by parts_set items + sum_by takes_out items * (3 + top + names + sum_by parts_set items)
weights_most block pages names top [] h = omega arith
weights_most block pages names top (item ∷ later) h =
    let own = sum_by-cons parts_set item later in
    let out = sum_by-cons takes_out item later in
    let added = added_most item in
    let rest =
    weights_most block (λ from. pages from + pages_added item) (names + names_added item) (top + pages_added item) later
    (λ from. omega (arith, h from)) in
    rw (own, out)
    (both_most (weight block pages names item)
    (weights block (λ from. pages from + pages_added item) (names + names_added item) later)
    (parts_set item) (sum_by parts_set later) (takes_out item) (sum_by takes_out later) (3 + top + names)
    (3 + (top + pages_added item) + (names + names_added item) + sum_by parts_set later)
    (3 + top + names + (parts_set item + sum_by parts_set later))
    (weight_most block pages names top item h) rest (omega arith) (omega (arith, added)))

pub kills_are_few : (block : ℕ) (log : List Entry) (items : List Item) → weights_in block log items ≤ killed_at_most block log items
kills_are_few block log items =
    weights_most block (present_in block log) (length (names_of log)) (present_in block log 0) items (present_fewer block log)

-- ---- an index of a log

pub page_some : (o : Option PageRef) → is_some o ≡ is_some (option_map page_part o)
page_some None = refl
page_some (Some at) = refl

pub present_is : (block : ℕ) (log : List Entry) (index : IndexValue) → ((key : Key) → ref_of index key ≡ scan_ref block log key)
    → (from : ℕ)
    → present_from from index.pages.pages ≡ present_in block log from
present_is block log index scan from =
    how_many_same (λ page. is_some (ref_at index.pages.pages page)) (λ page. is_some (scan_ref block log (PageKey page)))
    (λ page. page_some (ref_at index.pages.pages page) ∙ ap (λ (o : Option PartRef). is_some o) (scan (PageKey page)))
    from (65536 - from)

pub names_count : (log : List Entry) (names : List (List ℕ × Binding)) → HaveSameBindings (bindings_of log) names → AreDistinct names
    → length names ≡ length (names_of log)
names_count log names same differ =
    counted names (bindings_of log) (λ name. sym (same name)) differ
    (distinct (bindings_of log) (subst NamesDiffer (names_are log) (names_differ log)))
    ∙ sym (ap length (names_are log) ∙ length-map (bindings_of log) named)

pub weight_is : (block : ℕ) (log : List Entry) (index : IndexValue) (item : Item)
    → ((key : Key) → ref_of index key ≡ scan_ref block log key)
    → HaveSameBindings (bindings_of log) index.names.names → AreDistinct index.names.names
    → weight_by block index item ≤ weight block (present_in block log) (length (names_of log)) item
weight_is block log index item scan same differ =
    weight_more block (λ from. present_from from index.pages.pages) (present_in block log) (length index.names.names)
    (length (names_of log)) item
    (λ from. omega (arith, present_is block log index scan from)) (omega (arith, names_count log index.names.names same differ))

pub weights_are : (block : ℕ) (log : List Entry) (index : IndexValue) (items : List Item)
    → ((key : Key) → ref_of index key ≡ scan_ref block log key)
    → HaveSameBindings (bindings_of log) index.names.names → AreDistinct index.names.names
    → weights_in block log items ≤ weights_by block index items
weights_are block log index items scan same differ =
    weights_more block (present_in block log) (λ from. present_from from index.pages.pages) (length (names_of log))
    (length index.names.names) items
    (λ from. omega (arith, present_is block log index scan from)) (omega (arith, names_count log index.names.names same differ))

pub weights_were : (block : ℕ) (log : List Entry) (index : IndexValue) (items : List Item)
    → ((key : Key) → ref_of index key ≡ scan_ref block log key)
    → HaveSameBindings (bindings_of log) index.names.names → AreDistinct index.names.names
    → weights_by block index items ≤ weights_in block log items
weights_were block log index items scan same differ =
    weights_more block (λ from. present_from from index.pages.pages) (present_in block log) (length index.names.names)
    (length (names_of log)) items
    (λ from. omega (arith, present_is block log index scan from)) (omega (arith, names_count log index.names.names same differ))

-- ---- one more item

weight_same : (block : ℕ) (pages other : ℕ → ℕ) (names bound : ℕ) (item : Item) → ((from : ℕ) → pages from ≡ other from) → names ≡ bound
    → weight block pages names item ≡ weight block other bound item
weight_same block pages other names bound item h q =
    omega (
      arith,
      weight_more block pages other names bound item (λ from. omega (arith, h from)) (omega (arith, q)),
      weight_more block other pages bound names item (λ from. omega (arith, h from)) (omega (arith, q)),
    )

weights_last : (block : ℕ) (pages : ℕ → ℕ) (names : ℕ) (items : List Item) (item : Item) → weights block pages names (items ++ item ∷ [])
    ≡ weights block pages names items + weight block (λ from. pages from + sum_by pages_added items) (names + sum_by names_added items) item
weights_last block pages names [] item =
    omega (arith, weight_same block pages (λ from. pages from + 0) names (names + 0) item (λ from. omega arith) (omega arith))
weights_last block pages names (x ∷ items) item =
    omega (
      arith,
      weights_last block (λ from. pages from + pages_added x) (names + names_added x) items item,
      weight_same block (λ from. pages from + pages_added x + sum_by pages_added items)
          (λ from. pages from + sum_by pages_added (x ∷ items))
          (names + names_added x + sum_by names_added items) (names + sum_by names_added (x ∷ items)) item
          (λ from. omega (arith, sum_by-cons pages_added x items)) (omega (arith, sum_by-cons names_added x items)),
    )

pub weights_next : (block : ℕ) (pages : ℕ → ℕ) (names : ℕ) (items : List Item) (i : ℕ) (item : Item) → i < length items
    → item ≡ slice_index_or items i item
    → weights block pages names (take (i + 1) items)
    ≡ weights block pages names (take i items) + weight block (λ from. pages from + sum_by pages_added (take i items))
    (names + sum_by names_added (take i items)) item
weights_next block pages names items i item lt is =
    rw (take_more items i item lt) (rw (← is) (weights_last block pages names (take i items) item))

-- numbers that are counted up to a greatest one
pub weight_capped : (block most : ℕ) (pages : ℕ → ℕ) (added names : ℕ) (item : Item)
    → min (weight block (λ from. pages from + min added most) (min names most) item) most
    ≡ min (weight block (λ from. pages from + added) names item) most
weight_capped block most pages added names (SetSize size) = omega arith
weight_capped block most pages added names Gone = omega arith
weight_capped block most pages added names (Init kind mode) = refl
weight_capped block most pages added names (Write first run size) = refl
weight_capped block most pages added names (SetMode mode) = refl
weight_capped block most pages added names (Bind name to) = refl
weight_capped block most pages added names (Unbind name) = refl
