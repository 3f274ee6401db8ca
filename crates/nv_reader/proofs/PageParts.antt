-- The parts that hold pages, with one more entry in front.
use Rattle.std.proofs.Common.{◌≡◌, ℕ, ◌+◌, ◌-◌, ◌<◌, ◌≤◌, ◌&&◌, ◌||◌, not, Bool, true, false, cond, List, [], ◌∷◌, Option, Some, None, arith, refl, ap, sym, ◌∙◌}
use Rattle.std.specs.Prelude.{min, nat_le, nat_lt}
use Rattle.std.specs.Int.{div_ceil}
use Rattle.std.specs.Option.{is_some, option_map, option_or}
use Rattle.std.proofs.lemmas.Bool.Decides.{nat_tests}
use Rattle.nv_base.specs.declared.numbers.EntryId.{EntryId}
use Rattle.nv_entry.specs.declared.item.Entry.{Entry}
use Rattle.nv_entry.specs.declared.item.Item.TheVariants.{Write, SetSize}
use Rattle.nv_entry.specs.declared.item.BlockRun.{BlockRun}
use Rattle.nv_entry.specs.declared.key.Datum.{Datum}
use Rattle.nv_entry.specs.declared.key.Datum.TheVariants.{Block}
use Rattle.nv_entry.specs.declared.key.Setting.{Setting}
use Rattle.nv_entry.specs.declared.key.Setting.TheVariants.{Untouched, Absent, Present}
use Rattle.nv_entry.specs.declared.part_ref.PartRef.{PartRef}
use Rattle.nv_entry.specs.Covered.{any_cover}
use Rattle.nv_entry.specs.Keys.{PageKey, is_page, sets, touches}
use Rattle.nv_entry.specs.Refs.{left_by, part_ref, place_in, scan_ref}
use Rattle.nv_entry.proofs.Nodes.{present_in_file}
use Rattle.nv_entry.proofs.Refs.{scan_ref-cons}
use Rattle.nv_reader.specs.Blocks.{page_writer}

-- no part holds a page that no file has
ref_past : (block page : ℕ) (log : List Entry) → 65536 ≤ page → scan_ref block log (PageKey page) ≡ None
ref_past block page [] past = refl
ref_past block page (e ∷ later) past =
    scan_ref-cons block e later (PageKey page)
    ∙ go (any_cover block later (PageKey page)) (sets block e.item (PageKey page)) refl (ref_past block page later past)
  where
    own : PartRef
    own = part_ref e.id (place_in e.item (PageKey page))

    go : (b : Bool) (s : Setting) → sets block e.item (PageKey page) ≡ s → scan_ref block later (PageKey page) ≡ None
        → cond b (scan_ref block later (PageKey page)) (left_by s own None) ≡ None
    go true s set rest = rest
    go false Untouched set rest = refl
    go false Absent set rest = refl
    go false (Present value) set rest = absurd (omega (arith, past, present_in_file block e.item (PageKey page) value set))

pub writer_past : (block page : ℕ) (log : List Entry) → 65536 ≤ page → page_writer block log page ≡ None
writer_past block page log past = ap (option_map (λ (r : PartRef). r.entry)) (ref_past block page log past)

file_page : (p : ℕ) → p < 65536 → is_page p ≡ true
file_page p lt = grind (arith, nat_tests)

below_both : (p end cut : ℕ) → nat_lt p (min end cut) ≡ (nat_lt p end && not (nat_le cut p))
below_both p end cut = grind (arith, nat_tests)

past_one : (p end cut : ℕ) → nat_le (min cut end) p ≡ (nat_le end p || nat_le cut p)
past_one p end cut = grind (arith, nat_tests)

abbrev writer : Option PartRef → Option EntryId
writer o = option_map (λ (r : PartRef). r.entry) o

-- what a Write leaves of a page's entry, where `a` and `b` say that the page is not before or behind its run, and `c`
-- that it is cut off later
put_once : (a b c : Bool) (value : Datum) (part : Option PartRef) (own : PartRef)
    → cond (a && (b && not c)) (option_or (writer part) (Some own.entry)) (writer part)
    ≡ writer (cond (is_some (writer part) || c) part (left_by (cond ((a && b) && true) (Present value) Untouched) own None))
put_once true true true value (Some r) own = refl
put_once true true false value (Some r) own = refl
put_once true false c value (Some r) own = refl
put_once false b c value (Some r) own = refl
put_once true true true value None own = refl
put_once true true false value None own = refl
put_once true false true value None own = refl
put_once true false false value None own = refl
put_once false b true value None own = refl
put_once false b false value None own = refl

told_once : (a b c : Bool) (value : Datum) (slot : Option EntryId) (own : EntryId)
    → (touches (cond ((a && b) && true) (Present value) Untouched) || (is_some slot || c))
    ≡ (is_some (cond (a && (b && not c)) (option_or slot (Some own)) slot) || c)
told_once true true true value (Some r) own = refl
told_once true true false value (Some r) own = refl
told_once true false c value (Some r) own = refl
told_once false b c value (Some r) own = refl
told_once true true true value None own = refl
told_once true true false value None own = refl
told_once true false c value None own = refl
told_once false b c value None own = refl

kept_once : (past c : Bool) (part : Option PartRef) (own : PartRef)
    → writer part ≡ writer (cond (is_some (writer part) || c) part (left_by (cond past Absent Untouched) own None))
kept_once past c (Some r) own = refl
kept_once past true None own = refl
kept_once true false None own = refl
kept_once false false None own = refl

cut_once : (past c : Bool) (slot : Option EntryId)
    → (touches (cond (past && true) Absent Untouched) || (is_some slot || c)) ≡ (is_some slot || (past || c))
cut_once true c (Some r) = refl
cut_once false c (Some r) = refl
cut_once true c None = refl
cut_once false c None = refl

-- what is known of a page by the entries behind a place: the entry that holds it, and whether one there covers it
pub record IsTold (block : ℕ) (later : List Entry) (cut p : ℕ) (slot : Option EntryId) : Type 0 where
  pub writer : slot ≡ page_writer block later p
  pub told : any_cover block later (PageKey p) ≡ (is_some slot || nat_le cut p)

pub told_write : (block : ℕ) (e : Entry) (later : List Entry) (first size cut p : ℕ) (run : BlockRun) (slot : Option EntryId)
    → e.item ≡ Write first run size → p < 65536 → IsTold block later cut p slot
    → IsTold block (e ∷ later) cut p
    (cond (nat_le first p && nat_lt p (min (first + run.len) cut)) (option_or slot (Some e.id)) slot)
told_write block e later first size cut p run slot is lt h =
    let a = nat_le first p in
    let b = nat_lt p (first + run.len) in
    let c = nat_le cut p in
    let part = scan_ref block later (PageKey p) in
    let own : PartRef = part_ref e.id (p - first + 1) in
    let value : Datum = Block (run.start + (p - first)) in
    let told : any_cover block later (PageKey p) ≡ (is_some (writer part) || c) = h.told
    ∙ ap (λ (o : Option EntryId). is_some o || c) h.writer in
    let test : (a && nat_lt p (min (first + run.len) cut))
    ≡ (a && (b && not c)) = ap (λ (x : Bool). a && x) (below_both p (first + run.len) cut) in
    let held : cond (a && nat_lt p (min (first + run.len) cut)) (option_or slot (Some e.id)) slot
    ≡ cond (a && (b && not c)) (option_or slot (Some e.id)) slot =
    ap (λ (x : Bool). cond x (option_or slot (Some e.id)) slot) test in
    record {
      writer = held ∙ ap (λ (o : Option EntryId). cond (a && (b && not c)) (option_or o (Some e.id)) o) h.writer
          ∙ put_once a b c value part own
          ∙ sym (ap writer (scan_ref-cons block e later (PageKey p)) ∙ rw (is, told, file_page p lt) refl);
      told = rw (is, h.told, file_page p lt) (told_once a b c value slot e.id ∙ ap (λ (o : Option EntryId). is_some o || c) (sym held));
    }

pub told_cut : (block : ℕ) (e : Entry) (later : List Entry) (size cut p : ℕ) (slot : Option EntryId)
    → e.item ≡ SetSize size → p < 65536 → IsTold block later cut p slot → IsTold block (e ∷ later) (min cut (div_ceil size block)) p slot
told_cut block e later size cut p slot is lt h =
    let c = nat_le cut p in
    let past = nat_le (div_ceil size block) p in
    let part = scan_ref block later (PageKey p) in
    let own : PartRef = part_ref e.id 0 in
    let told : any_cover block later (PageKey p) ≡ (is_some (writer part) || c) = h.told
    ∙ ap (λ (o : Option EntryId). is_some o || c) h.writer in
    record {
      writer = h.writer ∙ kept_once (past && true) c part own
          ∙ sym (ap writer (scan_ref-cons block e later (PageKey p)) ∙ rw (is, told, file_page p lt) refl);
      told = rw (is, h.told, file_page p lt)
          (cut_once past c slot ∙ ap (λ (x : Bool). is_some slot || x) (sym (past_one p (div_ceil size block) cut)));
    }
