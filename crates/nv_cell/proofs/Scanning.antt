-- One more entry is taken into an index and marks that are made anew.
use Rattle.std.proofs.Common.{◌≡◌, ℕ, zero, suc, ◌+◌, ◌-◌, ◌<◌, ◌≤◌, ◌==◌, ◌&&◌, ◌∙◌, ◌⊎◌, inl, inr, Bool, true, false, cond, not, nat_lt, List, [], ◌∷◌, ◌++◌, length, take, replicate, arith, refl, ap, sym, subst}
use Rattle.std.specs.Prelude.{slice_index, slice_index_or}
use Rattle.std.proofs.lemmas.Bool.{cases_lt, le-ltb, lt-ltb, ltb-true}
use Rattle.std.proofs.lemmas.Bool.Decides.{nat_tests}
use Rattle.std.proofs.lemmas.List.{ext_get_or, get_or_default}
use Rattle.nv_entry.specs.declared.item.Entry.{Entry}
use Rattle.nv_entry.specs.declared.item.Item.{Item}
use Rattle.nv_entry.specs.Covered.{is_covered, key_at, part_count, part_total}
use Rattle.nv_entry.specs.Keys.{Key, covers}
use Rattle.nv_entry.specs.Log.{IsLog}
use Rattle.nv_entry.specs.Refs.{ref_after, scan_ref}
use Rattle.nv_findex.specs.Pages.{present_from}
use Rattle.nv_log.specs.Chain.{ChainValue}
use Rattle.nv_nindex.specs.declared.binding.Binding.{Binding}
use Rattle.nv_nindex.specs.NameIndex.{HaveSameBindings, Names}
use Rattle.nv_cell.specs.declared.mark.Mark.{Mark}
use Rattle.nv_cell.specs.declared.mark.Mark.TheVariants.{Current, Out}
use Rattle.nv_cell.specs.declared.marks.Marks.{Marks}
use Rattle.nv_cell.specs.declared.scan.Scan.{Scan}
use Rattle.nv_cell.specs.Anew.{birth_at, mark_ended, marks_anew}
use Rattle.nv_cell.specs.Cell.{mark_or_fresh}
use Rattle.nv_cell.specs.Index.{IndexValue, NamesAfter, bindings_of, ref_of}
use Rattle.nv_cell.specs.Marks.{mark_at}
use Rattle.nv_cell.specs.Numbers.{is_named, part_base, times}
use Rattle.nv_cell.specs.Plan.{HaveEnds, IsScanned}
use Rattle.nv_cell.specs.Runs.{AreRuns, IsInRun, start_at}
use Rattle.nv_cell.specs.Tallies.{SameCapacity, end_at, is_in}
use Rattle.nv_cell.specs.Weights.{weight, weight_by}
use Rattle.nv_cell.proofs.Bound.{bound_push}
use Rattle.nv_cell.proofs.Cells.{base_rises, in_dies, times_at}
use Rattle.nv_cell.proofs.MarksAnew.{birth_is, len_anew, mark_next, mark_then}
use Rattle.nv_cell.proofs.Publishing.{IsScan, front_key, named_is, scan_push, take_next}
use Rattle.nv_cell.proofs.Weighing.{weight_more}

-- ---- births

birth_front : (es : List Entry) (t n : ℕ) → n < part_total (take t es) → birth_at es n ≡ birth_at (take t es) n
birth_front es zero n lt = absurd (omega (arith, lt))
birth_front [] (suc t) n lt = absurd (omega (arith, lt))
birth_front (x ∷ es) (suc t) n lt = go (cases_lt n (part_count x)) (λ low. birth_front es t (n - part_count x) low) where
  go : (n < part_count x) ⊎ (part_count x ≤ n)
      → (n - part_count x < part_total (take t es) → birth_at es (n - part_count x) ≡ birth_at (take t es) (n - part_count x))
      → birth_at (x ∷ es) n ≡ birth_at (x ∷ take t es) n
  go (inl here) rest = rw (lt-ltb n (part_count x) here) refl
  go (inr past) rest = rw (le-ltb n (part_count x) past) (rest (omega (arith, lt, past)))

-- ---- the parts that an entry ends

module _ (block : ℕ) (es : List Entry) (t : ℕ) (e : Entry) (index : IndexValue) (is : IsScan block es t index) (ns : List ℕ)
    (counted : (n : ℕ) → times n ns ≡ cond (is_named es index n && covers block e.item (key_at es n)) 1 0) where
  abbrev ends_by : ℕ → Bool
  ends_by n = (nat_lt n (part_total (take t es)) && not (is_covered block (take t es) n)) && covers block e.item (key_at es n)

  pub ended_are : (n : ℕ) → is_in n ns ≡ ends_by n
  ended_are n =
      in_dies n ns (is_named es index n && covers block e.item (key_at es n)) (counted n)
      ∙ ap (λ b. b && covers block e.item (key_at es n)) (named_is block es t index is n)

  low_by : (n : ℕ) → 1 ≤ times n ns → n < part_total (take t es)
  low_by n some = go (is_named es index n) refl (counted n) where
    first : (a b : Bool) → (a && b) ≡ true → a ≡ true
    first true b h = refl
    first false b h = cc

    go : (b : Bool) → is_named es index n ≡ b → times n ns ≡ cond (b && covers block e.item (key_at es n)) 1 0
        → n < part_total (take t es)
    go true q k =
        ltb-true n (part_total (take t es)) (first (nat_lt n (part_total (take t es))) (not (is_covered block (take t es) n))
        (sym (named_is block es t index is n) ∙ q))
    go false q k = absurd (omega (arith, some, k))

  pub ended_low : (i : ℕ) → i < length ns → slice_index ns i < part_base es t
  ended_low i lt = low_by (slice_index ns i) (times_at ns i lt)

-- ---- the marks

module _ (block : ℕ) (living : List ℕ) (chain : ChainValue) (tail t : ℕ) (e : Entry) (old : Scan) (log : IsLog chain.state.entries)
    (next : t < tail) (few : tail ≤ length chain.state.entries) (at : e ≡ slice_index_or chain.state.entries t e)
    (scanned : IsScanned block living chain tail t old) where
  abbrev es : List Entry
  es = chain.state.entries

  so_far : IsScan block es t old.index
  so_far = record { log = log; scan = scanned.refs }

  abbrev front : List Entry
  front = take t es

  more : take (t + 1) es ≡ front ++ e ∷ []
  more = take_next es t e (omega (arith, next, few)) at

  module _ (ns : List ℕ) (counted : (n : ℕ) → times n ns ≡ cond (is_named es old.index n && covers block e.item (key_at es n)) 1 0)
      (marks : List Mark)
      (set : (n : ℕ) → mark_at marks n
      ≡ cond (is_in n ns) (mark_ended living (birth_at es n) e.epoch) (mark_at old.marks.marks.items n)) where
    marks_more : (n : ℕ) → n < part_base es tail
        → mark_at marks n ≡ mark_or_fresh (marks_anew living block (take (t + 1) es)) n
    marks_more n lt = go (nat_lt n (part_total front)) refl ∙ ap (λ xs. mark_or_fresh (marks_anew living block xs) n) (sym more) where
      was : Mark
      was = mark_at old.marks.marks.items n

      covered : Bool
      covered = is_covered block front n

      go : (b : Bool) → nat_lt n (part_total front) ≡ b → mark_at marks n ≡ mark_or_fresh (marks_anew living block (front ++ e ∷ [])) n
      go true q =
          let low = ltb-true n (part_total front) q in
          let ends = (nat_lt n (part_total front) && not covered) && covers block e.item (key_at front n) in
          set n ∙ ap (λ b. mark_then living b (birth_at es n) e.epoch was) (ended_are block es t e old.index so_far ns counted n)
          ∙ ap (λ k. mark_then living ((nat_lt n (part_total front) && not covered) && covers block e.item k) (birth_at es n) e.epoch was)
          (front_key es t n low)
          ∙ ap (λ birth. mark_then living ends birth e.epoch was) (birth_front es t n low)
          ∙ ap (mark_then living ends (birth_at front n) e.epoch) (scanned.marks n lt)
          ∙ sym (mark_next living block front e n)
      go false q =
          set n ∙ ap (λ b. mark_then living b (birth_at es n) e.epoch was) (ended_are block es t e old.index so_far ns counted n
          ∙ ap (λ b. (b && not covered) && covers block e.item (key_at es n)) q)
          ∙ scanned.marks n lt
          ∙ sym (mark_next living block front e n
          ∙ ap (λ b. mark_then living ((b && not covered) && covers block e.item (key_at front n)) (birth_at front n) e.epoch
          (mark_or_fresh (marks_anew living block front) n)) q)

    -- ONE MORE ENTRY
    pub scan_more : (new : Scan) (names : Names) → ((key : Key) → ref_of new.index key ≡ ref_after block e key (ref_of old.index key))
        → names.names ≡ old.index.names.names → NamesAfter e.id e.item names new.index.names
        → new.marks.marks.items ≡ marks → HaveEnds chain new.marks → length marks ≡ length old.marks.marks.items
        → IsScanned block living chain tail (t + 1) new
    scan_more new names refs same after are ends len = record {
      refs = λ key. refs key ∙ ap (ref_after block e key) (scanned.refs key) ∙ sym (scan_push block front e key)
          ∙ ap (λ xs. scan_ref block xs key) (sym more);
      names = subst (λ (xs : List Entry). HaveSameBindings (bindings_of xs) new.index.names.names) (sym more)
          (bound_push front e names new.index.names after
          (subst (λ (bs : List (List ℕ × Binding)). HaveSameBindings (bindings_of front) bs) (sym same) scanned.names));
      ends = ends;
      len = ap length are ∙ len ∙ scanned.len;
      marks = λ n lt. ap (λ ms. mark_at ms n) are ∙ marks_more n lt;
    }

-- ---- what it asks for

-- room for what an item kills, by what is reserved for it
pub weight_few : (block : ℕ) (index : IndexValue) (item : Item)
    → weight_by block index item
    ≤ weight block (λ from. present_from from index.pages.pages + 0) (length index.names.names) item
weight_few block index item =
    weight_more block (λ from. present_from from index.pages.pages) (λ from. present_from from index.pages.pages + 0)
    (length index.names.names) (length index.names.names) item (λ from. omega arith) (omega arith)

-- where the parts of the first entries end, also of all
pub base_at : (ends : List ℕ) (es : List Entry) (len : ℕ) → ((i : ℕ) → i < len → end_at ends i ≡ part_base es (i + 1)) → (i : ℕ)
    → i ≤ len → start_at ends i ≡ part_base es i
base_at ends es len h zero le = refl
base_at ends es len h (suc i) le =
    let a : (suc i == 0) ≡ false = grind (arith, nat_tests) in
    let b : suc i - 1 ≡ i = omega arith in
    let d : i + 1 ≡ suc i = omega arith in
    rw (a, b) (rw d at (h i (omega (arith, le))))

-- ends of entries' parts are runs
pub part_runs : (es : List Entry) (ends : List ℕ) (n : ℕ) → length ends ≡ length es
    → ((i : ℕ) → i < length es → end_at ends i ≡ part_base es (i + 1)) → n < part_total es → AreRuns ends (n + 1)
part_runs es ends n len ended lt = record {
  rising = λ i j le within. omega (
    arith,
    ended i (omega (arith, le, within, len)),
    ended j (omega (arith, within, len)),
    base_rises es (i + 1) (j + 1) (omega (arith, le)),
  );
  all = λ m few. (some, omega (arith, few, lt, last, ended (length ends - 1) (omega (arith, some, len))));
} where
  some : 0 < length ends
  some = omega (arith, len, there es lt) where
    there : (xs : List Entry) → n < part_total xs → 0 < length xs
    there [] h = absurd (omega (arith, h))
    there (x ∷ xs) h = omega arith

  last : part_base es (length ends - 1 + 1) ≡ part_total es
  last =
      let all : length ends - 1 + 1 ≡ length es = omega (arith, some, len) in
      ap (part_base es) all ∙ ap part_total (whole es)
    where
      whole : (xs : List Entry) → take (length xs) xs ≡ xs
      whole [] = refl
      whole (x ∷ xs) = ap (λ ys. x ∷ ys) (whole xs)

-- the entry in whose run a part is tells its birth
pub born_in : (chain : ChainValue) (n i : ℕ) (e : Entry) (marks : Marks) → HaveEnds chain marks → IsInRun marks.ends.items n i
    → i < length chain.state.entries → e ≡ slice_index_or chain.state.entries i e → birth_at chain.state.entries n ≡ e.epoch
born_in chain n i e marks have run lt at =
    birth_is chain.state.entries i n e lt at (omega (arith, have.ends.first i lt, run.start)) (omega (arith, have.ended i lt, run.end))

-- where parts end stays told as marks change
pub same_ends : (chain : ChainValue) (old new : Marks) → HaveEnds chain old → new.ends ≡ old.ends → SameCapacity old new
    → HaveEnds chain new
same_ends chain old new have e room = record {
  ends = rw e have.ends;
  len = rw e have.len;
  ended = rw e have.ended;
  ends_room = omega (arith, have.ends_room, room.ends);
  tallies_room = omega (arith, have.tallies_room, room.tallies);
  pages_room = omega (arith, have.pages_room, room.pages);
}

-- all are current before the first entry
pub fresh_by : (living : List ℕ) (block count n : ℕ) (es : List Entry) → n < count
    → mark_at (replicate count Current) n ≡ mark_or_fresh (marks_anew living block (take 0 es)) n
fresh_by living block zero n es lt = absurd (omega (arith, lt))
fresh_by living block (suc count) zero es lt = refl
fresh_by living block (suc count) (suc n) es lt = fresh_by living block count n es (omega (arith, lt))

-- and all are told once the last one is in
pub scanned_all : (living : List ℕ) (block : ℕ) (log : List Entry) (marks : List Mark) → length marks ≡ part_total log
    → ((n : ℕ) → n < part_total log → mark_at marks n ≡ mark_or_fresh (marks_anew living block log) n)
    → marks ≡ marks_anew living block log
scanned_all living block log marks len is =
    ext_get_or Out marks (marks_anew living block log) (len ∙ sym (len_anew living block log)) (λ n lt. is n (omega (arith, lt, len))
    ∙ get_or_default (marks_anew living block log) n Current Out (omega (arith, lt, len, len_anew living block log)))
