-- What follows from the marks after one part has another mark.
use Rattle.std.proofs.Common.{◌≡◌, ℕ, zero, suc, ◌+◌, ◌-◌, ◌<◌, ◌≤◌, Bool, true, false, List, [], ◌∷◌, ◌++◌, length, replicate, arith, refl, ap, ◌∙◌, slice_set, slice_index_or}
use Rattle.std.specs.Prelude.{count_by}
use Rattle.std.proofs.lemmas.Bool.{lt-ltb}
use Rattle.nv_cell.specs.declared.mark.Mark.{Mark}
use Rattle.nv_cell.specs.declared.mark.Mark.TheVariants.{Current, Out}
use Rattle.nv_cell.specs.declared.tally.LogPageCounts.{LogPageCounts}
use Rattle.nv_cell.specs.declared.tally.Tally.{Tally}
use Rattle.nv_cell.specs.Marks.{bit, is_current, is_there, mark_at}
use Rattle.nv_cell.specs.Tallies.{AreRuns, AreTallied, AreTallies, IsInRun, counts_at, first_slot, no_counts, is_valid, moved, no_tally, recounted, tally_at, with_entry}
use Rattle.nv_cell.specs.declared.marks.Marks.{Marks}
use Rattle.std.specs.Vec.{with_item}
use Rattle.std.specs.Global.{Vec}
use Rattle.nv_cell.proofs.Runs.{at_index, count_change, count_cons}
use Rattle.nv_cell.proofs.Tallies.{add_counts, add_tallies, bit_cond, count_all, counted, new_counts, new_tallies}

pub there_within : (marks : List Mark) (n : ℕ) → is_there (mark_at marks n) ≡ true → n < length marks
there_within [] n h = cc
there_within (m ∷ marks) zero h = omega arith
there_within (m ∷ marks) (suc n) h = let r = there_within marks n h in omega arith

-- the entry's tally counts the part
pub record Counts (marks : List Mark) (t : Tally) (was : Mark) : Type 0 where
  pub current : bit (is_current was) ≤ t.current
  pub there : bit (is_there was) ≤ t.there

pub counts : (tallies : List Tally) (ends : List ℕ) (marks : List Mark) (i n : ℕ) → AreTallies tallies ends marks → IsInRun ends n i
    → n < length marks → Counts marks (tally_at tallies i) (mark_at marks n)
counts tallies ends marks i n h at lt = record {
  current = counted is_current Out marks ends i n (tally_at tallies i).current refl (h.current i at.within) lt at.start at.end;
  there = counted is_there Out marks ends i n (tally_at tallies i).there refl (h.there i at.within) lt at.start at.end;
}

-- an entry with a part that is there is valid
pub valid_there : (t : Tally) (was : Mark) → bit (is_there was) ≤ t.there → is_there was ≡ true → is_valid t ≡ true
valid_there t was h there = lt-ltb 0 t.there (rw there at h)

-- how many parts are there, after one has gone to another mark
pub there_now : (marks : List Mark) (n : ℕ) (mark : Mark) (there : ℕ) → is_there (mark_at marks n) ≡ true → there ≡ count_by is_there marks
    → there + bit (is_there mark) ≡ count_by is_there (slice_set marks n mark) + 1
there_now marks n mark there h is =
    let e = rw h at (count_change is_there Out marks n mark (there_within marks n h)) in
    omega (arith, e, is, bit_cond (is_there mark))

pub there_falls : (marks : List Mark) (n : ℕ) (mark : Mark) (there : ℕ) → is_there (mark_at marks n) ≡ true
    → there ≡ count_by is_there marks
    → is_there mark ≡ false → there - 1 + 1 ≡ there + bit (is_there mark)
there_falls marks n mark there h is q =
    let e = rw q at (there_now marks n mark there h is) in
    rw q (omega (arith, e))

-- a part of a log's marks that is read with its entry's tally
pub record IsRead (m : Marks) (n i : ℕ) (was : Mark) (old : Tally) : Type 0 where
  pub run : IsInRun m.ends.items n i
  pub part : n < length m.marks.items
  pub entry : i < length m.tallies.items
  pub was_is : was ≡ mark_at m.marks.items n
  pub old_is : old ≡ tally_at m.tallies.items i
  pub counts : Counts m.marks.items old was

pub reads : (m : Marks) {n i : ℕ} {ends : List ℕ} {was : Mark} {old : Tally} → AreTallies m.tallies.items m.ends.items m.marks.items
    → is_there (mark_at m.marks.items n) ≡ true → ends ≡ m.ends.items → IsInRun ends n i
    → was ≡ slice_index_or m.marks.items n was → old ≡ slice_index_or m.tallies.items i old → IsRead m n i was old
reads m {n} {i} {ends} {was} {old} h there same at was_at old_at =
    let run : IsInRun m.ends.items n i = rw same at at in
    let lt : n < length m.marks.items = there_within m.marks.items n there in
    let li : i < length m.tallies.items = omega (arith, run.within, h.len) in
    let w : was ≡ mark_at m.marks.items n = at_index m.marks.items n was Out was_at lt in
    let o : old ≡ tally_at m.tallies.items i = at_index m.tallies.items i old no_tally old_at li in
    record {
      run = run;
      part = lt;
      entry = li;
      was_is = w;
      old_is = o;
      counts =
          rw (w, o) (counts m.tallies.items m.ends.items m.marks.items i n h run lt);
    }

-- a part gets another mark, and its entry's tally and its page's counts go along
pub set_tallied : {m : Marks} {page_ends : List ℕ} {n i k : ℕ} {was : Mark} {old t : Tally} {before c : LogPageCounts}
    (mark : Mark) (there : ℕ)
    → AreTallied m page_ends
    → IsRead m n i was old → is_there (mark_at m.marks.items n) ≡ true → IsInRun page_ends i k
    → t ≡ moved old was mark → before ≡ slice_index_or m.pages.items k before → c ≡ recounted before old t
    → there + 1 ≡ m.there + bit (is_there mark)
    → AreTallied (record m {
      marks = with_item m.marks n mark;
      tallies = with_item m.tallies i t;
      pages = with_item m.pages k c;
      there =
          there;
    }) page_ends
set_tallied {m} {page_ends} {n} {i} {k} {was} {old} {t} {before} {c} mark there h r lives at t_is before_at c_is there_is =
    let lk : k < length m.pages.items = omega (arith, at.within, h.counts.len) in
    let b : before ≡ counts_at m.pages.items k = at_index m.pages.items k before no_counts before_at lk in
    let e : t ≡ moved (tally_at m.tallies.items i) (mark_at m.marks.items n) mark = t_is ∙ rw (r.old_is, r.was_is) refl in
    let d : c ≡ recounted (counts_at m.pages.items k) (tally_at m.tallies.items i) t = c_is ∙ rw (b, r.old_is) refl in
    record {
      tallies = rw e (new_tallies m.tallies.items m.ends.items m.marks.items i n mark h.tallies r.run.within r.run.start r.run.end r.part);
      counts = rw d (new_counts m.tallies.items page_ends m.pages.items i k t h.counts at.within at.start at.end r.entry);
      there = omega (arith, there_is, there_now m.marks.items n mark m.there lives h.there);
    }

count_append : {X : Type 0} (test : X → Bool) (xs ys : List X) → count_by test (xs ++ ys) ≡ count_by test xs + count_by test ys
count_append test [] ys = omega arith
count_append test (x ∷ xs) ys = omega (arith, count_cons test x (xs ++ ys), count_cons test x xs, count_append test xs ys)

-- one more entry, with parts that are all current
pub add_tallied : (m : Marks) (page_ends : List ℕ) (k parts : ℕ) (t : Tally) (before c : LogPageCounts) (marks : Vec Mark) (ends : Vec ℕ)
    (tallies : Vec Tally) → AreTallied m page_ends
    → IsInRun page_ends (length m.tallies.items) k → AreRuns page_ends (length m.tallies.items + 1)
    → t.current ≡ parts → t.there ≡ parts → t.slots_end ≡ first_slot m.tallies.items (length m.tallies.items) + (parts - 1)
    → marks.items ≡ m.marks.items ++ replicate parts Current → ends.items ≡ m.ends.items ++ (length m.marks.items + parts) ∷ []
    → tallies.items ≡ m.tallies.items ++ t ∷ [] → before ≡ slice_index_or m.pages.items k before → c ≡ with_entry before t
    → AreTallied (record { marks = marks; ends = ends; tallies = tallies; pages = with_item m.pages k c; there = m.there + parts })
    page_ends
add_tallied m page_ends k parts t before c marks ends tallies h at runs current there slots marks_is ends_is tallies_is before_at c_is =
    let lk : k < length m.pages.items = omega (arith, at.within, h.counts.len) in
    let b : before ≡ counts_at m.pages.items k = at_index m.pages.items k before no_counts before_at lk in
    record {
      tallies = rw (marks_is, ends_is, tallies_is)
          (add_tallies m.tallies.items t m.ends.items m.marks.items parts h.tallies current there slots);
      counts =
          rw tallies_is (add_counts m.tallies.items page_ends m.pages.items k t c h.counts at.within at.start at.end runs
          (rw (c_is, b) refl) (rw (c_is, b) refl));
      there =
          omega (
            arith,
            ap (count_by is_there) marks_is,
            count_append is_there m.marks.items
                (replicate parts Current),
            count_all is_there Current parts refl,
            h.there,
          );
    }
