-- The pages of a file by the runs of its index.
use Rattle.std.proofs.Common.{◌≡◌, ℕ, ◌+◌, ◌-◌, ◌<◌, ◌≤◌, ◌^◌, min, List, length, take, Option, Some, None, arith, refl, ap, sym, ◌∙◌, slice_index_or, inl, inr}
use Rattle.std.specs.Prelude.{option_and_then, unwrap_or}
use Rattle.std.specs.Option.{IsSome, option_map}
use Rattle.std.proofs.lemmas.Bool.{cases_lt}
use Rattle.std.proofs.lemmas.List.{length-replicate}
use Rattle.nv_alloc.specs.Block.{BlockValue}
use Rattle.nv_base.specs.declared.limits.TheConstants.{FILE_PAGES}
use Rattle.nv_entry.specs.declared.item.Entry.{Entry}
use Rattle.nv_entry.specs.Covered.{part_total}
use Rattle.nv_entry.specs.Keys.{PageKey}
use Rattle.nv_findex.specs.declared.page_ref.PageRef.{PageRef}
use Rattle.nv_findex.specs.declared.page_run.PageRun.{PageRun}
use Rattle.nv_findex.specs.Pages.{IsRun, IsRunFrom, IsRunOf, ref_at, run_ref}
use Rattle.nv_log.specs.Chain.{place_of_id}
use Rattle.nv_cell.specs.declared.read.Stretch.{Stretch}
use Rattle.nv_cell.specs.declared.tally.Tally.{Tally}
use Rattle.nv_cell.specs.Cell.{AreSlotsSized}
use Rattle.nv_cell.specs.Index.{IndexValue, page_part, ref_of}
use Rattle.nv_cell.specs.Numbers.{number, number_at, part_base}
use Rattle.nv_cell.specs.Pages.{IsStretch, page_now, slot_bytes}
use Rattle.nv_cell.specs.Slots.{page_slot, slot, slot_base}
use Rattle.nv_cell.specs.Tallies.{first_slot}
use Rattle.nv_cell.proofs.Cells.{base_rises}
use Rattle.nv_cell.proofs.FirstSlots.{slot_few}
use Rattle.nv_cell.proofs.Numbers.{scan_key}
use Rattle.nv_cell.proofs.Publishing.{IsScan, are_named, by_number}

-- ---- the bytes of a page

-- each page has as many bytes as a block
pub full_page : (block : ℕ) (slots : List (Option BlockValue)) (numbers : ℕ → Option ℕ) (page : ℕ) → AreSlotsSized block slots
    → length (page_now block slots numbers page) ≡ block
full_page block slots numbers page sized = go (numbers page) where
  at : (n : ℕ) (slot : Option BlockValue) → slice_index_or slots n None ≡ slot → length (slot_bytes block slot) ≡ block
  at n None q = length-replicate {A = ℕ} block 0
  at n (Some b) q = sized n b q

  go : (o : Option ℕ) → length (slot_bytes block (option_and_then (λ n. slice_index_or slots n None) o)) ≡ block
  go None = length-replicate {A = ℕ} block 0
  go (Some n) = at n (slice_index_or slots n None) refl

-- ---- the stretch of a run

-- the slot of a page in a run, and that the log has more parts
pub page_found : (block : ℕ) (es : List Entry) (t : ℕ) (index : IndexValue) (tallies : List Tally) (run : PageRun) (page : ℕ)
    → IsScan block es t index → ((i : ℕ) → i < t → first_slot tallies i ≡ slot_base es i)
    → IsRunOf (ref_at index.pages.pages) run → run.first ≤ page → page < run.end
    → (page_slot es index page
    ≡ Some (first_slot tallies (unwrap_or (place_of_id es run.start.entry) 0) + run.start.place + (page - run.first)))
    × (first_slot tallies (unwrap_or (place_of_id es run.start.entry) 0) + run.start.place + (page - run.first) < part_total (take t es))
page_found block es t index tallies run page scan bases is ge lt =
    let place = unwrap_or (place_of_id es run.start.entry) 0 in
    let n = part_base es place + (run.start.place + (page - run.first) + 1) in
    let q : number_at es index (PageKey page) ≡ Some n =
    ap (λ (o : Option PageRef). option_map (number es) (option_map page_part o)) (is.pages page ge lt) in
    let k = slot_base es place + (run.start.place + (page - run.first) + 1 - 1) in
    let s : page_slot es index page ≡ Some k =
    ap (λ (o : Option PageRef). option_map (slot es) (option_map page_part o)) (is.pages page ge lt) in
    let low = (scan_key block (take t es) (PageKey page) n (sym (by_number block es t index scan (PageKey page)) ∙ q)).0 in
    elim (cases_lt place t) [
      | inl within ↦
          let same : k ≡ first_slot tallies place + run.start.place + (page - run.first) = omega (arith, bases place within) in
          (s ∙ ap Some same, omega (arith, low, same, slot_few es place))
      | inr past ↦ absurd (omega (arith, low, base_rises es t place past))
    ]

-- the entry of a run is one of the chain's
pub run_known : (block : ℕ) (es : List Entry) (t : ℕ) (index : IndexValue) (run : PageRun) → IsScan block es t index
    → IsRunOf (ref_at index.pages.pages) run → IsSome (place_of_id es run.start.entry)
run_known block es t index run scan is =
    let r : ref_of index (PageKey run.first) ≡ Some (page_part (run_ref run run.first)) =
    ap (option_map page_part) (is.pages run.first (omega arith) is.some) in
    ((are_named block es t index scan).parts (PageKey run.first) (page_part (run_ref run run.first)) r).entry

pub stretch_is : (block : ℕ) (es : List Entry) (t : ℕ) (index : IndexValue) (tallies : List Tally) (run : PageRun) (from page : ℕ)
    → IsScan block es t index → ((i : ℕ) → i < t → first_slot tallies i ≡ slot_base es i)
    → part_total (take t es) < 2 ^ 64 → IsRunFrom from (ref_at index.pages.pages) (Some run) → IsRun run → from ≡ min page FILE_PAGES
    → IsStretch (page_slot es index) page
    (record { first = run.first; end = run.end; slot = first_slot tallies (unwrap_or (place_of_id es run.start.entry) 0) + run.start.place })
stretch_is block es t index tallies run from page scan bases small is good at =
    let last =
    page_found block es t index tallies run (run.end - 1) scan bases is.0 (omega (arith, good.some)) (omega (arith, good.some)) in
    let same : from ≡ page = omega (arith, at, is.1, good.within) in
    record {
      ahead = omega (arith, same, is.1);
      small = omega (arith, last.1, good.some, small);
      absent =
          λ p ge lt. ap (λ (o : Option PageRef). option_map (slot es) (option_map page_part o)) (is.2 p (omega (arith, ge, same)) lt);
      present = λ p ge lt. (page_found block es t index tallies run p scan bases is.0 ge lt).0;
    }

pub no_stretch_is : (es : List Entry) (index : IndexValue) (from page : ℕ) → IsRunFrom from (ref_at index.pages.pages) None
    → from ≡ min page FILE_PAGES → page + 1 < 2 ^ 64
    → IsStretch (page_slot es index) page (record { first = 2 ^ 64 - 1; end = 2 ^ 64 - 1; slot = 0 })
no_stretch_is es index from page is at small = record {
  ahead = omega (arith, small);
  small = omega arith;
  absent = λ p ge lt. ap (λ (o : Option PageRef). option_map (slot es) (option_map page_part o)) (is p (omega (arith, ge, at)));
  present = λ p ge lt. absurd (omega (arith, ge, lt));
}

-- a stretch is one from a later page on, as far as it goes
pub stretch_on : (numbers : ℕ → Option ℕ) (page : ℕ) (s : Stretch) → IsStretch numbers page s → page + 1 < s.end
    → IsStretch numbers (page + 1) s
stretch_on numbers page s h lt = record {
  ahead = lt;
  small = h.small;
  absent = λ p ge l. h.absent p (omega (arith, ge)) l;
  present = h.present;
}
