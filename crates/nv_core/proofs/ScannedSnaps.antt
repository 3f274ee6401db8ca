-- What a living snapshot holds by the manifests, and alone, is what it holds by the logs.
use Rattle.std.proofs.Common.{◌≡◌, ◌∙◌, ℕ, ◌<◌, ◌&&◌, ◌==◌, Bool, true, false, cond, not, List, [], ◌∷◌, Option, Some, None, ap, ap₂, arith, filter, map, nat_le, refl, slice_get, sym}
use Rattle.std.specs.Prelude.{is_some}
use Rattle.std.specs.List.{AllByRecursion, Contains, list_any}
use Rattle.std.proofs.lemmas.Bool.{eq-eqb, eqb-true, false≢true}
use Rattle.std.proofs.lemmas.List.Elements.{All-contains}
use Rattle.std.proofs.lemmas.List.Sums.{length-filter, sum_by-cons}
use Rattle.nv_base.specs.declared.geometry.GeometryNumbers.{GeometryNumbers}
use Rattle.nv_book.specs.Listed.{all_records, is_snapshot, kept_by, manifest_told}
use Rattle.nv_book.specs.Manifests.{gain_of, held_of, records_at}
use Rattle.nv_book.specs.Records.{block_count, holder_of, is_born_by, is_held_by, is_page}
use Rattle.nv_book.specs.declared.manifest.Manifest.{Manifest}
use Rattle.nv_book.specs.declared.record.Record.{Record}
use Rattle.nv_book.proofs.Filing.{Removes}
use Rattle.nv_calls.specs.Retiring.{name_of}
use Rattle.nv_cell.specs.Cell.{log_of}
use Rattle.nv_entry.specs.Held.{has_name, holds, is_held}
use Rattle.nv_entry.specs.declared.held.Pair.{Pair}
use Rattle.nv_entry.proofs.Currents.{any_same}
use Rattle.nv_epoch.specs.Holders as holders
use Rattle.nv_epoch.specs.Holders.{IsRising, if_born_by, next_older, without, youngest_holder}
use Rattle.nv_epoch.specs.SnapList.{ids}
use Rattle.nv_epoch.proofs.Last.{contains_first, contains_later, last_passes, none_passes}
use Rattle.nv_machine.specs.Held.{is_of_slot, pending_in}
use Rattle.nv_machine.specs.Recorded.{recorded_in, records_after}
use Rattle.nv_machine.specs.Scanned.{all_pages_that, is_kept_alone, is_kept_for, scanned_gain, scanned_held}
use Rattle.nv_machine.specs.Starts.{IsStart}
use Rattle.nv_machine.specs.Step.{after}
use Rattle.nv_machine.specs.World.{Event, World, cell_at}
use Rattle.nv_machine.proofs.EachElement.{all_filter, all_weaker}
use Rattle.nv_machine.proofs.FiledDrops.{removes}
use Rattle.nv_machine.proofs.FiledHeld.{any_and, any_told, recorded_for}
use Rattle.nv_machine.proofs.FiledLists.{count, count_append}
use Rattle.nv_machine.proofs.EveryWorld.{all_listed}
use Rattle.nv_machine.proofs.WorldFacts.{log_in, recorded_pairs}
use Rattle.nv_machine.proofs.FiledMarks.{IsTold}
use Rattle.nv_core.proofs.AuditCounts.{count_at, count_filter, count_none, none_numbered}
use Rattle.nv_core.proofs.AuditNamed.{in_record}
use Rattle.nv_core.proofs.AuditRecords.{swapped}
use Rattle.nv_core.proofs.ScannedParts.{each_pending, few_records, last_any, named_test, same_holders, told}
use Rattle.nv_core.proofs.ScannedRecords.{and_false, page_records, pairs_in, same_pages}

and_swap : (a b : Bool) → (a && b) ≡ (b && a)
and_swap true true = refl
and_swap true false = refl
and_swap false true = refl
and_swap false false = refl

-- ---- by manifests

block_count_is : (h : Record → Bool) (rs : List Record) → block_count (filter h rs) ≡ count (λ d. is_page d.part && h d) rs
block_count_is h rs =
    sym (length-filter (λ (d : Record). is_page d.part) (filter h rs)) ∙ count_filter (λ (d : Record). is_page d.part) h rs
    ∙ count_at (λ d. h d && is_page d.part) (λ d. is_page d.part && h d) rs (λ i d at. and_swap (h d) (is_page d.part))

manifests_held : (s : ℕ) (ms : List Manifest) → held_of s ms ≡ count (λ d. is_page d.part && is_held_by s d) (all_records ms)
manifests_held s [] = refl
manifests_held s (m ∷ ms) =
    omega (
      arith,
      sum_by-cons (λ (m : Manifest). block_count (filter (is_held_by s) m.records)) m ms,
      block_count_is (is_held_by s) m.records,
      manifests_held s ms,
      count_append (λ d. is_page d.part && is_held_by s d) m.records (all_records ms),
    )

-- ---- what a snapshot holds alone

snapshot_is : (t : ℕ) (o : Option ℕ) → is_snapshot t o ≡ true → o ≡ Some t
snapshot_is t None e = absurd (false≢true e)
snapshot_is t (Some u) e = ap (λ (n : ℕ). Some n) (sym (eqb-true t u e))

module _ (living : List ℕ) (s : ℕ) (rs : List Record) (moves : Removes living s) where
  abbrev older : Option ℕ
  older = next_older living s

  abbrev pub alone : Record → Bool
  alone d = is_held_by s d && not (list_any (λ u. is_held_by u d) (without s living))

  abbrev page_alone : Record → Bool
  page_alone d = is_page d.part && alone d

  others : (d : Record) → list_any (λ u. is_held_by u d) (without s living) ≡ is_some (youngest_holder (without s living) d.birth d.death)
  others d = sym (last_any (holders.holds d.birth d.death) (without s living))

  if_born : (o : Option ℕ) (d : Record) → is_some (if_born_by d.birth o) ≡ is_born_by o d
  if_born None d = refl
  if_born (Some t) d = go (nat_le d.birth t) where
    go : (b : Bool) → is_some (cond b (Some t) None) ≡ b
    go true = refl
    go false = refl

  -- a record of its manifest it holds alone unless the next older snapshot holds it
  own_alone : (d : Record) → holder_of living d ≡ Some s → alone d ≡ not (is_born_by older d)
  own_alone d e =
      ap₂ (λ (a b : Bool). a && not b) (last_passes (holders.holds d.birth d.death) living s e).1
      (others d ∙ ap is_some (moves.own d.birth d.death e) ∙ if_born older d)

  -- and one of another manifest it never holds alone
  other_alone : (t : ℕ) (d : Record) → (t ≡ s → ⊥) → holder_of living d ≡ Some t → alone d ≡ false
  other_alone t d ne e =
      ap (λ (b : Bool). is_held_by s d && not b) (others d ∙ ap is_some (moves.others t d.birth d.death ne e))
      ∙ and_false (is_held_by s d)

  abbrev holder_is : ℕ → Record → Bool
  holder_is t d = is_snapshot t (holder_of living d)

  -- those of one manifest
  gain_here : (t : ℕ) → t ≡ s → block_count (filter (λ d. not (is_born_by older d)) (kept_by t living rs))
      ≡ count page_alone (kept_by t living rs)
  gain_here t e =
      block_count_is (λ d. not (is_born_by older d)) (kept_by t living rs)
      ∙ count_filter (λ d. is_page d.part && not (is_born_by older d)) (holder_is t) rs
      ∙ count_at (λ d. holder_is t d && (is_page d.part && not (is_born_by older d))) (λ d. holder_is t d && page_alone d) rs
      (λ i d at. go d (holder_is t d) refl)
      ∙ sym (count_filter page_alone (holder_is t) rs) where
        go : (d : Record) (b : Bool) → holder_is t d ≡ b
            → (b && (is_page d.part && not (is_born_by older d))) ≡ (b && page_alone d)
        go d false q = refl
        go d true q =
            ap (λ (b : Bool). is_page d.part && b)
            (sym (own_alone d (snapshot_is t (holder_of living d) q ∙ ap (λ (n : ℕ). Some n) e)))

  no_gain : (t : ℕ) → (t ≡ s → ⊥) → count page_alone (kept_by t living rs) ≡ 0
  no_gain t ne =
      count_filter page_alone (holder_is t) rs
      ∙ count_at (λ d. holder_is t d && page_alone d) (λ d. false && false) rs (λ i d at. go d (holder_is t d) refl)
      ∙ none_numbered (λ (d : Record). false) (λ (d : Record). false) rs (λ i d at no. absurd (false≢true no)) where
        go : (d : Record) (b : Bool) → holder_is t d ≡ b → (b && page_alone d) ≡ false
        go d false q = refl
        go d true q =
            ap (λ (b : Bool). is_page d.part && b) (other_alone t d ne (snapshot_is t (holder_of living d) q))
            ∙ and_false (is_page d.part)

  abbrev manifests : List ℕ → List Manifest
  manifests ss = map (manifest_told living rs) ss

  no_gains : (ss : List ℕ) → ((t : ℕ) → Contains ss t → t ≡ s → ⊥) → count page_alone (all_records (manifests ss)) ≡ 0
  no_gains [] ne = refl
  no_gains (t ∷ ss) ne =
      omega (
        arith,
        count_append page_alone (kept_by t living rs) (all_records (manifests ss)),
        no_gain t (ne t (contains_first t ss)),
        no_gains ss (λ u there. ne u (contains_later t ss u there)),
      )

  pub gains : (ss : List ℕ) → IsRising ss → gain_of s older (manifests ss) ≡ count page_alone (all_records (manifests ss))
  gains [] rising = refl
  gains (t ∷ ss) rising = go (t == s) refl (gains ss rising.1) where
    h : Record → Bool
    h d = not (is_born_by older d)

    go : (b : Bool) → (t == s) ≡ b → block_count (filter h (records_at s (manifests ss))) ≡ count page_alone (all_records (manifests ss))
        → block_count (filter h (cond b (kept_by t living rs) (records_at s (manifests ss))))
        ≡ count page_alone (all_records (manifests (t ∷ ss)))
    go true e more =
        let here : t ≡ s = eqb-true t s e in
        omega (
          arith,
          count_append page_alone (kept_by t living rs) (all_records (manifests ss)),
          gain_here t here,
          no_gains ss (λ u there q. let above = All-contains (λ u. t < u) ss u rising.0 there in absurd (omega (arith, here, q, above))),
        )
    go false e more =
        omega (
          arith,
          count_append page_alone (kept_by t living rs) (all_records (manifests ss)),
          no_gain t (λ q. let same : (t == s) ≡ true = eq-eqb t s q in absurd (false≢true (sym e ∙ same))),
          more,
        )

-- ---- every world

module _ (g : GeometryNumbers) (start : World) (records : List Record) (events : List Event) (is_start : IsStart g start records) where
  abbrev w : World
  w = after start events

  abbrev living : List ℕ
  living = ids w.shared.book.snaps

  abbrev filed : List Record
  filed = all_records w.shared.book.manifests

  module _ (s : ℕ) (lives : Contains living s) where
    unheld : AllByRecursion (λ d. is_held_by s d ≡ false) (pending_in w)
    unheld =
        all_weaker (λ d. holder_of living d ≡ None) (λ d. is_held_by s d ≡ false)
        (λ d none. (none_passes (holders.holds d.birth d.death) living none).fails s lives) (pending_in w)
        (each_pending g start records events is_start)

    -- records that pass a test which only held ones pass are the filed ones, as many as the pages that have one
    by_pages : (t : Record → Bool) → ((d : Record) → is_held_by s d ≡ false → t d ≡ false)
        → count (λ d. is_page d.part && t d) filed
        ≡ all_pages_that (λ ino pair. list_any (λ d. t d && in_record ino pair d) (recorded_in w)) w.shared
    by_pages t off =
        let f : Record → Bool = λ d. is_page d.part && t d in
        let none : count f (pending_in w) ≡ 0 =
        count_none f (pending_in w)
        (all_weaker (λ d. is_held_by s d ≡ false) (λ d. f d ≡ false)
        (λ d e. ap (λ (b : Bool). is_page d.part && b) (off d e) ∙ and_false (is_page d.part)) (pending_in w) unheld) in
        let all = count_append f filed (pending_in w) in
        let paged = page_records w t (recorded_in w) (λ ino. log_in g start records events ino is_start)
        (recorded_pairs g start records events is_start) (λ ino n pair got. few_records g start records events is_start ino n pair got) in
        omega (arith, none, all, paged)

    kept_for : (ino n : ℕ) (pair : Pair) → slice_get (pairs_in (cell_at w.shared ino)) n ≡ Some pair
        → list_any (λ d. is_held_by s d && in_record ino pair d) (recorded_in w) ≡ is_kept_for s w ino pair
    kept_for ino n pair got =
        any_same (λ d. is_held_by s d && in_record ino pair d)
        (λ d. is_of_slot ino d && (is_held_by s d && has_name pair (name_of d)))
        (λ d. swapped (is_held_by s d) (is_of_slot ino d) (has_name pair (name_of d))) (recorded_in w)
        ∙ recorded_for g start records events s ino n pair is_start lives got

    pub held_is : held_of s w.shared.book.manifests ≡ scanned_held w s
    held_is =
        manifests_held s w.shared.book.manifests ∙ by_pages (is_held_by s) (λ d e. e)
        ∙ same_pages (λ ino pair. list_any (λ d. is_held_by s d && in_record ino pair d) (recorded_in w)) (is_kept_for s w) w.shared kept_for

    -- a pair is held by others where its records are
    kept_alone : (ino n : ℕ) (pair : Pair) → slice_get (pairs_in (cell_at w.shared ino)) n ≡ Some pair
        → list_any (λ d. (is_held_by s d && not (list_any (λ u. is_held_by u d) (without s living))) && in_record ino pair d)
        (recorded_in w)
        ≡ is_kept_alone s w ino pair
    kept_alone ino n pair got =
        any_told (λ d. (is_held_by s d && not (list_any (λ u. is_held_by u d) (without s living))) && in_record ino pair d)
        (λ d. (is_held_by s d && in_record ino pair d) && mine) (recorded_in w)
        (all_weaker (IsTold living ino (cell_at w.shared ino).block (log_of (cell_at w.shared ino)))
        (λ d. ((is_held_by s d && not (list_any (λ u. is_held_by u d) (without s living))) && in_record ino pair d)
        ≡ ((is_held_by s d && in_record ino pair d) && mine))
        (λ d told_d. go d told_d (in_record ino pair d) refl) (recorded_in w) (told g start records events is_start ino n pair got))
        ∙ any_and (λ d. is_held_by s d && in_record ino pair d) mine (recorded_in w)
        ∙ ap (λ (b : Bool). b && mine) (kept_for ino n pair got) where
          mine : Bool
          mine = not (is_held (without s living) pair)

          and_between : (a b c : Bool) → ((a && b) && true) ≡ ((a && true) && b)
          and_between true true c = refl
          and_between true false c = refl
          and_between false b c = refl

          go : (d : Record) → IsTold living ino (cell_at w.shared ino).block (log_of (cell_at w.shared ino)) d → (r : Bool)
              → in_record ino pair d ≡ r
              → ((is_held_by s d && not (list_any (λ u. is_held_by u d) (without s living))) && r) ≡ ((is_held_by s d && r) && mine)
          go d told_d false q =
              and_false (is_held_by s d && not (list_any (λ u. is_held_by u d) (without s living)))
              ∙ sym (ap (λ (b : Bool). b && mine) (and_false (is_held_by s d)))
          go d told_d true q =
              let same = any_told (λ u. is_held_by u d) (λ u. holds u pair) (without s living)
              (all_filter (λ u. is_held_by u d ≡ holds u pair) (λ t. not (t == s)) living
              (same_holders g start records events is_start ino n pair got d told_d
              (sym (named_test g start records events is_start ino n pair got d) ∙ q))) in
              and_between (is_held_by s d) (not (list_any (λ u. is_held_by u d) (without s living))) true
              ∙ ap (λ (b : Bool). (is_held_by s d && true) && not b) same

    pub gain_is : gain_of s (next_older living s) w.shared.book.manifests ≡ scanned_gain w s
    gain_is =
        let rs = records_after start events records in
        let l = all_listed g start records events is_start in
        let moves = removes living s l.rising in
        let told_by = l.list.manifests_are in
        rw told_by (gains living s rs moves living l.rising)
        ∙ by_pages (alone living s rs moves)
        (λ d e. ap (λ (b : Bool). b && not (list_any (λ u. is_held_by u d) (without s living))) e)
        ∙ same_pages (λ ino pair. list_any (λ d. alone living s rs moves d && in_record ino pair d) (recorded_in w))
        (is_kept_alone s w) w.shared kept_alone
