-- The marks of a cleaned cell tell what they told: of its parts, each under its new number.
use Rattle.std.proofs.Common.{◌≡◌, ◌∙◌, ℕ, ◌≤◌, ◌&&◌, Bool, true, false, List, [], ◌∷◌, ap, arith, refl, sym}
use Rattle.std.specs.List.{AllByRecursion}
use Rattle.std.proofs.lemmas.Bool.{false≢true}
use Rattle.nv_book.specs.Records.{is_held_by}
use Rattle.nv_book.specs.declared.record.Record.{Record}
use Rattle.nv_calls.specs.Retiring.{name_of}
use Rattle.nv_cell.specs.Cell.{CellState, log_of}
use Rattle.nv_cell.specs.Cleaned.{HasDeadPair, was_number}
use Rattle.nv_cell.specs.Marks.{bit, is_killed, is_there, mark_at}
use Rattle.nv_cell.specs.declared.mark.Mark.{Mark}
use Rattle.nv_cell.specs.declared.mark.Mark.TheVariants.{Kept}
use Rattle.nv_entry.specs.Held.{Retention, holds}
use Rattle.nv_entry.specs.Log.{IsLog}
use Rattle.nv_machine.specs.Held.{is_of_slot}
use Rattle.nv_machine.specs.Recorded.{is_marked_kept}
use Rattle.nv_machine.proofs.CleanedCells.{Cleans}
use Rattle.nv_machine.proofs.EachElement.{all_with}
use Rattle.nv_machine.proofs.FiledLists.{count, count_cons, count_same, one}
use Rattle.nv_machine.proofs.FiledMarks.{AreMarks, IsTold, bit_is, is_filed_on}
use Rattle.nv_machine.proofs.Lists.{self}
use Rattle.nv_machine.proofs.Pairs.{record_number}

-- each of a list is counted in it
each_counted : (P Q : Record → Type 0) (rs : List Record)
    → ((d : Record) → ((p : Record → Bool) → one (p d) ≤ count p rs) → P d → Q d) → AllByRecursion P rs → AllByRecursion Q rs
each_counted P Q [] f all = tt
each_counted P Q (d ∷ rs) f all = (
  f d (λ p. omega (arith, count_cons p d rs)) all.0,
  each_counted P Q rs (λ e le. f e (λ p. omega (arith, count_cons p d rs, le p))) all.1,
)

all_alike : (p q : Record → Bool) → ((d : Record) → p d ≡ q d) → (rs : List Record) → AllByRecursion (λ d. p d ≡ q d) rs
all_alike p q same [] = tt
all_alike p q same (d ∷ rs) = (same d, all_alike p q same rs)

kept_there : (m : Mark) → is_marked_kept m ≡ true → is_there m ≡ true
kept_there Kept e = refl
kept_there other e = absurd (false≢true e)

module _ (r : Retention) (flags : List Bool) (old new : CellState) (c : Cleans r flags old new) (ino epoch : ℕ) (rs : List Record)
    (is : IsLog (log_of old)) (m : AreMarks r.snapshots ino epoch [] rs old.block (log_of old) old.marks) where
  abbrev was : ℕ → ℕ
  was n = was_number flags old n

  -- a record is of a part that is marked kept, so that its pair is there still
  still_told : (d : Record) → ((p : Record → Bool) → one (p d) ≤ count p rs)
      → IsTold r.snapshots ino old.block (log_of old) d → IsTold r.snapshots ino new.block (log_of new) d
  still_told d le told mine =
      let o = told mine in
      let dead : HasDeadPair r.snapshots old.block (log_of old) (name_of d) d.birth (λ s. is_held_by s d) = record {
        n = o.n;
        pair = o.pair;
        is = o.is;
        name = o.name;
        birth_is = o.birth_is;
        died = o.died;
        holders = o.holders;
      } in
      let its : is_filed_on ino (log_of old) o.n d ≡ true =
      rw (mine, self ino, record_number r.snapshots old.block (log_of old) d is o) (self o.n) in
      let kept : is_marked_kept (mark_at old.marks o.n) ≡ true =
      bit_is (is_marked_kept (mark_at old.marks o.n))
      (omega (arith, le (is_filed_on ino (log_of old) o.n), ap one its, m.kept_are o.n)) in
      let now = c.records.recorded (name_of d) d.birth (λ s. is_held_by s d) dead (kept_there (mark_at old.marks o.n) kept) in
      record {
        n = now.n;
        pair = now.pair;
        is = now.is;
        name = now.name;
        birth_is = now.birth_is;
        died = now.died;
        holders = now.holders;
      }

  pub cleaned_marks : AreMarks r.snapshots ino epoch [] rs new.block (log_of new) new.marks
  cleaned_marks = record {
    len = c.nodes.marks.len;
    current = c.nodes.marks.current;
    killed_are = λ n. m.killed_are (was n) ∙ ap (λ (x : Mark). bit (is_killed x)) (sym (c.records.marks n));
    kept_are = λ n.
        count_same (is_filed_on ino (log_of new) n) (is_filed_on ino (log_of old) (was n)) rs
        (all_alike (is_filed_on ino (log_of new) n) (is_filed_on ino (log_of old) (was n))
        (λ d. ap (λ (b : Bool). is_of_slot ino d && b) (c.records.names (name_of d) n)) rs)
        ∙ m.kept_are (was n) ∙ ap (λ (x : Mark). bit (is_marked_kept x)) (sym (c.records.marks n));
    dying = tt;
    told = each_counted (IsTold r.snapshots ino old.block (log_of old)) (IsTold r.snapshots ino new.block (log_of new)) rs
        still_told m.told;
    out = λ n pair got mark.
        let w = c.records.pairs n pair got in
        all_with (λ s. holds s pair ≡ holds s w.old) (λ s. holds s w.old ≡ false) (λ s. holds s pair ≡ false)
        (λ s same none. same ∙ none) r.snapshots w.holders (m.out (was n) w.old w.is (sym (c.records.marks n) ∙ mark));
  }
