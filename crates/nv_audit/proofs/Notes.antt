-- What journals have noted: no inode twice, and the tails that it leaves.
use Rattle.std.proofs.Common.{◌≡◌, ℕ, zero, suc, ◌+◌, ◌<◌, ◌≤◌, ◌==◌, ◌&&◌, ◌++◌, inl, inr, Bool, true, false, cond, not, nat_le, nat_lt, List, [], ◌∷◌, length, drop, get_or, map, set, Some, refl, ap, ap₂, arith, sym, subst, ◌∙◌}
use Rattle.std.specs.Prelude.{All, slice_index_or}
use Rattle.std.specs.List.{find, list_all}
use Rattle.std.specs.Option.{option_map}
use Rattle.std.proofs.lemmas.Bool.{and_parts, cases_lt, eqb-false, eqb-true, false≢true, ltb-true}
use Rattle.std.proofs.lemmas.List.{drop_all, drop_more, get_or-map, get_or-set_other, get_or-set_same, get_or_past, length-map, length-set}
use Rattle.nv_alloc.specs.Numbers.{times}
use Rattle.nv_alloc.proofs.Lists.{times-no, times-yes}
use Rattle.nv_journal.specs.Journal.{noted_or, settled_tail, tail_noted}
use Rattle.nv_journal.specs.declared.old_tail.OldTail.{OldTail}
use Rattle.nv_audit.specs.Blocks.{AreOnceBelow}
use Rattle.nv_audit.specs.Image.{ImageValue, SlotImageValue, all_notes, no_slot, slot_of}
use Rattle.nv_audit.specs.Mounted.{are_apart, is_note_good}
use Rattle.nv_audit.specs.MountedLogs.{AreNoted, noted_tail}
use Rattle.nv_audit.specs.Tree.{IsOnce}
use Rattle.nv_audit.proofs.Counting.{times_first}

-- ---- apart

abbrev pub inos : List OldTail → List ℕ
inos notes = map (λ (note : OldTail). note.ino) notes

abbrev is_other : ℕ → OldTail → Bool
is_other ino other = not (other.ino == ino)

none_of : (ino : ℕ) (notes : List OldTail) → list_all (is_other ino) notes ≡ true → times ino (inos notes) ≡ 0
none_of ino [] all = refl
none_of ino (note ∷ notes) all = go (note.ino == ino) refl all (none_of ino notes) where
  go : (b : Bool) → (note.ino == ino) ≡ b → (not b && list_all (is_other ino) notes) ≡ true
      → (list_all (is_other ino) notes ≡ true → times ino (inos notes) ≡ 0) → times ino (inos (note ∷ notes)) ≡ 0
  go true q e more = absurd (false≢true e)
  go false q e more = times-no ino note.ino (inos notes) q ∙ more e

all_others : (ino : ℕ) (notes : List OldTail) → times ino (inos notes) ≡ 0 → list_all (is_other ino) notes ≡ true
all_others ino [] none = refl
all_others ino (note ∷ notes) none = go (note.ino == ino) refl (all_others ino notes) where
  go : (b : Bool) → (note.ino == ino) ≡ b → (times ino (inos notes) ≡ 0 → list_all (is_other ino) notes ≡ true)
      → (not b && list_all (is_other ino) notes) ≡ true
  go true q more = absurd (let yes = times-yes ino note.ino (inos notes) q in omega (arith, yes, none))
  go false q more = more (sym (times-no ino note.ino (inos notes) q) ∙ none)

pub once_if_apart : (notes : List OldTail) → are_apart notes ≡ true → IsOnce (inos notes)
once_if_apart [] apart n = omega arith
once_if_apart (note ∷ notes) apart n = go (note.ino == n) refl (λ rest. once_if_apart notes rest n) where
  parts : (list_all (is_other note.ino) notes ≡ true) × (are_apart notes ≡ true)
  parts = and_parts (list_all (is_other note.ino) notes) (are_apart notes) apart

  go : (b : Bool) → (note.ino == n) ≡ b → (are_apart notes ≡ true → times n (inos notes) ≤ 1) → times n (inos (note ∷ notes)) ≤ 1
  go true q more =
      let none = none_of note.ino notes parts.0 in
      let same : times n (inos notes) ≡ times note.ino (inos notes) = ap (λ (k : ℕ). times k (inos notes)) (sym (eqb-true note.ino n q)) in
      let one = times-yes n note.ino (inos notes) q in omega (arith, none, same, one)
  go false q more =
      let no = times-no n note.ino (inos notes) q in
      let rest = more parts.1 in omega (arith, no, rest)

pub apart_if_once : (notes : List OldTail) → IsOnce (inos notes) → are_apart notes ≡ true
apart_if_once [] once = refl
apart_if_once (note ∷ notes) once =
    ap₂ (λ (a b : Bool). a && b)
    (all_others note.ino notes (let first = times_first note.ino (inos notes) in let most = once note.ino in omega (arith, first, most)))
    (apart_if_once notes (λ n. less n (note.ino == n) refl))
  where
    less : (n : ℕ) (b : Bool) → (note.ino == n) ≡ b → times n (inos notes) ≤ 1
    less n true q = let yes = times-yes n note.ino (inos notes) q in let most = once n in omega (arith, yes, most)
    less n false q = let no = times-no n note.ino (inos notes) q in let most = once n in omega (arith, no, most)

-- ---- a note is of a slot

pub note_inside : (image : ImageValue) (note : OldTail) → is_note_good image note ≡ true → note.ino < length image.slots
note_inside image note good =
    elim (cases_lt note.ino (length image.slots)) [
      | inl lt ↦ lt
      | inr from ↦
          absurd (let slot : SlotImageValue = slot_of image note.ino in
          let pages = ltb-true 0 (length slot.chain.pages)
          (and_parts (nat_lt 0 (length slot.chain.pages)) (nat_le note.tail slot.chain.tail) good).0 in
          let none = ap (λ (s : SlotImageValue). length s.chain.pages) (get_or_past image.slots note.ino no_slot (omega (arith, from))) in
          omega (arith, pages, none))
    ]

pub notes_inside : (image : ImageValue) (notes : List OldTail) → list_all (is_note_good image) notes ≡ true
    → All (λ (note : OldTail). note.ino < length image.slots) notes
notes_inside image [] good k d lt = absurd (omega (arith, lt))
notes_inside image (note ∷ notes) good zero d lt =
    note_inside image note (and_parts (is_note_good image note) (list_all (is_note_good image) notes) good).0
notes_inside image (note ∷ notes) good (suc k) d lt =
    notes_inside image notes (and_parts (is_note_good image note) (list_all (is_note_good image) notes) good).1 k d (omega (arith, lt))

inside_times : (slots : ℕ) (notes : List OldTail) → All (λ (note : OldTail). note.ino < slots) notes → (n : ℕ)
    → 1 ≤ times n (inos notes) → n < slots
inside_times slots [] all n some = absurd (let none : 1 ≤ 0 = some in omega (arith, none))
inside_times slots (note ∷ notes) all n some =
    go (note.ino == n) refl (inside_times slots notes (λ k d lt. all (suc k) d (omega (arith, lt))) n) where
      go : (b : Bool) → (note.ino == n) ≡ b → (1 ≤ times n (inos notes) → n < slots) → n < slots
      go true q more = subst (λ (k : ℕ). k < slots) (eqb-true note.ino n q) (all 0 note (omega arith))
      go false q more = more (let no = times-no n note.ino (inos notes) q in omega (arith, no, some))

pub once_below : (slots : ℕ) (notes : List OldTail) → All (λ (note : OldTail). note.ino < slots) notes → are_apart notes ≡ true
    → AreOnceBelow slots (inos notes)
once_below slots notes all apart = record { within = inside_times slots notes all; once = once_if_apart notes apart }

-- the inode of a note at a place
pub ino_at : (notes : List OldTail) (i : ℕ) (note : OldTail) → i < length notes → note ≡ get_or notes i note
    → note.ino ≡ get_or (inos notes) i note.ino
ino_at notes i note lt at =
    ap (λ (x : OldTail). x.ino) at ∙ sym (get_or-map (λ (x : OldTail). x.ino) notes i note note.ino lt)

pub as_many : (notes : List OldTail) → length (inos notes) ≡ length notes
as_many notes = length-map notes (λ (x : OldTail). x.ino)

-- ---- tails by notes

noted_append : (first later : List OldTail) (ino tail : ℕ)
    → noted_tail (first ++ later) ino tail ≡ noted_tail first ino (noted_tail later ino tail)
noted_append [] later ino tail = refl
noted_append (note ∷ first) later ino tail = go (note.ino == ino) (noted_append first later ino tail) where
  go : (b : Bool) → noted_tail (first ++ later) ino tail ≡ noted_tail first ino (noted_tail later ino tail)
      → noted_or (option_map (λ t. t.tail) (cond b (Some note) (find (λ t. t.ino == ino) (first ++ later)))) tail
      ≡ noted_or (option_map (λ t. t.tail) (cond b (Some note) (find (λ t. t.ino == ino) first))) (noted_tail later ino tail)
  go true more = refl
  go false more = more

pub settled_by_notes : (journals : List (List OldTail)) (ino tail : ℕ)
    → settled_tail journals ino tail ≡ noted_tail (all_notes journals) ino tail
settled_by_notes [] ino tail = refl
settled_by_notes (tails ∷ journals) ino tail =
    ap (noted_or (tail_noted tails ino)) (settled_by_notes journals ino tail)
    ∙ sym (noted_append tails (all_notes journals) ino tail)

-- one more note is put, from the last one back
pub noted_first : (note : OldTail) (notes : List OldTail) (old tails : List ℕ) → note.ino < length old → AreNoted notes old tails
    → AreNoted (note ∷ notes) old (set tails note.ino note.tail)
noted_first note notes old tails inside are = record {
  len = length-set tails note.ino note.tail ∙ are.len;
  each = λ ino lt. go ino lt (note.ino == ino) refl;
} where
  go : (ino : ℕ) → ino < length old → (b : Bool) → (note.ino == ino) ≡ b
      → slice_index_or (set tails note.ino note.tail) ino 0
      ≡ noted_or (option_map (λ t. t.tail) (cond b (Some note) (find (λ t. t.ino == ino) notes))) (slice_index_or old ino 0)
  go ino lt true q =
      ap (λ (k : ℕ). slice_index_or (set tails note.ino note.tail) k 0) (sym (eqb-true note.ino ino q))
      ∙ get_or-set_same tails note.ino note.tail 0 (omega (arith, inside, are.len))
  go ino lt false q =
      get_or-set_other tails note.ino ino note.tail 0 (λ (same : ino ≡ note.ino). eqb-false note.ino ino q (sym same)) ∙ are.each ino lt

pub noted_none : (old : List ℕ) (notes : List OldTail) (n : ℕ) → length notes ≤ n → AreNoted (drop n notes) old old
noted_none old notes n past =
    subst (λ (ts : List OldTail). AreNoted ts old old) (sym (drop_all n notes past)) (record { len = refl; each = λ ino lt. refl })

pub noted_step : (notes : List OldTail) (old tails : List ℕ) (i n : ℕ) (note : OldTail) → i + 1 ≡ n → i < length notes
    → note ≡ get_or notes i note → note.ino < length old → AreNoted (drop n notes) old tails
    → AreNoted (drop i notes) old (set tails note.ino note.tail)
noted_step notes old tails i n note next lt at inside are =
    subst (λ (ts : List OldTail). AreNoted ts old (set tails note.ino note.tail)) (sym behind)
    (noted_first note (drop n notes) old tails inside are) where
      behind : drop i notes ≡ note ∷ drop n notes
      behind =
          drop_more notes i note lt ∙ ap (λ (x : OldTail). x ∷ drop (i + 1) notes) (sym at)
          ∙ ap (λ (m : ℕ). note ∷ drop m notes) next

pub noted_all : (notes : List OldTail) (old tails : List ℕ) (n : ℕ) → n ≡ 0 → AreNoted (drop n notes) old tails
    → AreNoted notes old tails
noted_all notes old tails n none are = subst (λ (k : ℕ). AreNoted (drop k notes) old tails) none are
