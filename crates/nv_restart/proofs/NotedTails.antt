-- What good journals have noted lies within the tails.
use Rattle.std.proofs.Common.{◌≡◌, ℕ, ◌≤◌, ◌==◌, ◌&&◌, ◌++◌, Bool, true, false, cond, nat_le, nat_lt, List, [], ◌∷◌, Option, Some, None, ap, arith, length, refl, subst, sym}
use Rattle.std.specs.List.{find, list_all}
use Rattle.std.specs.Option.{option_map}
use Rattle.std.proofs.lemmas.Bool.{and_parts, eqb-true, false≢true, leb-true}
use Rattle.std.proofs.lemmas.Option.{none-some, same_Some}
use Rattle.nv_audit.specs.Image.{ImageValue, all_notes, slot_of}
use Rattle.nv_audit.specs.Mounted.{are_apart, are_journals_good, cut_tail, is_note_good, tail_of}
use Rattle.nv_journal.specs.Journal.{noted_or, settled_tail, tail_noted}
use Rattle.nv_journal.specs.declared.old_tail.OldTail.{OldTail}

all_here : (p : OldTail → Bool) (xs ys : List OldTail) → list_all p (xs ++ ys) ≡ true
    → (list_all p xs ≡ true) × (list_all p ys ≡ true)
all_here p [] ys e = (refl, e)
all_here p (x ∷ xs) ys e = go (p x) e (all_here p xs ys) where
  go : (b : Bool) → (b && list_all p (xs ++ ys)) ≡ true
      → (list_all p (xs ++ ys) ≡ true → (list_all p xs ≡ true) × (list_all p ys ≡ true))
      → ((b && list_all p xs) ≡ true) × (list_all p ys ≡ true)
  go true e more = more e
  go false e more = absurd (false≢true e)

module _ (image : ImageValue) (ino : ℕ) where
  abbrev own_tail : ℕ
  own_tail = (slot_of image ino).chain.tail

  noted_low : (tails : List OldTail) (t : ℕ) → list_all (is_note_good image) tails ≡ true
      → tail_noted tails ino ≡ Some t → t ≤ own_tail
  noted_low [] t good e = absurd (none-some t e)
  noted_low (note ∷ tails) t good e = go (note.ino == ino) refl e (noted_low tails t) where
    parts : (is_note_good image note ≡ true) × (list_all (is_note_good image) tails ≡ true)
    parts = and_parts (is_note_good image note) (list_all (is_note_good image) tails) good

    go : (b : Bool) → (note.ino == ino) ≡ b
        → option_map (λ (x : OldTail). x.tail)
        (cond b (Some note) (find (λ (x : OldTail). x.ino == ino) tails)) ≡ Some t
        → (list_all (is_note_good image) tails ≡ true → tail_noted tails ino ≡ Some t
        → t ≤ own_tail) → t ≤ own_tail
    go true q e more =
        let low = leb-true note.tail (slot_of image note.ino).chain.tail
        (and_parts (nat_lt 0 (length (slot_of image note.ino).chain.pages))
        (nat_le note.tail (slot_of image note.ino).chain.tail) parts.0).1 in
        let its = same_Some note.tail t e in
        let at = ap (λ (m : ℕ). (slot_of image m).chain.tail) (eqb-true note.ino ino q) in
        omega (arith, low, its, at)
    go false q e more = more parts.1 e

  settled_low : (journals : List (List OldTail))
      → list_all (is_note_good image) (all_notes journals) ≡ true
      → settled_tail journals ino own_tail ≤ own_tail
  settled_low [] good = omega arith
  settled_low (tails ∷ journals) good =
      let parts = all_here (is_note_good image) tails (all_notes journals) good in
      go (tail_noted tails ino) refl parts.0 (settled_low journals parts.1)
    where
      go : (o : Option ℕ) → tail_noted tails ino ≡ o → list_all (is_note_good image) tails ≡ true
          → settled_tail journals ino own_tail ≤ own_tail
          → noted_or o (settled_tail journals ino own_tail) ≤ own_tail
      go None e good more = more
      go (Some t) e good more = noted_low tails t good e

  pub tail_low : are_journals_good image ≡ true → tail_of image ino ≤ own_tail
  tail_low good =
      let all = (and_parts (list_all (is_note_good image) (all_notes image.journals))
      (are_apart (all_notes image.journals)) good).0 in
      subst (λ (b : Bool). cut_tail b image ino ≤ own_tail) (sym good)
      (settled_low image.journals all)
