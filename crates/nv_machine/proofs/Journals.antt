-- What journals note, and what that leaves of settled logs.
use Rattle.std.proofs.Common.{◌≡◌, ℕ, zero, suc, ◌<◌, ◌==◌, ◌||◌, ◌∙◌, Bool, true, false, cond, List, [], ◌∷◌, Option, Some, None, ap, arith, if◌then◌else◌, length, refl, set, subst, sym}
use Rattle.std.specs.List.{find}
use Rattle.std.specs.Option.{option_map}
use Rattle.std.proofs.lemmas.Bool.{eqb-true}
use Rattle.nv_alloc.specs.Numbers.{has}
use Rattle.nv_journal.specs.Journal.{noted_or, settled_tail, tail_noted}
use Rattle.nv_journal.specs.declared.old_tail.OldTail.{OldTail}
use Rattle.nv_machine.specs.Kept.{AreClosed}
use Rattle.nv_machine.specs.Kinds.{old_tails}
use Rattle.nv_machine.specs.World.{Shared, cell_at}

-- closed journals note no tail
pub closed_tail : (journals : List (List OldTail)) (ino tail : ℕ) → AreClosed journals → settled_tail journals ino tail ≡ tail
closed_tail [] ino tail h = refl
closed_tail (tails ∷ journals) ino tail h = rw (h.0) (closed_tail journals ino tail h.1)

-- one journal that notes something
pub open_tail : (journals : List (List OldTail)) (cpu ino tail : ℕ) (tails : List OldTail) → AreClosed journals → cpu < length journals
    → settled_tail (set journals cpu tails) ino tail ≡ noted_or (tail_noted tails ino) tail
open_tail [] cpu ino tail tails h lt = absurd (omega (arith, lt))
open_tail (own ∷ journals) zero ino tail tails h lt = ap (noted_or (tail_noted tails ino)) (closed_tail journals ino tail h.1)
open_tail (own ∷ journals) (suc cpu) ino tail tails h lt = rw (h.0) (open_tail journals cpu ino tail tails h.1 (omega (arith, lt)))

closed_set : (journals : List (List OldTail)) (cpu : ℕ) → AreClosed journals → AreClosed (set journals cpu [])
closed_set [] cpu h = tt
closed_set (own ∷ journals) zero h = (refl, h.1)
closed_set (own ∷ journals) (suc cpu) h = (h.0, closed_set journals cpu h.1)

set_twice : (journals : List (List OldTail)) (cpu : ℕ) (a b : List OldTail) → set (set journals cpu a) cpu b ≡ set journals cpu b
set_twice [] cpu a b = refl
set_twice (own ∷ journals) zero a b = refl
set_twice (own ∷ journals) (suc cpu) a b = ap (λ (l : List (List OldTail)). own ∷ l) (set_twice journals cpu a b)

pub closed_again : (journals : List (List OldTail)) (cpu : ℕ) (tails : List OldTail) → AreClosed journals
    → AreClosed (set (set journals cpu tails) cpu [])
closed_again journals cpu tails h = subst AreClosed (sym (set_twice journals cpu tails [])) (closed_set journals cpu h)

-- the old tails of slots
pub old_tail_is : (s : Shared) (slots : List ℕ) (ino : ℕ)
    → tail_noted (old_tails s slots) ino ≡ (if has slots ino then Some (cell_at s ino).chain.tail else None)
old_tail_is s [] ino = refl
old_tail_is s (slot ∷ slots) ino = go (slot == ino) refl (old_tail_is s slots ino) where
  tails : List OldTail
  tails = old_tails s slots

  own : OldTail
  own = record { ino = slot; tail = (cell_at s slot).chain.tail }

  go : (b : Bool) → (slot == ino) ≡ b
      → tail_noted tails ino ≡ cond (has slots ino) (Some (cell_at s ino).chain.tail) None
      → option_map (λ (t : OldTail). t.tail) (cond b (Some own) (find (λ (t : OldTail). t.ino == ino) tails))
      ≡ cond (b || has slots ino) (Some (cell_at s ino).chain.tail) None
  go true e more = ap (λ (n : ℕ). Some (cell_at s n).chain.tail) (eqb-true slot ino e)
  go false e more = more

noted_own : (b : Bool) (tail : ℕ) → noted_or (cond b (Some tail) None) tail ≡ tail
noted_own true tail = refl
noted_own false tail = refl

-- the open journal
module _ (s : Shared) (cpu : ℕ) (slots : List ℕ) (closed : AreClosed s.book.journals) (inside : cpu < length s.book.journals) where
  abbrev noted : List (List OldTail)
  noted = set s.book.journals cpu (old_tails s slots)

  noted_is : (ino tail : ℕ) → settled_tail noted ino tail ≡ noted_or (cond (has slots ino) (Some (cell_at s ino).chain.tail) None) tail
  noted_is ino tail = open_tail s.book.journals cpu ino tail (old_tails s slots) closed inside
      ∙ ap (λ (o : Option ℕ). noted_or o tail) (old_tail_is s slots ino)

  -- all tails are as they were
  pub open_same : (ino : ℕ) → settled_tail noted ino (cell_at s ino).chain.tail ≡ (cell_at s ino).chain.tail
  open_same ino = noted_is ino (cell_at s ino).chain.tail ∙ noted_own (has slots ino) (cell_at s ino).chain.tail

  -- and stay so for these slots
  pub open_stays : (ino tail other : ℕ) → has slots ino ≡ true → settled_tail noted ino tail ≡ settled_tail noted ino other
  open_stays ino tail other there = noted_is ino tail ∙ go (has slots ino) there ∙ sym (noted_is ino other) where
    go : (b : Bool) → b ≡ true
        → noted_or (cond b (Some (cell_at s ino).chain.tail) None) tail ≡ noted_or (cond b (Some (cell_at s ino).chain.tail) None) other
    go true e = refl
    go false e = cc

  -- no other slot is noted
  pub open_free : (ino tail : ℕ) → has slots ino ≡ false → settled_tail noted ino tail ≡ tail
  open_free ino tail out = noted_is ino tail ∙ go (has slots ino) out where
    go : (b : Bool) → b ≡ false → noted_or (cond b (Some (cell_at s ino).chain.tail) None) tail ≡ tail
    go true e = cc
    go false e = refl
