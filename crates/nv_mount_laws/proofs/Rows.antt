-- What stands beside a node once something was put beside one.
use Rattle.std.proofs.Common.{◌≡◌, ◌≢◌, ◌∙◌, ◌&&◌, ◌==◌, ℕ, ◌<◌, Bool, true, false, ap, ap₂, length, refl, sym}
use Rattle.std.specs.Prelude.{if◌then◌else◌, nat_lt}
use Rattle.std.proofs.lemmas.Bool.{and_parts, eq-eqb, eqb-false, eqb-true, lt-ltb, ltb-true}
use Rattle.std.proofs.lemmas.List.{get_or-set_other, get_or-set_same, length-set}
use Rattle.nv_base.specs.declared.numbers.Handle.{Handle}
use Rattle.nv_mount_beside.specs.Beside.{AllBeside, beside_at, row_at, untold, with_beside}
use Rattle.nv_mount_beside.specs.declared.beside.Beside.{Beside}

-- two handles of one slot differ in their generation
pub one_slot : (a b : Handle) → a.ino ≡ b.ino → a.generation ≡ b.generation → a ≡ b
one_slot a b same_ino same_generation =
    ap₂ (λ (ino generation : ℕ). let h : Handle =
    record { ino = ino; generation = generation } in h) same_ino same_generation

-- the row of a slot is of a handle's generation
abbrev pub is_told : AllBeside → Handle → Bool
is_told all handle = nat_lt handle.ino (length all.rows) &&
    ((row_at all handle.ino).generation == handle.generation)

pub told_row : (all : AllBeside) (handle : Handle) → is_told all handle ≡ true
    → beside_at all handle ≡ row_at all handle.ino
told_row all handle is = rw is refl

pub untold_row : (all : AllBeside) (handle : Handle) → is_told all handle ≡ false
    → beside_at all handle ≡ untold all handle.generation
untold_row all handle is = rw is refl

-- a slot is there whose row is of a handle's generation
pub told_slot : (all : AllBeside) (handle : Handle) → is_told all handle ≡ true
    → (handle.ino < length all.rows) × ((row_at all handle.ino).generation ≡ handle.generation)
told_slot all handle is =
    let both = and_parts (nat_lt handle.ino (length all.rows))
    ((row_at all handle.ino).generation == handle.generation) is in (
      ltb-true handle.ino (length all.rows) both.0,
      eqb-true (row_at all handle.ino).generation
          handle.generation both.1,
    )

-- a row is of one generation
pub one_told : (all : AllBeside) (a b : Handle) → a.ino ≡ b.ino → is_told all a ≡ true
    → is_told all b ≡ true → a ≡ b
one_told all a b same is_a is_b =
    one_slot a b same (sym (told_slot all a is_a).1 ∙ ap (λ (i : ℕ). (row_at all i).generation) same
    ∙ (told_slot all b is_b).1)

-- what stands beside a node is of its generation
pub beside_generation : (all : AllBeside) (handle : Handle) → (beside_at all handle).generation
    ≡ handle.generation
beside_generation all handle = go (is_told all handle) refl where
  go : (b : Bool) → is_told all handle ≡ b → (beside_at all handle).generation ≡ handle.generation
  go true is =
      let both = and_parts (nat_lt handle.ino (length all.rows))
      ((row_at all handle.ino).generation == handle.generation) is in
      ap (λ (b : Beside). b.generation) (told_row all handle is)
      ∙ eqb-true (row_at all handle.ino).generation handle.generation both.1
  go false is = ap (λ (b : Beside). b.generation) (untold_row all handle is)

module _ (all : AllBeside) (at : Handle) (b : Beside) where
  abbrev after : AllBeside
  after = with_beside at b all

  many : length after.rows ≡ length all.rows
  many = length-set all.rows at.ino b

  pub many_rows : length (with_beside at b all).rows ≡ length all.rows
  many_rows = many

  -- in another slot it is as it was
  pub put_elsewhere : (handle : Handle) → handle.ino ≢ at.ino
      → beside_at (with_beside at b all) handle ≡ beside_at all handle
  put_elsewhere handle other =
      let row : row_at after handle.ino ≡ row_at all handle.ino =
      get_or-set_other all.rows at.ino handle.ino b (untold all 0) other in
      ap (λ (r : Beside). if nat_lt handle.ino (length after.rows) &&
      (r.generation == handle.generation) then r else untold all handle.generation) row
      ∙ ap (λ (n : ℕ). if nat_lt handle.ino n &&
      ((row_at all handle.ino).generation == handle.generation) then row_at all handle.ino else
      untold all handle.generation) many

  -- it is that, beside the node itself
  pub put_here : at.ino < length all.rows → b.generation ≡ at.generation
      → beside_at (with_beside at b all) at ≡ b
  put_here there own =
      let row : row_at after at.ino ≡ b = get_or-set_same all.rows at.ino b (untold all 0) there in
      ap (λ (r : Beside). if nat_lt at.ino (length after.rows) && (r.generation == at.generation)
      then r else untold all at.generation) row
      ∙ ap (λ (n : ℕ). if nat_lt at.ino n && (b.generation == at.generation) then b else untold all
      at.generation) many
      ∙ ap (λ (t : Bool). if t && (b.generation == at.generation) then b else untold all
      at.generation) (lt-ltb at.ino (length all.rows) there)
      ∙ ap (λ (t : Bool). if t then b else untold all at.generation)
      (eq-eqb b.generation at.generation own)

  -- beside a node of another generation of the slot nothing is told
  pub put_stale : (handle : Handle) → at.ino < length all.rows → b.generation ≡ at.generation
      → handle.ino ≡ at.ino → handle ≢ at
      → beside_at (with_beside at b all) handle ≡ untold all handle.generation
  put_stale handle there own same differ = untold_row after handle (go (is_told after handle) refl)
    where
      row : row_at after handle.ino ≡ b
      row = ap (λ (i : ℕ). row_at after i) same ∙ get_or-set_same all.rows at.ino b (untold all 0)
          there

      go : (t : Bool) → is_told after handle ≡ t → is_told after handle ≡ false
      go false is = is
      go true is =
          let both = and_parts (nat_lt handle.ino (length after.rows))
          ((row_at after handle.ino).generation == handle.generation) is in
          let one : (row_at after handle.ino).generation ≡ handle.generation =
          eqb-true (row_at after handle.ino).generation handle.generation both.1 in
          absurd (differ (one_slot handle at same
          (sym one ∙ ap (λ (r : Beside). r.generation) row ∙ own)))

  -- where a handle stands to the node: it is that one, of another slot, or of another generation of
  -- its slot
  pub data Place (handle : Handle) : Type 0 where
    Here : handle ≡ at → beside_at (with_beside at b all) handle ≡ b → Place handle
    Elsewhere : handle.ino ≢ at.ino → beside_at (with_beside at b all) handle ≡ beside_at all handle
        → Place handle
    Stale : handle.ino ≡ at.ino → handle ≢ at → beside_at (with_beside at b all) handle
        ≡ untold all handle.generation → Place handle

  pub place : at.ino < length all.rows → b.generation ≡ at.generation → (handle : Handle)
      → Place handle
  place there own handle = by_slot (handle.ino == at.ino) refl where
    by_generation : handle.ino ≡ at.ino → (g : Bool) → (handle.generation == at.generation) ≡ g
        → Place handle
    by_generation same true is =
        let one = one_slot handle at same (eqb-true handle.generation at.generation is) in
        Here one (ap (λ (h : Handle). beside_at after h) one ∙ put_here there own)
    by_generation same false is =
        let differ : handle ≢ at = λ one. eqb-false handle.generation at.generation is
        (ap (λ (h : Handle). h.generation) one) in
        Stale same differ (put_stale handle there own same differ)

    by_slot : (i : Bool) → (handle.ino == at.ino) ≡ i → Place handle
    by_slot true is = by_generation (eqb-true handle.ino at.ino is)
        (handle.generation == at.generation) refl
    by_slot false is = let other = eqb-false handle.ino at.ino is in Elsewhere other
        (put_elsewhere handle other)
