-- A pair that has died stays behind more entries, and its living holders are told as before at the
-- making of a snapshot and at a drop.
use Rattle.std.proofs.Common.{◌≡◌, ℕ, ◌-◌, ◌≤◌, ◌&&◌, ◌++◌, ◌∙◌, Bool, true, false, List, [], ◌∷◌, Option, Some, None, ap, filter, if◌then◌else◌, nat_le, nat_lt, refl, slice_get, sym}
use Rattle.std.specs.List.{AllByRecursion}
use Rattle.std.specs.Option.{option_map, option_or}
use Rattle.std.proofs.lemmas.Bool.{false≢true, le-ltb, ltb-false, ltb-true}
use Rattle.std.proofs.lemmas.Option.{same_Some}
use Rattle.nv_cell.specs.Cleaned.{AreDeadBy, HasDeadPair}
use Rattle.nv_cell.proofs.NamedParts.{pair_first, pair_later}
use Rattle.nv_entry.specs.Covered.{part_count}
use Rattle.nv_entry.specs.Held.{holds, is_before_death, is_current}
use Rattle.nv_entry.specs.Keys.{key_of, parts_of}
use Rattle.nv_entry.specs.Log.{first_cover, pair_of, pairs}
use Rattle.nv_entry.specs.declared.held.Pair.{Pair}
use Rattle.nv_entry.specs.declared.item.Entry.{Entry}
use Rattle.nv_entry.specs.declared.part.Part.{Part}
use Rattle.nv_entry.specs.declared.part.PartId.{PartId}
use Rattle.nv_entry.proofs.Values.{first_cover-append}

-- a pair that has died stays as it is
pub pair_front : (block : ℕ) (xs ys : List Entry) (n death : ℕ) (pair : Pair)
    → slice_get (pairs block xs) n ≡ Some pair
    → pair.death ≡ Some death → slice_get (pairs block (xs ++ ys)) n ≡ Some pair
pair_front block [] ys n death pair got dead = cc
pair_front block (x ∷ xs) ys n death pair got dead =
    go (nat_lt n (part_count x)) refl (pair_front block xs ys (n - part_count x) death pair) where
      own : (o : Option Part) → slice_get (parts_of x.item) n ≡ o
          → option_map (pair_of block x xs) o ≡ Some pair
          → option_map (pair_of block x (xs ++ ys)) o ≡ Some pair
      own None q f = cc
      own (Some p) q f =
          let is : pair_of block x xs p ≡ pair = same_Some (pair_of block x xs p) pair f in
          let died : first_cover block xs (key_of x.item p) ≡ Some death =
          ap (λ (u : Pair). u.death) is ∙ dead in
          let still : first_cover block (xs ++ ys) (key_of x.item p)
          ≡ first_cover block xs (key_of x.item p) =
          first_cover-append block xs ys (key_of x.item p)
          ∙ ap (λ (o : Option ℕ). option_or o (first_cover block ys (key_of x.item p))) died
          ∙ sym died in
          ap (λ (o : Option ℕ). let u : Pair = record
          { entry = x.id; part = p; birth = x.epoch; death = o } in Some u) still ∙ f

      go : (b : Bool) → nat_lt n (part_count x) ≡ b
          → (slice_get (pairs block xs) (n - part_count x) ≡ Some pair → pair.death ≡ Some death
          → slice_get (pairs block (xs ++ ys)) (n - part_count x) ≡ Some pair)
          → slice_get (pairs block (x ∷ (xs ++ ys))) n ≡ Some pair
      go true q rec =
          pair_first block x (xs ++ ys) n (ltb-true n (part_count x) q)
          ∙ own (slice_get (parts_of x.item) n) refl
          (sym (pair_first block x xs n (ltb-true n (part_count x) q)) ∙ got)
      go false q rec =
          pair_later block x (xs ++ ys) n (ltb-false n (part_count x) q)
          ∙ rec (sym (pair_later block x xs n (ltb-false n (part_count x) q)) ∙ got) dead

-- where a pair is not current it has a death
death_of : (pair : Pair) → is_current pair ≡ false → (d : ℕ) × (pair.death ≡ Some d)
death_of pair e = go pair.death refl e where
  go : (o : Option ℕ) → pair.death ≡ o → is_current (record pair { death = o }) ≡ false
      → (d : ℕ) × (pair.death ≡ Some d)
  go None q f = absurd (false≢true (sym f))
  go (Some d) q f = (d, q)

-- a snapshot holds nothing that has died by its epoch
none_after : (pair : Pair) (s death : ℕ) → pair.death ≡ Some death → death ≤ s
    → holds s pair ≡ false
none_after pair s death e le =
    ap (λ (o : Option ℕ). nat_le pair.birth s && is_before_death s o) e
    ∙ go (nat_le pair.birth s) (le-ltb s death le) where
      go : (b : Bool) {c : Bool} → c ≡ false → (b && c) ≡ false
      go true q = q
      go false q = refl

-- a drop leaves fewer holders, and a snapshot made is one more
fewer : (P : ℕ → Type 0) (test : ℕ → Bool) (ss : List ℕ) → AllByRecursion P ss
    → AllByRecursion P (filter test ss)
fewer P test [] h = tt
fewer P test (s ∷ ss) h = go (test s) (fewer P test ss h.1) where
  go : (b : Bool) → AllByRecursion P (filter test ss)
      → AllByRecursion P (if b then s ∷ filter test ss else filter test ss)
  go true more = (h.0, more)
  go false more = more

all_and : (P : ℕ → Type 0) (ss : List ℕ) (s : ℕ) → AllByRecursion P ss → P s
    → AllByRecursion P (ss ++ s ∷ [])
all_and P [] s h p = (p, tt)
all_and P (x ∷ ss) s h p = (h.0, all_and P ss s h.1 p)

module _ (living : List ℕ) (block : ℕ) (log : List Entry) (id : PartId) (birth : ℕ)
    (is_held_by : ℕ → Bool)
    (h : HasDeadPair living block log id birth is_held_by) where
  -- the same pair with other holders
  told_of : (others : List ℕ) → AllByRecursion (λ s. is_held_by s ≡ holds s h.pair) others
      → HasDeadPair others block log id birth is_held_by
  told_of others holders = record {
    n = h.n;
    pair = h.pair;
    is = h.is;
    name = h.name;
    birth_is = h.birth_is;
    died = h.died;
    holders = holders;
  }

  pub more_entries : (later : List Entry)
      → HasDeadPair living block (log ++ later) id birth is_held_by
  more_entries later =
      let dead = death_of h.pair h.died in
      record {
        n = h.n;
        pair = h.pair;
        is = pair_front block log later h.n dead.0 h.pair h.is dead.1;
        name = h.name;
        birth_is = h.birth_is;
        died = h.died;
        holders = h.holders;
      }

  pub dropped : (test : ℕ → Bool) → HasDeadPair (filter test living) block log id birth is_held_by
  dropped test =
      told_of (filter test living)
      (fewer (λ s. is_held_by s ≡ holds s h.pair) test living h.holders)

  pub made : (epoch : ℕ) → is_held_by epoch ≡ false → AreDeadBy epoch block log
      → HasDeadPair (living ++ epoch ∷ []) block log id birth is_held_by
  made epoch none all =
      let dead = death_of h.pair h.died in
      told_of (living ++ epoch ∷ [])
      (all_and (λ s. is_held_by s ≡ holds s h.pair) living epoch h.holders
      (none ∙ sym (none_after h.pair epoch dead.0 dead.1 (all h.n h.pair dead.0 h.is dead.1))))
