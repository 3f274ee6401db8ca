-- The killed parts of a slot, among lists that belong to slots one by one; and what all actors have, where
-- one has something else.
use Rattle.std.proofs.Common.{◌≡◌, ◌≢◌, ℕ, zero, suc, ◌+◌, ◌<◌, ◌≤◌, ◌==◌, ◌++◌, ◌∙◌, Bool, true, false, List, [], ◌∷◌, add-one, ap, append-nil, arith, drop, drop-cons, flat_map, if◌then◌else◌, length, nat_lt, refl, set, sym, take}
use Rattle.std.specs.Prelude.{◌||◌, slice_index_or}
use Rattle.std.specs.List.{AllByRecursion}
use Rattle.std.proofs.lemmas.Bool.{eqb-true, ltb-false, true≢false}
use Rattle.nv_alloc.specs.Numbers.{has}
use Rattle.nv_cell.specs.declared.killed.KilledPart.{KilledPart}
use Rattle.nv_machine.specs.Held.{killed_slots, parts_for}
use Rattle.nv_machine.specs.Kinds.{first_killed}
use Rattle.nv_machine.specs.Reads.{slot_at}
use Rattle.nv_machine.specs.Sequence.{closing, publishing, retiring}
use Rattle.nv_machine.specs.World.{Actor, Close, Leave, Publish, Retire, idle, Next}
use Rattle.nv_machine.proofs.LoopSteps.{by_test, either}
use Rattle.nv_machine.proofs.EachElement.{all_append, all_back, all_front}
use Rattle.nv_machine.proofs.FiledLists.{count, count_append}
use Rattle.nv_machine.proofs.Lists.{drop_all, self, take_all, take_more}

-- ---- the parts of a slot

pub none_for : (slots : List ℕ) (killed : List (List KilledPart)) (ino : ℕ) → killed ≡ [] → parts_for slots killed ino ≡ []
none_for [] killed ino e = refl
none_for (slot ∷ slots) [] ino e = refl
none_for (slot ∷ slots) (parts ∷ rest) ino e = cc

pub none_there : (slots : List ℕ) (killed : List (List KilledPart)) (ino : ℕ) → has slots ino ≡ false → parts_for slots killed ino ≡ []
none_there [] killed ino e = refl
none_there (slot ∷ slots) [] ino e = refl
none_there (slot ∷ slots) (parts ∷ rest) ino e = go (slot == ino) e (none_there slots rest ino) where
  go : (b : Bool) → (b || has slots ino) ≡ false → (has slots ino ≡ false → parts_for slots rest ino ≡ [])
      → (if b then parts else parts_for slots rest ino) ≡ []
  go true e more = absurd (true≢false e)
  go false e more = more e

-- one more list, of one more slot
pub more_here : (slots : List ℕ) (killed : List (List KilledPart)) (slot : ℕ) (parts : List KilledPart) → length slots ≡ length killed
    → has slots slot ≡ false → parts_for (slots ++ slot ∷ []) (killed ++ parts ∷ []) slot ≡ parts
more_here [] [] slot parts len none = rw (self slot) refl
more_here [] (first ∷ rest) slot parts len none = absurd (omega (arith, len))
more_here (s ∷ slots) [] slot parts len none = absurd (omega (arith, len))
more_here (s ∷ slots) (first ∷ rest) slot parts len none =
    go (s == slot) none (more_here slots rest slot parts (omega (arith, len))) where
      go : (b : Bool) → (b || has slots slot) ≡ false
          → (has slots slot ≡ false → parts_for (slots ++ slot ∷ []) (rest ++ parts ∷ []) slot ≡ parts)
          → (if b then first else parts_for (slots ++ slot ∷ []) (rest ++ parts ∷ []) slot) ≡ parts
      go true e more = absurd (true≢false e)
      go false e more = more e

pub more_there : (slots : List ℕ) (killed : List (List KilledPart)) (slot ino : ℕ) (parts : List KilledPart)
    → length slots ≡ length killed → slot ≢ ino
    → parts_for (slots ++ slot ∷ []) (killed ++ parts ∷ []) ino ≡ parts_for slots killed ino
more_there [] [] slot ino parts len ne = go (slot == ino) refl where
  go : (b : Bool) → (slot == ino) ≡ b → (if b then parts else []) ≡ []
  go true q = absurd (ne (eqb-true slot ino q))
  go false q = refl
more_there [] (first ∷ rest) slot ino parts len ne = absurd (omega (arith, len))
more_there (s ∷ slots) [] slot ino parts len ne = absurd (omega (arith, len))
more_there (s ∷ slots) (first ∷ rest) slot ino parts len ne =
    ap (λ (l : List KilledPart). if s == ino then first else l) (more_there slots rest slot ino parts (omega (arith, len)) ne)

-- the first list, and the others
pub first_for : (slot : ℕ) (slots : List ℕ) (killed : List (List KilledPart)) → 0 < length killed
    → parts_for (slot ∷ slots) killed slot ≡ first_killed killed
first_for slot slots [] some = absurd (omega (arith, some))
first_for slot slots (parts ∷ rest) some = rw (self slot) refl

pub later_for : (slot ino : ℕ) (slots : List ℕ) (killed : List (List KilledPart)) → 0 < length killed → slot ≢ ino
    → parts_for (slot ∷ slots) killed ino ≡ parts_for slots (drop 1 killed) ino
later_for slot ino slots [] some ne = absurd (omega (arith, some))
later_for slot ino slots (parts ∷ rest) some ne = go (slot == ino) refl where
  go : (b : Bool) → (slot == ino) ≡ b → (if b then parts else parts_for slots rest ino) ≡ parts_for slots rest ino
  go true q = absurd (ne (eqb-true slot ino q))
  go false q = refl

-- ---- loops

pub retiring_slots : (place : ℕ) (written : List ℕ) → killed_slots (retiring place written) written ≡ drop place written
retiring_slots place written =
    by_test (λ (k : Next). killed_slots k written ≡ drop place written) (nat_lt place (length written)) (Retire place) Leave (λ e. refl)
    (λ e. sym (drop_all place written (ltb-false place (length written) e)))

pub publishing_slots : (place : ℕ) (written : List ℕ) → killed_slots (publishing place written) written ≡ take place written
publishing_slots place written =
    by_test (λ (k : Next). killed_slots k written ≡ take place written) (nat_lt place (length written)) (Publish place) (closing written)
    (λ e. refl)
    (λ e. either (λ (k : Next). killed_slots k written ≡ written) (nat_lt 1 (length written)) Close (retiring 0 written) refl
    (retiring_slots 0 written) ∙ sym (take_all place written (ltb-false place (length written) e)))

-- the slot of a place, and those behind it
pub slots_from : (place : ℕ) (written : List ℕ) → place < length written
    → drop place written ≡ slot_at written place ∷ drop (place + 1) written
slots_from place written inside =
    drop-cons written place 0 inside ∙ ap (λ (n : ℕ). slot_at written place ∷ drop n written) (sym (add-one place))

pub slots_to : (place : ℕ) (written : List ℕ) → place < length written
    → take (place + 1) written ≡ take place written ++ slot_at written place ∷ []
slots_to place written inside = ap (λ (n : ℕ). take n written) (add-one place) ∙ take_more place written inside

-- ---- what all actors have

module _ {X : Type 0} (f : Actor → List X) where
  pub none_of : (xs : List Actor) → ((b : ℕ) → f (slice_index_or xs b idle) ≡ []) → flat_map f xs ≡ []
  none_of [] none = refl
  none_of (x ∷ xs) none = ap (λ (l : List X). l ++ flat_map f xs) (none 0) ∙ none_of xs (λ b. none (suc b))

  -- only one has anything
  pub alone : (xs : List Actor) (a : ℕ) → a < length xs → ((b : ℕ) → b ≢ a → f (slice_index_or xs b idle) ≡ [])
      → flat_map f xs ≡ f (slice_index_or xs a idle)
  alone [] a lt none = absurd (omega (arith, lt))
  alone (x ∷ xs) zero lt none =
      ap (λ (l : List X). f x ++ l) (none_of xs (λ b. none (suc b) (λ e. absurd (omega (arith, e))))) ∙ append-nil (f x)
  alone (x ∷ xs) (suc a) lt none =
      ap (λ (l : List X). l ++ flat_map f xs) (none 0 (λ e. absurd (omega (arith, e))))
      ∙ alone xs a (omega (arith, lt)) (λ b ne. none (suc b) (λ e. ne (omega (arith, e))))

  -- one has what it had
  pub same_of : (xs : List Actor) (a : ℕ) (x : Actor) → f x ≡ f (slice_index_or xs a idle) → flat_map f (set xs a x) ≡ flat_map f xs
  same_of [] a x e = refl
  same_of (y ∷ xs) zero x e = ap (λ (l : List X). l ++ flat_map f xs) e
  same_of (y ∷ xs) (suc a) x e = ap (λ (l : List X). f y ++ l) (same_of xs a x e)

  -- one has other things
  pub swap_count : (p : X → Bool) (xs : List Actor) (a : ℕ) (x : Actor) → a < length xs
      → count p (flat_map f (set xs a x)) + count p (f (slice_index_or xs a idle)) ≡ count p (flat_map f xs) + count p (f x)
  swap_count p [] a x lt = absurd (omega (arith, lt))
  swap_count p (y ∷ xs) zero x lt = omega (arith, count_append p (f x) (flat_map f xs), count_append p (f y) (flat_map f xs))
  swap_count p (y ∷ xs) (suc a) x lt = omega (
    arith,
    swap_count p xs a x (omega (arith, lt)),
    count_append p (f y) (flat_map f (set xs a x)),
    count_append p (f y) (flat_map f xs),
  )

  pub swap_all : (P : X → Type 0) (xs : List Actor) (a : ℕ) (x : Actor) → AllByRecursion P (flat_map f xs) → AllByRecursion P (f x)
      → AllByRecursion P (flat_map f (set xs a x))
  swap_all P [] a x all new = tt
  swap_all P (y ∷ xs) zero x all new = all_append P (f x) (flat_map f xs) new (all_back P (f y) (flat_map f xs) all)
  swap_all P (y ∷ xs) (suc a) x all new =
      all_append P (f y) (flat_map f (set xs a x)) (all_front P (f y) (flat_map f xs) all)
      (swap_all P xs a x (all_back P (f y) (flat_map f xs) all) new)

  pub own_all : (P : X → Type 0) (xs : List Actor) (a : ℕ) → a < length xs → AllByRecursion P (flat_map f xs)
      → AllByRecursion P (f (slice_index_or xs a idle))
  own_all P [] a lt all = absurd (omega (arith, lt))
  own_all P (y ∷ xs) zero lt all = all_front P (f y) (flat_map f xs) all
  own_all P (y ∷ xs) (suc a) lt all = own_all P xs a (omega (arith, lt)) (all_back P (f y) (flat_map f xs) all)

  pub own_count : (p : X → Bool) (xs : List Actor) (a : ℕ) → a < length xs
      → count p (f (slice_index_or xs a idle)) ≤ count p (flat_map f xs)
  own_count p [] a lt = absurd (omega (arith, lt))
  own_count p (y ∷ xs) zero lt = omega (arith, count_append p (f y) (flat_map f xs))
  own_count p (y ∷ xs) (suc a) lt = omega (arith, own_count p xs a (omega (arith, lt)), count_append p (f y) (flat_map f xs))
