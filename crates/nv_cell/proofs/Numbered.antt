-- Parts on a list, by their numbers.
use Rattle.std.proofs.Common.{◌≡◌, ℕ, ◌+◌, ◌<◌, ◌==◌, ◌||◌, Bool, true, false, cond, List, [], ◌∷◌, ◌++◌, length, take, arith, refl, ap, sym, ◌∙◌, slice_index, slice_index_or, slice_set, get_or}
use Rattle.std.specs.List.Sorted.{IsPermutation}
use Rattle.std.proofs.lemmas.Bool.{eqb-true}
use Rattle.std.proofs.lemmas.Grind.{common_steps}
use Rattle.std.proofs.lemmas.List.{get_or-map, length-map, map_more}
use Rattle.std.proofs.lemmas.List.Sorted.{IsPermutation-map}
use Rattle.nv_cell.specs.declared.mark.Mark.{Mark}
use Rattle.nv_cell.specs.declared.mark.Mark.TheVariants.{Current, Killed, Kept, Out}
use Rattle.nv_cell.specs.declared.number.NumberedPart.{NumberedPart}
use Rattle.nv_cell.specs.Marks.{is_current, is_there, mark_at}
use Rattle.nv_cell.specs.Numbers.{numbers_in, times}
use Rattle.nv_cell.specs.Tallies.{is_in}
use Rattle.nv_cell.proofs.Publishes.{same_times}

pub length_numbers : (parts : List NumberedPart) → length (numbers_in parts) ≡ length parts
length_numbers parts = length-map parts (λ p. p.number)

pub number_at_place : (parts : List NumberedPart) (i d : ℕ) (e : NumberedPart) → i < length parts → slice_index_or (numbers_in parts) i d
    ≡ (slice_index_or parts i e).number
number_at_place parts i d e lt = get_or-map (λ p. p.number) parts i e d lt

pub same_numbers : (n : ℕ) (old new : List NumberedPart) → IsPermutation old new → times n (numbers_in new) ≡ times n (numbers_in old)
same_numbers n old new h = same_times n (numbers_in old) (numbers_in new) (IsPermutation-map (λ p. p.number) old new h)

-- ---- parts that are killed one after another

still_there : (killed : Bool) (mark : Mark) → is_current mark ≡ true → is_there (cond killed Killed mark) ≡ true
still_there true mark h = refl
still_there false Current h = refl
still_there false Killed h = refl
still_there false Kept h = refl
still_there false Out h = cc

-- the next part is there, since it was current and at most killed since then
pub next_there : (old new : List Mark) (parts : List NumberedPart) (i : ℕ) (part : NumberedPart) → i < length parts
    → ((j : ℕ) → j < length parts → is_current (mark_at old (slice_index (numbers_in parts) j)) ≡ true)
    → ((n : ℕ) → mark_at new n ≡ cond (is_in n (numbers_in (take i parts))) Killed (mark_at old n))
    → is_there (mark_at new (get_or parts i part).number) ≡ true
next_there old new parts i part lt current now =
    let n : ℕ = (get_or parts i part).number in
    let e : slice_index (numbers_in parts) i ≡ n = number_at_place parts i 0 part lt in
    rw (now n) (still_there (is_in n (numbers_in (take i parts))) (mark_at old n) (rw e at (current i lt)))

pub in_pushed : (n k : ℕ) (ns : List ℕ) → is_in k (ns ++ n ∷ []) ≡ ((n == k) || is_in k ns)
in_pushed n k [] = refl
in_pushed n k (m ∷ ns) = ap (λ (b : Bool). (m == k) || b) (in_pushed n k ns) ∙ turn (m == k) (n == k) (is_in k ns) where
  turn : (a b c : Bool) → (a || (b || c)) ≡ (b || (a || c))
  turn true true c = refl
  turn true false c = refl
  turn false b c = refl

mark_set : (marks : List Mark) (n k : ℕ) → n < length marks → mark_at (slice_set marks n Killed) k ≡ cond (n == k) Killed (mark_at marks k)
mark_set marks n k lt = grind (arith, common_steps)

either : (a b : Bool) (old : Mark) → cond a Killed (cond b Killed old) ≡ cond (a || b) Killed old
either true b old = refl
either false b old = refl

pub killed_more : (marks : List Mark) (parts : List NumberedPart) (i k : ℕ) (part : NumberedPart) (old : Mark) → i < length parts
    → (get_or parts i part).number < length marks
    → mark_at marks k ≡ cond (is_in k (numbers_in (take i parts))) Killed old
    → mark_at (slice_set marks (get_or parts i part).number Killed) k ≡ cond (is_in k (numbers_in (take (i + 1) parts))) Killed old
killed_more marks parts i k part old lt within h =
    let n = (get_or parts i part).number in
    let before = numbers_in (take i parts) in
    mark_set marks n k within ∙ ap (λ (m : Mark). cond (n == k) Killed m) h ∙ either (n == k) (is_in k before) old
    ∙ ap (λ (b : Bool). cond b Killed old) (sym (in_pushed n k before))
    ∙ ap (λ (ns : List ℕ). cond (is_in k ns) Killed old) (sym (map_more (λ p. p.number) parts i part lt))

-- ---- parts that end one after another, each with a mark of its own

mark_put : (marks : List Mark) (n k : ℕ) (mark : Mark) → n < length marks
    → mark_at (slice_set marks n mark) k ≡ cond (n == k) mark (mark_at marks k)
mark_put marks n k mark lt = grind (arith, common_steps)

pub ended_more : (marks : List Mark) (parts : List NumberedPart) (i k : ℕ) (part : NumberedPart) (f : ℕ → Mark) (mark old : Mark)
    → i < length parts → (get_or parts i part).number < length marks → mark ≡ f (get_or parts i part).number
    → mark_at marks k ≡ cond (is_in k (numbers_in (take i parts))) (f k) old
    → mark_at (slice_set marks (get_or parts i part).number mark) k ≡ cond (is_in k (numbers_in (take (i + 1) parts))) (f k) old
ended_more marks parts i k part f mark old lt within is h =
    let n = (get_or parts i part).number in
    let before = numbers_in (take i parts) in
    mark_put marks n k mark within ∙ ap (λ (m : Mark). cond (n == k) mark m) h ∙ by (n == k) refl (is_in k before)
    ∙ ap (λ (b : Bool). cond b (f k) old) (sym (in_pushed n k before))
    ∙ ap (λ (ns : List ℕ). cond (is_in k ns) (f k) old) (sym (map_more (λ p. p.number) parts i part lt)) where
      by : (a : Bool) → ((get_or parts i part).number == k) ≡ a → (b : Bool)
          → cond a mark (cond b (f k) old) ≡ cond (a || b) (f k) old
      by true q b = is ∙ ap f (eqb-true (get_or parts i part).number k q)
      by false q b = refl
