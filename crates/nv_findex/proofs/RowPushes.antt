-- An item that is put into a row, and those behind it in the row moved by one.
use Rattle.std.proofs.Common.{◌≡◌, ℕ, ◌+◌, ◌-◌, ◌*◌, ◌/◌, ◌%◌, ◌<◌, ◌≤◌, List, ◌++◌, length, set, get_or, refl, sym, subst, ◌∙◌, arith}
use Rattle.std.specs.List.{copy_within, insert}
use Rattle.std.proofs.lemmas.Grind.{common_steps, elements, get_or-set_at, get_or_head, get_or_tail}
use Rattle.std.proofs.lemmas.List.{length-append, length-take, length-drop, ext_get_or, get_or_default, get_or-append_right, get_or_append_left, get_or-take, get_or-drop, get_or-set_other, length-set}
use Rattle.nv_findex.specs.Rows.{pushed, in_rows, AreStarts}
use Rattle.nv_findex.proofs.Rows.{length_rows, starts_set, start_low, starts_count, slot_get}

-- an item of a list that is made of parts
get_behind : {A : Type 0} (xs ys : List A) (i : ℕ) (d : A) → length xs ≤ i → get_or (xs ++ ys) i d ≡ get_or ys (i - length xs) d
get_behind xs ys i d le = get_or-append_right xs ys (length xs) i d refl le

ruleset reads = (get_behind, get_or_append_left, get_or-take, get_or-drop, length-append, length-take, length-drop, get_or_head, get_or_tail)

-- a copy within a list and a write put an item at its place
pub pushed_is : {A : Type 0} (xs : List A) (i j : ℕ) (x : A) → i < j → j ≤ length xs → set (copy_within xs i (j - 1) (i + 1)) i x ≡ pushed i j x xs
pushed_is xs i j x lt le =
    ext_get_or x (set (copy_within xs i (j - 1) (i + 1)) i x) (pushed i j x xs) (grind (arith, common_steps)) (λ k in'. grind (arith, reads, get_or-set_at, get_or-set_other, length-set))

-- where the items of a list are after an item was put at place i, and those from there on and before place j moved by one
pub record IsPushed {A : Type 0} (i j : ℕ) (c : A) (xs ys : List A) : Type 0 where
  pub len : length ys ≡ length xs
  pub stays : (k : ℕ) (d : A) → (i ≤ k → j ≤ k) → get_or ys k d ≡ get_or xs k d
  pub here : (k : ℕ) (d : A) → k ≡ i → get_or ys k d ≡ c
  pub moves : (k : ℕ) (d : A) → i < k → k < j → get_or ys k d ≡ get_or xs (k - 1) d

pub pushes : {A : Type 0} (i j : ℕ) (c : A) (xs ys : List A) → ys ≡ pushed i j c xs → i < j → j ≤ length xs → IsPushed i j c xs ys
pushes i j c xs ys is lt le = rw is record {
  len = grind (arith, common_steps);
  stays = λ k d out. grind (arith, reads);
  here = λ k d is. grind (arith, common_steps);
  moves = λ k d low high. grind (arith, reads);
}

-- an item that goes out of a list at one end of a part of it, where one came in at the other end
insert_pushed : {A : Type 0} (i j : ℕ) (c o : A) (xs ys : List A) → IsPushed i j c xs ys → i < j → j ≤ length xs → o ≡ get_or xs (j - 1) o
    → insert xs i c ≡ insert ys j o
insert_pushed i j c o xs ys p lt le read = ext_get_or c (insert xs i c) (insert ys j o) (grind (arith, elements)) (λ k in'. grind (arith, elements))

module _ {A : Type 0} (ss : List ℕ) (n : ℕ) (xs : List A) (h : AreStarts ss (length xs)) (lt : n / 128 < length ss) where
  -- one push in a row, which ends where its ring does
  pub row_pushed : (i j : ℕ) (c o : A) (ys : List A) → IsPushed i j c xs ys → i ≡ n / 128 * 128 + (get_or ss (n / 128) 0 + n % 128) % 128 → i < j
      → j ≤ n / 128 * 128 + 128 → (j - n / 128 * 128) % 128 ≡ get_or ss (n / 128) 0 → o ≡ get_or xs (j - 1) o
      → insert (in_rows ss xs) n c ≡ insert (in_rows ss ys) (n / 128 * 128 + 128) o
  row_pushed i j c o ys p at order end ring read =
      let low = start_low ss _ (n / 128) h in
      let fits : n / 128 * 128 + 128 ≤ length xs = omega (arith, (starts_count ss (length xs) h).0) in
      let starts : AreStarts ss (length ys) = subst (AreStarts ss) (sym p.len) h in
      insert_pushed n (n / 128 * 128 + 128) c o (in_rows ss xs) (in_rows ss ys) (record {
        len = omega (arith, length_rows ss xs, length_rows ss ys, p.len);
        stays = λ k d out. grind (arith, slot_get);
        here = λ k d is. grind (arith, slot_get);
        moves = λ k d from to. grind (arith, slot_get);
      }) (omega arith) (omega (arith, length_rows ss xs)) (grind (arith, slot_get))

  -- two pushes: the one that the first takes out goes to the front of the row
  pub row_pushed_over : (i j m : ℕ) (c e o : A) (ys zs : List A) → IsPushed i j c xs ys → IsPushed (n / 128 * 128) m e ys zs → 0 < get_or ss (n / 128) 0
      → get_or ss (n / 128) 0 + n % 128 < 128 → i ≡ n / 128 * 128 + (get_or ss (n / 128) 0 + n % 128) → j ≡ n / 128 * 128 + 128
      → m ≡ n / 128 * 128 + get_or ss (n / 128) 0 → e ≡ get_or xs (j - 1) e → o ≡ get_or ys (m - 1) o
      → insert (in_rows ss xs) n c ≡ insert (in_rows ss zs) (n / 128 * 128 + 128) o
  row_pushed_over i j m c e o ys zs p p' some over at end front out read =
      let fits : n / 128 * 128 + 128 ≤ length xs = omega (arith, (starts_count ss (length xs) h).0) in
      let starts : AreStarts ss (length zs) = subst (AreStarts ss) (sym (p'.len ∙ p.len)) h in
      let passed : (d : A) → get_or xs (j - 1) d ≡ e = λ d. get_or_default xs (j - 1) d e (omega arith) ∙ sym out in
      insert_pushed n (n / 128 * 128 + 128) c o (in_rows ss xs) (in_rows ss zs) (record {
        len = omega (arith, length_rows ss xs, length_rows ss zs, p.len, p'.len);
        stays = λ k d out. grind (arith, slot_get);
        here = λ k d is. grind (arith, slot_get);
        moves = λ k d from to. grind (arith, slot_get);
      }) (omega arith) (omega (arith, length_rows ss xs)) (grind (arith, slot_get))

-- an item that comes in at the front of a row, whose last one goes out
pub row_pass : {A : Type 0} (ss : List ℕ) (q t : ℕ) (xs : List A) (c d : A) → AreStarts ss (length xs) → q < length ss → t ≡ (get_or ss q 0 + 127) % 128
    → insert (in_rows ss xs) (q * 128) c ≡ insert (in_rows (set ss q t) (set xs (q * 128 + t) c)) (q * 128 + 128) (get_or xs (q * 128 + t) d)
row_pass ss q t xs c d h lt is =
    let fits : q * 128 + 128 ≤ length xs = omega (arith, (starts_count ss (length xs) h).0) in
    let new = set xs (q * 128 + t) c in
    let starts : AreStarts (set ss q t) (length new) =
    subst (AreStarts (set ss q t)) (sym (length-set xs (q * 128 + t) c)) (starts_set ss (length xs) q t h (omega arith)) in
    let out = get_or xs (q * 128 + t) d in
    let same = get_or_default xs (q * 128 + t) d out (omega arith) in
    insert_pushed (q * 128) (q * 128 + 128) c out (in_rows ss xs) (in_rows (set ss q t) new) (record {
      len = length_rows (set ss q t) new ∙ length-set xs (q * 128 + t) c ∙ sym (length_rows ss xs);
      stays = λ k e past. grind (arith, slot_get, get_or-set_at, get_or-set_other, length-set);
      here = λ k e at. grind (arith, slot_get, get_or-set_at, get_or-set_other, length-set);
      moves = λ k e from to. grind (arith, slot_get, get_or-set_at, get_or-set_other, length-set);
    }) (omega arith) (omega (arith, length_rows ss xs)) (grind (arith, slot_get))
