-- Lists in rows: the row that a place is in, and what is behind the full rows.
use Rattle.std.proofs.Common.{◌≡◌, ℕ, zero, suc, ◌+◌, ◌-◌, ◌*◌, ◌/◌, ◌%◌, ◌<◌, ◌≤◌, Bool, true, false, cond, List, [], ◌∷◌, ◌++◌, length, take, drop, set, get_or, nat_lt, refl, ap, sym, ◌∙◌, arith, subst}
use Rattle.std.specs.List.{insert}
use Rattle.std.proofs.lemmas.Bool.{ltb-true, ltb-false}
use Rattle.std.proofs.lemmas.List.{append-nil, append_assoc, length-append, length-take, length-drop, length-set, ext_get_or, get_or-set_other, get_or_default, get_or_append_left, get_or-append_right, get_or-take, get_or-drop, take-append-drop, take-take, take_all, take-append-le, drop-take, drop-drop, drop-append-le}
use Rattle.std.proofs.lemmas.Grind.{get_or-set_at}
use Rattle.std.proofs.lemmas.List.Edits.{insert-append_right}
use Rattle.nv_findex.specs.Rows.{turned, in_rows, AreStarts, slot}

pub length_turned : {A : Type 0} (s : ℕ) (xs : List A) → length (turned s xs) ≡ length xs
length_turned s xs = simp (length-append, length-drop, length-take) (omega arith)

pub length_rows : {A : Type 0} (ss : List ℕ) (xs : List A) → length (in_rows ss xs) ≡ length xs
unfolding in_rows
length_rows [] xs = refl
length_rows (s ∷ ss) xs =
    length-append (turned s (take 128 xs)) _ ∙ omega (arith, length_turned s (take 128 xs), length_rows ss (drop 128 xs), length-take 128 xs, length-drop 128 xs)

-- there are as many starts as full rows, and each is in its row
pub starts_count : (ss : List ℕ) (len : ℕ) → AreStarts ss len → (length ss * 128 ≤ len) × (len < length ss * 128 + 128)
unfolding AreStarts
starts_count [] len h = (omega arith, omega arith)
starts_count (s ∷ ss) len h = let rest = starts_count ss (len - 128) h.2 in (omega (arith, rest.0, h.1), omega (arith, rest.1, h.1))

pub start_low : (ss : List ℕ) (len q : ℕ) → AreStarts ss len → get_or ss q 0 < 128
unfolding AreStarts
start_low [] len q h = omega arith
start_low (s ∷ ss) len zero h = h.0
start_low (s ∷ ss) len (suc q) h = start_low ss (len - 128) q h.2

-- what a list in rows tells of its starts
pub rows_tell : {A : Type 0} (ss : List ℕ) (xs : List A) → AreStarts ss (length xs) → (length (in_rows ss xs) ≡ length xs)
    × ((length ss * 128 ≤ length xs) × ((length xs < length ss * 128 + 128) × ((q s : ℕ) → q < length ss → (get_or ss q s ≡ get_or ss q 0) × (get_or ss q s < 128))))
rows_tell ss xs h =
    let count = starts_count ss (length xs) h in
    (length_rows ss xs, (count.0, (count.1, λ q s lt. let same = get_or_default ss q s 0 lt in (same, omega (arith, same, start_low ss (length xs) q h)))))

pub starts_set : (ss : List ℕ) (len q v : ℕ) → AreStarts ss len → v < 128 → AreStarts (set ss q v) len
unfolding AreStarts
starts_set [] len q v h low = h
starts_set (s ∷ ss) len zero v h low = (low, h.1, h.2)
starts_set (s ∷ ss) len (suc q) v h low = (h.0, h.1, starts_set ss (len - 128) q v h.2 low)

pub starts_take : (ss : List ℕ) (len q n : ℕ) → AreStarts ss len → q ≤ length ss → q * 128 ≤ n → n < q * 128 + 128 → AreStarts (take q ss) n
unfolding AreStarts
starts_take ss len zero n h le low high = omega arith
starts_take [] len (suc q) n h le low high = absurd (omega arith)
starts_take (s ∷ ss) len (suc q) n h le low high =
    (h.0, omega arith, starts_take ss (len - 128) q (n - 128) h.2 (omega arith) (omega arith) (omega arith))

pub starts_stay : (ss : List ℕ) (len n : ℕ) → AreStarts ss len → length ss * 128 ≤ n → n < length ss * 128 + 128 → AreStarts ss n
starts_stay ss len n h low high =
    subst (λ (l : List ℕ). AreStarts l n) (take_all (length ss) ss (omega arith)) (starts_take ss len (length ss) n h (omega arith) low high)

pub starts_push : (ss : List ℕ) (len n : ℕ) → AreStarts ss len → n ≡ length ss * 128 + 128 → AreStarts (ss ++ 0 ∷ []) n
unfolding AreStarts
starts_push [] len n h e = (omega arith, omega arith, omega arith)
starts_push (s ∷ ss) len n h e = (h.0, omega arith, starts_push ss (len - 128) (n - 128) h.2 (omega arith))

-- a list in rows as what is before a row, the row and what is behind it
abbrev pub row_front : {A : Type 0} → List ℕ → ℕ → ℕ → List A → List A
row_front ss q a xs = in_rows (take q ss) (take a xs)

abbrev pub row_at : {A : Type 0} → ℕ → List A → List A
row_at a xs = take 128 (drop a xs)

abbrev pub row_back : {A : Type 0} → List ℕ → ℕ → ℕ → List A → List A
row_back ss q a xs = in_rows (drop (suc q) ss) (drop (a + 128) xs)

pub split_row : {A : Type 0} (ss : List ℕ) (q a : ℕ) (xs : List A) → a ≡ q * 128 → q < length ss
    → in_rows ss xs ≡ row_front ss q a xs ++ (turned (get_or ss q 0) (row_at a xs) ++ row_back ss q a xs)
unfolding in_rows
split_row [] q a xs e lt = absurd (omega arith)
split_row (s ∷ ss) zero a xs e lt = let none : a ≡ 0 = omega arith in rw none refl
split_row (s ∷ ss) (suc q) a xs e lt =
    let low : 128 ≤ a = omega arith in
    let front : drop 128 (take a xs) ≡ take (a - 128) (drop 128 xs) =
    ap (λ n. drop 128 (take n xs)) (omega arith) ∙ drop-take 128 (a - 128) xs in
    let row : drop a xs ≡ drop (a - 128) (drop 128 xs) = sym (drop-drop (a - 128) 128 xs ∙ ap (λ n. drop n xs) (omega arith)) in
    let back : drop (a + 128) xs ≡ drop (a - 128 + 128) (drop 128 xs) = sym (drop-drop (a - 128 + 128) 128 xs ∙ ap (λ n. drop n xs) (omega arith)) in
    rw (take-take 128 a xs low, front, row, back)
    (ap (λ l. turned s (take 128 xs) ++ l) (split_row ss q (a - 128) (drop 128 xs) (omega arith) (omega arith))
    ∙ sym (append_assoc (turned s (take 128 xs)) (row_front ss q (a - 128) (drop 128 xs)) _))

pub take_past : {A : Type 0} (n : ℕ) (p q : List A) (m : ℕ) → length p ≡ m → m ≤ n → take n (p ++ q) ≡ p ++ take (n - m) q
take_past n [] q m e le = let none : n ≡ n - m = omega arith in ap (λ k. take k q) none
take_past zero (x ∷ p) q m e le = absurd (omega arith)
take_past (suc n) (x ∷ p) q m e le =
    let same : n - (m - 1) ≡ suc n - m = omega arith in
    ap (λ l. x ∷ l) (take_past n p q (m - 1) (omega arith) (omega arith) ∙ ap (λ k. p ++ take k q) same)

pub length_front : {A : Type 0} (ss : List ℕ) (q a : ℕ) (xs : List A) → a ≤ length xs → length (row_front ss q a xs) ≡ a
length_front ss q a xs le = length_rows (take q ss) (take a xs) ∙ omega (arith, length-take a xs)

pub length_row : {A : Type 0} (a : ℕ) (xs : List A) → a + 128 ≤ length xs → length (row_at a xs) ≡ 128
length_row a xs le = omega (arith, length-take 128 (drop a xs), length-drop a xs)

-- an item of a ring
ring_get : {A : Type 0} (s r : ℕ) (xs : List A) (d : A) → length xs ≡ 128 → s < 128 → r < 128
    → get_or (turned s xs) r d ≡ get_or xs ((s + r) % 128) d
ring_get s r xs d e low lt = go (nat_lt (s + r) 128) refl where
  go : (b : Bool) → nat_lt (s + r) 128 ≡ b → get_or (turned s xs) r d ≡ get_or xs ((s + r) % 128) d
  go true t =
      let here : s + r ≡ (s + r) % 128 = omega (arith, ltb-true _ _ t) in
      get_or_append_left (drop s xs) (take s xs) d r (omega (arith, length-drop s xs, ltb-true _ _ t)) ∙ get_or-drop s xs r d
      ∙ ap (λ k. get_or xs k d) here
  go false t =
      let here : r - (128 - s) ≡ (s + r) % 128 = omega (arith, ltb-false _ _ t) in
      get_or-append_right (drop s xs) (take s xs) (128 - s) r d (omega (arith, length-drop s xs)) (omega (arith, ltb-false _ _ t))
      ∙ get_or-take s xs (r - (128 - s)) d (omega (arith, ltb-false _ _ t)) ∙ ap (λ k. get_or xs k d) here

module _ {A : Type 0} (ss : List ℕ) (q a : ℕ) (xs : List A) (h : AreStarts ss (length xs)) (lt : q < length ss) (e : a ≡ q * 128) where
  pub row_fits : a + 128 ≤ length xs
  row_fits = omega (arith, (starts_count ss (length xs) h).0)

  pub row_item : (k : ℕ) (d : A) → k < 128 → get_or (row_at a xs) k d ≡ get_or xs (a + k) d
  row_item k d in' = get_or-take 128 (drop a xs) k d in' ∙ get_or-drop a xs k d

  pub row_get : (r : ℕ) (d : A) → r < 128 → get_or (in_rows ss xs) (a + r) d ≡ get_or xs (a + (get_or ss q 0 + r) % 128) d
  row_get r d in' =
      let fits = row_fits in
      let here : a + r - a ≡ r = omega arith in
      let ring = turned (get_or ss q 0) (row_at a xs) in
      ap (λ (l : List A). get_or l (a + r) d) (split_row ss q a xs e lt)
      ∙ get_or-append_right (row_front ss q a xs) (ring ++ row_back ss q a xs) a (a + r) d (length_front ss q a xs (omega arith)) (omega arith)
      ∙ ap (λ (n : ℕ). get_or (ring ++ row_back ss q a xs) n d) here
      ∙ get_or_append_left ring (row_back ss q a xs) d r (omega (arith, length_turned (get_or ss q 0) (row_at a xs), length_row a xs fits))
      ∙ ring_get (get_or ss q 0) r (row_at a xs) d (length_row a xs fits) (start_low ss _ q h) in'
      ∙ row_item ((get_or ss q 0 + r) % 128) d (omega arith)

-- what is behind the full rows lies in order
pub rows_append : {A : Type 0} (ss : List ℕ) (xs ys : List A) → length ss * 128 ≤ length xs → in_rows ss (xs ++ ys) ≡ in_rows ss xs ++ ys
unfolding in_rows
rows_append [] xs ys le = refl
rows_append (s ∷ ss) xs ys le =
    let low : 128 ≤ length xs = omega arith in
    ap (λ l. turned s l ++ in_rows ss (drop 128 (xs ++ ys))) (take-append-le 128 xs ys low)
    ∙ ap (λ l. turned s (take 128 xs) ++ in_rows ss l) (drop-append-le 128 xs ys low)
    ∙ ap (λ l. turned s (take 128 xs) ++ l) (rows_append ss (drop 128 xs) ys (omega (arith, length-drop 128 xs)))
    ∙ sym (append_assoc (turned s (take 128 xs)) (in_rows ss (drop 128 xs)) ys)

pub rows_push : {A : Type 0} (ss : List ℕ) (xs : List A) → in_rows (ss ++ 0 ∷ []) xs ≡ in_rows ss xs
unfolding in_rows
rows_push [] xs = ap (λ l. l ++ drop 128 xs) (append-nil (take 128 xs)) ∙ take-append-drop 128 xs
rows_push (s ∷ ss) xs = ap (λ l. turned s (take 128 xs) ++ l) (rows_push ss (drop 128 xs))

module _ {A : Type 0} (ss : List ℕ) (xs : List A) (h : AreStarts ss (length xs)) where
  rest_from : length ss * 128 ≤ length xs
  rest_from = (starts_count ss (length xs) h).0

  length_rest : length (in_rows ss (take (length ss * 128) xs)) ≡ length ss * 128
  length_rest = length_rows ss (take (length ss * 128) xs) ∙ omega (arith, length-take (length ss * 128) xs, rest_from)

  split_rest : in_rows ss xs ≡ in_rows ss (take (length ss * 128) xs) ++ drop (length ss * 128) xs
  split_rest =
      ap (λ (l : List A). in_rows ss l) (sym (take-append-drop (length ss * 128) xs))
      ∙ rows_append ss (take (length ss * 128) xs) (drop (length ss * 128) xs) (omega (arith, length-take (length ss * 128) xs, rest_from))

  -- a list that differs from this one behind the full rows alone
  with_rest : (ys zs : List A) → ys ≡ take (length ss * 128) xs ++ zs → in_rows ss ys ≡ in_rows ss (take (length ss * 128) xs) ++ zs
  with_rest ys zs e =
      ap (λ (l : List A). in_rows ss l) e ∙ rows_append ss (take (length ss * 128) xs) zs (omega (arith, length-take (length ss * 128) xs, rest_from))

  length_before : length (take (length ss * 128) xs) ≡ length ss * 128
  length_before = omega (arith, length-take (length ss * 128) xs, rest_from)

  pub rest_get : (i : ℕ) (d : A) → length ss * 128 ≤ i → get_or (in_rows ss xs) i d ≡ get_or xs i d
  rest_get i d le =
      let here : length ss * 128 + (i - length ss * 128) ≡ i = omega arith in
      ap (λ (l : List A). get_or l i d) split_rest
      ∙ get_or-append_right (in_rows ss (take (length ss * 128) xs)) (drop (length ss * 128) xs) (length ss * 128) i d length_rest le
      ∙ get_or-drop (length ss * 128) xs (i - length ss * 128) d ∙ ap (λ (k : ℕ). get_or xs k d) here

  pub rest_insert : (i : ℕ) (x : A) → length ss * 128 ≤ i → in_rows ss (insert xs i x) ≡ insert (in_rows ss xs) i x
  rest_insert i x le =
      with_rest (insert xs i x) (insert (drop (length ss * 128) xs) (i - length ss * 128) x)
      (ap (λ (l : List A). insert l i x) (sym (take-append-drop (length ss * 128) xs))
      ∙ insert-append_right (take (length ss * 128) xs) (drop (length ss * 128) xs) (length ss * 128) i x length_before le)
      ∙ sym (ap (λ (l : List A). insert l i x) split_rest
      ∙ insert-append_right (in_rows ss (take (length ss * 128) xs)) (drop (length ss * 128) xs) (length ss * 128) i x length_rest le)

  pub rest_take : (n : ℕ) → length ss * 128 ≤ n → in_rows ss (take n xs) ≡ take n (in_rows ss xs)
  rest_take n le =
      with_rest (take n xs) (take (n - length ss * 128) (drop (length ss * 128) xs))
      (ap (λ (l : List A). take n l) (sym (take-append-drop (length ss * 128) xs))
      ∙ take_past n (take (length ss * 128) xs) (drop (length ss * 128) xs) (length ss * 128) length_before le)
      ∙ sym (ap (λ (l : List A). take n l) split_rest
      ∙ take_past n (in_rows ss (take (length ss * 128) xs)) (drop (length ss * 128) xs) (length ss * 128) length_rest le)

  pub slot_get : (i : ℕ) (d : A) → get_or (in_rows ss xs) i d ≡ get_or xs (slot ss i) d
  slot_get i d = go (nat_lt (i / 128) (length ss)) refl where
    go : (b : Bool) → nat_lt (i / 128) (length ss) ≡ b
        → get_or (in_rows ss xs) i d ≡ get_or xs (cond b (i / 128 * 128 + (get_or ss (i / 128) 0 + i % 128) % 128) i) d
    go true t =
        let here : i ≡ i / 128 * 128 + i % 128 = omega arith in
        ap (λ (k : ℕ). get_or (in_rows ss xs) k d) here
        ∙ row_get ss (i / 128) (i / 128 * 128) xs h (ltb-true _ _ t) refl (i % 128) d (omega arith)
    go false t = rest_get i d (omega (arith, ltb-false _ _ t))

  pub slot_within : (i : ℕ) → i < length xs → slot ss i < length xs
  slot_within i lt = go (nat_lt (i / 128) (length ss)) refl where
    go : (b : Bool) → nat_lt (i / 128) (length ss) ≡ b → cond b (i / 128 * 128 + (get_or ss (i / 128) 0 + i % 128) % 128) i < length xs
    go true t = omega (arith, ltb-true _ _ t, rest_from)
    go false t = lt

pub slot_set : {A : Type 0} (ss : List ℕ) (xs : List A) → AreStarts ss (length xs) → (i : ℕ) (x : A) → in_rows ss (set xs (slot ss i) x) ≡ set (in_rows ss xs) i x
slot_set ss xs h i x =
    let starts : AreStarts ss (length (set xs (slot ss i) x)) = subst (AreStarts ss) (sym (length-set xs (slot ss i) x)) h in
    let len = length_rows ss (set xs (slot ss i) x) ∙ length-set xs (slot ss i) x in
    let within = slot_within ss xs h i in
    ext_get_or x (in_rows ss (set xs (slot ss i) x)) (set (in_rows ss xs) i x) (len ∙ sym (length-set (in_rows ss xs) i x ∙ length_rows ss xs))
    (λ k in'. grind (arith, slot_get, get_or-set_at, get_or-set_other, length_rows))

-- the first items, where the last row of them is turned back
pub rows_cut : {A : Type 0} (ss : List ℕ) (q n : ℕ) (xs ys : List A) → AreStarts ss (length xs) → q < length ss → q * 128 ≤ n → n < q * 128 + 128
    → ys ≡ take (q * 128) xs ++ (turned (get_or ss q 0) (row_at (q * 128) xs) ++ drop (q * 128 + 128) xs) → in_rows (take q ss) (take n ys) ≡ take n (in_rows ss xs)
rows_cut ss q n xs ys h lt low high e =
    let fits = row_fits ss q (q * 128) xs h lt refl in
    let ring = turned (get_or ss q 0) (row_at (q * 128) xs) in
    let len : n - q * 128 ≤ length ring = omega (arith, length_turned (get_or ss q 0) (row_at (q * 128) xs), length_row (q * 128) xs fits) in
    let short : length (take (q * 128) xs) ≡ q * 128 = omega (arith, length-take (q * 128) xs) in
    ap (λ l. in_rows (take q ss) (take n l)) e
    ∙ ap (λ l. in_rows (take q ss) l) (take_past n (take (q * 128) xs) (ring ++ drop (q * 128 + 128) xs) (q * 128) short low
    ∙ ap (λ l. take (q * 128) xs ++ l) (take-append-le (n - q * 128) ring (drop (q * 128 + 128) xs) len))
    ∙ rows_append (take q ss) (take (q * 128) xs) (take (n - q * 128) ring) (omega (arith, length-take q ss, short))
    ∙ sym (ap (λ l. take n l) (split_row ss q (q * 128) xs refl lt)
    ∙ take_past n (row_front ss q (q * 128) xs) (ring ++ row_back ss q (q * 128) xs) (q * 128) (length_front ss q (q * 128) xs (omega arith)) low
    ∙ ap (λ l. row_front ss q (q * 128) xs ++ l) (take-append-le (n - q * 128) ring (row_back ss q (q * 128) xs) len))
