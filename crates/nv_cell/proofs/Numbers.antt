-- The numbers of a log's parts, and the scan of a log by number.
use Rattle.std.proofs.Common.{◌≡◌, ℕ, zero, suc, ◌+◌, ◌-◌, ◌<◌, ◌≤◌, ◌==◌, ◌&&◌, ◌||◌, Bool, true, false, not, cond, nat_lt, List, [], ◌∷◌, ◌++◌, length, take, Option, Some, None, arith, refl, ap, sym, ◌∙◌, subst, inl, inr, append_assoc, length-append, slice_index_or, get_or}
use Rattle.std.specs.Option.{option_map, option_or, IsSome}
use Rattle.std.specs.Prelude.{option_and_then}
use Rattle.std.specs.List.{position_or_len, AllByRecursion}
use Rattle.std.proofs.lemmas.Bool.{ltb-true, ltb-false, lt-ltb, le-ltb, cases_lt, eq-eqb}
use Rattle.std.proofs.lemmas.Bool.Decides.{nat_tests}
use Rattle.std.proofs.lemmas.List.Sums.{position_or_len_is}
use Rattle.nv_base.specs.declared.numbers.EntryId.{EntryId}
use Rattle.nv_entry.specs.declared.item.Entry.{Entry}
use Rattle.nv_entry.specs.declared.key.Setting.{Setting}
use Rattle.nv_entry.specs.declared.key.Setting.TheVariants.{Untouched, Absent, Present}
use Rattle.nv_entry.specs.declared.part.Part.{Part}
use Rattle.nv_entry.specs.declared.part.Part.TheVariants as part
use Rattle.nv_entry.specs.Keys.{Key, sets, touches, covers, parts_of, key_of}
use Rattle.nv_entry.specs.Index.{last_cover}
use Rattle.nv_entry.specs.Laws.{is_present}
use Rattle.nv_entry.specs.Log.{IsLog}
use Rattle.nv_entry.proofs.PartsSet.{parts_are_set}
use Rattle.nv_base.specs.Ids.{is_same_id, IsIdBefore}
use Rattle.nv_log.specs.Chain.{place_of_id}
use Rattle.nv_log.proofs.Logs.{ordered_at}
use Rattle.nv_entry.specs.declared.part_ref.PartRef.{PartRef}
use Rattle.nv_entry.specs.Refs.{place_in, ref_after, left_by}
use Rattle.nv_entry.specs.Covered.{part_count, part_total, part_key, key_at, any_cover, is_covered}
use Rattle.nv_entry.specs.Refs.{scan_ref}
use Rattle.nv_cell.specs.Numbers.{number, is_number}
use Rattle.nv_cell.proofs.Placing.{key_place, place_key}

-- ---- covers

or_assoc : (a b c : Bool) → (a || (b || c)) ≡ ((a || b) || c)
or_assoc true b c = refl
or_assoc false b c = refl

or_false : (b : Bool) → (b || false) ≡ b
or_false true = refl
or_false false = refl

pub cover_push : (block : ℕ) (xs : List Entry) (e : Entry) (key : Key)
    → any_cover block (xs ++ e ∷ []) key ≡ (any_cover block xs key || covers block e.item key)
cover_push block [] e key = or_false (covers block e.item key)
cover_push block (x ∷ xs) e key =
    ap (λ b. covers block x.item key || b) (cover_push block xs e key)
    ∙ or_assoc (covers block x.item key) (any_cover block xs key) (covers block e.item key)

all_at : {X : Type 0} (P : X → Type 0) (xs : List X) (i : ℕ) (d : X) → AllByRecursion P xs → i < length xs → P (slice_index_or xs i d)
all_at P [] i d h lt = absurd (omega arith)
all_at P (x ∷ xs) zero d h lt = h.0
all_at P (x ∷ xs) (suc i) d h lt = all_at P xs i d h.1 (omega (arith, lt))

part_set : (block : ℕ) (e : Entry) (n : ℕ) → n < part_count e → is_present (sets block e.item (part_key e n)) ≡ true
part_set block e n lt =
    all_at (λ (r : Part). is_present (sets block e.item (key_of e.item r)) ≡ true) (parts_of e.item) n part.Kind
    (parts_are_set block e.item) lt

present_touches : (s : Setting) → is_present s ≡ true → touches s ≡ true
present_touches Untouched h = cc
present_touches Absent h = cc
present_touches (Present d) h = refl

-- a part's key is covered from its own entry on
own_covered : (block : ℕ) (log : List Entry) (n : ℕ) → n < part_total log → any_cover block log (key_at log n) ≡ true
own_covered block [] n lt = absurd (omega arith)
own_covered block (e ∷ later) n lt = go (nat_lt n (part_count e)) refl (λ l. own_covered block later (n - part_count e) l) where
  or_true : (b : Bool) → (b || true) ≡ true
  or_true true = refl
  or_true false = refl

  go : (b : Bool) → nat_lt n (part_count e) ≡ b
      → (n - part_count e < part_total later → any_cover block later (key_at later (n - part_count e)) ≡ true)
      → any_cover block (e ∷ later) (key_at (e ∷ later) n) ≡ true
  go true q rec =
      rw q (let c : covers block e.item (part_key e n) ≡ true =
      present_touches (sets block e.item (part_key e n)) (part_set block e n (ltb-true n (part_count e) q)) in rw c refl)
  go false q rec =
      let k : key_at (e ∷ later) n ≡ key_at later (n - part_count e) = rw q refl in
      subst (λ (key : Key). any_cover block (e ∷ later) key ≡ true) (sym k)
      (ap (λ (b : Bool). covers block e.item (key_at later (n - part_count e)) || b)
      (rec (omega (arith, lt, ltb-false n (part_count e) q))) ∙ or_true (covers block e.item (key_at later (n - part_count e))))

-- ---- the scan by number

abbrev pub own_place : ℕ → Entry → Key → Option ℕ
own_place block e key = cond (is_present (sets block e.item key)) (Some (place_in e.item key)) None

abbrev pub scan_n : ℕ → List Entry → Key → Option ℕ
scan_n block [] key = None
scan_n block (e ∷ later) key =
    cond (any_cover block later key) (option_map (λ m. part_count e + m) (scan_n block later key)) (own_place block e key)

shifted : (o : Option ℕ) (k n : ℕ) → k ≤ n → is_number (option_map (λ m. k + m) o) n ≡ is_number o (n - k)
shifted None k n h = refl
shifted (Some m) k n h = grind (arith, nat_tests)

not_shifted : (o : Option ℕ) (k n : ℕ) → n < k → is_number (option_map (λ m. k + m) o) n ≡ false
not_shifted None k n h = refl
not_shifted (Some m) k n h = grind (arith, nat_tests)

own_number : (block : ℕ) (e : Entry) (key : Key) (n : ℕ) → part_count e ≤ n → is_number (own_place block e key) n ≡ false
own_number block e key n le = go (is_present (sets block e.item key)) refl where
  go : (b : Bool) → is_present (sets block e.item key) ≡ b → is_number (cond b (Some (place_in e.item key)) None) n ≡ false
  go true q =
      let p = place_key block e.item key q in
      let lt : place_in e.item key < n = omega (arith, p.0, le) in small (place_in e.item key) n lt where
        small : (a b : ℕ) → a < b → (a == b) ≡ false
        small a b h = grind (arith, nat_tests)
  go false q = refl

and_not : (b : Bool) → (b && not true) ≡ false
and_not true = refl
and_not false = refl

-- exactly the parts that are not covered are in the scan
pub scan_names : (block : ℕ) (log : List Entry) (n : ℕ)
    → is_number (scan_n block log (key_at log n)) n ≡ (nat_lt n (part_total log) && not (is_covered block log n))
scan_names block [] n = let z : nat_lt n 0 ≡ false = grind (arith, nat_tests) in rw z refl
scan_names block (e ∷ later) n = go (nat_lt n (part_count e)) refl (scan_names block later (n - part_count e)) where
  front : n < part_count e → (b : Bool) → any_cover block later (part_key e n) ≡ b
      → is_number (cond b (option_map (λ m. part_count e + m) (scan_n block later (part_key e n))) (own_place block e (part_key e n))) n
      ≡ (nat_lt n (part_count e + part_total later) && not b)
  front lt true q =
      not_shifted (scan_n block later (part_key e n)) (part_count e) n lt ∙ sym (and_not (nat_lt n (part_count e + part_total later)))
  front lt false q =
      let a : nat_lt n (part_count e + part_total later) ≡ true = lt-ltb n (part_count e + part_total later) (omega arith) in
      rw (part_set block e n lt, key_place e.item n lt, eq-eqb n n refl, a) refl

  back : part_count e ≤ n → (b : Bool) → any_cover block later (key_at later (n - part_count e)) ≡ b
      → is_number (scan_n block later (key_at later (n - part_count e))) (n - part_count e)
      ≡ (nat_lt (n - part_count e) (part_total later) && not (is_covered block later (n - part_count e)))
      → is_number (cond b (option_map (λ m. part_count e + m) (scan_n block later (key_at later (n - part_count e))))
      (own_place block e (key_at later (n - part_count e)))) n
      ≡ (nat_lt n (part_count e + part_total later) && not (is_covered block later (n - part_count e)))
  back le true q ih =
      let t : nat_lt (n - part_count e) (part_total later) ≡ nat_lt n (part_count e + part_total later) = grind (arith, nat_tests) in
      shifted (scan_n block later (key_at later (n - part_count e))) (part_count e) n le ∙ ih ∙ rw t refl
  back le false q ih = own_number block e (key_at later (n - part_count e)) n le ∙ sym (rw none refl) where
    none : nat_lt n (part_count e + part_total later) ≡ false
    none = elim (cases_lt n (part_count e + part_total later)) [
      | inl lt ↦ let c = own_covered block later (n - part_count e) (omega arith) in let z : true ≡ false = sym c ∙ q in cc
      | inr ge ↦ le-ltb n (part_count e + part_total later) ge
    ]

  go : (b : Bool) → nat_lt n (part_count e) ≡ b
      → is_number (scan_n block later (key_at later (n - part_count e))) (n - part_count e)
      ≡ (nat_lt (n - part_count e) (part_total later) && not (is_covered block later (n - part_count e)))
      → is_number (scan_n block (e ∷ later) (key_at (e ∷ later) n)) n
      ≡ (nat_lt n (part_total (e ∷ later)) && not (is_covered block (e ∷ later) n))
  go true q ih = rw q (front (ltb-true n (part_count e) q) (any_cover block later (part_key e n)) refl)
  go false q ih = rw q (back (ltb-false n (part_count e) q) (any_cover block later (key_at later (n - part_count e))) refl ih)

-- a number in the scan is that of a part with that key
pub scan_key : (block : ℕ) (log : List Entry) (key : Key) (m : ℕ) → scan_n block log key ≡ Some m
    → (m < part_total log) × (key_at log m ≡ key)
scan_key block [] key m h = cc
scan_key block (e ∷ later) key m h = go (any_cover block later key) refl (λ k q. scan_key block later key k q) where
  far : (k : ℕ) → scan_n block later key ≡ Some k → (k < part_total later) × (key_at later k ≡ key) → part_count e + k ≡ m
      → (m < part_count e + part_total later) × (key_at (e ∷ later) m ≡ key)
  far k q r e1 =
      let a : nat_lt m (part_count e) ≡ false = le-ltb m (part_count e) (omega arith) in
      let b : m - part_count e ≡ k = omega arith in
      (omega (arith, r.0), rw (a, b) r.1)

  over : (o : Option ℕ) → scan_n block later key ≡ o → option_map (λ k. part_count e + k) o ≡ Some m
      → ((k : ℕ) → scan_n block later key ≡ Some k → (k < part_total later) × (key_at later k ≡ key))
      → (m < part_count e + part_total later) × (key_at (e ∷ later) m ≡ key)
  over None q r rec = cc
  over (Some k) q r rec = far k q (rec k q) (let z : part_count e + k ≡ m = cc in z)

  near : (b : Bool) → is_present (sets block e.item key) ≡ b → cond b (Some (place_in e.item key)) None ≡ Some m
      → (m < part_count e + part_total later) × (key_at (e ∷ later) m ≡ key)
  near true q r =
      let p = place_key block e.item key q in
      let s : place_in e.item key ≡ m = cc in
      let a : nat_lt m (part_count e) ≡ true = lt-ltb m (part_count e) (omega (arith, p.0, s)) in
      (omega (arith, p.0, s), rw a (rw s at p.1))
  near false q r = cc

  go : (b : Bool) → any_cover block later key ≡ b
      → ((k : ℕ) → scan_n block later key ≡ Some k → (k < part_total later) × (key_at later k ≡ key))
      → (m < part_total (e ∷ later)) × (key_at (e ∷ later) m ≡ key)
  go true q rec = over (scan_n block later key) refl (rw q at h) rec
  go false q rec = near (is_present (sets block e.item key)) refl (rw q at h)

-- ---- one more entry

pub covered_push : (block : ℕ) (log : List Entry) (e : Entry) (n : ℕ)
    → is_covered block (log ++ e ∷ []) n ≡ (is_covered block log n || (nat_lt n (part_total log) && covers block e.item (key_at log n)))
covered_push block [] e n = let z : nat_lt n 0 ≡ false = grind (arith, nat_tests) in rw z (one (nat_lt n (part_count e))) where
  one : (b : Bool) → cond b false false ≡ false
  one true = refl
  one false = refl
covered_push block (x ∷ xs) e n = go (nat_lt n (part_count x)) refl (covered_push block xs e (n - part_count x)) where
  go : (b : Bool) → nat_lt n (part_count x) ≡ b
      → is_covered block (xs ++ e ∷ []) (n - part_count x)
      ≡ (is_covered block xs (n - part_count x) ||
      (nat_lt (n - part_count x) (part_total xs) && covers block e.item (key_at xs (n - part_count x))))
      → is_covered block (x ∷ (xs ++ e ∷ [])) n
      ≡ (is_covered block (x ∷ xs) n || (nat_lt n (part_total (x ∷ xs)) && covers block e.item (key_at (x ∷ xs) n)))
  go true q ih =
      let a : nat_lt n (part_count x + part_total xs) ≡ true =
      lt-ltb n (part_count x + part_total xs) (omega (arith, ltb-true n (part_count x) q)) in
      rw (q, a) (cover_push block xs e (part_key x n))
  go false q ih =
      let t : nat_lt (n - part_count x) (part_total xs) ≡ nat_lt n (part_count x + part_total xs) =
      shift n (part_count x) (part_total xs) (ltb-false n (part_count x) q) in
      rw q (ih ∙ rw t refl) where
        shift : (a b c : ℕ) → b ≤ a → nat_lt (a - b) c ≡ nat_lt a (b + c)
        shift a b c h = grind (arith, nat_tests)

pub total_append : (xs ys : List Entry) → part_total (xs ++ ys) ≡ part_total xs + part_total ys
total_append [] ys = omega arith
total_append (x ∷ xs) ys = omega (arith, total_append xs ys)

pub key_front : (xs ys : List Entry) (n : ℕ) → n < part_total xs → key_at (xs ++ ys) n ≡ key_at xs n
key_front [] ys n lt = absurd (omega arith)
key_front (x ∷ xs) ys n lt = go (nat_lt n (part_count x)) refl (λ l. key_front xs ys (n - part_count x) l) where
  go : (b : Bool) → nat_lt n (part_count x) ≡ b
      → (n - part_count x < part_total xs → key_at (xs ++ ys) (n - part_count x) ≡ key_at xs (n - part_count x))
      → key_at (x ∷ (xs ++ ys)) n ≡ key_at (x ∷ xs) n
  go true q rec = rw q refl
  go false q rec = rw q (rec (omega (arith, lt, ltb-false n (part_count x) q)))

-- ---- from ids to numbers

abbrev has_id : EntryId → Entry → Bool
has_id id e = is_same_id e.id id

other_id : (a b : EntryId) → IsIdBefore a b → is_same_id a b ≡ false
other_id a b (inl h) = grind (arith, nat_tests)
other_id a b (inr h) = grind (arith, nat_tests)

own_id : (a : EntryId) → is_same_id a a ≡ true
own_id a = grind (arith, nat_tests)

pub own_place_of : (es : List Entry) (k : ℕ) (d : Entry) → IsLog es → k < length es → place_of_id es (get_or es k d).id ≡ Some k
own_place_of es k d is within =
    let at : position_or_len (has_id (get_or es k d).id) es ≡ k =
    position_or_len_is (has_id (get_or es k d).id) es k d (omega arith)
    (λ j lt. other_id (get_or es j d).id (get_or es k d).id (ordered_at es j k d is lt within).id_rises)
    (λ _. own_id (get_or es k d).id) in
    rw at (rw (lt-ltb k (length es) within) refl)

pub at_split : (pre : List Entry) (x : Entry) (post : List Entry) (d : Entry) → get_or (pre ++ x ∷ post) (length pre) d ≡ x
at_split [] x post d = refl
at_split (y ∷ pre) x post d = at_split pre x post d

pub take_split : (pre rest : List Entry) → take (length pre) (pre ++ rest) ≡ pre
take_split [] rest = refl
take_split (y ∷ pre) rest = ap (λ xs. y ∷ xs) (take_split pre rest)

pub place_split : (pre : List Entry) (x : Entry) (post : List Entry) → IsLog (pre ++ x ∷ post)
    → place_of_id (pre ++ x ∷ post) x.id ≡ Some (length pre)
place_split pre x post is =
    let within : length pre < length (pre ++ x ∷ post) = omega (arith, length-append pre (x ∷ post)) in
    ap (λ (e : Entry). place_of_id (pre ++ x ∷ post) e.id) (sym (at_split pre x post x))
    ∙ own_place_of (pre ++ x ∷ post) (length pre) x is within

no_last : (block : ℕ) (log : List Entry) (key : Key) → any_cover block log key ≡ false → last_cover block log key ≡ None
no_last block [] key h = refl
no_last block (x ∷ xs) key h = go (covers block x.item key) refl (no_last block xs key) where
  go : (b : Bool) → covers block x.item key ≡ b → (any_cover block xs key ≡ false → last_cover block xs key ≡ None)
      → last_cover block (x ∷ xs) key ≡ None
  go true q ih = let z : true ≡ false = rw q at h in cc
  go false q ih = let k : any_cover block xs key ≡ false = rw q at h in rw (ih k, q) refl

record Last (block : ℕ) (log : List Entry) (key : Key) : Type 0 where
  entry : Entry
  is : last_cover block log key ≡ Some entry

has_last : (block : ℕ) (log : List Entry) (key : Key) → any_cover block log key ≡ true → Last block log key
has_last block [] key h = cc
has_last block (x ∷ xs) key h = go (λ p. has_last block xs key p) (any_cover block xs key) refl (covers block x.item key) refl where
  go : (any_cover block xs key ≡ true → Last block xs key) → (a : Bool) → any_cover block xs key ≡ a → (b : Bool)
      → covers block x.item key ≡ b → Last block (x ∷ xs) key
  go rec true p b q = let f = rec p in record { entry = f.entry; is = rw f.is refl }
  go rec false p true q = record { entry = x; is = rw (no_last block xs key p, q) refl }
  go rec false p false q = let z : false ≡ true = rw (q, p) at h in cc

-- the scan of a log's head
scan_later : (block : ℕ) (x : Entry) (later : List Entry) (key : Key) → any_cover block later key ≡ true
    → scan_ref block (x ∷ later) key ≡ scan_ref block later key
scan_later block x later key h = let l = has_last block later key h in rw l.is refl

scan_here : (block : ℕ) (x : Entry) (later : List Entry) (key : Key) → any_cover block later key ≡ false
    → scan_ref block (x ∷ later) key ≡ ref_after block x key None
scan_here block x later key h = rw (no_last block later key h) (go (sets block x.item key) refl) where
  go : (s : Setting) → sets block x.item key ≡ s
      → option_and_then (λ e. ref_after block e key None) (option_or None (cond (covers block x.item key) (Some x) None))
      ≡ ref_after block x key None
  go Untouched q =
      let a : covers block x.item key ≡ false = ap touches q in
      let b : ref_after block x key None ≡ None =
      ap (λ (s : Setting). left_by s (record { entry = x.id; place = place_in x.item key }) None) q in
      rw a (sym b)
  go Absent q = let a : covers block x.item key ≡ true = ap touches q in rw a refl
  go (Present d) q = let a : covers block x.item key ≡ true = ap touches q in rw a refl

again : (a b : ℕ) (o : Option ℕ) → option_map (λ m. a + b + m) o ≡ option_map (λ m. a + m) (option_map (λ m. b + m) o)
again a b None = refl
again a b (Some m) = ap Some (omega arith)

-- the scan by ids is the scan by numbers, and its ids are the log's
pub record Linked (block : ℕ) (es : List Entry) (base : ℕ) (log : List Entry) (key : Key) : Type 0 where
  pub numbers : option_map (number es) (scan_ref block log key) ≡ option_map (λ m. base + m) (scan_n block log key)
  pub known : (r : PartRef) → scan_ref block log key ≡ Some r → IsSome (place_of_id es r.entry)

pub linked : (block : ℕ) (pre log post : List Entry) (key : Key) → IsLog (pre ++ (log ++ post))
    → Linked block (pre ++ (log ++ post)) (part_total pre) log key
linked block pre [] post key is = record { numbers = refl; known = λ r h. cc }
linked block pre (x ∷ later) post key is = go (any_cover block later key) refl (λ i. linked block (pre ++ x ∷ []) later post key i) where
  same : (pre ++ x ∷ []) ++ (later ++ post) ≡ pre ++ (x ∷ (later ++ post))
  same = append_assoc pre (x ∷ []) (later ++ post)

  here : (s : Setting) → sets block x.item key ≡ s → any_cover block later key ≡ false
      → Linked block (pre ++ (x ∷ (later ++ post))) (part_total pre) (x ∷ later) key
  here Untouched q n = record {
    numbers = rw (scan_here block x later key n, n, q) refl;
    known = λ r h. let z : None ≡ Some r = sym (scan_here block x later key n ∙ rw q refl) ∙ h in cc;
  }
  here Absent q n = record {
    numbers = rw (scan_here block x later key n, n, q) refl;
    known = λ r h. let z : None ≡ Some r = sym (scan_here block x later key n ∙ rw q refl) ∙ h in cc;
  }
  here (Present d) q n =
      let p : place_of_id (pre ++ (x ∷ (later ++ post))) x.id ≡ Some (length pre) = place_split pre x (later ++ post) is in
      record {
        numbers = rw (scan_here block x later key n, n, q) (ap Some (rw (p, take_split pre (x ∷ (later ++ post))) refl));
        known = λ r h. let z : Some (record { entry = x.id; place = place_in x.item key }) ≡ Some r =
            sym (scan_here block x later key n ∙ rw q refl) ∙ h in let e : x.id ≡ r.entry =
            ap (λ (o : Option PartRef). entry_in o) z in rw (← e, p) refl;
      } where
        entry_in : Option PartRef → EntryId
        entry_in None = x.id
        entry_in (Some r) = r.entry

  go : (b : Bool) → any_cover block later key ≡ b
      → (IsLog ((pre ++ x ∷ []) ++ (later ++ post))
      → Linked block ((pre ++ x ∷ []) ++ (later ++ post)) (part_total (pre ++ x ∷ [])) later key)
      → Linked block (pre ++ (x ∷ (later ++ post))) (part_total pre) (x ∷ later) key
  go true q rec =
      let i : IsLog ((pre ++ x ∷ []) ++ (later ++ post)) = rw same is in
      let l = rw same at (rec i) in
      let t : part_total (pre ++ x ∷ []) ≡ part_total pre + part_count x = omega (arith, total_append pre (x ∷ [])) in
      let k = rw t at l.numbers in
      record {
        numbers = rw (scan_later block x later key q, q) (k ∙ again (part_total pre) (part_count x) (scan_n block later key));
        known = λ r h. l.known r (sym (scan_later block x later key q) ∙ h);
      }
  go false q rec = here (sets block x.item key) refl q
