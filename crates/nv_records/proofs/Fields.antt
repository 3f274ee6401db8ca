-- A field that is read is the field that was written, and what was written is read again.
use Rattle.std.proofs.Common.{◌≡◌, ℕ, zero, suc, ◌+◌, ◌^◌, ◌<◌, ◌≤◌, Bool, true, false, cond, ltb, leb, List, [], ◌∷◌, ◌++◌, length, get_or, take, drop, Result, Ok, Err, refl, sym, ap, subst, ◌∙◌, append_assoc, arith, inl, inr}
use Rattle.std.specs.Int.{Width, w64, byte_len, from_le_bytes, to_le_bytes}
use Rattle.std.proofs.lemmas.Bool.{cases_lt, ltb-false, le-ltb, leb-true, le-leb}
use Rattle.std.proofs.lemmas.List.{take_at, drop_at, take-append-drop, length-append, length-take, get_or-drop, get_or-take, get_or_past}
use Rattle.std.proofs.lemmas.Nat.{le_bytes_8, from_le_bytes-to_le_bytes_8}
use Rattle.nv_base.specs.declared.limits.TheConstants.{MODE}
use Rattle.nv_base.specs.declared.numbers.Handle.{Handle}
use Rattle.nv_records.specs.declared.fault.Lack.{Lack}
use Rattle.nv_records.specs.declared.fault.Wanted.TheVariants.{Number, Mode, Text}
use Rattle.nv_records.specs.Fields.{AreBoth, IsHandle, IsMode, IsNumber, IsString, handle, number, pair, string}
use Rattle.nv_records.specs.Reading.{◌>>=◌, Reads, handle_at, handle_of, lack_at, made, mode_at, number_at, pair_at, string_at, width_at}

abbrev pub IsBytes : List ℕ → Type 0
IsBytes bytes = (i : ℕ) → get_or bytes i 0 < 256

IsBytes-drop : (n : ℕ) (bytes : List ℕ) → IsBytes bytes → IsBytes (drop n bytes)
IsBytes-drop n bytes h i = rw get_or-drop (h (n + i))

IsBytes-take : (n : ℕ) (bytes : List ℕ) → IsBytes bytes → IsBytes (take n bytes)
IsBytes-take n bytes h i =
    elim (cases_lt i n) [
      | inl lt ↦ rw (get_or-take n bytes i 0 lt) (h i)
      | inr le ↦
          rw (get_or_past (take n bytes) i 0 (omega (arith, length-take n bytes))) (omega arith)
    ]

pub IsBytes-rest : (b : ℕ) (bytes : List ℕ) → IsBytes (b ∷ bytes) → IsBytes bytes
IsBytes-rest b bytes h i = h (suc i)

-- the value of a step that did not fail
pub bind_ok : {A B : Type 0} (r : Result A Lack) (f : A → Result B Lack) (y : B) → (r >>= f) ≡ Ok y
    → (x : A) × (r ≡ Ok x) × (f x ≡ Ok y)
bind_ok (Ok x) f y e = (x, refl, e)
bind_ok (Err d) f y e = absurd cc

-- a test that did not fail
guard_ok : {A : Type 0} (b : Bool) (d : Lack) (x y : A) → cond b (Err d) (Ok x) ≡ Ok y
    → (b ≡ false) × (x ≡ y)
guard_ok true d x y e = absurd cc
guard_ok false d x y e = (refl, cc)

guard_true : {A : Type 0} (b : Bool) (d : Lack) (x y : A) → cond b (Ok x) (Err d) ≡ Ok y
    → (b ≡ true) × (x ≡ y)
guard_true true d x y e = (refl, cc)
guard_true false d x y e = absurd cc

abbrev done : {A : Type 0} → A → Result A Lack
done x = Ok x

pub ok_is : {A : Type 0} (x y : A) → done x ≡ done y → x ≡ y
ok_is x y e = cc

-- what a reader took from the front
pub record Takes (bytes text rest : List ℕ) : Type 0 where
  pub parts : bytes ≡ text ++ rest
  pub rest_fits : IsBytes rest

Takes-then : (a x b y c : List ℕ) → Takes a x b → Takes b y c → Takes a (x ++ y) c
Takes-then a x b y c p q = record {
  parts = p.parts ∙ ap (λ (t : List ℕ). x ++ t) q.parts ∙ sym (append_assoc x y c);
  rest_fits = q.rest_fits;
}

-- ---- a field: what is read was written so, and what is written so is read

pub record IsExact {A : Type 0} (text : A → List ℕ) (Fits : A → Type 0) (reads : Reads A)
    : Type 0 where
  pub takes : (bytes : List ℕ) (x : A × List ℕ) → IsBytes bytes → reads bytes ≡ Ok x
      → Takes bytes (text x.0) x.1 × Fits x.0
  pub again : (a : A) (rest : List ℕ) → Fits a → reads (text a ++ rest) ≡ Ok (a, rest)

-- ---- numbers

record IsWide (w : Width) (limit : ℕ) : Type 0 where
  pub len : (n : ℕ) → length (to_le_bytes w n) ≡ byte_len w
  pub back : (bytes : List ℕ) → length bytes ≡ byte_len w → IsBytes bytes
      → to_le_bytes w (from_le_bytes w bytes) ≡ bytes
  pub again : (n : ℕ) → n < limit → from_le_bytes w (to_le_bytes w n) ≡ n
  pub below : (bytes : List ℕ) → IsBytes bytes → from_le_bytes w bytes < limit

wide64 : IsWide w64 (2 ^ 64)
wide64 = record {
  len = λ n. refl;
  back = λ bytes len fits. le_bytes_8 bytes _ len fits refl;
  again = λ n lt. from_le_bytes-to_le_bytes_8 n lt;
  below = λ bytes fits.
      omega (arith, fits 0, fits 1, fits 2, fits 3, fits 4, fits 5, fits 6, fits 7);
}

width_takes : (w : Width) (limit : ℕ) (wide : IsWide w limit) (bytes : List ℕ) (n : ℕ)
    (rest : List ℕ) → IsBytes bytes → width_at w bytes ≡ Ok (n, rest)
    → Takes bytes (to_le_bytes w n) rest × (n < limit)
width_takes w limit wide bytes n rest fits e =
    let front = take (byte_len w) bytes in
    let behind = drop (byte_len w) bytes in
    let value = from_le_bytes w front in
    let short = lack_at Number bytes in
    let g = guard_ok (ltb (length bytes) (byte_len w)) short (value, behind) (n, rest) e in
    let long : byte_len w ≤ length bytes = ltb-false _ _ g.0 in
    let n-is : value ≡ n = ap (λ (p : ℕ × List ℕ). p.0) g.1 in
    let rest-is : behind ≡ rest = ap (λ (p : ℕ × List ℕ). p.1) g.1 in
    let front_fits = IsBytes-take (byte_len w) bytes fits in
    let len : length front ≡ byte_len w = omega (arith, length-take (byte_len w) bytes) in
    let written : to_le_bytes w n ≡ front = rw (← n-is) (wide.back front len front_fits) in
    let taken : Takes bytes (to_le_bytes w n) rest = record {
      parts = rw (written, ← rest-is) (sym (take-append-drop (byte_len w) bytes));
      rest_fits = rw (← rest-is) (IsBytes-drop (byte_len w) bytes fits);
    } in
    (taken, rw (← n-is) (wide.below front front_fits))

width_again : (w : Width) (limit : ℕ) (wide : IsWide w limit) (n : ℕ) (rest : List ℕ) → n < limit
    → width_at w (to_le_bytes w n ++ rest) ≡ Ok (n, rest)
width_again w limit wide n rest lt =
    let text = to_le_bytes w n in
    let len = wide.len n in
    let long : ltb (length (text ++ rest)) (byte_len w) ≡ false =
    le-ltb _ _ (omega (arith, length-append text rest)) in
    let front = take_at text rest (byte_len w) len in
    rw (long, front, drop_at text rest (byte_len w) len, wide.again n lt) refl

number_takes : (bytes : List ℕ) (x : ℕ × List ℕ) → IsBytes bytes → number_at bytes ≡ Ok x
    → Takes bytes (number x.0) x.1 × IsNumber x.0
unfolding number_at number
number_takes bytes x fits e = width_takes w64 (2 ^ 64) wide64 bytes x.0 x.1 fits e

number_again : (n : ℕ) (rest : List ℕ) → IsNumber n → number_at (number n ++ rest) ≡ Ok (n, rest)
unfolding number_at number
number_again n rest lt = width_again w64 (2 ^ 64) wide64 n rest lt

pub number_is : IsExact number IsNumber number_at
number_is = record { takes = number_takes; again = number_again }

-- ---- strings

-- what is read once the length is
abbrev text_at : ℕ × List ℕ → Result (List ℕ × List ℕ) Lack
text_at n = cond (ltb (length n.1) n.0) (Err (lack_at Text n.1)) (Ok (take n.0 n.1, drop n.0 n.1))

string_takes : (bytes : List ℕ) (x : List ℕ × List ℕ) → IsBytes bytes → string_at bytes ≡ Ok x
    → Takes bytes (string x.0) x.1 × IsString x.0
unfolding string_at
string_takes bytes x fits e =
    let b = bind_ok (number_at bytes) text_at x e in
    let n = b.0 in
    let text = take n.0 n.1 in
    let behind = drop n.0 n.1 in
    let t = number_takes bytes n fits b.1 in
    let g = guard_ok (ltb (length n.1) n.0) (lack_at Text n.1) (text, behind) x b.2 in
    let long : n.0 ≤ length n.1 = ltb-false _ _ g.0 in
    let len : length text ≡ n.0 = omega (arith, length-take n.0 n.1) in
    let second : Takes n.1 text behind = record {
      parts = sym (take-append-drop n.0 n.1);
      rest_fits = IsBytes-drop n.0 n.1 t.0.rest_fits;
    } in
    let both = Takes-then bytes (number n.0) n.1 text behind t.0 second in
    let whole : Takes bytes (string text) behind =
    subst (λ (k : ℕ). Takes bytes (number k ++ text) behind) (sym len) both in
    subst (λ (p : List ℕ × List ℕ). Takes bytes (string p.0) p.1 × IsString p.0) g.1
    (whole, omega (arith, t.1))

string_again : (text rest : List ℕ) → IsString text
    → string_at (string text ++ rest) ≡ Ok (text, rest)
unfolding string_at
string_again text rest lt =
    let n = length text in
    let long : ltb (length (text ++ rest)) n ≡ false =
    le-ltb _ _ (omega (arith, length-append text rest)) in
    ap string_at (append_assoc (number n) text rest)
    ∙ rw (number_again n (text ++ rest) lt, long, take_at text rest n refl, drop_at text rest n refl)
    refl

pub string_is : IsExact string IsString string_at
string_is = record { takes = string_takes; again = string_again }

-- ---- modes

mode_takes : (bytes : List ℕ) (x : ℕ × List ℕ) → IsBytes bytes → mode_at bytes ≡ Ok x
    → Takes bytes (number x.0) x.1 × IsMode x.0
unfolding mode_at
mode_takes bytes x fits e =
    let high = lack_at Mode bytes in
    let b = bind_ok (number_at bytes) (λ n. cond (leb n.0 MODE) (Ok n) (Err high)) x e in
    let g = guard_true (leb b.0.0 MODE) (lack_at Mode bytes) b.0 x b.2 in
    let t = number_takes bytes b.0 fits b.1 in
    subst (λ (y : ℕ × List ℕ). Takes bytes (number y.0) y.1 × IsMode y.0) g.1
    (t.0, leb-true _ _ g.0)

mode_again : (n : ℕ) (rest : List ℕ) → IsMode n → mode_at (number n ++ rest) ≡ Ok (n, rest)
unfolding mode_at
mode_again n rest le =
    let small : leb n MODE ≡ true = le-leb _ _ le in
    rw (number_again n rest (omega arith), small) refl

pub mode_is : IsExact number IsMode mode_at
mode_is = record { takes = mode_takes; again = mode_again }

-- ---- two fields

pair_takes : {A B : Type 0} (s : A → List ℕ) (P : A → Type 0) (f : Reads A) (t : B → List ℕ)
    (Q : B → Type 0) (g : Reads B) → IsExact s P f → IsExact t Q g
    → (bytes : List ℕ) (x : (A × B) × List ℕ) → IsBytes bytes → pair_at f g bytes ≡ Ok x
    → Takes bytes (pair s t x.0) x.1 × AreBoth P Q x.0
unfolding pair_at
pair_takes {A = A} {B = B} s P f t Q g p q bytes x fits e =
    let a = bind_ok (f bytes) (λ y. g y.1 >>= λ z. Ok ((y.0, z.0), z.1)) x e in
    let b = bind_ok (g a.0.1) (λ z. Ok ((a.0.0, z.0), z.1)) x a.2 in
    let first = p.takes bytes a.0 fits a.1 in
    let second = q.takes a.0.1 b.0 first.0.rest_fits b.1 in
    subst (λ (y : (A × B) × List ℕ). Takes bytes (pair s t y.0) y.1 × AreBoth P Q y.0)
    (ok_is ((a.0.0, b.0.0), b.0.1) x b.2)
    (Takes-then bytes (s a.0.0) a.0.1 (t b.0.0) b.0.1 first.0 second.0, (first.1, second.1))

pair_again : {A B : Type 0} (s : A → List ℕ) (P : A → Type 0) (f : Reads A) (t : B → List ℕ)
    (Q : B → Type 0) (g : Reads B) → IsExact s P f → IsExact t Q g
    → (x : A × B) (rest : List ℕ) → AreBoth P Q x → pair_at f g (pair s t x ++ rest) ≡ Ok (x, rest)
unfolding pair_at
pair_again s P f t Q g p q x rest fits =
    ap (pair_at f g) (append_assoc (s x.0) (t x.1) rest)
    ∙ rw (p.again x.0 (t x.1 ++ rest) fits.0, q.again x.1 rest fits.1) refl

pub pair_is : {A B : Type 0} {s : A → List ℕ} {P : A → Type 0} {f : Reads A} {t : B → List ℕ}
    {Q : B → Type 0} {g : Reads B} → IsExact s P f → IsExact t Q g
    → IsExact (pair s t) (AreBoth P Q) (pair_at f g)
pair_is {s = s} {P = P} {f = f} {t = t} {Q = Q} {g = g} p q =
    record { takes = pair_takes s P f t Q g p q; again = pair_again s P f t Q g p q }

-- ---- handles

handle_takes : (bytes : List ℕ) (x : Handle × List ℕ) → IsBytes bytes → handle_at bytes ≡ Ok x
    → Takes bytes (handle x.0) x.1 × IsHandle x.0
handle_takes bytes x fits e =
    let a = bind_ok (pair_at number_at number_at bytes) (λ n. Ok (handle_of n.0, n.1)) x e in
    let t = (pair_is number_is number_is).takes bytes a.0 fits a.1 in
    subst (λ (y : Handle × List ℕ). Takes bytes (handle y.0) y.1 × IsHandle y.0)
    (ok_is (handle_of a.0.0, a.0.1) x a.2) (t.0, t.1)

handle_again : (h : Handle) (rest : List ℕ) → IsHandle h
    → handle_at (handle h ++ rest) ≡ Ok (h, rest)
handle_again h rest fits =
    rw ((pair_is number_is number_is).again (h.ino, h.generation) rest fits) refl

pub handle_is : IsExact handle IsHandle handle_at
handle_is = record { takes = handle_takes; again = handle_again }
