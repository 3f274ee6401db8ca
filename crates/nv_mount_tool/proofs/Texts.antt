-- What texts of options are read as.
use Rattle.std.proofs.Common.{◌≡◌, ◌∙◌, ◌^◌, ◌&&◌, ℕ, Bool, true, false, List, [], ◌∷◌, length, Option, Some, None, ap, refl, sym, cond, codes}
use Rattle.std.specs.Prelude.{Result, Ok, Err, nat_lt, option_and_then}
use Rattle.std.specs.List.{list_all}
use Rattle.std.specs.Option.{option_map_or}
use Rattle.std.specs.Char.{digit_value}
use Rattle.std.specs.Str.{bytes_eq}
use Rattle.std.specs.Str.Parse.{AllDigits, ParsesBool, ParsesUnsigned, digits_value, without_leading_plus}
use Rattle.std.proofs.lemmas.Bool.{lt-ltb, ltb-true}
use Rattle.std.proofs.lemmas.Slice.Eq.{bytes_eq-Decides}
use Rattle.clap.specs.Words.{ReadsOne, one_text, rows_of}
use Rattle.clap.specs.declared.parser.matches.Found.{Found}
use Rattle.clap.proofs.WalkLemmas.{one_text-rows}
use Rattle.nv_mount_tool.specs.CommandLine.{decimal, flag_in, number_in}

-- ---- numbers

abbrev is_digit : ℕ → Bool
is_digit d = nat_lt (digit_value d) 10

all_three : (a b c : Bool) → a ≡ true → b ≡ true → c ≡ true → (a && (b && c)) ≡ true
all_three a b c p q r = rw (p, q, r) refl

each_of_three : (a b c : Bool) → (a && (b && c)) ≡ true → (a ≡ true) × (b ≡ true) × (c ≡ true)
each_of_three true true true h = (refl, refl, refl)
each_of_three true true false h = cc
each_of_three true false c h = cc
each_of_three false b c h = cc

digits_pass : (ds : List ℕ) → AllDigits 10 ds → list_all is_digit ds ≡ true
digits_pass [] h = refl
digits_pass (d ∷ ds) h = rw (lt-ltb _ _ h.0) (digits_pass ds h.1)

passed_digits : (ds : List ℕ) → list_all is_digit ds ≡ true → AllDigits 10 ds
passed_digits [] h = tt
passed_digits (d ∷ ds) h = go (is_digit d) refl h (passed_digits ds)
  where
    go : (b : Bool) → is_digit d ≡ b → (b && list_all is_digit ds) ≡ true → (list_all is_digit ds ≡ true → AllDigits 10 ds) → AllDigits 10 (d ∷ ds)
    go true e k rest = (ltb-true _ _ e, rest k)
    go false e k rest = cc

-- the tests of a decimal number
abbrev passes : List ℕ → Bool
passes ds = nat_lt 0 (length ds) && (list_all is_digit ds && nat_lt (digits_value 10 ds) (2 ^ 64))

-- a number that is read of a text is its decimal number
read_decimal : {E : Type 0} (G : List ℕ → Result ℕ E → Type 0) → ((u : List ℕ) (x : Result ℕ E) → G u x → ParsesUnsigned 64 10 u x)
    → (text : List ℕ) (o : Option ℕ) → ReadsOne G text o → o ≡ decimal text
read_decimal {E} G only text (Some v) h =
    let ds = without_leading_plus text in
    let p = only text (Ok v) h in
    let yes : passes ds ≡ true = all_three _ _ _ (lt-ltb _ _ p.0.0.0) (digits_pass ds p.0.0.1) (lt-ltb _ _ p.0.1) in
    ap Some p.1 ∙ sym (ap (λ b. cond b (Some (digits_value 10 ds)) None) yes)
read_decimal {E} G only text None h = go (passes (without_leading_plus text)) refl
  where
    go : (b : Bool) → passes (without_leading_plus text) ≡ b → None ≡ cond b (Some (digits_value 10 (without_leading_plus text))) None
    go false e = refl
    go true e =
        let p = each_of_three _ _ _ e in
        absurd (only text (Err h.0) h.1 ((ltb-true _ _ p.0, passed_digits _ p.1), ltb-true _ _ p.2))

pub number_read : {E : Type 0} (G : List ℕ → Result ℕ E → Type 0) → ((u : List ℕ) (x : Result ℕ E) → G u x → ParsesUnsigned 64 10 u x)
    → (f : Found) (id : List ℕ) (o : Option ℕ) → (one_text f id ≡ None → o ≡ None)
    → ((t : List ℕ) → one_text f id ≡ Some t → ReadsOne G t o) → o ≡ number_in id (rows_of f)
number_read {E} G only f id o none some = go (one_text f id) refl
  where
    go : (t : Option (List ℕ)) → one_text f id ≡ t → o ≡ number_in id (rows_of f)
    go None e = none e ∙ ap (option_and_then decimal) (sym e ∙ one_text-rows f id)
    go (Some t) e = read_decimal G only t o (some t e) ∙ ap (option_and_then decimal) (sym e ∙ one_text-rows f id)

-- ---- flags

read_flag : (E : Type 0) (text : List ℕ) (o : Option Bool) → ReadsOne (ParsesBool {E = E}) text o → option_map_or (λ b. b) o false ≡ bytes_eq (codes "true") text
read_flag E text (Some true) h = rw h refl
read_flag E text (Some false) h = rw h refl
read_flag E text None h = go (bytes_eq (codes "true") text) refl
  where
    go : (b : Bool) → bytes_eq (codes "true") text ≡ b → false ≡ b
    go false e = refl
    go true e = absurd (h.1.0 (sym ((bytes_eq-Decides (codes "true") text).0 e)))

abbrev is_true : Option (List ℕ) → Bool
is_true t = option_map_or (bytes_eq (codes "true")) t false

pub flag_read : (E : Type 0) (f : Found) (id : List ℕ) (o : Option Bool) → (one_text f id ≡ None → o ≡ None)
    → ((t : List ℕ) → one_text f id ≡ Some t → ReadsOne (ParsesBool {E = E}) t o) → option_map_or (λ b. b) o false ≡ flag_in id (rows_of f)
flag_read E f id o none some = go (one_text f id) refl
  where
    go : (t : Option (List ℕ)) → one_text f id ≡ t → option_map_or (λ b. b) o false ≡ flag_in id (rows_of f)
    go None e = ap (λ p. option_map_or (λ b. b) p false) (none e) ∙ ap is_true (sym e ∙ one_text-rows f id)
    go (Some t) e = read_flag E t o (some t e) ∙ ap is_true (sym e ∙ one_text-rows f id)
