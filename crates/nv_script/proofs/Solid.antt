-- Bytes of texts: no line end and no space stands among digits and escaped bytes.
use Rattle.std.proofs.Common.{◌≡◌, ◌≢◌, ℕ, ◌+◌, ◌/◌, ◌%◌, ◌≤◌, ◌==◌, ◌&&◌, Bool, true, false, not, nat_lt, List, [], ◌∷◌, ◌++◌, zero, suc, refl, arith}
use Rattle.std.specs.Prelude.{if◌then◌else◌}
use Rattle.std.specs.List.{list_all, list_any}
use Rattle.std.specs.Fmt.{decimal, digit_glyph, digits, digits_onto}
use Rattle.std.proofs.lemmas.Bool.Decides.{nat_tests}
use Rattle.std.proofs.lemmas.Bool.{and_parts}
use Rattle.nv_script.specs.Echo.{is_echo}
use Rattle.nv_script.specs.Trace.{is_event}
use Rattle.nv_script.specs.Lines.{HasNoEnd}
use Rattle.nv_script.specs.Words.{escaped, escaped_byte, is_plain}

-- each byte is visible: `!` or above
abbrev pub IsSolid : List ℕ → Type 0
IsSolid [] = Unit {0}
IsSolid (byte ∷ bytes) = (33 ≤ byte) × IsSolid bytes

pub solid_append : (a b : List ℕ) → IsSolid a → IsSolid b → IsSolid (a ++ b)
solid_append [] b first then_ = then_
solid_append (byte ∷ a) b first then_ = (first.0, solid_append a b first.1 then_)

pub solid_clean : (a : List ℕ) → IsSolid a → HasNoEnd a
solid_clean [] solid = tt
solid_clean (byte ∷ a) solid = ((λ is. let much = solid.0 in omega (arith, is, much)), solid_clean a solid.1)

not_space : (byte : ℕ) → 33 ≤ byte → (byte == 32) ≡ false
not_space byte much = grind (arith, nat_tests)

pub solid_spaceless : (a : List ℕ) → IsSolid a → list_any (λ byte. byte == 32) a ≡ false
solid_spaceless [] solid = refl
solid_spaceless (byte ∷ a) solid = rw (not_space byte solid.0) (solid_spaceless a solid.1)

-- ---- digits

glyph_solid : (digit : ℕ) → 33 ≤ digit_glyph false digit
glyph_solid digit = go (nat_lt digit 10) where
  go : (few : Bool) → 33 ≤ (if few then 48 + digit else (if false then 55 + digit else 87 + digit))
  go true = omega arith
  go false = omega arith

digits_solid : (k base n : ℕ) (rest : List ℕ) → IsSolid rest → IsSolid (digits_onto k base false n rest)
digits_solid zero base n rest solid = solid
digits_solid (suc k) base n rest solid =
    let digit = digit_glyph false (n % base) in
    let more : IsSolid (digit ∷ rest) = (glyph_solid (n % base), solid) in
    let last = digits_solid k base (n / base) (digit ∷ rest) more in
    elim (n / base == 0) as (λ b. IsSolid (if b then digit ∷ rest else digits_onto k base false (n / base) (digit ∷ rest))) [
      | true ↦ more
      | false ↦ last
    ]

pub decimal_solid : (n : ℕ) → IsSolid (decimal n)
unfolding digits
decimal_solid n = digits_solid 64 10 n [] tt

-- ---- escaped bytes

plain_solid : (byte : ℕ) → is_plain byte ≡ true → 33 ≤ byte
plain_solid byte plain = grind (arith, nat_tests)

byte_solid : (byte : ℕ) (plain : Bool) → is_plain byte ≡ plain
    → IsSolid (if plain then byte ∷ [] else 37 ∷ digit_glyph false (byte / 16) ∷ digit_glyph false (byte % 16) ∷ [])
byte_solid byte true is = (plain_solid byte is, tt)
byte_solid byte false is = (omega arith, (glyph_solid (byte / 16), (glyph_solid (byte % 16), tt)))

pub escaped_solid : (bytes : List ℕ) → IsSolid (escaped bytes)
escaped_solid [] = tt
escaped_solid (byte ∷ bytes) = solid_append (escaped_byte byte) (escaped bytes) (byte_solid byte (is_plain byte) refl) (escaped_solid bytes)

-- ---- lines

no_end : (byte : ℕ) → not (byte == 10) ≡ true → byte ≢ 10
no_end byte other is = let same : (byte == 10) ≡ true = (rw is refl) in absurd (let no = rw same at other in cc)

-- bytes of which a test finds no line end
pub clean_text : (bytes : List ℕ) → list_all (λ byte. not (byte == 10)) bytes ≡ true → HasNoEnd bytes
clean_text [] test = tt
clean_text (byte ∷ bytes) test =
    let both = and_parts (not (byte == 10)) (list_all (λ b. not (b == 10)) bytes) test in
    (no_end byte both.0, clean_text bytes both.1)

-- a line that begins with another byte is no echo
pub other_line : (byte : ℕ) (line : List ℕ) → (byte == 62) ≡ false → is_echo (byte ∷ line) ≡ false
other_line byte [] other = refl
other_line byte (next ∷ line) other = rw other refl

spaceless_head : (a : List ℕ) (rest : List ℕ) → IsSolid a → IsSolid rest → is_echo (a ++ 32 ∷ rest) ≡ false
spaceless_head [] rest solid none = other_line 32 rest refl
spaceless_head (a ∷ []) rest solid none = go (a == 62) where
  go : (b : Bool) → (b && (32 == 32) && list_any (λ byte. byte == 32) rest) ≡ false
  go true = solid_spaceless rest none
  go false = refl
spaceless_head (a ∷ b ∷ more) rest solid none = go (a == 62) where
  go : (c : Bool) → (c && (b == 32) && list_any (λ byte. byte == 32) (more ++ 32 ∷ rest)) ≡ false
  go true = rw (not_space b solid.1.0) refl
  go false = refl

-- two words are no echo
pub two_words : (a rest : List ℕ) → IsSolid a → IsSolid rest → is_echo (a ++ (32 ∷ [] ++ rest)) ≡ false
two_words a rest solid none = spaceless_head a rest solid none

-- ---- lines of events

-- a line that begins with another byte is none of an event
pub other_event : (byte : ℕ) (line : List ℕ) → (byte == 32) ≡ false → is_event (byte ∷ line) ≡ false
other_event byte [] other = refl
other_event byte (next ∷ line) other = rw other refl

-- two words are none, where the first may have no byte
pub two_words_event : (a rest : List ℕ) → IsSolid a → IsSolid rest → is_event (a ++ (32 ∷ [] ++ rest)) ≡ false
two_words_event [] [] solid none = refl
two_words_event [] (byte ∷ rest) solid none = not_space byte none.0
two_words_event (a ∷ []) rest solid none = other_event a (32 ∷ rest) (not_space a solid.0)
two_words_event (a ∷ b ∷ more) rest solid none = other_event a ((b ∷ more) ++ 32 ∷ rest) (not_space a solid.0)
