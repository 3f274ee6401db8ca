-- Printed text has visible bytes and escapes of two lower-case digits.
use Rattle.std.proofs.Common.{◌≡◌, ◌<◌, ℕ, ◌/◌, ◌%◌, Bool, true, false, List, [], ◌∷◌, inl, inr, refl, arith}
use Rattle.std.specs.Fmt.{digit_glyph}
use Rattle.std.specs.List.{All}
use Rattle.std.specs.Prelude.{slice_index}
use Rattle.std.proofs.lemmas.Bool.Decides.{nat_tests}
use Rattle.std.proofs.lemmas.List.Elements.{All-head, All-tail}
use Rattle.std.proofs.lemmas.List.FromFn.{get_or-map-range_with_len}
use Rattle.nv_script.specs.Words.{escaped, escaped_byte, is_plain}
use Rattle.nv_script.specs.Printed.{ArePrinted, IsEscape, IsPrinted, IsVisible, digits}

digit_at : (value : ℕ) → value < 16 → slice_index digits value ≡ digit_glyph false value
digit_at value small = get_or-map-range_with_len (digit_glyph false) 0 16 value value 0 small (omega arith)

escape_of : (byte : ℕ) → byte < 256 → IsEscape byte (37 ∷ digit_glyph false (byte / 16) ∷ digit_glyph false (byte % 16) ∷ [])
escape_of byte small =
    let high = digit_at (byte / 16) (omega arith) in
    let low = digit_at (byte % 16) (omega arith) in
    (byte / 16, byte % 16, omega arith, omega arith, omega arith, rw (high, low) refl)

visible : (byte : ℕ) → is_plain byte ≡ true → IsVisible byte
visible byte plain = (grind (arith, nat_tests), grind (arith, nat_tests), grind (arith, nat_tests))

hidden : (byte : ℕ) → is_plain byte ≡ false → IsVisible byte → ⊥
hidden byte other seen = grind (arith, nat_tests)

printed : (byte : ℕ) (b : Bool) → is_plain byte ≡ b → byte < 256 → IsPrinted byte (escaped_byte byte)
printed byte true plain small = inl (visible byte plain, rw plain refl)
printed byte false other small = inr (hidden byte other, rw other (escape_of byte small))

pub are_printed : (bytes : List ℕ) → All (λ byte. byte < 256) bytes → ArePrinted bytes (escaped bytes)
are_printed [] small = refl
are_printed (byte ∷ bytes) small = (
  escaped_byte byte,
  escaped bytes,
  refl,
  printed byte _ refl (All-head (λ n. n < 256) byte bytes small),
  are_printed bytes (All-tail (λ n. n < 256) byte bytes small),
)
