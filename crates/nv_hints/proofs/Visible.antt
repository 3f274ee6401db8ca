-- What is shown is visible.
use Rattle.std.proofs.Common.{◌≡◌, ◌<◌, ◌/◌, ◌%◌, ℕ, Bool, true, false, List, [], ◌∷◌, refl, arith}
use Rattle.std.specs.Fmt.{digit_glyph}
use Rattle.std.specs.List.{All}
use Rattle.std.proofs.lemmas.Bool.Decides.{nat_tests}
use Rattle.std.proofs.lemmas.List.Elements.{All-append, All-cons, All-head, All-nil, All-tail}
use Rattle.nv_hints.specs.Shown.{IsVisible, is_shown, shown, shown_byte}

visible_digit : (digit : ℕ) → digit < 16 → IsVisible (digit_glyph false digit)
visible_digit digit small = (grind (arith, nat_tests), grind (arith, nat_tests))

visible_byte : (byte : ℕ) (b : Bool) → is_shown byte ≡ b → byte < 256 → All IsVisible (shown_byte byte)
visible_byte byte true is small =
    rw is (All-cons IsVisible byte [] (grind (arith, nat_tests), grind (arith, nat_tests)) (All-nil IsVisible))
visible_byte byte false is small =
    rw is (All-cons IsVisible 92 (120 ∷ digit_glyph false (byte / 16) ∷ digit_glyph false (byte % 16) ∷ []) (omega arith, omega arith)
    (All-cons IsVisible 120 (digit_glyph false (byte / 16) ∷ digit_glyph false (byte % 16) ∷ []) (omega arith, omega arith)
    (All-cons IsVisible (digit_glyph false (byte / 16)) (digit_glyph false (byte % 16) ∷ []) (visible_digit (byte / 16) (omega arith))
    (All-cons IsVisible (digit_glyph false (byte % 16)) [] (visible_digit (byte % 16) (omega arith)) (All-nil IsVisible)))))

pub shown-visible : (bytes : List ℕ) → All (λ byte. byte < 256) bytes → All IsVisible (shown bytes)
shown-visible [] small = All-nil IsVisible
shown-visible (byte ∷ bytes) small =
    All-append IsVisible (shown_byte byte) (shown bytes)
    (visible_byte byte (is_shown byte) refl (All-head (λ n. n < 256) byte bytes small))
    (shown-visible bytes (All-tail (λ n. n < 256) byte bytes small))
