-- What a word of a line spells: a number, a handle, a mode, escaped bytes.
use Rattle.std.specs.Prelude.{ℕ, ◌+◌, ◌-◌, ◌*◌, ◌^◌, ◌/◌, ◌%◌, ◌==◌, ◌&&◌, Bool, false, not, if◌then◌else◌, nat_lt, nat_le, List, [], ◌∷◌, ◌++◌, length, Option, Some, None, option_map}
use Rattle.std.specs.List.{list_all, slice_split, flat_map}
use Rattle.std.specs.Fmt.{digit_glyph}
use Rattle.nv_base.specs.declared.numbers.Handle.{Handle}

-- the byte is a decimal digit
abbrev pub is_digit : ℕ → Bool
is_digit byte = nat_le 48 byte && nat_le byte 57

-- the decimal number that digits spell, where digits before them spell `front`
abbrev pub value_from : ℕ → List ℕ → ℕ
value_from front [] = front
value_from front (digit ∷ digits) = value_from (10 * front + (digit - 48)) digits

-- 1 to 20 digits, whose value is below 2^64
abbrev pub is_number : List ℕ → Bool
is_number word = nat_lt 0 (length word) && nat_le (length word) 20 && list_all is_digit word && nat_lt (value_from 0 word) (2 ^ 64)

-- the number that a word spells: 1 to 20 decimal digits, below 2^64
abbrev pub number_of : List ℕ → Option ℕ
number_of word = if is_number word then Some (value_from 0 word) else None

-- a number that is at most `most`
abbrev pub number_up_to : ℕ → List ℕ → Option ℕ
number_up_to most word = if is_number word && nat_le (value_from 0 word) most then Some (value_from 0 word) else None

-- a number from 1 to `most`
abbrev pub positive_up_to : ℕ → List ℕ → Option ℕ
positive_up_to most word =
    if is_number word && nat_le 1 (value_from 0 word) && nat_le (value_from 0 word) most then Some (value_from 0 word) else None

-- the words of a line: its parts between single spaces
abbrev pub words_of : List ℕ → List (List ℕ)
words_of line = slice_split (λ byte. byte == 32) line

-- the parts of a word between its points
abbrev pub parts_of : List ℕ → List (List ℕ)
parts_of word = slice_split (λ byte. byte == 46) word

-- a handle of two numbers that were read
abbrev pub handle_from : Option ℕ → Option ℕ → Option Handle
handle_from (Some ino) (Some generation) = Some (record { ino = ino; generation = generation })
handle_from (Some ino) None = None
handle_from None generation = None

-- the handle that two parts spell: number, point, number
abbrev pub handle_of_parts : List (List ℕ) → Option Handle
handle_of_parts [] = None
handle_of_parts (ino ∷ []) = None
handle_of_parts (ino ∷ generation ∷ []) = handle_from (number_of ino) (number_of generation)
handle_of_parts (ino ∷ generation ∷ more ∷ parts) = None

-- the handle that a word spells: number, point, number
abbrev pub handle_of : List ℕ → Option Handle
handle_of word = handle_of_parts (parts_of word)

-- a byte that stands for itself in escaped text: 0x21 to 0x7e, except `%`
abbrev pub is_plain : ℕ → Bool
is_plain byte = nat_le 33 byte && nat_le byte 126 && not (byte == 37)

-- the value of a hexadecimal digit of either case
abbrev pub hex_value : ℕ → Option ℕ
hex_value byte =
    if is_digit byte then Some (byte - 48)
    else if nat_le 97 byte && nat_le byte 102 then Some (byte - 87)
    else if nat_le 65 byte && nat_le byte 70 then Some (byte - 55)
    else None

-- a byte before the bytes that the rest stands for
abbrev pub before : Option ℕ → Option (List ℕ) → Option (List ℕ)
before (Some byte) (Some bytes) = Some (byte ∷ bytes)
before (Some byte) None = None
before None bytes = None

-- a byte that stands for itself
abbrev pub plain_byte : ℕ → Option ℕ
plain_byte byte = if is_plain byte then Some byte else None

-- the byte of two hexadecimal digits
abbrev pub hex_pair : Option ℕ → Option ℕ → Option ℕ
hex_pair (Some high) (Some low) = Some (16 * high + low)
hex_pair (Some high) None = None
hex_pair None low = None

-- the bytes that escaped text stands for: `%` and two hexadecimal digits stand for one byte, and each other
-- byte for itself
abbrev pub unescaped : List ℕ → Option (List ℕ)
unescaped [] = Some []
unescaped (a ∷ []) = before (plain_byte a) (Some [])
unescaped (a ∷ b ∷ []) = before (plain_byte a) (unescaped (b ∷ []))
unescaped (a ∷ b ∷ c ∷ rest) =
    if a == 37 then before (hex_pair (hex_value b) (hex_value c)) (unescaped rest)
    else before (plain_byte a) (unescaped (b ∷ c ∷ rest))

-- the bytes that escaped text stands for, behind these bytes
abbrev pub unescaped_behind : List ℕ → List ℕ → Option (List ℕ)
unescaped_behind front text = option_map (λ bytes. front ++ bytes) (unescaped text)

-- the text that a word spells, by one or more bytes: `%` and two hexadecimal digits of either case
-- stand for one byte, and each other byte from `!` to `~` for itself. Example: `a%2Fb` stands for
-- the three bytes `a/b`; `%4` is no text.
abbrev pub text_of : List ℕ → Option (List ℕ)
text_of [] = None
text_of (byte ∷ bytes) = unescaped (byte ∷ bytes)

-- a byte as it is printed: itself, or `%` and two lower-case hexadecimal digits
abbrev pub escaped_byte : ℕ → List ℕ
escaped_byte byte = if is_plain byte then byte ∷ [] else 37 ∷ digit_glyph false (byte / 16) ∷ digit_glyph false (byte % 16) ∷ []

-- a text as answers show it
abbrev pub escaped : List ℕ → List ℕ
escaped bytes = flat_map escaped_byte bytes

-- the lines of a text, and what stands behind the last line end
abbrev pub lines_of : List ℕ → List (List ℕ)
lines_of text = slice_split (λ byte. byte == 10) text
