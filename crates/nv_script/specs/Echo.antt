-- A script whose commands are echoed: the number and the text of a command's line stand before its answers.
use Rattle.std.specs.Prelude.{◌≡◌, ◌≢◌, ℕ, ◌==◌, ◌&&◌, Bool, false, not, if◌then◌else◌, List, [], ◌∷◌, ◌++◌, codes, decimal, Option, Result, Err}
use Rattle.std.specs.List.{filter, list_any}
use Rattle.std.specs.Io.KnownBytes.{Appends}
use Rattle.nv_base.specs.declared.fault.Fault.{Fault}
use Rattle.nv_base.specs.declared.fault.Fault.TheVariants as fault
use Rattle.nv_script.specs.declared.echo.Echo.{Echo}
use Rattle.nv_script.specs.declared.echo.Echo.TheVariants as echo
use Rattle.nv_script.specs.Grammar.{is_skipped}
use Rattle.nv_script.specs.Lines.{HasNoEnd, ended}
use Rattle.nv_script.specs.Play.{Ends, machine_player, machine_player_with, no_head}
use Rattle.nv_script.specs.Texts.{line_of}

-- the echo of a line
abbrev pub echo_line : ℕ → List ℕ → List ℕ
echo_line number line = line_of (codes "> " ++ decimal number ++ codes " " ++ line)

-- THE ECHO OF A LINE: the number and the text of a command's line, on a line before its answers. A
-- line that is skipped has no answers, and no echo. Example: `> 7 tree`.
abbrev pub echo_of : ℕ → List ℕ → List ℕ
echo_of number line = if is_skipped line then [] else echo_line number line

-- what stands before the answers to the line with a number
abbrev pub before_answers : Echo → ℕ → List ℕ → List ℕ
before_answers echo.Off = no_head
before_answers echo.On = echo_of

-- HOW A SCRIPT ENDS, with or without an echo
abbrev pub PlaysEchoed : Echo → Result (Unit {0}) Fault → (input left old new : Option (List ℕ)) → Type 0
PlaysEchoed echo result input left old new = Ends (machine_player_with (before_answers echo)) result input left (λ text. Appends old new text)

-- ---- the output without its echoes

-- a line is an echo: it begins with `> `, and has another space, which stands behind the number
abbrev pub is_echo : List ℕ → Bool
is_echo (a ∷ b ∷ rest) = (a == 62) && (b == 32) && list_any (λ byte. byte == 32) rest
is_echo _ = false

-- the lines without echoes
abbrev pub without_echoes : List (List ℕ) → List (List ℕ)
without_echoes lines = filter (λ line. not (is_echo line)) lines

-- no line has a line end in it
abbrev pub AreClean : List (List ℕ) → Type 0
AreClean [] = Unit {0}
AreClean (line ∷ lines) = HasNoEnd line × AreClean lines

-- what was written is whole lines, and this text once those are left out that are echoes
abbrev pub IsEchoed : (written text : List ℕ) → Type 0
IsEchoed written text = (lines : List (List ℕ)) × AreClean lines × (written ≡ ended lines) × (text ≡ ended (without_echoes lines))

-- A SCRIPT ENDS AS IT DOES WITHOUT AN ECHO, and without the echoes its text is the same. Only a
-- failed write can leave a piece of one. Example: `> 1.1` is no echo. It tells of a file with the
-- name `>`.
abbrev pub PlaysWithoutEchoes : Result (Unit {0}) Fault → (input left old new : Option (List ℕ)) → Type 0
PlaysWithoutEchoes result input left old new = result ≢ Err fault.Write
    → Ends machine_player result input left (λ text. (written : List ℕ) × IsEchoed written text × Appends old new written)
