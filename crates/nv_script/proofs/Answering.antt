-- Texts of whole lines, with and without echoes among them.
use Rattle.std.proofs.Common.{◌≡◌, ℕ, ◌==◌, ◌||◌, Bool, true, false, not, cond, List, [], ◌∷◌, ◌++◌, refl, ap, ◌∙◌, append_assoc, append-nil, sym}
use Rattle.std.specs.Prelude.{codes, decimal}
use Rattle.std.specs.List.{flat_map, list_any}
use Rattle.nv_script.specs.Echo.{AreClean, IsEchoed, echo_line, is_echo, without_echoes}
use Rattle.nv_script.specs.Lines.{HasNoEnd, ended}
use Rattle.nv_script.specs.Trace.{is_event}
use Rattle.nv_script.proofs.Lines.{HasNoEnd-append, ended-append}
use Rattle.nv_script.proofs.Solid.{clean_text, decimal_solid, solid_clean}

-- a line is an echo, or one of an event
abbrev pub is_beside : List ℕ → Bool
is_beside line = is_echo line || is_event line

pub no_echo : (line : List ℕ) → is_beside line ≡ false → is_echo line ≡ false
no_echo line is = go (is_echo line) (is_event line) is where
  go : (a b : Bool) → (a || b) ≡ false → a ≡ false
  go true b is = is
  go false b is = refl

pub no_event : (line : List ℕ) → is_beside line ≡ false → is_event line ≡ false
no_event line is = go (is_echo line) (is_event line) is where
  go : (a b : Bool) → (a || b) ≡ false → b ≡ false
  go true b is = cc
  go false b is = is

pub neither : (line : List ℕ) → is_echo line ≡ false → is_event line ≡ false → is_beside line ≡ false
neither line echo event = ap (λ (b : Bool). b || is_event line) echo ∙ event

-- lines, none of which is one
abbrev pub AreAnswers : List (List ℕ) → Type 0
AreAnswers [] = Unit {0}
AreAnswers (line ∷ lines) = HasNoEnd line × (is_beside line ≡ false) × AreAnswers lines

-- a text of such lines
abbrev pub IsAnswer : List ℕ → Type 0
IsAnswer text = (lines : List (List ℕ)) × AreAnswers lines × (text ≡ ended lines)

answers_append : (a b : List (List ℕ)) → AreAnswers a → AreAnswers b → AreAnswers (a ++ b)
answers_append [] b first then_ = then_
answers_append (line ∷ a) b first then_ = (first.0, first.1, answers_append a b first.2 then_)

pub none_told : IsAnswer []
none_told = ([], tt, refl)

pub line_told : (line : List ℕ) → HasNoEnd line → is_beside line ≡ false → IsAnswer (line ++ 10 ∷ [])
line_told line clean other = (line ∷ [], (clean, other, tt), sym (append-nil (line ++ 10 ∷ [])))

pub both_told : (a b : List ℕ) → IsAnswer a → IsAnswer b → IsAnswer (a ++ b)
both_told a b first then_ = (
  first.0 ++ then_.0,
  answers_append first.0 then_.0 first.1 then_.1,
  ap (λ t. t ++ b) first.2 ∙ ap (λ t. ended first.0 ++ t) then_.2 ∙ sym (ended-append first.0 then_.0),
)

pub all_told : {X : Type 0} (text : X → List ℕ) (xs : List X) → ((x : X) → IsAnswer (text x)) → IsAnswer (flat_map text xs)
all_told text [] each = none_told
all_told text (x ∷ xs) each = both_told (text x) (flat_map text xs) (each x) (all_told text xs each)

-- ---- with echoes

pub clean_lines : (a b : List (List ℕ)) → AreClean a → AreClean b → AreClean (a ++ b)
clean_lines [] b first then_ = then_
clean_lines (line ∷ a) b first then_ = (first.0, clean_lines a b first.1 then_)

without-append : (a b : List (List ℕ)) → without_echoes (a ++ b) ≡ without_echoes a ++ without_echoes b
without-append [] b = refl
without-append (line ∷ a) b =
    let more = without-append a b in
    elim (not (is_echo line)) as (λ kept. cond kept (line ∷ without_echoes (a ++ b)) (without_echoes (a ++ b))
    ≡ cond kept (line ∷ without_echoes a) (without_echoes a) ++ without_echoes b) [
      | true ↦ ap (λ (lines : List (List ℕ)). line ∷ lines) more
      | false ↦ more
    ]

pub answers_clean : (lines : List (List ℕ)) → AreAnswers lines → AreClean lines
answers_clean [] answers = tt
answers_clean (line ∷ lines) answers = (answers.0, answers_clean lines answers.2)

without-answers : (lines : List (List ℕ)) → AreAnswers lines → without_echoes lines ≡ lines
without-answers [] answers = refl
without-answers (line ∷ lines) answers =
    rw (no_echo line answers.1) (ap (λ (more : List (List ℕ)). line ∷ more) (without-answers lines answers.2))

pub none_shown : IsEchoed [] []
none_shown = ([], tt, refl, refl)

pub answer_shown : (text : List ℕ) → IsAnswer text → IsEchoed text text
answer_shown text told =
    (told.0, answers_clean told.0 told.1, told.2, told.2 ∙ ap ended (sym (without-answers told.0 told.1)))

pub both_shown : (w t w' t' : List ℕ) → IsEchoed w t → IsEchoed w' t' → IsEchoed (w ++ w') (t ++ t')
both_shown w t w' t' first then_ = (
  first.0 ++ then_.0,
  clean_lines first.0 then_.0 first.1 then_.1,
  ap (λ b. b ++ w') first.2 ∙ ap (λ b. ended first.0 ++ b) then_.2 ∙ sym (ended-append first.0 then_.0),
  ap (λ b. b ++ t') first.3 ∙ ap (λ b. ended (without_echoes first.0) ++ b) then_.3
      ∙ sym (ended-append (without_echoes first.0) (without_echoes then_.0))
      ∙ ap ended (sym (without-append first.0 then_.0)),
)

-- ---- the line of an echo

any_behind : (a rest : List ℕ) → list_any (λ byte. byte == 32) (a ++ 32 ∷ rest) ≡ true
any_behind [] rest = refl
any_behind (byte ∷ a) rest =
    let more = any_behind a rest in
    elim (byte == 32) as (λ b. (b || list_any (λ byte. byte == 32) (a ++ 32 ∷ rest)) ≡ true) [ true ↦ refl | false ↦ more ]

abbrev pub echo_bytes : ℕ → List ℕ → List ℕ
echo_bytes number line = codes "> " ++ decimal number ++ codes " " ++ line

echo_is_echo : (number : ℕ) (line : List ℕ) → is_echo (echo_bytes number line) ≡ true
echo_is_echo number line =
    ap (λ rest. list_any (λ byte. byte == 32) rest) (append_assoc (decimal number) (32 ∷ []) line) ∙ any_behind (decimal number) line

pub echo_clean : (number : ℕ) (line : List ℕ) → HasNoEnd line → HasNoEnd (echo_bytes number line)
echo_clean number line clean =
    let front = HasNoEnd-append (codes "> ") (decimal number) (clean_text (codes "> ") refl) (solid_clean (decimal number) (decimal_solid number)) in
    let spaced = HasNoEnd-append (codes "> " ++ decimal number) (codes " ") front (clean_text (codes " ") refl) in
    HasNoEnd-append (codes "> " ++ decimal number ++ codes " ") line spaced clean

without-one : (line : List ℕ) → is_echo line ≡ true → without_echoes (line ∷ []) ≡ []
without-one line is = rw is refl

pub echo_shown : (number : ℕ) (line : List ℕ) → HasNoEnd line → IsEchoed (echo_line number line) []
echo_shown number line clean =
    let bytes = echo_bytes number line in (
      bytes ∷ [],
      (echo_clean number line clean, tt),
      sym (append-nil (bytes ++ 10 ∷ [])),
      sym (ap ended (without-one bytes (echo_is_echo number line))),
    )
