-- Lines of a text, how a line is taken of the bytes that a reader has left, and how a text is written.
use Rattle.std.specs.Prelude.{◌≡◌, ◌≢◌, ◌≤◌, ◌<◌, ℕ, List, [], ◌∷◌, ◌++◌, ◌-◌, length, slice_index, Option}
use Rattle.std.specs.Io.KnownBytes.{Appends, Consumes, IsAtEnd}
use Rattle.nv_script.specs.declared.feed.LineResult.{LineResult}
use Rattle.nv_script.specs.declared.feed.LineResult.TheVariants.{Line, End, Unended, Long}

-- no byte is a line end (LF)
abbrev pub HasNoEnd : List ℕ → Type 0
HasNoEnd [] = Unit {0}
HasNoEnd (byte ∷ bytes) = (byte ≢ 10) × HasNoEnd bytes

-- a line of a script: at most 4,096 bytes, without its end
abbrev pub IsLine : List ℕ → Type 0
IsLine line = HasNoEnd line × (length line ≤ 4096)

-- the bytes of some lines, each with its end
abbrev pub ended : List (List ℕ) → List ℕ
ended [] = []
ended (line ∷ lines) = (line ++ 10 ∷ []) ++ ended lines

-- a place is 0, or stands behind a line end
abbrev pub EndsLine : List ℕ → ℕ → Type 0
EndsLine bytes place = 0 < place → (place ≤ length bytes) × (slice_index bytes (place - 1) ≡ 10)

-- a text begins with these bytes, and more follow
abbrev pub IsCutOff : List ℕ → List ℕ → Type 0
IsCutOff front text = (rest : List ℕ) × (text ≡ front ++ rest) × (0 < length rest)

-- of a text a front was written, and these bytes are left
abbrev pub WritesFront : (old new : Option (List ℕ)) → (text left : List ℕ) → Type 0
WritesFront old new text left = (written : List ℕ) × (text ≡ written ++ left) × Appends old new written

-- a text was written up to a write that failed
abbrev pub WritesSome : (old new : Option (List ℕ)) → (text : List ℕ) → Type 0
WritesSome old new text = (sent : List ℕ) × IsCutOff sent text × Appends old new sent

-- what was taken: a line and its end; nothing, at the end of the bytes; the last bytes, which have no line end;
-- or the first 4,097 bytes of a line that has more than 4,096
abbrev pub LineResultIs : LineResult → Option (List ℕ) → Option (List ℕ) → List ℕ → Type 0
LineResultIs Line old new line = Consumes old new (line ++ 10 ∷ [])
LineResultIs End old new line = Consumes old new [] × IsAtEnd new × (line ≡ [])
LineResultIs Unended old new line = Consumes old new line × IsAtEnd new × (line ≢ [])
LineResultIs Long old new line = (byte : ℕ) × Consumes old new (line ++ byte ∷ []) × (byte ≢ 10) × (length line ≡ 4096)
