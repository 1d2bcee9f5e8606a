-- Hexadecimal digits, and the bytes that they write.
--   from_to    whether a byte lies in a range
--   hex_value  the value of a digit
--   hex_digit  the digit of a value
--   hex_text   the two digits of a byte
--   pushed     bytes with one more
--   hex_bytes  the bytes that digits write
--   ReadsAs    that an answer has such bytes, or such a reason
use Rattle.std.specs.Prelude.{◌≡◌, ℕ, ◌+◌, ◌-◌, ◌*◌, ◌/◌, ◌%◌, Bool, if◌then◌else◌, ◌&&◌, List, [], ◌∷◌, ◌++◌, length, Some, None, Ok, Err, Option, Result, nat_le, nat_lt}
use Rattle.arrayvec.specs.ArrayVec.{ArrayVec}
use Rattle.blocks.specs.declared.commands.Misread.{Misread}
use Rattle.blocks.specs.declared.commands.Misread.TheVariants.{BadDigit, OddDigits}
use Rattle.blocks.specs.Words.{blank, by_some}

-- b lies from low to high
abbrev pub from_to : ℕ → ℕ → ℕ → Bool
from_to low high b = nat_le low b && nat_le b high

-- 0 to 9 are the bytes 48 to 57, A to F are 65 to 70, and a to f are 97 to 102
abbrev pub hex_value : ℕ → Option ℕ
hex_value b =
    if from_to 48 57 b then Some (b - 48) else if from_to 65 70 b then Some (b - 55) else if from_to 97 102 b then Some (b - 87) else None

-- the digit of a value below 16, in lower case
abbrev pub hex_digit : ℕ → ℕ
hex_digit v = if nat_lt v 10 then 48 + v else 87 + v

-- the two digits of a byte, the higher first
abbrev pub hex_text : ℕ → List ℕ
hex_text b = hex_digit (b / 16) ∷ (hex_digit (b % 16) ∷ [])

-- bytes with one more, where there is room: 4096, which is more than a line writes
abbrev pub pushed : List ℕ → ℕ → List ℕ
pushed bytes b = if nat_lt (length bytes) 4096 then bytes ++ b ∷ [] else bytes

-- the bytes so far with those that the text writes, two digits to a byte, the higher first; `high` is a digit that waits
-- for its second, and blanks are passed over
unfoldable pub hex_bytes : List ℕ → List ℕ → Option ℕ → Result (List ℕ) Misread
hex_bytes [] bytes high = by_some high (Ok bytes) (λ _. Err OddDigits)
hex_bytes (b ∷ bs) bytes high =
    if blank b then hex_bytes bs bytes high
    else by_some (hex_value b) (Err BadDigit) (λ d.
    by_some high (hex_bytes bs bytes (Some d)) (λ h. hex_bytes bs (pushed bytes (16 * h + d)) None))

-- that an answer has these bytes, or this reason
abbrev pub ReadsAs : Result (ArrayVec ℕ) Misread → Result (List ℕ) Misread → Type 0
ReadsAs (Ok bytes) read = read ≡ Ok bytes.items
ReadsAs (Err reason) read = read ≡ Err reason
