-- Blanks, words and decimal numbers.
--   blank          whether a byte is a blank
--   blanks         how many blanks a text begins with
--   ends_word      whether a word ends at a byte
--   quoted_after   whether a double quote is open after a byte
--   word_length    how long the first word of a text is
--   rest_of        a text from its first word on
--   word_of        the first word of a text
--   after_word     a text after its first word
--   with_digit     a number with one more digit
--   by_some        go on with what an option holds
--   digits_value   a number with more digits
--   decimal_value  the number that digits write
use Rattle.std.specs.Prelude.{ℕ, ◌+◌, ◌-◌, ◌*◌, ◌^◌, Bool, false, if◌then◌else◌, not, ◌&&◌, ◌||◌, List, [], ◌∷◌, length, take, drop, Some, None, Option, ◌==◌, nat_le, nat_lt}
use Rattle.std.specs.List.{prefix_len}

-- a space or a tab
abbrev pub blank : ℕ → Bool
blank b = b == 32 || b == 9

-- how many blanks a text begins with
abbrev pub blanks : List ℕ → ℕ
blanks text = prefix_len blank text

-- whether a word ends at a byte: at a blank where no double quote is open
abbrev pub ends_word : ℕ → Bool → Bool
ends_word b quoted = blank b && not quoted

-- whether a double quote, byte 34, is open after a byte
abbrev pub quoted_after : ℕ → Bool → Bool
quoted_after b quoted = if b == 34 then not quoted else quoted

-- how long the first word of a text is; `quoted` says whether a double quote is open
unfoldable pub word_length : List ℕ → Bool → ℕ
word_length [] quoted = 0
word_length (b ∷ bs) quoted = if ends_word b quoted then 0 else 1 + word_length bs (quoted_after b quoted)

-- a text without the blanks that it begins with
abbrev pub rest_of : List ℕ → List ℕ
rest_of text = drop (blanks text) text

-- the first word of a text
abbrev pub word_of : List ℕ → List ℕ
word_of text = take (word_length (rest_of text) false) (rest_of text)

-- a text after its first word
abbrev pub after_word : List ℕ → List ℕ
after_word text = drop (word_length (rest_of text) false) (rest_of text)

-- ten times the number and the digit, where the byte is a digit, 48 to 57, and the number stays below 2^32
abbrev pub with_digit : ℕ → ℕ → Option ℕ
with_digit value b = if nat_le 48 b && nat_le b 57 && nat_lt (value * 10 + (b - 48)) (2 ^ 32) then Some (value * 10 + (b - 48)) else None

-- go on with what an option holds, or with something else
abbrev pub by_some : {A : Type 0} → Option ℕ → A → (ℕ → A) → A
by_some None other f = other
by_some (Some x) other f = f x

-- a number with more digits
unfoldable pub digits_value : List ℕ → ℕ → Option ℕ
digits_value [] value = Some value
digits_value (b ∷ bs) value = by_some (with_digit value b) None (λ more. digits_value bs more)

-- the number that a word of one digit or more writes
abbrev pub decimal_value : List ℕ → Option ℕ
decimal_value word = if length word == 0 then None else digits_value word 0
