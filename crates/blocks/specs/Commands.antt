-- What the words of a command write, and what a line asks for.
--   long_number   a number of 32 bits, or why there is none
--   short_number  a number of 8 bits, or why there is none
--   octal         whether a byte is a digit below 8
--   starts_name   whether a word begins as a name does
--   name_in       the name that a word writes
--   before_quote  how many bytes come before the first double quote
--   text_in       a text that a double quote ends
--   body_fault    why digits are no body
--   hex_body      the body that digits write
--   body_in       the body that a word writes
--   Entered       that some words of a text fill a table of names
--   AllNamed      that all words of a text do
--   Drafted       that the words of a text write a letter
--   Asked         that a line asks for a command
use Rattle.std.specs.Prelude.{◌≡◌, ℕ, zero, suc, ◌+◌, ◌-◌, ◌≤◌, Bool, if◌then◌else◌, ◌&&◌, List, [], length, take, replicate, Some, None, Ok, Err, Option, Result, ◌==◌, nat_le, nat_lt, slice_index, slice_index_or, slice_set}
use Rattle.std.specs.List.{between, position_or_len}
use Rattle.block.specs.declared.names.Name.{Name}
use Rattle.block.specs.Pairs.{pair_of}
use Rattle.blocks.specs.declared.commands.Command.{Command}
use Rattle.blocks.specs.declared.commands.Command.TheVariants.{Comment, Write, Read}
use Rattle.blocks.specs.declared.commands.Draft.{Draft}
use Rattle.blocks.specs.declared.commands.Misread.{Misread}
use Rattle.blocks.specs.declared.commands.Misread.TheVariants.{BadDigit, BadNumber, BadBody}
use Rattle.blocks.specs.Words.{word_of, after_word, by_some, decimal_value}
use Rattle.blocks.specs.Hex.{hex_bytes}

-- the number that a word of digits writes, if it fits 32 bits
abbrev pub long_number : List ℕ → Result ℕ Misread
long_number word = by_some (decimal_value word) (Err BadNumber) (λ n. Ok n)

-- the same, if it fits 8 bits
abbrev pub short_number : List ℕ → Result ℕ Misread
short_number word = by_some (decimal_value word) (Err BadNumber) (λ n. if nat_lt n 256 then Ok n else Err BadNumber)

-- a digit below 8: the bytes 48 to 55
abbrev octal : ℕ → Bool
octal b = nat_le 48 b && nat_le b 55

-- a digit below 8, a full stop, byte 46, a digit below 8, a full stop
abbrev starts_name : List ℕ → Bool
starts_name word =
    nat_le 4 (length word) && octal (slice_index word 0) && slice_index word 1 == 46 && octal (slice_index word 2) && slice_index word 3 == 46

-- such a start, and then the digits of the number
abbrev pub name_in : List ℕ → Option Name
name_in word =
    if starts_name word then
    by_some (decimal_value (between 4 (length word) word)) None (λ n.
    Some (record { station = slice_index word 0 - 48; channel = slice_index word 2 - 48; number = n }))
    else None

-- how many bytes come before the first double quote, byte 34
abbrev pub before_quote : List ℕ → ℕ
before_quote text = position_or_len (λ b. b == 34) text

-- the text before a double quote that is the first and the last byte to be one
abbrev pub text_in : List ℕ → Result (List ℕ) Misread
text_in rest = if before_quote rest + 1 == length rest then Ok (take (before_quote rest) rest) else Err BadBody

-- a bad digit makes a bad body
abbrev pub body_fault : Misread → Misread
body_fault BadDigit = BadBody
body_fault reason = reason

abbrev pub hex_body : Result (List ℕ) Misread → Result (List ℕ) Misread
hex_body (Ok bytes) = Ok bytes
hex_body (Err reason) = Err (body_fault reason)

-- a hyphen, byte 45, for no body; a text between double quotes; or hexadecimal digits
abbrev pub body_in : List ℕ → Result (List ℕ) Misread
body_in word =
    if length word == 1 && slice_index word 0 == 45 then Ok []
    else if nat_le 1 (length word) && slice_index word 0 == 34 then text_in (between 1 (length word) word)
    else hex_body (hex_bytes word [] None)

-- the n words of a text enter their names into a table, each at a pair that has none yet, and so fill it
unfoldable pub Entered : ℕ → List ℕ → List (Option ℕ) → List (Option ℕ) → Type 0
Entered zero text named all = (length (word_of text) ≡ 0) × (named ≡ all)
Entered (suc n) text named all =
    (name : Name) × (name_in (word_of text) ≡ Some name) × (slice_index_or named (pair_of name) None ≡ None)
    × Entered n (after_word text) (slice_set named (pair_of name) (Some name.number)) all

-- all words of a text are names, of pairs apart, and the table has their numbers and no other
abbrev pub AllNamed : List ℕ → List (Option ℕ) → Type 0
AllNamed text all = (n : ℕ) × Entered n text (replicate 64 None) all

-- station, channel, number and body of a letter are what the first four words of a text write, and the other words name
-- what it names
pub record Drafted (text : List ℕ) (draft : Draft) : Type 0 where
  pub station : short_number (word_of text) ≡ Ok draft.name.station
  pub channel : short_number (word_of (after_word text)) ≡ Ok draft.name.channel
  pub number : long_number (word_of (after_word (after_word text))) ≡ Ok draft.name.number
  pub body : length text ≤ 4096 → body_in (word_of (after_word (after_word (after_word text)))) ≡ Ok draft.body.items
  pub named : AllNamed (after_word (after_word (after_word (after_word text)))) draft.named

-- a comment begins with #, byte 35, and keeps its bytes; a letter to be written begins with W, byte 87, and a blank, and
-- has what the words after them write; a block to be read has the bytes that its digits write
abbrev pub Asked : List ℕ → Command → Type 0
Asked line (Comment bytes) = (slice_index line 0 ≡ 35) × (bytes.now ≡ line)
Asked line (Write draft) = (slice_index line 0 ≡ 87) × Drafted (between 2 (length line) line) draft
Asked line (Read bytes) = hex_bytes line [] None ≡ Ok bytes.items
