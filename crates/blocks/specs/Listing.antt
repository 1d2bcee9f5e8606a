-- How a letter is listed.
--   named_text   the name that a letter has for a pair, after a space
--   names_below  the names of the pairs below one, by ascending pair
--   names_text   all names, or that there are none
--   body_text    the digits of a body, or a hyphen where it is empty
--   letter_text  name, names, mask, check and body of a letter
use Rattle.std.specs.Prelude.{ℕ, zero, suc, if◌then◌else◌, List, [], ◌∷◌, ◌++◌, length, None, Option, ◌==◌, slice_index_or, codes, decimal}
use Rattle.std.specs.List.{flat_map}
use Rattle.block.specs.Pairs.{of_pair}
use Rattle.block.specs.Mask.{mask_of, present}
use Rattle.block.specs.Sum.{weighted}
use Rattle.block.specs.Parts.{Parts}
use Rattle.block.specs.Writing.{front}
use Rattle.block.specs.Text.{name_text}
use Rattle.blocks.specs.Words.{by_some}
use Rattle.blocks.specs.Hex.{hex_text}

-- a space, byte 32, and the name of pair k, where a number is named for it
abbrev pub named_text : List (Option ℕ) → ℕ → List ℕ
named_text named k = by_some (slice_index_or named k None) [] (λ y. 32 ∷ name_text (of_pair k y))

-- the names of the pairs 0 to n - 1
unfoldable pub names_below : List (Option ℕ) → ℕ → List ℕ
names_below named zero = []
names_below named (suc n) = names_below named n ++ named_text named n

-- the names of all 64 pairs, or that there are none
abbrev pub names_text : List (Option ℕ) → List ℕ
names_text named = if length (present named) == 0 then codes " none" else names_below named 64

-- two digits for each byte, or a hyphen for none
abbrev pub body_text : List ℕ → List ℕ
body_text body = if length body == 0 then codes "-" else flat_map hex_text body

-- the parts of a letter in one line
abbrev pub letter_text : Parts → List ℕ
letter_text p =
    codes "letter " ++ (name_text p.name ++ (codes " names" ++ (names_text p.named
    ++ (codes " mask " ++ (decimal (mask_of p.named 64) ++ (codes " check " ++ (decimal (weighted (front p) 508)
    ++ (codes " body " ++ body_text p.body))))))))
