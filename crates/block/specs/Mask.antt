-- Which pairs are named: the mask, and the place of a named pair's number.
--   bit      whether a mask names a pair
--   below    how many pairs below one a mask names
--   flag     whether a table's entry holds a number
--   mask_of  the mask of a table's entries
--   present  the numbers that a table holds, by ascending pair
use Rattle.std.specs.Prelude.{ℕ, zero, suc, ◌+◌, ◌*◌, ◌/◌, ◌%◌, ◌^◌, List, [], ◌∷◌, Some, None, Option, slice_index_or}

-- 1 where the mask names pair k, else 0: the mask's bit of value 2^k
abbrev pub bit : ℕ → ℕ → ℕ
bit mask k = mask / 2 ^ k % 2

-- how many pairs below k the mask names: the place of pair k among the numbers, if it is named
unfoldable pub below : ℕ → ℕ → ℕ
below mask zero = 0
below mask (suc k) = below mask k + bit mask k

-- 1 for a number that is there, 0 for none
abbrev pub flag : Option ℕ → ℕ
flag None = 0
flag (Some y) = 1

-- the mask of the first k entries of a table: bit k is set where pair k is named
unfoldable pub mask_of : List (Option ℕ) → ℕ → ℕ
mask_of named zero = 0
mask_of named (suc k) = mask_of named k + flag (slice_index_or named k None) * 2 ^ k

-- the numbers that a table holds, by ascending pair
abbrev pub present : List (Option ℕ) → List ℕ
present [] = []
present (None ∷ rest) = present rest
present (Some y ∷ rest) = y ∷ present rest
