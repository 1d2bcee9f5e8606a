-- A letter as its parts, and the parts that the bytes of a block say.
--   Parts     name, named numbers by pair, body
--   parts     a letter of these parts
--   named_in  the number that a block has for a pair
--   named_of  the named numbers of a block, by pair
--   name_of   the name that a block's bytes say
--   parts_of  the parts that a block's bytes say
use Rattle.std.specs.Prelude.{ℕ, ◌+◌, ◌*◌, if◌then◌else◌, List, map, Some, None, Option, ◌==◌, slice_index}
use Rattle.std.specs.List.{between, range_with_len}
use Rattle.block.specs.declared.names.Name.{Name}
use Rattle.block.specs.Numbers.{wide}
use Rattle.block.specs.Mask.{bit, below}

-- a letter: its name, for each of the 64 pairs the number that it names or none, and its body
pub record Parts : Type 0 where
  pub name : Name
  pub named : List (Option ℕ)
  pub body : List ℕ

-- a letter of these parts
abbrev pub parts : Name → List (Option ℕ) → List ℕ → Parts
parts name named body = record { name = name; named = named; body = body }

-- the number that xs has for pair k: of the named pairs, the i-th by ascending pair has the 4 bytes from place 24 + 4·i
abbrev pub named_in : List ℕ → ℕ → ℕ → Option ℕ
named_in xs mask k = if bit mask k == 1 then Some (wide 4 xs (24 + 4 * below mask k)) else None

-- the named numbers of xs for the pairs 0 to 63; its mask is in bytes 16 to 23
unfoldable pub named_of : List ℕ → List (Option ℕ)
named_of xs = map (named_in xs (wide 8 xs 16)) (range_with_len 0 64)

-- the name that the bytes say: poster in byte 2, channel in byte 3, number in bytes 4 to 7
abbrev pub name_of : List ℕ → Name
name_of xs = record { station = slice_index xs 2; channel = slice_index xs 3; number = wide 4 xs 4 }

-- the parts that the bytes say: byte 8 is the length of the body, which begins at byte 280
abbrev pub parts_of : List ℕ → Parts
parts_of xs = record { name = name_of xs; named = named_of xs; body = between 280 (280 + slice_index xs 8) xs }
