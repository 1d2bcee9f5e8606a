-- What holds between letters and blocks, and the worked examples.
--   Typed        a table of 64 entries, and a body of bytes
--   ReadsBack    what was written reads back as the same letter
--   WritesBack   what was read is written as the same 512 bytes
--   OneBlock     each letter has just one block
--   OneLetter    two letters with one block are one letter
--   Corresponds  these four
--   first        letter 1.0.1
--   second       letter 3.1.1
--   Examples     the worked examples
use Rattle.std.specs.Prelude.{◌≡◌, ℕ, List, [], ◌∷◌, length, replicate, Some, None, Ok, Err, slice_set}
use Rattle.block.specs.declared.faults.BlockFault.TheVariants.{Kind}
use Rattle.block.specs.Faults.{number_of, place_of}
use Rattle.block.specs.Numbers.{Bytes, wide}
use Rattle.block.specs.Parts.{Parts}
use Rattle.block.specs.Reading.{reading}
use Rattle.block.specs.Writing.{block_of, writing}

-- what the types of the code say of every letter: a table of 64 entries, and a body of bytes
pub record Typed (p : Parts) : Type 0 where
  pub table : length p.named ≡ 64
  pub bytes : Bytes p.body

-- what was written reads back as the same letter
abbrev pub ReadsBack : Type 0
ReadsBack = (p : Parts) (xs : List ℕ) → Typed p → writing 512 p ≡ Ok xs → reading xs ≡ Ok p

-- what was read is written as the same bytes
abbrev pub WritesBack : Type 0
WritesBack = (p : Parts) (xs : List ℕ) → Bytes xs → reading xs ≡ Ok p → writing 512 p ≡ Ok xs

-- each letter has just one block
abbrev pub OneBlock : Type 0
OneBlock = (p : Parts) (xs ys : List ℕ) → Bytes xs → Bytes ys → reading xs ≡ Ok p → reading ys ≡ Ok p → xs ≡ ys

-- two letters with one block are one letter
abbrev pub OneLetter : Type 0
OneLetter = (p q : Parts) (xs : List ℕ) → Typed p → Typed q → writing 512 p ≡ Ok xs → writing 512 q ≡ Ok xs → p ≡ q

-- letters and blocks correspond, one to one
pub record Corresponds : Type 0 where
  pub reads_back : ReadsBack
  pub writes_back : WritesBack
  pub one_block : OneBlock
  pub one_letter : OneLetter

-- letter 1.0.1, which names nothing
abbrev pub first : List ℕ → Parts
first body = record { name = record { station = 1; channel = 0; number = 1 }; named = replicate 64 None; body = body }

-- letter 3.1.1 with no body, which names 0.2.1 and 1.0.1: the pairs 2 and 8
abbrev pub second : Parts
second = record { name = record { station = 3; channel = 1; number = 1 }; named = slice_set (slice_set (replicate 64 None) 2 (Some 1)) 8 (Some 1); body = [] }

-- 1.0.1 has check 14 with no body and check 1,990 with the one byte 7; 3.1.1 has mask 260 and check 203; a block of zeros is refused with 22 at place 0
pub record Examples : Type 0 where
  pub empty : wide 4 (block_of (first [])) 508 ≡ 14
  pub seven : wide 4 (block_of (first (7 ∷ []))) 508 ≡ 1990
  pub mask : wide 8 (block_of second) 16 ≡ 260
  pub check : wide 4 (block_of second) 508 ≡ 203
  pub zeros : reading (replicate 512 0) ≡ Err (Kind 0)
  pub zeros_number : number_of (Kind 0) ≡ 22
  pub zeros_place : place_of (Kind 0) ≡ 0
