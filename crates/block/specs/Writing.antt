-- The block of a letter, and what writing one answers.
--   head      the first 24 bytes
--   numbers   the named numbers
--   front     the first 508 bytes
--   block_of  all 512
--   roomy     the length of the memory
--   writing   the block, or the first fault in the order of checks
use Rattle.std.specs.Prelude.{ℕ, if◌then◌else◌, List, [], ◌∷◌, ◌++◌, length, Ok, Err, Option, Result, ◌==◌}
use Rattle.std.specs.List.{flat_map}
use Rattle.block.specs.declared.names.Name.{Name}
use Rattle.block.specs.declared.faults.BlockFault.{BlockFault}
use Rattle.block.specs.declared.faults.BlockFault.TheVariants.{Length}
use Rattle.block.specs.Numbers.{big, fit}
use Rattle.block.specs.Sum.{weighted}
use Rattle.block.specs.Mask.{mask_of, present}
use Rattle.block.specs.Parts.{Parts}
use Rattle.block.specs.Reading.{Checked, bind, head_fits, numbers_fit}

-- kind 1, edition 1, poster, channel, number in 4 bytes, length of the body, with zeros up to 16 bytes; then the mask in 8 bytes
abbrev pub head : Name → ℕ → ℕ → List ℕ
head name len mask = fit 16 (1 ∷ (1 ∷ (name.station ∷ (name.channel ∷ (big 4 name.number ++ len ∷ []))))) ++ big 8 mask

-- the named numbers in 4 bytes each, by ascending pair
abbrev pub numbers : List (Option ℕ) → List ℕ
numbers named = flat_map (big 4) (present named)

-- the head and the named numbers, with zeros up to 280 bytes; then the body, with zeros up to 508 bytes
unfoldable pub front : Parts → List ℕ
front p = fit 508 (fit 280 (head p.name (length p.body) (mask_of p.named 64) ++ numbers p.named) ++ p.body)

-- the front, and its check in 4 bytes
abbrev pub block_of : Parts → List ℕ
block_of p = front p ++ big 4 (weighted (front p) 508)

-- memory of 512 bytes
abbrev pub roomy : ℕ → Checked
roomy room = if room == 512 then Ok tt else Err Length

-- what writing into memory of so many bytes answers
abbrev pub writing : ℕ → Parts → Result (List ℕ) BlockFault
writing room p =
    bind (roomy room) (λ _.
    bind (head_fits p.name (length p.body)) (λ _.
    bind (numbers_fit (present p.named) 24) (λ _.
    Ok (block_of p))))
