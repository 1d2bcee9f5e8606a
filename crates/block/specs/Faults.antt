-- The refusals of reading and writing a block, each with its number and its byte place.
--   number_of  the number of a fault
--   place_of   the byte place that it tells
use Rattle.std.specs.Prelude.{ℕ}
use Rattle.block.specs.declared.faults.BlockFault.{BlockFault}
use Rattle.block.specs.declared.faults.BlockFault.TheVariants.{Length, Check, Kind, Range, NonZero}

abbrev pub number_of : BlockFault → ℕ
number_of Length = 20
number_of Check = 21
number_of (Kind at) = 22
number_of (Range at) = 23
number_of (NonZero at) = 24

-- the length tells 0, the check its own first byte, the others the first byte at fault
abbrev pub place_of : BlockFault → ℕ
place_of Length = 0
place_of Check = 508
place_of (Kind at) = at
place_of (Range at) = at
place_of (NonZero at) = at
