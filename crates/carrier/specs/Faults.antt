-- The refusals of carriers, each with its number and its text.
--   number_of   the number of a fault
--   fault_text  how a fault is written
use Rattle.std.specs.Prelude.{ℕ, List, ◌++◌, codes, decimal}
use Rattle.carrier.specs.declared.faults.CarrierFault.{CarrierFault}
use Rattle.carrier.specs.declared.faults.CarrierFault.TheVariants.{SmallMemory, Full}

abbrev pub number_of : CarrierFault → ℕ
number_of SmallMemory = 4
number_of Full = 14

-- the word refused, and the number in decimal digits
abbrev pub fault_text : CarrierFault → List ℕ
fault_text fault = codes "refused " ++ decimal (number_of fault)
