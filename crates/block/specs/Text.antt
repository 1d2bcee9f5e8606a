-- How names and faults are written.
--   name_text   station.channel.number, in decimal digits
--   fault_text  the number of a fault and its byte place
use Rattle.std.specs.Prelude.{ℕ, List, ◌∷◌, ◌++◌, codes, decimal}
use Rattle.block.specs.declared.names.Name.{Name}
use Rattle.block.specs.declared.faults.BlockFault.{BlockFault}
use Rattle.block.specs.Faults.{number_of, place_of}

-- station.channel.number, in decimal digits; 46 is the full stop
abbrev pub name_text : Name → List ℕ
name_text n = decimal n.station ++ (46 ∷ (decimal n.channel ++ (46 ∷ decimal n.number)))

-- refused NUMBER at PLACE, in decimal digits
abbrev pub fault_text : BlockFault → List ℕ
fault_text fault = codes "refused " ++ (decimal (number_of fault) ++ (codes " at " ++ decimal (place_of fault)))
