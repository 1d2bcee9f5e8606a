use Rattle.std.proofs.Common.{◌-◌, length}
use Rattle.carriers.specs.Filling.{OnlyFor}
use Rattle.carriers.proofs.filling.Trial.fill.Given as goal

abbrev pub invariant-loop-block : goal.invariant-loop-block
invariant-loop-block g l = OnlyFor l.self.station (g.C.Carrier.meaning l.initial.carrier) (g.C.Carrier.meaning l.carrier)

-- the room that is left
abbrev pub decreases-loop-block : goal.decreases-loop-block
decreases-loop-block g l = let m = g.C.Carrier.meaning l.carrier in m.limit l.self.station - length (m.bag l.self.station)
