use Rattle.std.proofs.Common.{length}
use Rattle.carriers.specs.Filling.{OnlyFor}
use Rattle.carriers.proofs.filling.Trial.empty.Given as goal

abbrev pub invariant-loop-block : goal.invariant-loop-block
invariant-loop-block g l = OnlyFor l.self.station (g.C.Carrier.meaning l.initial.carrier) (g.C.Carrier.meaning l.carrier)

-- the blocks that are left
abbrev pub decreases-loop-block : goal.decreases-loop-block
decreases-loop-block g l = length ((g.C.Carrier.meaning l.carrier).bag l.self.station)
