use Rattle.std.proofs.Common.{arith}
use Rattle.block.proofs.Places.{ones_lower, below_le}
use Rattle.block.proofs.masks.Mask.place.Goals as goal

pub returns : goal.returns
returns c =
    let m = c.args.self.0 in
    let e = ones_lower m c.args.pair c.requires in
    record { value = omega (arith, e); bound = omega (arith, e, below_le m c.args.pair) }
