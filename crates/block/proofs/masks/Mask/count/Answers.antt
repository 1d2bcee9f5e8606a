use Rattle.std.proofs.Common.{arith}
use Rattle.block.proofs.Places.{ones_all}
use Rattle.block.proofs.masks.Mask.count.Goals as goal

pub returns-clause-value : goal.returns-clause-value
returns-clause-value c = ones_all c.args.self.0 (omega arith)
