use Rattle.std.proofs.Common.{refl, arith}
use Rattle.block.specs.Sum.{weighted}
use Rattle.block.proofs.Sums.{term_le, weighted_more}
use Rattle.block.proofs.fields.check_of.Goals as goal

pub loop-i-init : goal.loop-i-init
unfolding weighted
loop-i-init c = (refl, omega arith)

pub loop-i-preserved : goal.loop-i-preserved
loop-i-preserved c =
    let more = weighted_more c.args.block.now c.loop-i.i in
    let byte = c.from.ensures in
    let sum = c.loop-i.invariant.0 in
    (cc, omega (arith, term_le c.from.result c.loop-i.i (omega arith) (omega arith)))
