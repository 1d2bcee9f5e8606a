use Rattle.std.proofs.Common.{◌≡◌, ◌+◌, ◌*◌, drop}
use Rattle.block.specs.Mask.{below, present}
use Rattle.block.specs.Reading.{numbers_fit}
use Rattle.block.proofs.writer.Table.check.Given as goal

abbrev pub invariant-loop-pair : goal.invariant-loop-pair
invariant-loop-pair l = numbers_fit (present (drop l.pair l.self.named.now)) (24 + 4 * below l.self.mask.0 l.pair) ≡ numbers_fit (present l.self.named.now) 24
