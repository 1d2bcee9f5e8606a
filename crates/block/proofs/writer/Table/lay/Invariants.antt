use Rattle.std.proofs.Common.{◌≡◌, length, take}
use Rattle.std.proofs.Math.Seq.{paste}
use Rattle.block.specs.Writing.{numbers}
use Rattle.block.proofs.writer.Table.lay.Given as goal

abbrev pub invariant-loop-pair : goal.invariant-loop-pair
invariant-loop-pair l = l.block ≡ paste l.initial.block 24 (numbers (take l.pair l.self.named.now)) (length (numbers (take l.pair l.self.named.now)))
