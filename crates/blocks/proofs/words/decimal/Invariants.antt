use Rattle.std.proofs.Common.{◌≡◌, drop}
use Rattle.blocks.specs.Words.{digits_value}
use Rattle.blocks.proofs.words.decimal.Given as goal

abbrev pub invariant-loop-byte : goal.invariant-loop-byte
invariant-loop-byte l = digits_value (drop l.byte-index l.word) l.value ≡ digits_value l.word 0
