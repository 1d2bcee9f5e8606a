use Rattle.std.proofs.Common.{◌≡◌, ◌-◌, ◌/◌, ◌%◌}
use Rattle.block.specs.Reading.{numbers_fit, numbers_from}
use Rattle.block.proofs.fields.check_numbers.Given as goal

abbrev pub invariant-loop-at : goal.invariant-loop-at
invariant-loop-at l =
    (l.at % 4 ≡ 0) × (numbers_fit (numbers_from l.block l.at ((l.end - l.at) / 4)) l.at ≡ numbers_fit (numbers_from l.block 24 ((l.end - 24) / 4)) 24)
