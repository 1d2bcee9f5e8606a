use Rattle.std.proofs.Common.{◌≡◌, ◌*◌, ◌≤◌}
use Rattle.block.specs.Sum.{weighted}
use Rattle.block.proofs.fields.check_of.Given as goal

abbrev pub invariant-loop-i : goal.invariant-loop-i
invariant-loop-i l = (l.sum ≡ weighted l.block l.i) × (l.sum ≤ 129540 * l.i)
