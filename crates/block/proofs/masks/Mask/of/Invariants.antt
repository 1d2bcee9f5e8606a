use Rattle.std.proofs.Common.{◌≡◌, ◌^◌, ◌<◌}
use Rattle.block.specs.Mask.{mask_of}
use Rattle.block.proofs.masks.Mask.of.Given as goal

abbrev pub invariant-loop-k : goal.invariant-loop-k
invariant-loop-k l = (l.mask ≡ mask_of l.named l.k) × (l.mask < 2 ^ l.k)
