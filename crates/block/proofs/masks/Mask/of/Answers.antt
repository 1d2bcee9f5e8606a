use Rattle.std.proofs.Common.{refl, pow-suc, add-one, arith}
use Rattle.std.proofs.lemmas.Nat.{one_shl}
use Rattle.std.proofs.lemmas.Grind.{common_steps}
use Rattle.block.specs.Mask.{mask_of}
use Rattle.block.proofs.Tables.{mask_on, mask_off}
use Rattle.block.proofs.masks.Mask.of.Goals as goal

pub loop-k-init : goal.loop-k-init
unfolding mask_of
loop-k-init c = (refl, omega arith)

pub loop-k-preserved : goal.loop-k-preserved
loop-k-preserved c =
    let ns = c.args.named.now in
    let k = c.loop-k.k in
    grind (arith, common_steps, mask_on ns k, mask_off ns k, pow-suc 2 k, one_shl k 64, add-one k)
