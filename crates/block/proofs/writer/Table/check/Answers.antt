use Rattle.std.proofs.Common.{◌≡◌, ℕ, ◌+◌, ◌*◌, ◌<◌, List, length, get_or, drop, Ok, Some, None, Option, refl, ◌∙◌, drop-cons, arith}
use Rattle.std.proofs.lemmas.Grind.{common_steps}
use Rattle.block.specs.Mask.{below, mask_of, present}
use Rattle.block.specs.Reading.{in_range, numbers_fit}
use Rattle.block.proofs.Tables.{bit_mask}
use Rattle.block.proofs.writer.Table.check.Goals as goal
use Rattle.block.proofs.writer.Table.check.Goals.{in-Some+in_ok-number_fits, in_default}

-- a number that is there is checked, and the next stands 4 bytes further on
some_left : (ns : List (Option ℕ)) (m k y : ℕ) → length ns ≡ 64 → m ≡ mask_of ns 64 → k < 64 → get_or ns k None ≡ Some y → in_range 1 1000000 y (24 + 4 * below m k) ≡ Ok tt
    → numbers_fit (present (drop (k + 1) ns)) (24 + 4 * below m (k + 1)) ≡ numbers_fit (present (drop k ns)) (24 + 4 * below m k)
unfolding below
some_left ns m k y l e h o f = grind (arith, common_steps, drop-cons ns k None, bit_mask ns 64 k h)

-- none is passed over, and the next stands where it was
none_left : (ns : List (Option ℕ)) (m k : ℕ) → length ns ≡ 64 → m ≡ mask_of ns 64 → k < 64 → get_or ns k None ≡ None
    → numbers_fit (present (drop (k + 1) ns)) (24 + 4 * below m (k + 1)) ≡ numbers_fit (present (drop k ns)) (24 + 4 * below m k)
unfolding below
none_left ns m k l e h o = grind (arith, common_steps, drop-cons ns k None, bit_mask ns 64 k h)

pub loop-pair-init : goal.loop-pair-init
unfolding below
loop-pair-init c = refl

pub loop-pair-preserved : goal.loop-pair-preserved
loop-pair-preserved c =
    let ns = c.args.self.now.named.now in
    let k = c.loop-pair.pair in
    elim c.match-number.branch [
      | in-Some+in_ok-number_fits w ↦ some_left ns c.args.self.now.mask.0 k w.in-Some.number c.args.self.now.whole c.args.self.now.masked c.loop-pair-test.true w.in-Some.is (grind (arith, common_steps)) ∙ c.loop-pair.invariant
      | in_default w ↦ none_left ns c.args.self.now.mask.0 k c.args.self.now.whole c.args.self.now.masked c.loop-pair-test.true w.in_default.is ∙ c.loop-pair.invariant
    ]
