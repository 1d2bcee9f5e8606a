use Rattle.std.proofs.Common.{◌≡◌, ◌≢◌, ℕ, ◌+◌, ◌-◌, ◌<◌, ◌≤◌, List, length, Err, arith, sym, ◌∙◌}
use Rattle.std.specs.List.{between, AllWithin, HoldsAt}
use Rattle.std.proofs.lemmas.List.Edits.{length-between, get_or-between}
use Rattle.std.proofs.lemmas.Grind.{common_steps}
use Rattle.block.specs.declared.faults.BlockFault.TheVariants.{NonZero}
use Rattle.block.specs.Reading.{zeros_in}
use Rattle.block.proofs.Checks.{sum_passes, zeros_between, zeros_stop}
use Rattle.block.proofs.fields.zeros.Goals as goal

pub returns-then-total-eq0 : goal.returns-then-total-eq0
returns-then-total-eq0 c =
    sym (sum_passes c.args.block.now c.args.places.start c.args.places.end (omega arith) (sym c.total.ensures ∙ c.if-total-eq0.true))

-- what a search of some bytes of a block finds
found : (xs : List ℕ) (from to i : ℕ) → to ≤ length xs → i < length (between from to xs) → HoldsAt (λ x. x ≢ 0) (between from to xs) i → AllWithin (λ x. x ≡ 0) (between from to xs) 0 i
    → zeros_in xs from (to - from) ≡ Err (NonZero (from + i))
found xs from to i h l f z =
    let long = length-between xs from to h in
    zeros_stop (to - from) xs from i (omega (arith, long))
    (λ k u. sym (get_or-between xs from to k 0 (omega (arith, long))) ∙ z k 0 (omega arith) u)
    (λ e. f 0 (get_or-between xs from to i 0 (omega (arith, long)) ∙ e))

pub returns-in-Some : goal.returns-in-Some
returns-in-Some c = grind (arith, common_steps, found c.args.block.now c.args.places.start c.args.places.end c.in-Some.i, c.position.ensures.runs)

pub returns-in-None : goal.returns-in-None
returns-in-None c = grind (arith, common_steps, zeros_between c.args.block.now c.args.places.start c.args.places.end, c.position.ensures.runs)
