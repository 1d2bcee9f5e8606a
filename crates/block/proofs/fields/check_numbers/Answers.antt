use Rattle.std.proofs.Common.{◌≡◌, ℕ, ◌+◌, ◌-◌, ◌/◌, ◌%◌, ◌<◌, List, Ok, Err, sym, refl, ap, ◌∙◌, arith}
use Rattle.std.proofs.lemmas.Result.{err_from_is_err_and}
use Rattle.block.specs.Numbers.{wide}
use Rattle.block.specs.Reading.{Checked, bind, in_range, numbers_fit, numbers_from}
use Rattle.block.proofs.Checks.{numbers_step, numbers_done}
use Rattle.block.proofs.fields.check_numbers.Goals as goal

-- the check of the numbers from a place on, by what the first of them answers
one : (xs : List ℕ) (at end y : ℕ) (r : Checked) → y ≡ wide 4 xs at → r ≡ in_range 1 1000000 y at → at % 4 ≡ 0 → end % 4 ≡ 0 → at < end
    → numbers_fit (numbers_from xs at ((end - at) / 4)) at ≡ bind r (λ _. numbers_fit (numbers_from xs (at + 4) ((end - (at + 4)) / 4)) (at + 4))
one xs at end y r e k a b h =
    let rest = (end - (at + 4)) / 4 in
    numbers_step xs at ((end - at) / 4) (at + 4) rest refl (omega arith)
    ∙ ap (λ (c : Checked). bind c (λ _. numbers_fit (numbers_from xs (at + 4) rest) (at + 4))) (ap (λ (x : ℕ). in_range 1 1000000 x at) (sym e) ∙ sym k)

pub returns-in_err-number_fits : goal.returns-in_err-number_fits
returns-in_err-number_fits c =
    let p = err_from_is_err_and c.from_residual.result c.from_residual.ensures.1 in
    rw (p.1, p.2)
    (sym (one c.args.block.now c.loop-at.at c.args.end _ (Err c.in_err-number_fits.field-0.0) c.number_at.ensures c.in_err-number_fits.ensures c.loop-at.invariant.0 c.requires.whole c.loop-at-test.true)
    ∙ c.loop-at.invariant.1)

pub loop-at-preserved : goal.loop-at-preserved
loop-at-preserved c =
    let step = one c.args.block.now c.loop-at.at c.args.end _ (Ok tt) c.number_at.ensures c.in_ok-number_fits.ensures c.loop-at.invariant.0 c.requires.whole c.loop-at-test.true in
    (omega arith, sym step ∙ c.loop-at.invariant.1)

pub returns : goal.returns
returns c = sym (numbers_done c.args.block.now c.loop-at.at ((c.args.end - c.loop-at.at) / 4) (omega arith)) ∙ c.loop-at.invariant.1

pub returns-in_ok-number_fits : goal.returns-in_ok-number_fits
returns-in_ok-number_fits c =
    let at = c.loop-at.at in
    let step = one c.args.block.now at c.args.end _ (Ok tt) c.number_at.ensures c.in_ok-number_fits.ensures c.loop-at.invariant.0 c.requires.whole c.loop-at-test.true in
    sym (numbers_done c.args.block.now (at + 4) ((c.args.end - (at + 4)) / 4) (omega arith)) ∙ sym step ∙ c.loop-at.invariant.1
