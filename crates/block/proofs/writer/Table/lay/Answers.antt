use Rattle.std.proofs.Common.{◌≡◌, ℕ, ◌+◌, List, length, take, sym, ap, ◌∙◌, arith}
use Rattle.std.proofs.Math.Seq.{paste}
use Rattle.block.specs.Numbers.{big}
use Rattle.block.specs.Writing.{numbers}
use Rattle.block.proofs.Tables.{numbers_some, numbers_none, length-numbers}
use Rattle.block.proofs.Laying.{big_4, laid_on}
use Rattle.block.proofs.writer.Table.lay.Goals as goal
use Rattle.block.proofs.writer.Table.lay.Goals.{in-Some, in_default}

pub loop-pair-preserved : goal.loop-pair-preserved
loop-pair-preserved c =
    let xs = c.args.block.now in
    let ns = c.args.self.now.named.now in
    let k = c.loop-pair.pair in
    let before = numbers (take k ns) in
    elim c.match-number.branch [
      | in-Some w ↦
          (let y = w.in-Some.number in
          let next : w.place.result ≡ 24 + length before =
          omega (arith, w.place.ensures.value, length-numbers ns c.args.self.now.mask.0 k c.args.self.now.whole c.args.self.now.masked (omega arith)) in
          w.block-is ∙ w.lay.ensures
          ∙ laid_on xs before (big 4 y) _ _ 24 _ c.loop-pair.invariant (w.to_be_bytes.ensures ∙ big_4 y) next (omega arith)
          ∙ ap (λ (ys : List ℕ). paste xs 24 ys (length ys)) (sym (numbers_some ns k y (omega arith) w.in-Some.is)))
      | in_default w ↦
          w.block-is ∙ c.loop-pair.invariant ∙ ap (λ (ys : List ℕ). paste xs 24 ys (length ys)) (sym (numbers_none ns k (omega arith) w.in_default.is))
    ]
