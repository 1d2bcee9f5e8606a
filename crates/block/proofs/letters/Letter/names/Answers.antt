use Rattle.std.proofs.Common.{ℕ, length, sym, ap, ◌∙◌}
use Rattle.block.specs.Numbers.{wide}
use Rattle.block.specs.Mask.{below}
use Rattle.block.proofs.Tables.{present-named_of, length-numbers_from}
use Rattle.block.proofs.letters.Letter.names.Goals as goal

pub returns : goal.returns
returns c =
    let xs = c.args.self.now.block in
    c.count.ensures.value ∙ ap (λ (m : ℕ). below m 64) c.read.ensures
    ∙ sym (length-numbers_from (below (wide 8 xs 16) 64) xs 24) ∙ ap length (sym (present-named_of xs))
