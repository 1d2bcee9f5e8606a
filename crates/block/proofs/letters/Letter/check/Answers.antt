use Rattle.std.proofs.Common.{◌∙◌}
use Rattle.block.proofs.Reread.{readable, check_same}
use Rattle.block.proofs.letters.Letter.check.Goals as goal

pub returns : goal.returns
returns c =
    let letter = c.args.self.now in
    c.number_at.ensures ∙ check_same letter.block (readable letter.block letter.readable) letter.again
