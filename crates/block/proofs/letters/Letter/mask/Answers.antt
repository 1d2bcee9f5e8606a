use Rattle.std.proofs.Common.{sym, ◌∙◌, arith}
use Rattle.block.proofs.Tables.{mask_of-named_of}
use Rattle.block.proofs.letters.Letter.mask.Goals as goal

pub returns : goal.returns
returns c = c.read.ensures ∙ sym (mask_of-named_of c.args.self.now.block (omega (arith, c.read.ensures)))
