use Rattle.block.proofs.Reread.{readable}
use Rattle.block.proofs.letters.Letter.block.Goals as goal

pub returns-clause-again : goal.returns-clause-again
returns-clause-again c = readable c.args.self.now.block c.args.self.now.readable
