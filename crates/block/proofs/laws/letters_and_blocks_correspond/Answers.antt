use Rattle.block.proofs.Correspond.{corresponds}
use Rattle.block.proofs.laws.letters_and_blocks_correspond.Goals as goal

pub returns : goal.returns
returns c = corresponds
