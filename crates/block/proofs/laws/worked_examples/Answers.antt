use Rattle.block.proofs.Correspond.{examples}
use Rattle.block.proofs.laws.worked_examples.Goals as goal

pub returns : goal.returns
returns c = examples
