use Rattle.std.proofs.Common.{ℕ, List, Option}
use Rattle.blocks.specs.Commands.{Entered, AllNamed}
use Rattle.blocks.proofs.commands.named_of.Given as goal

abbrev pub invariant-loop-word : goal.invariant-loop-word
invariant-loop-word l = (n : ℕ) (all : List (Option ℕ)) → Entered n l.word-iterator l.named all → AllNamed l.initial.word-iterator all
