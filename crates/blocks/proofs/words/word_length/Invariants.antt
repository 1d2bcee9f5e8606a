use Rattle.std.proofs.Common.{◌≡◌, ◌+◌, false, drop}
use Rattle.blocks.specs.Words.{word_length}
use Rattle.blocks.proofs.words.word_length.Given as goal

abbrev pub invariant-loop-i : goal.invariant-loop-i
invariant-loop-i l = l.i + word_length (drop l.i l.text) l.quoted ≡ word_length l.text false
