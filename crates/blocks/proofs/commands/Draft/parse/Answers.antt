use Rattle.std.proofs.Common.{ℕ, ◌≤◌, List, length, arith, length-drop, length-take, rules}
use Rattle.blocks.specs.Words.{word_of, after_word}
use Rattle.blocks.proofs.commands.Draft.parse.Goals as goal

-- the fourth word is no longer than the text
fourth_short : (xs : List ℕ) → length (word_of (after_word (after_word (after_word xs)))) ≤ length xs
fourth_short xs = simp (length-take, length-drop) (omega arith)

pub returns : goal.returns
returns c = record {
  station = search rules;
  channel = search rules;
  number = search rules;
  named = grind arith;
  body = λ fits. grind (arith, fourth_short c.args.text.now);
}
