-- Why a line has no answer, in words.
--   reason_text   why a line is not understood
--   refusal_text  that, or the fault of a letter or a block
use Rattle.std.specs.Prelude.{ℕ, List, ◌++◌, codes}
use Rattle.block.specs.Text.{fault_text}
use Rattle.blocks.specs.declared.answers.Refusal.{Refusal}
use Rattle.blocks.specs.declared.answers.Refusal.TheVariants.{Refused, NotUnderstood}
use Rattle.blocks.specs.declared.commands.Misread.{Misread}
use Rattle.blocks.specs.declared.commands.Misread.TheVariants.{EmptyLine, LongLine, NoCommand, BadDigit, OddDigits, FewWords, BadNumber, BadBody, BadName, NamedTwice}

-- what is written of a reason
abbrev pub reason_text : Misread → List ℕ
reason_text EmptyLine = codes "empty line"
reason_text LongLine = codes "line over 4096 bytes"
reason_text NoCommand = codes "no such command"
reason_text BadDigit = codes "bad digit"
reason_text OddDigits = codes "odd count of digits"
reason_text FewWords = codes "too few words"
reason_text BadNumber = codes "bad number"
reason_text BadBody = codes "bad body"
reason_text BadName = codes "bad name"
reason_text NamedTwice = codes "pair named twice"

-- what is written of a refusal
abbrev pub refusal_text : Refusal → List ℕ
refusal_text (Refused fault) = fault_text fault
refusal_text (NotUnderstood reason) = codes "not understood: " ++ reason_text reason
