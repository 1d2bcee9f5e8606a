-- What is answered to a command.
--   written   the answer to a letter
--   ReadAs    that an answer is right for the bytes of a block
--   Answered  that an answer is right for a command
use Rattle.std.specs.Prelude.{◌≡◌, ℕ, List, Ok, Err, Result}
use Rattle.block.specs.declared.faults.BlockFault.{BlockFault}
use Rattle.block.specs.Letters.{bytes_of, said_by}
use Rattle.block.specs.Parts.{parts}
use Rattle.block.specs.Reading.{reading}
use Rattle.block.specs.Writing.{writing}
use Rattle.blocks.specs.declared.commands.Command.{Command}
use Rattle.blocks.specs.declared.commands.Command.TheVariants.{Comment, Write, Read}
use Rattle.blocks.specs.declared.answers.Answer.{Answer}
use Rattle.blocks.specs.declared.answers.Answer.TheVariants.{Same, Written, Found}
use Rattle.blocks.specs.declared.answers.Refusal.{Refusal}
use Rattle.blocks.specs.declared.answers.Refusal.TheVariants.{Refused, NotUnderstood}

-- the block that was written, or why there is none
abbrev pub written : Result (List ℕ) BlockFault → Result Answer Refusal
written (Ok block) = Ok (Written block)
written (Err fault) = Err (Refused fault)

-- the letter that holds these bytes and says what they say, or why they are none
abbrev pub ReadAs : List ℕ → Result Answer Refusal → Type 0
ReadAs bytes (Ok (Same line)) = ⊥
ReadAs bytes (Ok (Written block)) = ⊥
ReadAs bytes (Ok (Found letter)) = (bytes_of letter ≡ bytes) × (reading bytes ≡ Ok (said_by letter))
ReadAs bytes (Err (Refused fault)) = reading bytes ≡ Err fault
ReadAs bytes (Err (NotUnderstood reason)) = ⊥

-- a comment is repeated; a letter is answered by its block, and a block by its letter
abbrev pub Answered : Command → Result Answer Refusal → Type 0
Answered (Comment line) answer = answer ≡ Ok (Same line)
Answered (Write draft) answer = answer ≡ written (writing 512 (parts draft.name draft.named draft.body.items))
Answered (Read bytes) answer = ReadAs bytes.items answer
