-- What a letter in the code holds, and what it says.
--   bytes_of  the 512 bytes that it holds
--   said_by   its parts, as these bytes say them
use Rattle.std.specs.Prelude.{ℕ, List}
use Rattle.block.specs.Parts.{Parts, parts_of}
use Rattle.block.specs.declared.letters.Letter.{Letter}

abbrev pub bytes_of : Letter → List ℕ
bytes_of letter = letter.block

abbrev pub said_by : Letter → Parts
said_by letter = parts_of (bytes_of letter)
