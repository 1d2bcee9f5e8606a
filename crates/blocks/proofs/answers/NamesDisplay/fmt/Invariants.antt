use Rattle.std.specs.Fmt.{IsPlainFormatter, HasWritten}
use Rattle.block.specs.Letters.{said_by}
use Rattle.blocks.specs.Listing.{names_below}
use Rattle.blocks.proofs.answers.NamesDisplay.fmt.Given as goal

abbrev pub invariant-loop-pair : goal.invariant-loop-pair
invariant-loop-pair g l = IsPlainFormatter l.initial.f → HasWritten g.W.Write.write_str_gives l.initial.f (names_below (said_by l.letter).named l.pair) l.f
