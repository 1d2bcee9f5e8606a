-- Letters and blocks correspond, and the worked examples.
use Rattle.std.proofs.Common.{sym, refl, ◌∙◌}
use Rattle.block.specs.declared.faults.BlockFault.{BlockFault}
use Rattle.block.specs.Numbers.{zeros}
use Rattle.block.specs.Sum.{weighted}
use Rattle.block.specs.Mask.{mask_of, below}
use Rattle.block.specs.Writing.{front}
use Rattle.block.specs.Reading.{numbers_from, zeros_in}
use Rattle.block.specs.Laws.{OneBlock, OneLetter, Corresponds, Examples}
use Rattle.block.proofs.Written.{ok_same, reads_back}
use Rattle.block.proofs.Reread.{writes_back}

one_block : OneBlock
one_block p xs ys b d h k = ok_same {E = BlockFault} (sym (writes_back p xs b h) ∙ writes_back p ys d k)

one_letter : OneLetter
one_letter p q xs t u h k = ok_same {E = BlockFault} (sym (reads_back p xs t h) ∙ reads_back q xs u k)

pub corresponds : Corresponds
corresponds = record { reads_back = reads_back; writes_back = writes_back; one_block = one_block; one_letter = one_letter }

pub examples : Examples
unfolding zeros weighted mask_of below front numbers_from zeros_in
examples = record { empty = refl; seven = refl; mask = refl; check = refl; zeros = refl; zeros_number = refl; zeros_place = refl }
