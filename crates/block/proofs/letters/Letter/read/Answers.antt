use Rattle.std.proofs.Common.{◌≡◌, Ok, is_ok, sym, subst, ap, ◌∙◌}
use Rattle.std.proofs.lemmas.Option.{MatchOption-at_some}
use Rattle.block.specs.Numbers.{Bytes}
use Rattle.block.specs.Parts.{parts_of}
use Rattle.block.specs.Reading.{reading}
use Rattle.block.proofs.Reread.{says_parts, letter_block, writes_back}
use Rattle.block.proofs.letters.Letter.read.Goals as goal

pub invariant_of-result : goal.invariant_of-result
invariant_of-result c =
    let xs = c.in_ok-block.block.now in
    let same = (MatchOption-at_some _ _ _ c.in_ok-block.ensures.ok_part c.as_array.ensures.cases).same in
    let says : reading xs ≡ Ok (parts_of xs) =
    says_parts xs (sym c.in_ok-check_frame.ensures) (sym c.in_ok-check_ranges.ensures.value) (sym c.in_ok-check_zeros.ensures) in
    record {
      readable = ap is_ok says;
      short = c.in_ok-check_ranges.ensures.short;
      again = letter_block xs (subst Bytes (sym same) (λ i. (c.type_inv.bytes i).fits)) says;
    }

pub returns-clause-again : goal.returns-clause-again
returns-clause-again c =
    let xs = c.in_ok-block.block.now in
    let same = (MatchOption-at_some _ _ _ c.in_ok-block.ensures.ok_part c.as_array.ensures.cases).same in
    writes_back _ xs (subst Bytes (sym same) (λ i. (c.type_inv.bytes i).fits))
    (says_parts xs (sym c.in_ok-check_frame.ensures) (sym c.in_ok-check_ranges.ensures.value) (sym c.in_ok-check_zeros.ensures))
    ∙ ap Ok same
