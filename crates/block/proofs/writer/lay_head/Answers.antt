use Rattle.std.proofs.Common.{[], ◌∷◌, ◌++◌, refl, ◌∙◌, arith}
use Rattle.block.specs.Numbers.{big}
use Rattle.block.proofs.Laying.{blank, big_4, big_8, laid_past, laid_next}
use Rattle.block.proofs.writer.lay_head.Goals as goal

pub returns : goal.returns
returns c =
    let name = c.args.name in
    let four = 1 ∷ 1 ∷ name.station ∷ name.channel ∷ [] in
    let eight = four ++ big 4 name.number in
    let nine = eight ++ c.args.len ∷ [] in
    let first = c.lay.ensures ∙ laid_next _ _ [] four 0 blank refl refl (omega arith) in
    let second = c.lay-2.ensures ∙ laid_next _ _ four (big 4 name.number) 4 first (c.to_be_bytes.ensures ∙ big_4 name.number) refl (omega arith) in
    let third = c.lay-3.ensures ∙ laid_next _ _ eight (c.args.len ∷ []) 8 second refl refl (omega arith) in
    c.lay-4.ensures ∙ laid_past _ _ nine (big 8 c.args.mask.0) 16 third (c.to_be_bytes-2.ensures ∙ big_8 c.args.mask.0) (omega arith) (omega arith)
