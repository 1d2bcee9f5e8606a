use Rattle.std.proofs.Common.{◌≡◌, ℕ, length, Ok, refl, ap, ◌∙◌, arith}
use Rattle.block.specs.Numbers.{big, fit}
use Rattle.block.specs.Mask.{present}
use Rattle.block.specs.Parts.{parts}
use Rattle.block.specs.Reading.{head_fits}
use Rattle.block.specs.Writing.{head, numbers}
use Rattle.block.specs.Laws.{Typed}
use Rattle.block.proofs.Tables.{length_joined}
use Rattle.block.proofs.Laying.{big_4, laid_next}
use Rattle.block.proofs.Assembled.{body_laid, check_laid, block_laid}
use Rattle.block.proofs.Written.{lead, length-lead, few}
use Rattle.block.proofs.writer.lay_letter.Goals as goal

pub returns : goal.returns
returns c =
    let p = parts c.args.name c.args.table.now.named.now c.args.body.now in
    let t : Typed p = record { table = c.args.table.now.whole; bytes = λ i. (c.type_inv.body i).fits } in
    let fits : head_fits p.name (length p.body) ≡ Ok tt = c.requires in
    let top = c.lay_head.ensures ∙ ap (λ (m : ℕ). fit 512 (head p.name (length p.body) m)) c.args.table.now.masked in
    let mid = c.lay.ensures ∙ laid_next _ _ (lead p) (numbers p.named) 24 top refl (length-lead p) (omega (arith, length_joined (present p.named), few p t fits)) in
    let body = c.lay-2.ensures ∙ body_laid p t fits _ mid in
    let sum = c.to_be_bytes.ensures ∙ big_4 c.check_of-check.result ∙ ap (big 4) (c.check_of-check.ensures ∙ check_laid p t fits _ body) in
    c.lay-3.ensures ∙ block_laid p t fits _ _ body sum
