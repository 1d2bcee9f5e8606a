use Rattle.std.proofs.Common.{ℕ, List, Option, sym, ap, ◌∙◌}
use Rattle.block.specs.Parts.{parts}
use Rattle.block.specs.Reading.{reading}
use Rattle.block.specs.Writing.{block_of}
use Rattle.block.proofs.Written.{block_reads}
use Rattle.block.proofs.writer.write.Goals as goal

pub returns-clause-back : goal.returns-clause-back
returns-clause-back c =
    let laid = c.lay_letter.ensures ∙ ap (λ (ns : List (Option ℕ)). block_of (parts c.args.name ns c.args.body.now)) c.of-table.ensures in
    ap reading laid
    ∙ block_reads (parts c.args.name c.args.named.now c.args.body.now) (record { table = c.told-named; bytes = λ i. (c.type_inv.body i).fits })
    (sym c.in_ok-head_fits.ensures) (rw (← c.of-table.ensures) (sym c.in_ok-check.ensures))
