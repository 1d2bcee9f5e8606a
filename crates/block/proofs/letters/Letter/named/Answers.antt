use Rattle.std.proofs.Common.{arith}
use Rattle.std.proofs.lemmas.Bool.{cond-true, cond-false}
use Rattle.std.proofs.lemmas.List.{get_or_past}
use Rattle.block.proofs.Tables.{get_or-named_of, length-named_of}
use Rattle.block.proofs.letters.Letter.named.Goals as goal

pub returns-then-names : goal.returns-then-names
returns-then-names c =
    grind (arith, cond-true, c.number_at.ensures, c.place.ensures.value, c.read-mask.ensures, c.from-pair.ensures, c.if-names.ensures, get_or-named_of c.args.self.now.block c.args.pair)

pub returns-else-pair-lt64 : goal.returns-else-pair-lt64
returns-else-pair-lt64 c =
    let xs = c.args.self.now.block in
    grind (arith, cond-false, c.read-mask.ensures, c.from-pair.ensures, c.else-pair-lt64.branch, get_or-named_of xs c.args.pair, get_or_past, length-named_of xs)
