use Rattle.std.proofs.Common.{◌≡◌, ℕ, take, length, min, ap, ◌∙◌, arith, rules}
use Rattle.std.proofs.lemmas.List.{take_min, length-take}
use Rattle.blocks.proofs.hex.copy_of.Goals as goal

pub returns : goal.returns
returns c =
    let xs = c.args.text.now in
    let count : c.min-count.result ≡ min 4096 (length xs) = omega (arith, c.min-count.ensures, c.capacity.ensures) in
    let short = length-take c.min-count.result xs in
    let items : c.try_extend_from_slice-fits.new.self.items ≡ take c.min-count.result xs = search rules in
    items ∙ (ap (λ (n : ℕ). take n xs) count ∙ take_min 4096 xs)
