use Rattle.std.proofs.Common.{◌≡◌, ℕ, ◌-◌, ◌<◌, ◌==◌, Bool, List, length, get_or, take, sym, ap, ◌∙◌, arith, length-take}
use Rattle.std.specs.List.{position_or_len}
use Rattle.std.proofs.lemmas.List.{get_or-take, take_all}
use Rattle.std.proofs.lemmas.List.Sums.{position_or_len_is, fails_before_first, passes_at_first}
use Rattle.std.proofs.lemmas.Bool.Decides.{nat_tests}
use Rattle.blocks.proofs.commands.text_of.Goals as goal
use Rattle.blocks.proofs.commands.text_of.Goals.{in_default-via-then-rest-lt1, in_default-via-in-34+else-not-contains, in_default-via-else-rest-lt1+in_default-1}

-- whether a byte of a front is a double quote, and the same byte of the whole
front : (xs : List ℕ) (n k : ℕ) (b : Bool) → k < n → (get_or (take n xs) k 0 == 34) ≡ b → (get_or xs k 0 == 34) ≡ b
front xs n k b h e = sym (ap (λ (x : ℕ). x == 34) (get_or-take n xs k 0 h)) ∙ e

pub returns-in-34 : goal.returns-in-34
returns-in-34 c fits =
    let xs = c.args.rest.now in
    let n = length xs - 1 in
    let before = c.if-not-contains.ensures.cases in
    let short = length-take n xs in
    let q : position_or_len (λ b. b == 34) xs ≡ n = position_or_len_is (λ b. b == 34) xs n 0 (omega arith) (λ k h. front xs n k _ h (before k 0 (omega arith) (omega (arith, short)))) (λ h. grind (arith, nat_tests)) in
    let copied : c.copy_of.result.items ≡ take n xs = c.copy_of.ensures ∙ take_all 4096 (take n xs) (omega (arith, short)) in
    rw copied (grind (arith, nat_tests))

pub returns-in_default : goal.returns-in_default
returns-in_default c fits =
    let xs = c.args.rest.now in
    let n = length xs - 1 in
    elim c.in_default.branch [
      | in_default-via-then-rest-lt1 w ↦ grind (arith, nat_tests)
      | in_default-via-in-34+else-not-contains w ↦
          let seen = w.if-not-contains.ensures.cases in
          let h = length-take n xs in
          let here = front xs n seen.0 _ (omega (arith, h, seen.1)) (seen.2 0) in
          let first = fails_before_first (λ b. b == 34) xs seen.0 0 in
          grind (arith, nat_tests)
      | in_default-via-else-rest-lt1+in_default-1 w ↦ let e = passes_at_first (λ b. b == 34) xs 0 in grind (arith, nat_tests)
    ]
