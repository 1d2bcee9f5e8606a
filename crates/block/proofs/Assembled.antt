-- The pieces of a block laid one after the other are the block.
use Rattle.std.proofs.lemmas.Grind.{common_steps}
use Rattle.std.proofs.Common.{◌≡◌, ℕ, List, ◌++◌, length, Ok, refl, ◌∙◌, arith}
use lib.Seq.{paste}
use Rattle.std.proofs.lemmas.List.{length-append}
use Rattle.block.specs.Numbers.{big, zeros, fit}
use Rattle.block.specs.Sum.{weighted}
use Rattle.block.specs.Parts.{Parts}
use Rattle.block.specs.Reading.{head_fits}
use Rattle.block.specs.Writing.{front, block_of}
use Rattle.block.specs.Laws.{Typed}
use Rattle.block.proofs.Wide.{length-big}
use Rattle.block.proofs.Checks.{head_was}
use Rattle.block.proofs.Laying.{fit_whole, fit-fit, laid_past}
use Rattle.block.proofs.Sums.{weighted_left}
use Rattle.block.proofs.Written.{low, upper, length-low, few, length_filled, length_front}

module _ (p : Parts) (t : Typed p) (fits : head_fits p.name (length p.body) ≡ Ok tt) where
  -- the body, laid after the head and the named numbers
  pub body_laid : (m : List ℕ) → m ≡ fit 512 (low p) → paste m 280 p.body (length p.body) ≡ fit 512 (upper p ++ p.body)
  body_laid m e =
      grind (arith, common_steps, head_was p.name (length p.body) fits, laid_past m p.body (low p) p.body 280 e refl, length-low p t fits, few p t fits)

  -- the check of what is laid so far
  pub check_laid : (m : List ℕ) → m ≡ fit 512 (upper p ++ p.body) → weighted m 508 ≡ weighted (front p) 508
  unfolding front
  check_laid m e =
      let h = head_was p.name (length p.body) fits in
      let filled = length_filled p t fits in
      grind (arith, common_steps, h, filled, fit-fit 508 512 (upper p ++ p.body), weighted_left 508 (front p) (zeros 4), length_front p t fits)

  -- the check, laid last
  pub block_laid : (m ps : List ℕ) → m ≡ fit 512 (upper p ++ p.body) → ps ≡ big 4 (weighted (front p) 508) → paste m 508 ps (length ps) ≡ block_of p
  unfolding front
  block_laid m ps e d =
      let h = head_was p.name (length p.body) fits in
      let sum = weighted (front p) 508 in
      laid_past m ps (upper p ++ p.body) (big 4 sum) 508 e d (omega (arith, h.3, length_filled p t fits)) (omega (arith, length-big 4 sum))
      ∙ fit_whole 512 (front p ++ big 4 sum) (length-append (front p) (big 4 sum) ∙ omega (arith, length_front p t fits, length-big 4 sum))
