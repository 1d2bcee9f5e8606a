-- The check within a longer list, and its bound.
use Rattle.std.proofs.Common.{◌≡◌, ℕ, zero, suc, ◌+◌, ◌*◌, ◌^◌, ◌<◌, ◌≤◌, List, ◌++◌, length, get_or, refl, ap₂, add-one, arith}
use Rattle.std.proofs.lemmas.Nat.{mul-le}
use Rattle.std.proofs.lemmas.List.{get_or_append_left}
use Rattle.block.specs.Numbers.{Bytes}
use Rattle.block.specs.Sum.{weighted}

pub weighted_left : (n : ℕ) (xs ys : List ℕ) → n ≤ length xs → weighted (xs ++ ys) n ≡ weighted xs n
unfolding weighted
weighted_left zero xs ys h = refl
weighted_left (suc n) xs ys h = ap₂ (λ (a b : ℕ). a + b * suc n) (weighted_left n xs ys (omega arith)) (get_or_append_left xs ys 0 n h)

-- one term of the check stays below 255 times 508
pub term_le : (b i : ℕ) → b < 256 → i < 508 → b * (i + 1) ≤ 129540
term_le b i h k = mul-le b (i + 1) 255 508 (omega arith) (omega arith)

weighted_le : (xs : List ℕ) → Bytes xs → (n : ℕ) → n ≤ 508 → weighted xs n ≤ 129540 * n
unfolding weighted
weighted_le xs b zero h = omega arith
weighted_le xs b (suc n) h = omega (arith, weighted_le xs b n (omega arith), rw add-one at (term_le (get_or xs n 0) n (b n) h))

pub weighted_fits : (xs : List ℕ) → Bytes xs → weighted xs 508 < 256 ^ 4
weighted_fits xs b = omega (arith, weighted_le xs b 508 (omega arith))

-- one term more
pub weighted_more : (xs : List ℕ) (i : ℕ) → weighted xs (i + 1) ≡ weighted xs i + get_or xs i 0 * (i + 1)
unfolding weighted
weighted_more xs i = simp add-one (refl)
