-- The count of set bits below a pair, as a count over pairs.
use Rattle.std.proofs.lemmas.Grind.{common_steps}
use Rattle.std.proofs.Common.{◌≡◌, ℕ, zero, suc, ◌-◌, ◌*◌, ◌%◌, ◌^◌, ◌<◌, ◌≤◌, refl, ap, ◌∙◌, arith}
use lib.Count.{ones, ones_cat}
use lib.Bits.{bit_and, and_mask}
use Rattle.std.proofs.lemmas.Nat.{mod-pow-add, one_shl, mod_below, pow_pos}
use Rattle.std.proofs.lemmas.Nat.Bits.{bit_at-lt}
use Rattle.block.specs.Mask.{bit, below}

ones_bit : (b : ℕ) → b < 2 → ones b ≡ b
unfolding ones
ones_bit zero h = refl
ones_bit (suc zero) h = refl
ones_bit (suc (suc b)) h = omega arith

pub ones_mod : (m k : ℕ) → ones (m % 2 ^ k) ≡ below m k
unfolding ones below
ones_mod m zero = let e : m % 2 ^ 0 ≡ 0 = omega arith in ap ones e
ones_mod m (suc k) =
    grind (arith, common_steps, mod-pow-add m 1 k, ones_cat k (bit m k) (m % 2 ^ k) (mod_below m (2 ^ k) (pow_pos k)), ones_bit (bit m k) (bit_at-lt m k), ones_mod m k)

pub ones_lower : (m k : ℕ) → k < 64 → ones (bit_and m ((1 * 2 ^ k) % 2 ^ 64 - 1)) ≡ below m k
ones_lower m k h = ap (λ (x : ℕ). ones (bit_and m (x - 1))) (one_shl k 64 h) ∙ ap ones (and_mask m k) ∙ ones_mod m k

pub below_le : (m k : ℕ) → below m k ≤ k
unfolding below
below_le m zero = omega arith
below_le m (suc k) = omega (arith, below_le m k, bit_at-lt m k)

pub ones_all : (m : ℕ) → m < 2 ^ 64 → ones m ≡ below m 64
ones_all m h = let e : m ≡ m % 2 ^ 64 = omega arith in ap ones e ∙ ones_mod m 64
