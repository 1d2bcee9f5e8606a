-- A list cut into pieces, each as a number, a byte or zeros.
use Rattle.std.proofs.Common.{◌≡◌, ℕ, zero, suc, ◌+◌, ◌*◌, ◌<◌, ◌≤◌, List, [], ◌∷◌, ◌++◌, length, get_or, take, drop, sym, refl, ap, add-zero, suc-add, zero-add, add-one, arith, rules}
use Rattle.std.proofs.lemmas.List.{length-take-le, length-drop, take_all, take_more, drop_more, get_or-drop}
use Rattle.std.proofs.lemmas.Nat.{div-mul-add, mod-mul-add}
use Rattle.std.specs.List.{flat_map}
use Rattle.std.proofs.lemmas.Grind.{common_steps}
use Rattle.block.specs.Numbers.{wide, big, Bytes}
use Rattle.block.specs.Reading.{numbers_from}

-- the n entries of xs from place k
unfoldable pub cut : List ℕ → ℕ → ℕ → List ℕ
cut xs k n = take n (drop k xs)

pub cut_none : (xs : List ℕ) (k : ℕ) → cut xs k 0 ≡ []
unfolding cut
cut_none xs k = refl

pub cut_whole : (xs : List ℕ) (n : ℕ) → length xs ≡ n → cut xs 0 n ≡ xs
unfolding cut
cut_whole xs n h = take_all n xs (omega arith)

pub length_cut : (xs : List ℕ) (k n : ℕ) → k + n ≤ length xs → length (cut xs k n) ≡ n
unfolding cut
length_cut xs k n h = length-take-le n (drop k xs) (omega (arith, length-drop k xs))

-- one more at the end
pub cut_push : (xs : List ℕ) (k n : ℕ) → k + n < length xs → cut xs k (suc n) ≡ cut xs k n ++ get_or xs (k + n) 0 ∷ []
unfolding cut
cut_push xs k n h = search (arith, rules, add-one, take_more, length-drop, get_or-drop)

-- one more at the start
pub cut_cons : (xs : List ℕ) (k n : ℕ) → k < length xs → get_or xs k 0 ∷ cut xs (k + 1) n ≡ cut xs k (suc n)
unfolding cut
cut_cons xs k n h = ap (take (suc n)) (sym (drop_more xs k 0 h))

-- two cuts, one after the other
pub cut_append : (m : ℕ) (xs : List ℕ) (k n : ℕ) → k + (m + n) ≤ length xs → cut xs k m ++ cut xs (k + m) n ≡ cut xs k (m + n)
cut_append zero xs k n h = rw (cut_none, add-zero, zero-add)
cut_append (suc m) xs k n h = grind (arith, common_steps, cut_cons, suc-add, cut_append m xs (k + 1) n (omega arith))

-- what is read and written again is the bytes as they were
pub big-wide : (n : ℕ) (xs : List ℕ) (k : ℕ) → Bytes xs → k + n ≤ length xs → big n (wide n xs k) ≡ cut xs k n
big-wide zero xs k b h = sym (cut_none xs k)
big-wide (suc n) xs k b h = grind (arith, common_steps, div-mul-add, mod-mul-add, cut_push, big-wide n xs k b (omega arith))

pub numbers_cut : (n : ℕ) (xs : List ℕ) (k : ℕ) → Bytes xs → k + 4 * n ≤ length xs → flat_map (big 4) (numbers_from xs k n) ≡ cut xs k (4 * n)
unfolding numbers_from
numbers_cut zero xs k b h = sym (cut_none xs k)
numbers_cut (suc n) xs k b h =
    grind (arith, common_steps, big-wide 4 xs k b (omega arith), numbers_cut n xs (k + 4) b (omega arith), cut_append 4 xs k (4 * n) (omega arith))
