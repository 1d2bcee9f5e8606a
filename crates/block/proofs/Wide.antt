-- Numbers of several bytes within a longer list, and what is read back of them.
use Rattle.std.proofs.Common.{◌≡◌, ℕ, zero, suc, ◌+◌, ◌/◌, ◌%◌, ◌^◌, ◌<◌, ◌≤◌, List, [], ◌∷◌, ◌++◌, length, get_or, refl, ap, ◌∙◌, add_assoc, pow-suc, zero-add, add-one, arith}
use Rattle.std.proofs.lemmas.List.{append_assoc, length_push, get_or_at, get_or-append_right, get_or-append-add}
use Rattle.std.proofs.lemmas.Nat.{div_below, mod_below}
use Rattle.std.proofs.lemmas.Grind.{common_steps}
use Rattle.block.specs.Numbers.{wide, big, Bytes, zeros, fit}

pub length-big : (n x : ℕ) → length (big n x) ≡ n
length-big zero x = refl
length-big (suc n) x = length_push (big n (x / 256)) (x % 256) ∙ ap (λ (m : ℕ). m + 1) (length-big n (x / 256)) ∙ add-one n

-- a number that lies in the second part of a list
pub wide_right : (n : ℕ) (xs ys : List ℕ) (k : ℕ) → wide n (xs ++ ys) (length xs + k) ≡ wide n ys k
wide_right zero xs ys k = refl
wide_right (suc n) xs ys k = grind (arith, common_steps, add_assoc, get_or-append-add, wide_right n xs ys k)

wide-big : (n x : ℕ) (ys : List ℕ) → x < 256 ^ n → wide n (big n x ++ ys) 0 ≡ x
wide-big zero x ys h = omega arith
wide-big (suc n) x ys h =
    grind (arith, common_steps, pow-suc, append_assoc, div_below, get_or_at, length-big, zero-add, wide-big n (x / 256) (x % 256 ∷ ys) (div_below x 256 (256 ^ n) (omega arith) (omega arith)))

-- what is written at a place is read there
pub wide_at : (n x : ℕ) (front rest : List ℕ) (k : ℕ) → length front ≡ k → x < 256 ^ n → wide n (front ++ (big n x ++ rest)) k ≡ x
wide_at n x front rest k e h = grind (arith, common_steps, wide_right n front (big n x ++ rest) 0, wide-big n x rest h)

-- zeros
pub get_or-zeros : (n i : ℕ) → get_or (zeros n) i 0 ≡ 0
unfolding zeros
get_or-zeros n i = grind (arith, common_steps)

-- past its own bytes a list that is filled up has zeros
pub get_or-fit : (n : ℕ) (xs : List ℕ) (i : ℕ) → length xs ≤ i → get_or (fit n xs) i 0 ≡ 0
get_or-fit n xs i h = get_or-append_right xs _ (length xs) i 0 refl h ∙ get_or-zeros _ _

-- bytes
pub Bytes-append : (xs ys : List ℕ) → Bytes xs → Bytes ys → Bytes (xs ++ ys)
Bytes-append xs ys b d i = grind (arith, common_steps)

pub Bytes-zeros : (n : ℕ) → Bytes (zeros n)
Bytes-zeros n i = rw (get_or-zeros n i) (omega arith)

pub Bytes-big : (n x : ℕ) → Bytes (big n x)
Bytes-big zero x i = omega arith
Bytes-big (suc n) x i = grind (arith, common_steps, Bytes-append (big n (x / 256)) (x % 256 ∷ []), Bytes-big n (x / 256), mod_below x 256)

pub wide_lt : (n : ℕ) (xs : List ℕ) (k : ℕ) → Bytes xs → wide n xs k < 256 ^ n
wide_lt zero xs k b = omega arith
wide_lt (suc n) xs k b = let one = b (k + n) in omega (arith, wide_lt n xs k b, pow-suc 256 n)
