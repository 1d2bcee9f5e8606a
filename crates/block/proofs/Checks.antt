-- What passes and fails of a chain of checks.
use Rattle.std.proofs.Common.{◌≡◌, ℕ, zero, suc, ◌+◌, ◌-◌, ◌<◌, ◌≤◌, ◌≢◌, Bool, true, false, cond, List, [], ◌∷◌, ◌++◌, length, get_or, Ok, Err, sum, Result, sym, refl, ap, ◌∙◌, arith}
use Rattle.std.specs.List.{between, AllWithin}
use Rattle.std.proofs.lemmas.List.Edits.{length-between, get_or-between}
use Rattle.std.proofs.lemmas.List.Sums.{get_or-le-sum_by}
use Rattle.std.proofs.lemmas.Bool.{cond-true, eq-eqb}
use Rattle.std.proofs.lemmas.Grind.{common_steps}
use Rattle.block.specs.declared.faults.BlockFault.TheVariants.{NonZero}
use Rattle.block.specs.Numbers.{wide, zeros}
use Rattle.block.specs.Reading.{bind, in_range, head_fits, numbers_fit, numbers_from, zeros_in}
use Rattle.block.specs.declared.names.Name.{Name}
use Rattle.block.proofs.Cuts.{cut, cut_none, cut_cons}

-- a chain goes on where its first part passed
pub bind_ok : {A B E : Type 0} (r : Result A E) (f : A → Result B E) (x : A) → r ≡ Ok x → bind r f ≡ f x
bind_ok r f x h = ap (λ (s : Result _ _). bind s f) h

-- a chain that passed did so in both parts
pub bind_was : {A B E : Type 0} (r : Result A E) (f : A → Result B E) (y : B) → bind r f ≡ Ok y → (x : A) × (r ≡ Ok x) × (f x ≡ Ok y)
bind_was (Ok x) f y h = (x, refl, h)
bind_was (Err e) f y h = let z : ◌≡◌ {A = ℕ} 0 1 = cc in absurd (omega arith)

-- a test that passed
pub test_was : {A E : Type 0} (b : Bool) (r : Result A E) (e : E) (y : A) → cond b r (Err e) ≡ Ok y → (b ≡ true) × (r ≡ Ok y)
test_was true r e y h = (refl, h)
test_was false r e y h = let z : ◌≡◌ {A = ℕ} 0 1 = cc in absurd (omega arith)

-- a field that passed lies in its range
pub range_was : (low high v at : ℕ) → in_range low high v at ≡ Ok tt → (low ≤ v) × (v ≤ high)
range_was low high v at h = grind (arith, common_steps)

-- each number of a list that passed lies in its range
pub numbers_was : (xs : List ℕ) (y : ℕ) (ys : List ℕ) (at : ℕ) → numbers_fit (xs ++ (y ∷ ys)) at ≡ Ok tt → (1 ≤ y) × (y ≤ 1000000)
numbers_was [] y ys at h = range_was 1 1000000 y at (bind_was (in_range 1 1000000 y at) _ tt h).1
numbers_was (x ∷ xs) y ys at h = numbers_was xs y ys (at + 4) (bind_was (in_range 1 1000000 x at) _ tt h).2

-- bytes that are all zero pass
pub zeros_pass : (n : ℕ) (xs : List ℕ) (at : ℕ) → ((i : ℕ) → at ≤ i → i < at + n → get_or xs i 0 ≡ 0) → zeros_in xs at n ≡ Ok tt
unfolding zeros_in
zeros_pass zero xs at h = refl
zeros_pass (suc n) xs at h = grind (arith, common_steps, cond-true, eq-eqb, zeros_pass n xs (at + 1) (λ i l u. h i (omega arith) (omega arith)))

-- the first byte that is not zero
pub zeros_stop : (n : ℕ) (xs : List ℕ) (at i : ℕ) → i < n → ((k : ℕ) → k < i → get_or xs (at + k) 0 ≡ 0) → get_or xs (at + i) 0 ≢ 0 → zeros_in xs at n ≡ Err (NonZero (at + i))
unfolding zeros_in
zeros_stop zero xs at i l z f = absurd (omega arith)
zeros_stop (suc n) xs at zero l z f = grind (arith, common_steps, f)
zeros_stop (suc n) xs at (suc i) l z f =
    let next = λ (k : ℕ) (h : k < i). let d : (at + 1) + k ≡ at + (k + 1) = omega arith in ap (λ (j : ℕ). get_or xs j 0) d ∙ z (k + 1) (omega arith) in
    grind (arith, common_steps, z 0 (omega arith), zeros_stop n xs (at + 1) i (omega arith) next)

-- bytes that passed are zeros
pub zeros_cut : (n : ℕ) (xs : List ℕ) (at : ℕ) → at + n ≤ length xs → zeros_in xs at n ≡ Ok tt → zeros n ≡ cut xs at n
unfolding zeros_in zeros
zeros_cut zero xs at l h = sym (cut_none xs at)
zeros_cut (suc n) xs at l h = grind (arith, common_steps, zeros_cut n xs (at + 1), cut_cons xs at n)

-- one number more of those that lie in a block
pub numbers_step : (xs : List ℕ) (at n at' n' : ℕ) → at + 4 ≡ at' → n ≡ suc n'
    → numbers_fit (numbers_from xs at n) at ≡ bind (in_range 1 1000000 (wide 4 xs at) at) (λ _. numbers_fit (numbers_from xs at' n') at')
unfolding numbers_from
numbers_step xs at n at' n' e s = grind (arith, common_steps)

pub numbers_done : (xs : List ℕ) (at n : ℕ) → n ≡ 0 → numbers_fit (numbers_from xs at n) at ≡ Ok tt
unfolding numbers_from
numbers_done xs at n e = ap (λ (m : ℕ). numbers_fit (numbers_from xs at m) at) e

-- a head that passed
pub head_was : (name : Name) (len : ℕ) → head_fits name len ≡ Ok tt → (name.station ≤ 7) × (name.channel ≤ 7) × (name.number ≤ 1000000) × (len ≤ 224)
head_was name len h = grind (arith, common_steps)

-- bytes between two places that are all zero pass
pub zeros_between : (xs : List ℕ) (from to : ℕ) → to ≤ length xs → AllWithin (λ x. x ≡ 0) (between from to xs) 0 (length (between from to xs)) → zeros_in xs from (to - from) ≡ Ok tt
zeros_between xs from to h z =
    zeros_pass (to - from) xs from
    (λ i l u. grind (arith, common_steps, length-between xs from to h, get_or-between xs from to (i - from) 0 (omega arith), z (i - from) 0 (omega arith)))

-- so do bytes whose sum is 0
pub sum_passes : (xs : List ℕ) (from to : ℕ) → to ≤ length xs → sum (between from to xs) ≡ 0 → zeros_in xs from (to - from) ≡ Ok tt
sum_passes xs from to h e = zeros_between xs from to h (λ k d l u. omega (arith, e, get_or-le-sum_by (λ (x : ℕ). x) (between from to xs) k d u))
