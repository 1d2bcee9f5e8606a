-- The table of named numbers: its mask, and where each number stands among those that are there.
use Rattle.std.proofs.Common.{◌≡◌, ℕ, zero, suc, ◌+◌, ◌*◌, ◌%◌, ◌^◌, ◌<◌, ◌≤◌, true, false, List, [], ◌∷◌, ◌++◌, map, length, get_or, take, drop, is_some, Some, None, Option, sym, refl, ap, ◌∙◌, pow-suc, zero-add, add-one, one-add, arith}
use Rattle.std.specs.List.{flat_map, range_with_len}
use Rattle.std.proofs.lemmas.List.{append-nil, length-append, take_more, take-append-drop}
use Rattle.std.proofs.lemmas.List.FromFn.{map-range_with_len_more, get_or-map-range_with_len, length-map-range_with_len}
use Rattle.std.proofs.lemmas.Bool.{cases_lt, cases_eq}
use Rattle.std.proofs.lemmas.Nat.{mod-pow-add}
use Rattle.std.proofs.lemmas.Nat.Bits.{bit_at-lt, bit_at_cat_low, bit_at_cat_high}
use Rattle.std.proofs.lemmas.Grind.{common_steps}
use Rattle.block.specs.Numbers.{wide, big}
use Rattle.block.specs.Mask.{bit, below, flag, mask_of, present}
use Rattle.block.specs.Parts.{named_in, named_of}
use Rattle.block.specs.Reading.{numbers_from}
use Rattle.block.specs.Writing.{numbers}
use Rattle.block.proofs.Wide.{length-big}

-- one entry more in the mask
pub mask_on : (ns : List (Option ℕ)) (k : ℕ) → true ≡ is_some (get_or ns k None) → mask_of ns (k + 1) ≡ mask_of ns k + 2 ^ k
unfolding mask_of
mask_on ns k h = grind (arith, common_steps)

pub mask_off : (ns : List (Option ℕ)) (k : ℕ) → false ≡ is_some (get_or ns k None) → mask_of ns (k + 1) ≡ mask_of ns k
unfolding mask_of
mask_off ns k h = grind (arith, common_steps)

flag_lt : (o : Option ℕ) → flag o < 2
flag_lt None = omega arith
flag_lt (Some n) = omega arith

pub mask_lt : (ns : List (Option ℕ)) (n : ℕ) → mask_of ns n < 2 ^ n
unfolding mask_of
mask_lt ns zero = omega arith
mask_lt ns (suc n) = grind (arith, common_steps, flag_lt, pow-suc, cases_eq, mask_lt ns n)

-- the mask's bit k is the table's flag k
pub bit_mask : (ns : List (Option ℕ)) (n k : ℕ) → k < n → bit (mask_of ns n) k ≡ flag (get_or ns k None)
unfolding mask_of
bit_mask ns zero k h = omega arith
bit_mask ns (suc n) k h =
    let f = flag (get_or ns n None) in
    grind (arith, common_steps, cases_lt k n, bit_at_cat_low f n (mask_of ns n) k, bit_at_cat_high f n (mask_of ns n) k, mask_lt ns n, flag_lt (get_or ns n None), bit_mask ns n k)

-- the numbers that are there in a list of two parts
pub present-append : (ns ms : List (Option ℕ)) → present (ns ++ ms) ≡ present ns ++ present ms
present-append [] ms = refl
present-append (None ∷ ns) ms = present-append ns ms
present-append (Some y ∷ ns) ms = grind (arith, common_steps, present-append ns ms)

-- one entry's numbers: itself or none
abbrev pub single : Option ℕ → List ℕ
single None = []
single (Some y) = y ∷ []

present_one : (o : Option ℕ) → present (o ∷ []) ≡ single o
present_one None = refl
present_one (Some y) = refl

length-single : (o : Option ℕ) → length (single o) ≡ flag o
length-single None = refl
length-single (Some y) = refl

-- the numbers of one entry more
pub present_more : (ns : List (Option ℕ)) (k : ℕ) → k < length ns → present (take (k + 1) ns) ≡ present (take k ns) ++ single (get_or ns k None)
present_more ns k h = grind (arith, common_steps, take_more, present-append, present_one)

-- the place of pair k: how many numbers are there before it
pub below-present : (ns : List (Option ℕ)) (n k : ℕ) → n ≤ length ns → k ≤ n → below (mask_of ns n) k ≡ length (present (take k ns))
unfolding below
below-present ns n zero l h = refl
below-present ns n (suc k) l h =
    let e = get_or ns k None in
    let long = length-append (present (take k ns)) (single e) in
    grind (arith, add-one k, present_more ns k (omega arith), long, length-single e, bit_mask ns n k h, below-present ns n k l (omega arith))

-- the numbers before pair k, its own, and those after it
pub present_around : (ns : List (Option ℕ)) (k : ℕ) → k < length ns → present ns ≡ present (take k ns) ++ (single (get_or ns k None) ++ present (drop (k + 1) ns))
present_around ns k h =
    grind (arith, common_steps, take-append-drop (k + 1) ns, present-append (take (k + 1) ns) (drop (k + 1) ns), present_more ns k h)

pub length_joined : (xs : List ℕ) → length (flat_map (big 4) xs) ≡ 4 * length xs
length_joined [] = refl
length_joined (x ∷ xs) = grind (arith, common_steps, length-big 4 x, length_joined xs)

-- one number more of 4 bytes
numbers_from_more : (n : ℕ) (xs : List ℕ) (at : ℕ) → numbers_from xs at (n + 1) ≡ numbers_from xs at n ++ wide 4 xs (at + 4 * n) ∷ []
unfolding numbers_from
numbers_from_more zero xs at = let e : at + 4 * 0 ≡ at = omega arith in sym (ap (λ (j : ℕ). wide 4 xs j ∷ []) e)
numbers_from_more (suc n) xs at = grind (arith, numbers_from_more n xs (at + 4), add-one n, add-one (suc n))

named_cases : (xs : List ℕ) (m k : ℕ) → numbers_from xs 24 (below m k) ++ single (named_in xs m k) ≡ numbers_from xs 24 (below m (suc k))
unfolding below
named_cases xs m k = grind (arith, common_steps, numbers_from_more, bit_at-lt)

present_named : (xs : List ℕ) (m k : ℕ) → present (map (named_in xs m) (range_with_len 0 k)) ≡ numbers_from xs 24 (below m k)
unfolding below numbers_from
present_named xs m zero = refl
present_named xs m (suc k) =
    let before = map (named_in xs m) (range_with_len 0 k) in
    let this = named_in xs m k in
    let more = map-range_with_len_more (named_in xs m) 0 k k (zero-add k) in
    grind (arith, common_steps, more, present-append before (this ∷ []), present_one this, named_cases xs m k, present_named xs m k)

-- the named numbers of a block are those that lie from byte 24 on
pub present-named_of : (xs : List ℕ) → present (named_of xs) ≡ numbers_from xs 24 (below (wide 8 xs 16) 64)
unfolding named_of
present-named_of xs = present_named xs (wide 8 xs 16) 64

pub length-numbers_from : (n : ℕ) (xs : List ℕ) (at : ℕ) → length (numbers_from xs at n) ≡ n
unfolding numbers_from
length-numbers_from zero xs at = refl
length-numbers_from (suc n) xs at = ap suc (length-numbers_from n xs (at + 4))

-- the entry that a block has for a pair
pub get_or-named_of : (xs : List ℕ) (k : ℕ) → k < 64 → get_or (named_of xs) k None ≡ named_in xs (wide 8 xs 16) k
unfolding named_of
get_or-named_of xs k h = get_or-map-range_with_len (named_in xs (wide 8 xs 16)) 0 64 k k None h (zero-add k)

pub length-named_of : (xs : List ℕ) → length (named_of xs) ≡ 64
unfolding named_of
length-named_of xs = length-map-range_with_len (named_in xs (wide 8 xs 16)) 0 64

-- the bytes of one entry more
pub numbers_some : (ns : List (Option ℕ)) (k y : ℕ) → k < length ns → get_or ns k None ≡ Some y → numbers (take (k + 1) ns) ≡ numbers (take k ns) ++ big 4 y
numbers_some ns k y h o = grind (arith, common_steps, present_more, append-nil)

pub numbers_none : (ns : List (Option ℕ)) (k : ℕ) → k < length ns → get_or ns k None ≡ None → numbers (take (k + 1) ns) ≡ numbers (take k ns)
numbers_none ns k h o = grind (arith, common_steps, present_more, append-nil)

-- the bytes up to pair k end where its own number begins
pub length-numbers : (ns : List (Option ℕ)) (m k : ℕ) → length ns ≡ 64 → m ≡ mask_of ns 64 → k ≤ 64 → length (numbers (take k ns)) ≡ 4 * below m k
length-numbers ns m k l e h = grind (arith, common_steps, length_joined, below-present)

flag_named : (xs : List ℕ) (m k : ℕ) → flag (named_in xs m k) ≡ bit m k
flag_named xs m k = grind (arith, common_steps)

mask_low : (xs : List ℕ) (n : ℕ) → n ≤ 64 → mask_of (named_of xs) n ≡ wide 8 xs 16 % 2 ^ n
unfolding mask_of
mask_low xs zero h = omega arith
mask_low xs (suc n) h =
    grind (arith, get_or-named_of xs n h, flag_named xs (wide 8 xs 16) n, mod-pow-add (wide 8 xs 16) 1 n, mask_low xs n (omega arith), one-add n)

-- the mask of the named numbers of a block is the block's mask
pub mask_of-named_of : (xs : List ℕ) → wide 8 xs 16 < 2 ^ 64 → mask_of (named_of xs) 64 ≡ wide 8 xs 16
mask_of-named_of xs h = mask_low xs 64 (omega arith) ∙ omega arith
