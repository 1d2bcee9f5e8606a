-- What is written reads back as the same letter.
use Rattle.std.proofs.Common.{◌≡◌, ℕ, ◌+◌, ◌-◌, ◌*◌, ◌<◌, ◌≤◌, List, [], ◌∷◌, ◌++◌, length, get_or, take, drop, Some, None, Ok, Option, Result, sym, refl, ap, ◌∙◌, ap₂, arith, rules}
use Rattle.std.specs.List.{between, flat_map}
use Rattle.std.proofs.lemmas.List.{append_assoc, append-nil, length-append, get_or_append_left, take_at, drop_at, take_all}
use Rattle.std.proofs.lemmas.List.FromFn.{fill_by_all}
use Rattle.std.proofs.lemmas.Bool.{eq-eqb}
use Rattle.std.proofs.lemmas.Grind.{common_steps, flat_map-append}
use Rattle.block.specs.Numbers.{wide, big, Bytes, zeros, fit}
use Rattle.block.specs.Sum.{weighted}
use Rattle.block.specs.Mask.{below, mask_of, present}
use Rattle.block.specs.Parts.{Parts, parts_of, name_of, named_in, named_of}
use Rattle.block.specs.Reading.{head_fits, numbers_fit, zeros_in, framed, ranged, cleared, count_in, reading}
use Rattle.block.specs.Writing.{head, numbers, front, block_of}
use Rattle.block.specs.Laws.{Typed, ReadsBack}
use Rattle.block.proofs.Places.{below_le}
use Rattle.block.proofs.Wide.{length-big, wide_at, get_or-fit, Bytes-append, Bytes-zeros, Bytes-big}
use Rattle.block.proofs.Tables.{single, mask_lt, bit_mask, below-present, present_around, present-named_of, length_joined}
use Rattle.block.proofs.Checks.{bind_ok, bind_was, head_was, numbers_was, zeros_pass}
use Rattle.block.proofs.Laying.{length-fit}
use Rattle.block.proofs.Sums.{weighted_left, weighted_fits}

-- the first 24 bytes of a letter's block, and those with its named numbers
abbrev pub lead : Parts → List ℕ
lead p = head p.name (length p.body) (mask_of p.named 64)

abbrev pub low : Parts → List ℕ
low p = lead p ++ numbers p.named

-- the bytes up to the body, and the four of the check
abbrev pub upper : Parts → List ℕ
upper p = fit 280 (low p)

abbrev pub seal : Parts → List ℕ
seal p = big 4 (weighted (front p) 508)

-- all after the named numbers
abbrev pub after : Parts → List ℕ
after p = zeros (280 - length (low p)) ++ (p.body ++ (zeros (508 - length (upper p ++ p.body)) ++ seal p))

regroup : (a b y k : List ℕ) → ((a ++ b) ++ y) ++ k ≡ a ++ (b ++ (y ++ k))
regroup a b y k = simp append_assoc

pub ok_same : {A E : Type 0} {x y : A} → ◌≡◌ {A = Result A E} (Ok x) (Ok y) → x ≡ y
ok_same h = cc

pub split : (p : Parts) → block_of p ≡ lead p ++ (numbers p.named ++ after p)
unfolding front
split p =
    let pad = zeros (508 - length (upper p ++ p.body)) in
    regroup (upper p) p.body pad (seal p) ∙ regroup (lead p) (numbers p.named) (zeros (280 - length (low p))) (p.body ++ (pad ++ seal p))

pub length-lead : (p : Parts) → length (lead p) ≡ 24
unfolding zeros
length-lead p = refl

-- lengths
module _ (p : Parts) (t : Typed p) (fits : head_fits p.name (length p.body) ≡ Ok tt) where
  pub few : length (present p.named) ≤ 64
  few =
      let all = take_all 64 p.named (omega (arith, t.table)) in
      grind (arith, common_steps, below-present p.named 64 64 (omega (arith, t.table)) (omega arith), all, below_le (mask_of p.named 64) 64)

  pub length-low : length (low p) ≡ 24 + 4 * length (present p.named)
  length-low = length-append (lead p) (numbers p.named) ∙ ap₂ (λ (a b : ℕ). a + b) (length-lead p) (length_joined (present p.named))

  pub length-upper : length (upper p) ≡ 280
  length-upper = length-fit 280 (low p) (omega (arith, length-low, few))

  pub length_filled : length (upper p ++ p.body) ≡ 280 + length p.body
  length_filled = length-append (upper p) p.body ∙ ap (λ (k : ℕ). k + length p.body) length-upper

  pub length_front : length (front p) ≡ 508
  unfolding front
  length_front = let h = head_was p.name (length p.body) fits in length-fit 508 (upper p ++ p.body) (omega (arith, length_filled, h.3))

  length_block : length (block_of p) ≡ 512
  length_block = length-append (front p) (seal p) ∙ ap₂ (λ (a b : ℕ). a + b) length_front (length-big 4 (weighted (front p) 508))

  -- every entry is a byte
  Bytes-numbers : (ys : List ℕ) → Bytes (flat_map (big 4) ys)
  Bytes-numbers [] i = omega arith
  Bytes-numbers (y ∷ ys) i = Bytes-append (big 4 y) (flat_map (big 4) ys) (Bytes-big 4 y) (Bytes-numbers ys) i

  Bytes-lead : Bytes (lead p)
  unfolding zeros
  Bytes-lead = grind (arith, common_steps)

  Bytes-front : Bytes (front p)
  unfolding front
  Bytes-front = search (arith, rules, Bytes-append, Bytes-lead, Bytes-numbers, Bytes-zeros)

  -- the fields
  check_back : wide 4 (block_of p) 508 ≡ weighted (block_of p) 508
  check_back = grind (arith, common_steps, append-nil, wide_at, length_front, weighted_fits, Bytes-front, weighted_left)

  length_back : get_or (block_of p) 8 0 ≡ length p.body
  length_back = ap (λ (xs : List ℕ). get_or xs 8 0) (split p)

  number_back : wide 4 (block_of p) 4 ≡ p.name.number
  number_back = grind (arith, common_steps, head_was, split, wide_at)

  mask_back : wide 8 (block_of p) 16 ≡ mask_of p.named 64
  unfolding zeros
  mask_back = grind (arith, common_steps, split, wide_at, mask_lt)

  name_back : name_of (block_of p) ≡ p.name
  name_back = grind (arith, common_steps, number_back, split p)

  body_back : between 280 (280 + get_or (block_of p) 8 0) (block_of p) ≡ p.body
  unfolding front
  body_back =
      let rest = zeros (508 - length (upper p ++ p.body)) ++ seal p in
      let whole = regroup (upper p) p.body (zeros (508 - length (upper p ++ p.body))) (seal p) in
      grind (arith, common_steps, length_back, whole, drop_at (upper p) (p.body ++ rest) 280 length-upper, take_at p.body rest (length p.body) refl)

  -- the named numbers
  number_at_back : numbers_fit (present p.named) 24 ≡ Ok tt → (k y : ℕ) → k < 64 → get_or p.named k None ≡ Some y
      → wide 4 (block_of p) (24 + 4 * below (mask_of p.named 64) k) ≡ y
  number_at_back nf k y h o =
      let ns = p.named in
      let before = present (take k ns) in
      let later = present (drop (k + 1) ns) in
      let around : present ns ≡ before ++ (y ∷ later) = present_around ns k (omega (arith, t.table)) ∙ ap (λ (e : Option ℕ). before ++ (single e ++ later)) o in
      let laid : numbers ns ≡ flat_map (big 4) before ++ (big 4 y ++ flat_map (big 4) later) = ap (flat_map (big 4)) around ∙ flat_map-append (big 4) before (y ∷ later) in
      let bound = numbers_was before y later 24 (ap (λ (ys : List ℕ). numbers_fit ys 24) (sym around) ∙ nf) in
      let place : length (lead p ++ flat_map (big 4) before) ≡ 24 + 4 * below (mask_of ns 64) k =
      length-append (lead p) (flat_map (big 4) before)
      ∙ ap₂ (λ (a b : ℕ). a + b) (length-lead p) (length_joined before ∙ ap (λ (n : ℕ). 4 * n) (sym (below-present ns 64 k (omega (arith, t.table)) (omega arith)))) in
      let rest = flat_map (big 4) later ++ after p in
      let whole : block_of p ≡ (lead p ++ flat_map (big 4) before) ++ (big 4 y ++ rest) = grind (arith, common_steps, split p, laid) in
      ap (λ (xs : List ℕ). wide 4 xs (24 + 4 * below (mask_of ns 64) k)) whole ∙ wide_at 4 y (lead p ++ flat_map (big 4) before) rest _ place (omega (arith, bound.1))

  entry_back : numbers_fit (present p.named) 24 ≡ Ok tt → (k : ℕ) → k < 64 → (o : Option ℕ) → get_or p.named k None ≡ o
      → o ≡ named_in (block_of p) (mask_of p.named 64) k
  entry_back nf k h None e = grind (arith, common_steps, bit_mask p.named 64 k h)
  entry_back nf k h (Some y) e = grind (arith, common_steps, number_at_back nf k y h e, bit_mask p.named 64 k h)

  named_back : numbers_fit (present p.named) 24 ≡ Ok tt → named_of (block_of p) ≡ p.named
  unfolding named_of
  named_back nf =
      sym (fill_by_all (named_in (block_of p) (wide 8 (block_of p) 16)) p.named 64 None t.table
      (λ k h. entry_back nf k h (get_or p.named k None) refl ∙ ap (λ (m : ℕ). named_in (block_of p) m k) (sym mask_back)))

  parts_back : numbers_fit (present p.named) 24 ≡ Ok tt → parts_of (block_of p) ≡ p
  parts_back nf = grind (arith, common_steps, name_back, named_back nf, body_back)

  -- the checks
  framed_back : framed (block_of p) ≡ Ok tt
  framed_back =
      let kind : get_or (block_of p) 0 0 ≡ 1 = ap (λ (xs : List ℕ). get_or xs 0 0) (split p) in
      let edition : get_or (block_of p) 1 0 ≡ 1 = ap (λ (xs : List ℕ). get_or xs 1 0) (split p) in
      grind (arith, length_block, check_back, kind, edition, eq-eqb)

  ranged_back : numbers_fit (present p.named) 24 ≡ Ok tt → ranged (block_of p) ≡ Ok tt
  ranged_back nf = grind (arith, common_steps, bind_ok, name_back, length_back, present-named_of, named_back)

  count_back : count_in (block_of p) ≡ length (present p.named)
  count_back =
      let all = take_all 64 p.named (omega (arith, t.table)) in
      grind (arith, common_steps, mask_back, below-present p.named 64 64 (omega (arith, t.table)) (omega arith), all)

  reserved_back : zeros_in (block_of p) 9 7 ≡ Ok tt
  unfolding zeros zeros_in
  reserved_back = ap (λ (xs : List ℕ). zeros_in xs 9 7) (split p)

  in_front : (i : ℕ) → i < 508 → get_or (block_of p) i 0 ≡ get_or (front p) i 0
  in_front i h = get_or_append_left (front p) (seal p) 0 i (omega (arith, length_front))

  places_back : zeros_in (block_of p) (24 + 4 * count_in (block_of p)) (280 - (24 + 4 * count_in (block_of p))) ≡ Ok tt
  unfolding front
  places_back =
      let c = count_back in
      zeros_pass _ (block_of p) _ (λ i l u.
      let u' : i < 280 = omega (arith, few) in
      in_front i (omega arith) ∙ get_or_append_left (upper p ++ p.body) _ 0 i (omega (arith, length_filled)) ∙ get_or_append_left (upper p) p.body 0 i (omega (arith, length-upper))
      ∙ get_or-fit 280 (low p) i (omega (arith, length-low)))

  rest_back : zeros_in (block_of p) (280 + get_or (block_of p) 8 0) (508 - (280 + get_or (block_of p) 8 0)) ≡ Ok tt
  unfolding front
  rest_back =
      let e = length_back in
      let h = head_was p.name (length p.body) fits in
      zeros_pass _ (block_of p) _ (λ i l u.
      let u' : i < 508 = omega (arith, h.3) in
      in_front i u' ∙ get_or-fit 508 (upper p ++ p.body) i (omega (arith, length_filled)))

  cleared_back : cleared (block_of p) ≡ Ok tt
  cleared_back = grind (arith, common_steps, bind_ok, reserved_back, places_back, rest_back)

  -- the block of a letter that passes the writer's checks
  pub block_reads : numbers_fit (present p.named) 24 ≡ Ok tt → reading (block_of p) ≡ Ok p
  block_reads nf = grind (arith, common_steps, bind_ok, framed_back, ranged_back, cleared_back, parts_back)

pub reads_back : ReadsBack
reads_back p xs t h = search (arith, rules, bind_was, ok_same, block_reads)
