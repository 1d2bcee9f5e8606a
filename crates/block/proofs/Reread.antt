-- What was read is written as the same bytes.
use Rattle.std.proofs.Common.{◌≡◌, ℕ, ◌+◌, ◌-◌, ◌*◌, ◌≤◌, true, eqb, List, ◌++◌, length, get_or, take, drop, is_ok, Ok, Err, Result, sym, refl, ap, ◌∙◌, ap₂, zero-add, arith}
use Rattle.std.specs.List.{flat_map}
use Rattle.std.proofs.lemmas.Bool.{eqb-true, false≢true}
use Rattle.block.specs.declared.faults.BlockFault.{BlockFault}
use Rattle.block.specs.declared.faults.BlockFault.TheVariants.{Length, Check, Kind}
use Rattle.block.specs.Numbers.{wide, big, Bytes, zeros, fit}
use Rattle.block.specs.Sum.{weighted}
use Rattle.block.specs.Mask.{mask_of}
use Rattle.block.specs.Parts.{Parts, parts_of, name_of, named_of}
use Rattle.block.specs.Reading.{head_fits, numbers_fit, numbers_from, zeros_in, framed, ranged, cleared, count_in, reading}
use Rattle.block.specs.Writing.{head, numbers, front, block_of, writing}
use Rattle.block.specs.Laws.{WritesBack}
use Rattle.block.proofs.Places.{below_le}
use Rattle.std.proofs.lemmas.List.{length-append}
use Rattle.std.proofs.lemmas.Grind.{common_steps}
use Rattle.block.proofs.Wide.{length-big, wide_lt}
use Rattle.block.proofs.Cuts.{cut, cut_cons, cut_append, cut_whole, length_cut, big-wide, numbers_cut}
use Rattle.block.proofs.Tables.{present-named_of, mask_of-named_of}
use Rattle.block.proofs.Checks.{bind_ok, bind_was, test_was, head_was, zeros_cut}
use Rattle.block.proofs.Sums.{weighted_left}

-- a block that passes all checks says its parts
pub says_parts : (xs : List ℕ) → framed xs ≡ Ok tt → ranged xs ≡ Ok tt → cleared xs ≡ Ok tt → reading xs ≡ Ok (parts_of xs)
says_parts xs f r z = bind_ok (framed xs) _ tt f ∙ bind_ok (ranged xs) _ tt r ∙ bind_ok (cleared xs) _ tt z

-- a block that is readable says its parts, and no others
pub readable : (xs : List ℕ) → is_ok (reading xs) ≡ true → reading xs ≡ Ok (parts_of xs)
readable xs h = go (reading xs) refl h
  where
    go : (r : Result Parts BlockFault) → reading xs ≡ r → is_ok r ≡ true → reading xs ≡ Ok (parts_of xs)
    go (Ok p) e t =
        let f = bind_was (framed xs) _ p e in
        let r = bind_was (ranged xs) _ p f.2 in
        let z = bind_was (cleared xs) _ p r.2 in
        e ∙ sym z.2
    go (Err x) e t = absurd (false≢true t)

-- what a block that passed says of its bytes
pub record Passed (xs : List ℕ) : Type 0 where
  pub long : length xs ≡ 512
  pub check : wide 4 xs 508 ≡ weighted xs 508
  pub kind : get_or xs 0 0 ≡ 1
  pub edition : get_or xs 1 0 ≡ 1
  pub head_ok : head_fits (name_of xs) (get_or xs 8 0) ≡ Ok tt
  pub numbers_ok : numbers_fit (numbers_from xs 24 (count_in xs)) 24 ≡ Ok tt
  pub reserved : zeros_in xs 9 7 ≡ Ok tt
  pub places : zeros_in xs (24 + 4 * count_in xs) (280 - (24 + 4 * count_in xs)) ≡ Ok tt
  pub rest : zeros_in xs (280 + get_or xs 8 0) (508 - (280 + get_or xs 8 0)) ≡ Ok tt

pub passed : (xs : List ℕ) (p : Parts) → reading xs ≡ Ok p → Passed xs × (parts_of xs ≡ p)
passed xs p h =
    let f = bind_was (framed xs) _ p h in
    let r = bind_was (ranged xs) _ p f.2 in
    let z = bind_was (cleared xs) _ p r.2 in
    let l = test_was (eqb (length xs) 512) _ Length tt f.1 in
    let s = test_was (eqb (wide 4 xs 508) (weighted xs 508)) _ Check tt l.1 in
    let k = test_was (eqb (get_or xs 0 0) 1) _ (Kind 0) tt s.1 in
    let e = test_was (eqb (get_or xs 1 0) 1) (Ok tt) (Kind 1) tt k.1 in
    let hd = bind_was (head_fits (name_of xs) (get_or xs 8 0)) _ tt r.1 in
    let a = bind_was (zeros_in xs 9 7) _ tt z.1 in
    let b = bind_was (zeros_in xs (24 + 4 * count_in xs) (280 - (24 + 4 * count_in xs))) _ tt a.2 in (
      record {
        long = eqb-true (length xs) 512 l.0;
        check = eqb-true (wide 4 xs 508) (weighted xs 508) s.0;
        kind = eqb-true (get_or xs 0 0) 1 k.0;
        edition = eqb-true (get_or xs 1 0) 1 e.0;
        head_ok = hd.1;
        numbers_ok = hd.2;
        reserved = a.1;
        places = b.1;
        rest = b.2;
      },
      cc,
    )

module _ (xs : List ℕ) (b : Bytes xs) (s : Passed xs) where
  short : get_or xs 8 0 ≤ 224
  short = (head_was (name_of xs) (get_or xs 8 0) s.head_ok).3

  few : count_in xs ≤ 64
  few = below_le (wide 8 xs 16) 64

  -- the body
  body_cut : (parts_of xs).body ≡ cut xs 280 (get_or xs 8 0)
  unfolding cut
  body_cut = let e : 280 + get_or xs 8 0 - 280 ≡ get_or xs 8 0 = omega arith in ap (λ (n : ℕ). take n (drop 280 xs)) e

  body_length : length (parts_of xs).body ≡ get_or xs 8 0
  body_length = grind (arith, common_steps, body_cut, length_cut xs 280 (get_or xs 8 0) (omega (arith, s.long, short)))

  -- the head
  mask_same : mask_of (named_of xs) 64 ≡ wide 8 xs 16
  mask_same = mask_of-named_of xs (omega (arith, wide_lt 8 xs 16 b))

  lead_cut : head (name_of xs) (length (parts_of xs).body) (mask_of (named_of xs) 64) ≡ cut xs 0 24
  unfolding zeros
  lead_cut =
      let long = s.long in
      let zero = zeros_cut 7 xs 9 (omega arith) s.reserved in
      let join-16 = cut_append 7 xs 9 8 (omega arith) in
      let join-8 = cut_append 4 xs 4 16 (omega arith) in
      let mask = big-wide 8 xs 16 b (omega arith) in
      let number = big-wide 4 xs 4 b (omega arith) in
      grind (arith, s.kind, s.edition, body_length, mask_same, zero, join-16, join-8, mask, number, cut_cons xs)

  -- and on, piece by piece
  numbers_same : numbers (named_of xs) ≡ cut xs 24 (4 * count_in xs)
  numbers_same = ap (flat_map (big 4)) (present-named_of xs) ∙ numbers_cut (count_in xs) xs 24 b (omega (arith, s.long, few))

  low_cut : head (name_of xs) (length (parts_of xs).body) (mask_of (named_of xs) 64) ++ numbers (named_of xs) ≡ cut xs 0 (24 + 4 * count_in xs)
  low_cut = ap₂ (λ (ys zs : List ℕ). ys ++ zs) lead_cut numbers_same ∙ cut_append 24 xs 0 (4 * count_in xs) (omega (arith, s.long, few))

  -- a front of the block, filled up with the zeros that follow it there
  fit_cut : (m n : ℕ) (ys : List ℕ) → m ≤ n → n ≤ 512 → ys ≡ cut xs 0 m → zeros_in xs m (n - m) ≡ Ok tt → fit n ys ≡ cut xs 0 n
  fit_cut m n ys h k e z =
      let long = s.long in
      grind (arith, zero-add m, length_cut xs 0 m (omega arith), zeros_cut (n - m) xs m (omega arith) z, cut_append m xs 0 (n - m) (omega arith))

  front_cut : front (parts_of xs) ≡ cut xs 0 508
  unfolding front
  front_cut =
      let to-280 = fit_cut (24 + 4 * count_in xs) 280 _ (omega (arith, few)) (omega arith) low_cut s.places in
      let to-body = ap₂ (λ (ys zs : List ℕ). ys ++ zs) to-280 body_cut ∙ cut_append 280 xs 0 (get_or xs 8 0) (omega (arith, s.long, short)) in
      fit_cut (280 + get_or xs 8 0) 508 _ (omega (arith, short)) (omega arith) to-body s.rest

  pub block_same : block_of (parts_of xs) ≡ xs
  block_same =
      let long = s.long in
      let check = weighted_left 508 (cut xs 0 508) (cut xs 508 4) (omega (arith, length_cut xs 0 508 (omega arith))) in
      grind (arith, s.check, front_cut, check, cut_append 508 xs 0 4 (omega arith), cut_whole xs 512 s.long, big-wide 4 xs 508 b (omega arith))

  pub written_same : writing 512 (parts_of xs) ≡ Ok xs
  written_same = grind (arith, common_steps, bind_ok, body_length, present-named_of, block_same)

pub writes_back : WritesBack
writes_back p xs b h = let q = passed xs p h in ap (writing 512) (sym q.1) ∙ written_same xs b q.0

-- the check in a letter's block is that of its front
pub check_same : (xs : List ℕ) → reading xs ≡ Ok (parts_of xs) → block_of (parts_of xs) ≡ xs → wide 4 xs 508 ≡ weighted (front (parts_of xs)) 508
check_same xs h again =
    let p = parts_of xs in
    let sum = weighted (front p) 508 in
    let q = (passed xs p h).0 in
    grind (arith, q.check, q.long, length-append (front p) (big 4 sum), length-big 4 sum, weighted_left 508 (front p) (big 4 sum))

-- a block that says its parts is the block of these parts
pub letter_block : (xs : List ℕ) → Bytes xs → reading xs ≡ Ok (parts_of xs) → block_of (parts_of xs) ≡ xs
letter_block xs b h = block_same xs b (passed xs (parts_of xs) h).0
