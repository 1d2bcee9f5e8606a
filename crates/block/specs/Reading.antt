-- What reading a block answers: the letter's parts, or the first fault in the order of checks.
--   Checked       what a check answers
--   bind          go on with an answer, or hand its fault on
--   in_range      a field's value within its bounds
--   head_fits     poster, channel, number and length of the body within theirs
--   numbers_fit   the first of a list of named numbers that is out of range
--   numbers_from  some numbers of 4 bytes, one after the other
--   zeros_in      the first of some bytes that is not zero
--   framed        length, check, kind and edition
--   count_in      how many pairs a block names
--   ranged        every field within its range
--   cleared       every byte that should be zero
--   reading       all of it
use Rattle.std.specs.Prelude.{ℕ, zero, suc, ◌+◌, ◌-◌, ◌*◌, if◌then◌else◌, ◌&&◌, List, [], ◌∷◌, length, Ok, Err, Result, ◌==◌, nat_le, slice_index}
use Rattle.block.specs.declared.names.Name.{Name}
use Rattle.block.specs.declared.faults.BlockFault.{BlockFault}
use Rattle.block.specs.declared.faults.BlockFault.TheVariants.{Length, Check, Kind, Range, NonZero}
use Rattle.block.specs.Numbers.{wide}
use Rattle.block.specs.Sum.{weighted}
use Rattle.block.specs.Mask.{below}
use Rattle.block.specs.Parts.{Parts, parts_of, name_of}

-- a check: passed, or a fault
abbrev pub Checked : Type 0
Checked = Result (Unit {0}) BlockFault

-- go on with what an answer holds, or hand its fault on
abbrev pub bind : {A B E : Type 0} → Result A E → (A → Result B E) → Result B E
bind (Ok x) f = f x
bind (Err e) f = Err e

-- a field at byte `at` has a value from low to high
abbrev pub in_range : ℕ → ℕ → ℕ → ℕ → Checked
in_range low high value at = if nat_le low value && nat_le value high then Ok tt else Err (Range at)

-- poster and channel 0 to 7, number 1 to a million, body of at most 224 bytes
abbrev pub head_fits : Name → ℕ → Checked
head_fits name len =
    bind (in_range 0 7 name.station 2) (λ _.
    bind (in_range 0 7 name.channel 3) (λ _.
    bind (in_range 1 1000000 name.number 4) (λ _.
    in_range 0 224 len 8)))

-- named numbers that lie one after the other from byte `at`: each from 1 to a million
abbrev pub numbers_fit : List ℕ → ℕ → Checked
numbers_fit [] at = Ok tt
numbers_fit (y ∷ ys) at = bind (in_range 1 1000000 y at) (λ _. numbers_fit ys (at + 4))

-- the n numbers of 4 bytes that lie one after the other from byte `at`
unfoldable pub numbers_from : List ℕ → ℕ → ℕ → List ℕ
numbers_from xs at zero = []
numbers_from xs at (suc n) = wide 4 xs at ∷ numbers_from xs (at + 4) n

-- the n bytes from byte `at` are zero, or the first that is not
unfoldable pub zeros_in : List ℕ → ℕ → ℕ → Checked
zeros_in xs at zero = Ok tt
zeros_in xs at (suc n) = if slice_index xs at == 0 then zeros_in xs (at + 1) n else Err (NonZero at)

-- 512 bytes, the check of the first 508 in the last 4, kind 1 in byte 0, edition 1 in byte 1
abbrev pub framed : List ℕ → Checked
framed xs =
    if length xs == 512 then
    (if wide 4 xs 508 == weighted xs 508 then
    (if slice_index xs 0 == 1 then (if slice_index xs 1 == 1 then Ok tt else Err (Kind 1)) else Err (Kind 0))
    else Err Check)
    else Err Length

-- how many pairs the mask names; the byte after the last of their numbers is 24 + 4 times that
abbrev pub count_in : List ℕ → ℕ
count_in xs = below (wide 8 xs 16) 64

-- every field in its range, in the order of the bytes
abbrev pub ranged : List ℕ → Checked
ranged xs = bind (head_fits (name_of xs) (slice_index xs 8)) (λ _. numbers_fit (numbers_from xs 24 (count_in xs)) 24)

-- zero: bytes 9 to 15, the number places after the last named number, and from the end of the body to byte 507
abbrev pub cleared : List ℕ → Checked
cleared xs =
    bind (zeros_in xs 9 7) (λ _.
    bind (zeros_in xs (24 + 4 * count_in xs) (280 - (24 + 4 * count_in xs))) (λ _.
    zeros_in xs (280 + slice_index xs 8) (508 - (280 + slice_index xs 8))))

-- what reading the bytes answers
abbrev pub reading : List ℕ → Result Parts BlockFault
reading xs = bind (framed xs) (λ _. bind (ranged xs) (λ _. bind (cleared xs) (λ _. Ok (parts_of xs))))
