-- Pieces copied into memory that is zero from there on, and the bytes of a number as the machine has them.
use Rattle.std.proofs.Common.{◌≡◌, ℕ, ◌+◌, ◌-◌, ◌/◌, ◌%◌, ◌≤◌, List, [], ◌∷◌, ◌++◌, length, replicate, sym, refl, ap, ◌∙◌, ap₂, arith, rules}
use lib.Seq.{paste}
use Rattle.std.proofs.lemmas.List.{append_assoc, length-append, length-replicate, take_at, drop_at, replicate-append-replicate}
use Rattle.std.proofs.lemmas.List.Edits.{paste_all, paste-paste}
use Rattle.std.proofs.lemmas.Grind.{common_steps}
use Rattle.block.specs.Numbers.{big, zeros, fit}

pub zeros_append : (a b n : ℕ) → a + b ≡ n → zeros n ≡ zeros a ++ zeros b
unfolding zeros
zeros_append a b n e = ap zeros (sym e) ∙ sym (replicate-append-replicate a b 0)

pub length-fit : (n : ℕ) (xs : List ℕ) → length xs ≤ n → length (fit n xs) ≡ n
unfolding zeros
length-fit n xs h = grind (arith, common_steps)

-- a list that is long enough is not filled up
pub fit_whole : (n : ℕ) (xs : List ℕ) → length xs ≡ n → fit n xs ≡ xs
unfolding zeros
fit_whole n xs h = grind (arith, common_steps)

-- what is filled up twice
pub fit-fit : (a n : ℕ) (xs : List ℕ) → length xs ≤ a → a ≤ n → fit n xs ≡ fit a xs ++ zeros (n - a)
fit-fit a n xs h k = grind (arith, common_steps, zeros_append, append_assoc)

-- a block of zeros
pub blank : replicate 512 0 ≡ fit 512 []
unfolding zeros
blank = refl

-- a piece copied over one of its length
paste_over : (u a b piece : List ℕ) (at : ℕ) → length u ≡ at → length a ≡ length piece → paste (u ++ (a ++ b)) at piece (length piece) ≡ u ++ (piece ++ b)
paste_over u a b piece at h k =
    let m = length piece in
    grind (arith, paste_all (u ++ (a ++ b)) at piece m refl, take_at u (a ++ b) at h, drop_at (u ++ a) b (at + m) (omega (arith, length-append u a)), append_assoc u a b)

-- a piece copied to a place past what was laid there before
pub lay_fit : (n : ℕ) (w piece : List ℕ) (at : ℕ) → length w ≤ at → at + length piece ≤ n → paste (fit n w) at piece (length piece) ≡ fit n (fit at w ++ piece)
unfolding zeros
lay_fit n w piece at h k =
    let m = length piece in
    let rest = n - (at + m) in
    let long : n - length (fit at w ++ piece) ≡ rest = omega (arith, length-append (fit at w) piece, length-fit at w h) in
    let over = paste_over (fit at w) (zeros m) (zeros rest) piece at (length-fit at w h) (length-replicate m 0) in
    grind (arith, common_steps, fit-fit at n w h (omega arith), zeros_append m rest (n - at) (omega arith), over, long)

-- so in memory of 512 bytes, with what is known of the memory and of the piece
pub laid_past : (m ps w piece : List ℕ) (at : ℕ) → m ≡ fit 512 w → ps ≡ piece → length w ≤ at → at + length piece ≤ 512
    → paste m at ps (length ps) ≡ fit 512 (fit at w ++ piece)
laid_past m ps w piece at em ep h k = ap₂ (λ (xs ys : List ℕ). paste xs at ys (length ys)) em ep ∙ lay_fit 512 w piece at h k

-- and right after what was laid there before
pub laid_next : (m ps w piece : List ℕ) (at : ℕ) → m ≡ fit 512 w → ps ≡ piece → length w ≡ at → at + length piece ≤ 512
    → paste m at ps (length ps) ≡ fit 512 (w ++ piece)
laid_next m ps w piece at em ep h k = grind (arith, common_steps, laid_past m ps w piece at em ep (omega arith) k, fit_whole at w h)

-- a piece copied right after one that was copied before
pub laid_on : (d before piece m ps : List ℕ) (at next : ℕ) → m ≡ paste d at before (length before) → ps ≡ piece → next ≡ at + length before → at ≤ length d
    → paste m next ps (length ps) ≡ paste d at (before ++ piece) (length (before ++ piece))
laid_on d before piece m ps at next em ep en h = grind (arith, common_steps, paste, paste-paste, length-append)

-- the bytes of a number as the machine has them
pub big_4 : (x : ℕ) → (x / 16777216 % 256) ∷ (x / 65536 % 256) ∷ (x / 256 % 256) ∷ (x % 256) ∷ [] ≡ big 4 x
big_4 x = search rules

pub big_8 : (x : ℕ) → (x / 72057594037927936 % 256) ∷ (x / 281474976710656 % 256) ∷ (x / 1099511627776 % 256) ∷ (x / 4294967296 % 256)
    ∷ (x / 16777216 % 256) ∷ (x / 65536 % 256) ∷ (x / 256 % 256) ∷ (x % 256) ∷ [] ≡ big 8 x
big_8 x = search rules
