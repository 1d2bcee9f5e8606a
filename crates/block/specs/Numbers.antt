-- Numbers of several bytes, most significant byte first.
--   wide   the number that some bytes of a list write
--   big    the bytes that write a number
--   Bytes  every entry of a list is a byte
--   zeros  zeros
--   fit    a list of bytes with zeros up to a length
use Rattle.std.specs.Prelude.{ℕ, zero, suc, ◌+◌, ◌-◌, ◌*◌, ◌/◌, ◌%◌, ◌<◌, List, [], ◌∷◌, ◌++◌, length, replicate, slice_index}

-- the number that the n bytes of xs from place k write
abbrev pub wide : ℕ → List ℕ → ℕ → ℕ
wide zero xs k = 0
wide (suc n) xs k = wide n xs k * 256 + slice_index xs (k + n)

-- the n bytes that write x
abbrev pub big : ℕ → ℕ → List ℕ
big zero x = []
big (suc n) x = big n (x / 256) ++ x % 256 ∷ []

-- every entry of xs is a byte
abbrev pub Bytes : List ℕ → Type 0
Bytes xs = (i : ℕ) → slice_index xs i < 256

-- n zeros
unfoldable pub zeros : ℕ → List ℕ
zeros n = replicate n 0

-- xs, and zeros after it up to n bytes
abbrev pub fit : ℕ → List ℕ → List ℕ
fit n xs = xs ++ zeros (n - length xs)
