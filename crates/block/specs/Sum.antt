-- The check of a block.
--   weighted  the sum of each byte's value times its place counted from one
use Rattle.std.specs.Prelude.{ℕ, zero, suc, ◌+◌, ◌*◌, List, slice_index}

-- the sum, over the first n bytes, of each byte's value times its place counted from one
unfoldable pub weighted : List ℕ → ℕ → ℕ
weighted xs zero = 0
weighted xs (suc n) = weighted xs n + slice_index xs n * suc n
