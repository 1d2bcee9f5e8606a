-- What the bytes of a line so far say of it.
--   added    one more byte
--   ended    the bytes of a line without a return at their end
--   text_of  the bytes of a line that is not too long
use Rattle.std.specs.Prelude.{ℕ, ◌-◌, if◌then◌else◌, ◌&&◌, List, [], ◌∷◌, ◌++◌, length, take, Some, None, Option, ◌==◌, nat_lt, slice_index}

-- one more byte, where fewer than 4097 are there; else none, and none from then on
abbrev pub added : Option (List ℕ) → ℕ → Option (List ℕ)
added None byte = None
added (Some bytes) byte = if nat_lt (length bytes) 4097 then Some (bytes ++ byte ∷ []) else None

-- one byte less where the last is a return, byte 13
abbrev pub ended : List ℕ → List ℕ
ended bytes =
    if nat_lt 0 (length bytes) && slice_index bytes (length bytes - 1) == 13 then take (length bytes - 1) bytes else bytes

-- the bytes, or none where there are more than 4096 or some found no room
abbrev pub text_of : Option (List ℕ) → Option (List ℕ)
text_of None = None
text_of (Some bytes) = if nat_lt 4096 (length bytes) then None else Some bytes
