-- Pairs: one station on one channel, by number.
--   pair_of  the pair of a name
--   of_pair  the name of a pair's letter
use Rattle.std.specs.Prelude.{ℕ, ◌+◌, ◌*◌, ◌/◌, ◌%◌}
use Rattle.block.specs.declared.names.Name.{Name}

-- 8 times the station and the channel
abbrev pub pair_of : Name → ℕ
pair_of name = 8 * name.station + name.channel

-- the letter of pair k that has the number y
abbrev pub of_pair : ℕ → ℕ → Name
of_pair k y = record { station = k / 8; channel = k % 8; number = y }
