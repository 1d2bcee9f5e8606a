-- Sets of stations.
--   member  whether a station is in a set
use Rattle.std.specs.Prelude.{ℕ, Bool, false, ◌&&◌, nat_lt, slice_index_or}
use Rattle.carrier.specs.declared.stations.Stations.{Stations}

-- no number above 7 is
abbrev pub member : Stations → ℕ → Bool
member set station = nat_lt station 8 && slice_index_or set.has station false
