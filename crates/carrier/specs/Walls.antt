-- What a wall shows: for each station number the waiting blocks and the limit of the side that it uses.
--   sides_of       its two carriers
--   set_of         the stations that use the first
--   by_side        of two things, the first for the stations of a set and the second for all other numbers
--   wall_means     the wall's meaning, by the meanings of its two sides
--   OtherSideKept  a call for a station leaves the side that it does not use, and the set, as they were
use Rattle.std.specs.Prelude.{◌≡◌, ℕ, if◌then◌else◌, MatchBool}
use Rattle.carrier.specs.Meaning.{Meaning}
use Rattle.carrier.specs.Stations.{member}
use Rattle.carrier.specs.declared.stations.Stations.{Stations}
use Rattle.carrier.specs.declared.wall.Wall.{Wall}

abbrev pub sides_of : {A B : Type 0} → Wall A B → A × B
sides_of wall = (wall.first, wall.second)

abbrev pub set_of : {A B : Type 0} → Wall A B → Stations
set_of wall = wall.of_first

abbrev pub by_side : {X : Type 0} → Stations → (ℕ → X) → (ℕ → X) → ℕ → X
by_side set first second station = if member set station then first station else second station

-- what the two sides mean is told by `first` and `second`
abbrev pub wall_means : {A B : Type 0} → Wall A B → (A → Meaning) → (B → Meaning) → Meaning
wall_means wall first second = record {
  bag = by_side wall.of_first (first wall.first).bag (second wall.second).bag;
  limit = by_side wall.of_first (first wall.first).limit (second wall.second).limit;
}

pub record OtherSideKept {A B : Type 0} (station : ℕ) (wall wall' : Wall A B) : Type 0 where
  pub set : wall'.of_first ≡ wall.of_first
  pub side : MatchBool (member wall.of_first station) (wall'.second ≡ wall.second) (wall'.first ≡ wall.first)
