-- Which of the waiting blocks a take hands over, where they are listed from the oldest to the newest.
--   other       the turn after a turn
--   place_of    where the block of a turn is among so many
--   turn_after  the turn after a take, by its answer
--   ByTurn      a take hands over the newest or the oldest, by turn
use Rattle.std.specs.Prelude.{◌≡◌, ℕ, ◌-◌, List, [], ◌∷◌, ◌++◌, Some, None, Option}
use Rattle.carrier.specs.Bags.{Block}
use Rattle.places.specs.declared.turns.Turn.{Turn}
use Rattle.places.specs.declared.turns.Turn.TheVariants.{Newest, Oldest}

abbrev pub other : Turn → Turn
other Newest = Oldest
other Oldest = Newest

-- the oldest is at the first place, the newest at the last
abbrev pub place_of : Turn → ℕ → ℕ
place_of Newest count = count - 1
place_of Oldest count = 0

-- a take that finds none does not change the turn
abbrev pub turn_after : Option (Unit {0}) → Turn → Turn
turn_after (Some done) turn = other turn
turn_after None turn = turn

-- the newest: what waited is what waits still and then the block; the oldest: the block and then what waits still
abbrev pub ByTurn : Turn → Option (Unit {0}) → Block → List Block → List Block → Type 0
ByTurn Newest (Some done) block before after = before ≡ after ++ block ∷ []
ByTurn Oldest (Some done) block before after = before ≡ block ∷ after
ByTurn Newest None block before after = (before ≡ []) × (after ≡ [])
ByTurn Oldest None block before after = (before ≡ []) × (after ≡ [])
