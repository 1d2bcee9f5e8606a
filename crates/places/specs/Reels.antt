-- What a reel shows: for each station number its waiting blocks and its limit.
--   reel_waits  the waiting blocks, from the oldest to the newest
--   reel_means  its meaning: those blocks; the limit is 4 for stations 0 to 7, and 0 above
use Rattle.carrier.specs.Bags.{Bags}
use Rattle.carrier.specs.Meaning.{Meaning}
use Rattle.places.specs.Shares.{held, room}
use Rattle.places.specs.declared.reel.Reel.{Reel}

abbrev pub reel_waits : Reel → Bags
reel_waits reel = held reel.shares reel.places

abbrev pub reel_means : Reel → Meaning
reel_means reel = record { bag = reel_waits reel; limit = room 4 }
