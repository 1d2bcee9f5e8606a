-- The meaning of a carrier: for each station number a bag of waiting blocks and a limit, and what its calls do to them.
--   Meaning      for each station number, its bag and its limit
--   Lawful       what always holds of a station's limit and bag
--   put_answer   what a put answers
--   PutOwn       what a put leaves of its station's bag, by its answer
--   Puts         all that a put does
--   take_answer  what a take answers
--   TakeOwn      what a take leaves of its station's bag and of the caller's 512 bytes, by its answer
--   Takes        all that a take does
use Rattle.std.specs.Prelude.{◌≡◌, ℕ, ◌<◌, ◌≤◌, if◌then◌else◌, List, length, Some, None, Ok, Err, Option, Result, ◌==◌, ◌≢◌}
use Rattle.carrier.specs.Bags.{Block, Bags, OneMore}
use Rattle.carrier.specs.declared.faults.CarrierFault.{CarrierFault}
use Rattle.carrier.specs.declared.faults.CarrierFault.TheVariants.{Full}

-- the blocks that wait for a station number, whose order means nothing, and how many may
pub record Meaning : Type 0 where
  pub bag : Bags
  pub limit : ℕ → ℕ

-- the limit is 1 to 1,000 for stations 0 to 7 and 0 above them, and the bag's count does not pass it
pub record Lawful (station : ℕ) (carrier : Meaning) : Type 0 where
  pub low : station < 8 → 1 ≤ carrier.limit station
  pub high : carrier.limit station ≤ 1000
  pub above : 8 ≤ station → carrier.limit station ≡ 0
  pub within : length (carrier.bag station) ≤ carrier.limit station

-- refused exactly when the bag's count equals the limit
abbrev pub put_answer : ℕ → ℕ → Result (Unit {0}) CarrierFault
put_answer count limit = if count == limit then Err Full else Ok tt

-- one copy more, or nothing changed
abbrev pub PutOwn : Result (Unit {0}) CarrierFault → Block → List Block → List Block → Type 0
PutOwn (Ok done) block before after = OneMore block after before
PutOwn (Err fault) block before after = after ≡ before

-- a put of a block for a station answers r: that station's bag, all other bags, and the limits
pub record Puts (station : ℕ) (block : Block) (r : Result (Unit {0}) CarrierFault) (before after : Meaning) : Type 0 where
  pub answer : r ≡ put_answer (length (before.bag station)) (before.limit station)
  pub own : PutOwn r block (before.bag station) (after.bag station)
  pub others : (other : ℕ) → (other ≢ station) → after.bag other ≡ before.bag other
  pub limits : (each : ℕ) → after.limit each ≡ before.limit each

-- none exactly when the bag is empty
abbrev pub take_answer : ℕ → Option (Unit {0})
take_answer count = if count == 0 then None else Some tt

-- a block that waited is now in the caller's bytes and waits once less, or nothing changed
abbrev pub TakeOwn : Option (Unit {0}) → Block → Block → List Block → List Block → Type 0
TakeOwn (Some done) bytes bytes' before after = OneMore bytes' before after
TakeOwn None bytes bytes' before after = (after ≡ before) × (bytes' ≡ bytes)

-- a take for a station answers r: that station's bag and the caller's bytes, all other bags, and the limits
pub record Takes (station : ℕ) (r : Option (Unit {0})) (bytes bytes' : Block) (before after : Meaning) : Type 0 where
  pub answer : r ≡ take_answer (length (before.bag station))
  pub own : TakeOwn r bytes bytes' (before.bag station) (after.bag station)
  pub others : (other : ℕ) → (other ≢ station) → after.bag other ≡ before.bag other
  pub limits : (each : ℕ) → after.limit each ≡ before.limit each
