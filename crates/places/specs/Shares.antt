-- Eight runs in one list of places, for stations 0 to 7.
--   share      the places of a station
--   held       the records of a station, from the oldest to the newest
--   room       how many records a station may have
--   eighth     how many places each station has in a memory of so many blocks
--   Queued     what adding a record leaves of its station's records, by its answer
--   TakenAt    what taking one leaves of them and of the caller's record, by its answer
use Rattle.std.specs.Prelude.{◌≡◌, ℕ, ◌*◌, ◌/◌, ◌<◌, ◌≤◌, min, if◌then◌else◌, List, [], ◌∷◌, ◌++◌, length, take, drop, Some, None, Ok, Err, Option, Result, nat_lt, slice_index_or}
use Rattle.std.specs.List.{remove}
use Rattle.run.specs.Records.{empty_run, records}
use Rattle.carrier.specs.declared.faults.CarrierFault.{CarrierFault}
use Rattle.places.specs.declared.shares.Shares.{Shares}

-- of places shared out by `each`, those of a station
abbrev pub share : {X : Type 0} → ℕ → List X → ℕ → List X
share each places station = take each (drop (each * station) places)

-- each station from 0 to 7 has a run over its share; no other number has any
abbrev pub held : {X : Type 0} → Shares → List X → ℕ → List X
held shares places station = if nat_lt station 8 then records (slice_index_or shares.runs station empty_run) (share shares.each places station) else []

abbrev pub room : ℕ → ℕ → ℕ
room each station = if nat_lt station 8 then each else 0

-- an eighth of the blocks, rounded down, at most 64
abbrev pub eighth : ℕ → ℕ
eighth blocks = min (blocks / 8) 64

-- the record is the newest now, or nothing changed
abbrev pub Queued : {X : Type 0} → Result (Unit {0}) CarrierFault → X → List X → List X → Type 0
Queued (Ok done) x before after = after ≡ before ++ x ∷ []
Queued (Err fault) x before after = after ≡ before

-- the caller has the record that was at the place, and the others are left in their order; or there is none, and nothing changed
abbrev pub TakenAt : {X : Type 0} → Option (Unit {0}) → ℕ → X → X → List X → List X → Type 0
TakenAt {X} (Some done) at into into' before after = (at < length before) × ((d : X) → into' ≡ slice_index_or before at d) × (after ≡ remove before at)
TakenAt None at into into' before after = (length before ≤ at) × (into' ≡ into) × (after ≡ before)
