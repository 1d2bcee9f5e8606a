-- What a tray shows: for each station number its waiting blocks, its limit and whose turn it is.
--   memory_of     the caller's memory, in which it lies
--   tray_waits    the waiting blocks, from the oldest to the newest
--   tray_means    its meaning: those blocks; the limit is the eighth for stations 0 to 7, and 0 above
--   turn_of       which block the next take for a station hands over
--   tray_accepts  whether a memory of so many blocks is enough
--   TrayMade      a tray as it is made of a memory
use Rattle.std.specs.Prelude.{◌≡◌, ℕ, if◌then◌else◌, [], Ok, Err, vec_items, vec_len, Result, Vec, nat_lt, slice_index_or}
use Rattle.std.specs.declared.alloc.Global.{Global}
use Rattle.carrier.specs.Bags.{Block, Bags}
use Rattle.carrier.specs.Meaning.{Meaning}
use Rattle.places.specs.Shares.{eighth, held, room}
use Rattle.carrier.specs.declared.faults.CarrierFault.{CarrierFault}
use Rattle.carrier.specs.declared.faults.CarrierFault.TheVariants.{SmallMemory}
use Rattle.places.specs.declared.tray.Tray.{Tray}
use Rattle.places.specs.declared.turns.Turn.{Turn}
use Rattle.places.specs.declared.turns.Turn.TheVariants.{Newest}

-- what the caller handed over; what stands in it is left open
abbrev pub memory_of : Tray → Vec Block Global
memory_of tray = tray.memory

abbrev pub tray_waits : Tray → Bags
tray_waits tray = held tray.shares (vec_items tray.memory)

abbrev pub tray_means : Tray → Meaning
tray_means tray = record { bag = tray_waits tray; limit = room (eighth (vec_len tray.memory)) }

abbrev pub turn_of : Tray → ℕ → Turn
turn_of tray station = slice_index_or tray.turns station Newest

-- refused under 8 blocks
abbrev pub tray_accepts : ℕ → Result (Unit {0}) CarrierFault
tray_accepts blocks = if nat_lt blocks 8 then Err SmallMemory else Ok tt

-- the memory is enough, nothing waits, and each station's newest block comes first
pub record TrayMade (memory : Vec Block Global) (tray : Tray) : Type 0 where
  pub accepted : tray_accepts (vec_len memory) ≡ Ok tt
  pub in_memory : memory_of tray ≡ memory
  pub empty : (station : ℕ) → tray_waits tray station ≡ []
  pub newest_first : (station : ℕ) → turn_of tray station ≡ Newest
