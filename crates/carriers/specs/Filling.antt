-- What filling and emptying one station's bag does to a carrier.
--   OnlyFor  no other station's bag changed, and no limit
--   FullFor  as many blocks wait for the station as may
--   NoneFor  no block waits for the station
use Rattle.std.specs.Prelude.{◌≡◌, ℕ, [], length, ◌≢◌}
use Rattle.carrier.specs.Meaning.{Meaning}

pub record OnlyFor (station : ℕ) (before after : Meaning) : Type 0 where
  pub others : (other : ℕ) → (other ≢ station) → after.bag other ≡ before.bag other
  pub limits : (each : ℕ) → after.limit each ≡ before.limit each

abbrev pub FullFor : ℕ → Meaning → Type 0
FullFor station carrier = length (carrier.bag station) ≡ carrier.limit station

abbrev pub NoneFor : ℕ → Meaning → Type 0
NoneFor station carrier = carrier.bag station ≡ []
