-- A take whose block is put back.
--   PutBackOwn  what it leaves of its station's bag and of the caller's 512 bytes, by its answer
--   PutsBack    all that it does
use Rattle.std.specs.Prelude.{◌≡◌, ℕ, List, length, Some, None, Option, ◌≢◌}
use Rattle.carrier.specs.Bags.{Block, OneMore, SameBag}
use Rattle.carrier.specs.Meaning.{Meaning, take_answer}

-- the caller's bytes are a block that waited, and the bag is as before; or nothing changed
abbrev pub PutBackOwn : Option (Unit {0}) → Block → Block → List Block → List Block → Type 0
PutBackOwn (Some done) bytes bytes' before after = ((rest : List Block) × OneMore bytes' before rest) × SameBag before after
PutBackOwn None bytes bytes' before after = (after ≡ before) × (bytes' ≡ bytes)

pub record PutsBack (station : ℕ) (r : Option (Unit {0})) (bytes bytes' : Block) (before after : Meaning) : Type 0 where
  pub answer : r ≡ take_answer (length (before.bag station))
  pub own : PutBackOwn r bytes bytes' (before.bag station) (after.bag station)
  pub others : (other : ℕ) → (other ≢ station) → after.bag other ≡ before.bag other
  pub limits : (each : ℕ) → after.limit each ≡ before.limit each
