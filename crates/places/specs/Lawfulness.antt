-- Why reel and tray are lawful carriers: the proofs that their laws cite.
--   lawful_held  where each station has from 1 to 1,000 places, limits and bags are as a carrier's have to be
--   reel_lawful  so they are with 4 places for each station
--   tray_lawful  and with an eighth of the blocks, at most 64
use Rattle.std.specs.Prelude.{◌≡◌, ℕ, List}
use Rattle.std.proofs.Common.{arith}
use Rattle.std.proofs.lemmas.List.{length-take}
use Rattle.std.proofs.lemmas.Bool.Decides.{nat_tests}
use Rattle.carrier.specs.Bags.{Block}
use Rattle.carrier.specs.Meaning.{Lawful}
use Rattle.places.specs.Shares.{eighth, held, room}
use Rattle.places.specs.declared.shares.Shares.{Shares}

pub lawful_held : (shares : Shares) (places : List Block) (limit : ℕ) → shares.each ≡ limit → (s : ℕ)
    → Lawful s (record { bag = held shares places; limit = room limit })
lawful_held shares places limit e s = record {
  low = λ h. grind (arith, nat_tests);
  high = grind (arith, nat_tests);
  above = λ h. grind (arith, nat_tests);
  within = grind (arith, nat_tests, length-take);
}

pub reel_lawful : (shares : Shares) → shares.each ≡ 4 → (places : List Block) (s : ℕ) → Lawful s (record { bag = held shares places; limit = room 4 })
reel_lawful shares four places s = lawful_held shares places 4 four s

pub tray_lawful : (blocks : ℕ) (shares : Shares) → shares.each ≡ eighth blocks → (places : List Block) (s : ℕ)
    → Lawful s (record { bag = held shares places; limit = room (eighth blocks) })
tray_lawful blocks shares each places s = lawful_held shares places (eighth blocks) each s
