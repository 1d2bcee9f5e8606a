use Rattle.std.proofs.Common.{◌≡◌, ℕ, ◌≢◌, refl, subst}
use Rattle.places.specs.declared.shares.Shares.{Shares}
use Rattle.places.specs.declared.turns.Turn.TheVariants.{Oldest}
use Rattle.places.specs.Reels.{reel_means}
use Rattle.places.specs.Shares.{held, TakenAt}
use Rattle.places.proofs.Carrying.{takes_by_turn}
use Rattle.places.proofs.reel.ReelCarrier.take.Goals as goal

pub returns : goal.returns
returns c =
    let reel = c.args.self.now in
    let same = c.each_is.ensures in
    let s = c.args.station in
    let own = subst (λ (shares : Shares). TakenAt c.take.result 0 c.args.into.now c.take.new.into (held shares reel.places s) (held c.take.new.self c.take.new.places s)) same c.take.ensures.own in
    let others = subst (λ (shares : Shares). (t : ℕ) → (t ≢ s) → held c.take.new.self c.take.new.places t ≡ held shares reel.places t) same c.take.ensures.others in
    let k = takes_by_turn Oldest c.take.result 0 {before = reel_means reel} refl own others (λ _. refl) in
    record { takes = k.0; oldest = k.1 }
