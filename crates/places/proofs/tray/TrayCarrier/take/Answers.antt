use Rattle.std.proofs.Common.{◌≡◌, None, Some, length, refl, arith, rules}
use Rattle.std.proofs.lemmas.List.{with_items_is}
use Rattle.places.specs.Trays.{tray_waits, turn_of}
use Rattle.places.specs.Turns.{place_of}
use Rattle.places.proofs.Carrying.{takes_by_turn}
use Rattle.places.proofs.tray.TrayCarrier.take.Goals as goal

pub returns : goal.returns
returns c =
    let s = c.args.station in
    let old = c.args.self.now in
    let e = rw c.as_mut_slice.ensures.value at c.in_ok-take.ensures in
    let at : c.place-at.result ≡ place_of (turn_of old s) (length (tray_waits old s)) = search rules in
    let now = with_items_is old.memory c.take.new.places (omega arith) in
    let k = takes_by_turn (turn_of old s) (Some tt) c.place-at.result at e.own e.others (λ _. refl) in
    rw now (record { takes = k.0; chosen = k.1; turn = search rules; turns = search rules; memory = refl })

pub returns-in_err-take : goal.returns-in_err-take
returns-in_err-take c =
    let s = c.args.station in
    let old = c.args.self.now in
    let e = rw c.as_mut_slice.ensures.value at c.in_err-take.ensures in
    let at : c.place-at.result ≡ place_of (turn_of old s) (length (tray_waits old s)) = search rules in
    let now = with_items_is old.memory c.take.new.places (omega arith) in
    let k = takes_by_turn (turn_of old s) None c.place-at.result at e.own e.others (λ _. refl) in
    rw (c.from_residual-in_err-take.ensures, now) (record { takes = k.0; chosen = k.1; turn = refl; turns = λ _ _. refl; memory = refl })
