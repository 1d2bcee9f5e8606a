use Rattle.std.proofs.Common.{◌≡◌, suc, ◌+◌, ◌-◌, ◌<◌, ◌≤◌, length, take, drop, min, sym, ap, ◌∙◌, add-one, arith}
use lib.Seq.{paste}
use Rattle.std.specs.List.{remove}
use Rattle.std.proofs.lemmas.List.{length-take, length-drop, take_min, take-take, drop-take}
use Rattle.std.proofs.lemmas.List.Edits.{take-paste, drop-paste}
use Rattle.run.specs.Records.{records}
use Rattle.run.proofs.Run.remove.Goals as goal

-- the n records after the one at the place were copied down by one
pub returns : goal.returns
returns g c =
    let xs = c.args.places.now in
    let found = c.in_ok-record.ensures in
    let ys = c.copy_within.new.self in
    let at = c.args.at in
    let count = c.length-count.result in
    let last = c.length-count.result - 1 in
    let tail = drop (c.args.at + 1) c.args.places.now in
    let n = c.length-count.result - (c.args.at + 1) in
    let copied : ys ≡ paste xs at tail n = c.copy_within.ensures.after in
    let counted : count ≡ min c.args.self.now.len (length xs) = c.length-count.ensures.value ∙ length-take _ xs in
    let held : take count xs ≡ records c.args.self.now xs = ap (λ k. take k xs) counted ∙ take_min c.args.self.now.len xs in
    let inside : at < count = simp c.length-count.ensures.value found.0 in
    let place : last ≡ at + n = omega (arith, inside) in
    let whole : at + 1 + n ≡ count = omega (arith, inside) in
    let fits : n ≤ length tail = simp length-drop (omega arith) in
    let early : take at xs ≡ take at (take count xs) = sym (take-take at count xs (omega arith)) in
    let late : take n tail ≡ drop (suc at) (take count xs)
    = sym (drop-take (at + 1) n xs) ∙ (ap (λ k. drop (at + 1) (take k xs)) whole ∙ ap (λ k. drop k (take count xs)) (add-one at)) in
    let left : take last ys ≡ remove (records c.args.self.now xs) at
    = rw (copied, place, take-paste xs at tail n (omega arith) fits, late, early) (ap (λ l. remove l at) held) in
    record {
      inside = found.0;
      was_there = found.1;
      now_held = left;
      rest = rw (copied, place) (drop-paste xs at tail n (omega arith) fits);
      counted = omega arith;
    }
