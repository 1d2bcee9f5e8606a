-- From what puts and takes do with a station's list to what it means for its bag.
use Rattle.std.proofs.Common.{◌≡◌, ℕ, suc, ◌+◌, ◌≢◌, List, [], ◌∷◌, ◌++◌, length, take, Some, None, Ok, Err, Option, Result, slice_index_or, arith, sym, ap, subst, ◌∙◌}
use Rattle.std.specs.List.{remove}
use Rattle.std.proofs.lemmas.List.{take_more, take_all, drop_all, append-nil, nil_from_length, with_items_is}
use Rattle.std.proofs.lemmas.Bool.Decides.{nat_tests}
use Rattle.carrier.specs.declared.faults.CarrierFault.{CarrierFault}
use Rattle.places.specs.declared.turns.Turn.{Turn}
use Rattle.places.specs.declared.turns.Turn.TheVariants.{Newest, Oldest}
use Rattle.carrier.specs.Bags.{Block, OneMore, this}
use Rattle.carrier.specs.Meaning.{Meaning, Puts, PutOwn, put_answer, Takes, TakeOwn, take_answer}
use Rattle.places.specs.Shares.{Queued, TakenAt}
use Rattle.places.specs.Turns.{place_of, ByTurn}
use Rattle.carrier.proofs.Bagging.{more_at_end}
use Rattle.places.proofs.Sharing.{room_whole}

-- a put that lists its block as the newest
pub puts_queued : (s : ℕ) (b : Block) (r : Result (Unit {0}) CarrierFault) (before after : Meaning)
    → r ≡ put_answer (length (before.bag s)) (before.limit s) → Queued r b (before.bag s) (after.bag s)
    → ((t : ℕ) → (t ≢ s) → after.bag t ≡ before.bag t) → ((t : ℕ) → after.limit t ≡ before.limit t)
    → Puts s b r before after
puts_queued s b r before after answer queued others limits = record { answer = answer; own = own r queued; others = others; limits = limits }
  where
    own : (q : Result (Unit {0}) CarrierFault) → Queued q b (before.bag s) (after.bag s) → PutOwn q b (before.bag s) (after.bag s)
    own (Ok done) e = subst (λ l. OneMore b l (before.bag s)) (sym e) (more_at_end (before.bag s) b)
    own (Err fault) e = e

-- what puts need
pub ruleset queued = (more_at_end, room_whole, with_items_is)

-- what is taken from the place of a turn is handed over by that turn
taken_by_turn : (turn : Turn) (r : Option (Unit {0})) (at : ℕ) (bytes bytes' : Block) (before after : List Block) → at ≡ place_of turn (length before)
    → TakenAt r at bytes bytes' before after → ByTurn turn r bytes' before after
taken_by_turn Oldest (Some done) at bytes x [] after e d = absurd (omega (arith, d.0))
taken_by_turn Oldest (Some done) at bytes x (y ∷ ys) after e d =
    let is : x ≡ y = d.1 y ∙ ap (λ k. slice_index_or (y ∷ ys) k y) e in
    let rest : after ≡ ys = d.2 ∙ ap (remove (y ∷ ys)) e in
    ap (λ z. z ∷ ys) (sym is) ∙ ap (λ l. x ∷ l) (sym rest)
taken_by_turn Newest (Some done) at bytes x before after e d =
    let last : at + 1 ≡ length before = omega (arith, d.0, e) in
    let split : before ≡ take at before ++ x ∷ []
    = sym (take_all (at + 1) before (omega (arith, last))) ∙ (take_more before at x d.0 ∙ ap (λ z. take at before ++ z ∷ []) (sym (d.1 x))) in
    let left : after ≡ take at before
    = d.2 ∙ (ap (λ l. take at before ++ l) (drop_all (suc at) before (omega (arith, last))) ∙ append-nil (take at before)) in
    split ∙ ap (λ l. l ++ x ∷ []) (sym left)
taken_by_turn Oldest None at bytes x before after e d = let none : before ≡ [] = nil_from_length before (omega (arith, d.0, e)) in (none, d.2 ∙ none)
taken_by_turn Newest None at bytes x before after e d = let none : before ≡ [] = nil_from_length before (omega (arith, d.0, e)) in (none, d.2 ∙ none)

-- so such a take does what a take means
pub takes_by_turn : (turn : Turn) {s : ℕ} (r : Option (Unit {0})) (at : ℕ) {bytes bytes' : Block} {before after : Meaning} → at ≡ place_of turn (length (before.bag s))
    → TakenAt r at bytes bytes' (before.bag s) (after.bag s) → ((t : ℕ) → (t ≢ s) → after.bag t ≡ before.bag t) → ((t : ℕ) → after.limit t ≡ before.limit t)
    → Takes s r bytes bytes' before after × ByTurn turn r bytes' (before.bag s) (after.bag s)
takes_by_turn turn {s} r at {bytes} {bytes'} {before} {after} e d others limits =
    let by = taken_by_turn turn r at bytes bytes' (before.bag s) (after.bag s) e d in
    (record { answer = answer r d turn e; own = own turn r by d; others = others; limits = limits }, by)
  where
    answer : (q : Option (Unit {0})) → TakenAt q at bytes bytes' (before.bag s) (after.bag s) → (t : Turn) → at ≡ place_of t (length (before.bag s)) → q ≡ take_answer (length (before.bag s))
    answer (Some done) h t k = grind (arith, nat_tests)
    answer None h Newest k = grind (arith, nat_tests)
    answer None h Oldest k = grind (arith, nat_tests)

    own : (t : Turn) (q : Option (Unit {0})) → ByTurn t q bytes' (before.bag s) (after.bag s) → TakenAt q at bytes bytes' (before.bag s) (after.bag s) → TakeOwn q bytes bytes' (before.bag s) (after.bag s)
    own Newest (Some done) h k = subst (λ l. OneMore bytes' l (after.bag s)) (sym h) (more_at_end (after.bag s) bytes')
    own Oldest (Some done) h k = subst (λ l. OneMore bytes' l (after.bag s)) (sym h) this
    own Newest None h k = (k.2, k.1)
    own Oldest None h k = (k.2, k.1)
