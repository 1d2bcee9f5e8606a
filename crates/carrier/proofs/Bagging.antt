-- One copy more in a bag: a block at its end, its length, and its count, whatever is counted; and what puts and takes make of
-- the room and the count.
use Rattle.std.proofs.Common.{◌≡◌, ℕ, suc, ◌+◌, ◌-◌, ◌<◌, Bool, if◌then◌else◌, List, [], ◌∷◌, ◌++◌, length, Some, None, Ok, count_by, Result, sym, refl, ap, ◌∙◌, arith}
use Rattle.std.proofs.lemmas.Bool.{ne_eqb, cond-false}
use Rattle.std.proofs.lemmas.Bool.Decides.{nat_tests}
use Rattle.std.proofs.lemmas.List.{nil_from_length}
use Rattle.std.proofs.lemmas.List.Sums.{sum_by-cons}
use Rattle.carrier.specs.declared.faults.CarrierFault.{CarrierFault}
use Rattle.carrier.specs.Bags.{Block, OneMore, this, later, SameBag}
use Rattle.carrier.specs.Meaning.{Meaning, Lawful, Puts, PutOwn, Takes, take_answer}
use Rattle.carrier.specs.PutBack.{PutsBack}

-- a block at the end is one more
pub more_at_end : {X : Type 0} (xs : List X) (x : X) → OneMore x (xs ++ x ∷ []) xs
more_at_end [] x = this
more_at_end (y ∷ xs) x = later (more_at_end xs x)

pub more_length : {X : Type 0} {x : X} {xs ys : List X} → OneMore x xs ys → length xs ≡ suc (length ys)
more_length this = refl
more_length (later m) = ap suc (more_length m)

pub more_counts : {X : Type 0} (test : X → Bool) {x : X} {xs ys : List X} → OneMore x xs ys → count_by test xs ≡ (if test x then 1 else 0) + count_by test ys
more_counts test this = simp sum_by-cons
more_counts test (later m) = simp sum_by-cons (omega (arith, more_counts test m))

-- two bags with one more copy of a block than a third are the same bag
pub same_more : {X : Type 0} {x : X} {xs ys rest : List X} → OneMore x xs rest → OneMore x ys rest → SameBag xs ys
same_more m n test = more_counts test m ∙ sym (more_counts test n)

-- after a take the station has room again
pub room_again : {s : ℕ} {bytes bytes' b : Block} {before middle after : Meaning} {r : Result (Unit {0}) CarrierFault}
    → Lawful s before → Takes s (Some tt) bytes bytes' before middle → Puts s b r middle after → r ≡ Ok tt
room_again {s} {middle = middle} lawful t p =
    p.answer ∙ cond-false _ _ _ (ne_eqb (length (middle.bag s)) (middle.limit s) (λ q. omega (arith, lawful.within, more_length t.own, t.limits s)))

-- a take and the put of its block
pub puts_back_so : {s : ℕ} {bytes bytes' : Block} {before middle after : Meaning} {r : Result (Unit {0}) CarrierFault}
    → Takes s (Some tt) bytes bytes' before middle → Puts s bytes' r middle after → r ≡ Ok tt → PutsBack s (Some tt) bytes bytes' before after
puts_back_so {s} {bytes' = bytes'} {middle = middle} {after = after} t p ok = record {
  answer = t.answer;
  own = ((middle.bag s, t.own), same_more t.own (put_own _ ok p.own));
  others = λ o ne. p.others o ne ∙ t.others o ne;
  limits = λ o. p.limits o ∙ t.limits o;
}
  where
    put_own : (q : Result (Unit {0}) CarrierFault) → q ≡ Ok tt → PutOwn q bytes' (middle.bag s) (after.bag s) → OneMore bytes' (after.bag s) (middle.bag s)
    put_own q e h = rw e at h

-- an accepted put leaves less room
pub room_falls : {s : ℕ} {b : Block} {before after : Meaning}
    → Lawful s after → Puts s b (Ok tt) before after → after.limit s - length (after.bag s) < before.limit s - length (before.bag s)
room_falls {s} lawful p = omega (arith, lawful.within, more_length p.own, p.limits s)

-- a take that gives a block leaves fewer
pub count_falls : {s : ℕ} {bytes bytes' : Block} {before after : Meaning}
    → Takes s (Some tt) bytes bytes' before after → length (after.bag s) < length (before.bag s)
count_falls t = omega (arith, more_length t.own)

-- a take that gives none leaves none
pub none_left : {s : ℕ} {bytes bytes' : Block} {before after : Meaning} → Takes s None bytes bytes' before after → after.bag s ≡ []
none_left {s} {before = before} t = t.own.0 ∙ nil_from_length (before.bag s) (counted (length (before.bag s)) t.answer)
  where
    counted : (n : ℕ) → None ≡ take_answer n → n ≡ 0
    counted n e = grind (arith, nat_tests)
