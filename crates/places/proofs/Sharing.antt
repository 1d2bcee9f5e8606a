-- What a write to the share of one station leaves of every station's records.
use Rattle.std.proofs.Common.{◌≡◌, ℕ, ◌+◌, ◌-◌, ◌*◌, ◌<◌, ◌≤◌, ◌≢◌, min, nat_lt, cond, List, [], length, get_or, take, drop, set, Option, Some, None, refl, sym, ap, ◌∙◌, ⊎_elim, mul-le-mul_left, mul-suc, length-append, arith}
use borrow.Rule.Slice.PartMut.{put_mid}
use Rattle.std.specs.List.{between, remove}
use Rattle.std.proofs.lemmas.List.{drop-take, take_min, drop_min, length-take, length-drop, get_or-set_same, get_or-set_other}
use Rattle.std.proofs.lemmas.Slice.{drop-put_mid, take-put_mid_below, between-put_mid}
use Rattle.std.proofs.lemmas.Bool.Decides.{nat_tests}
use Rattle.std.proofs.lemmas.Bool.{cases_order}
use Rattle.run.specs.declared.Run.{Run}
use Rattle.run.specs.Records.{empty_run, records, Removing}
use Rattle.places.specs.Shares.{share, room}

-- the records of a station, where each has so many places and the runs are these
abbrev held_in : {X : Type 0} → ℕ → List Run → List X → ℕ → List X
held_in each runs places s = cond (nat_lt s 8) (records (get_or runs s empty_run) (share each places s)) []

-- a record that is there is removed
pub record_removed : {X : Type 0} (o : Option X) (at : ℕ) (run run' : Run) (places places' : List X) → at < length (records run places) → Removing o at run run' places places'
    → records run' places' ≡ remove (records run places) at
record_removed (Some x) at run run' places places' h e = e.now_held
record_removed None at run run' places places' h e = absurd (omega (arith, h, e.past))

-- where the places are enough for eight shares, each share is whole
pub room_whole : {X : Type 0} (each limit : ℕ) (places : List X) (s : ℕ) → each ≡ limit → each * 8 ≤ length places → room (length (share each places s)) s ≡ room limit s
room_whole each limit places s same enough = grind (arith, nat_tests, length-take, length-drop, eight)
  where
    eight : (n : ℕ) → n < 8 → each * n + each ≤ each * 8
    eight n h = omega (arith, mul-le-mul_left each h, mul-suc each n)

-- the share of s runs from a to e
module _ {X : Type 0} (each : ℕ) (places : List X) (s a e : ℕ) (from : a ≡ min (each * s) (length places)) (to : e ≡ min (each * s + each) (length places)) where
  share_is : (xs : List X) → length xs ≡ length places → share each xs s ≡ between a e xs
  share_is xs l =
      let begin : drop (each * s) xs ≡ drop a xs = sym (drop_min (each * s) xs) ∙ ap (λ k. drop k xs) (omega arith) in
      let wide : min each (length (drop a xs)) ≡ e - a = simp length-drop (omega arith) in
      ap (take each) begin ∙ (sym (take_min each (drop a xs)) ∙ ap (λ k. take k (drop a xs)) wide)

  -- the records of s are those of its run over the part that is lent
  pub held_is : (runs : List Run) (i : ℕ) → s < 8 → i ≡ s → held_in each runs places s ≡ records (get_or runs i empty_run) (between a e places)
  held_is runs i h is = let k = share_is places refl in grind (arith, nat_tests)

  -- the part holds ys now
  module _ (ys : List X) (long : length ys ≡ e - a) where
    abbrev now : List X
    now = put_mid a (e - a) places ys

    as_long : length now ≡ length places
    as_long = simp (length-append, length-take, length-drop) (omega arith)

    -- those of the run that was put back, over what the share holds now
    pub own_now : (runs : List Run) (run' : Run) (i : ℕ) → s < 8 → i ≡ s → i < length runs → held_in each (set runs i run') (put_mid a (e - a) places ys) s ≡ records run' ys
    own_now runs run' i h is known = let k = share_is now as_long ∙ between-put_mid a (e - a) places ys e (omega arith) long in grind (arith, nat_tests, get_or-set_same)

    -- the other stations' records are as they were
    module _ (t : ℕ) (ne : t ≢ s) where
      share_kept : share each now t ≡ share each places t
      share_kept = ⊎_elim (λ q. absurd (ne q)) (⊎_elim (λ q. early (omega (arith, mul-le-mul_left each q, mul-suc each t))) (λ q. late (omega (arith, mul-le-mul_left each q, mul-suc each s)))) (cases_order t s)
        where
          early : each * t + each ≤ each * s → share each now t ≡ share each places t
          early h =
              let n = min (each * t + each) (length places) in
              let cut : take (each * t + each) now ≡ take (each * t + each) places
              = sym (take_min (each * t + each) now) ∙ (ap (λ l. take (min (each * t + each) l) now) as_long
              ∙ (take-put_mid_below a (e - a) places ys n (omega arith) (omega arith) ∙ take_min (each * t + each) places)) in
              sym (drop-take (each * t) each now) ∙ (ap (drop (each * t)) cut ∙ drop-take (each * t) each places)

          late : each * s + each ≤ each * t → share each now t ≡ share each places t
          late h = ap (take each) (drop-put_mid a (e - a) places ys (each * t) (omega arith) (omega arith) long)

      pub others_kept : (runs : List Run) (run' : Run) (i : ℕ) → i ≡ s → held_in each (set runs i run') (put_mid a (e - a) places ys) t ≡ held_in each runs places t
      others_kept runs run' i is = let k = share_kept in let r = get_or-set_other runs i t run' empty_run (λ q. ne (q ∙ is)) in grind (arith, nat_tests)

-- what adds and takes need
pub ruleset shared = (record_removed, held_is, own_now, others_kept)
