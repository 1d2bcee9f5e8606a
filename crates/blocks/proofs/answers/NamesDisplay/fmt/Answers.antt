use Rattle.std.proofs.Common.{◌≡◌, ℕ, ◌+◌, ◌<◌, [], ◌∷◌, ◌++◌, List, Some, None, Option, length, slice_index_or, sym, ap, ◌∙◌, add-one, append-nil, rules, arith}
use Rattle.std.proofs.lemmas.Bool.{cond-false, ne_eqb}
use Rattle.std.proofs.Output.{has_written_append, has_written_of_eq, has_written_to_eq}
use Rattle.block.specs.Mask.{present}
use Rattle.block.specs.Letters.{said_by}
use Rattle.block.specs.Text.{name_text}
use Rattle.block.specs.Pairs.{of_pair}
use Rattle.blocks.specs.Words.{by_some}
use Rattle.blocks.specs.Listing.{names_below, names_text}
use Rattle.blocks.proofs.answers.NamesDisplay.fmt.Goals as goal
use Rattle.blocks.proofs.answers.NamesDisplay.fmt.Goals.{in-Some+in_ok-write, in_default}

-- the names so far, with that of one more pair, where it has the number that `slot` holds
more : (named : List (Option ℕ)) (n : ℕ) (slot : Option ℕ) → slot ≡ slice_index_or named n None
    → names_below named n ++ by_some slot [] (λ y. 32 ∷ name_text (of_pair n y)) ≡ names_below named (n + 1)
unfolding names_below
more named n slot e =
    ap (λ (o : Option ℕ). names_below named n ++ by_some o [] (λ y. 32 ∷ name_text (of_pair n y))) e ∙ ap (names_below named) (sym (add-one n))

-- where there are names, those of all pairs are the whole text
whole : (named : List (Option ℕ)) (count pair : ℕ) → count ≡ length (present named) → 0 < count → pair ≡ 64 → names_below named pair ≡ names_text named
whole named count pair counted some last =
    ap (names_below named) last ∙ sym (cond-false _ _ _ (ne_eqb (length (present named)) 0 (λ none. omega (arith, counted))))

pub loop-pair-init : goal.loop-pair-init
unfolding names_below
loop-pair-init g c = search rules

pub loop-pair-preserved : goal.loop-pair-preserved
loop-pair-preserved g c plain =
    let named = (said_by c.args.self.now.0.now).named in
    let before = c.loop-pair.invariant plain in
    elim c.match-named.branch [
      | in-Some+in_ok-write w ↦
          has_written_to_eq _ _ _ _ _ w.f-is (has_written_of_eq _ _ _ _ _ (more named c.loop-pair.pair (Some w.in-Some.number) w.in-Some.ensures) (has_written_append _ _ _ _ _ _ before (search rules)))
      | in_default w ↦
          has_written_to_eq _ _ _ _ _ w.f-is (has_written_of_eq _ _ _ _ _ (sym (append-nil _) ∙ more named c.loop-pair.pair None w.in_default.ensures) before)
    ]

pub returns-clause-writes : goal.returns-clause-writes
returns-clause-writes g c plain ok =
    let named = (said_by c.args.self.now.0.now).named in
    has_written_of_eq _ _ _ _ _ (whole named c.names.result c.loop-pair.pair c.names.ensures (omega arith) (omega arith)) (c.loop-pair.invariant plain)
