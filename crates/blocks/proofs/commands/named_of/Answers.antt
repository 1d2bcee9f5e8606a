use Rattle.std.proofs.Common.{◌≡◌, ℕ, suc, List, length, get_or, set, Some, None, Option, sym, refl, ap, ◌∙◌, subst, arith, rules}
use Rattle.block.specs.declared.names.Name.{Name}
use Rattle.blocks.specs.Words.{word_of, after_word}
use Rattle.block.specs.Pairs.{pair_of}
use Rattle.blocks.specs.Commands.{name_in, Entered, AllNamed}
use Rattle.blocks.proofs.commands.named_of.Goals as goal

-- no word is left
done : (text : List ℕ) (named : List (Option ℕ)) → length (word_of text) ≡ 0 → Entered 0 text named named
unfolding Entered
done text named e = (e, refl)

-- one more word, before the others
step : (n : ℕ) (text rest : List ℕ) (named next all : List (Option ℕ)) (name : Name) → name_in (word_of text) ≡ Some name → get_or named (pair_of name) None ≡ None
    → rest ≡ after_word text → next ≡ set named (pair_of name) (Some name.number) → Entered n rest next all → Entered (suc n) text named all
unfolding Entered
step n text rest named next all name p q e f h =
    (name, p, q, subst (λ (t : List ℕ). Entered n t (set named (pair_of name) (Some name.number)) all) e (subst (λ (d : List (Option ℕ)). Entered n rest d all) f h))

pub loop-word-preserved : goal.loop-word-preserved
loop-word-preserved c n all e =
    let text = c.loop-word.word-iterator in
    let name = c.in_ok-name.name in
    let named : name_in (word_of text) ≡ Some name = sym (ap name_in c.in-Some.ensures.steps.0) ∙ sym c.name_of.ensures.value ∙ grind arith in
    let free : get_or c.loop-word.named (pair_of name) None ≡ None = search rules in
    c.loop-word.invariant (suc n) all (step n text c.next.new.self c.loop-word.named c.put_name.new.named all name named free c.in-Some.ensures.steps.1 c.in_ok-put_name.ensures.entered e)

pub returns : goal.returns
returns c =
    let named = c.loop-word.named in
    subst (λ (text : List ℕ). AllNamed text named) c.into_iter-word-iterator.ensures.into_iter_gives
    (c.loop-word.invariant 0 named (done c.loop-word.word-iterator named c.in-None.ensures.steps.0))
