-- One step of each recursion of specs/ over what is left of a text from place i, and its end.
use Rattle.std.proofs.Common.{◌≡◌, ℕ, ◌+◌, ◌*◌, ◌<◌, ◌≤◌, Bool, cond, List, length, get_or, drop, Some, None, Ok, Err, Option}
use Rattle.std.proofs.lemmas.List.{at_drop_more, at_drop_all}
use Rattle.blocks.specs.declared.commands.Misread.TheVariants.{BadDigit, OddDigits}
use Rattle.blocks.specs.Words.{blank, ends_word, quoted_after, word_length, with_digit, by_some, digits_value}
use Rattle.blocks.specs.Hex.{hex_value, pushed, hex_bytes}

module _ (xs : List ℕ) (i : ℕ) where
  -- the byte at i, and what is left after it
  abbrev here : ℕ
  here = get_or xs i 0

  abbrev after : List ℕ
  after = drop (i + 1) xs

  pub word_here : (q : Bool) → i < length xs → word_length (drop i xs) q ≡ cond (ends_word here q) 0 (1 + word_length after (quoted_after here q))
  unfolding word_length
  word_here q h = at_drop_more (λ (l : List ℕ). word_length l q) xs i 0 h

  pub word_end : (q : Bool) → length xs ≤ i → word_length (drop i xs) q ≡ 0
  unfolding word_length
  word_end q h = at_drop_all (λ (l : List ℕ). word_length l q) xs i h

  pub digits_here : (v : ℕ) → i < length xs → digits_value (drop i xs) v ≡ by_some (with_digit v here) None (λ more. digits_value after more)
  unfolding digits_value
  digits_here v h = at_drop_more (λ (l : List ℕ). digits_value l v) xs i 0 h

  pub digits_end : (v : ℕ) → length xs ≤ i → digits_value (drop i xs) v ≡ Some v
  unfolding digits_value
  digits_end v h = at_drop_all (λ (l : List ℕ). digits_value l v) xs i h

  pub hex_here : (bytes : List ℕ) (high : Option ℕ) → i < length xs → hex_bytes (drop i xs) bytes high ≡ cond (blank here) (hex_bytes after bytes high)
      (by_some (hex_value here) (Err BadDigit) (λ d. by_some high (hex_bytes after bytes (Some d)) (λ h. hex_bytes after (pushed bytes (16 * h + d)) None)))
  unfolding hex_bytes
  hex_here bytes high h = at_drop_more (λ (l : List ℕ). hex_bytes l bytes high) xs i 0 h

  pub hex_end : (bytes : List ℕ) (high : Option ℕ) → length xs ≤ i → hex_bytes (drop i xs) bytes high ≡ by_some high (Ok bytes) (λ _. Err OddDigits)
  unfolding hex_bytes
  hex_end bytes high h = at_drop_all (λ (l : List ℕ). hex_bytes l bytes high) xs i h
