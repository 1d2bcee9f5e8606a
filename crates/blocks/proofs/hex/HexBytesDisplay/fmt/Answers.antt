use Rattle.std.proofs.Common.{◌≡◌, ℕ, ◌+◌, ◌/◌, ◌%◌, ◌<◌, List, [], ◌∷◌, ◌++◌, length, get_or, take, sym, refl, ap, ◌∙◌, arith}
use lib.Utf8.{encode}
use Rattle.std.specs.List.{flat_map}
use Rattle.std.proofs.Output.{has_written_append, has_written_of_eq}
use Rattle.std.proofs.lemmas.List.{flat_map_more, take_more}
use Rattle.std.proofs.lemmas.Str.Ascii.{encode_ascii}
use Rattle.blocks.specs.Hex.{hex_digit, hex_text}
use Rattle.blocks.proofs.hex.HexBytesDisplay.fmt.Goals as goal

-- two digits as the text that they are
two : (b x y v w : ℕ) → x ≡ v → v ≡ hex_digit (b / 16) → y ≡ w → w ≡ hex_digit (b % 16) → v < 128 → w < 128 → encode x ++ encode y ≡ hex_text b
two b x y v w p p' q q' h k =
    ap (λ (l : List ℕ). l ++ encode y) (encode_ascii x (omega arith)) ∙ ap (λ (l : List ℕ). x ∷ l) (encode_ascii y (omega arith)) ∙ cc

-- the text of a front, with that of the byte after it
more : (xs : List ℕ) (i : ℕ) → i < length xs → flat_map hex_text (take i xs) ++ hex_text (get_or xs i 0) ≡ flat_map hex_text (take (i + 1) xs)
more xs i h = flat_map_more hex_text [] (take i xs) (get_or xs i 0) ∙ ap (flat_map hex_text) (sym (take_more xs i 0 h))

pub loop-byte-preserved : goal.loop-byte-preserved
loop-byte-preserved g c plain =
    let xs = c.args.self.now.0.now in
    let i = c.loop-byte.byte-index in
    let before = c.loop-byte.invariant plain in
    let first = c.in_ok-write_char.ensures.writes before.plain refl in
    let second = c.in_ok-write_char-2.ensures.writes first.plain refl in
    let text =
    two (get_or xs i 0) c.from.result c.from-in-loop-byte.result c.hex_digit.result c.hex_digit-in-loop-byte.result c.from.ensures c.hex_digit.ensures.value
    c.from-in-loop-byte.ensures c.hex_digit-in-loop-byte.ensures.value c.hex_digit.ensures.ascii c.hex_digit-in-loop-byte.ensures.ascii in
    let both = has_written_of_eq _ _ _ _ _ text (has_written_append _ _ _ _ _ _ first second) in
    has_written_of_eq _ _ _ _ _ (more xs i (omega arith)) (has_written_append _ _ _ _ _ _ before both)
