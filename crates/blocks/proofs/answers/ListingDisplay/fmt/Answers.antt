use Rattle.std.proofs.Common.{◌≡◌, ℕ, ◌++◌, List, codes, decimal, refl, append_assoc}
use Rattle.std.proofs.Output.{has_written_append, has_written_of_eq}
use Rattle.block.specs.declared.names.Name.{Name}
use Rattle.block.specs.Mask.{mask_of}
use Rattle.block.specs.Sum.{weighted}
use Rattle.block.specs.Letters.{said_by}
use Rattle.block.specs.Parts.{Parts}
use Rattle.block.specs.Writing.{front}
use Rattle.block.specs.Text.{name_text}
use Rattle.blocks.specs.Listing.{names_text, body_text, letter_text}
use Rattle.blocks.proofs.answers.ListingDisplay.fmt.Goals as goal

joined : (a b c d e f g h i j : List ℕ) → ((a ++ (b ++ (c ++ d))) ++ (e ++ (f ++ (g ++ h)))) ++ (i ++ j)
    ≡ a ++ (b ++ (c ++ (d ++ (e ++ (f ++ (g ++ (h ++ (i ++ j))))))))
joined a b c d e f g h i j = simp append_assoc

-- the three pieces, one after the other
pieces : (p : Parts) (name : Name) (mask check : ℕ) (body : List ℕ)
    → name ≡ p.name → mask ≡ mask_of p.named 64 → check ≡ weighted (front p) 508 → body ≡ p.body
    → ((codes "letter " ++ (name_text name ++ (codes " names" ++ names_text p.named)))
    ++ (codes " mask " ++ (decimal mask ++ (codes " check " ++ decimal check))))
    ++ (codes " body " ++ body_text body)
    ≡ letter_text p
pieces p name mask check body n m k b =
    rw (n, m, k, b)
    (joined (codes "letter ") (name_text p.name) (codes " names") (names_text p.named) (codes " mask ") (decimal (mask_of p.named 64))
    (codes " check ") (decimal (weighted (front p) 508)) (codes " body ") (body_text p.body))

pub returns-clause-writes : goal.returns-clause-writes
returns-clause-writes g c plain ok =
    let first = c.in_ok-write.ensures.writes plain refl in
    let second = c.in_ok-write-2.ensures.writes first.plain refl in
    let third = c.write-3.ensures.writes second.plain ok in
    has_written_of_eq _ _ _ _ _
    (pieces (said_by c.args.self.now.0.now) c.name.result c.mask.result c.check.result c.body.result.now c.name.ensures c.mask.ensures c.check.ensures c.body.ensures.body)
    (has_written_append _ _ _ _ _ _ (has_written_append _ _ _ _ _ _ first second) third)
